-- The waveform memory and its builder: document 01, 'The hundred bytes' and 'Who can cause which answer'.
-- A count can be any byte: fifteen snippets and sixteen sequences at most are shown, and a builder with as many or more is full.
use Rattle.std.specs.Prelude.{ℕ, ◌+◌, Bool, cond, List, map, ltb, leb, length, take, set, replicate}
use Rattle.errors.specs.Told.{Handed, accepted, refused, Built, built}
use Rattle.snippet.specs.declared.Snippet.{Snippet}
use Rattle.snippet.specs.Snippet.{no_snippet, snippet_bytes}
use Rattle.sequence.specs.declared.Sequence.{Sequence}
use Rattle.sequence.specs.Sequence.{no_sequence, sequence_bytes}
use Rattle.memory.specs.declared.WaveformMemory.{WaveformMemory}
use Rattle.memory.specs.declared.WaveformMemoryBuilder.{WaveformMemoryBuilder}
use Rattle.memory.specs.Image.{image_size, image_bytes}

-- ---- what a builder holds

-- the bytes of each snippet
abbrev pub snippet_items : WaveformMemoryBuilder → List (List ℕ)
snippet_items b = map snippet_bytes (take b.num_snippets b.snippets)

-- the bytes of each sequence
abbrev pub sequence_items : WaveformMemoryBuilder → List (List ℕ)
sequence_items b = map sequence_bytes (take b.num_sequences b.sequences)

-- ---- its calls

-- a builder of its arrays, their counts and the flag
abbrev pub memory_with : List Snippet → List Sequence → ℕ → ℕ → Bool → WaveformMemoryBuilder
memory_with ss qs s q a = record { snippets = ss; sequences = qs; num_snippets = s; num_sequences = q; acceleration_enabled = a }

-- a builder that holds nothing
abbrev pub new_memory : Bool → WaveformMemoryBuilder
new_memory acceleration = memory_with (replicate 15 no_snippet) (replicate 16 no_sequence) 0 0 acceleration

-- a snippet appended, or 6 for a 16th
abbrev pub with_snippet : WaveformMemoryBuilder → Snippet → Handed WaveformMemoryBuilder
with_snippet b s =
    cond (leb 15 b.num_snippets) (refused 6 b) (accepted (
    memory_with (set b.snippets b.num_snippets s) b.sequences (b.num_snippets + 1) b.num_sequences b.acceleration_enabled))

-- a sequence appended, or 7 for a 17th
abbrev pub with_sequence : WaveformMemoryBuilder → Sequence → Handed WaveformMemoryBuilder
with_sequence b s =
    cond (leb 16 b.num_sequences) (refused 7 b) (accepted (
    memory_with b.snippets (set b.sequences b.num_sequences s) b.num_snippets (b.num_sequences + 1) b.acceleration_enabled))

-- ---- building

-- a memory of its bytes, their number and the counts
abbrev pub memory : List ℕ → ℕ → ℕ → ℕ → WaveformMemory
memory bytes n snippets sequences = record { «data» = bytes; len = n; num_snippets = snippets; num_sequences = sequences }

-- what stands in the answer where no image was built
abbrev pub no_memory : WaveformMemory
no_memory = memory (replicate 100 0) 0 0 0

-- the image of the items, of which the first len bytes are its own
abbrev pub memory_of : List (List ℕ) → List (List ℕ) → WaveformMemory
memory_of snippets sequences = memory (image_bytes snippets sequences) (image_size snippets sequences) (length snippets) (length sequences)

-- "`build` tests no snippets, no sequences, then the size 2 + s + q + data ≤ 100": 9, 10, 8
abbrev pub image_number : List (List ℕ) → List (List ℕ) → ℕ
image_number snippets sequences =
    cond (ltb (length snippets) 1) 9 (cond (ltb (length sequences) 1) 10 (cond (ltb 100 (image_size snippets sequences)) 8 0))

-- the image of what the builder holds, or the refusal
unfoldable pub built_memory : WaveformMemoryBuilder → Built WaveformMemory WaveformMemoryBuilder
built_memory b =
    let n = image_number (snippet_items b) (sequence_items b) in
    built n (cond (ltb 0 n) no_memory (memory_of (snippet_items b) (sequence_items b))) b

-- ---- an image that was stored

-- `from_bytes`: the four values, or 8 for a length above 100
abbrev pub loaded : List ℕ → ℕ → ℕ → ℕ → Handed WaveformMemory
loaded bytes n snippets sequences = cond (ltb 100 n) (refused 8 no_memory) (accepted (memory bytes n snippets sequences))
