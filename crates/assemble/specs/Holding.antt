-- Items kept (Kept.antt) that a memory's builder holds; the private functions work on them instead of the builder.
use Rattle.std.specs.Prelude.{ℕ, ◌≤◌, ◌≡◌, List, map, length, take}
use Rattle.errors.specs.Told.{Handed}
use Rattle.snippet.specs.Snippet.{snippet_bytes}
use Rattle.sequence.specs.Sequence.{sequence_bytes}
use Rattle.calls.specs.Said.{Call}
use Rattle.calls.specs.declared.Builders.{Builders}
use Rattle.memory.specs.declared.WaveformMemoryBuilder.{WaveformMemoryBuilder}
use Rattle.pool.specs.declared.Pool.{Pool}
use Rattle.pool.specs.declared.Kept.{Kept}
use Rattle.assemble.specs.Flat.{State, state, flat_called}
use Rattle.pool.specs.Kept.{kept}

-- the pool p keeps the first n items of an array
pub record Keeps {A : Type 0} (most : ℕ) (bytes : A → List ℕ) (array : List A) (n : ℕ) (p : Pool most) : Type 0 where
  pub long : length array ≡ most
  pub room : n ≤ most
  pub same : p ≡ kept most (map bytes (take n array))

abbrev pub KeepsSnippets : WaveformMemoryBuilder → Pool 15 → Type 0
KeepsSnippets m p = Keeps 15 snippet_bytes m.snippets m.num_snippets p

abbrev pub KeepsSequences : WaveformMemoryBuilder → Pool 16 → Type 0
KeepsSequences m p = Keeps 16 sequence_bytes m.sequences m.num_sequences p

abbrev pub KeepsMemory : WaveformMemoryBuilder → Kept → Type 0
KeepsMemory m k = KeepsSnippets m k.snippets × KeepsSequences m k.sequences

-- a step of the builder, told by its number n, with the pool before and after it
abbrev pub StepsSnippets : (WaveformMemoryBuilder → Handed WaveformMemoryBuilder) → Pool 15 → ℕ → Pool 15 → Type 0
StepsSnippets step p n p' = (m : WaveformMemoryBuilder) → KeepsSnippets m p → (n ≡ (step m).number) × KeepsSnippets (step m).builder p'

abbrev pub StepsSequences : (WaveformMemoryBuilder → Handed WaveformMemoryBuilder) → Pool 16 → ℕ → Pool 16 → Type 0
StepsSequences step p n p' = (m : WaveformMemoryBuilder) → KeepsSequences m p → (n ≡ (step m).number) × KeepsSequences (step m).builder p'

-- the three builders with the number of a call
abbrev pub shown_by : Handed State → Handed Builders
shown_by r = record { number = r.number; builder = r.builder.builders }

-- a call on all four, told by its number and the three builders after it
abbrev pub StepsMemory : Builders → Call → Kept → Handed Builders → Kept → Type 0
StepsMemory b call k told k' =
    (m : WaveformMemoryBuilder) → KeepsMemory m k
    → (told ≡ shown_by (flat_called (state b m) call)) × KeepsMemory (flat_called (state b m) call).builder.memory k'
