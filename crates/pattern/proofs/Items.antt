-- Names that the proofs speak of: the parts of a call on a sequence or a memory, and what a memory holds as one list of items.
-- Assumes nothing.
use Prim.Native.Nat.{ℕ}
use mathlib.Core.Path.{◌≡◌, refl, sym, ap}
use mathlib.Core.Bool.{Bool, true, false, cond}
use mathlib.Core.List.{List, [], ◌∷◌}
use lib.Dec.{ltb}
use Rattle.laws.specs.Lists.{joined}
use Rattle.errors.specs.Told.{Told, on_told, Handed, refused, Built}
use Rattle.snippet.specs.declared.Snippet.{Snippet}
use Rattle.snippet.specs.declared.SnippetBuilder.{SnippetBuilder}
use Rattle.frame.specs.declared.FrameBuilder.{FrameBuilder}
use Rattle.frame.specs.Frame.{built_frame}
use Rattle.sequence.specs.declared.Sequence.{Sequence}
use Rattle.sequence.specs.declared.SequenceBuilder.{SequenceBuilder}
use Rattle.sequence.specs.Sequence.{with_frame}
use Rattle.memory.specs.declared.WaveformMemoryBuilder.{WaveformMemoryBuilder}
use Rattle.memory.specs.Memory.{new_memory, with_snippet, with_sequence}
use Rattle.content.specs.Content.{Point, Content}
use Rattle.pattern.specs.Calls.{ran, held, FrameCall, frame_step, points_from, frames_from, with_built, MemoryCall, add_snippet, add_sequence, memory_step, added_snippets, added_sequences, content_from}

abbrev pub frame_ran : FrameBuilder → List FrameCall → FrameBuilder
frame_ran b ks = ran frame_step b ks

abbrev pub answer_on : Told FrameBuilder → List FrameCall → FrameCall → ℕ
answer_on t ks k = on_told t (λ f. (frame_step (frame_ran f ks) k).number) (λ n. n)

abbrev pub with_made_frame : SequenceBuilder → List FrameCall → Told FrameBuilder → Handed SequenceBuilder
with_made_frame b ks t = on_told t (λ f. with_frame b (built_frame (frame_ran f ks))) (λ n. refused n b)

abbrev pub with_built_snippet : WaveformMemoryBuilder → Built Snippet SnippetBuilder → Handed WaveformMemoryBuilder
with_built_snippet b r = with_built with_snippet b r

abbrev pub with_built_sequence : WaveformMemoryBuilder → Built Sequence SequenceBuilder → Handed WaveformMemoryBuilder
with_built_sequence b r = with_built with_sequence b r

pub data Item : Type 0 where
  points : List Point → Item
  frames : List FrameBuilder → Item

abbrev pub added_item : MemoryCall → Item
added_item (add_snippet ks) = points (points_from ks)
added_item (add_sequence ms) = frames (frames_from ms)

abbrev pub snippets_of : List Item → List (List Point)
snippets_of [] = []
snippets_of (points ps ∷ is) = ps ∷ snippets_of is
snippets_of (frames fs ∷ is) = snippets_of is

abbrev pub sequences_of : List Item → List (List FrameBuilder)
sequences_of [] = []
sequences_of (points ps ∷ is) = sequences_of is
sequences_of (frames fs ∷ is) = fs ∷ sequences_of is

abbrev pub content_of : List Item → Content
content_of is = record { snippets = snippets_of is; sequences = sequences_of is }

-- ---- the content is that of the items

pub snippets_held : (ks : List MemoryCall) (b : WaveformMemoryBuilder) → joined (held memory_step added_snippets b ks) ≡ snippets_of (held memory_step added_item b ks)
snippets_held [] b = refl
snippets_held (k ∷ ks) b = go k (ltb 0 (memory_step b k).number) _ _ (snippets_held ks (memory_step b k).builder) where
  go : (j : MemoryCall) (t : Bool) (x : List (List (List Point))) (y : List Item) → joined x ≡ snippets_of y
      → joined (cond t x (added_snippets j ∷ x)) ≡ snippets_of (cond t y (added_item j ∷ y))
  go j true x y e = e
  go (add_snippet js) false x y e = ap (λ (l : List (List Point)). points_from js ∷ l) e
  go (add_sequence ms) false x y e = e

pub sequences_held : (ks : List MemoryCall) (b : WaveformMemoryBuilder) → joined (held memory_step added_sequences b ks) ≡ sequences_of (held memory_step added_item b ks)
sequences_held [] b = refl
sequences_held (k ∷ ks) b = go k (ltb 0 (memory_step b k).number) _ _ (sequences_held ks (memory_step b k).builder) where
  go : (j : MemoryCall) (t : Bool) (x : List (List (List FrameBuilder))) (y : List Item) → joined x ≡ sequences_of y
      → joined (cond t x (added_sequences j ∷ x)) ≡ sequences_of (cond t y (added_item j ∷ y))
  go j true x y e = e
  go (add_snippet js) false x y e = e
  go (add_sequence ms) false x y e = ap (λ (l : List (List FrameBuilder)). frames_from ms ∷ l) e

pub content_held : (a : Bool) (ks : List MemoryCall) → content_of (held memory_step added_item (new_memory a) ks) ≡ content_from a ks
content_held a ks = λ i. record { snippets = sym (snippets_held ks (new_memory a)) i; sequences = sym (sequences_held ks (new_memory a)) i }
