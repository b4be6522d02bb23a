-- The acceleration flag changes nothing in what is built.
-- Assumes nothing.
use mathlib.Core.Path.{◌≡◌, refl, ap, ◌∙◌}
use mathlib.Core.Bool.{Bool, true, false, cond}
use mathlib.Core.List.{List, [], ◌∷◌}
use lib.Dec.{ltb, leb}
use Rattle.errors.specs.Told.{Handed}
use Rattle.snippet.specs.Snippet.{built_snippet}
use Rattle.sequence.specs.Sequence.{built_sequence}
use Rattle.memory.specs.declared.WaveformMemoryBuilder.{WaveformMemoryBuilder}
use Rattle.memory.specs.Memory.{new_memory, built_memory}
use Rattle.pattern.specs.Calls.{MemoryCall, add_snippet, add_sequence, snippet_from, sequence_from, memory_step, ran, built_from}

abbrev flagged : Bool → WaveformMemoryBuilder → WaveformMemoryBuilder
flagged a b =
    record {
      snippets = b.snippets;
      sequences = b.sequences;
      num_snippets = b.num_snippets;
      num_sequences = b.num_sequences;
      acceleration_enabled = a;
    }

abbrev step_flagged : Bool → Handed WaveformMemoryBuilder → Handed WaveformMemoryBuilder
step_flagged a s = record { number = s.number; builder = flagged a s.builder }

through : (a t : Bool) (x y x' y' : Handed WaveformMemoryBuilder) → x' ≡ step_flagged a x → y' ≡ step_flagged a y
    → cond t x' y' ≡ step_flagged a (cond t x y)
through a true x y x' y' e f = e
through a false x y x' y' e f = f

step_flag : (a : Bool) (b : WaveformMemoryBuilder) (k : MemoryCall) → memory_step (flagged a b) k ≡ step_flagged a (memory_step b k)
step_flag a b (add_snippet ks) =
    through a (ltb 0 (built_snippet (snippet_from ks)).number) _ _ _ _ refl (through a (leb 15 b.num_snippets) _ _ _ _ refl refl)
step_flag a b (add_sequence ms) =
    through a (ltb 0 (built_sequence (sequence_from ms)).number) _ _ _ _ refl (through a (leb 16 b.num_sequences) _ _ _ _ refl refl)

ran_flag : (a : Bool) (b : WaveformMemoryBuilder) (ks : List MemoryCall)
    → ran memory_step (flagged a b) ks ≡ flagged a (ran memory_step b ks)
ran_flag a b [] = refl
ran_flag a b (k ∷ ks) =
    ap (λ (s : Handed WaveformMemoryBuilder). ran memory_step s.builder ks) (step_flag a b k)
    ∙ ran_flag a (memory_step b k).builder ks

pub same_number : (a : Bool) (ks : List MemoryCall) → (built_from a ks).number ≡ (built_from false ks).number
unfolding built_memory
same_number a ks = ap (λ (m : WaveformMemoryBuilder). (built_memory m).number) (ran_flag a (new_memory false) ks)

pub same_item : (a : Bool) (ks : List MemoryCall) → (built_from a ks).item ≡ (built_from false ks).item
unfolding built_memory
same_item a ks = ap (λ (m : WaveformMemoryBuilder). (built_memory m).item) (ran_flag a (new_memory false) ks)
