-- The numbers that calls are answered with. Assumes nothing.
use mathlib.Core.Bool.{Bool, true, false, cond}
use mathlib.Core.List.{List, [], ◌∷◌}
use Prim.Native.Nat.{ℕ, ◌≤◌}
use native.Mathlib.Omega.{arith}
use lib.Dec.{ltb}
use lib.ListN.{length}
use Rattle.laws.specs.Bytes.{All}
use Rattle.errors.specs.Told.{Told, gives, refuses, told_number}
use Rattle.frame.specs.declared.FrameBuilder.{FrameBuilder}
use Rattle.memory.specs.declared.WaveformMemoryBuilder.{WaveformMemoryBuilder}
use Rattle.memory.specs.Image.{image_size}
use Rattle.memory.specs.Memory.{snippet_items, sequence_items, built_memory}
use Rattle.calls.specs.Said.{Call}
use Rattle.calls.specs.Said as Call
use Rattle.calls.specs.Calls.{calls_in}
use Rattle.pattern.specs.Calls.{answers_to, snippet_from, FrameCall, begun_by, sequence_from, add_snippet, add_sequence, memory_from}
use Rattle.pattern.proofs.Items.{frame_ran, answer_on}
use Rattle.assemble.specs.Lists.{Groups, no_groups, grouped, answers_of}
use Rattle.assemble.proofs.Assembly.{Three, three}
use Rattle.assemble.proofs.Steps.{snippet_answers, frame_answers, sequence_answers, memory_answers}

-- a frame's own refusal is 3
begun_number : (t : Told FrameBuilder) → Three t → told_number t ≤ 14
begun_number (gives f) h = omega arith
begun_number (refuses n) h = omega arith

called_number : (t : Told FrameBuilder) (ks : List FrameCall) (k : FrameCall) → Three t → answer_on t ks k ≤ 14
called_number (gives f) ks k h = (frame_answers (frame_ran f ks) k).0
called_number (refuses n) ks k h = omega arith

call_number : (g : Groups) (k : Call) → (grouped g k).number ≤ 14
call_number g (Call.builder Call.snippet_new) = omega arith
call_number g (Call.builder (Call.on_snippet k)) = (snippet_answers (snippet_from g.snippet) k).0
call_number g (Call.builder (Call.begin_frame b)) = begun_number (begun_by b) (three b)
call_number g (Call.builder (Call.on_frame k)) = called_number (begun_by g.frame.begin) g.frame.calls k (three g.frame.begin)
call_number g (Call.builder Call.sequence_new) = omega arith
call_number g (Call.builder Call.add_frame) = (sequence_answers (sequence_from g.sequence) g.frame.calls (begun_by g.frame.begin) (three g.frame.begin)).0
call_number g Call.add_snippet = (memory_answers (memory_from false g.memory) (add_snippet g.snippet)).0
call_number g Call.add_sequence = (memory_answers (memory_from false g.memory) (add_sequence g.sequence)).0
call_number g Call.unknown = omega arith

all_numbers : (ks : List Call) (g : Groups) → All (λ n. n ≤ 14) (answers_to grouped g ks)
all_numbers [] g = tt
all_numbers (k ∷ ks) g = (call_number g k, all_numbers ks (grouped g k).builder)

pub answer_numbers : (calls : List ℕ) → All (λ n. n ≤ 14) (answers_of calls)
unfolding answers_of
answer_numbers calls = all_numbers (calls_in calls) no_groups

-- the build's own numbers are 9, 10 and 8
pub build_number : (m : WaveformMemoryBuilder) → (built_memory m).number ≤ 10
unfolding built_memory
build_number m = go (ltb (length (snippet_items m)) 1) (ltb (length (sequence_items m)) 1) (ltb 100 (image_size (snippet_items m) (sequence_items m))) where
  go : (t u v : Bool) → cond t 9 (cond u 10 (cond v 8 0)) ≤ 10
  go true u v = omega arith
  go false true v = omega arith
  go false false true = omega arith
  go false false false = omega arith
