-- What every step of a builder answers: a listed number, and where it refuses, the builder as it came in. Assumes nothing.
use mathlib.Core.Path.{◌≡◌, refl}
use mathlib.Core.Bool.{Bool, true, false, cond}
use mathlib.Core.List.{List}
use Prim.Native.Nat.{ℕ, ◌+◌, ◌≤◌, ◌<◌}
use native.Mathlib.Omega.{arith}
use lib.Dec.{ltb, leb}
use lib.ListN.{length}
use Rattle.laws.proofs.Tests.{choice}
use Rattle.errors.specs.Told.{Told, gives, refuses, Handed, accepted, refused, Built}
use Rattle.snippet.specs.declared.SnippetBuilder.{SnippetBuilder}
use Rattle.snippet.specs.Point as made
use Rattle.snippet.specs.Snippet.{point_of, with_point, with_made, built_snippet}
use Rattle.frame.specs.declared.FrameBuilder.{FrameBuilder}
use Rattle.frame.specs.Frame.{frame_bytes, built_frame}
use Rattle.sequence.specs.declared.SequenceBuilder.{SequenceBuilder}
use Rattle.sequence.specs.Sequence.{built_sequence}
use Rattle.memory.specs.declared.WaveformMemoryBuilder.{WaveformMemoryBuilder}
use Rattle.memory.specs.Memory.{with_snippet, with_sequence}
use Rattle.pattern.specs.Calls.{SnippetCall, ramp, step, point, snippet_step, snippet_from, FrameCall, gain, timebase, loop_count, frequency_hz, frame_step, sequence_from, MemoryCall, add_snippet, add_sequence, memory_step}
use Rattle.pattern.proofs.Items.{frame_ran, with_made_frame}
use Rattle.assemble.proofs.Assembly.{Three}

abbrev pub Answers : {B : Type 0} → B → Handed B → Type 0
Answers b r = (r.number ≤ 14) × (0 < r.number → r.builder ≡ b)

by_refusing : {B : Type 0} (b : B) (n : ℕ) → n ≤ 14 → Answers b (refused n b)
by_refusing b n h = (h, λ k. refl)

by_accepting : {B : Type 0} (b x : B) → Answers b (accepted x)
by_accepting b x = (omega arith, λ k. absurd (omega arith))

-- refused with n, or accepted
one : {B : Type 0} (b : B) (t : Bool) (n : ℕ) (x : B) → n ≤ 14 → Answers b (cond t (refused n b) (accepted x))
one b t n x h = choice (Answers b) t (refused n b) (accepted x) (by_refusing b n h) (by_accepting b x)

point_answers : (b : SnippetBuilder) (x : ℕ) → Answers b (with_point b (point_of x))
point_answers b x = one b (leb 16 b.len) 6 _ (omega arith)

made_answers : (b : SnippetBuilder) (r : Bool) (t a : ℕ) → Answers b (with_made b (made.point r t a))
made_answers b r t a = go (ltb t 1) (ltb 8 t) (ltb 15 a) where
  go : (u v w : Bool) → Answers b (with_made b (cond u (refuses 1) (cond v (refuses 1) (cond w (refuses 2) (gives (made.point_byte r t a))))))
  go true v w = by_refusing b 1 (omega arith)
  go false true w = by_refusing b 1 (omega arith)
  go false false true = by_refusing b 2 (omega arith)
  go false false false = point_answers b (made.point_byte r t a)

pub snippet_answers : (b : SnippetBuilder) (k : SnippetCall) → Answers b (snippet_step b k)
snippet_answers b (ramp t a) = made_answers b true t a
snippet_answers b (step t a) = made_answers b false t a
snippet_answers b (point x) = point_answers b _

pub frame_answers : (f : FrameBuilder) (k : FrameCall) → Answers f (frame_step f k)
frame_answers f (gain g) = by_accepting f _
frame_answers f (timebase t) = by_accepting f _
frame_answers f (loop_count k) = one f (ltb 15 k) 4 _ (omega arith)
frame_answers f (frequency_hz h) = one f (ltb 511 h) 5 _ (omega arith)

pub sequence_answers : (b : SequenceBuilder) (ks : List FrameCall) (t : Told FrameBuilder) → Three t → Answers b (with_made_frame b ks t)
sequence_answers b ks (gives f) h = go (ltb 96 (b.len + length (frame_bytes (built_frame (frame_ran f ks))))) (leb 32 b.frame_count) _ where
  go : (t u : Bool) (x : SequenceBuilder) → Answers b (cond t (refused 8 b) (cond u (refused 7 b) (accepted x)))
  go true u x = by_refusing b 8 (omega arith)
  go false true x = by_refusing b 7 (omega arith)
  go false false x = by_accepting b x
sequence_answers b ks (refuses n) h = by_refusing b n (omega arith)

-- an item that was built, or refused with a listed number
built_number : {I B : Type 0} (t : Bool) (x y : Built I B) → x.number ≤ 14 → y.number ≤ 14 → (cond t x y).number ≤ 14
built_number true x y h k = h
built_number false x y h k = k

pub memory_answers : (m : WaveformMemoryBuilder) (k : MemoryCall) → Answers m (memory_step m k)
memory_answers m (add_snippet ks) =
    let b = snippet_from ks in
    let r = built_snippet b in
    choice (Answers m) (ltb 0 r.number) (refused r.number m) (with_snippet m r.item) (by_refusing m r.number (built_number (ltb b.len 1) _ _ (omega arith) (omega arith)))
    (one m (leb 15 m.num_snippets) 6 _ (omega arith))
memory_answers m (add_sequence ms) =
    let b = sequence_from ms in
    let r = built_sequence b in
    choice (Answers m) (ltb 0 r.number) (refused r.number m) (with_sequence m r.item) (by_refusing m r.number (built_number (ltb b.len 1) _ _ (omega arith) (omega arith)))
    (one m (leb 16 m.num_sequences) 7 _ (omega arith))
