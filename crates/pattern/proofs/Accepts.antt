-- Each call, after any calls, is answered by its fault.
-- Assumes nothing.
use Prim.Native.Nat.{ℕ, ◌+◌, ◌<◌}
use mathlib.Core.Path.{◌≡◌, refl, sym, ap, ap₂, ◌∙◌}
use mathlib.Core.Bool.{Bool, true, false, cond, ◌||◌}
use mathlib.Core.List.{List, [], ◌∷◌, map}
use native.Mathlib.Omega.{arith}
use borrow.Author.Tests.{lt-ltb, le-ltb}
use lib.Dec.{ltb, leb}
use lib.ListN.{length, length-map}
use Rattle.errors.specs.Told.{Told, gives, refuses, Handed, refused, Built}
use Rattle.snippet.specs.Snippet.{with_made, built_snippet}
use Rattle.frame.specs.declared.Frame.{Frame}
use Rattle.frame.specs.declared.FrameBuilder.{FrameBuilder}
use Rattle.frame.specs.Builder.{plain_frame}
use Rattle.frame.specs.Frame.{bytes_of, frame_bytes, built_frame}
use Rattle.sequence.specs.declared.SequenceBuilder.{SequenceBuilder}
use Rattle.sequence.specs.Sequence.{with_frame, built_sequence}
use Rattle.memory.specs.Memory.{new_memory, with_snippet, with_sequence, image_number, built_memory}
use Rattle.snippet.specs.Point.{point_byte}
use Rattle.snippet.specs.Point as made
use Rattle.content.specs.Content.{Content, point_bytes, frames_bytes, size_of}
use Rattle.pattern.specs.Calls.{SnippetCall, ramp, step, point, snippet_step, snippet_from, points_from, FrameCall, gain, timebase, loop_count, frequency_hz, frame_step, Begin, new, silence, begun_by, FrameCalls, frame_called, number_of, frame_from, sequence_step, sequence_from, frames_from, MemoryCall, add_snippet, add_sequence, memory_step, memory_from, content_from, built_from}
use Rattle.pattern.specs.Accepts.{point_fault, made_fault, snippet_fault, bad_begin, field_fault, sequence_fault, memory_fault, Accepts}
use Rattle.pattern.proofs.Items.{frame_ran, answer_on, with_made_frame, snippets_held, sequences_held, content_held}
use Rattle.frame.proofs.Built.{built_bytes}
use Rattle.pattern.proofs.Frames.{ran_fields}
use Rattle.pattern.proofs.Snippets.{snippet_holds}
use Rattle.pattern.proofs.Sequences.{sequence_holds}
use Rattle.pattern.proofs.Memories.{memory_holds}

-- ---- tests

-- the number of one answer or another: two laws, since with one over the field each of its eight uses has to write the record's type out, which is longer
number_of_lem : {B : Type 0} (t : Bool) (x y : Handed B) → (cond t x y).number ≡ cond t x.number y.number
number_of_lem true x y = refl
number_of_lem false x y = refl

built_number : {I B : Type 0} (t : Bool) (x y : Built I B) → (cond t x y).number ≡ cond t x.number y.number
built_number true x y = refl
built_number false x y = refl

either : {A : Type 0} (s t : Bool) (x y : A) → cond s x (cond t x y) ≡ cond (s || t) x y
either true t x y = refl
either false t x y = refl

-- ---- a snippet

module _ (ks : List SnippetCall) where
  counted : (snippet_from ks).len ≡ length (points_from ks)
  counted = (snippet_holds ks).shows.counted

  point_fault_lem : (byte : ℕ) → (with_made (snippet_from ks) (gives byte)).number ≡ point_fault (points_from ks)
  point_fault_lem byte = number_of_lem (leb 16 (snippet_from ks).len) _ _ ∙ ap (λ (n : ℕ). cond (leb 16 n) 6 0) counted

  made_fault_lem : (r : Bool) (t a : ℕ) → (with_made (snippet_from ks) (made.point r t a)).number ≡ made_fault (points_from ks) t a
  made_fault_lem r t a = go (ltb t 1) (ltb 8 t) (ltb 15 a) where
    go : (x y z : Bool) → (with_made (snippet_from ks) (cond x (refuses 1) (cond y (refuses 1) (cond z (refuses 2) (gives (point_byte r t a)))))).number
        ≡ cond (x || y) 1 (cond z 2 (point_fault (points_from ks)))
    go true y z = refl
    go false true z = refl
    go false false true = refl
    go false false false = point_fault_lem (point_byte r t a)

  snippet_fault_lem : (k : SnippetCall) → (snippet_step (snippet_from ks) k).number ≡ snippet_fault (points_from ks) k
  snippet_fault_lem (ramp t a) = made_fault_lem true t a
  snippet_fault_lem (step t a) = made_fault_lem false t a
  snippet_fault_lem (point x) = point_fault_lem _

  empty_snippet : (built_snippet (snippet_from ks)).number ≡ cond (ltb (length (points_from ks)) 1) 9 0
  empty_snippet = built_number (ltb (snippet_from ks).len 1) _ _ ∙ ap (λ (n : ℕ). cond (ltb n 1) 9 0) counted

-- ---- a frame

begin_fault : (b : Begin) → begun_by b ≡ cond (bad_begin b) (refuses 3) (gives (plain_frame (number_of b)))
begin_fault (new n) = either (ltb n 1) (ltb 15 n) _ _
begin_fault silence = refl

field_fault_lem : (b : FrameBuilder) (k : FrameCall) → (frame_step b k).number ≡ field_fault k
field_fault_lem b (gain g) = refl
field_fault_lem b (timebase t) = refl
field_fault_lem b (loop_count k) = number_of_lem (ltb 15 k) _ _
field_fault_lem b (frequency_hz f) = number_of_lem (ltb 511 f) _ _

frame_fault : (m : FrameCalls) (k : FrameCall) → frame_called m k ≡ cond (bad_begin m.begin) 3 (field_fault k)
frame_fault m k = ap (λ (t : Told FrameBuilder). answer_on t m.calls k) (begin_fault m.begin) ∙ go (bad_begin m.begin) where
  go : (t : Bool) → answer_on (cond t (refuses 3) (gives (plain_frame (number_of m.begin)))) m.calls k ≡ cond t 3 (field_fault k)
  go true = refl
  go false = field_fault_lem _ k

-- ---- a sequence

abbrev frames_fault : ℕ → ℕ → ℕ
frames_fault bytes frames = cond (ltb 96 bytes) 8 (cond (leb 32 frames) 7 0)

with_fault : (b : SequenceBuilder) (x : Frame) → (with_frame b x).number ≡ frames_fault (b.len + length (frame_bytes x)) b.frame_count
with_fault b x =
    number_of_lem (ltb 96 (b.len + length (frame_bytes x))) _ _
    ∙ ap (λ (n : ℕ). cond (ltb 96 (b.len + length (frame_bytes x))) 8 n) (number_of_lem (leb 32 b.frame_count) _ _)

sequence_fault_lem : (ms : List FrameCalls) (m : FrameCalls) → (sequence_step (sequence_from ms) m).number ≡ sequence_fault (frames_from ms) m
sequence_fault_lem ms m =
    ap (λ (t : Told FrameBuilder). (with_made_frame (sequence_from ms) m.calls t).number) (begin_fault m.begin) ∙ go (bad_begin m.begin)
  where
    plain : FrameBuilder
    plain = plain_frame (number_of m.begin)

    bytes : frame_bytes (built_frame (frame_ran plain m.calls)) ≡ bytes_of (frame_from m)
    bytes = built_bytes (frame_ran plain m.calls) ∙ ap bytes_of (ran_fields m.calls plain)

    go : (t : Bool) → (with_made_frame (sequence_from ms) m.calls (cond t (refuses 3) (gives (plain_frame (number_of m.begin))))).number
        ≡ cond t 3 (frames_fault (length (frames_bytes (frames_from ms)) + length (bytes_of (frame_from m))) (length (frames_from ms)))
    go true = refl
    go false =
        with_fault (sequence_from ms) (built_frame (frame_ran plain m.calls))
        ∙ ap₂ frames_fault (ap₂ ◌+◌ (sequence_holds ms).counted (ap length bytes)) (sequence_holds ms).frames

-- a sequence without frames is one without bytes
empty_bytes : (fs : List FrameBuilder) → ltb (length (frames_bytes fs)) 1 ≡ ltb (length fs) 1
empty_bytes [] = refl
empty_bytes (f ∷ fs) = le-ltb (length (frames_bytes (f ∷ fs))) 1 (omega arith) ∙ sym (le-ltb (length (f ∷ fs)) 1 (omega arith))

module _ (ms : List FrameCalls) where
  no_frames : ltb (sequence_from ms).len 1 ≡ ltb (length (frames_from ms)) 1
  no_frames = ap (λ (n : ℕ). ltb n 1) (sequence_holds ms).counted ∙ empty_bytes (frames_from ms)

  empty_sequence : (built_sequence (sequence_from ms)).number ≡ cond (ltb (length (frames_from ms)) 1) 10 0
  empty_sequence = built_number (ltb (sequence_from ms).len 1) _ _ ∙ ap (λ (t : Bool). cond t 10 0) no_frames

-- ---- a memory

-- an item that is built or, with a number n, not built
item_fault : {B I S : Type 0} (b : B) (add : I → Handed B) (t : Bool) (n : ℕ) (i j : I) (s : S) → 0 < n →
    let r : Built I S = cond t (record { number = n; item = i; builder = s }) (record { number = 0; item = j; builder = s }) in
    (cond (ltb 0 r.number) (refused r.number b) (add r.item)).number ≡ cond t n (add j).number
item_fault b add true n i j s h = simp (lt-ltb 0 n h)
item_fault b add false n i j s h = refl

memory_fault_lem : (a : Bool) (ks : List MemoryCall) (k : MemoryCall) → (memory_step (memory_from a ks) k).number ≡ memory_fault (content_from a ks) k
memory_fault_lem a ks (add_snippet js) =
    item_fault (memory_from a ks) (with_snippet (memory_from a ks)) (ltb (snippet_from js).len 1) 9 _ _ (snippet_from js) (omega arith)
    ∙ ap (cond (ltb (snippet_from js).len 1) 9) (number_of_lem (leb 15 (memory_from a ks).num_snippets) _ _)
    ∙ ap₂ (λ (m n : ℕ). cond (ltb m 1) 9 (cond (leb 15 n) 6 0)) (counted js) ((memory_holds a ks).snippets.counted ∙ ap length (sym (snippets_held ks (new_memory a))))
memory_fault_lem a ks (add_sequence ms) =
    item_fault (memory_from a ks) (with_sequence (memory_from a ks)) (ltb (sequence_from ms).len 1) 10 _ _ (sequence_from ms) (omega arith)
    ∙ ap (cond (ltb (sequence_from ms).len 1) 10) (number_of_lem (leb 16 (memory_from a ks).num_sequences) _ _)
    ∙ ap₂ (λ (t : Bool) (n : ℕ). cond t 10 (cond (leb 16 n) 7 0)) (no_frames ms) ((memory_holds a ks).sequences.counted ∙ ap length (sym (sequences_held ks (new_memory a))))

build_fault : (a : Bool) (ks : List MemoryCall) → let c = content_from a ks in
    (built_from a ks).number ≡ cond (ltb (length c.snippets) 1) 9 (cond (ltb (length c.sequences) 1) 10 (cond (ltb 100 (size_of c)) 8 0))
unfolding built_memory
build_fault a ks =
    let h = memory_holds a ks in
    let c = content_from a ks in
    ap₂ image_number h.snippets.shown h.sequences.shown
    ∙ ap (λ (c : Content). image_number (map point_bytes c.snippets) (map frames_bytes c.sequences)) (content_held a ks)
    ∙ ap₂ (λ (s q : ℕ). cond (ltb s 1) 9 (cond (ltb q 1) 10 (cond (ltb 100 (size_of c)) 8 0)))
    (length-map c.snippets point_bytes) (length-map c.sequences frames_bytes)

pub accepts : Accepts
accepts =
    record {
      snippet = snippet_fault_lem;
      snippet_build = empty_snippet;
      begin = begin_fault;
      frame = frame_fault;
      sequence = sequence_fault_lem;
      sequence_build = empty_sequence;
      memory = memory_fault_lem;
      memory_build = build_fault;
    }
