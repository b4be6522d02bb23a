-- A frame's builder holds in each field what the last accepted call gave, and is admitted.
-- Assumes nothing.
use mathlib.Core.Path.{◌≡◌, refl, ap, ◌∙◌, subst}
use mathlib.Core.List.{List, [], ◌∷◌}
use Prim.Native.Nat.{ℕ, ◌≤◌, ◌<◌}
use native.Mathlib.Decide.{dec_le}
use native.Mathlib.Omega.{arith}
use borrow.Author.Tests.{lt-ltb, le-ltb}
use Rattle.errors.specs.Told.{Told, gives, refuses}
use Rattle.frame.specs.declared.FrameBuilder.{FrameBuilder}
use Rattle.frame.specs.Agreement.{FrameAdmitted}
use Rattle.frame.specs.Builder.{frame_with, plain_frame, new_frame, with_loop_count, with_frequency}
use Rattle.pattern.specs.Calls.{FrameCall, gain, timebase, loop_count, frequency_hz, frame_step, Begin, new, silence, begun_by, FrameCalls, number_of, sets, last_set, frame_from}
use Rattle.pattern.proofs.Items.{frame_ran}

-- ---- the fields

abbrev pub fields_after : FrameBuilder → List FrameCall → FrameBuilder
fields_after b ks =
    frame_with b.snippet_id (last_set (λ k. (sets k).0) b.gain ks) (last_set (λ k. (sets k).1) b.timebase ks)
    (last_set (λ k. (sets k).2) b.loop_count ks) (last_set (λ k. (sets k).3) b.frequency ks)

one_call : (b : FrameBuilder) (k : FrameCall) → (frame_step b k).builder ≡ fields_after b (k ∷ [])
one_call b (gain g) = refl
one_call b (timebase t) = refl
one_call b (loop_count k) = go (dec_le k 15) where
  go : Dec (k ≤ 15) → (with_loop_count b k).builder ≡ fields_after b (loop_count k ∷ [])
  go (yes h) = simp (le-ltb 15 k h)
  go (no h) = let h' : 15 < k = omega arith in simp (lt-ltb 15 k h')
one_call b (frequency_hz f) = go (dec_le f 511) where
  go : Dec (f ≤ 511) → (with_frequency b f).builder ≡ fields_after b (frequency_hz f ∷ [])
  go (yes h) = simp (le-ltb 511 f h)
  go (no h) = let h' : 511 < f = omega arith in simp (lt-ltb 511 f h')

pub ran_fields : (ks : List FrameCall) (b : FrameBuilder) → frame_ran b ks ≡ fields_after b ks
ran_fields [] b = refl
ran_fields (k ∷ ks) b = ran_fields ks (frame_step b k).builder ∙ ap (λ (c : FrameBuilder). fields_after c ks) (one_call b k)

-- ---- the limits

call_admitted : (b : FrameBuilder) (k : FrameCall) → FrameAdmitted b → FrameAdmitted (frame_step b k).builder
call_admitted b (gain g) h = record { number_fits = h.number_fits; loop_fits = h.loop_fits; frequency_fits = h.frequency_fits }
call_admitted b (timebase t) h = record { number_fits = h.number_fits; loop_fits = h.loop_fits; frequency_fits = h.frequency_fits }
call_admitted b (loop_count k) h = go (dec_le k 15) where
  go : Dec (k ≤ 15) → FrameAdmitted (with_loop_count b k).builder
  go (yes e) = simp (le-ltb 15 k e) (record { number_fits = h.number_fits; loop_fits = e; frequency_fits = h.frequency_fits })
  go (no e) = let e' : 15 < k = omega arith in simp (lt-ltb 15 k e') h
call_admitted b (frequency_hz f) h = go (dec_le f 511) where
  go : Dec (f ≤ 511) → FrameAdmitted (with_frequency b f).builder
  go (yes e) = simp (le-ltb 511 f e) (record { number_fits = h.number_fits; loop_fits = h.loop_fits; frequency_fits = e })
  go (no e) = let e' : 511 < f = omega arith in simp (lt-ltb 511 f e') h

ran_admitted : (ks : List FrameCall) (b : FrameBuilder) → FrameAdmitted b → FrameAdmitted (frame_ran b ks)
ran_admitted [] b h = h
ran_admitted (k ∷ ks) b h = ran_admitted ks (frame_step b k).builder (call_admitted b k h)

-- ---- what `new` and `silence` begin

-- a frame that was begun: its builder after the calls is what its fields say, and admitted; otherwise it was refused by a number
abbrev pub FrameOutcome : FrameCalls → Told FrameBuilder → Type 0
FrameOutcome m (gives b) = (frame_ran b m.calls ≡ frame_from m) × FrameAdmitted (frame_from m)
FrameOutcome m (refuses n) = 0 < n

begun_plain : (b : Begin) (ks : List FrameCall) → number_of b ≤ 15 → FrameOutcome (record { begin = b; calls = ks }) (gives (plain_frame (number_of b)))
begun_plain b ks h =
    let e = ran_fields ks (plain_frame (number_of b)) in
    (e, subst FrameAdmitted e (ran_admitted ks (plain_frame (number_of b)) (record { number_fits = h; loop_fits = tt; frequency_fits = tt })))

begun_new : (n : ℕ) (ks : List FrameCall) → FrameOutcome (record { begin = new n; calls = ks }) (new_frame n)
begun_new n ks = some (dec_le 1 n) where
  few : 1 ≤ n → Dec (n ≤ 15) → FrameOutcome (record { begin = new n; calls = ks }) (new_frame n)
  few h (yes k) = simp (le-ltb n 1 h, le-ltb 15 n k) (begun_plain (new n) ks k)
  few h (no k) = let k' : 15 < n = omega arith in simp (le-ltb n 1 h, lt-ltb 15 n k') (omega arith)

  some : Dec (1 ≤ n) → FrameOutcome (record { begin = new n; calls = ks }) (new_frame n)
  some (yes h) = few h (dec_le n 15)
  some (no h) = let h' : n < 1 = omega arith in simp (lt-ltb n 1 h') (omega arith)

pub frame_outcome : (b : Begin) (ks : List FrameCall) → FrameOutcome (record { begin = b; calls = ks }) (begun_by b)
frame_outcome (new n) ks = begun_new n ks
frame_outcome silence ks = begun_plain silence ks (omega arith)
