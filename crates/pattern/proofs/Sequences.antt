-- A sequence's builder holds the frames that its accepted calls added.
-- Assumes nothing.
use mathlib.Core.Path.{◌≡◌, refl, sym, ap, ◌∙◌}
use mathlib.Core.Logic.{inl, inr}
use mathlib.Core.List.{List, [], ◌∷◌, ◌++◌, map, append-nil}
use Prim.Native.Nat.{ℕ, ◌+◌, ◌≤◌, ◌<◌}
use native.Mathlib.Decide.{dec_le}
use native.Mathlib.Omega.{arith}
use borrow.Author.Tests.{lt-ltb, le-ltb, le-leb, lt-leb}
use lib.ListN.{length, take, drop, length-append, length-take}
use lib.Seq.{take_at}
use Rattle.std.proofs.lemmas.List.{map-append}
use Rattle.laws.proofs.Lists.{all_append, joined_append}
use Rattle.laws.specs.Lists.{joined}
use Rattle.laws.specs.Bytes.{All}
use Rattle.laws.specs.Copied.{over}
use Rattle.laws.proofs.Copies.{length_over}
use Rattle.errors.specs.Told.{Told, gives, refuses, Handed}
use Rattle.frame.specs.declared.Frame.{Frame}
use Rattle.frame.specs.declared.FrameBuilder.{FrameBuilder}
use Rattle.frame.specs.Agreement.{FrameAdmitted}
use Rattle.frame.specs.Frame.{bytes_of, frame_bytes, built_frame}
use Rattle.sequence.specs.declared.SequenceBuilder.{SequenceBuilder}
use Rattle.sequence.specs.Sequence.{new_sequence, with_frame}
use Rattle.content.specs.Content.{frames_bytes}
use Rattle.pattern.specs.Calls.{FrameCalls, frame_from, begun_by, sequence_step, sequence_from, frames_from}
use Rattle.pattern.proofs.Items.{frame_ran, with_made_frame}
use Rattle.pattern.proofs.Outcomes.{Outcome, all_calls}
use Rattle.frame.proofs.Built.{built_bytes}
use Rattle.pattern.proofs.Frames.{FrameOutcome, frame_outcome}

pub record Holds (b : SequenceBuilder) (fs : List FrameBuilder) : Type 0 where
  pub long : length b.«data» ≡ 96
  pub shown : take b.len b.«data» ≡ frames_bytes fs
  pub counted : b.len ≡ length (frames_bytes fs)
  pub frames : b.frame_count ≡ length fs
  pub room : b.len ≤ 96
  pub few : length fs ≤ 32
  pub good : All FrameAdmitted fs

pub none_held : Holds new_sequence []
none_held = record { long = refl; shown = refl; counted = refl; frames = refl; room = omega arith; few = omega arith; good = tt }

over_shown : (d xs : List ℕ) (n : ℕ) → n + length xs ≤ length d → take (n + length xs) (over d n xs) ≡ take n d ++ xs
over_shown d xs n h =
    take_at (take n d ++ xs) (drop (n + length xs) d) (n + length xs) (length-append (take n d) xs ∙ ap (λ (k : ℕ). k + length xs) (length-take n d ∙ omega arith))

pub frames_append : (xs ys : List FrameBuilder) → frames_bytes (xs ++ ys) ≡ frames_bytes xs ++ frames_bytes ys
frames_append xs ys = ap joined (map-append bytes_of xs ys) ∙ joined_append (map bytes_of xs) (map bytes_of ys)

frames_snoc : (fs : List FrameBuilder) (f : FrameBuilder) → frames_bytes (fs ++ (f ∷ [])) ≡ frames_bytes fs ++ bytes_of f
frames_snoc fs f = simp (frames_append, append-nil)

abbrev Added : SequenceBuilder → List FrameBuilder → Handed SequenceBuilder → FrameBuilder → Type 0
Added b fs s f = Outcome s.number (Holds s.builder (fs ++ (f ∷ []))) (Holds s.builder fs)

-- a frame x of the code whose bytes are those of f
with_frame_lem : (b : SequenceBuilder) (fs : List FrameBuilder) (x : Frame) (f : FrameBuilder) → frame_bytes x ≡ bytes_of f → FrameAdmitted f → Holds b fs
    → Added b fs (with_frame b x) f
with_frame_lem b fs x f e g h = full (dec_le (b.len + length (frame_bytes x)) 96) where
  many : b.len + length (frame_bytes x) ≤ 96 → Dec (32 ≤ b.frame_count) → Added b fs (with_frame b x) f
  many p (yes q) = simp (le-ltb _ _ p, le-leb _ _ q) (inr (omega arith, h))
  many p (no q) =
      let q' : b.frame_count < 32 = omega arith in
      let n = ap length (frames_snoc fs f) ∙ length-append (frames_bytes fs) (bytes_of f) in
      let w = length-append fs (f ∷ []) in
      let le : length (frame_bytes x) ≡ length (bytes_of f) = ap length e in
      simp (le-ltb _ _ p, lt-leb _ _ q')
      (inl (
        refl,
        record {
          long = length_over b.«data» (frame_bytes x) b.len (let l = h.long in omega arith) ∙ h.long;
          shown = over_shown b.«data» (frame_bytes x) b.len (let l = h.long in omega arith)
              ∙ ap (λ (l : List ℕ). l ++ frame_bytes x) h.shown
              ∙ ap (λ (l : List ℕ). frames_bytes fs ++ l) e
              ∙ sym (frames_snoc fs f);
          counted = omega (arith, h.counted);
          frames = omega (arith, h.frames);
          room = p;
          few = omega (arith, h.frames);
          good = all_append FrameAdmitted fs (f ∷ []) h.good (g, tt);
        },
      ))

  full : Dec (b.len + length (frame_bytes x) ≤ 96) → Added b fs (with_frame b x) f
  full (yes p) = many p (dec_le 32 b.frame_count)
  full (no p) = let p' : 96 < b.len + length (frame_bytes x) = omega arith in simp (lt-ltb _ _ p') (inr (omega arith, h))

with_made_lem : (b : SequenceBuilder) (fs : List FrameBuilder) (m : FrameCalls) (t : Told FrameBuilder) → FrameOutcome m t → Holds b fs
    → Added b fs (with_made_frame b m.calls t) (frame_from m)
with_made_lem b fs m (gives f) o h =
    with_frame_lem b fs (built_frame (frame_ran f m.calls)) (frame_from m) (built_bytes (frame_ran f m.calls) ∙ ap bytes_of o.0) o.1 h
with_made_lem b fs m (refuses n) o h = inr (o, h)

pub one_call : (b : SequenceBuilder) (fs : List FrameBuilder) (m : FrameCalls) → Holds b fs → Added b fs (sequence_step b m) (frame_from m)
one_call b fs m h = with_made_lem b fs m (begun_by m.begin) (frame_outcome m.begin m.calls) h

pub sequence_holds : (ms : List FrameCalls) → Holds (sequence_from ms) (frames_from ms)
sequence_holds ms = all_calls sequence_step frame_from Holds one_call ms new_sequence [] none_held
