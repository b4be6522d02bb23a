-- Sequences: reading the frames of some bytes undoes writing them.
-- Assumes nothing.
use mathlib.Core.Path.{◌≡◌, refl, sym, ap, ◌∙◌, subst}
use mathlib.Core.List.{List, [], ◌∷◌, ◌++◌, map}
use mathlib.Core.Option.{some}
use Prim.Native.Nat.{ℕ, zero, suc, ◌≤◌, ◌<◌, suc-le-suc}
use native.Mathlib.Omega.{arith}
use borrow.Author.Tests.{le-leb, leb-true}
use lib.Dec.{leb}
use lib.ListN.{length}
use Rattle.laws.proofs.Lists.{all_append, all_right}
use Rattle.laws.specs.Bytes.{All, Bytes}
use Rattle.frame.specs.declared.FrameBuilder.{FrameBuilder}
use Rattle.frame.specs.Agreement.{FrameAdmitted}
use Rattle.frame.specs.Frame.{bytes_of}
use Rattle.frame.specs.Read.{Parsed, read_frame}
use Rattle.frame.proofs.Canon.{canon}
use Rattle.frame.proofs.Reading.{first_small, Starts, complete}
use Rattle.frame.proofs.Written.{sound}
use Rattle.frame.proofs.Frames.{frame_bytes_lem}
use Rattle.content.specs.Content.{frames_bytes}
use Rattle.content.proofs.Admits.{SequenceAdmitted}
use Rattle.content.specs.ReadImage.{and_then, read_frames, read_sequence}
use Rattle.content.proofs.Codec.{Codec, cond_some, cond_on, some_inj, none_some, then_some}

frames_sound : (k : ℕ) (bs : List ℕ) (fs : List FrameBuilder) → Bytes bs → read_frames k bs ≡ some fs
    → (length fs ≤ k) × All FrameAdmitted fs × (frames_bytes fs ≡ bs)
frames_sound zero [] fs h e = rw (← some_inj e) (omega arith, tt, refl)
frames_sound zero (b ∷ bs) fs h e = none_some fs e
frames_sound (suc k) [] fs h e = rw (← some_inj e) (omega arith, tt, refl)
frames_sound (suc k) (b ∷ bs) fs h e =
    let (p, e₁, e₂) = then_some (read_frame (b ∷ bs)) _ e in
    let (gs, e₃, e₄) = then_some (read_frames k p.rest) _ e₂ in
    let s = sound (b ∷ bs) p h e₁ in
    let t = frames_sound k p.rest gs (all_right (λ b. b < 256) (bytes_of p.frame) p.rest (subst Bytes (sym s.1) h)) e₃ in
    rw (← some_inj e₄) (suc-le-suc t.0, (s.0, t.1), ap (λ (l : List ℕ). bytes_of p.frame ++ l) t.2 ∙ s.1)

frames_start : (fs : List FrameBuilder) → Starts (frames_bytes fs)
frames_start [] = tt
frames_start (f ∷ fs) = first_small f

frames_step : (k : ℕ) (f : FrameBuilder) (r : List ℕ) (p : Parsed) → read_frame (bytes_of f ++ r) ≡ some p
    → read_frames (suc k) (bytes_of f ++ r) ≡ and_then (read_frames k p.rest) (λ fs. some (p.frame ∷ fs))
frames_step k f r p e = rw e

frames_complete : (k : ℕ) (fs : List FrameBuilder) → length fs ≤ k → All FrameAdmitted fs → read_frames k (frames_bytes fs) ≡ some (map canon fs)
frames_complete zero [] h g = refl
frames_complete (suc k) [] h g = refl
frames_complete zero (f ∷ fs) h g = absurd (omega arith)
frames_complete (suc k) (f ∷ fs) h g =
    frames_step k f (frames_bytes fs) _ (complete f g.0 (frames_bytes fs) (frames_start fs))
    ∙ rw (frames_complete k fs (omega arith) g.1)

frames_fit : (fs : List FrameBuilder) → Bytes (frames_bytes fs)
frames_fit [] = tt
frames_fit (f ∷ fs) = all_append (λ b. b < 256) (bytes_of f) (frames_bytes fs) (frame_bytes_lem f) (frames_fit fs)

-- a sequence has frames exactly where it has bytes
pub long : (fs : List FrameBuilder) → 1 ≤ length fs → 1 ≤ length (frames_bytes fs)
long [] h = h
long (f ∷ fs) h = omega arith

pub short : (fs : List FrameBuilder) → 1 ≤ length (frames_bytes fs) → 1 ≤ length fs
short [] h = h
short (f ∷ fs) h = omega arith

sequence_sound : (bs : List ℕ) (fs : List FrameBuilder) → Bytes bs → read_sequence bs ≡ some fs → SequenceAdmitted fs × (frames_bytes fs ≡ bs)
unfolding read_sequence
sequence_sound bs fs h e =
    let (t, e₁) = cond_some (leb 1 (length bs)) _ e in
    let s = frames_sound 32 bs fs h e₁ in
    (record { nonempty = short fs (rw s.2 (leb-true 1 (length bs) t)); few = s.0; each = s.1 }, s.2)

sequence_complete : (fs : List FrameBuilder) → SequenceAdmitted fs → read_sequence (frames_bytes fs) ≡ some (map canon fs)
unfolding read_sequence
sequence_complete fs g =
    cond_on _ _ (le-leb 1 (length (frames_bytes fs)) (long fs g.nonempty)) ∙ frames_complete 32 fs g.few g.each

pub sequence_codec : Codec Bytes read_sequence frames_bytes SequenceAdmitted (map canon)
sequence_codec = record { sound = sequence_sound; complete = sequence_complete; fit = λ fs g. frames_fit fs }

pub sequence_long : (fs : List FrameBuilder) → SequenceAdmitted fs → 1 ≤ length (frames_bytes fs)
sequence_long fs g = long fs g.nonempty
