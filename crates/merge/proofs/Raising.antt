-- The bytes of a sequence's frames, raised: their room, and one frame more.
-- Assumes nothing.
use Rattle.std.specs.Prelude.{ℕ, ◌+◌, ◌*◌, ◌≤◌, ◌≡◌, List, [], ◌∷◌, ◌++◌, map, length}
use Rattle.std.proofs.Common.{◌∙◌, sym, ap, arith, length-append}
use Rattle.std.proofs.lemmas.List.{length-map}
use Rattle.laws.specs.Bytes.{All}
use Rattle.laws.specs.Copied.{placed}
use Rattle.laws.proofs.Copies.{placed_more}
use Rattle.frame.specs.declared.FrameBuilder.{FrameBuilder}
use Rattle.frame.specs.Frame.{bytes_of}
use Rattle.frame.proofs.Built.{few_bytes}
use Rattle.content.specs.Content.{frames_bytes}
use Rattle.content.proofs.Admits.{SequenceAdmitted}
use Rattle.readings.specs.InPlace.{frames_in}
use Rattle.readings.proofs.InPlace.{frames_few}
use Rattle.merge.specs.Merged.{raised}
use Rattle.merge.specs.InPlace.{raised_bytes}

frames_long : (fs : List FrameBuilder) → length (frames_bytes fs) ≤ 3 * length fs
frames_long [] = omega arith
frames_long (f ∷ fs) = omega (arith, length-append (bytes_of f) (frames_bytes fs), few_bytes f, frames_long fs)

pub raised_few : (count : ℕ) (bytes : List ℕ) → length (raised_bytes count bytes) ≤ 96
raised_few count bytes = omega (arith, frames_long (map (raised count) (frames_in bytes)), length-map (frames_in bytes) (raised count), frames_few bytes)

-- so no sequence that the builders admit has more
pub sequences_short : (qs : List (List FrameBuilder)) → All SequenceAdmitted qs → All (λ fs. length (frames_bytes fs) ≤ 96) qs
sequences_short [] h = tt
sequences_short (fs ∷ qs) h = (omega (arith, frames_long fs, h.0.few), sequences_short qs h.1)

-- the frames fs are f and those that are left; x is the bytes of f, raised
module _ (count : ℕ) (fs left : List FrameBuilder) (f : FrameBuilder) (e : fs ≡ f ∷ left) (x : List ℕ) (h : x ≡ bytes_of (raised count f)) where
  pub raised_next : length x + length (frames_bytes (map (raised count) left)) ≡ length (frames_bytes (map (raised count) fs))
  raised_next =
      omega (arith, length-append (bytes_of (raised count f)) (frames_bytes (map (raised count) left)), ap (λ gs. length (frames_bytes (map (raised count) gs))) e, ap length h)

  pub raised_placed : (out : List ℕ) (at : ℕ)
      → placed (placed out at x) (at + length x) (frames_bytes (map (raised count) left)) ≡ placed out at (frames_bytes (map (raised count) fs))
  raised_placed out at =
      placed_more out at x (frames_bytes (map (raised count) left))
      ∙ ap (λ y. placed out at (y ++ frames_bytes (map (raised count) left))) h
      ∙ ap (λ gs. placed out at (frames_bytes (map (raised count) gs))) (sym e)
