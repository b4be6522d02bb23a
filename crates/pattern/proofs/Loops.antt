-- A frame that was read has a loop count exactly where it has a second byte.
-- Assumes nothing.
use Rattle.std.specs.Prelude.{Option, Some, None}
use Prim.Native.Nat.{ℕ, ◌%◌, ◌≤◌}
use mathlib.Core.Path.{◌≡◌, refl, sym, subst}
use mathlib.Core.Bool.{Bool, true, false}
use mathlib.Core.List.{List, map}
use mathlib.Core.Option.{some}
use native.Mathlib.Omega.{arith}
use borrow.Author.Tests.{lt-leb, leb-false}
use lib.Dec.{leb}
use Rattle.laws.specs.Bytes.{All, Bytes}
use Rattle.frame.specs.declared.Gain.{Gain}
use Rattle.frame.specs.declared.Timebase.{Timebase}
use Rattle.frame.specs.declared.FrameBuilder.{FrameBuilder}
use Rattle.frame.specs.Agreement.{FrameAdmitted}
use Rattle.frame.specs.Builder.{frame_with}
use Rattle.frame.proofs.Canon.{canon}
use Rattle.frame.proofs.Parts.{absent_is_zero, written}
use Rattle.content.specs.Content.{Content}
use Rattle.content.proofs.Admits.{SequenceAdmitted}
use Rattle.content.specs.ReadImage.{read_image}
use Rattle.laws.proofs.Lists.{all_map}
use Rattle.content.proofs.Images.{image_codec, read_again}
use Rattle.content.proofs.Sameness.{canonical}
use Rattle.pattern.specs.Demand.{LoopAsRead}

module _ (n : ℕ) (g : Gain) (t : Timebase) where
  loop_written : (k : Option ℕ) (q : Option ℕ) → n ≤ 15 → LoopAsRead (frame_with n g t (written (absent_is_zero n q) k) q)
  loop_written (Some k) None h = refl
  loop_written (Some k) (Some f) h = refl
  loop_written None (Some f) h = refl
  loop_written None None h = go (leb 8 n) refl where
    go : (z : Bool) → leb 8 n ≡ z → LoopAsRead (frame_with n g t (written z None) None)
    go true e = refl
    go false e = let l = leb-false 8 n e in sym (lt-leb 8 (n % 16) (omega arith))

loop_canon : (f : FrameBuilder) → FrameAdmitted f → LoopAsRead (canon f)
unfolding canon
loop_canon f h = loop_written f.snippet_id f.gain f.timebase f.loop_count f.frequency h.number_fits

loops_canonical : (qs : List (List FrameBuilder)) → All SequenceAdmitted qs → All (All LoopAsRead) (map (map canon) qs)
loops_canonical qs h = all_map (All LoopAsRead) (map canon) (λ fs s. all_map LoopAsRead canon loop_canon fs s.each) qs h

-- what is read is what its own image is read back to
pub loops_read : (l : List ℕ) → Bytes l → (c : Content) → read_image l ≡ some c → All (All LoopAsRead) c.sequences
unfolding canonical
loops_read l h c e =
    subst (λ (d : Content). All (All LoopAsRead) d.sequences) (read_again l c h e) (loops_canonical c.sequences (image_codec.sound l c h e).0.sequences.each)
