-- A sequence is its frames.
use Rattle.std.proofs.Common.{◌≡◌, ◌≤◌, ◌∙◌, List, ℕ, Err, Bool, length, cond, ap, refl, rules}
use borrow.Author.Tests.{le-leb}
use Rattle.std.proofs.Math.Option.{Option, none, some}
use Rattle.content.specs.ReadImage.{and_then}
use Rattle.reader.specs.Reading.{Frames}
use Rattle.reader.specs.Flat.{end_run}
use Rattle.reader.specs.Walk.{run_frames, push_sequence}
use Rattle.errors.proofs.Passed.{passed}
use Rattle.reader.proofs.Steps.{tells_ok, tells_err, tells_none, tells_some}
use Rattle.reader.proofs.FramesGather.add.Goals as goal

-- a sequence by its frames
module _ (bs : List ℕ) (h : 1 ≤ length bs) (o : Frames) where
  sequence_run : (m : Option Frames) → run_frames 32 bs o ≡ m → push_sequence bs o ≡ and_then m (λ x. some (end_run x))
  unfolding push_sequence
  sequence_run m k =
      ap (λ (t : Bool). cond t (and_then (run_frames 32 bs o) (λ x. some (end_run x))) none) (le-leb 1 (length bs) h)
      ∙ ap (λ (x : Option Frames). and_then x (λ y. some (end_run y))) k

pub returns-in_err-push_frames : goal.returns-in_err-push_frames
returns-in_err-push_frames c =
    let a = c.args in
    let h : 1 ≤ length a.item.now = search rules in
    let n = tells_err _ _ (run_frames 32 a.item.now a.self.now) _ c.push_frames.ensures c.in_err-push_frames.was in
    tells_none _ _ _ _ (sequence_run a.item.now h a.self.now _ n.0) (passed _ c.from_residual.ensures.1 ∙ ap Err n.1)

pub returns : goal.returns
returns c =
    let a = c.args in
    let h : 1 ≤ length a.item.now = search rules in
    let m = tells_ok _ _ (run_frames 32 a.item.now a.self.now) c.push_frames.ensures c.in_ok-push_frames.was in
    tells_some _ _ _ (sequence_run a.item.now h a.self.now _ m.is ∙ (λ i. some (end_run (m.left i)))) refl c.end.ensures
