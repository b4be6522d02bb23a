-- At a refusal, and where no frame is left.
use Rattle.std.proofs.Common.{◌∙◌, ◌∷◌, Err, ap, refl, sym}
use Rattle.reader.specs.Walk.{frames_left}
use Rattle.reader.proofs.Running.{pushes, run_pushes, left_error}
use Rattle.errors.proofs.Passed.{passed}
use Rattle.reader.proofs.Steps.{tells_none, tells_some}
use Rattle.reader.proofs.Frames.push_frames.Goals as goal

pub returns-in_err-frame : goal.returns-in_err-frame
returns-in_err-frame c =
    let l = c.loop-frame in
    let d = c.in-Some.ensures.steps ∙ ap (λ x. x ∷ frames_left c.next.new.self) c.in_err-frame.was in
    tells_none _ _ _ _ (sym (run_pushes 32 c.args.bytes.now c.args.self.now) ∙ sym l.invariant ∙ ap (λ x. pushes x l.self) d)
    (passed _ c.from_residual.ensures.1 ∙ ap Err (left_error _ _ _ _ d))

pub returns : goal.returns
returns c =
    let l = c.loop-frame in
    tells_some _ _ _ (sym (run_pushes 32 c.args.bytes.now c.args.self.now) ∙ sym l.invariant ∙ ap (λ x. pushes x l.self) c.in-None.ensures.steps.0) refl refl
