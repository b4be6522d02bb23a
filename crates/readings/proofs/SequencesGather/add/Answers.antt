-- At a refusal, and where no frame is left.
use Rattle.std.proofs.Common.{◌≤◌, ◌∙◌, ◌∷◌, Err, false, true, length, ap, refl, sym, rules}
use Rattle.reader.specs.Walk.{frames_left}
use Rattle.reader.proofs.Running.{left_error}
use Rattle.errors.proofs.Passed.{passed}
use Rattle.reader.proofs.Steps.{tells_none, tells_some}
use Rattle.readings.proofs.Fitting.{all_ok, sequence_kept}
use Rattle.readings.proofs.SequencesGather.add.Goals as goal

pub returns-in_err-frame : goal.returns-in_err-frame
returns-in_err-frame c =
    let h : 1 ≤ length c.args.item.now = search rules in
    let d = c.in-Some.ensures.steps ∙ ap (λ x. x ∷ frames_left c.next.new.self) c.in_err-frame.was in
    tells_none _ _ _ _ (sequence_kept c.args.item.now c.args.self.now false h (sym c.loop-frame.invariant ∙ ap all_ok d))
    (passed _ c.from_residual.ensures.1 ∙ ap Err (left_error _ _ _ _ d))

pub returns : goal.returns
returns c =
    let h : 1 ≤ length c.args.item.now = search rules in
    tells_some _ _ _ (sequence_kept c.args.item.now c.args.self.now true h (sym c.loop-frame.invariant ∙ ap all_ok c.in-None.ensures.steps.0)) refl refl
