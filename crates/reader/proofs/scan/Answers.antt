-- By what each walk gave, and whether the rest is zero.
use Rattle.std.proofs.Common.{◌∙◌, Err, true, false, ap, arith, refl, rules}
use Rattle.errors.proofs.Passed.{passed}
use Rattle.reader.proofs.Scanned.{not_snippets, not_sequences, within, ended}
use Rattle.reader.proofs.Steps.{tells_none, tells_some}
use Rattle.reader.proofs.scan.Goals as goal

pub returns-in_err-last : goal.returns-in_err-last
returns-in_err-last g c =
    let n = not_snippets _ _ c.args.image.now _ c.args.sequences.now (omega arith) _ _ c.from-s.ensures c.from-q.ensures _ _ c.walk.ensures (search rules) _ c.in_err-last.was in
    tells_none _ _ _ _ n.0 (passed _ c.from_residual.ensures.1 ∙ ap Err n.1)

pub returns-in_err-last-2 : goal.returns-in_err-last-2
returns-in_err-last-2 g c =
    let n =
    not_sequences _ _ c.args.image.now _ _ (omega arith) _ _ c.from-s.ensures c.from-q.ensures _ _ c.walk.ensures (search rules) _ c.in_ok-last.was
    _ _ c.walk-2.ensures _ c.in_err-last-2.was
    in
    tells_none _ _ _ _ n.0 (passed _ c.from_residual-in_err-last-2.ensures.1 ∙ ap Err n.1)

pub overflow_add-last : goal.overflow_add-last
overflow_add-last g c =
    let e =
    within g.S.Gather.step g.Q.Gather.step c.args.image.now c.args.snippets.now c.args.sequences.now (omega arith) _ _ c.from-s.ensures c.from-q.ensures
    _ c.walk.new.items c.walk.ensures (search rules) _ c.in_ok-last.was _ c.walk-2.new.items c.walk-2.ensures _ c.in_ok-last-2.was
    in
    search (rules, e)

pub returns-then-not-zero_from : goal.returns-then-not-zero_from
returns-then-not-zero_from g c =
    tells_none _ _ _ _
    (ended _ _ c.args.image.now _ _ (omega arith) _ _ c.from-s.ensures c.from-q.ensures _ _ c.walk.ensures (search rules) _ c.in_ok-last.was
    _ _ c.walk-2.ensures _ c.in_ok-last-2.was false (search rules)) refl

pub returns : goal.returns
returns g c =
    tells_some _ _ _
    (ended _ _ c.args.image.now _ _ (omega arith) _ _ c.from-s.ensures c.from-q.ensures _ _ c.walk.ensures (search rules) _ c.in_ok-last.was
    _ _ c.walk-2.ensures _ c.in_ok-last-2.was true (search rules)) refl refl
