-- An item more.
use Rattle.std.proofs.Common.{◌≡◌, ◌+◌, ◌≤◌, ◌++◌, ◌∷◌, [], ◌∙◌, ap, sym, arith, length}
use Rattle.errors.specs.Number.{answer_number}
use Rattle.errors.proofs.Passed.{passed}
use Rattle.pool.specs.Kept.{kept}
use Rattle.readings.specs.InPlace.{item_at, items_at}
use Rattle.readings.proofs.InPlace.{items_length}
use Rattle.merge.proofs.Keeping.{items_more, has_room, all_fit, kept_room, too_many, kept_more}
use Rattle.merge.proofs.keep_snippets.Goals as goal

pub returns-in_err-push : goal.returns-in_err-push
returns-in_err-push c before h e =
    let image = c.args.image.now in
    let so_far = c.loop-i.invariant before h e in
    let full = too_many 15 before (items_at image 0 c.loop-i.i) c.loop-i.pool so_far.1 c.in_err-push.field-0.0 6 (length (items_at image 0 c.args.s)) c.in_err-push.ensures.value
    (omega (arith, items_length image 0 c.loop-i.i, items_length image 0 c.args.s, c.loop-i-test.true, c.from-i-end.ensures)) in
    (ap answer_number (passed _ c.from_residual.ensures.1) ∙ full.0, λ k. absurd (omega (arith, full.1)))

pub loop-i-preserved : goal.loop-i-preserved
loop-i-preserved c before h e =
    let image = c.args.image.now in
    let i = c.loop-i.i in
    let so_far = c.loop-i.invariant before h e in
    let room = has_room c.loop-i.pool.count 15 6 (omega arith) c.in_ok-push.ensures.value in
    let from_0 : i ≡ 0 + i = omega arith in
    let next = ap (λ x. items_at image 0 i ++ x ∷ []) (c.item.ensures ∙ ap (item_at image) from_0) ∙ sym (items_more image 0 i) in (
      omega (arith, kept_room 15 before (items_at image 0 i) c.loop-i.pool so_far.1 room, items_length image 0 i),
      kept_more 15 before (items_at image 0 i) c.loop-i.pool so_far.1 _ _ room c.push.ensures.pushed ∙ ap (λ l. kept 15 (before ++ l)) next,
    )

pub returns : goal.returns
returns c before h e =
    let image = c.args.image.now in
    let so_far = c.loop-i.invariant before h e in
    let all : c.loop-i.i ≡ c.args.s = omega (arith, c.loop-i-test.false, c.loop-i.auto.i-end, c.from-i-end.ensures) in
    let fits : length before + length (items_at image 0 c.args.s) ≤ 15 = omega (arith, so_far.0, all, items_length image 0 c.args.s) in
    (all_fit 15 6 _ fits, λ k. so_far.1 ∙ ap (λ i. kept 15 (before ++ items_at image 0 i)) all)
