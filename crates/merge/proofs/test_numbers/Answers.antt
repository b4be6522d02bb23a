-- An item more.
use Rattle.std.proofs.Common.{◌+◌, ◌||◌, ◌∙◌, ap, sym, ltb, arith, cond, map, drop}
use Rattle.laws.specs.Lists.{joined}
use Rattle.frame.specs.declared.FrameBuilder.{FrameBuilder}
use Rattle.readings.specs.InPlace.{item_at, items_at, frames_in}
use Rattle.std.specs.List.{list_any}
use Rattle.merge.proofs.Keeping.{any_next, any_end}
use Rattle.merge.proofs.test_numbers.Goals as goal

pub returns-then-is_above : goal.returns-then-is_above
returns-then-is_above c =
    let p = λ (f : FrameBuilder). ltb c.args.s f.snippet_id in
    let image = c.args.image.now in
    let here = c.is_above.ensures ∙ ap (λ l. list_any p (frames_in l)) (c.item.ensures ∙ ap (λ k. item_at image (k + c.loop-i.i)) c.from.ensures) in
    let rest = list_any p (joined (map frames_in (drop (c.loop-i.i + 1) (items_at image c.args.s c.args.q)))) in
    let next = any_next p image c.args.s c.args.q c.loop-i.i (omega (arith, c.loop-i-test.true, c.from-i-end.ensures)) in
    ap (λ b. cond b 25 0) (sym (ap (λ b. b || rest) (sym here ∙ c.if-is_above.true)) ∙ sym next ∙ c.loop-i.invariant)

pub loop-i-preserved : goal.loop-i-preserved
loop-i-preserved c =
    let p = λ (f : FrameBuilder). ltb c.args.s f.snippet_id in
    let image = c.args.image.now in
    let here = c.is_above.ensures ∙ ap (λ l. list_any p (frames_in l)) (c.item.ensures ∙ ap (λ k. item_at image (k + c.loop-i.i)) c.from.ensures) in
    let rest = list_any p (joined (map frames_in (drop (c.loop-i.i + 1) (items_at image c.args.s c.args.q)))) in
    let next = any_next p image c.args.s c.args.q c.loop-i.i (omega (arith, c.loop-i-test.true, c.from-i-end.ensures)) in
    sym (ap (λ b. b || rest) (sym here ∙ c.if-is_above.false)) ∙ sym next ∙ c.loop-i.invariant

pub returns : goal.returns
returns c =
    let p = λ (f : FrameBuilder). ltb c.args.s f.snippet_id in
    ap (λ b. cond b 25 0) (sym (any_end p c.args.image.now c.args.s c.args.q c.loop-i.i (omega (arith, c.loop-i-test.false, c.from-i-end.ensures))) ∙ c.loop-i.invariant)
