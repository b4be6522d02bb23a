-- A sequence's frames more.
use Rattle.std.proofs.Common.{◌+◌, ◌∙◌, ap, arith, length}
use Rattle.readings.specs.InPlace.{item_at}
use Rattle.readings.specs.InPlace.{frames_in}
use Rattle.page.proofs.Standing.{frames_bound, frames_next, frames_end}
use Rattle.page.proofs.lines.Goals as goal

pub overflow_add-lines : goal.overflow_add-lines
overflow_add-lines c =
    let image = c.args.image.now in
    let i = c.loop-i.i in
    let taken = c.frames-lines.ensures ∙ ap (λ l. length (frames_in l)) c.item.ensures ∙ ap (λ k. length (frames_in (item_at image (k + i)))) c.from.ensures in
    omega (arith, c.loop-i.invariant, taken, frames_next image c.args.s c.args.q i (omega (arith, c.loop-i-test.true, c.from-i-end.ensures)), frames_bound image c.args.s c.args.q, c.ranges.s.fits, c.ranges.q.fits)

pub loop-i-preserved : goal.loop-i-preserved
loop-i-preserved c =
    let image = c.args.image.now in
    let i = c.loop-i.i in
    let taken = c.frames-lines.ensures ∙ ap (λ l. length (frames_in l)) c.item.ensures ∙ ap (λ k. length (frames_in (item_at image (k + i)))) c.from.ensures in
    omega (arith, c.loop-i.invariant, taken, frames_next image c.args.s c.args.q i (omega (arith, c.loop-i-test.true, c.from-i-end.ensures)))

pub returns-clause-value : goal.returns-clause-value
returns-clause-value c = omega (arith, c.loop-i.invariant, frames_end c.args.image.now c.args.s c.args.q c.loop-i.i (omega (arith, c.loop-i-test.false, c.from-i-end.ensures)))

pub returns-clause-upper_bound : goal.returns-clause-upper_bound
returns-clause-upper_bound c = omega (arith, c.loop-i.invariant, frames_bound c.args.image.now c.args.s c.args.q)
