use Rattle.std.proofs.Common.{◌+◌, ◌-◌, ◌∙◌, ap, arith, set}
use lib.ListN.{length-set}
use Rattle.laws.specs.Copied.{over}
use Rattle.laws.proofs.Copies.{over_laid}
use Rattle.memory.proofs.Turns.{putting_fits, putting_more, putting_all}
use Rattle.memory.proofs.put.Goals as goal

pub loop-i-preserved : goal.loop-i-preserved
loop-i-preserved g c =
    let l = c.loop-i in
    let x = c.index-items-i.result in
    let b = g.T.Item.bytes_of x in
    let e = c.size.ensures.value in
    let fits = putting_fits l.invariant c.loop-i-test.true x (ap g.T.Item.bytes_of c.index-items-i.is) in
    putting_more l.invariant c.loop-i-test.true x (ap g.T.Item.bytes_of c.index-items-i.is) (ap (λ k. l.next + k) e)
    (over_laid _ _ _ c.lay.ensures (simp length-set (omega (arith, l.invariant.long, fits.1))) ∙ ap (λ k. over (set l.image (c.args.pointer + l.i) (l.next + k - 1)) l.next b) e)

pub returns-clause-image_after : goal.returns-clause-image_after
returns-clause-image_after g c = (putting_all c.loop-i.invariant c.loop-i-test.false).1
