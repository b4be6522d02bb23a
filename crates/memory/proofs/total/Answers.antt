use Rattle.std.proofs.Common.{length, ap, ◌∙◌}
use Rattle.memory.proofs.Turns.{summed_more}
use Rattle.memory.proofs.total.Goals as goal

pub loop-item-preserved : goal.loop-item-preserved
loop-item-preserved g c =
    let e = c.size-sum.ensures in
    let bytes = g.T.Item.bytes_of in
    summed_more c.loop-item.invariant c.loop-item-test.true c.item-item.result (e.value ∙ ap (λ x. length (bytes x)) c.item-item.is, e.upper_bound)
