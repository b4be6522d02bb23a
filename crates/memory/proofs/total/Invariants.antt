-- The sum with the lengths of what is left is the whole's.
use Rattle.memory.proofs.Turns.{Summed}
use Rattle.memory.proofs.total.Given as goal

abbrev pub invariant-loop-item : goal.invariant-loop-item
invariant-loop-item g l = Summed g.T.Item.bytes_of l.items l.sum l.item-index
