-- Putting what is left gives what putting them all gives.
use Rattle.memory.proofs.Turns.{Putting}
use Rattle.memory.proofs.put.Given as goal

abbrev pub invariant-loop-i : goal.invariant-loop-i
invariant-loop-i g l = Putting g.T.Item.bytes_of l.items l.initial.image l.pointer l.at l.image l.next l.i
