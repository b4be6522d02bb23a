-- Walking the rest of the pointers from here gives what walking all gives.
use Rattle.std.proofs.Common.{◌≡◌, drop}
use Rattle.reader.specs.Walk.{walk}
use Rattle.reader.proofs.walk.Given as goal

abbrev pub invariant-loop-end : goal.invariant-loop-end
invariant-loop-end g l = walk g.T.Gather.step l.image l.last (drop l.end-index l.ends) l.items ≡ walk g.T.Gather.step l.fn.image l.first l.ends l.initial.items
