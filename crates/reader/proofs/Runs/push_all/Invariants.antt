-- Pushing the rest gives what pushing the whole gives.
use Rattle.std.proofs.Common.{◌≡◌, drop}
use Rattle.reader.specs.Flat.{push_items}
use Rattle.reader.proofs.Runs.push_all.Given as goal

abbrev pub invariant-loop-item : goal.invariant-loop-item
invariant-loop-item g l = push_items l.self (drop l.item-index l.list) ≡ push_items l.fn.self l.list
