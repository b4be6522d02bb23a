-- Those of the sequences that are left, with those before, are all.
use Rattle.std.proofs.Common.{◌≡◌, ◌+◌, drop, length, map}
use Rattle.laws.specs.Lists.{joined}
use Rattle.readings.specs.InPlace.{items_at, frames_in}
use Rattle.page.proofs.lines.Given as goal

abbrev pub invariant-loop-i : goal.invariant-loop-i
invariant-loop-i l =
    l.lines + length (joined (map frames_in (drop l.i (items_at l.image l.s l.q)))) ≡ l.s + length (joined (map frames_in (items_at l.image l.s l.q)))
