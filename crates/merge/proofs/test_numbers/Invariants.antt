-- Those that are left say what all say.
use Rattle.std.proofs.Common.{◌≡◌, ltb, map, drop}
use Rattle.laws.specs.Lists.{joined}
use Rattle.readings.specs.InPlace.{items_at, frames_in}
use Rattle.std.specs.List.{list_any}
use Rattle.merge.proofs.test_numbers.Given as goal

abbrev pub invariant-loop-i : goal.invariant-loop-i
invariant-loop-i l =
    list_any (λ f. ltb l.s f.snippet_id) (joined (map frames_in (drop l.i (items_at l.image l.s l.q)))) ≡ list_any (λ f. ltb l.s f.snippet_id) (joined (map frames_in (items_at l.image l.s l.q)))
