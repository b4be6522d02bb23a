use Rattle.std.proofs.Common.{drop, ◌≡◌, ◌+◌}
use Rattle.std.proofs.Math.Seq.{sets}
use Rattle.std.specs.Prelude.{sum}
use Rattle.pool.specs.Kept.{ends}
use Rattle.pool.proofs.pointers.Given as goal

-- the ends that are left, stored, give what the whole gives
abbrev pub invariant-loop-i : goal.invariant-loop-i
invariant-loop-i l =
    (l.last + sum (drop l.i l.lens) ≡ l.before + sum l.lens)
    × (sets l.fn.out l.at (ends l.before l.lens) ≡ sets l.out (l.at + l.i) (ends l.last (drop l.i l.lens)))
