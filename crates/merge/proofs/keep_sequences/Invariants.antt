-- The items before the i-th are kept.
use Rattle.std.proofs.Common.{◌≡◌, ◌+◌, ◌≤◌, ◌++◌, length, map, List, ℕ}
use Rattle.pool.specs.Kept.{kept}
use Rattle.readings.specs.InPlace.{items_at}
use Rattle.merge.specs.InPlace.{raised_bytes}
use Rattle.merge.proofs.keep_sequences.Given as goal

abbrev pub invariant-loop-i : goal.invariant-loop-i
invariant-loop-i l =
    (before : List (List ℕ)) → length before ≤ 16 → l.fn.pool ≡ kept 16 before
    → (length before + l.i ≤ 16) × (l.pool ≡ kept 16 (before ++ map (raised_bytes l.count) (items_at l.image l.s l.i)))
