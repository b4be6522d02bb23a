-- The items before the i-th are kept.
use Rattle.std.proofs.Common.{◌≡◌, ◌+◌, ◌≤◌, ◌++◌, length, List, ℕ}
use Rattle.pool.specs.Kept.{kept}
use Rattle.readings.specs.InPlace.{items_at}
use Rattle.merge.proofs.keep_snippets.Given as goal

abbrev pub invariant-loop-i : goal.invariant-loop-i
invariant-loop-i l =
    (before : List (List ℕ)) → length before ≤ 15 → l.fn.pool ≡ kept 15 before → (length before + l.i ≤ 15) × (l.pool ≡ kept 15 (before ++ items_at l.image 0 l.i))
