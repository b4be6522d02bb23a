-- Lines placed one behind the other are placed end to end.
-- Assumes nothing.
use Rattle.std.proofs.Common.{◌≡◌, ◌+◌, ◌*◌, ◌++◌, ◌∙◌, ℕ, suc, List, ◌∷◌, length, set, ap, arith}
use Rattle.laws.specs.Copied.{placed}
use Rattle.laws.proofs.Copies.{placed_first, placed_more}

pub placed_two : (l : List ℕ) (at x y : ℕ) (r : List ℕ) → placed l at (x ∷ y ∷ r) ≡ placed (set (set l at x) (at + 1) y) (at + 2) r
placed_two l at x y r =
    placed_first l at x (y ∷ r) ∙ placed_first (set l at x) (suc at) y r ∙ λ i. placed (set (set l at x) (one i) y) (two i) r where
      one : suc at ≡ at + 1
      one = omega arith

      two : suc (suc at) ≡ at + 2
      two = omega arith

-- k lines more
pub lines_placed : (out : List ℕ) (n m k : ℕ) (x r : List ℕ) → length x ≡ 37 * k → m ≡ n + k → placed (placed out (37 * n) x) (37 * m) r ≡ placed out (37 * n) (x ++ r)
lines_placed out n m k x r h e = ap (λ j. placed (placed out (37 * n) x) j r) at ∙ placed_more out (37 * n) x r where
  at : 37 * m ≡ 37 * n + length x
  at = omega (arith, h, e)
