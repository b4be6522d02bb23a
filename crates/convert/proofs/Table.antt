-- The table of period words, tested whole; what holds of the whole holds of each entry.
-- Assumes nothing.
use Rattle.std.proofs.Common.{arith, ◌≡◌, ℕ, zero, suc, ◌+◌, ◌*◌, ◌/◌, ◌<◌, List, [], ◌∷◌, slice_index_or, ◌∙◌}
use mathlib.Core.Path.{ap}

-- the quotient of document 01
abbrev pub quotient : ℕ → ℕ
quotient hz = 100000000000 / (133332 * hz)

-- the quotients of hz, hz + 1, .., n of them
unfoldable pub quotients : ℕ → ℕ → List ℕ
quotients hz zero = []
quotients hz (suc n) = quotient hz ∷ quotients (suc hz) n

pub entry : (hz n k : ℕ) → k < n → slice_index_or (quotients hz n) k 0 ≡ quotient (hz + k)
unfolding quotients
entry hz zero k h = omega arith
entry hz (suc n) zero h = ap quotient (omega arith)
entry hz (suc n) (suc k) h = entry (suc hz) n k (omega arith) ∙ ap quotient (omega arith)
