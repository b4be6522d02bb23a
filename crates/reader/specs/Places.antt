-- Where a list of lists starts in the flat list; only private contracts cite this.
use Rattle.std.specs.Prelude.{ℕ, zero, suc, List, get_or}

-- where the i-th list starts
abbrev pub start_in : ℕ → List ℕ → ℕ → ℕ
start_in from es zero = from
start_in from es (suc i) = get_or es i 0
