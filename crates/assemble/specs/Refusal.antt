-- A list of calls that stops at the first refusal, told in one number: document 01's or 02's number of the refusal, and 256 times the place of its
-- call (Lists.antt, `with_place`).
use Rattle.std.specs.Prelude.{ℕ, ◌+◌, ◌*◌, min, Option, Some, None, Result, Ok, Err}
use Rattle.errors.specs.Number.{error_number}
use Rattle.assemble.specs.declared.Refusal.{Refusal}
use Rattle.assemble.specs.Lists.{last_place}

-- a later place counts as the last, and the build's refusal has none
abbrev pub place_number : Option ℕ → ℕ
place_number None = 0
place_number (Some place) = min place last_place

abbrev pub refusal_number : Refusal → ℕ
refusal_number r = error_number r.error + 256 * place_number r.place

-- 0 where nothing was refused
abbrev pub first_number : Option Refusal → ℕ
first_number None = 0
first_number (Some r) = refusal_number r

abbrev pub strict_number : Result Unit Refusal → ℕ
strict_number (Ok u) = 0
strict_number (Err r) = refusal_number r
