-- The settings that a register's value can have come from: document 02, CR 12, "For a voltage byte, an IMAX value and a period word under a given driving
-- mode, return the least and greatest accepted setting, or none". Every number of 16 bits is tried.
use Rattle.std.specs.Prelude.{ℕ, zero, suc, ◌^◌, min, max, Bool, cond, not, ◌&&◌, List, [], ◌∷◌, ◌++◌, leb, eqb, filter, fold, Option, Some, None}
use Rattle.config.specs.declared.DrivingMode.{DrivingMode}
use Rattle.convert.specs.Convert.{voltage_byte, imax_code, period_word}
use Rattle.checks.specs.Checks.{outside_band}
use Rattle.ranges.specs.declared.Range.{Range}

-- ---- the accepted settings, by document 01's limits; that they are those of `configure` is claimed in Ranges.antt

-- "a voltage above 5990"
abbrev pub accepted_voltage : ℕ → Bool
accepted_voltage mV = leb mV 5990

-- "current above 252 mA", "a current below 29"
abbrev pub accepted_current : ℕ → Bool
accepted_current mA = leb 29 mA && leb mA 252

-- "frequency outside 50..300 Hz when tracking, else 25..1024"
abbrev pub accepted_frequency : DrivingMode → ℕ → Bool
accepted_frequency mode hz = not (outside_band mode hz)

-- ---- the search

unfoldable pub numbers_below : ℕ → List ℕ
numbers_below zero = []
numbers_below (suc n) = numbers_below n ++ (n ∷ [])

-- the numbers that are accepted and convert to a value
abbrev pub sources : (ℕ → Bool) → (ℕ → ℕ) → ℕ → List ℕ
sources accepts converts value = filter (λ n. accepts n && eqb (converts n) value) (numbers_below (2 ^ 16))

-- "the least and greatest .., or none"
abbrev pub least_and_greatest : List ℕ → Option Range
least_and_greatest [] = None
least_and_greatest (n ∷ ns) = Some (record { least = fold min n ns; greatest = fold max n ns })

-- ---- the three answers

-- of ACTUATOR1's or ACTUATOR2's byte
unfoldable pub voltage_range : ℕ → Option Range
voltage_range byte = least_and_greatest (sources accepted_voltage voltage_byte byte)

-- of the field IMAX of ACTUATOR3
unfoldable pub imax_range : ℕ → Option Range
imax_range value = least_and_greatest (sources accepted_current imax_code value)

-- of the word 128 × FRQ_LRA_PER_H + FRQ_LRA_PER_L
unfoldable pub period_range : DrivingMode → ℕ → Option Range
period_range mode word = least_and_greatest (sources (accepted_frequency mode) period_word word)

-- ---- of private contracts

-- from one number to another, none where they have crossed
abbrev pub span : ℕ → ℕ → Option Range
span a b = cond (leb a b) (Some (record { least = a; greatest = b })) None
