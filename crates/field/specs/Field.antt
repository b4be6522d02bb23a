-- A field of a byte: `w` bits from bit `s` up. Document 01, "Settings to registers": "`with_` alters its own field".
-- A field is cut at the end of the byte, and of a value as many low bits are used as its field has.
use Rattle.std.specs.Prelude.{ℕ, ◌+◌, ◌-◌, ◌*◌, ◌/◌, ◌%◌, ◌^◌, min, Bool, true, false, ltb}

-- the field's value
unfoldable pub get_of : ℕ → ℕ → ℕ → ℕ
get_of b s w = b / 2 ^ s % 2 ^ w

-- as much of a field as the byte has room for
abbrev pub width_in : ℕ → ℕ → ℕ
width_in s w = min w (8 - s)

-- what stands above the field, the value, what stands below the field
abbrev pub spliced : ℕ → ℕ → ℕ → ℕ → ℕ
spliced b s w v = b / 2 ^ (s + w) * 2 ^ (s + w) + v % 2 ^ w * 2 ^ s + b % 2 ^ s

-- the byte with the field replaced by a value
unfoldable pub with_of : ℕ → ℕ → ℕ → ℕ → ℕ
with_of b s w v = spliced b s (width_in s w) v

-- a flag is a field of one bit: whether it is set
unfoldable pub flag_of : ℕ → ℕ → Bool
flag_of b s = ltb 0 (get_of b s 1)

-- the value that a flag's field has
abbrev pub code_of : Bool → ℕ
code_of true = 1
code_of false = 0
