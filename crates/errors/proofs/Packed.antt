-- Packed answers that have room are told apart: equal numbers are the same value or the same refusal. Assumes nothing.
use mathlib.Core.Path.{◌≡◌, sym, ap}
use Prim.Native.Nat.{ℕ, ◌*◌, ◌^◌, ◌<◌, ◌≤◌}
use native.Mathlib.Nat.{mul-le-mul_right, le_of_mul-le-mul_right, le_of_eq, le_antisymm}
use native.Mathlib.Omega.{arith}
use lib.Pow.{pow_pos}
use Rattle.errors.specs.Told.{Told, gives, refuses}
use Rattle.errors.specs.Packed.{packed, Room}

-- a value below p is no multiple of it
apart : {A : Type 0} (p v n : ℕ) → v < p → 1 ≤ n → v ≡ n * p → A
apart p v n h k e = let m : 1 * p ≤ n * p = mul-le-mul_right p k in absurd (omega (arith, m, h, e))

-- multiples of p are the same where their factors are
factor : (p m n : ℕ) → 0 < p → m * p ≡ n * p → m ≡ n
factor p m n h e = le_antisymm (le_of_mul-le-mul_right (le_of_eq e) h) (le_of_mul-le-mul_right (le_of_eq (sym e)) h)

pub packed_apart : (bits : ℕ) (x y : Told ℕ) → Room bits x → Room bits y → packed bits x ≡ packed bits y → x ≡ y
packed_apart bits (gives v) (gives w) h k e = ap gives e
packed_apart bits (gives v) (refuses n) h k e = apart (2 ^ bits) v n h k e
packed_apart bits (refuses m) (gives w) h k e = apart (2 ^ bits) w m k h (sym e)
packed_apart bits (refuses m) (refuses n) h k e = ap refuses (factor (2 ^ bits) m n (pow_pos bits) e)
