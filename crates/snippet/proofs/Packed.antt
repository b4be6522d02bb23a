-- A point's byte as the code packs it by shifts and masks is the one that arithmetic says: one test over every length and amplitude.
-- Assumes nothing.
use mathlib.Core.Path.{◌≡◌, refl}
use mathlib.Core.Bool.{Bool, true, false}
use Prim.Native.Nat.{ℕ, ◌-◌, ◌*◌, ◌%◌, ◌<◌}
use lib.Bits.{bit_and, bit_or}
use mir.Val.{bool_byte}
use Rattle.laws.proofs.Tests.{same₂}
use Rattle.snippet.specs.Point.{point_byte}

abbrev packed : Bool → ℕ → ℕ → ℕ
packed r t a = bit_or (bit_or (bool_byte r * 128 % 256) ((t - 1) * 16 % 256)) (bit_and a 15)

pub packed_point : (r : Bool) (t a : ℕ) → t < 9 → a < 16 → packed r t a ≡ point_byte r t a
packed_point true t a = same₂ (packed true) (point_byte true) 9 16 refl t a
packed_point false t a = same₂ (packed false) (point_byte false) 9 16 refl t a
