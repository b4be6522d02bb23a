-- A frame's bytes as the code packs them by shifts and masks are those that arithmetic says: a test over every value of the masked fields.
-- Assumes nothing.
use mathlib.Core.Path.{◌≡◌, refl}
use Prim.Native.Nat.{ℕ, ◌+◌, ◌*◌, ◌/◌, ◌%◌}
use native.Mathlib.Omega.{arith}
use lib.Bits.{bit_and, bit_or, and_mask}
use Rattle.laws.proofs.Tests.{same₃}

pub packed_first : (g t n : ℕ)
    → bit_or (bit_or (bit_and g 3 * 32 % 256) (bit_and t 3 * 8 % 256)) (bit_and n 7) ≡ g % 4 * 32 + t % 4 * 8 + n % 8
packed_first g t n =
    simp (and_mask g 2, and_mask t 2, and_mask n 3)
    (same₃ (λ a b c. bit_or (bit_or (a * 32 % 256) (b * 8 % 256)) c) (λ a b c. a * 32 + b * 8 + c) 4 4 8 refl
    (g % 4) (t % 4) (n % 8) (omega arith) (omega arith) (omega arith))

pub packed_second : (k q n : ℕ)
    → bit_or (bit_or (bit_or 128 (bit_and k 15 * 8 % 256)) (bit_and q 7 / 2 * 2 % 256)) (bit_and (n / 8) 1)
    ≡ 128 + k % 16 * 8 + q % 8 / 2 * 2 + n / 8 % 2
packed_second k q n =
    simp (and_mask k 4, and_mask q 3, and_mask (n / 8) 1)
    (same₃ (λ a b c. bit_or (bit_or (bit_or 128 (a * 8 % 256)) (b / 2 * 2 % 256)) c) (λ a b c. 128 + a * 8 + b / 2 * 2 + c) 16 8 2 refl
    (k % 16) (q % 8) (n / 8 % 2) (omega arith) (omega arith) (omega arith))
