-- What the methods of a register answer, as `fields` and `replaced` of the register crates list it.
-- Assumes nothing.
use mathlib.Core.Path.{◌≡◌, refl, sym, ap, ◌∙◌}
use Prim.Native.Nat.{ℕ, zero, suc, ◌+◌, ◌-◌, ◌*◌, ◌/◌, ◌%◌, ◌^◌, ◌<◌}
use native.Mathlib.Nat.{mod-lt}
use native.Mathlib.Omega.{arith}
use lib.Dec.{ltb}
use lib.Pow.{pow_pos, mod-mod-pow}
use Rattle.field.specs.Field.{get_of, width_in, with_of, flag_of, code_of}

-- a number below 2 is the code of whether it is set
bit : (n : ℕ) → n < 2 → code_of (ltb 0 n) ≡ n
bit zero h = refl
bit (suc zero) h = refl
bit (suc (suc n)) h = absurd (omega arith)

-- a flag's code is its field's value
pub flag_code : (b s : ℕ) → code_of (flag_of b s) ≡ get_of b s 1
unfolding flag_of get_of
flag_code b s = bit _ (mod-lt _ (pow_pos 1))

-- a value counts as far as its field is wide
pub with_masked : (b s w v : ℕ) → with_of b s w (v % 2 ^ w) ≡ with_of b s w v
unfolding with_of
with_masked b s w v =
    let e : w - width_in s w + width_in s w ≡ w = omega arith in
    let m : v % 2 ^ w % 2 ^ width_in s w ≡ v % 2 ^ width_in s w =
    ap (λ (k : ℕ). v % 2 ^ k % 2 ^ width_in s w) (sym e) ∙ mod-mod-pow v (w - width_in s w) (width_in s w) in
    ap (λ (k : ℕ). b / 2 ^ (s + width_in s w) * 2 ^ (s + width_in s w) + k * 2 ^ s + b % 2 ^ s) m

-- a flag that is set where a number is odd has the number's lowest bit
pub odd : (b s v : ℕ) → with_of b s 1 (code_of (flag_of v 0)) ≡ with_of b s 1 v
unfolding get_of
odd b s v = ap (λ (k : ℕ). with_of b s 1 k) (flag_code v 0 ∙ omega arith) ∙ with_masked b s 1 v
