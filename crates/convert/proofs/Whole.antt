-- Where the checks accept, no value but a PID word is cut by its register: plans/proofs/Accepted.antt joins these laws.
-- Assumes nothing.
use Prim.Native.Nat.{ℕ, zero, suc, ◌≤◌, ◌<◌, ◌+◌, ◌-◌, ◌*◌, ◌/◌}
use native.Mathlib.Omega.{arith}
use native.Mathlib.Nat.{mul-le-mul, div-lt_iff_lt-mul}
use mathlib.Core.Path.{◌≡◌, refl, subst⁻¹}
use mathlib.Core.Bool.{Bool, true, ◌&&◌, So, and-eq-true_iff}
use mathlib.Core.List.{List, [], ◌∷◌}
use lib.Dec.{leb, ltb}
use lib.ListN.{get_or}
use Rattle.std.proofs.lemmas.Bool.{cond_both, ltb-true, le-ltb}
use Rattle.convert.specs.Convert.{voltage_byte, imax_code, v2i_word, period_word, high_part}
use Rattle.convert.specs.Trim.{TrimRow, up_to, trim_rows, row_at, cap_code, column, resistance_code}

pub period_is : (hz : ℕ) → 25 ≤ hz → period_word hz ≡ 100000000000 / (133332 * hz)
period_is hz h = simp (le-ltb hz 25 h)

-- from 25 Hz on the period has fifteen bits
pub word_bits : (hz : ℕ) → 25 ≤ hz → period_word hz < 32768
word_bits hz h =
    subst⁻¹ (λ (n : ℕ). n < 32768) (period_is hz h) ((div-lt_iff_lt-mul {k = 133332 * hz} {x = 100000000000} {y = 32768} (omega arith)).1 (omega arith))

-- of fifteen bits the high part takes all but seven
pub high_is : (w : ℕ) → w < 32768 → high_part w ≡ w / 128
high_is w h = omega arith

-- every code of a row is below four, and of every row
abbrev low : List ℕ → Bool
low [] = true
low (x ∷ xs) = ltb x 4 && low xs

abbrev low_rows : List TrimRow → Bool
low_rows [] = low (row_at 0 [])
low_rows (up_to n codes ∷ rs) = low codes && low_rows rs

code_below : (xs : List ℕ) (i : ℕ) → So (low xs) → get_or xs i 0 < 4
code_below [] i t = omega arith
code_below (x ∷ xs) zero t = ltb-true x 4 ((and-eq-true_iff (ltb x 4) (low xs)).0 t).0
code_below (x ∷ xs) (suc i) t = code_below xs i ((and-eq-true_iff (ltb x 4) (low xs)).0 t).1

row_low : (rs : List TrimRow) (ohms : ℕ) → So (low_rows rs) → So (low (row_at ohms rs))
row_low [] ohms t = t
row_low (up_to n codes ∷ rs) ohms t =
    let both = (and-eq-true_iff (low codes) (low_rows rs)).0 t in
    cond_both (leb ohms n) codes (row_at ohms rs) (λ xs. So (low xs)) (λ e. both.0) (λ e. row_low rs ohms both.1)

pub voltage : (mV : ℕ) → mV ≤ 5990 → voltage_byte mV ≡ 1000 * mV / 23400
voltage mV h = omega arith

pub current : (mA : ℕ) → mA ≤ 252 → imax_code mA ≡ (1000 * mA - 28600) / 7200
current mA h = omega arith

-- IMAX has five bits
pub current_bits : (mA : ℕ) → mA ≤ 252 → imax_code mA < 32
current_bits mA h = omega arith

pub v2i_bits : (mOhm imax : ℕ) → mOhm ≤ 49999 → imax < 32 → v2i_word mOhm imax < 65536
v2i_bits mOhm imax h k =
    let most : 1000 * mOhm * (imax + 4) ≤ 49999000 * 35 = mul-le-mul {n₁ = 1000 * mOhm} {m₁ = imax + 4} {n₂ = 49999000} {m₂ = 35} (omega arith) (omega arith) in
    omega arith

-- both fields of TRIM4 have two bits
pub cap_bits : (uH : ℕ) → cap_code uH < 4
cap_bits uH = grind arith

pub resistance_bits : (mOhm uH : ℕ) → resistance_code mOhm uH < 4
resistance_bits mOhm uH = code_below (row_at (mOhm / 1000) trim_rows) (column uH) (row_low trim_rows (mOhm / 1000) refl)
