-- Where each answer begins and ends. Assumes nothing.
use Rattle.std.proofs.Common.{refl, zero, suc, Option, Some, ℕ, ◌+◌, ◌-◌, ◌*◌, ◌/◌, ◌^◌, ◌≤◌, ◌<◌, ◌≡◌, ◌∙◌, ◌↔◌, Bool, true, false, cond, not, ltb, leb, eqb, ◌&&◌, ◌||◌, min, max, None, sym, subst, arith, le-leb, leb-true, eq-eqb, eqb-true, mul_comm, le-div_iff_mul-le}
use Rattle.std.proofs.Math.Bool.{and-eq-true_iff}
use Rattle.std.proofs.Math.Nat.{div-div-eq-div-mul}
use Rattle.config.specs.declared.DrivingMode.{DrivingMode}
use Rattle.checks.specs.Checks.{tracking}
use Rattle.convert.specs.Convert.{voltage_byte, imax_code, period_word}
use Rattle.convert.proofs.Whole as whole
use Rattle.ranges.specs.declared.Range.{Range}
use Rattle.ranges.specs.Search.{accepted_voltage, accepted_current, accepted_frequency, sources, least_and_greatest, voltage_range, imax_range, period_range, span}
use Rattle.ranges.proofs.Search.{is_span}

-- of a test of two
both : (accepts : Bool) (m value : ℕ) → ((accepts && eqb m value) ≡ true) ↔ ((accepts ≡ true) × (m ≡ value))
both accepts m value = (
  λ e. let h = (and-eq-true_iff accepts (eqb m value)).0 e in (h.0, eqb-true m value h.1),
  λ h. (and-eq-true_iff accepts (eqb m value)).1 (h.0, eq-eqb m value h.1),
)

-- the numbers from a to b are those that are accepted and convert to the value
abbrev pub Between : (ℕ → Bool) → (ℕ → ℕ) → ℕ → ℕ → ℕ → Type 0
Between accepts converts value a b = (n : ℕ) → ((accepts n ≡ true) × (converts n ≡ value)) ↔ ((a ≤ n) × (n ≤ b))

-- ---- voltages and currents: the n up to a greatest with from ≤ 1000 × n < to

abbrev pub first : ℕ → ℕ
first from = (from + 999) / 1000

abbrev pub last : ℕ → ℕ → ℕ
last greatest to = min greatest ((to + 999) / 1000 - 1)

pub voltages : (byte : ℕ) → Between accepted_voltage voltage_byte byte (first (23400 * byte)) (last 5990 (23400 * byte + 23400))
voltages byte n = (
  λ h. let k = leb-true n _ h.0 in let e = h.1 in (omega arith, omega arith),
  λ h. (le-leb n _ (omega arith), omega arith),
)

pub in_limits : (mA : ℕ) → (accepted_current mA ≡ true) ↔ ((29 ≤ mA) × (mA ≤ 252))
in_limits mA = (λ e. (grind arith, grind arith), λ h. grind arith)

pub currents : (value : ℕ) → Between accepted_current imax_code value (first (7200 * value + 28600)) (last 252 (7200 * value + 28600 + 7200))
currents value n = (
  λ h. let k = (in_limits n).0 h.0 in let e = h.1 in (omega arith, omega arith),
  λ h. ((in_limits n).1 (omega arith, omega arith), omega arith),
)

-- ---- frequencies: n is the quotient of a word where the word is that of n

abbrev pub bottom : DrivingMode → ℕ
bottom mode = cond (tracking mode) 50 25

abbrev pub top : DrivingMode → ℕ
top mode = cond (tracking mode) 300 1024

-- 10^11 / 133332 cycles
word_is : (n : ℕ) → 25 ≤ n → period_word n ≡ 750007 / n
word_is n h = whole.period_is n h ∙ sym (div-div-eq-div-mul 100000000000 133332 n)

-- either divides
turned : (k w n : ℕ) → 0 < w → 0 < n → (w ≤ k / n) ↔ (n ≤ k / w)
turned k w n g h = (
  λ e. (le-div_iff_mul-le g).1 (subst (λ (m : ℕ). m ≤ k) (mul_comm w n) ((le-div_iff_mul-le h).0 e)),
  λ e. (le-div_iff_mul-le h).1 (subst (λ (m : ℕ). m ≤ k) (mul_comm n w) ((le-div_iff_mul-le g).0 e)),
)

pub in_band : (mode : DrivingMode) (n : ℕ) → (accepted_frequency mode n ≡ true) ↔ ((bottom mode ≤ n) × (n ≤ top mode))
in_band mode n = go (tracking mode) where
  go : (t : Bool) → (not (cond t (ltb n 50 || ltb 300 n) (ltb n 25 || ltb 1024 n)) ≡ true) ↔ ((cond t 50 25 ≤ n) × (n ≤ cond t 300 1024))
  go true = (λ e. grind arith, λ h. grind arith)
  go false = (λ e. grind arith, λ h. grind arith)

-- a number divided by 0 is 0
positive : (k w n : ℕ) → 0 < n → n ≤ k / w → 0 < w
positive k zero n h g = omega arith
positive k (suc w) n h g = omega arith

pub frequencies : (mode : DrivingMode) (word : ℕ)
    → Between (accepted_frequency mode) period_word word (max (bottom mode) (750007 / (word + 1) + 1)) (min (top mode) (750007 / word))
frequencies mode word n = (
  λ h.
      let k = (in_band mode n).0 h.0 in
      let l : (25 ≤ n) × (n ≤ 1024) = (grind arith, grind arith) in
      let e = sym (word_is n l.0) ∙ h.1 in
      let one = (le-div_iff_mul-le {k = n} {x = 1} {y = 750007} (omega arith)).1 (omega arith) in
      let high = (turned 750007 word n (omega arith) (omega arith)).0 (omega arith) in
      let low = turned 750007 (word + 1) n (omega arith) (omega arith) in
      (grind arith, grind arith),
  λ h.
      let k : (bottom mode ≤ n) × (n ≤ top mode) = (grind arith, grind arith) in
      let l : 25 ≤ n = grind arith in
      let p : n ≤ 750007 / word = grind arith in
      let high = (turned 750007 word n (positive 750007 word n (omega arith) p) (omega arith)).1 p in
      let low = turned 750007 (word + 1) n (omega arith) (omega arith) in
      ((in_band mode n).1 k, word_is n l ∙ grind arith),
)

-- ---- what the searches find

finds : (accepts : ℕ → Bool) (converts : ℕ → ℕ) (value a b : ℕ) → Between accepts converts value a b → b < 65536
    → least_and_greatest (sources accepts converts value) ≡ span a b
finds accepts converts value a b between h =
    is_span (λ n. accepts n && eqb (converts n) value) a b (λ n. (λ e. (between n).0 ((both (accepts n) (converts n) value).0 e), λ p. (both (accepts n) (converts n) value).1 ((between n).1 p))) (2 ^ 16) h

pub voltage_is : (byte : ℕ) → voltage_range byte ≡ span (first (23400 * byte)) (last 5990 (23400 * byte + 23400))
unfolding voltage_range
voltage_is byte = finds accepted_voltage voltage_byte byte _ _ (voltages byte) (omega arith)

pub imax_is : (value : ℕ) → imax_range value ≡ span (first (7200 * value + 28600)) (last 252 (7200 * value + 28600 + 7200))
unfolding imax_range
imax_is value = finds accepted_current imax_code value _ _ (currents value) (omega arith)

pub period_is : (mode : DrivingMode) (word : ℕ) → period_range mode word ≡ span (max (bottom mode) (750007 / (word + 1) + 1)) (min (top mode) (750007 / word))
unfolding period_range
period_is mode word = finds (accepted_frequency mode) period_word word _ _ (frequencies mode word) (grind arith)

-- ---- the ends are numbers of 16 bits, and the greatest is not 0

abbrev pub Fits : Option Range → Type 0
Fits None = Unit
Fits (Some r) = (r.least < 65536) × (0 < r.greatest) × (r.greatest < 65536)

span_fits : (a b : ℕ) → (a ≤ b → 0 < b) → b < 65536 → Fits (span a b)
span_fits a b h g = go (leb a b) refl where
  go : (t : Bool) → leb a b ≡ t → Fits (cond t (Some (record { least = a; greatest = b })) None)
  go true e = let k = leb-true a b e in (omega arith, h k, g)
  go false e = tt

pub voltage_fits : (byte : ℕ) → Fits (voltage_range byte)
voltage_fits byte = subst Fits (sym (voltage_is byte)) (span_fits _ _ (λ h. omega arith) (omega arith))

pub imax_fits : (value : ℕ) → Fits (imax_range value)
imax_fits value = subst Fits (sym (imax_is value)) (span_fits _ _ (λ h. omega arith) (omega arith))

pub period_fits : (mode : DrivingMode) (word : ℕ) → Fits (period_range mode word)
period_fits mode word = subst Fits (sym (period_is mode word)) (span_fits _ _ (λ h. grind arith) (grind arith))
