-- The shifts and masks of `get` and `with`, by counts that are variables, are the arithmetic of specs/Field.antt.
-- Assumes nothing.
use mathlib.Core.Path.{◌≡◌, sym, ap, subst, ◌∙◌}
use mathlib.Core.Logic.{◌⊎◌, inl, inr}
use Rattle.std.specs.Prelude.{min}
use Rattle.std.proofs.lemmas.Bool.{cases_lt}
use Prim.Native.Nat.{ℕ, ◌+◌, ◌-◌, ◌*◌, ◌/◌, ◌%◌, ◌^◌, ◌<◌, ◌≤◌}
use native.Mathlib.Nat.{mod-eq_of_lt, div-eq_of_lt, lt_of_lt_of_le, lt_of_le_of_lt, mod-lt}
use native.Mathlib.Omega.{arith}
use lib.Bits.{bit_and, bit_or, and_mask, or_shifted, or_lt}
use lib.Pow.{pow_pos, pow_mono, shl_lt, shr_lt, shl_exact, shr_le, split}
use Rattle.field.specs.Field.{get_of, width_in, spliced, with_of}
use Rattle.field.proofs.Own.{nested}

-- the shift of 1 does not wrap
pub one_shl : (n : ℕ) → n ≤ 8 → 1 * 2 ^ n % 65536 ≡ 2 ^ n
one_shl n h = shl_exact {a = 1} 1 n 16 (omega arith) (omega arith) ∙ omega arith

-- what `low` masks
pub low_is : (x n : ℕ) → n ≤ 8 → bit_and x (1 * 2 ^ n % 65536 - 1) ≡ x % 2 ^ n
low_is x n h = ap (λ (k : ℕ). bit_and x (k - 1)) (one_shl n h) ∙ and_mask x n

-- past the byte nothing is left to shift
shr_out : (b n : ℕ) → b < 256 → 8 ≤ n → b / 2 ^ n ≡ 0
shr_out b n hb h = div-eq_of_lt (lt_of_lt_of_le hb (pow_mono {i = 8} h))

-- a shift of a byte by more than 8 does what one by 8 does
shr_capped : (b s : ℕ) → b < 256 → b / 2 ^ min s 8 ≡ b / 2 ^ s
shr_capped b s hb = go (cases_lt s 8)
  where
    go : (s < 8) ⊎ (8 ≤ s) → b / 2 ^ min s 8 ≡ b / 2 ^ s
    go (inl h) = ap (λ (k : ℕ). b / 2 ^ k) (omega arith)
    go (inr h) = let e : min s 8 ≡ 8 = omega arith in ap (λ (k : ℕ). b / 2 ^ k) e ∙ shr_out b 8 hb (omega arith) ∙ sym (shr_out b s hb h)

-- and more than 8 low bits of a byte are all of it
mask_capped : (b w : ℕ) → b < 256 → b % 2 ^ min w 8 ≡ b % 2 ^ w
mask_capped b w hb = go (cases_lt w 8)
  where
    go : (w < 8) ⊎ (8 ≤ w) → b % 2 ^ min w 8 ≡ b % 2 ^ w
    go (inl h) = ap (λ (k : ℕ). b % 2 ^ k) (omega arith)
    go (inr h) =
        let e : min w 8 ≡ 8 = omega arith in
        ap (λ (k : ℕ). b % 2 ^ k) e ∙ mod-eq_of_lt hb ∙ sym (mod-eq_of_lt (lt_of_lt_of_le hb (pow_mono {i = 8} h)))

-- what `get` answers
pub get_is : (b s w : ℕ) → b < 256 → b / 2 ^ min s 8 % 2 ^ min w 8 ≡ get_of b s w
unfolding get_of
get_is b s w hb = mask_capped (b / 2 ^ min s 8) w (lt_of_le_of_lt (shr_le b (min s 8)) hb) ∙ ap (λ (k : ℕ). k % 2 ^ w) (shr_capped b s hb)

-- past the byte `with` replaces nothing
with_out : (b s w v : ℕ) → 8 ≤ s → b ≡ with_of b s w v
unfolding with_of
with_out b s w v h =
    let e : width_in s w ≡ 0 = omega arith in
    let z : s + 0 ≡ s = omega arith in
    let o : v % 1 ≡ 0 = omega arith in
    simp (e, z, o) (omega (arith, split b s))

-- what `with` computes of the field's low bits `l` and the byte's low bits `m`
abbrev coded : ℕ → ℕ → ℕ → ℕ → ℕ → ℕ
coded b s w l m = bit_or (bit_or (b / 2 ^ (s + w) * 2 ^ w % 65536) l * 2 ^ s % 65536) m

-- what `with` joins first: the bits above the field and the value
abbrev mid : ℕ → ℕ → ℕ → ℕ → ℕ
mid b s w v = bit_or (b / 2 ^ (s + w) * 2 ^ w) (v % 2 ^ w)

module _ (b s w v j : ℕ) (hb : b < 256) (hj : j + (s + w) ≡ 8) where
  -- the bits above the field are at most j
  high_lt : b / 2 ^ (s + w) < 2 ^ j
  high_lt = shr_lt j (s + w) (subst (λ (k : ℕ). b < 2 ^ k) (sym hj) hb)

  -- joining is adding
  mid_is : mid b s w v ≡ b / 2 ^ (s + w) * 2 ^ w + v % 2 ^ w
  mid_is = or_shifted (b / 2 ^ (s + w)) w (v % 2 ^ w) (mod-lt v (pow_pos w))

  -- and has at most j + w bits
  mid_lt : mid b s w v < 2 ^ (j + w)
  mid_lt = or_lt (j + w) _ _ (shl_lt j w high_lt) (lt_of_lt_of_le (mod-lt v (pow_pos w)) (pow_mono (omega arith)))

  -- neither shift wraps
  exact : coded b s w (v % 2 ^ w) (b % 2 ^ s) ≡ bit_or (mid b s w v * 2 ^ s) (b % 2 ^ s)
  exact =
      ap (λ (k : ℕ). bit_or (bit_or k (v % 2 ^ w) * 2 ^ s % 65536) (b % 2 ^ s)) (shl_exact j w 16 high_lt (omega arith))
      ∙ ap (λ (k : ℕ). bit_or k (b % 2 ^ s)) (shl_exact (j + w) s 16 mid_lt (omega arith))

  -- the result is a byte
  coded_lt : coded b s w (v % 2 ^ w) (b % 2 ^ s) < 256
  coded_lt =
      let e : j + w + s ≡ 8 = omega arith in
      let l : bit_or (mid b s w v * 2 ^ s) (b % 2 ^ s) < 2 ^ (j + w + s) =
      or_lt (j + w + s) _ _ (shl_lt (j + w) s mid_lt) (lt_of_lt_of_le (mod-lt b (pow_pos s)) (pow_mono (omega arith))) in
      subst (λ (k : ℕ). k < 256) (sym exact) (subst (λ (k : ℕ). bit_or (mid b s w v * 2 ^ s) (b % 2 ^ s) < 2 ^ k) e l)

  -- the result is the byte spliced
  coded_is : coded b s w (v % 2 ^ w) (b % 2 ^ s) ≡ spliced b s w v
  coded_is =
      exact
      ∙ or_shifted (mid b s w v) s (b % 2 ^ s) (mod-lt b (pow_pos s))
      ∙ ap (λ (k : ℕ). k * 2 ^ s + b % 2 ^ s) mid_is
      ∙ sym (nested b s w v)

-- `with` starts a field past the byte at its end
with_capped : (b s w v : ℕ) → with_of b (min s 8) w v ≡ with_of b s w v
with_capped b s w v = go (cases_lt s 8)
  where
    go : (s < 8) ⊎ (8 ≤ s) → with_of b (min s 8) w v ≡ with_of b s w v
    go (inl h) = ap (λ (k : ℕ). with_of b k w v) (omega arith)
    go (inr h) = sym (with_out b (min s 8) w v (omega arith)) ∙ with_out b s w v h

-- of the shift and the width that `with` takes
module _ (b s w v : ℕ) (hb : b < 256) where
  -- what is left of the byte above the field
  fits : 8 - min s 8 - width_in (min s 8) w + (min s 8 + width_in (min s 8) w) ≡ 8
  fits = omega arith

  -- `with` meets its definition
  pub with_is : coded b (min s 8) (width_in (min s 8) w) (v % 2 ^ width_in (min s 8) w) (b % 2 ^ min s 8) ≡ with_of b s w v
  unfolding with_of
  with_is = coded_is b (min s 8) (width_in (min s 8) w) v _ hb fits ∙ with_capped b s w v

  -- and its cast loses nothing
  pub with_lt : coded b (min s 8) (width_in (min s 8) w) (v % 2 ^ width_in (min s 8) w) (b % 2 ^ min s 8) < 256
  with_lt = coded_lt b (min s 8) (width_in (min s 8) w) v _ hb fits
