-- Document 01, "Settings to registers": "`with_` alters its own field". The field then reads the value, and every field below and
-- above it, so every other bit, is as it was.
-- Assumes nothing.
use mathlib.Core.Path.{◌≡◌, sym, ap, ◌∙◌}
use Prim.Native.Nat.{ℕ, ◌+◌, ◌-◌, ◌*◌, ◌/◌, ◌%◌, ◌^◌, ◌≤◌}
use native.Mathlib.Nat.{mod-lt, add-mul, mul_assoc, mul_comm}
use native.Mathlib.Omega.{arith}
use lib.Pow.{pow_pos, pow-add, shr-shr, high, low, field, mod-mod-pow}
use Rattle.field.specs.Field.{get_of, width_in, spliced, with_of}

module _ (b s w v : ℕ) where
  -- the parts by their shifts, as the code makes them
  pub nested : spliced b s w v ≡ (b / 2 ^ (s + w) * 2 ^ w + v % 2 ^ w) * 2 ^ s + b % 2 ^ s
  nested =
      let q : b / 2 ^ (s + w) * 2 ^ (s + w) ≡ b / 2 ^ (s + w) * 2 ^ w * 2 ^ s =
      ap (λ (k : ℕ). b / 2 ^ (s + w) * k) (pow-add 2 s w ∙ mul_comm (2 ^ s) (2 ^ w)) ∙ sym (mul_assoc (b / 2 ^ (s + w)) (2 ^ w) (2 ^ s)) in
      ap (λ (k : ℕ). k + v % 2 ^ w * 2 ^ s + b % 2 ^ s) q
      ∙ ap (λ (k : ℕ). k + b % 2 ^ s) (sym (add-mul (b / 2 ^ (s + w) * 2 ^ w) (v % 2 ^ w) (2 ^ s)))

  -- the bits below the field are the byte's
  low_kept : spliced b s w v % 2 ^ s ≡ b % 2 ^ s
  low_kept = ap (λ (k : ℕ). k % 2 ^ s) nested ∙ low _ s (mod-lt b (pow_pos s))

  -- the bits from the field's first up
  shifted : spliced b s w v / 2 ^ s ≡ b / 2 ^ (s + w) * 2 ^ w + v % 2 ^ w
  shifted = ap (λ (k : ℕ). k / 2 ^ s) nested ∙ high _ s (mod-lt b (pow_pos s))

  -- the bits above the field are the byte's
  high_kept : spliced b s w v / 2 ^ (s + w) ≡ b / 2 ^ (s + w)
  high_kept = sym (shr-shr (spliced b s w v) s w) ∙ ap (λ (k : ℕ). k / 2 ^ w) shifted ∙ high _ w (mod-lt v (pow_pos w))

  -- the field reads the value
  own : get_of (spliced b s w v) s w ≡ v % 2 ^ w
  unfolding get_of
  own = ap (λ (k : ℕ). k % 2 ^ w) shifted ∙ low _ w (mod-lt v (pow_pos w))

  -- a field that ends j bits below it
  below : (t u j : ℕ) → j + (u + t) ≡ s → get_of (spliced b s w v) t u ≡ get_of b t u
  unfolding get_of
  below t u j e = cut (spliced b s w v) ∙ ap (λ (k : ℕ). k % 2 ^ (u + t) / 2 ^ t) low_kept ∙ sym (cut b)
    where
      cut : (x : ℕ) → x / 2 ^ t % 2 ^ u ≡ x % 2 ^ s % 2 ^ (u + t) / 2 ^ t
      cut x =
          sym (field x u t) ∙ ap (λ (k : ℕ). k / 2 ^ t) (sym (mod-mod-pow x j (u + t)) ∙ ap (λ (k : ℕ). x % 2 ^ k % 2 ^ (u + t)) e)

  -- a field that starts j bits above it
  above : (t u j : ℕ) → s + w + j ≡ t → get_of (spliced b s w v) t u ≡ get_of b t u
  unfolding get_of
  above t u j e = ap (λ (k : ℕ). k % 2 ^ u) (cut (spliced b s w v) ∙ ap (λ (k : ℕ). k / 2 ^ j) high_kept ∙ sym (cut b))
    where
      cut : (x : ℕ) → x / 2 ^ t ≡ x / 2 ^ (s + w) / 2 ^ j
      cut x = ap (λ (k : ℕ). x / 2 ^ k) (sym e) ∙ sym (shr-shr x (s + w) j)

module _ (b s w v : ℕ) where
  -- a field within the byte is not cut
  whole : s + w ≤ 8 → with_of b s w v ≡ spliced b s w v
  unfolding with_of
  whole h = let e : width_in s w ≡ w = omega arith in ap (λ (k : ℕ). spliced b s k v) e

  -- the field reads the value, as far as it is wide
  pub with_own : s + w ≤ 8 → get_of (with_of b s w v) s w ≡ v % 2 ^ w
  with_own h = ap (λ (k : ℕ). get_of k s w) (whole h) ∙ own b s w v

  -- a field below it reads as before
  pub with_below : (t u : ℕ) → t + u ≤ s → get_of (with_of b s w v) t u ≡ get_of b t u
  unfolding with_of
  with_below t u h = below b s (width_in s w) v t u (s - (u + t)) (omega arith)

  -- a field above it reads as before
  pub with_above : (t u : ℕ) → s + w ≤ t → get_of (with_of b s w v) t u ≡ get_of b t u
  unfolding with_of
  with_above t u h = above b s (width_in s w) v t u (t - (s + width_in s w)) (omega arith)
