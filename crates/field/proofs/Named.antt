-- Document 01, "Settings to registers": "`with_` alters its own field", of the fields of a register by their names.
-- Assumes nothing.
use mathlib.Core.Path.{◌≡◌, sym, subst, ◌∙◌}
use mathlib.Core.Bool.{Bool, true, false, cond}
use mathlib.Core.List.{List, [], ◌∷◌}
use mathlib.Core.Logic.{◌⊎◌, inl, inr}
use Prim.Native.Nat.{ℕ, ◌+◌, ◌%◌, ◌^◌, ◌≤◌}
use Prim.Native.String.{String}
use native.Mathlib.Omega.{arith}
use lib.Dec.{T}
use lib.Text.{eqt, eqt→eq}
use Rattle.field.specs.Layout.{Part, part, start_of, width_of, total, get_at, with_at}
use Rattle.field.proofs.Own.{with_own, with_below, with_above}

-- one of two fields ends before the other starts
abbrev Apart : ℕ → ℕ → ℕ → ℕ → Type 0
Apart s w t u = (s + w ≤ t) ⊎ (t + u ≤ s)

-- one part more in front: it is one of the two fields, or it moves both up
step : (x y : Bool) (k s w t u : ℕ) → (T x → T y → ⊥) → Apart s w t u → Apart (cond x 0 (k + s)) (cond x k w) (cond y 0 (k + t)) (cond y k u)
step true true k s w t u h a = absurd (h tt tt)
step true false k s w t u h a = inl (omega arith)
step false true k s w t u h a = inr (omega arith)
step false false k s w t u h (inl a) = inl (omega arith)
step false false k s w t u h (inr a) = inr (omega arith)

-- the fields of two names lie apart
apart : (ps : List Part) (m n : String) → (m ≡ n → ⊥) → Apart (start_of ps m) (width_of ps m) (start_of ps n) (width_of ps n)
apart [] m n h = inl (omega arith)
apart (part p k ∷ ps) m n h =
    step (eqt p m) (eqt p n) k (start_of ps m) (width_of ps m) (start_of ps n) (width_of ps n) (λ x y. h (sym (eqt→eq p m x) ∙ eqt→eq p n y)) (apart ps m n h)

-- a field lies within the register
within : (ps : List Part) (n : String) → start_of ps n + width_of ps n ≤ total ps
within [] n = omega arith
within (part p k ∷ ps) n = go (eqt p n) (within ps n)
  where
    go : (x : Bool) → start_of ps n + width_of ps n ≤ total ps → cond x 0 (k + start_of ps n) + cond x k (width_of ps n) ≤ k + total ps
    go true h = omega arith
    go false h = omega arith

-- the field reads the value, as far as it is wide
pub own_field : (ps : List Part) (n : String) (b v : ℕ) → total ps ≡ 8 → get_at ps n (with_at ps n b v) ≡ v % 2 ^ width_of ps n
own_field ps n b v e = with_own b (start_of ps n) (width_of ps n) v (subst (λ (k : ℕ). start_of ps n + width_of ps n ≤ k) e (within ps n))

-- a field of another name reads as before
pub other_field : (ps : List Part) (m n : String) (b v : ℕ) → (m ≡ n → ⊥) → get_at ps m (with_at ps n b v) ≡ get_at ps m b
other_field ps m n b v h = go (apart ps m n h)
  where
    go : Apart (start_of ps m) (width_of ps m) (start_of ps n) (width_of ps n) → get_at ps m (with_at ps n b v) ≡ get_at ps m b
    go (inl a) = with_below b (start_of ps n) (width_of ps n) v (start_of ps m) (width_of ps m) a
    go (inr a) = with_above b (start_of ps n) (width_of ps n) v (start_of ps m) (width_of ps m) a
