-- The elements of a list, and the lists in a flat list.
-- Assumes nothing.
use mathlib.Core.Path.{◌≡◌, refl, sym, ap, ◌∙◌}
use mathlib.Core.List.{List, [], ◌∷◌}
use mathlib.Core.Option.{none, some}
use Prim.Native.Nat.{ℕ, zero, suc, ◌+◌, ◌-◌, ◌≤◌, ◌<◌, min}
use native.Mathlib.Decide.{dec_le}
use native.Mathlib.Omega.{arith}
use lib.ListN.{length, take, drop, get_or, get_elem?, length-drop}
use Rattle.std.proofs.Common.{Bor, Some, None}
use Rattle.std.specs.declared.option.Option as rust
use Rattle.std.specs.Option.{option_copied}
use Rattle.std.specs.Slice.{IsItemAt}
use Rattle.laws.proofs.Lists.{take_shown}
use Rattle.reader.specs.Items.{at_told}

module _ {A : Type 0} where
  -- an index past the end is that of no element
  pub elem_none : (l : List A) (i : ℕ) → length l ≤ i → get_elem? l i ≡ none
  elem_none [] i h = refl
  elem_none (x ∷ l) zero h = absurd (omega arith)
  elem_none (x ∷ l) (suc i) h = elem_none l i (omega arith)

  pub elem_some : (l : List A) (i : ℕ) (d : A) → i < length l → get_elem? l i ≡ some (get_or l i d)
  elem_some [] i d h = absurd (omega arith)
  elem_some (x ∷ l) zero d h = refl
  elem_some (x ∷ l) (suc i) d h = elem_some l i d (omega arith)

  pub elem_take : (l : List A) (k i : ℕ) → i < k → get_elem? (take k l) i ≡ get_elem? l i
  elem_take [] zero i h = absurd (omega arith)
  elem_take [] (suc k) i h = refl
  elem_take (x ∷ l) zero i h = absurd (omega arith)
  elem_take (x ∷ l) (suc k) zero h = refl
  elem_take (x ∷ l) (suc k) (suc i) h = elem_take l k i (omega arith)

  pub elem_drop : (l : List A) (n i : ℕ) → get_elem? (drop n l) i ≡ get_elem? l (n + i)
  elem_drop l zero i = ap (get_elem? l) (omega arith)
  elem_drop [] (suc n) i = refl
  elem_drop (x ∷ l) (suc n) i = elem_drop l n i ∙ sym (next i) where
    next : (i : ℕ) → get_elem? (x ∷ l) (suc n + i) ≡ get_elem? l (n + i)
    next i = let e : suc n + i ≡ suc (n + i) = omega arith in ap (get_elem? (x ∷ l)) e

  -- an element that was looked up
  pub got : (l : List A) (i : ℕ) (r : rust.Option (Bor A)) → IsItemAt l i r → at_told (option_copied r) ≡ get_elem? l i
  got l i (Some x) h = ap some h.1 ∙ sym (elem_some l i x.now h.3.0)
  got l i None h = sym (elem_none l i h.3)

-- a part shows no more than there is
pub part_shown : {A : Type 0} (l : List A) (from to a b : ℕ) → b ≡ min to (length l) → a ≡ min from b → take (b - a) (drop a l) ≡ take (to - from) (drop from l)
part_shown l from to a b eb ea = go (dec_le from b) where
  go : Dec (from ≤ b) → take (b - a) (drop a l) ≡ take (to - from) (drop from l)
  go (yes h) =
      let k : a ≡ from = omega arith in
      let m : b - from ≡ min (to - from) (length (drop from l)) = simp length-drop (omega arith) in
      ap (λ (i : ℕ). take (b - i) (drop i l)) k ∙ take_shown (drop from l) (to - from) (b - from) m
  go (no h) =
      let k : b - a ≡ 0 = omega arith in
      let m : 0 ≡ min (to - from) (length (drop from l)) = simp length-drop (omega arith) in
      ap (λ (i : ℕ). take i (drop a l)) k ∙ take_shown (drop from l) (to - from) 0 m
