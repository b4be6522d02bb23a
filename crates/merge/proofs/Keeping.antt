-- Items one by one: tested, and put behind those that are kept.
-- Assumes nothing.
use Rattle.std.proofs.Common.{◌≡◌, ◌+◌, ◌≤◌, ◌<◌, ◌++◌, ◌||◌, ◌∙◌, Bool, true, false, ℕ, zero, suc, List, [], ◌∷◌, cond, ltb, map, length, drop, refl, sym, ap, subst, arith}
use mathlib.Core.List.{append_assoc}
use lib.ListN.{length-append}
use borrow.Author.Tests.{lt-ltb, le-ltb, ltb-true, ltb-false}
use Rattle.errors.specs.declared.Error.{Error}
use Rattle.errors.specs.Number.{error_number}
use Rattle.errors.proofs.Numbers.{has_number}
use Rattle.laws.specs.Bytes.{All}
use Rattle.laws.specs.Lists.{joined}
use Rattle.frame.specs.declared.FrameBuilder.{FrameBuilder}
use Rattle.readings.specs.InPlace.{item_at, items_at, frames_in}
use Rattle.readings.proofs.InPlace.{items_next, items_end}
use Rattle.pool.specs.declared.Pool.{Pool}
use Rattle.pool.specs.Kept.{kept, Pushed}
use Rattle.pool.proofs.Keeping.{count}
use Rattle.std.specs.List.{list_any}
use Rattle.std.proofs.lemmas.List.Folds.{list_any-append}

-- ---- whether one passes

module _ (p : FrameBuilder → Bool) (image : List ℕ) (k n i : ℕ) where
  pub any_next : i < n
      → list_any p (joined (map frames_in (drop i (items_at image k n)))) ≡ (list_any p (frames_in (item_at image (k + i))) || list_any p (joined (map frames_in (drop (i + 1) (items_at image k n)))))
  any_next h =
      ap (λ l. list_any p (joined (map frames_in l))) (items_next image k n i h)
      ∙ list_any-append p (frames_in (item_at image (k + i))) (joined (map frames_in (drop (i + 1) (items_at image k n))))

  pub any_end : n ≤ i → list_any p (joined (map frames_in (drop i (items_at image k n)))) ≡ false
  any_end h = ap (λ l. list_any p (joined (map frames_in l))) (items_end image k n i h)

-- ---- one item more

items_last : (image : List ℕ) (k n : ℕ) → items_at image k (suc n) ≡ items_at image k n ++ item_at image (k + n) ∷ []
items_last image k zero = (λ t. item_at image (at t) ∷ []) where
  at : k ≡ k + 0
  at = omega arith
items_last image k (suc n) = (λ t. item_at image k ∷ items_last image (suc k) n t) ∙ (λ t. item_at image k ∷ (items_at image (suc k) n ++ item_at image (at t) ∷ [])) where
  at : suc k + n ≡ k + suc n
  at = omega arith

pub items_more : (image : List ℕ) (k n : ℕ) → items_at image k (n + 1) ≡ items_at image k n ++ item_at image (k + n) ∷ []
items_more image k n = let e : n + 1 ≡ suc n = omega arith in ap (items_at image k) e ∙ items_last image k n

-- what holds of each item's g holds of the i-th's
pub items_each : {A : Type 0} (P : A → Type 0) (g : List ℕ → A) (image : List ℕ) (k n i : ℕ) → All P (map g (items_at image k n)) → i < n → P (g (item_at image (k + i)))
items_each P g image k zero i h t = absurd (omega arith)
items_each P g image k (suc n) zero h t = let e : k ≡ k + 0 = omega arith in subst (λ j. P (g (item_at image j))) e h.0
items_each P g image k (suc n) (suc i) h t =
    let e : suc k + i ≡ k + suc i = omega arith in subst (λ j. P (g (item_at image j))) e (items_each P g image (suc k) n i h.1 (omega arith))

pub has_room : (a b full : ℕ) → 1 ≤ full → 0 ≡ cond (ltb a b) 0 full → a < b
has_room a b full h v = go (ltb a b) refl v where
  go : (t : Bool) → ltb a b ≡ t → 0 ≡ cond t 0 full → a < b
  go true e v = ltb-true a b e
  go false e v = absurd (omega arith)

pub all_fit : (most full n : ℕ) → n ≤ most → 0 ≡ cond (ltb most n) full 0
all_fit most full n h = ap (λ t. cond t full 0) (sym (le-ltb most n h))

module _ (most : ℕ) (before items : List (List ℕ)) (p : Pool most) (e : p ≡ kept most (before ++ items)) where
  many : p.count ≡ length before + length items
  many = count most (before ++ items) p e ∙ length-append before items

  pub kept_room : p.count < most → length before + length items < most
  kept_room h = omega (arith, many)

  -- refused: those that there are, and one more, have no room
  pub too_many : (u : Error) (full total : ℕ) → error_number u ≡ cond (ltb p.count most) 0 full → length items < total
      → (error_number u ≡ cond (ltb most (length before + total)) full 0) × (most < length before + total)
  too_many u full total v h = go (ltb p.count most) refl v where
    go : (t : Bool) → ltb p.count most ≡ t → error_number u ≡ cond t 0 full → (error_number u ≡ cond (ltb most (length before + total)) full 0) × (most < length before + total)
    go true e v = absurd (omega (arith, v, has_number u))
    go false e v =
        let over : most < length before + total = omega (arith, many, ltb-false p.count most e) in
        (v ∙ ap (λ t. cond t full 0) (sym (lt-ltb most (length before + total) over)), over)

  pub kept_more : (x : List ℕ) (p' : Pool most) → p.count < most → Pushed most x p p' → p' ≡ kept most (before ++ (items ++ x ∷ []))
  kept_more x p' h q =
      let n = length-append before items in
      q (before ++ items) (omega (arith, many)) e
      ∙ ap (λ t. kept most (cond t ((before ++ items) ++ x ∷ []) (before ++ items))) (lt-ltb (length (before ++ items)) most (omega (arith, many)))
      ∙ ap (kept most) (append_assoc before items (x ∷ []))
