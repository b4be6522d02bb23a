-- The search through an interval: where just the numbers from a to b pass a test, it finds a and b. Assumes nothing.
use Rattle.std.proofs.Common.{ℕ, zero, suc, pred, ◌≤◌, ◌<◌, ◌≡◌, ◌∙◌, ◌↔◌, Bool, true, false, cond, ltb, List, [], ◌∷◌, ◌++◌, filter, min, max, inr, ◌⊎◌, true≢false, Option, Some, None, refl, sym, ap, ap₂, arith, append-nil}
use Rattle.std.proofs.lemmas.Bool.{cases_lt}
use Rattle.std.proofs.lemmas.List.Elements.{filter-append}
use Rattle.std.proofs.lemmas.List.Sums.{fold-append}
use Rattle.ranges.specs.declared.Range.{Range}
use Rattle.ranges.specs.Search.{numbers_below, least_and_greatest, span}

abbrev range : ℕ → ℕ → Range
range a b = record { least = a; greatest = b }

-- one number more
abbrev extended : ℕ → Option Range → Option Range
extended n None = Some (range n n)
extended n (Some r) = Some (range (min r.least n) (max r.greatest n))

more : (n : ℕ) (l : List ℕ) → least_and_greatest (l ++ (n ∷ [])) ≡ extended n (least_and_greatest l)
more n [] = refl
more n (x ∷ xs) = ap₂ (λ (a b : ℕ). Some (range a b)) (fold-append min x xs (n ∷ [])) (fold-append max x xs (n ∷ []))

module _ (p : ℕ → Bool) (a b : ℕ) (passes : (n : ℕ) → (p n ≡ true) ↔ ((a ≤ n) × (n ≤ b))) where
  -- what is found below n
  abbrev found : ℕ → Option Range
  found n = cond (ltb a n) (span a (min b (pred n))) None

  step : (n : ℕ) (t : Bool) → p n ≡ t → cond t (extended n (found n)) (found n) ≡ found (suc n)
  step n true e = let h = (passes n).0 e in grind arith
  step n false e = go (cases_lt n a) (cases_lt b n) where
    go : (n < a) ⊎ (a ≤ n) → (b < n) ⊎ (n ≤ b) → found n ≡ found (suc n)
    go (inr h) (inr g) = absurd (true≢false (sym ((passes n).1 (h, g)) ∙ e))
    go h g = grind arith

  pub finds : (n : ℕ) → least_and_greatest (filter p (numbers_below n)) ≡ found n
  unfolding numbers_below
  finds zero = grind arith
  finds (suc n) = ap least_and_greatest (filter-append p (numbers_below n) (n ∷ [])) ∙ go (p n) refl (finds n) where
    l : List ℕ
    l = filter p (numbers_below n)

    go : (t : Bool) → p n ≡ t → least_and_greatest l ≡ found n → least_and_greatest (l ++ cond t (n ∷ []) []) ≡ found (suc n)
    go true e h = more n l ∙ ap (extended n) h ∙ step n true e
    go false e h = ap least_and_greatest (append-nil l) ∙ h ∙ step n false e

  pub is_span : (limit : ℕ) → b < limit → least_and_greatest (filter p (numbers_below limit)) ≡ span a b
  is_span limit h = finds limit ∙ grind arith
