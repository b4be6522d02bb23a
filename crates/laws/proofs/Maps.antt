-- What std's `map` makes of an array, where the closure computes a function: that function of each element.
-- Assumes nothing.
use Rattle.std.proofs.Common.{ℕ, ◌≡◌, ◌<◌, List, length, map, get_or, slice_index_or, sym, subst, ◌∙◌}
use lib.ListN.{length-map}
use Rattle.std.proofs.lemmas.List.{ext_get_or, get_or-map}
use denote.Param.Members.{Mut, Called}

module _ {F A B : Type 0} (g : Mut F (A × Unit {0}) B) (h : A → B) (d : A)
    (computes : (p q : F) (x : A) (y : B) → Called g p (x, tt) y q → y ≡ h x) where
  pub mapped : (xs : List A) (ys : List B) (n : ℕ) → length xs ≡ n → length ys ≡ n
      → ((i : ℕ) (d : A) (e : B) → i < n → (p : F) × (q : F) × Called g p (slice_index_or xs i d, tt) (slice_index_or ys i e) q) → ys ≡ map h xs
  mapped xs ys n long longs at =
      ext_get_or (h d) ys (map h xs) (longs ∙ sym long ∙ sym (length-map xs h)) each where
        each : (i : ℕ) → i < length ys → get_or ys i (h d) ≡ get_or (map h xs) i (h d)
        each i lt =
            let below : i < n = subst (λ k. i < k) longs lt in
            let r = at i d (h d) below in
            computes r.0 r.1 _ _ r.2 ∙ sym (get_or-map h xs i d (h d) (subst (λ k. i < k) (sym long) below))
