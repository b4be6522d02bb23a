-- One call is accepted and adds, or is refused and adds nothing; lists of calls follow by induction, for any builder.
-- An array with a count shows a list.
-- Assumes nothing.
use mathlib.Core.Path.{◌≡◌, sym, ap, ap₂, ◌∙◌, subst}
use mathlib.Core.Logic.{◌⊎◌, inl, inr}
use mathlib.Core.Bool.{false, cond}
use mathlib.Core.List.{List, [], ◌∷◌, ◌++◌, map, append_assoc, append-nil}
use Prim.Native.Nat.{ℕ, ◌+◌, ◌≤◌, ◌<◌}
use native.Mathlib.Numerals.{add-one}
use native.Mathlib.Omega.{arith}
use borrow.Author.Tests.{lt-ltb, le-ltb}
use lib.Dec.{ltb}
use lib.ListN.{length, set, take, length-set, length-append}
use lib.Seq.{take-suc-set}
use Rattle.std.proofs.lemmas.List.{map-append}
use Rattle.errors.specs.Told.{Handed}
use Rattle.pattern.specs.Calls.{ran, held}

-- n is the call's number: accepted, and then one thing holds, or refused, and then another
abbrev pub Outcome : ℕ → Type 0 → Type 0 → Type 0
Outcome n new old = ((n ≡ 0) × new) ⊎ ((0 < n) × old)

module _ {B K X : Type 0} (step : B → K → Handed B) (adds : K → X) (P : B → List X → Type 0)
    (one : (b : B) (xs : List X) (k : K) → P b xs → Outcome (step b k).number (P (step b k).builder (xs ++ (adds k ∷ []))) (P (step b k).builder xs)) where
  -- what holds of a builder and what it held before holds after a list of calls
  pub all_calls : (ks : List K) (b : B) (xs : List X) → P b xs → P (ran step b ks) (xs ++ held step adds b ks)
  all_calls [] b xs h = subst (P b) (sym (append-nil xs)) h
  all_calls (k ∷ ks) b xs h = go (λ ys p. all_calls ks (step b k).builder ys p) (one b xs k h) where
    go : ((ys : List X) → P (step b k).builder ys → P (ran step (step b k).builder ks) (ys ++ held step adds (step b k).builder ks))
        → Outcome (step b k).number (P (step b k).builder (xs ++ (adds k ∷ []))) (P (step b k).builder xs)
        → P (ran step (step b k).builder ks) (xs ++ cond (ltb 0 (step b k).number) (held step adds (step b k).builder ks) (adds k ∷ held step adds (step b k).builder ks))
    go rest (inl w) =
        let e : ltb 0 (step b k).number ≡ false = le-ltb 0 (step b k).number (let z = w.0 in omega arith) in
        simp e
        (subst (P (ran step (step b k).builder ks)) (append_assoc xs (adds k ∷ []) (held step adds (step b k).builder ks)) (rest (xs ++ (adds k ∷ [])) w.1))
    go rest (inr w) = simp (lt-ltb 0 (step b k).number w.0) (rest xs w.1)

-- ---- an array with a count

-- the first n of l, seen by f, are xs, seen by g; l has room for `most`
pub record Shows {A B C : Type 0} (most : ℕ) (f : A → B) (g : C → B) (l : List A) (n : ℕ) (xs : List C) : Type 0 where
  pub long : length l ≡ most
  pub shown : map f (take n l) ≡ map g xs
  pub counted : n ≡ length xs
  pub room : n ≤ most

pub shows_more : {A B C : Type 0} (most : ℕ) (f : A → B) (g : C → B) (l : List A) (n : ℕ) (xs : List C) (a : A) (x : C)
    → Shows most f g l n xs → n < most → f a ≡ g x → Shows most f g (set l n a) (n + 1) (xs ++ (x ∷ []))
shows_more {A} {B} {C} most f g l n xs a x h r e =
    record {
      long = length-set l n a ∙ h.long;
      shown = ap (λ (k : ℕ). map f (take k (set l n a))) (add-one n)
          ∙ ap (map f) (take-suc-set l n a (let e = h.long in omega arith))
          ∙ map-append f (take n l) (a ∷ [])
          ∙ ap₂ (λ (u : List B) (v : B). u ++ (v ∷ [])) h.shown e
          ∙ sym (map-append g xs (x ∷ []));
      counted = let e = length-append xs (x ∷ []) in let g = h.counted in omega arith;
      room = omega arith;
    }
