-- Contents are the same, in the words of demand 3, exactly when they are equal as they are read back.
-- Assumes nothing.
use mathlib.Core.Path.{◌≡◌, refl, ap}
use mathlib.Core.List.{List, [], ◌∷◌, map}
use Prim.Native.Nat.{ℕ}
use native.Mathlib.Omega.{arith}
use Rattle.frame.specs.Agreement.{Agree}
use Rattle.frame.proofs.Canon.{canon, canon_agree, agree_canon}
use Rattle.content.specs.Content.{Content, Both, Same}
use Rattle.content.proofs.Codec.{cons_eq}

module _ {A B : Type 0} (R : A → A → Type 0) (f : A → B) where
  both_equal : ((x y : A) → R x y → f x ≡ f y) → (xs ys : List A) → Both R xs ys → map f xs ≡ map f ys
  both_equal h [] [] b = refl
  both_equal h [] (y ∷ ys) b = absurd b
  both_equal h (x ∷ xs) [] b = absurd b
  both_equal h (x ∷ xs) (y ∷ ys) b = cons_eq (h x y b.0) (both_equal h xs ys b.1)

  equal_both : ((x y : A) → f x ≡ f y → R x y) → (xs ys : List A) → map f xs ≡ map f ys → Both R xs ys
  equal_both h [] [] e = tt
  equal_both h [] (y ∷ ys) e = let z : ◌≡◌ {A = ℕ} 0 1 = cc in absurd (omega arith)
  equal_both h (x ∷ xs) [] e = let z : ◌≡◌ {A = ℕ} 0 1 = cc in absurd (omega arith)
  equal_both h (x ∷ xs) (y ∷ ys) e = (h x y (cc), equal_both h xs ys (cc))

-- a content as it is read back
unfoldable pub canonical : Content → Content
canonical c = record { snippets = c.snippets; sequences = map (map canon) c.sequences }

pub same_canonical : (c d : Content) → Same c d → canonical c ≡ canonical d
unfolding canonical
same_canonical c d s =
    let p = s.points in
    let f = both_equal (Both Agree) (map canon) (both_equal Agree canon agree_canon) c.sequences d.sequences s.frames in
    λ i. record { snippets = p i; sequences = f i }

pub canonical_same : (c d : Content) → canonical c ≡ canonical d → Same c d
unfolding canonical
canonical_same c d e =
    record {
      points = ap (λ (x : Content). x.snippets) e;
      frames = equal_both (Both Agree) (map canon) (equal_both Agree canon canon_agree) c.sequences d.sequences (ap (λ (x : Content). x.sequences) e);
    }
