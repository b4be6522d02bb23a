-- What is scanned, by what each walk gave.
-- Assumes nothing.
use Rattle.std.proofs.Common.{Result, Ok, Err}
use mathlib.Core.Path.{◌≡◌, sym, ap, ◌∙◌, subst}
use mathlib.Core.Bool.{Bool, true, cond}
use mathlib.Core.List.{List, [], ◌∷◌}
use mathlib.Core.Option.{Option, none, some}
use Prim.Native.Nat.{ℕ, ◌+◌, ◌-◌, ◌<◌}
use native.Mathlib.Omega.{arith}
use borrow.Author.Tests.{eq-eqb, ltb-true}
use lib.Dec.{ltb}
use lib.ListN.{length, take, drop, get_or}
use Rattle.errors.specs.declared.Error.{Error}
use Rattle.errors.specs.declared.Error.TheVariants.{NotAnImage}
use Rattle.content.specs.ReadImage.{all_zero, counts_fit}
use Rattle.content.proofs.Codec.{some_inj, cond_some, then_some}
use Rattle.content.proofs.Items.{counts_sound}
use Rattle.reader.proofs.Steps.{tells_ok, tells_err}
use Rattle.reader.specs.Walk.{Walked, Walks, item, walk, finished, sequences_then, after_snippets, snippets_then, after_counts, scan}

part : (l : List ℕ) (a n : ℕ) → take (a + n - a) (drop a l) ≡ take n (drop a l)
part l a n = let k : a + n - a ≡ n = omega arith in ap (λ (m : ℕ). take m (drop a l)) k

-- the last index is one of the image
pub walk_last : {S : Type 0} (step : List ℕ → S → Option S) (image es : List ℕ) (p : ℕ) (o : S) (w : Walked S) → p < length image
    → walk step image p es o ≡ some w → w.last < length image
walk_last step image [] p o w h e = subst (λ (w : Walked _). w.last < length image) (some_inj e) h
walk_last step image (x ∷ es) p o w h e =
    let (t, e₁) = cond_some (ltb p x) _ e in
    let (u, e₂) = cond_some (ltb x (length image)) _ e₁ in
    let (o', e₃, e₄) = then_some (step (item image p x) o) (λ o'. walk step image x es o') e₂ in
    walk_last step image es x o' w (ltb-true x (length image) u) e₄

module _ {S Q : Type 0} (one : List ℕ → S → Option S) (many : List ℕ → Q → Option Q) (image : List ℕ) (a : S) (b : Q) where
  module _ (h : length image ≡ 100) (s q : ℕ) (es : s ≡ get_or image 0 0) (eq : q ≡ get_or image 1 0) where
    counts_are : counts_fit s q ≡ true → counts_fit (get_or image 0 0) (get_or image 1 0) ≡ true
    counts_are k = (λ i. counts_fit (sym es i) (sym eq i)) ∙ k

    -- what the walk over the snippets answered
    module _ (r : Result ℕ Error) (x : S) (w : Walks (walk one image (1 + s + q) (take (2 + s - 2) (drop 2 image)) a) r x) (fits : counts_fit s q ≡ true) where
      counted : scan one many image a b ≡ snippets_then one many image a b s q (walk one image (1 + s + q) (take s (drop 2 image)) a)
      unfolding after_counts
      counted = simp (eq-eqb (length image) 100 h, counts_are fits) (λ i. after_counts one many image a b (sym es i) (sym eq i))

      taken : walk one image (1 + s + q) (take s (drop 2 image)) a ≡ walk one image (1 + s + q) (take (2 + s - 2) (drop 2 image)) a
      taken = λ i. walk one image (1 + s + q) (sym (part image 2 s) i) a

      pub not_snippets : (e : Error) → r ≡ Err e → (scan one many image a b ≡ none) × (e ≡ NotAnImage)
      not_snippets e k = let n = tells_err _ _ _ x w k in (counted ∙ ap (snippets_then one many image a b s q) (taken ∙ n.0), n.1)

      -- and what the walk over the sequences answered
      module _ (last : ℕ) (k : r ≡ Ok last) (r' : Result ℕ Error) (y : Q) (v : Walks (walk many image last (take (2 + s + q - (2 + s)) (drop (2 + s) image)) b) r' y) where
        followed : scan one many image a b ≡ sequences_then one many image a b x (walk many image last (take (2 + s + q - (2 + s)) (drop (2 + s) image)) b)
        unfolding after_snippets
        followed =
            let m = tells_ok _ _ _ w k in
            counted ∙ ap (snippets_then one many image a b s q) (taken ∙ m.is)
            ∙ (λ i. sequences_then one many image a b (m.left i) (walk many image (m.told i) (take q (drop (2 + s) image)) b))
            ∙ (λ i. sequences_then one many image a b x (walk many image last (sym (part image (2 + s) q) i) b))

        pub not_sequences : (e : Error) → r' ≡ Err e → (scan one many image a b ≡ none) × (e ≡ NotAnImage)
        not_sequences e d = let n = tells_err _ _ _ y v d in (followed ∙ ap (sequences_then one many image a b x) n.0, n.1)

        module _ (end : ℕ) (d : r' ≡ Ok end) where
          -- the last index is one of the image
          pub within : end < length image
          within =
              let m = tells_ok _ _ _ w k in
              let n = tells_ok _ _ _ v d in
              let few = counts_sound s q fits in
              let f : 1 + s + q < length image = omega (arith, few) in
              let g : last < length image = subst (λ (l : ℕ). l < length image) m.told (walk_last one image _ _ _ m.made f m.is) in
              subst (λ (l : ℕ). l < length image) n.told (walk_last many image _ _ _ n.made g n.is)

          pub ended : (z : Bool) → all_zero (drop (end + 1) image) ≡ z → scan one many image a b ≡ cond z (some (record { snippets = x; sequences = y })) none
          ended z j =
              let n = tells_ok _ _ _ v d in
              followed ∙ ap (sequences_then one many image a b x) n.is
              ∙ (λ i. finished one many image a b x (n.left i) (n.told i))
              ∙ ap (λ (t : Bool). cond t (some (record { snippets = x; sequences = y })) none) j
