-- Items put into zeros one after the other are the image.
-- Assumes nothing.
use mathlib.Core.Path.{◌≡◌, refl, sym, ap, ◌∙◌}
use mathlib.Core.List.{List, [], ◌∷◌, ◌++◌, append_assoc}
use Prim.Native.Nat.{ℕ, suc, ◌+◌, ◌-◌, ◌≤◌}
use native.Mathlib.Nat.{add-zero}
use native.Mathlib.Omega.{arith}
use lib.ListN.{length, set, replicate, length-append, length-replicate, replicate-append-replicate}
use lib.Seq.{set-append_seam}
use Rattle.laws.specs.Copied.{over}
use Rattle.laws.proofs.Copies.{over_at}
use Rattle.laws.proofs.Lists.{joined_append}
use Rattle.laws.specs.Lists.{joined}
use Rattle.memory.specs.Image.{end_pointers, image_size, image_bytes}
use Rattle.memory.specs.Laid.{with_laid, laid}

abbrev zeros : ℕ → List ℕ
zeros n = replicate n 0

-- an image under way: header and end pointers p, zeros for the n end pointers to come, the bytes d, and m zeros
abbrev under_way : List ℕ → ℕ → List ℕ → ℕ → List ℕ
under_way p n d m = p ++ (zeros n ++ (d ++ zeros m))

-- one item more
laid_one : (p d x : List ℕ) (n m pointer at : ℕ) → pointer ≡ length p → at ≡ length p + suc n + length d → length x ≤ m
    → with_laid (under_way p (suc n) d m) pointer at x ≡ under_way (p ++ ((at + length x - 1) ∷ [])) n (d ++ x) (m - length x)
laid_one p d x n m pointer at f e h =
    let v : ℕ = at + length x - 1 in
    let a : List ℕ = p ++ (v ∷ (zeros n ++ d)) in
    let k : length a ≡ at = simp (length-append, length-replicate) (omega arith) in
    let z : zeros m ≡ zeros (length x) ++ zeros (m - length x) =
    ap zeros (let q : m ≡ length x + (m - length x) = omega arith in q) ∙ sym (replicate-append-replicate (length x) (m - length x) 0) in
    ap (λ (j : ℕ). over (set (under_way p (suc n) d m) j v) at x) f
    ∙ ap (λ (l : List ℕ). over l at x) (set-append_seam p 0 (zeros n ++ (d ++ zeros m)) v)
    ∙ ap (λ (l : List ℕ). over (p ++ (v ∷ (zeros n ++ (d ++ l)))) at x) z
    ∙ ap (λ (l : List ℕ). over l at x) (simp append_assoc)
    ∙ over_at a (zeros (length x)) (zeros (m - length x)) x at k (length-replicate (length x) 0)
    ∙ simp append_assoc

-- all of them
laid_all : (xs : List (List ℕ)) (p d : List ℕ) (m pointer at before : ℕ) → pointer ≡ length p → at ≡ before + 1 → at ≡ length p + length xs + length d → length (joined xs) ≤ m
    → laid (under_way p (length xs) d m) pointer at xs ≡ p ++ (end_pointers before xs ++ (d ++ (joined xs ++ zeros (m - length (joined xs)))))
unfolding laid
laid_all [] p d m pointer at before f b e h = ap (λ (k : ℕ). p ++ (d ++ zeros k)) (let q : m ≡ m - 0 = omega arith in q)
laid_all (x ∷ xs) p d m pointer at before f b e h =
    let g = length-append x (joined xs) in
    let v : at + length x - 1 ≡ before + length x = omega arith in
    let q : suc pointer ≡ length (p ++ ((at + length x - 1) ∷ [])) = simp length-append (omega arith) in
    let r : at + length x ≡ length (p ++ ((at + length x - 1) ∷ [])) + length xs + length (d ++ x) = simp length-append (omega arith) in
    let z : m - length x - length (joined xs) ≡ m - length (x ++ joined xs) = omega arith in
    ap (λ (l : List ℕ). laid l (suc pointer) (at + length x) xs) (laid_one p d x (length xs) m pointer at f e (omega arith))
    ∙ laid_all xs (p ++ ((at + length x - 1) ∷ [])) (d ++ x) (m - length x) (suc pointer) (at + length x) (before + length x) q (omega arith) r (omega arith)
    ∙ simp (v, z, append_assoc)

laid_append : (xs ys : List (List ℕ)) (image : List ℕ) (pointer at : ℕ)
    → laid image pointer at (xs ++ ys) ≡ laid (laid image pointer at xs) (pointer + length xs) (at + length (joined xs)) ys
unfolding laid
laid_append [] ys image pointer at = simp add-zero
laid_append (x ∷ xs) ys image pointer at =
    let p : suc pointer + length xs ≡ pointer + suc (length xs) = omega arith in
    let q : at + length x + length (joined xs) ≡ at + length (x ++ joined xs) = omega (arith, length-append x (joined xs)) in
    laid_append xs ys (with_laid image pointer at x) (suc pointer) (at + length x) ∙ simp (p, q)

-- put into zeros behind their numbers
pub laid_image : (ss qs : List (List ℕ)) → image_size ss qs ≤ 100
    → laid (length ss ∷ length qs ∷ zeros 98) 2 (2 + length ss + length qs) (ss ++ qs) ≡ image_bytes ss qs
laid_image ss qs h =
    let xs : List (List ℕ) = ss ++ qs in
    let g = length-append ss qs in
    let p : List ℕ = length ss ∷ length qs ∷ [] in
    let z : zeros 98 ≡ zeros (length xs) ++ zeros (98 - length xs) =
    ap zeros (let q : 98 ≡ length xs + (98 - length xs) = omega arith in q) ∙ sym (replicate-append-replicate (length xs) (98 - length xs) 0) in
    let k : 98 - length xs - length (joined xs) ≡ 100 - image_size ss qs = omega arith in
    ap (λ (l : List ℕ). laid (length ss ∷ length qs ∷ l) 2 (2 + length ss + length qs) xs) z
    ∙ laid_all xs p [] (98 - length xs) 2 (2 + length ss + length qs) (1 + length ss + length qs) refl (omega arith) (omega arith) (omega arith)
    ∙ simp (k, append_assoc)

pub joined_length : (ss qs : List (List ℕ)) → length (joined (ss ++ qs)) ≡ length (joined ss) + length (joined qs)
joined_length ss qs = ap length (joined_append ss qs) ∙ length-append (joined ss) (joined qs)

-- s snippets and q sequences, put one after the other as the code does
module _ (ss qs : List (List ℕ)) (s q : ℕ) (e : length ss ≡ s) (f : length qs ≡ q) where
  pub image_size_lem : 2 + s + q + length (joined ss) + length (joined qs) ≡ image_size ss qs
  image_size_lem = omega (arith, joined_length ss qs)

  pub image_put : 2 + s + q + length (joined ss) + length (joined qs) ≤ 100 → (at : ℕ) (image image' : List ℕ) → at ≡ 2 + s + q + length (joined ss)
      → image ≡ laid (s ∷ q ∷ zeros 98) 2 (2 + s + q) ss → image' ≡ laid image (2 + s) at qs → image' ≡ image_bytes ss qs
  image_put h at image image' a b d =
      let k : image_size ss qs ≤ 100 = omega (arith, image_size_lem) in
      d ∙ simp (b, a, ← e, ← f) (sym (laid_append ss qs _ 2 (2 + length ss + length qs)) ∙ laid_image ss qs k)
