-- Sums and end pointers of two lists; bytes copied behind others.
-- Assumes nothing.
use mathlib.Core.Path.{◌≡◌, refl, sym, ap, ◌∙◌}
use mathlib.Core.List.{List, [], ◌∷◌, ◌++◌, map, append_assoc, append-nil}
use Prim.Native.Nat.{ℕ, suc, ◌+◌, ◌≤◌}
use native.Mathlib.Decide.{dec_le}
use native.Mathlib.Nat.{add-zero}
use native.Mathlib.Omega.{arith}
use lib.ListN.{length, take, drop, length-append, length-take, length-drop, drop_of_length-le}
use lib.Seq.{take_all, take_at, drop_at, drop-drop, take-append-le, take-append-add}
use Rattle.laws.specs.Copied.{copied, over}
use Rattle.laws.specs.Lists.{joined}
use Rattle.memory.specs.Image.{end_pointers}
use Rattle.std.specs.Prelude.{sum}
use Rattle.std.proofs.lemmas.List.Sums.{sum_by-cons}
use Rattle.pool.specs.Kept.{ends}

-- ---- of items

pub sum_of_lengths : (items : List (List ℕ)) → sum (map length items) ≡ length (joined items)
sum_of_lengths [] = refl
sum_of_lengths (x ∷ xs) =
    sum_by-cons (λ k. k) (length x) (map length xs) ∙ ap (λ (n : ℕ). length x + n) (sum_of_lengths xs) ∙ sym (length-append x (joined xs))

pub ends_pointers : (items : List (List ℕ)) (before : ℕ) → ends before (map length items) ≡ end_pointers before items
ends_pointers [] before = refl
ends_pointers (x ∷ xs) before = ap (λ (l : List ℕ). (before + length x) ∷ l) (ends_pointers xs (before + length x))

pub ends_append : (xs ys : List ℕ) (before : ℕ) → ends before (xs ++ ys) ≡ ends before xs ++ ends (before + sum xs) ys
ends_append [] ys before = ap (λ (k : ℕ). ends k ys) (sym (add-zero before))
ends_append (x ∷ xs) ys before =
    let e : before + x + sum xs ≡ before + sum (x ∷ xs) = omega (arith, sum_by-cons (λ k. k) x xs) in
    ap (λ (l : List ℕ). (before + x) ∷ l) (ends_append xs ys (before + x) ∙ ap (λ (k : ℕ). ends (before + x) xs ++ ends k ys) e)

pub ends_length : (l : List ℕ) (before : ℕ) → length (ends before l) ≡ length l
ends_length [] before = refl
ends_length (x ∷ l) before = ap suc (ends_length l (before + x))

-- ---- bytes behind others

-- copied behind what was copied before
pub copied_more : (z a b : List ℕ) → take (length a) (copied z a) ++ copied (drop (length a) (copied z a)) b ≡ copied z (a ++ b)
copied_more z a b = go (dec_le (length a) (length z)) where
  go : Dec (length a ≤ length z) → take (length a) (copied z a) ++ copied (drop (length a) (copied z a)) b ≡ copied z (a ++ b)
  go (yes h) =
      let d : List ℕ = drop (length a) z in
      let e : copied z a ≡ a ++ d = ap (λ (l : List ℕ). l ++ d) (take_all (length z) a h) in
      let f : length z ≡ length a + length d = let k = length-drop (length a) z in omega arith in
      let t : take (length z) (a ++ b) ≡ a ++ take (length d) b = ap (λ (n : ℕ). take n (a ++ b)) f ∙ take-append-add a b (length d) in
      let r : drop (length (a ++ b)) z ≡ drop (length b) d = ap (λ (n : ℕ). drop n z) (length-append a b) ∙ sym (drop-drop (length b) (length a) z) in
      ap (λ (l : List ℕ). take (length a) l ++ copied (drop (length a) l) b) e
      ∙ ap (λ (l : List ℕ). l ++ copied (drop (length a) (a ++ d)) b) (take_at a d (length a) refl)
      ∙ ap (λ (l : List ℕ). a ++ copied l b) (drop_at a d (length a) refl)
      ∙ sym (append_assoc a (take (length d) b) (drop (length b) d))
      ∙ sym (ap (λ (l : List ℕ). l ++ drop (length (a ++ b)) z) t ∙ ap (λ (l : List ℕ). a ++ take (length d) b ++ l) r)
  go (no h) =
      let g : length z ≤ length a = omega arith in
      let k : length (copied z a) ≤ length a = simp (length-append, length-take, length-drop) (omega arith) in
      let e : drop (length a) (copied z a) ≡ [] = drop_of_length-le (copied z a) {i = length a} k in
      let t : take (length z) (a ++ b) ≡ take (length z) a = take-append-le (length z) a b g in
      let r : drop (length (a ++ b)) z ≡ drop (length a) z =
      drop_of_length-le z {i = length (a ++ b)} (simp length-append (omega arith)) ∙ sym (drop_of_length-le z {i = length a} g) in
      ap (λ (l : List ℕ). take (length a) (copied z a) ++ copied l b) e
      ∙ ap (λ (l : List ℕ). take (length a) (copied z a) ++ l) (drop_of_length-le [] {i = length b} (omega arith))
      ∙ append-nil (take (length a) (copied z a))
      ∙ take_all (length a) (copied z a) k
      ∙ sym (ap (λ (l : List ℕ). l ++ drop (length (a ++ b)) z) t ∙ ap (λ (l : List ℕ). take (length z) a ++ l) r)

-- laid behind what was laid
pub over_more : (l a b : List ℕ) (at next : ℕ) → next ≡ at + length a → at ≤ length l → over (over l at a) next b ≡ over l at (a ++ b)
over_more l a b at next e h =
    let p : List ℕ = take at l ++ a in
    let d : List ℕ = drop (at + length a) l in
    let n : length p ≡ next = simp (length-append, length-take) (omega arith) in
    let q : next + length b ≡ length p + length b = omega arith in
    let r : drop (length p + length b) (p ++ d) ≡ drop (length b) d = sym (drop-drop (length b) (length p) (p ++ d)) ∙ ap (drop (length b)) (drop_at p d (length p) refl) in
    let t : drop (length b) d ≡ drop (at + length (a ++ b)) l =
    drop-drop (length b) (at + length a) l ∙ ap (λ (k : ℕ). drop k l) (let g = length-append a b in let k : at + length a + length b ≡ at + length (a ++ b) = omega arith in k) in
    ap (λ (m : List ℕ). m ++ b ++ drop (next + length b) (p ++ d)) (take_at p d next n)
    ∙ ap (λ (k : ℕ). p ++ b ++ drop k (p ++ d)) q
    ∙ ap (λ (m : List ℕ). p ++ b ++ m) (r ∙ t)
    ∙ ap (λ (m : List ℕ). m ++ drop (at + length (a ++ b)) l) (append_assoc (take at l) a b)
