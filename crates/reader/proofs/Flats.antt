-- Lists pushed one after the other are laid end to end, as long as there is room.
-- Assumes nothing.
use mathlib.Core.Path.{◌≡◌, refl, sym, ap, ◌∙◌}
use mathlib.Core.Bool.{Bool, cond}
use mathlib.Core.List.{List, [], ◌∷◌, ◌++◌, append_assoc, append-nil}
use Prim.Native.Nat.{ℕ, suc, ◌+◌, ◌-◌, ◌≤◌, ◌<◌}
use native.Mathlib.Omega.{arith}
use borrow.Author.Tests.{lt-ltb}
use lib.ListN.{length, take, drop, set, replicate, length-append}
use lib.Seq.{take_at, drop_at, set-append_seam, append_snoc}
use Rattle.laws.specs.Lists.{joined}
use Rattle.laws.proofs.Lists.{joined_append}
use Rattle.memory.specs.Image.{end_pointers}
use Rattle.content.proofs.Items.{length_pointers}
use Rattle.reader.specs.declared.Runs.{Runs}
use Rattle.reader.specs.Reading.{parts, runs_in, padded, laid}
use Rattle.reader.specs.Flat.{push_item, push_items, end_run}

module _ {A : Type 0} where
  pub joined_snoc : (xs : List (List A)) (x : List A) → joined (xs ++ x ∷ []) ≡ joined xs ++ x
  joined_snoc xs x = joined_append xs (x ∷ []) ∙ ap (λ (l : List A). joined xs ++ l) (append-nil x)

  ends_snoc : (xs : List (List A)) (p : ℕ) (x : List A) → end_pointers p (xs ++ x ∷ []) ≡ end_pointers p xs ++ (p + length (joined xs ++ x)) ∷ []
  ends_snoc [] p x = refl
  ends_snoc (y ∷ xs) p x =
      let n : p + length y + length (joined xs ++ x) ≡ p + length (y ++ joined xs ++ x) =
      omega (arith, length-append (joined xs) x, length-append (y ++ joined xs) x, length-append y (joined xs)) in
      ap (λ (l : List ℕ). (p + length y) ∷ l) (ends_snoc xs (p + length y) x ∙ ap (λ (k : ℕ). end_pointers (p + length y) xs ++ k ∷ []) n)

  parts_joined : (xs : List (List A)) (pre : List A) (p : ℕ) (r : List A) → length pre ≡ p → parts p (end_pointers p xs) (pre ++ (joined xs ++ r)) ≡ xs
  parts_joined [] pre p r h = refl
  parts_joined (x ∷ xs) pre p r h =
      let n : length x ≡ p + length x - p = omega arith in
      let g : length (pre ++ x) ≡ p + length x = length-append pre x ∙ ap (λ (j : ℕ). j + length x) h in
      let e : pre ++ ((x ++ joined xs) ++ r) ≡ (pre ++ x) ++ (joined xs ++ r) = ap (λ (z : List A). pre ++ z) (append_assoc x (joined xs) r) ∙ sym (append_assoc pre x (joined xs ++ r)) in
      let u : take (p + length x - p) (drop p (pre ++ ((x ++ joined xs) ++ r))) ≡ x =
      ap (take (p + length x - p)) (drop_at pre ((x ++ joined xs) ++ r) p h ∙ append_assoc x (joined xs) r) ∙ take_at x (joined xs ++ r) (p + length x - p) n in
      (λ i. u i ∷ parts (p + length x) (end_pointers (p + length x) xs) (e i)) ∙ ap (λ (z : List (List A)). x ∷ z) (parts_joined xs (pre ++ x) (p + length x) r g)

  -- the next place of a list that has room
  set_padded : (n : ℕ) (blank b : A) (l : List A) → length l < n → set (padded n blank l) (length l) b ≡ padded n blank (l ++ b ∷ [])
  set_padded n blank b l h =
      let k : n - length l ≡ suc (n - length (l ++ b ∷ [])) = omega (arith, length-append l (b ∷ [])) in
      ap (λ (m : ℕ). set (l ++ replicate m blank) (length l) b) k
      ∙ set-append_seam l blank (replicate (n - length (l ++ b ∷ [])) blank) b
      ∙ sym (append_snoc l b (replicate (n - length (l ++ b ∷ [])) blank))

module _ {A : Type 0} (most : ℕ) (blank : A) where
  -- the elements l behind each other, of which n lists end at es
  abbrev under : List A → List ℕ → ℕ → Runs A most
  under l es n = record { items = padded 96 blank l; len = length l; ends = es; count = n }

  pushed : (x l : List A) (es : List ℕ) (n : ℕ) → length l + length x ≤ 96 → push_items (under l es n) x ≡ under (l ++ x) es n
  unfolding push_item
  pushed [] l es n h = ap (λ (z : List A). under z es n) (sym (append-nil l))
  pushed (b ∷ x) l es n h =
      let o : Runs A most = record { items = set (padded 96 blank l) (length l) b; len = length l + 1; ends = es; count = n } in
      let t : push_item (under l es n) b ≡ o = ap (λ (t : Bool). cond t o (under l es n)) (lt-ltb (length l) 96 (omega arith)) in
      let s = set_padded 96 blank b l (omega arith) in
      let k = sym (length-append l (b ∷ [])) in
      ap (λ (z : Runs A most). push_items z x) (t ∙ λ i. record { items = s i; len = k i; ends = es; count = n })
      ∙ pushed x (l ++ b ∷ []) es n (omega (arith, length-append l (b ∷ [])))
      ∙ ap (λ (z : List A). under z es n) (append_snoc l b x)

  ended : (xs : List (List A)) (x : List A) → length xs < most
      → end_run (under (joined xs ++ x) (padded most 0 (end_pointers 0 xs)) (length xs)) ≡ laid most blank (xs ++ x ∷ [])
  unfolding end_run
  ended xs x g =
      let l : List A = joined xs ++ x in
      let n : length (end_pointers 0 xs) ≡ length xs = length_pointers 0 xs in
      let v : length l ≡ 0 + length l = omega arith in
      let s : set (padded most 0 (end_pointers 0 xs)) (length xs) (length l) ≡ padded most 0 (end_pointers 0 (xs ++ x ∷ [])) =
      (λ i. set (padded most 0 (end_pointers 0 xs)) (sym n i) (v i))
      ∙ set_padded most 0 (0 + length l) (end_pointers 0 xs) (omega arith)
      ∙ ap (padded most 0) (sym (ends_snoc xs 0 x)) in
      let j = sym (joined_snoc xs x) in
      let c = sym (length-append xs (x ∷ [])) in
      let o : Runs A most = record { items = padded 96 blank l; len = length l; ends = set (padded most 0 (end_pointers 0 xs)) (length xs) (length l); count = length xs + 1 } in
      ap (λ (t : Bool). cond t o (under l (padded most 0 (end_pointers 0 xs)) (length xs))) (lt-ltb (length xs) most g)
      ∙ λ i. under (j i) (s i) (c i)

  -- one more list
  pub add_list : (xs : List (List A)) (x : List A) → length (joined xs) + length x ≤ 96 → length xs < most
      → end_run (push_items (laid most blank xs) x) ≡ laid most blank (xs ++ x ∷ [])
  add_list xs x f g = ap end_run (pushed x (joined xs) (padded most 0 (end_pointers 0 xs)) (length xs) f) ∙ ended xs x g

  -- its parts are the lists
  pub shows : (o : Runs A most) (xs : List (List A)) → o ≡ laid most blank xs → runs_in o ≡ xs
  shows o xs e =
      ap (λ (z : Runs A most). runs_in z) e
      ∙ ap (λ (es : List ℕ). parts 0 es (padded 96 blank (joined xs))) (take_at (end_pointers 0 xs) (replicate (most - length (end_pointers 0 xs)) 0) (length xs) (length_pointers 0 xs))
      ∙ parts_joined xs [] 0 (replicate (96 - length (joined xs)) blank) refl
