-- Lists that show a part of an array, lists of bytes, and what holds of each element.
-- Assumes nothing.
use mathlib.Core.Path.{◌≡◌, refl, ap, sym, ◌∙◌}
use mathlib.Core.List.{List, [], ◌∷◌, ◌++◌, map, append_assoc}
use Prim.Native.Nat.{ℕ, suc, ◌≤◌, ◌<◌, min}
use native.Mathlib.Decide.{dec_le}
use native.Mathlib.Nat.{min-eq_left, min-eq_right}
use native.Mathlib.Omega.{arith}
use lib.ListN.{length, take, get_or, length-map, length-take}
use lib.Seq.{take_all, take-length}
use Rattle.laws.specs.Bytes.{All, Bytes}
use Rattle.laws.specs.Lists.{joined}

-- a list shows no more than its length
pub take_shown : {A : Type 0} (l : List A) (n k : ℕ) → k ≡ min n (length l) → take k l ≡ take n l
take_shown {A} l n k e = ap (λ (m : ℕ). take m l) e ∙ go (dec_le n (length l)) where
  go : Dec (n ≤ length l) → take (min n (length l)) l ≡ take n l
  go (yes h) = ap (λ (m : ℕ). take m l) (min-eq_left h)
  go (no h) =
      let g : length l ≤ n = omega arith in
      ap (λ (m : ℕ). take m l) (min-eq_right g) ∙ take-length l ∙ sym (take_all n l g)

-- a count n of what a list shows, k of its elements or all where it has fewer
module _ {A : Type 0} (l : List A) (k n : ℕ) (e : n ≡ length (take k l)) where
  pub shown_part : take n l ≡ take k l
  shown_part = take_shown l k n (e ∙ length-take k l)

-- what is known of a field that is an array of structs stands at a `map` of it
pub length_of_map : (X Y : Type 0) (f : X → Y) (l : List X) (n : ℕ) → length (map f l) ≡ n → length l ≡ n
length_of_map X Y f l n e = sym (length-map l f) ∙ e

-- what is below 256 everywhere is a list of bytes
pub bytes_of : (l : List ℕ) → ((i : ℕ) → get_or l i 0 < 256) → Bytes l
bytes_of [] h = tt
bytes_of (b ∷ l) h = (h 0, bytes_of l (λ i. h (suc i)))

pub joined_append : {A : Type 0} (xs ys : List (List A)) → joined (xs ++ ys) ≡ joined xs ++ joined ys
joined_append [] ys = refl
joined_append (x ∷ xs) ys = ap (λ l. x ++ l) (joined_append xs ys) ∙ sym (append_assoc x (joined xs) (joined ys))

-- ---- what holds of each element

pub all_append : {A : Type 0} (P : A → Type 0) (l m : List A) → All P l → All P m → All P (l ++ m)
all_append P [] m p q = q
all_append P (x ∷ l) m p q = (p.0, all_append P l m p.1 q)

pub all_left : {A : Type 0} (P : A → Type 0) (l m : List A) → All P (l ++ m) → All P l
all_left P [] m h = tt
all_left P (x ∷ l) m h = (h.0, all_left P l m h.1)

pub all_right : {A : Type 0} (P : A → Type 0) (l m : List A) → All P (l ++ m) → All P m
all_right P [] m h = h
all_right P (x ∷ l) m h = all_right P l m h.1

pub all_map : {A B : Type 0} {P : A → Type 0} (Q : B → Type 0) (f : A → B) (h : (a : A) → P a → Q (f a)) (l : List A) → All P l → All Q (map f l)
all_map Q f h [] p = tt
all_map Q f h (x ∷ l) p = (h x p.0, all_map Q f h l p.1)
