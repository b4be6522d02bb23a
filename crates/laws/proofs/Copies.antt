-- What is copied where it fits, bytes laid over a list, and bytes placed from an index on, one part behind the other.
-- Assumes nothing.
use mathlib.Core.Path.{◌≡◌, refl, ap, sym, ◌∙◌}
use mathlib.Core.List.{List, [], ◌∷◌, ◌++◌, append_assoc, append-nil}
use Prim.Native.Nat.{ℕ, zero, suc, ◌+◌, ◌-◌, ◌≤◌}
use native.Mathlib.Omega.{arith}
use lib.ListN.{length, take, drop, set, length-append, length-take, length-drop, drop_of_length-le}
use lib.Seq.{take_all, take_at, drop_at, drop-drop}
use borrow.Author.Tests.{le-leb}
use borrow.Rule.Slice.PartMut.{mid_of, post_of, put_mid}
use borrow.Author.Rules.{part_to_end}
use mathlib.Core.Bool.{Bool, cond}
use Rattle.laws.specs.Copied.{copied, over, over_or_none, placed}

-- what fits is copied whole, and all of a buffer that is as long
pub copied_fits : (d xs : List ℕ) → length xs ≤ length d → copied d xs ≡ xs ++ drop (length xs) d
copied_fits d xs h = ap (λ (l : List ℕ). l ++ drop (length xs) d) (take_all (length d) xs h)

pub copied_all : (d xs : List ℕ) → length xs ≡ length d → copied d xs ≡ xs
copied_all d xs e =
    copied_fits d xs (omega (arith, e)) ∙ ap (λ (l : List ℕ). xs ++ l) (drop_of_length-le d {i = length xs} (omega (arith, e))) ∙ append-nil xs

-- what fits from an index on, copied there, is laid over the list
pub copied_over : (d xs : List ℕ) (at : ℕ) → at + length xs ≤ length d → take at d ++ copied (drop at d) xs ≡ over d at xs
copied_over d xs at h =
    ap (λ (l : List ℕ). take at d ++ (l ++ drop (length xs) (drop at d))) (take_all (length (drop at d)) xs (simp length-drop (omega arith)))
    ∙ ap (λ (l : List ℕ). take at d ++ (xs ++ l)) (drop-drop (length xs) at d)
    ∙ sym (append_assoc (take at d) xs (drop (at + length xs) d))

-- what fits from an index on is laid over the list
pub over_fits : (l xs : List ℕ) (at : ℕ) → at + length xs ≤ length l → over_or_none l at xs ≡ over l at xs
unfolding over_or_none
over_fits l xs at h = ap (λ (t : Bool). cond t (over l at xs) l) (le-leb _ _ h)

pub over_laid : (l xs : List ℕ) (at : ℕ) {m : List ℕ} → m ≡ over_or_none l at xs → at + length xs ≤ length l → m ≡ over l at xs
over_laid l xs at e h = e ∙ over_fits l xs at h

-- the same, where the part from the index on was lent to the copying
pub put_over : (d xs : List ℕ) (at n : ℕ) → length d ≡ n → at + length xs ≤ n → put_mid at (n - at) d (copied (mid_of at (n - at) d) xs) ≡ over d at xs
put_over d xs at n e h =
    let m : mid_of at (n - at) d ≡ drop at d = ap (λ (k : ℕ). mid_of at (k - at) d) (sym e) ∙ part_to_end d at in
    let p : post_of at (n - at) d ≡ [] = drop_of_length-le (drop at d) {i = n - at} (simp length-drop (omega arith)) in
    ap (λ (l : List ℕ). take at d ++ (copied l xs ++ post_of at (n - at) d)) m
    ∙ ap (λ (l : List ℕ). take at d ++ (copied (drop at d) xs ++ l)) p
    ∙ ap (λ (l : List ℕ). take at d ++ l) (append-nil (copied (drop at d) xs))
    ∙ copied_over d xs at (omega arith)

-- laying bytes over a list keeps its length
pub length_over : (l xs : List ℕ) (at : ℕ) → at + length xs ≤ length l → length (over l at xs) ≡ length l
length_over l xs at h = simp (length-append, length-take, length-drop) (omega arith)

-- laid behind a front, bytes leave the front alone
pub over_behind : (front l xs : List ℕ) (n : ℕ) → length front ≡ n → over (front ++ l) n xs ≡ front ++ xs ++ drop (length xs) l
over_behind front l xs n e =
    ap (λ (p : List ℕ). p ++ xs ++ drop (n + length xs) (front ++ l)) (take_at front l n e)
    ∙ ap (λ (p : List ℕ). front ++ xs ++ p) (sym (drop-drop (length xs) n (front ++ l)) ∙ ap (drop (length xs)) (drop_at front l n e))

-- and what stands behind as many others
pub over_at : (front z rest xs : List ℕ) (n : ℕ) → length front ≡ n → length z ≡ length xs → over (front ++ (z ++ rest)) n xs ≡ front ++ xs ++ rest
over_at front z rest xs n e f = over_behind front (z ++ rest) xs n e ∙ ap (λ (l : List ℕ). front ++ xs ++ l) (drop_at z rest (length xs) f)

-- ---- placed one part behind the other

pub placed_none : (l : List ℕ) (at : ℕ) → placed l at [] ≡ l
placed_none [] zero = refl
placed_none [] (suc at) = refl
placed_none (x ∷ l) zero = refl
placed_none (x ∷ l) (suc at) = ap (λ t. x ∷ t) (placed_none l at)

pub placed_first : (l : List ℕ) (at b : ℕ) (r : List ℕ) → placed l at (b ∷ r) ≡ placed (set l at b) (suc at) r
placed_first [] zero b r = sym (drop_of_length-le [] {i = length r} (omega arith))
placed_first [] (suc at) b r = sym (drop_of_length-le [] {i = length r} (omega arith))
placed_first (x ∷ l) zero b r = refl
placed_first (x ∷ l) (suc at) b r = ap (λ t. x ∷ t) (placed_first l at b r)

pub placed_more : (l : List ℕ) (at : ℕ) (a b : List ℕ) → placed (placed l at a) (at + length a) b ≡ placed l at (a ++ b)
placed_more l at [] b = ap (λ n. placed (placed l at []) n b) (omega arith) ∙ ap (λ t. placed t at b) (placed_none l at)
placed_more l at (x ∷ a) b =
    ap (λ n. placed (placed l at (x ∷ a)) n b) (omega arith)
    ∙ ap (λ t. placed t (suc at + length a) b) (placed_first l at x a)
    ∙ placed_more (set l at x) (suc at) a b
    ∙ sym (placed_first l at x (a ++ b))
