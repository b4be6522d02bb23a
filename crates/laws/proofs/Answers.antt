-- Storing one element after another is `copied`, also where the list ends before them.
-- Assumes nothing.
use mathlib.Core.Path.{◌≡◌, refl, ap, sym, ◌∙◌}
use mathlib.Core.List.{List, [], ◌∷◌, ◌++◌, append-nil}
use Prim.Native.Nat.{ℕ, suc, ◌≤◌}
use native.Mathlib.Omega.{arith}
use lib.ListN.{length, length-append}
use lib.Seq.{sets, set_out, set-append_seam, append_snoc, take-nil}
use Rattle.laws.specs.Copied.{copied}

-- past the end nothing changes
sets_out : (xs l : List ℕ) (i : ℕ) → length l ≤ i → sets l i xs ≡ l
sets_out [] l i h = refl
sets_out (x ∷ xs) l i h = ap (λ (m : List ℕ). sets m (suc i) xs) (set_out l i x h) ∙ sets_out xs l (suc i) (omega arith)

copied_none : (l : List ℕ) → l ≡ copied l []
copied_none l = ap (λ (m : List ℕ). m ++ l) (sym (take-nil (length l)))

sets_at : (xs p l : List ℕ) → sets (p ++ l) (length p) xs ≡ p ++ copied l xs
sets_at [] p l = ap (λ (m : List ℕ). p ++ m) (copied_none l)
sets_at (x ∷ xs) p [] =
    let e : p ++ [] ≡ p = append-nil p in
    sets_out (x ∷ xs) (p ++ []) (length p) (simp length-append (omega arith))
sets_at (x ∷ xs) p (y ∷ l) =
    let n : suc (length p) ≡ length (p ++ (x ∷ [])) = simp length-append (omega arith) in
    ap (λ (m : List ℕ). sets m (suc (length p)) xs) (set-append_seam p y l x ∙ sym (append_snoc p x l))
    ∙ ap (λ (k : ℕ). sets (p ++ (x ∷ []) ++ l) k xs) n
    ∙ sets_at xs (p ++ (x ∷ [])) l
    ∙ append_snoc p x (copied l xs)

pub sets_copied : (l xs : List ℕ) → sets l 0 xs ≡ copied l xs
sets_copied l xs = sets_at xs [] l
