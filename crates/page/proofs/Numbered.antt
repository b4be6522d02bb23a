-- The lines of a list, each with its number, placed one behind the other.
-- Assumes nothing.
use Rattle.std.proofs.Common.{◌≡◌, ◌+◌, ◌*◌, ◌∙◌, ℕ, suc, List, [], ◌∷◌, length, ap, sym, arith}
use Rattle.laws.specs.Copied.{placed}
use Rattle.laws.specs.Lists.{joined}
use Rattle.page.specs.Lines.{numbered}
use Rattle.laws.proofs.Copies.{placed_none}
use Rattle.page.proofs.Placed.{lines_placed}

pub numbered_next : {A B : Type 0} (f : ℕ → A → B) (n : ℕ) (xs : List A) (x : A) (r : List A) → xs ≡ x ∷ r → numbered f n xs ≡ f n x ∷ numbered f (n + 1) r
numbered_next f n xs x r e = ap (numbered f n) e ∙ ap (λ m. f n x ∷ numbered f m r) one where
  one : suc n ≡ n + 1
  one = omega arith

-- the next line of a list of them goes behind p others
pub line_more : {A : Type 0} (f : ℕ → A → List ℕ) (xs : List A) (x : A) (r : List A) (n p q : ℕ) (out : List ℕ) → xs ≡ x ∷ r → length (f n x) ≡ 37 → q ≡ p + 1
    → placed (placed out (37 * p) (f n x)) (37 * q) (joined (numbered f (n + 1) r)) ≡ placed out (37 * p) (joined (numbered f n xs))
line_more f xs x r n p q out d h e =
    lines_placed out p q 1 (f n x) (joined (numbered f (n + 1) r)) h e ∙ ap (λ l. placed out (37 * p) (joined l)) (sym (numbered_next f n xs x r d))

-- and none is left
pub no_line_more : {A : Type 0} (f : ℕ → A → List ℕ) (xs : List A) (n p : ℕ) (out : List ℕ) → xs ≡ [] → placed out p (joined (numbered f n xs)) ≡ out
no_line_more f xs n p out d = ap (λ l. placed out p (joined (numbered f n l))) d ∙ placed_none out p
