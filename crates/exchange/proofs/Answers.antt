-- What an answer does, by how it fits. Assumes nothing.
use Prim.Native.Nat.{ℕ}
use mathlib.Core.Path.{◌≡◌, refl, sym, ap, ◌∙◌}
use mathlib.Core.Bool.{Bool, true, false, cond}
use mathlib.Core.List.{List, [], ◌∷◌}
use Rattle.std.specs.Prelude.{Some, None}
use Rattle.std.proofs.lemmas.Option.{none-some}
use Rattle.laws.proofs.Tests.{choice}
use Rattle.exchange.specs.declared.Step.{Step}
use Rattle.exchange.specs.declared.Reply.{Reply}
use Rattle.exchange.specs.declared.Fit.{Fit}
use Rattle.exchange.specs.State.{left, slot_of}
use Rattle.exchange.specs.Turn.{fitting_of, resized, fits_next, fit_of, going}
use Rattle.exchange.proofs.Left.{at_some}
use Rattle.exchange.proofs.Moves.{left_counts}

-- one or the other, where both are the same
pub cond_self : {A : Type 0} (t : Bool) (x : A) → cond t x x ≡ x
cond_self t x = choice (λ y. y ≡ x) t x x refl refl

-- an answer that fits came to a session that has a step left
pub fits_going : (st : List ℕ) (a : Reply) (n : ℕ) (f : Fit) → Some f ≡ fit_of st a n → going st
unfolding fit_of
fits_going st a n f e = go (resized st n) (left st) refl e where
  go : (t : Bool) (xs : List Step) → left st ≡ xs → Some f ≡ cond t None (fits_next xs a) → going st
  go true xs k w = absurd (none-some f (sym w))
  go false [] k w = absurd (none-some f (sym w))
  go false (x ∷ xs) k w = left_counts st x xs k

-- ---- how an answer fits

-- a session without a step left refuses
pub unfit_none : (st : List ℕ) (a : Reply) (n : ℕ) → left st ≡ [] → fit_of st a n ≡ None
unfolding fit_of
unfit_none st a n e = ap (λ (xs : List Step). cond (resized st n) None (fits_next xs a)) e ∙ cond_self (resized st n) None

pub fit_next : (st : List ℕ) (a : Reply) (n : ℕ) (x : Step) → slot_of (left st) ≡ Some x → fit_of st a n ≡ cond (resized st n) None (fitting_of x a)
unfolding fit_of
fit_next st a n x e = ap (λ (ys : List Step). cond (resized st n) None (fits_next ys a)) (at_some (left st) x e)
