-- A session is completed exactly where every step was made and none broke it off.
-- Assumes nothing.
use Prim.Native.Nat.{ℕ, suc, zero, ◌+◌}
use mathlib.Core.Path.{◌≡◌, refl, sym, ◌∙◌, ap}
use mathlib.Core.Bool.{Bool, true, false, cond, not, ◌&&◌}
use mathlib.Core.List.{List, []}
use lib.Dec.{leb, leb-zero, leb-suc-zero, leb-suc-suc}
use lib.ListN.{length, drop}
use lib.Seq.{drop-nil}
use Rattle.exchange.specs.declared.Step.{Step}
use Rattle.exchange.specs.State.{is_unbroken, made_in, step_count, read_count, step_in, indexed, plan, left, none_left, completed}
use Rattle.exchange.specs.Session.{AnswerCall, final, sent, broken_off}
use Rattle.exchange.proofs.Order.{follows}

-- none of n is left where m were made, exactly where n is at most m
none_past : (f : ℕ → Step) (i n m : ℕ) → leb n m ≡ none_left (drop m (indexed f i n))
none_past f i zero m = leb-zero m ∙ ap none_left (sym (drop-nil m))
none_past f i (suc n) zero = leb-suc-zero n
none_past f i (suc n) (suc m) = leb-suc-suc n m ∙ none_past f (suc i) n m

-- a session is completed where it is open and none is left
completed_left : (st : List ℕ) → completed st ≡ is_unbroken st && none_left (left st)
unfolding completed left
completed_left st = go (is_unbroken st)
  where
    go : (b : Bool) → b && leb (step_count st + read_count st) (made_in st) ≡ b && none_left (cond b (drop (made_in st) (plan st)) [])
    go true = none_past (step_in st) 0 (step_count st + read_count st) (made_in st)
    go false = refl

-- completed after a run: no step left, and none that broke it off
pub whole : (st : List ℕ) (cs : List AnswerCall) → is_unbroken st ≡ true →
    completed (final st cs) ≡ not (broken_off st cs) && none_left (drop (length (sent st cs)) (left st))
whole st cs o =
    let k = follows cs st in
    completed_left (final st cs)
    ∙ (λ j. k.opened j && none_left (k.remaining j))
    ∙ rw o (go (broken_off st cs))
  where
    go : (b : Bool) → cond b false true && none_left (cond b [] (drop (length (sent st cs)) (left st))) ≡ not b && none_left (drop (length (sent st cs)) (left st))
    go true = refl
    go false = refl
