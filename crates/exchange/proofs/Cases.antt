-- What an answer comes to, in the terms that other crates may name. Assumes nothing.
use mathlib.Core.Path.{◌≡◌, refl, ap, ◌∙◌}
use mathlib.Core.Bool.{true, false}
use mathlib.Core.List.{List, [], ◌∷◌}
use Prim.Native.Nat.{ℕ}
use lib.Dec.{eqb}
use lib.ListN.{length}
use Rattle.std.specs.Prelude.{Option, Some, None}
use Rattle.exchange.specs.declared.Step.{Step}
use Rattle.exchange.specs.declared.Fit.{Fit}
use Rattle.exchange.specs.declared.Fit.TheVariants.{Broke, Went, Got, Kept, Wrong}
use Rattle.exchange.specs.State.{is_unbroken, left}
use Rattle.exchange.specs.Turn.{fit_of, effect_of, state_after, report_of}
use Rattle.exchange.specs.Session.{AnswerCall, breaks, number_at, after_call}
use Rattle.exchange.proofs.Answers.{unfit_none}
use Rattle.exchange.proofs.Moves.{left_going, going_open, state_by}
use Rattle.exchange.proofs.Turns.{Gone, Turned, turned}

-- refused, and nothing changed; a step made, and the session broken off; a step made, and the session goes on
pub data Case (st : List ℕ) (c : AnswerCall) : Type 0 where
  same : after_call st c ≡ st → eqb (number_at st c) 0 ≡ false → Case st c
  broken : (x : Step) (xs : List Step) → left st ≡ x ∷ xs → left (after_call st c) ≡ [] → eqb (number_at st c) 0 ≡ false → breaks (number_at st c) ≡ true → Case st c
  went : (x : Step) (xs : List Step) → left st ≡ x ∷ xs → left (after_call st c) ≡ xs → is_unbroken (after_call st c) ≡ true → eqb (number_at st c) 0 ≡ true → Case st c

pub case : (st : List ℕ) (c : AnswerCall) → Case st c
unfolding report_of
case st c = go (fit_of st c.reply (length c.buffer)) refl (turned st c)
  where
    goes : (t came : List ℕ) → Gone st t came → is_unbroken t ≡ true
    goes t came g = g.opened ∙ going_open _ _ (left_going st _ _ g.before)

    go : (f : Option Fit) → fit_of st c.reply (length c.buffer) ≡ f → Turned f st (after_call st c) → Case st c
    go None e m = same m (ap (λ (x : Option Fit). eqb (effect_of x).number 0) e)
    go (Some (Broke code)) e m = broken _ _ m.before m.now (ap (λ (x : Option Fit). eqb (effect_of x).number 0) e) (ap (λ (x : Option Fit). breaks (effect_of x).number) e)
    go (Some Went) e m = went _ _ m.before m.now (goes _ _ m) (ap (λ (x : Option Fit). eqb (effect_of x).number 0) e)
    go (Some (Got b)) e m = went _ _ m.before m.now (goes _ _ m) (ap (λ (x : Option Fit). eqb (effect_of x).number 0) e)
    go (Some (Kept i b)) e m = went _ _ m.before m.now (goes _ _ m) (ap (λ (x : Option Fit). eqb (effect_of x).number 0) e)
    go (Some (Wrong b)) e m = broken _ _ m.before m.now (ap (λ (x : Option Fit). eqb (effect_of x).number 0) e) (ap (λ (x : Option Fit). breaks (effect_of x).number) e)

-- where no step is left, every answer is refused
module _ (st : List ℕ) (c : AnswerCall) (e : left st ≡ []) where
  pub idle_state : after_call st c ≡ st
  unfolding after_call state_after
  idle_state = ap (λ (f : Option Fit). state_by st (effect_of f)) (unfit_none st c.reply (length c.buffer) e)
