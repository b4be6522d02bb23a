-- What an answer does to a session, by how it fits.
-- Assumes nothing.
use Prim.Native.Nat.{ℕ, ◌+◌}
use native.Mathlib.Omega.{arith}
use mathlib.Core.Path.{◌≡◌, refl, sym, ◌∙◌}
use mathlib.Core.Bool.{Bool, true, false, cond}
use mathlib.Core.List.{List, [], ◌∷◌}
use lib.Dec.{eqb}
use lib.ListN.{length}
use Rattle.std.specs.Prelude.{Option, Some, None}
use Rattle.exchange.specs.declared.Step.{Step}
use Rattle.exchange.specs.declared.Step.TheVariants.{Write, Read, Update, Match, Chunk, Store}
use Rattle.exchange.specs.declared.Reply.{Reply}
use Rattle.exchange.specs.declared.Reply.TheVariants.{Done, Byte, Failed}
use Rattle.exchange.specs.declared.Fit.{Fit}
use Rattle.exchange.specs.declared.Fit.TheVariants.{Broke, Went, Got, Kept, Wrong}
use Rattle.exchange.specs.State.{count_in, is_unbroken, left}
use Rattle.exchange.specs.Turn.{wanted, fits_next, resized, fit_of, effect_of, moved, state_after, buffer_after, report_of}
use Rattle.exchange.specs.Session.{AnswerCall, after_call}
use Rattle.exchange.proofs.Moves.{counts_more, Moved, moves, left_going, going_open, goes_on, left_moved, breaks_off, left_broken, state_by}

-- a step was made, and the session goes on to the next
pub record Gone (st t came : List ℕ) : Type 0 where
  pub this : Step
  pub next : List Step
  pub before : left st ≡ this ∷ next
  pub now : left t ≡ next
  pub reads : wanted this ≡ length came
  pub opened : is_unbroken t ≡ is_unbroken st
  pub move : Moved st t 1 came
  pub count : count_in t ≡ count_in st + 1

-- a step was made, and the session was broken off
pub record Ended (st t came : List ℕ) : Type 0 where
  pub this : Step
  pub next : List Step
  pub before : left st ≡ this ∷ next
  pub now : left t ≡ []
  pub opened : is_unbroken t ≡ false
  pub move : Moved st t 2 came
  pub count : count_in t ≡ count_in st + 1

-- what an answer does that fits so
abbrev pub Turned : Option Fit → List ℕ → List ℕ → Type 0
Turned None st t = t ≡ st
Turned (Some (Broke code)) st t = Ended st t []
Turned (Some Went) st t = Gone st t []
Turned (Some (Got b)) st t = Gone st t (b ∷ [])
Turned (Some (Kept i b)) st t = Gone st t (b ∷ [])
Turned (Some (Wrong b)) st t = Ended st t (b ∷ [])

abbrev TurnedBy : List ℕ → Option Fit → Type 0
TurnedBy st f = Turned f st (state_by st (effect_of f))

module _ (st : List ℕ) (x : Step) (xs : List Step) (e : left st ≡ x ∷ xs) where
  -- a move that goes on, and one that breaks off
  gone : (came : List ℕ) → wanted x ≡ length came → Gone st (moved st 1 came) came
  gone came h =
      let g = left_going st x xs e in
      let m = moves st 1 came g.session in
      record {
        this = x;
        next = xs;
        before = e;
        now = left_moved st x xs e came;
        reads = h;
        opened = going_open _ _ (goes_on st x xs e came) ∙ sym (going_open _ _ g);
        move = m;
        count = counts_more st _ 1 came m g.session g.stage refl;
      }

  ended : (came : List ℕ) → Ended st (moved st 2 came) came
  ended came =
      let g = left_going st x xs e in
      let m = moves st 2 came g.session in
      record {
        this = x;
        next = xs;
        before = e;
        now = left_broken st x xs e came;
        opened = breaks_off st x xs e came;
        move = m;
        count = counts_more st _ 2 came m g.session g.stage refl;
      }

  -- a byte, by whether it is what it must be
  turned_test : (q : Bool) (b : ℕ) → wanted x ≡ 1 → TurnedBy st (cond q (Some (Got b)) (Some (Wrong b)))
  turned_test true b h = gone _ h
  turned_test false b h = ended _

-- by whether the buffer's length changed, the steps left, and the answer
pub turned_by : (st : List ℕ) (k : Bool) (l : List Step) → left st ≡ l → (a : Reply) → TurnedBy st (cond k None (fits_next l a))
turned_by st true l e a = refl
turned_by st false [] e a = refl
turned_by st false (x ∷ xs) e (Failed code) = ended st x xs e _
turned_by st false (Write r v ∷ xs) e Done = gone st _ xs e [] refl
turned_by st false (Read r ∷ xs) e Done = refl
turned_by st false (Update r s w v ∷ xs) e Done = gone st _ xs e [] refl
turned_by st false (Match r v ∷ xs) e Done = refl
turned_by st false (Chunk i n ∷ xs) e Done = gone st _ xs e [] refl
turned_by st false (Store i ∷ xs) e Done = refl
turned_by st false (Write r v ∷ xs) e (Byte b) = refl
turned_by st false (Read r ∷ xs) e (Byte b) = gone st _ xs e (b ∷ []) refl
turned_by st false (Update r s w v ∷ xs) e (Byte b) = refl
turned_by st false (Match r v ∷ xs) e (Byte b) = turned_test st _ xs e (eqb b v) b refl
turned_by st false (Chunk i n ∷ xs) e (Byte b) = refl
turned_by st false (Store i ∷ xs) e (Byte b) = gone st _ xs e (b ∷ []) refl

-- every answer does what its fit says
pub turned : (st : List ℕ) (c : AnswerCall) → Turned (fit_of st c.reply (length c.buffer)) st (after_call st c)
unfolding after_call fit_of state_after
turned st c = turned_by st (resized st (length c.buffer)) (left st) refl c.reply

-- 19 is told where an answer does not fit
pub refused : (st : List ℕ) (a : Reply) (buffer : List ℕ) → (report_of st a (length buffer)).number ≡ 19 →
    (state_after st a (length buffer) ≡ st) × (buffer_after st a buffer ≡ buffer)
unfolding report_of state_after buffer_after
refused st a buffer h = go (fit_of st a (length buffer)) h
  where
    go : (f : Option Fit) → (effect_of f).number ≡ 19 → (state_by st (effect_of f) ≡ st) × ((effect_of f).buffer buffer ≡ buffer)
    go None e = (refl, refl)
    go (Some (Broke code)) e = absurd (omega (arith, e))
    go (Some Went) e = absurd (omega (arith, e))
    go (Some (Got b)) e = absurd (omega (arith, e))
    go (Some (Kept i b)) e = absurd (omega (arith, e))
    go (Some (Wrong b)) e = absurd (omega (arith, e))
