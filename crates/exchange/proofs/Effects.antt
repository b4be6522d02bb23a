-- What an answer does, by what is told of it: it counts exactly if it is taken back, its byte comes then, and 16 and 17 break off.
-- Assumes nothing.
use Prim.Native.Nat.{ℕ}
use mathlib.Core.Path.{◌≡◌, refl, sym, ap, ◌∙◌}
use mathlib.Core.Bool.{Bool, true, false, cond, not, not-not, true≢false}
use mathlib.Core.List.{List, [], ◌∷◌}
use lib.Dec.{eqb}
use Rattle.std.specs.Prelude.{Option, Some, None}
use Rattle.exchange.specs.declared.Step.{Step}
use Rattle.exchange.specs.declared.Step.TheVariants.{Write, Read, Update, Match, Chunk, Store}
use Rattle.exchange.specs.declared.Reply.{Reply}
use Rattle.exchange.specs.declared.Reply.TheVariants.{Done, Byte, Failed}
use Rattle.exchange.specs.declared.Fit.{Fit}
use Rattle.exchange.specs.declared.Fit.TheVariants.{Broke, Went, Got, Kept, Wrong}
use Rattle.exchange.specs.State.{left, completed}
use Rattle.exchange.specs.Turn.{wanted, fits_next, resized, fit_of, effect_of, state_after, report_of}
use Rattle.exchange.specs.Session.{taken, reply_bytes, breaks}
use Rattle.exchange.proofs.Left.{closed}
use Rattle.exchange.proofs.Moves.{state_by}
use Rattle.exchange.proofs.Takes.{takes}
use Rattle.exchange.proofs.Turns.{Turned, turned_by}

-- whether it counts
pub made_taken : (st : List ℕ) (a : Reply) (n : ℕ) → taken st a n ≡ (effect_of (fit_of st a n)).counts
unfolding report_of
made_taken st a n =
    let e = effect_of (fit_of st a n) in
    sym (not-not (taken st a n)) ∙ ap not (sym (takes st a n) ∙ go (fit_of st a n)) ∙ not-not e.counts
  where
    go : (f : Option Fit) → eqb (effect_of f).number 19 ≡ not (effect_of f).counts
    go None = refl
    go (Some (Broke code)) = refl
    go (Some Went) = refl
    go (Some (Got b)) = refl
    go (Some (Kept i b)) = refl
    go (Some (Wrong b)) = refl

-- the byte that comes with it
came_by : (k : Bool) (l : List Step) (a : Reply) → cond (effect_of (cond k None (fits_next l a))).counts (reply_bytes a) [] ≡ (effect_of (cond k None (fits_next l a))).came
came_by true l a = refl
came_by false [] a = refl
came_by false (x ∷ xs) (Failed code) = refl
came_by false (x ∷ xs) Done = go (eqb (wanted x) 0)
  where
    go : (w : Bool) → cond (effect_of (cond w (Some Went) None)).counts [] [] ≡ (effect_of (cond w (Some Went) None)).came
    go true = refl
    go false = refl
came_by false (Write r v ∷ xs) (Byte b) = refl
came_by false (Read r ∷ xs) (Byte b) = refl
came_by false (Update r s w v ∷ xs) (Byte b) = refl
came_by false (Match r v ∷ xs) (Byte b) = go (eqb b v)
  where
    go : (q : Bool) → cond (effect_of (cond q (Some (Got b)) (Some (Wrong b)))).counts (b ∷ []) [] ≡ (effect_of (cond q (Some (Got b)) (Some (Wrong b)))).came
    go true = refl
    go false = refl
came_by false (Chunk i n ∷ xs) (Byte b) = refl
came_by false (Store i ∷ xs) (Byte b) = refl

pub came_taken : (st : List ℕ) (a : Reply) (n : ℕ) → cond (taken st a n) (reply_bytes a) [] ≡ (effect_of (fit_of st a n)).came
unfolding fit_of
came_taken st a n = ap (λ (k : Bool). cond k (reply_bytes a) []) (made_taken st a n) ∙ came_by (resized st n) (left st) a

-- whether it breaks the session off
pub stage_breaks : (st : List ℕ) (a : Reply) (n : ℕ) → breaks (report_of st a n).number ≡ eqb (effect_of (fit_of st a n)).stage 2
unfolding report_of
stage_breaks st a n = go (fit_of st a n)
  where
    go : (f : Option Fit) → breaks (effect_of f).number ≡ eqb (effect_of f).stage 2
    go None = refl
    go (Some (Broke code)) = refl
    go (Some Went) = refl
    go (Some (Got b)) = refl
    go (Some (Kept i b)) = refl
    go (Some (Wrong b)) = refl

-- only 17 has a code
pub quiet : (st : List ℕ) (a : Reply) (n : ℕ) → eqb (report_of st a n).number 17 ≡ false → (report_of st a n).code ≡ 0
unfolding report_of
quiet st a n = go (fit_of st a n)
  where
    go : (f : Option Fit) → eqb (effect_of f).number 17 ≡ false → (effect_of f).code ≡ 0
    go None e = refl
    go (Some (Broke code)) e = absurd (true≢false e)
    go (Some Went) e = refl
    go (Some (Got b)) e = refl
    go (Some (Kept i b)) e = refl
    go (Some (Wrong b)) e = refl

-- 16 and 17 leave no step, and the session is not completed
pub ends : (st : List ℕ) (a : Reply) (n : ℕ) → breaks (report_of st a n).number ≡ true → (left (state_after st a n) ≡ []) × (completed (state_after st a n) ≡ false)
unfolding report_of state_after fit_of
ends st a n = go (cond (resized st n) None (fits_next (left st) a)) (turned_by st (resized st n) (left st) refl a)
  where
    go : (f : Option Fit) → Turned f st (state_by st (effect_of f)) → breaks (effect_of f).number ≡ true →
        (left (state_by st (effect_of f)) ≡ []) × (completed (state_by st (effect_of f)) ≡ false)
    go None m h = absurd (true≢false (sym h))
    go (Some (Broke code)) m h = closed _ m.opened
    go (Some Went) m h = absurd (true≢false (sym h))
    go (Some (Got b)) m h = absurd (true≢false (sym h))
    go (Some (Kept i b)) m h = absurd (true≢false (sym h))
    go (Some (Wrong b)) m h = closed _ m.opened
