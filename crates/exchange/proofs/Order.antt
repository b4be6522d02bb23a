-- Over every list of answers a session makes the exchanges of its steps, in order, and no other.
-- Assumes nothing.
use Prim.Native.Nat.{ℕ, ◌+◌, ◌≤◌, zero-le, suc-le-suc}
use native.Mathlib.Omega.{arith}
use native.Mathlib.Nat.{add-zero}
use mathlib.Core.Path.{◌≡◌, refl, sym, ◌∙◌, ap, subst}
use mathlib.Core.Bool.{Bool, true, false, cond, ◌||◌}
use mathlib.Core.List.{List, [], ◌∷◌, ◌++◌}
use lib.Dec.{eqb}
use lib.ListN.{length, take, drop, get_or}
use Rattle.std.specs.Prelude.{Option, Some, None}
use Rattle.laws.specs.Lists.{at}
use Rattle.exchange.specs.declared.Step.{Step}
use Rattle.exchange.specs.declared.Exchange.{Exchange}
use Rattle.exchange.specs.declared.Fit.{Fit}
use Rattle.exchange.specs.declared.Fit.TheVariants.{Broke, Went, Got, Kept, Wrong}
use Rattle.exchange.specs.Steps.{exchange_for}
use Rattle.exchange.specs.State.{is_unbroken, address_in, count_in, image_in, left}
use Rattle.exchange.specs.Turn.{pending_of, wanted, fit_of, effect_of}
use Rattle.exchange.specs.Session.{exchanges_of, taken, AnswerCall, reply_bytes, breaks, number_at, after_call, final, sent, came, broken_off}
use Rattle.exchange.proofs.Answers.{cond_self}
use Rattle.exchange.proofs.Effects.{made_taken, came_taken, stage_breaks}
use Rattle.exchange.proofs.Moves.{latest}
use Rattle.exchange.proofs.Turns.{Gone, Ended, Turned, turned}

-- what holds of a run that began with these and came to an end with those
pub record Run (address last : ℕ) (image : List ℕ) (made : ℕ) (was : Bool) (rest : List Step) (exchanges : List Exchange) (bytes : List ℕ) (broke : Bool) (end : List ℕ) : Type 0 where
  pub order : exchanges ≡ take (length exchanges) (exchanges_of address last image rest bytes)
  pub count : count_in end ≡ made + length exchanges
  pub within : length exchanges ≤ length rest
  pub remaining : left end ≡ cond broke [] (drop (length exchanges) rest)
  pub opened : is_unbroken end ≡ cond broke false was

-- a run from a state
abbrev RunFrom : List ℕ → List Exchange → List ℕ → Bool → List ℕ → Type 0
RunFrom st = Run (address_in st) (at st 3) (image_in st) (count_in st) (is_unbroken st) (left st)

-- the run under these calls
abbrev Follows : List ℕ → List AnswerCall → Type 0
Follows st cs = RunFrom st (sent st cs) (came st cs) (broken_off st cs) (final st cs)

-- ---- a run from the run after its first exchange

module _ (address last : ℕ) (image : List ℕ) (made : ℕ) (was : Bool) (x : Step) (xs : List Step) (bytes : List ℕ) (end : List ℕ) where
  -- the session went on, with the byte that the step read, or none
  run_more : (later : ℕ) (rest : List ℕ) (es : List Exchange) (broke : Bool) → get_or (take (wanted x) bytes) 0 last ≡ later → drop (wanted x) bytes ≡ rest →
      Run address later image (made + 1) was xs es rest broke end →
      Run address last image made was (x ∷ xs) (exchange_for address last image x ∷ es) bytes broke end
  run_more later rest es broke p q k = record {
    order = rw (p, q) (ap (λ (l : List Exchange). exchange_for address last image x ∷ l) k.order);
    count = k.count ∙ omega arith;
    within = suc-le-suc k.within;
    remaining = k.remaining;
    opened = k.opened;
  }

  -- the session was broken off: nothing is left, so nothing more was made
  run_last : (a l : ℕ) (i rest : List ℕ) (es : List Exchange) (broke : Bool) → Run a l i (made + 1) false [] es rest broke end →
      Run address last image made was (x ∷ xs) (exchange_for address last image x ∷ es) bytes true end
  run_last a l i rest [] broke k = record {
    order = refl;
    count = k.count ∙ omega arith;
    within = suc-le-suc zero-le;
    remaining = k.remaining ∙ cond_self broke [];
    opened = k.opened ∙ cond_self broke false;
  }
  run_last a l i rest (e ∷ es) broke k = absurd (omega (arith, k.within))

-- ---- a run from the run after its first answer

module _ (st t : List ℕ) (cs : List AnswerCall) (k : Follows t cs) where
  -- a step was made, with these bytes from it on
  run_gone : (bytes : List ℕ) → Gone st t bytes → get_or (take (length bytes) (bytes ++ came t cs)) 0 (at st 3) ≡ at (latest st bytes) 0 →
      drop (length bytes) (bytes ++ came t cs) ≡ came t cs →
      RunFrom st (pending_of st ∷ sent t cs) (bytes ++ came t cs) (broken_off t cs) (final t cs)
  run_gone bytes g p q =
      let m = g.move in
      let r = rw (g.now, m.address, m.last, m.image, g.count, g.opened) at k in
      rw g.before (run_more _ _ _ _ _ _ _ _ _ (at (latest st bytes) 0) (came t cs) _ _ (rw g.reads p) (rw g.reads q) r)

  -- a step was made, and broke the session off
  run_ended : (bytes all : List ℕ) → Ended st t bytes → RunFrom st (pending_of st ∷ sent t cs) all true (final t cs)
  run_ended bytes all g =
      rw g.before (run_last _ _ _ _ _ _ _ _ _ _ _ _ _ _ _ (rw (g.now, g.count, g.opened) at k))

-- by how the first answer fits
run_by : (f : Option Fit) (st t : List ℕ) (cs : List AnswerCall) → Turned f st t → Follows t cs →
    let e = effect_of f in
    RunFrom st (cond e.counts (pending_of st ∷ []) [] ++ sent t cs) (e.came ++ came t cs) (eqb e.stage 2 || broken_off t cs) (final t cs)
run_by None st t cs e k = rw e (rw e at k)
run_by (Some (Broke code)) st t cs m k = run_ended st t cs k _ _ m
run_by (Some Went) st t cs m k = run_gone st t cs k _ m refl refl
run_by (Some (Got b)) st t cs m k = run_gone st t cs k _ m refl refl
run_by (Some (Kept i b)) st t cs m k = run_gone st t cs k _ m refl refl
run_by (Some (Wrong b)) st t cs m k = run_ended st t cs k _ _ m

-- every session, under every list of calls
pub follows : (cs : List AnswerCall) (st : List ℕ) → Follows st cs
follows [] st = record {
  order = refl;
  count = sym (add-zero (count_in st));
  within = zero-le;
  remaining = refl;
  opened = refl;
}
follows (c ∷ cs) st =
    let b = c.reply in
    let n = length c.buffer in
    let t = after_call st c in
    subst (λ (k : Bool). RunFrom st (cond k (pending_of st ∷ []) [] ++ sent t cs) (cond (taken st c.reply (length c.buffer)) (reply_bytes b) [] ++ came t cs) (breaks (number_at st c) || broken_off t cs) (final t cs))
    (sym (made_taken st b n))
    (subst (λ (l : List ℕ). RunFrom st (cond (effect_of (fit_of st b n)).counts (pending_of st ∷ []) [] ++ sent t cs) (l ++ came t cs) (breaks (number_at st c) || broken_off t cs) (final t cs))
    (sym (came_taken st b n))
    (subst (λ (k : Bool). RunFrom st (cond (effect_of (fit_of st b n)).counts (pending_of st ∷ []) [] ++ sent t cs) ((effect_of (fit_of st b n)).came ++ came t cs) (k || broken_off t cs) (final t cs))
    (sym (stage_breaks st b n))
    (run_by (fit_of st b n) st t cs (turned st c) (follows cs t))))
