-- What an answer does to the record lent with it, and the record under a list of answers, by what the session is for. Assumes nothing.
use Prim.Native.Nat.{ℕ}
use mathlib.Core.Path.{◌≡◌, refl, sym, ap, ◌∙◌}
use mathlib.Core.Bool.{Bool, true, false, cond, not, ◌&&◌, true≢false, and-true, and-false}
use mathlib.Core.List.{List, [], ◌∷◌}
use lib.Dec.{eqb}
use lib.ListN.{length, get_or}
use Rattle.std.proofs.lemmas.Bool.{eqb-true, not-true, and_right}
use Rattle.std.specs.Prelude.{Option, Some, None}
use Rattle.exchange.specs.declared.Step.{Step}
use Rattle.exchange.specs.declared.Reply.{Reply}
use Rattle.exchange.specs.declared.Reply.TheVariants.{Done, Byte, Failed}
use Rattle.exchange.specs.State.{is_session, is_unbroken, left, none_left, completed, purpose_in, record_in}
use Rattle.exchange.specs.Turn.{pending_for, resized, report_of}
use Rattle.exchange.specs.Session.{AnswerCall, fits_exchange, taken, number_at, breaks, after_call, final}
use Rattle.exchange.proofs.Answers.{cond_self}
use Rattle.exchange.proofs.Cases.{Case, same, broken, went, case, idle_state}
use Rattle.exchange.proofs.Keeps.{keeps}
use Rattle.exchange.proofs.Moves.{left_going, going_open}
use Rattle.exchange.proofs.Session.{session}
use Rattle.da728x.specs.declared.DA728x.{DA728x}
use Rattle.da728x.specs.Record.{record_at}
use Rattle.outcome.specs.declared.Change.{Change}
use Rattle.outcome.specs.declared.Change.TheVariants.{Sequences}
use Rattle.outcome.specs.Outcome.{for_upload, counting, change_for, change_before, change_by, record_by}
use Rattle.driver.specs.Operations.{change_after, record_after}
use Rattle.driver.specs.Theorems.{change_behind, record_final}

-- ---- sessions without a step left, and their end

-- nothing is taken there
pub taken_none : (st : List ℕ) (a : Reply) (n : ℕ) → left st ≡ [] → taken st a n ≡ false
taken_none st a n e = ap (λ (l : List Step). fits_exchange (pending_for st l) a && not (resized st n)) e ∙ go a
  where
    go : (a : Reply) → fits_exchange (pending_for st []) a && not (resized st n) ≡ false
    go Done = refl
    go (Byte b) = refl
    go (Failed code) = refl

pub idle : (cs : List AnswerCall) (st : List ℕ) → left st ≡ [] → final st cs ≡ st
idle [] st e = refl
idle (c ∷ cs) st e = ap (λ (t : List ℕ). final t cs) (idle_state st c e) ∙ idle cs st e

-- bytes of another length are none, and not completed
module _ (st : List ℕ) (e : is_session st ≡ false) where
  shut : (left st ≡ []) × (completed st ≡ false)
  shut = session.closed st (ap (λ (b : Bool). b && eqb (get_or st 1 0) 1) e)

  pub no_step : left st ≡ []
  no_step = shut.0

  pub unopened : completed st ≡ false
  unopened = shut.1

-- a session is not completed while a step is left, and one that was begun is once none is
pub unfinished : (st : List ℕ) (x : Step) (xs : List Step) → left st ≡ x ∷ xs → completed st ≡ false
unfinished st x xs e = session.completes st [] (going_open _ _ (left_going st x xs e)) ∙ ap none_left e

completed_by : (st : List ℕ) → is_unbroken st ≡ true → completed st ≡ none_left (left st)
completed_by st o = session.completes st [] o

pub finished : (st : List ℕ) → is_unbroken st ≡ true → left st ≡ [] → completed st ≡ true
finished st o e = completed_by st o ∙ ap none_left e

-- ---- one answer

-- what it does to a record, where the session is `t` afterwards, by whether that is a session, whether it was the last success, and whether it is refused
abbrev change_if : DA728x → List ℕ → Bool → Bool → Bool → Option Change
change_if r t s l k =
    cond s (cond l (change_for (purpose_in t) (record_at (record_in t)) r) (cond k None (change_before (purpose_in t) (record_at (record_in t)) r))) None

module _ (st : List ℕ) (c : AnswerCall) where
  abbrev pub Taken : Bool
  Taken = taken st c.reply (length c.buffer)

  abbrev pub ends : Bool
  ends = (report_of st c.reply (length c.buffer)).ended

  abbrev pub last : Bool
  last = ends && eqb (number_at st c) 0

  pub out_of_turn : Taken ≡ false → number_at st c ≡ 19
  out_of_turn h = eqb-true _ _ (session.takes st c.reply (length c.buffer) ∙ ap not h)

  pub in_turn_lem : number_at st c ≡ 19 → Taken ≡ false
  in_turn_lem h = not-true Taken (sym (ap (λ (n : ℕ). eqb n 19) (sym h) ∙ session.takes st c.reply (length c.buffer)))

  -- one that is not taken leaves the session
  pub untaken : Taken ≡ false → after_call st c ≡ st
  unfolding after_call
  untaken h = (session.refused st c.reply c.buffer (out_of_turn h)).0

  -- where one is, a step is left: the bytes are a session, and it is not completed
  taken_in : Taken ≡ true → (is_session st ≡ true) × (completed st ≡ false)
  taken_in h = (sized (is_session st) refl, by (left st) refl)
    where
      none : left st ≡ [] → ⊥
      none e = true≢false (sym h ∙ taken_none st c.reply (length c.buffer) e)

      sized : (b : Bool) → is_session st ≡ b → b ≡ true
      sized true e = refl
      sized false e = absurd (none (no_step st e))

      by : (l : List Step) → left st ≡ l → completed st ≡ false
      by [] e = absurd (none e)
      by (x ∷ xs) e = unfinished st x xs e

  pub undone : Taken ≡ true → completed st ≡ false
  undone h = (taken_in h).1

  -- one that fails does not complete it
  off : breaks (number_at st c) ≡ true → completed (after_call st c) ≡ false
  unfolding after_call
  off k = (session.ends st c.reply (length c.buffer) k).1

  ended_as : ends ≡ none_left (left (after_call st c))
  unfolding after_call
  ended_as = (session.tells st c.reply (length c.buffer)).1

  -- one that is taken is the last success exactly if it completes the session
  pub completes_as : Taken ≡ true → completed (after_call st c) ≡ last
  completes_as h = by (case st c)
    where
      none : eqb (number_at st c) 0 ≡ false → last ≡ false
      none n = and_right ends (eqb (number_at st c) 0) n

      by : Case st c → completed (after_call st c) ≡ last
      by (same m n) = ap completed m ∙ undone h ∙ sym (none n)
      by (broken x xs p q n k) = off k ∙ sym (none n)
      by (went x xs p q o n) = completed_by (after_call st c) o ∙ sym ended_as ∙ sym (ap (λ (b : Bool). ends && b) n ∙ and-true ends)

  -- what it does to the record lent with it
  pub changes : (r : DA728x) → let next = record_at (record_in st) in
      change_behind st c r ≡ cond Taken (cond (completed (after_call st c)) (change_for (purpose_in st) next r) (change_before (purpose_in st) next r)) None
  unfolding change_after change_by after_call
  changes r = by Taken refl
    where
      refuses : (s e : Bool) → change_if r (after_call st c) s (e && false) true ≡ None
      refuses true true = refl
      refuses true false = refl
      refuses false e = refl

      by : (b : Bool) → Taken ≡ b → change_if r (after_call st c) (is_session (after_call st c)) last (eqb (number_at st c) 19)
          ≡ cond b (cond (completed (after_call st c)) (change_for (purpose_in st) (record_at (record_in st)) r) (change_before (purpose_in st) (record_at (record_in st)) r)) None
      by false h =
          let n = out_of_turn h in
          (λ i. change_if r (after_call st c) (is_session (after_call st c)) (ends && eqb (n i) 0) (eqb (n i) 19)) ∙ refuses (is_session (after_call st c)) ends
      by true h =
          let k = keeps (c ∷ []) st (taken_in h).0 in
          let n : eqb (number_at st c) 19 ≡ false = session.takes st c.reply (length c.buffer) ∙ ap not h in
          λ i. cond (k.session i) (cond ((sym (completes_as h)) i) (change_for (k.purpose i) (record_at (k.«record» i)) r)
          (cond (n i) None (change_before (k.purpose i) (record_at (k.«record» i)) r))) None

-- ---- what follows, by what the session is for

-- for this no answer changes a record
abbrev pub Leaves : ℕ → Type 0
Leaves purpose = ((next r : DA728x) → change_for purpose next r ≡ None) × (eqb purpose for_upload ≡ false)

-- no other answer than the last success does, but for an upload
before_last : (purpose : ℕ) (next r : DA728x) → eqb purpose for_upload ≡ false → change_before purpose next r ≡ None
before_last purpose next r p = ap (λ (upload : Bool). cond upload (counting next 0 r) None) p

module _ (st : List ℕ) (c : AnswerCall) (r : DA728x) where
  abbrev next : DA728x
  next = record_at (record_in st)

  pub refused : number_at st c ≡ 19 → change_behind st c r ≡ None
  refused h =
      changes st c r
      ∙ ap (λ (b : Bool). cond b (cond (completed (after_call st c)) (change_for (purpose_in st) next r) (change_before (purpose_in st) next r)) None) (in_turn_lem st c h)

  pub dead : left st ≡ [] → change_behind st c r ≡ None
  dead e = refused (out_of_turn st c (taken_none st c.reply (length c.buffer) e))

  for_other : eqb (purpose_in st) for_upload ≡ false → last st c ≡ false → change_behind st c r ≡ None
  for_other p h = changes st c r ∙ by (Taken st c) refl
    where
      by : (b : Bool) → Taken st c ≡ b →
          cond b (cond (completed (after_call st c)) (change_for (purpose_in st) next r) (change_before (purpose_in st) next r)) None ≡ None
      by true k =
          ap (λ (d : Bool). cond d (change_for (purpose_in st) next r) (change_before (purpose_in st) next r)) (completes_as st c k ∙ h)
          ∙ before_last (purpose_in st) next r p
      by false k = refl

  -- one that fails, and one that is not the last
  pub failed : eqb (purpose_in st) for_upload ≡ false → eqb (number_at st c) 0 ≡ false → change_behind st c r ≡ None
  failed p h = for_other p (ap (λ (k : Bool). ends st c && k) h ∙ and-false (ends st c))

  pub before : eqb (purpose_in st) for_upload ≡ false → ends st c ≡ false → change_behind st c r ≡ None
  before p h = for_other p (ap (λ (b : Bool). b && eqb (number_at st c) 0) h)

  pub for_none : Leaves (purpose_in st) → change_behind st c r ≡ None
  for_none h =
      changes st c r
      ∙ (λ i. cond (Taken st c) (cond (completed (after_call st c)) (h.0 next r i) (before_last (purpose_in st) next r h.1 i)) None)
      ∙ ap (λ (m : Option Change). cond (Taken st c) m None) (cond_self (completed (after_call st c)) None)
      ∙ cond_self (Taken st c) None

  -- an upload's
  pub counts : purpose_in st ≡ for_upload →
      change_behind st c r ≡ cond (Taken st c && eqb next.address r.address) (Some (Sequences (cond (completed (after_call st c)) next.sequences 0))) None
  counts p =
      changes st c r
      ∙ ap (λ (purpose : ℕ). cond (Taken st c) (cond (completed (after_call st c)) (change_for purpose next r) (change_before purpose next r)) None) p
      ∙ go (Taken st c) (completed (after_call st c))
    where
      go : (b d : Bool) → cond b (cond d (counting next next.sequences r) (counting next 0 r)) None
          ≡ cond (b && eqb next.address r.address) (Some (Sequences (cond d next.sequences 0))) None
      go true true = refl
      go true false = refl
      go false d = refl

-- ---- every list of answers

-- a session that is for this, and carries this record; the record that is lent becomes `f done`, by whether the session is completed then
module _ (purpose : ℕ) (next : DA728x) (f : Bool → DA728x)
    (becomes : (done : Bool) → record_by (f false) (cond done (change_for purpose next (f false)) (change_before purpose next (f false))) ≡ f done) where
  pub runs_to : (cs : List AnswerCall) (st : List ℕ) → is_session st ≡ true → purpose_in st ≡ purpose → record_at (record_in st) ≡ next →
      record_final st cs (f (completed st)) ≡ f (completed (final st cs))
  runs_to [] st s p e = refl
  runs_to (c ∷ cs) st s p e =
      let k = keeps (c ∷ []) st s in
      ap (record_final (after_call st c) cs) (by (Taken st c) refl) ∙ runs_to cs (after_call st c) k.session (k.purpose ∙ p) (ap record_at k.«record» ∙ e)
    where
      by : (b : Bool) → Taken st c ≡ b → record_after st c.reply (length c.buffer) (f (completed st)) ≡ f (completed (after_call st c))
      by true h =
          ap (λ (d : Bool). record_after st c.reply (length c.buffer) (f d)) (undone st c h)
          ∙ ap (record_by (f false)) (changes st c (f false)
          ∙ (λ i. cond (h i) (cond (completed (after_call st c)) (change_for (p i) (e i) (f false)) (change_before (p i) (e i) (f false))) None))
          ∙ becomes (completed (after_call st c))
      by false h =
          ap (record_by (f (completed st))) (refused st c (f (completed st)) (out_of_turn st c h)) ∙ ap (λ (t : List ℕ). f (completed t)) (sym (untaken st c h))

-- where no step is left
pub ended : (cs : List AnswerCall) (st : List ℕ) (r : DA728x) → left st ≡ [] → record_final st cs r ≡ r
ended [] st r e = refl
ended (c ∷ cs) st r e =
    let k = ap (record_by r) (dead st c r e) in
    (λ i. record_final (idle_state st c e i) cs (k i)) ∙ ended cs st r e

-- one that is for no record
pub spares : (cs : List AnswerCall) (st : List ℕ) (r : DA728x) → is_session st ≡ true → Leaves (purpose_in st) → record_final st cs r ≡ r
spares cs st r s h = runs_to (purpose_in st) (record_at (record_in st)) (λ done. r) by cs st s refl refl
  where
    by : (done : Bool) → record_by r (cond done (change_for (purpose_in st) (record_at (record_in st)) r) (change_before (purpose_in st) (record_at (record_in st)) r)) ≡ r
    by true = ap (record_by r) (h.0 (record_at (record_in st)) r)
    by false = ap (record_by r) (before_last (purpose_in st) (record_at (record_in st)) r h.1)
