-- The record changes exactly by the answer that completes `new` or `configure`, by the start of an upload and by each answer that it takes. Assumes
-- nothing.
use Prim.Native.Nat.{ℕ, ◌≤◌}
use native.Mathlib.Omega.{arith}
use mathlib.Core.Path.{◌≡◌, refl, sym, ◌∙◌, ap, subst}
use mathlib.Core.Bool.{Bool, true, false, cond, ◌&&◌, and-eq-true_iff, true≢false}
use mathlib.Core.List.{List, [], ◌∷◌, append-nil}
use lib.ListN.{length}
use lib.Dec.{eqb}
use borrow.Author.Tests.{eq-eqb, eqb-true, ne_eqb}
use Rattle.laws.proofs.Tests.{choice}
use Rattle.registers.specs.Table.{address_of}
use Rattle.memory.specs.declared.WaveformMemory.{WaveformMemory}
use Rattle.checks.specs.Checks.{configure_number}
use Rattle.config.specs.declared.ActuatorConfig.{ActuatorConfig}
use Rattle.config.specs.declared.DeviceConfig.{DeviceConfig}
use Rattle.config.specs.declared.Variant.{Variant}
use Rattle.config.specs.Codes.{variant_code, variant_at}
use Rattle.exchange.specs.declared.Step.{Step}
use Rattle.exchange.specs.declared.Step.TheVariants.{Match}
use Rattle.exchange.specs.State.{is_session, completed, purpose_in, record_in, Begun, begun_bytes, begun_in}
use Rattle.exchange.specs.Session.{AnswerCall, taken, number_at, after_call, final}
use Rattle.exchange.proofs.Cases.{idle_state}
use Rattle.exchange.proofs.Keeps.{keeps}
use Rattle.plans.proofs.Lengths.{at_least}
use Rattle.plans.specs.Configure.{configure_steps}
use Rattle.da728x.specs.declared.DA728x.{DA728x}
use Rattle.std.specs.Prelude.{Some, Option, None}
use Rattle.da728x.specs.Record.{record_at}
use Rattle.da728x.proofs.Kept.{variant_kept, record_kept}
use Rattle.sessions.specs.Sessions.{carrying, send_steps}
use Rattle.outcome.specs.declared.Change.{Change}
use Rattle.outcome.specs.declared.Change.TheVariants.{To, Sequences}
use Rattle.driver.specs.Operations as operation
use Rattle.outcome.specs.Outcome.{change_for, change_before, record_by, settling, counting, is_chip_of, for_upload, zeroing, with_sequences}
use Rattle.driver.specs.Operations.{Start, declines, begins, started_in, change_from, revision, new_record, upload_record, upload_begun, upload_steps}
use Rattle.driver.specs.Theorems.{Request, configure, upload_waveform_memory, operation_of, Typed, is_upload, all_steps, change_behind, record_final, Stored}
use Rattle.driver.proofs.Answers.{By, by_unless, by_both, Quiet, quiet, quiet_holds, fits_new, fits_upload, holds_configure}
use Rattle.driver.proofs.Begun.{Holds, holds}
use Rattle.driver.proofs.Creates.{creates}
use Rattle.driver.proofs.Starts.{configured}
use Rattle.driver.proofs.Records.{Leaves, refused, dead, failed, before, for_none, unfinished, counts, runs_to}

-- what a session begun so makes of a record
abbrev made_by : Begun → DA728x → DA728x
made_by b r = record_by r (change_for b.purpose (record_at b.«record») r)

module _ {s : List ℕ} {b : Begun} (cs : List AnswerCall) (r : DA728x) where
  -- with a step left, exactly if it is completed
  pub settled : (xs : List Step) → Holds s b xs → 1 ≤ length xs → eqb b.purpose for_upload ≡ false → record_final s cs r ≡ cond (completed (final s cs)) (made_by b r) r
  settled [] h n p = absurd (omega arith)
  settled (x ∷ xs) h n p =
      ap (λ (done : Bool). record_final s cs (cond done (made_by b r) r)) (sym (unfinished s x xs h.steps))
      ∙ runs_to b.purpose (record_at b.«record») (λ done. cond done (made_by b r) r) by cs s h.session h.purpose (ap record_at h.«record»)
    where
      by : (done : Bool) → record_by r (cond done (change_for b.purpose (record_at b.«record») r) (change_before b.purpose (record_at b.«record») r)) ≡ cond done (made_by b r) r
      by true = refl
      by false = ap (λ (upload : Bool). record_by r (cond upload (counting (record_at b.«record») 0 r) None)) p

  -- one that is for no record never does
  stays : (xs : List Step) → Holds s b xs → Leaves b.purpose → (c : AnswerCall) → change_behind (final s cs) c r ≡ None
  stays xs h k c = for_none (final s cs) c r (subst Leaves (sym ((keeps cs s h.session).purpose ∙ h.purpose)) k)

-- ---- what a start does to the record

by_start : (st : List ℕ) (s : Start) → By (λ b xs. eqb b.purpose for_upload ≡ false) s → change_from st s ≡ None
by_start st (declines number) p = refl
by_start st (begins b xs) p = ap (λ (upload : Bool). cond upload (zeroing st) None) p

starts : (r : DA728x) (q : Request) (st : List ℕ) → Typed q → is_upload q ≡ false → change_from st (operation_of r q).start ≡ None
starts r (configure a d) st t u = by_start st (operation.configure r a d).start (by_unless _ (configure_number r.variant a d) _ refl)
starts r (upload_waveform_memory m lock_after) st t u = absurd (true≢false u)
starts r q st t u = by_start st (operation_of r q).start (by_both {P = Quiet r.address (operation_of r q).answers} (λ b xs p. p.1.1) (operation_of r q).start (quiet r q t u refl))

unbegun : (s : Start) (st : List ℕ) → is_session st ≡ false → (started_in st s ≡ st) × (change_from st s ≡ None)
unfolding begun_in
unbegun (declines number) st e = (refl, refl)
unbegun (begins b xs) st e = (
  ap (λ (k : Bool). cond k (begun_bytes b xs) st) e,
  ap (λ (k : Bool). cond (eqb b.purpose for_upload) (cond k (Some (Sequences 0)) None) None) e ∙ choice (λ (m : Option Change). m ≡ None) (eqb b.purpose for_upload) None None refl refl,
)

-- ---- an upload

module _ (r : DA728x) (m : WaveformMemory) (lock_after : Bool) (st : List ℕ) (l : length m.«data» ≡ 100) (e : is_session st ≡ true) where
  abbrev s : List ℕ
  s = begun_in st (upload_begun r m) (upload_steps m lock_after)

  held : Holds s (upload_begun r m) (all_steps (upload_begun r m) (upload_steps m lock_after))
  held = holds st (upload_begun r m) (upload_steps m lock_after) e (fits_upload r m lock_after l)

  carries : record_at (record_in s) ≡ upload_record r m
  carries = ap record_at held.«record» ∙ record_kept (upload_record r m)

  pub loaded_by : (cs : List AnswerCall) (c : AnswerCall) (lent : DA728x) →
      change_behind (final s cs) c lent ≡ cond (taken (final s cs) c.reply (length c.buffer) && eqb r.address lent.address)
      (Some (Sequences (cond (completed (after_call (final s cs) c)) m.num_sequences 0))) None
  loaded_by cs c lent =
      let k = keeps cs s held.session in
      let n = ap record_at k.«record» ∙ carries in
      counts (final s cs) c lent (k.purpose ∙ held.purpose)
      ∙ (λ i. cond (taken (final s cs) c.reply (length c.buffer) && eqb (n i).address lent.address)
      (Some (Sequences (cond (completed (after_call (final s cs) c)) (n i).sequences 0))) None)

  none_made : completed s ≡ false
  unfolding send_steps
  none_made = unfinished s _ _ held.steps

  pub loaded_in : (cs : List AnswerCall) → record_final s cs (with_sequences r 0) ≡ with_sequences r (cond (completed (final s cs)) m.num_sequences 0)
  loaded_in cs =
      ap (λ (done : Bool). record_final s cs (by_end done)) (sym none_made)
      ∙ runs_to for_upload (upload_record r m) by_end becomes cs s held.session held.purpose carries
    where
      by_end : Bool → DA728x
      by_end done = with_sequences r (cond done m.num_sequences 0)

      becomes : (done : Bool) → record_by (by_end false) (cond done (counting (upload_record r m) m.num_sequences (by_end false)) (counting (upload_record r m) 0 (by_end false))) ≡ by_end done
      becomes true = ap (λ (own : Bool). record_by (by_end false) (cond own (Some (Sequences m.num_sequences)) None)) (eq-eqb r.address r.address refl)
      becomes false = ap (λ (own : Bool). record_by (by_end false) (cond own (Some (Sequences 0)) None)) (eq-eqb r.address r.address refl)

-- ---- `configure`, for the record lent

module _ (r : DA728x) (a : ActuatorConfig) (d : DeviceConfig) where
  abbrev b : Begun
  b = carrying 2 (configured r a d)

  settled_as : (s : DA728x) → made_by b s ≡ record_by s (settling (configured r a d) s)
  settled_as s = ap (λ (next : DA728x). record_by s (settling next s)) (record_kept (configured r a d))

  -- a record with these settings
  abbrev storing : DA728x → DA728x
  storing s = record { address = s.address; variant = s.variant; settings = Some (a, d); sequences = s.sequences }

  own_chip : (s : DA728x) → made_by b s ≡ cond (is_chip_of r s) (storing s) s
  own_chip s = settled_as s ∙ go (is_chip_of r s)
    where
      go : (k : Bool) → record_by s (cond k (Some (To (storing s))) None) ≡ cond k (storing s) s
      go true = refl
      go false = refl

same_variant : (v w : Variant) → eqb (variant_code v) (variant_code w) ≡ true → v ≡ w
same_variant v w e = sym (variant_kept v) ∙ ap variant_at (eqb-true (variant_code v) (variant_code w) e) ∙ variant_kept w

module _ (r lent : DA728x) where
  own_to : is_chip_of r lent ≡ true → (r.address ≡ lent.address) × (r.variant ≡ lent.variant)
  own_to e =
      let k = (and-eq-true_iff (eqb r.address lent.address) _).0 e in
      (eqb-true r.address lent.address k.0, same_variant r.variant lent.variant k.1)

  own_from : (r.address ≡ lent.address) × (r.variant ≡ lent.variant) → is_chip_of r lent ≡ true
  own_from e = simp (eq-eqb r.address lent.address e.0, eq-eqb (variant_code r.variant) (variant_code lent.variant) (ap variant_code e.1))

-- ---- `new`

pub made_by_new : (address : ℕ) (variant : Variant) (st : List ℕ) (cs : List AnswerCall) (r : DA728x) → is_session st ≡ true →
    let s = started_in st (operation.new address variant).start in record_final s cs r ≡ cond (completed (final s cs)) (new_record address variant) r
made_by_new address variant st cs r s =
    let b = carrying 1 (new_record address variant) in
    let xs = Match (address_of "CHIP_REV") (revision variant) ∷ [] in
    settled cs r _ (holds st b xs s (fits_new address variant).0) (omega arith) refl
    ∙ ap (λ (next : DA728x). cond (completed (final (begun_in st b xs) cs)) next r) (record_kept (new_record address variant))

pub stored : Stored
stored = record {
  refused = refused;
  failed = λ st c r p n. failed st c r (ne_eqb (purpose_in st) for_upload p) (ne_eqb (number_at st c) 0 n);
  before = λ st c r p h. before st c r (ne_eqb (purpose_in st) for_upload p) h;
  counts = counts;
  ended = λ st c r e. (dead st c r e, idle_state st c e);
  declined = λ s number st e. (ap (started_in st) e, ap (change_from st) e);
  unbegun = unbegun;
  zeroes = λ r m lock_after st e. ap (λ (k : Bool). cond k (Some (Sequences 0)) None) e;
  starts = starts;
  starts_new = λ address variant st. refl;
  creates = λ address variant st cs r s.
      let h = holds st (carrying 1 (new_record address variant)) (Match (address_of "CHIP_REV") (revision variant) ∷ []) s (fits_new address variant).0 in
      made_by_new address variant st cs r s
      ∙ ap (λ (k : Bool). cond k (new_record address variant) r) (creates (address_of "CHIP_REV") (revision variant) cs _ h.steps);
  configures = λ r lent a d st cs none e.
      let h = holds_configure r a d st none e in
      settled cs lent _ h (omega (arith, at_least a d, ap length (append-nil (configure_steps a d)))) refl
      ∙ ap (λ (next : DA728x). cond (completed (final (started_in st (operation.configure r a d).start) cs)) next lent) (own_chip r a d lent);
  own = λ r lent. (own_to r lent, own_from r lent);
  loads = λ r lent m lock_after st cs c l e. loaded_by r m lock_after st l e cs c lent;
  uploads = λ r m lock_after st cs l e.
      ap (λ (k : Bool). record_final (begun_in st (upload_begun r m) (upload_steps m lock_after)) cs (record_by r (cond k (Some (Sequences 0)) None))) e
      ∙ loaded_in r m lock_after st l e cs;
  others = λ r q t u k b xs e st cs c lent s. let h = quiet_holds r.address (operation_of r q) (quiet r q t u k) b xs e st s in stays cs lent _ h.0 h.1 c;
}
