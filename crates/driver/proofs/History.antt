-- Over every history of a record its count of sequences is that of the last upload that was accepted, if it was completed. Assumes nothing.
use Prim.Native.Nat.{ℕ, zero, suc, ◌+◌, ◌*◌, ◌≤◌, ◌<◌}
use native.Mathlib.Omega.{arith}
use mathlib.Core.Path.{◌≡◌, refl, sym, ◌∙◌, ap, subst}
use mathlib.Core.Bool.{Bool, true, false, cond, false≢true}
use mathlib.Core.List.{List, [], ◌∷◌, ◌++◌, append-nil}
use mathlib.Core.Logic.{◌↔◌, inl, inr}
use Rattle.laws.specs.Bytes.{All}
use Rattle.config.specs.declared.ActuatorConfig.{ActuatorConfig}
use Rattle.config.specs.declared.DeviceConfig.{DeviceConfig}
use Rattle.config.specs.declared.Variant.{Variant}
use Rattle.checks.specs.Checks.{configure_number, first_failing}
use Rattle.checks.specs.Blames.{OfFirst}
use Rattle.field.specs.Field.{with_of}
use Rattle.exchange.specs.declared.Step.{Step}
use Rattle.exchange.specs.declared.Step.TheVariants.{Write, Read, Update}
use Rattle.exchange.specs.State.{is_session, completed, Begun, begun_in}
use Rattle.exchange.specs.Session.{AnswerCall, final}
use Rattle.da728x.specs.declared.DA728x.{DA728x}
use Rattle.outcome.specs.declared.Change.{Change}
use Rattle.outcome.specs.Outcome.{is_chip_of, record_by}
use Rattle.std.specs.Prelude.{Some, Option}
use Rattle.plans.specs.Configure.{configure_steps}
use Rattle.sessions.specs.Sessions.{carrying, seq_ctl2, select_step, start_steps}
use Rattle.driver.specs.Operations as operation
use Rattle.driver.specs.Operations.{Start, declines, begins, unless, started_in, change_from, sequence_checks, new_record}
use Rattle.driver.specs.Theorems.{Request, configure, upload_waveform_memory, operation_of, Typed, is_upload, is_configure, BeginsUnless, record_final}
use Rattle.driver.specs.History.{Event, new, asks, record_behind, record_of, in_force, done_by, Upload, upload_by, uploads_after, uploads, last_count, IsLoaded, TypedEvent, Begins, Loaded, Plays}
use Rattle.driver.proofs.Answers.{By, by_unless, quiet, quiet_holds}
use Rattle.driver.proofs.Starts.{configured}
use Rattle.driver.proofs.Records.{Leaves, no_step, unopened, idle, ended, spares}
use Rattle.driver.proofs.Refusals.{sequence_faults, refusals}
use Rattle.driver.proofs.Stored.{made_by_new, stored}

-- ---- lists of uploads

last_added : (us : List Upload) (u : Upload) → last_count (us ++ (u ∷ [])) ≡ cond u.done u.memory.num_sequences 0
last_added [] u = refl
last_added (v ∷ []) u = refl
last_added (v ∷ w ∷ us) u = last_added (w ∷ us) u

is_loaded : (us : List Upload) (id : ℕ) → (id < last_count us) ↔ IsLoaded us id
is_loaded [] id = (λ h. absurd (omega arith), λ h. absurd h)
is_loaded (u ∷ []) id = go u.done
  where
    go : (done : Bool) → (id < cond done u.memory.num_sequences 0) ↔ ((done ≡ true) × (id < u.memory.num_sequences))
    go true = (λ h. (refl, h), λ h. h.1)
    go false = (λ h. absurd (omega arith), λ h. absurd (false≢true h.0))
is_loaded (u ∷ v ∷ us) id = is_loaded (v ∷ us) id

-- ---- one event

-- where the lent bytes are no session, nothing happens
idle_by : (r : DA728x) (s : Start) (st : List ℕ) (cs : List AnswerCall) → is_session st ≡ false → record_behind r s st cs ≡ r
idle_by r (declines number) st cs e = refl
idle_by r (begins b xs) st cs e =
    let n = stored.unbegun (begins b xs) st e in
    (λ i. record_final (n.0 i) cs (record_by r (n.1 i))) ∙ ended cs st r (no_step st e)

module _ (r : DA728x) (st : List ℕ) (cs : List AnswerCall) (s : is_session st ≡ true) where
  abbrev Stays : Start → Type 0
  Stays x = (record_behind r x st cs).sequences ≡ r.sequences

  -- `configure`
  configured_count : (a : ActuatorConfig) (d : DeviceConfig) → Stays (operation.configure r a d).start
  configured_count a d = by (configure_number r.variant a d) refl
    where
      start : ℕ → Start
      start n = unless n (begins (carrying 2 (configured r a d)) (configure_steps a d))

      stay : (done own : Bool) →
          (cond done (cond own (record { address = r.address; variant = r.variant; settings = Some (a, d); sequences = r.sequences }) r) r).sequences ≡ r.sequences
      stay true true = refl
      stay true false = refl
      stay false own = refl

      by : (n : ℕ) → configure_number r.variant a d ≡ n → Stays (start n)
      by (suc n) e = refl
      by zero e =
          ap (λ (x : DA728x). x.sequences) (ap (λ (k : ℕ). record_final (started_in st (start k)) cs r) (sym e) ∙ stored.configures r r a d st cs e s)
          ∙ stay _ (is_chip_of r r)

  -- one of the fifteen
  quiet_count : (q : Request) → Typed q → is_upload q ≡ false → is_configure q ≡ false → Stays (operation_of r q).start
  quiet_count q t u c = by (operation_of r q).start refl
    where
      by : (x : Start) → (operation_of r q).start ≡ x → Stays x
      by (declines number) e = refl
      by (begins b xs) e =
          let h = quiet_holds r.address (operation_of r q) (quiet r q t u c) b xs e st s in
          let none = ap (change_from st) (sym e) ∙ stored.starts r q st t u in
          ap (λ (m : Option Change). (record_final (begun_in st b xs) cs (record_by r m)).sequences) none
          ∙ ap (λ (x : DA728x). x.sequences) (spares cs (begun_in st b xs) r h.0.session (subst Leaves (sym h.0.purpose) h.1))

module _ (r : DA728x) (us : List Upload) (h : r.sequences ≡ last_count us) (st : List ℕ) (cs : List AnswerCall) where
  abbrev Counted : Request → Type 0
  Counted q = (record_behind r (operation_of r q).start st cs).sequences ≡ last_count (us ++ upload_by r q st cs)

  -- no upload is added
  same_uploads : {n : ℕ} {l : List Upload} → n ≡ r.sequences → l ≡ [] → n ≡ last_count (us ++ l)
  same_uploads e l = e ∙ h ∙ ap last_count (sym (append-nil us)) ∙ ap (λ (m : List Upload). last_count (us ++ m)) (sym l)

  unasked : is_session st ≡ false → (q : Request) → Counted q
  unasked e q = same_uploads (ap (λ (x : DA728x). x.sequences) (idle_by r (operation_of r q).start st cs e)) (none q)
    where
      none : (q : Request) → upload_by r q st cs ≡ []
      none (upload_waveform_memory m lock_after) = ap (λ (b : Bool). cond b (record { memory = m; done = done_by (operation.upload_waveform_memory r m lock_after).start st cs } ∷ []) []) e
      none q = refl

  asked : is_session st ≡ true → (q : Request) → Typed q → Counted q
  asked s (configure a d) t = same_uploads (configured_count r st cs s a d) refl
  asked s (upload_waveform_memory m lock_after) t =
      let u : Upload = record { memory = m; done = done_by (operation.upload_waveform_memory r m lock_after).start st cs } in
      ap (λ (x : DA728x). x.sequences) (stored.uploads r m lock_after st cs t s)
      ∙ sym (ap (λ (b : Bool). last_count (us ++ cond b (u ∷ []) [])) s ∙ last_added us u)
  asked s q t = same_uploads (quiet_count r st cs s q t refl refl) refl

  made_new : (address : ℕ) (variant : Variant) → (b : Bool) → is_session st ≡ b →
      (record_of r (new address variant st cs)).sequences ≡ last_count (uploads_after us r (new address variant st cs))
  made_new address variant true s = ap (λ (x : DA728x). x.sequences) (made_by_new address variant st cs r s) ∙ go (done_by (operation.new address variant).start st cs)
    where
      go : (done : Bool) → (cond done (new_record address variant) r).sequences ≡ last_count (cond done [] us)
      go true = refl
      go false = h
  made_new address variant false e =
      let start = (operation.new address variant).start in
      let same = (stored.unbegun start st e).0 in
      let undone = ap (λ (t : List ℕ). completed (final t cs)) same ∙ ap completed (idle cs st (no_step st e)) ∙ unopened st e in
      ap (λ (x : DA728x). x.sequences) (idle_by r start st cs e) ∙ h ∙ ap (λ (done : Bool). last_count (cond done [] us)) (sym undone)

step : (r : DA728x) (us : List Upload) (e : Event) → TypedEvent e → r.sequences ≡ last_count us → (record_of r e).sequences ≡ last_count (uploads_after us r e)
step r us (new address variant st cs) t h = made_new r us h st cs address variant (is_session st) refl
step r us (asks q st cs) t h = by (is_session st) refl
  where
    by : (b : Bool) → is_session st ≡ b → (record_of r (asks q st cs)).sequences ≡ last_count (uploads_after us r (asks q st cs))
    by true s = asked r us h st cs s q t
    by false e = unasked r us h st cs e q

-- ---- all of a history

counted : (es : List Event) (r : DA728x) (us : List Upload) → All TypedEvent es → r.sequences ≡ last_count us → (in_force r es).sequences ≡ last_count (uploads us r es)
counted [] r us t h = h
counted (e ∷ es) r us t h = counted es (record_of r e) (uploads_after us r e) t.1 (step r us e t.0 h)

pub loaded : Loaded
loaded = record { sequences = λ address variant es t. counted es (new_record address variant) [] t refl }

-- ---- selecting and playing

module _ (sequences id loops : ℕ) where
  abbrev InRange : Type 0
  InRange = (id ≤ 15) × (loops ≤ 15) × (id < sequences)

  faultless : OfFirst 0 (sequence_faults sequences id loops) → InRange
  faultless (inl f) = absurd (omega (arith, f.1))
  faultless (inr n) = second n.1
    where
      third : ¬ (15 < loops) → OfFirst 0 ((28, sequences ≤ id) ∷ []) → InRange
      third m (inl f) = absurd (omega (arith, f.1))
      third m (inr k) = (omega (arith, n.0), omega (arith, m), omega (arith, k.0))

      second : OfFirst 0 ((11, 15 < loops) ∷ (28, sequences ≤ id) ∷ []) → InRange
      second (inl f) = absurd (omega (arith, f.1))
      second (inr m) = third m.0 m.1

  faulty : (number : ℕ) → 1 ≤ number → OfFirst number (sequence_faults sequences id loops) → InRange → ⊥
  faulty number p (inl f) h = omega (arith, f.0, h.0)
  faulty number p (inr (n, inl f)) h = omega (arith, f.0, h.1)
  faulty number p (inr (n, inr (m, inl f))) h = omega (arith, f.0, h.2)
  faulty number p (inr (n, inr (m, inr (k, e)))) h = omega (arith, p, e)

  begun_if : (s : Start) → BeginsUnless s (sequence_faults sequences id loops) → Begins s ↔ InRange
  begun_if (declines number) f = (λ b. absurd b, λ h. faulty number f.0 f.1 h)
  begun_if (begins b xs) f = (λ u. faultless f, λ h. tt)

-- the count is that of the uploads
consults : (r : DA728x) (us : List Upload) (id loops : ℕ) (s : Start) → r.sequences ≡ last_count us → BeginsUnless s (sequence_faults r.sequences id loops) →
    Begins s ↔ ((id ≤ 15) × (loops ≤ 15) × IsLoaded us id)
consults r us id loops s h f =
    let k = begun_if r.sequences id loops s f in
    let l = is_loaded us id in
    (λ b. let x = k.0 b in (x.0, x.1, l.0 (subst (λ (n : ℕ). id < n) h x.2)), λ x. k.1 (x.0, x.1, subst (λ (n : ℕ). id < n) (sym h) (l.1 x.2)))

-- the byte of SEQ_CTL2
selecting : (id loops : ℕ) → id ≤ 15 → loops ≤ 15 → seq_ctl2 id loops ≡ id + 16 * loops
unfolding seq_ctl2 with_of
selecting id loops p q = omega arith

sends : (s : Start) (b : Begun) (xs : List Step) (sequences id loops : ℕ) (ys : List Step) → BeginsUnless s (sequence_faults sequences id loops) →
    By (λ c zs. (c.reads ≡ 0) × (zs ≡ select_step id loops ∷ ys)) s → s ≡ begins b xs → (b.reads ≡ 0) × (xs ≡ Write 0x28 (id + 16 * loops) ∷ ys)
sends s b xs sequences id loops ys f g e =
    let h = faultless sequences id loops (subst (λ (x : Start). BeginsUnless x (sequence_faults sequences id loops)) e f) in
    let k = subst (By (λ c zs. (c.reads ≡ 0) × (zs ≡ select_step id loops ∷ ys))) e g in
    (k.0, k.1 ∙ ap (λ (v : ℕ). Write 0x28 v ∷ ys) (selecting id loops h.0 h.1))

pub plays : Plays
plays = record {
  selects = λ address variant es id loops t.
      let r = in_force (new_record address variant) es in
      consults r (uploads [] (new_record address variant) es) id loops (operation.select_sequence r id loops).start (loaded.sequences address variant es t)
      (refusals.select_sequence r id loops);
  plays = λ address variant es id loops t.
      let r = in_force (new_record address variant) es in
      consults r (uploads [] (new_record address variant) es) id loops (operation.play_sequence r id loops).start (loaded.sequences address variant es t)
      (refusals.play_sequence r id loops);
  selected = λ r id loops b xs e.
      sends (operation.select_sequence r id loops).start b xs r.sequences id loops [] (refusals.select_sequence r id loops)
      (by_unless _ (first_failing (sequence_checks r.sequences id loops)) _ (refl, refl)) e;
  played = λ r id loops b xs e.
      sends (operation.play_sequence r id loops).start b xs r.sequences id loops start_steps (refusals.play_sequence r id loops)
      (by_unless _ (first_failing (sequence_checks r.sequences id loops)) _ (refl, refl)) e;
  started = λ r b xs e. subst (By (λ c zs. (c.reads ≡ 0) × (zs ≡ Read 0x22 ∷ Update 0x22 4 1 1 ∷ []))) e (refl, refl);
}
