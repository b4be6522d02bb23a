-- Steps that write neither to the memory nor to MEM_CTL2 leave the chip, and such are those of every operation but the upload and the two of the lock.
-- Assumes nothing.
use Rattle.std.proofs.Common.{ℕ, zero, suc, ◌-◌, ◌≡◌, ◌∙◌, inl, refl, sym, ap, subst, Bool, true, false, not, ◌&&◌, ltb, eqb, eqb-true, ltb-true, List, [], ◌∷◌, length, take, arith}
use Rattle.std.proofs.lemmas.Bool.{true≢false, eqb-false}
use Rattle.std.proofs.Math.Bool.{and-eq-true_iff}
use Rattle.std.proofs.Math.Seq.{take-nil}
use Rattle.laws.specs.Bytes.{All}
use Rattle.field.specs.Field.{with_of}
use Rattle.checks.specs.Checks.{configure_number, first_failing, outside_band}
use Rattle.da728x.specs.declared.DA728x.{DA728x}
use Rattle.exchange.specs.declared.Step.{Step}
use Rattle.exchange.specs.declared.Step.TheVariants.{Write, Read, Update, Store}
use Rattle.exchange.specs.Steps.{exchange, exchange_for}
use Rattle.exchange.specs.State.{is_session, left, Begun, begun_in}
use Rattle.driver.specs.Operations.{override_checks, drive_point_checks, sequence_checks}
use Rattle.driver.specs.Theorems.{Request, configure, get_chip_rev, get_events, get_status, set_frequency, set_override_value, set_timebase, enable, disable, set_custom_drive_waveform, unlock_waveform_memory, lock_waveform_memory, upload_waveform_memory, read_waveform_memory, select_sequence, start_sequence, play_sequence, operation_of, is_upload, all_steps}
use Rattle.driver.proofs.Mismatch.{every_step, Apart, frequency_apart, configure_apart}
use Rattle.driver.proofs.Answers.{By, by_unless, by_settings, Tamed, tamed, fits_new}
use Rattle.driver.proofs.Begun.{Fits, holds}
use Rattle.chip.specs.declared.Chip.{Chip}
use Rattle.chip.specs.Writes.{stored, stored_all, reached}
use Rattle.chip.specs.Runs.{Attempt, chip_after}
use Rattle.chip.specs.Between.{writes_lock, Between}
use Rattle.chip.proofs.Stores.{part_own, part_other, stores}
use Rattle.chip.proofs.Runs.{Idle, idle_run, stays}
use Rattle.chip.proofs.One.{none_begun, no_steps}

-- ---- a byte to a register below the memory, MEM_CTL2 not among them

module _ (c : Chip) (e : length c.bytes ≡ 100) where
  -- a byte there, and an exchange that brings one
  one_byte : (register b : ℕ) → (not (eqb register 0x2D) && ltb register 132) ≡ true → stored c register b ≡ c
  one_byte register b h =
      let p = (and-eq-true_iff (not (eqb register 0x2D)) (ltb register 132)).0 h in
      stores.elsewhere c register b e (λ k. true≢false (sym (ap (λ (r : ℕ). not (eqb r 0x2D)) (sym k) ∙ p.0))) (inl (ltb-true register 132 p.1))

  part_apart : (k address register b : ℕ) → (not (eqb register 0x2D) && ltb register 132) ≡ true → reached k c (exchange address (register ∷ b ∷ []) 0) ≡ c
  part_apart k address register b h = go (eqb address c.address) refl where
    some : (i : ℕ) → stored_all c register (take i (b ∷ [])) ≡ c
    some zero = refl
    some (suc i) = ap (λ (l : List ℕ). stored_all (stored c register b) (suc register) l) (take-nil i) ∙ one_byte register b h

    go : (q : Bool) → eqb address c.address ≡ q → reached k c (exchange address (register ∷ b ∷ []) 0) ≡ c
    go true q = part_own c address register (b ∷ []) k (eqb-true _ _ q) ∙ some (k - 1)
    go false q = part_other c (exchange address (register ∷ b ∷ []) 0) k (eqb-false _ _ q)

  step_apart : (address : ℕ) (image : List ℕ) (x : Step) → Apart x → Idle c address image x
  step_apart address image (Write register value) h k last = part_apart k address register value h
  step_apart address image (Read register) h k last = stores.reads k c (exchange_for address last image (Read register)) (omega arith)
  step_apart address image (Update register shift width value) h k last = part_apart k address register (with_of last shift width value) h
  step_apart address image (Store index) h k last = stores.reads k c (exchange_for address last image (Store index)) (omega arith)
  step_apart address image x h k last = absurd h

  all_apart : (address : ℕ) (image : List ℕ) (xs : List Step) → All Apart xs → All (Idle c address image) xs
  all_apart address image [] h = tt
  all_apart address image (x ∷ xs) h = (step_apart address image x h.0, all_apart address image xs h.1)

  -- a session of such steps
  leaves_it : (st : List ℕ) (b : Begun) (xs : List Step) → Fits b xs → All (Idle c b.address b.image) (all_steps b xs) → (attempts : List Attempt) (last_tries : List ℕ) →
      chip_after c (begun_in st b xs) attempts last_tries ≡ c
  leaves_it st b xs f p attempts last_tries = go (is_session st) refl where
    go : (q : Bool) → is_session st ≡ q → chip_after c (begun_in st b xs) attempts last_tries ≡ c
    go true s =
        let h = holds st b xs s f in
        idle_run c b.address b.image (begun_in st b xs) (record { session = h.session; address_is = h.address; image_is = h.image })
        (subst (All (Idle c b.address b.image)) (sym h.steps) p) attempts last_tries
    go false s =
        let n = none_begun st b xs s in
        (stays attempts (begun_in st b xs) (ap left n ∙ (no_steps st s).0)).chip c last_tries

-- ---- such are the steps of all but the upload and the two of the lock

abbrev Steps : Begun → List Step → Type 0
Steps b xs = All Apart xs

operation_apart : (r : DA728x) (q : Request) → is_upload q ≡ false → writes_lock q ≡ false → By Steps (operation_of r q).start
operation_apart r (configure a d) u l = by_unless Steps (configure_number r.variant a d) _ (configure_apart a d)
operation_apart r get_chip_rev u l = (refl, tt)
operation_apart r get_events u l = (refl, (refl, (refl, (refl, tt))))
operation_apart r get_status u l = (refl, tt)
operation_apart r (set_frequency hz) u l =
    by_settings Steps r.settings _ (λ a d. by_unless Steps (first_failing ((outside_band d.driving_mode hz, 23) ∷ [])) _ (frequency_apart hz))
operation_apart r (set_override_value value) u l = by_settings Steps r.settings _ (λ a d. by_unless Steps (first_failing (override_checks d value)) _ (refl, tt))
operation_apart r (set_timebase timebase) u l = (refl, (refl, tt))
operation_apart r enable u l = by_settings Steps r.settings _ (λ a d. (refl, tt))
operation_apart r disable u l = by_settings Steps r.settings _ (λ a d. (refl, (refl, tt)))
operation_apart r (set_custom_drive_waveform p1 p2 p3) u l =
    by_settings Steps r.settings _ (λ a d. by_unless Steps (first_failing (drive_point_checks d)) _ (refl, (refl, (refl, tt))))
operation_apart r unlock_waveform_memory u l = absurd (true≢false l)
operation_apart r lock_waveform_memory u l = absurd (true≢false l)
operation_apart r (upload_waveform_memory m lock_after) u l = absurd (true≢false u)
operation_apart r (read_waveform_memory len room) u l = tt
operation_apart r (select_sequence id loops) u l = by_unless Steps (first_failing (sequence_checks r.sequences id loops)) _ (refl, tt)
operation_apart r start_sequence u l = (refl, (refl, tt))
operation_apart r (play_sequence id loops) u l = by_unless Steps (first_failing (sequence_checks r.sequences id loops)) _ (refl, (refl, (refl, tt)))

pub between : Between
between = record {
  others = λ r q t u l b xs s st c attempts last_tries e.
      let f = subst (By (Tamed r.address (operation_of r q).answers)) s (tamed r q t u) in
      let p = subst (By Steps) s (operation_apart r q u l) in
      leaves_it c e st b xs f.0.0 (all_apart c e b.address b.image _ (every_step Apart (λ i. tt) b xs p)) attempts last_tries;
  new = λ address variant st c attempts last_tries e. leaves_it c e st _ _ (fits_new address variant).0 ((λ k last. stores.reads k c _ (omega arith)), tt) attempts last_tries;
}
