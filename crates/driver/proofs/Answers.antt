-- What every operation sends and answers. Assumes nothing.
use Prim.Native.Nat.{ℕ, suc, zero, ◌≤◌, ◌<◌, min}
use native.Mathlib.Omega.{arith}
use mathlib.Core.Path.{◌≡◌, refl, sym, ap, subst}
use mathlib.Core.Bool.{Bool, true, false, not, true≢false}
use mathlib.Core.List.{List, [], ◌∷◌, append-nil}
use lib.ListN.{length}
use Rattle.laws.specs.Bytes.{All}
use Rattle.field.specs.Field.{with_of}
use Rattle.config.specs.declared.ActuatorConfig.{ActuatorConfig}
use Rattle.config.specs.declared.DeviceConfig.{DeviceConfig}
use Rattle.config.specs.declared.Variant.{Variant}
use Rattle.memory.specs.declared.WaveformMemory.{WaveformMemory}
use Rattle.config.specs.Codes.{operation_code}
use Rattle.config.specs.declared.DrivingMode.TheVariants.{CUSTOM_WAVEFORM}
use Rattle.config.specs.declared.OperationMode.TheVariants.{INACTIVE}
use Rattle.checks.specs.Checks.{first_failing, configure_number, outside_band}
use Rattle.exchange.specs.declared.Step.{Step}
use Rattle.exchange.specs.declared.Step.TheVariants.{Write, Read}
use Rattle.registers.specs.Table.{address_of}
use Rattle.exchange.specs.State.{is_session, Begun, begun_in}
use Rattle.exchange.specs.Session.{AnswerCall, exchanges_of}
use Rattle.plans.specs.Configure.{configure_steps, frequency_steps}
use Rattle.plans.proofs.Lengths.{at_least, at_most, frequency}
use Rattle.da728x.specs.declared.DA728x.{DA728x}
use Rattle.std.specs.Prelude.{Option, Some, None}
use Rattle.da728x.proofs.Kept.{record_length}
use Rattle.convert.specs.Convert.{override_byte}
use Rattle.memory.specs.Timebase.{timebase_bit}
use Rattle.plans.specs.Fields.{put, updated}
use Rattle.sessions.specs.Sessions.{no_image, blank, carrying, enabled, select_step, start_steps, set_unlocked}
use Rattle.driver.specs.Operations as operation
use Rattle.outcome.specs.Outcome.{big_endian}
use Rattle.driver.specs.Operations.{Start, declines, begins, started_in, unless, with_settings, runs, Operation, override_checks, is_custom, drive_point_checks, drive_point_steps, upload_record, upload_begun, upload_steps, sequence_checks}
use Rattle.driver.specs.Theorems.{Request, configure, get_chip_rev, get_events, get_status, set_frequency, set_override_value, set_timebase, enable, disable, set_custom_drive_waveform, unlock_waveform_memory, lock_waveform_memory, upload_waveform_memory, read_waveform_memory, select_sequence, start_sequence, play_sequence, operation_of, Typed, is_upload, is_configure, Course, AnswersAs, InStored, Answers, all_steps}
use Rattle.driver.proofs.Records.{Leaves}
use Rattle.driver.proofs.Begun.{Fits, Holds, holds, no_image_lem, no_record, value_of, answered, counted, within, all_made}
use Rattle.exchange.proofs.Latest.{bytes_wanted}
use Rattle.driver.proofs.Mismatch.{AllPlain, AllTame, plain, all_plain, tame_if, frequency_apart, configure_apart, send_plain, never}
use Rattle.driver.proofs.Starts.{configured}
use Rattle.driver.proofs.Upload.{few}

-- ---- what an operation is begun with

-- refused, or a beginning of which this holds
abbrev pub By : (Begun → List Step → Type 0) → Start → Type 0
By Q (declines number) = Unit
By Q (begins b xs) = Q b xs

pub by_unless : (Q : Begun → List Step → Type 0) (n : ℕ) (s : Start) → By Q s → By Q (unless n s)
by_unless Q zero s q = q
by_unless Q (suc n) s q = tt

pub by_settings : (Q : Begun → List Step → Type 0) (s : Option (ActuatorConfig × DeviceConfig)) (f : ActuatorConfig → DeviceConfig → Start) →
    ((a : ActuatorConfig) (d : DeviceConfig) → By Q (f a d)) → By Q (with_settings s f)
by_settings Q None f q = tt
by_settings Q (Some (a, d)) f q = q a d

-- its session answers as its result says
abbrev pub Gives : (List ℕ → ℕ) → Begun → List Step → Type 0
Gives result b xs = (bytes : List ℕ) → length bytes ≡ bytes_wanted (exchanges_of b.address 0 b.image (all_steps b xs) bytes) →
    value_of b.purpose bytes (min b.reads 100) ≡ result bytes

abbrev pub Sound : ℕ → (List ℕ → ℕ) → Begun → List Step → Type 0
Sound address result b xs = Fits b xs × Gives result b xs × (b.address ≡ address)

abbrev pub SoundOperation : ℕ → Operation → Type 0
SoundOperation address o = By (Sound address o.answers) o.start

-- and compares nothing
abbrev Calm : ℕ → (List ℕ → ℕ) → Begun → List Step → Type 0
Calm address result b xs = Sound address result b xs × AllPlain xs

-- and is of registers alone
abbrev pub Tamed : ℕ → (List ℕ → ℕ) → Begun → List Step → Type 0
Tamed address result b xs = Sound address result b xs × AllTame xs

-- and leaves the record
abbrev pub Quiet : ℕ → (List ℕ → ℕ) → Begun → List Step → Type 0
Quiet address result b xs = Tamed address result b xs × Leaves b.purpose

abbrev pub QuietOperation : ℕ → Operation → Type 0
QuietOperation address o = By (Quiet address o.answers) o.start

-- from one claim on what is begun to another
pub by_both : {P Q : Begun → List Step → Type 0} → ((b : Begun) (xs : List Step) → P b xs → Q b xs) → (s : Start) → By P s → By Q s
by_both f (declines number) p = p
by_both f (begins b xs) p = f b xs p

quiet_runs : (r : DA728x) (xs : List Step) → length xs ≤ 25 → AllTame xs → By (Quiet r.address (λ bytes. 0)) (runs r xs)
quiet_runs r xs h p = ((((h, omega arith, no_image_lem, no_record), λ bytes e. refl, refl), p), (λ next s. refl, refl))

-- so its session holds what it was begun with
pub quiet_holds : (address : ℕ) (o : Operation) → QuietOperation address o → (b : Begun) (xs : List Step) → o.start ≡ begins b xs → (st : List ℕ) → is_session st ≡ true →
    Holds (begun_in st b xs) b (all_steps b xs) × Leaves b.purpose
quiet_holds address o q b xs e st s = let g = subst (λ (x : Start). By (Quiet address o.answers) x) e q in (holds st b xs s g.0.0.0, g.1)

-- ---- the fifteen that leave the record

one_byte : (r : DA728x) (xs : List Step) → length xs ≤ 25 → AllTame xs →
    ((bytes : List ℕ) → length bytes ≡ bytes_wanted (exchanges_of r.address 0 no_image (all_steps (blank 3 r.address) xs) bytes) → length bytes ≡ 1) →
    By (Quiet r.address (big_endian 0)) (begins (blank 3 r.address) xs)
one_byte r xs h p w = ((((h, omega arith, no_image_lem, no_record), λ bytes e. go bytes (w bytes e), refl), p), (λ next s. refl, refl))
  where
    go : (bytes : List ℕ) → length bytes ≡ 1 → value_of 3 bytes (min 0 100) ≡ big_endian 0 bytes
    go [] e = absurd (omega (arith, e))
    go (b ∷ []) e = omega arith
    go (b ∷ c ∷ bytes) e = absurd (omega (arith, e))

three_bytes_lem : (bytes : List ℕ) → length bytes ≡ 3 → value_of 4 bytes (min 0 100) ≡ big_endian 0 bytes
three_bytes_lem [] e = absurd (omega (arith, e))
three_bytes_lem (a ∷ []) e = absurd (omega (arith, e))
three_bytes_lem (a ∷ b ∷ []) e = absurd (omega (arith, e))
three_bytes_lem (a ∷ b ∷ c ∷ []) e = refl
three_bytes_lem (a ∷ b ∷ c ∷ d ∷ bytes) e = absurd (omega (arith, e))

pub quiet : (r : DA728x) (q : Request) → Typed q → is_upload q ≡ false → is_configure q ≡ false → QuietOperation r.address (operation_of r q)
quiet r (configure a d) t u c = absurd (true≢false c)
quiet r get_chip_rev t u c = one_byte r (Read (address_of "CHIP_REV") ∷ []) (omega arith) (refl, tt) (λ bytes e. e)
quiet r get_events t u c = ((((omega arith, omega arith, no_image_lem, no_record), λ bytes e. three_bytes_lem bytes e, refl), (refl, (refl, (refl, (refl, tt))))), (λ next s. refl, refl))
quiet r get_status t u c = one_byte r (Read (address_of "IRQ_STATUS1") ∷ []) (omega arith) (refl, tt) (λ bytes e. e)
quiet r (set_frequency hz) t u c =
    by_settings _ r.settings _ (λ a d. by_unless _ (first_failing ((outside_band d.driving_mode hz, 23) ∷ [])) _
    (quiet_runs r (frequency_steps hz) (omega (arith, frequency hz)) (tame_if _ (frequency_apart hz))))
quiet r (set_override_value value) t u c =
    by_settings _ r.settings _ (λ a d. by_unless _ (first_failing (override_checks d value)) _
    (quiet_runs r (Write (address_of "TOP_CTL2") (override_byte value) ∷ []) (omega arith) (refl, tt)))
quiet r (set_timebase timebase) t u c = quiet_runs r (updated "SEQ_CTL1" (put "FREQ_WAVEFORM_TIMEBASE" (timebase_bit timebase))) (omega arith) (refl, (refl, tt))
quiet r enable t u c = by_settings _ r.settings _ (λ a d. quiet_runs r (Write (address_of "TOP_CTL1") (enabled d.operation_mode) ∷ []) (omega arith) (refl, tt))
quiet r disable t u c =
    by_settings _ r.settings _ (λ a d. quiet_runs r (updated "TOP_CTL1" (put "OPERATION_MODE" (operation_code INACTIVE))) (omega arith) (refl, (refl, tt)))
quiet r (set_custom_drive_waveform p1 p2 p3) t u c =
    by_settings _ r.settings _ (λ a d. by_unless _ (first_failing (drive_point_checks d)) _
    (quiet_runs r (drive_point_steps p1 p2 p3) (omega arith) (refl, (refl, (refl, tt)))))
quiet r unlock_waveform_memory t u c = quiet_runs r (set_unlocked true ∷ []) (omega arith) (refl, tt)
quiet r lock_waveform_memory t u c = quiet_runs r (set_unlocked false ∷ []) (omega arith) (refl, tt)
quiet r (upload_waveform_memory m lock_after) t u c = absurd (true≢false u)
quiet r (read_waveform_memory len room) t u c = ((((omega arith, t, no_image_lem, no_record), λ bytes e. omega arith, refl), tt), (λ next s. refl, refl))
quiet r (select_sequence id loops) t u c = by_unless _ (first_failing (sequence_checks r.sequences id loops)) _ (quiet_runs r (select_step id loops ∷ []) (omega arith) (refl, tt))
quiet r start_sequence t u c = quiet_runs r start_steps (omega arith) (refl, (refl, tt))
quiet r (play_sequence id loops) t u c =
    by_unless _ (first_failing (sequence_checks r.sequences id loops)) _ (quiet_runs r (select_step id loops ∷ start_steps) (omega arith) (refl, (refl, (refl, tt))))

-- ---- all eighteen

pub fits_new : (address : ℕ) (variant : Variant) → SoundOperation address (operation.new address variant)
fits_new address variant = ((omega arith, omega arith, no_image_lem, record_length _), λ bytes e. refl, refl)

pub fits_configure : (r : DA728x) (a : ActuatorConfig) (d : DeviceConfig) → Fits (carrying 2 (configured r a d)) (configure_steps a d)
fits_configure r a d = (at_most a d, omega arith, no_image_lem, record_length (configured r a d))

pub fits_upload : (r : DA728x) (m : WaveformMemory) (lock_after : Bool) → length m.«data» ≡ 100 → Fits (upload_begun r m) (upload_steps m lock_after)
fits_upload r m lock_after e = (few m lock_after, omega arith, e, record_length (upload_record r m))

pub tamed : (r : DA728x) (q : Request) → Typed q → is_upload q ≡ false → By (Tamed r.address (operation_of r q).answers) (operation_of r q).start
tamed r (configure a d) t u = by_unless _ (configure_number r.variant a d) _ ((fits_configure r a d, λ bytes e. refl, refl), tame_if _ (configure_apart a d))
tamed r (upload_waveform_memory m lock_after) t u = absurd (true≢false u)
tamed r q t u = by_both {P = Quiet r.address (operation_of r q).answers} (λ b xs p. p.0) (operation_of r q).start (quiet r q t u refl)

calm : (r : DA728x) (q : Request) → Typed q → By (Calm r.address (operation_of r q).answers) (operation_of r q).start
calm r (upload_waveform_memory m lock_after) t = ((fits_upload r m lock_after t, λ bytes e. refl, refl), send_plain (min m.len 100) lock_after)
calm r q t = by_both {P = Tamed r.address (operation_of r q).answers} {Q = Calm r.address (operation_of r q).answers} (λ b xs p. (p.0, plain xs p.1)) (operation_of r q).start (tamed r q t refl)

-- what an accepted `configure` begins
pub holds_configure : (r : DA728x) (a : ActuatorConfig) (d : DeviceConfig) (st : List ℕ) → configure_number r.variant a d ≡ 0 → is_session st ≡ true →
    Holds (started_in st (operation.configure r a d).start) (carrying 2 (configured r a d)) (all_steps (carrying 2 (configured r a d)) (configure_steps a d))
holds_configure r a d st none s =
    let b = carrying 2 (configured r a d) in
    subst (λ (k : ℕ). Holds (started_in st (unless k (begins b (configure_steps a d)))) b (all_steps b (configure_steps a d))) (sym none)
    (holds st b (configure_steps a d) s (fits_configure r a d))

answers_as : (address : ℕ) (o : Operation) → SoundOperation address o → AnswersAs address o
answers_as address o f b xs e st s cs =
    let g = subst (λ (x : Start). By (Sound address o.answers) x) e f in
    subst (λ (x : ℕ). Course (begun_in st b xs) x b.image (all_steps b xs) o.answers cs) g.2
    (answered (holds st b xs s g.0) cs o.answers g.1)

courses : (r : DA728x) (q : Request) → Typed q → AnswersAs r.address (operation_of r q)
courses r q t = answers_as r.address (operation_of r q) (by_both {P = Calm r.address (operation_of r q).answers} (λ b xs p. p.0) (operation_of r q).start (calm r q t))

-- ---- custom drive points

-- where CUSTOM_WAVEFORM is stored, nothing is refused
custom_begins : (s : Option (ActuatorConfig × DeviceConfig)) (x : Start) → InStored (λ a d. d.driving_mode ≡ CUSTOM_WAVEFORM) s →
    with_settings s (λ a d. unless (first_failing (drive_point_checks d)) x) ≡ x
custom_begins None x h = absurd h
custom_begins (Some (a, d)) x h = λ i. unless (first_failing ((not (is_custom (h i)), 12) ∷ [])) x

-- a field as wide as the register is the byte
whole_register : (p : ℕ) → p < 256 → with_of 0 0 8 p ≡ p
unfolding with_of
whole_register p h = omega arith

drive_points : (r : DA728x) (p1 p2 p3 : ℕ) (st : List ℕ) (cs : List AnswerCall) → InStored (λ a d. d.driving_mode ≡ CUSTOM_WAVEFORM) r.settings →
    All (λ p. p < 256) (p1 ∷ p2 ∷ p3 ∷ []) → is_session st ≡ true →
    Course (started_in st (operation.set_custom_drive_waveform r p1 p2 p3).start) r.address no_image (Write 0x25 p1 ∷ Write 0x26 p2 ∷ Write 0x27 p3 ∷ []) (λ bytes. 0) cs
drive_points r p1 p2 p3 st cs h p s =
    let xs = drive_point_steps p1 p2 p3 in
    let e = custom_begins r.settings (runs r xs) h in
    subst (λ (x : Start). Course (started_in st x) r.address no_image (Write 0x25 p1 ∷ Write 0x26 p2 ∷ Write 0x27 p3 ∷ []) (λ bytes. 0) cs) (sym e)
    (subst (λ (ys : List Step). Course (begun_in st (blank 0 r.address) xs) r.address no_image ys (λ bytes. 0) cs)
    (λ i. Write 0x25 (whole_register p1 p.0 i) ∷ Write 0x26 (whole_register p2 p.1.0 i) ∷ Write 0x27 (whole_register p3 p.1.1.0 i) ∷ [])
    (courses r (set_custom_drive_waveform p1 p2 p3) tt (blank 0 r.address) xs e st s cs))

pub answers : Answers
answers = record {
  news = λ address variant. answers_as address (operation.new address variant) (fits_new address variant);
  courses = courses;
  mismatch = λ r q t b xs e st s cs.
      let g = subst (By (Calm r.address (operation_of r q).answers)) e (calm r q t) in
      never (holds st b xs s g.0.0) (all_plain b xs g.1) cs;
  counts = λ r a d st cs none s.
      let h = holds_configure r a d st none s in
      let n = ap length (append-nil (configure_steps a d)) in
      (omega (arith, counted h cs, within h cs, at_most a d, n), λ done. omega (arith, counted h cs, all_made h cs done, at_least a d, n));
  configures = λ r a d b xs e.
      subst (By (λ (c : Begun) (ys : List Step). ys ≡ configure_steps a d)) e (by_unless (λ (c : Begun) (ys : List Step). ys ≡ configure_steps a d) (configure_number r.variant a d) _ refl);
  drive_points = drive_points;
}
