-- The answers hold exactly the accepted settings that convert to a value, and these values are what is written. Assumes nothing.
use Rattle.std.proofs.Common.{◌<◌, ◌&&◌, ℕ, ◌/◌, ◌%◌, ◌≤◌, ◌≡◌, ◌∙◌, ◌↔◌, Bool, true, false, cond, not, leb, List, [], ◌∷◌, ◌++◌, filter, Option, Some, None, refl, sym, ap, subst, subst₂, arith, true≢false, leb-true, leb-false, le-leb}
use Rattle.std.proofs.lemmas.List.Elements.{filter-append}
use Rattle.config.specs.declared.ActuatorConfig.{ActuatorConfig}
use Rattle.config.specs.declared.ActuatorType.{ActuatorType}
use Rattle.config.specs.declared.ActuatorType.TheVariants.{LRA, ERM}
use Rattle.config.specs.Codes.{actuator_code}
use Rattle.config.specs.declared.DeviceConfig.{DeviceConfig}
use Rattle.config.specs.declared.DrivingMode.{DrivingMode}
use Rattle.config.specs.declared.DrivingMode.TheVariants.{FREQUENCY_TRACK, WIDEBAND, CUSTOM_WAVEFORM}
use Rattle.config.specs.declared.OperationMode.TheVariants.{INACTIVE, ETWM_MODE}
use Rattle.config.specs.declared.Variant.TheVariants.{DA7280}
use Rattle.checks.specs.Checks.{tracking, etwm, outside_band, first_failing}
use Rattle.checks.specs.InRange.{InRange}
use Rattle.checks.proofs.Accepted as checked
use Rattle.checks.proofs.Tests.{tracks, untracks}
use Rattle.convert.specs.Convert.{voltage_byte, imax_code, period_word}
use Rattle.config.specs.declared.TriggerConfig.{TriggerConfig}
use Rattle.convert.specs.Convert.{low_part}
use Rattle.convert.proofs.Whole as whole
use Rattle.laws.proofs.Tests.{same, same₃}
use Rattle.field.specs.Field.{code_of, with_of}
use Rattle.plans.specs.Fields.{put, fresh}
use Rattle.plans.specs.Fields as Fields
use Rattle.plans.specs.Configure.{top_cfg1, accelerates, feature_steps, limit_steps, calibration_steps, pid_steps, frequency_steps, rapid_stop_steps, phase_steps, custom_steps, driving_steps, gpi_steps, given_steps, trigger_steps, configure_steps}
use Rattle.exchange.specs.declared.Step.{Step}
use Rattle.exchange.specs.declared.Step.TheVariants.{Write}
use Rattle.exchange.specs.State.{Begun}
use Rattle.da728x.specs.declared.DA728x.{DA728x}
use Rattle.driver.specs.Operations.{Start, declines, begins, unless, with_settings, runs}
use Rattle.driver.specs.Theorems.{InStored}
use Prim.Native.String.{String, ◌++◌ as ◌&◌}
use Rattle.ranges.specs.declared.Range.{Range}
use Rattle.ranges.specs.Search.{accepted_voltage, accepted_current, accepted_frequency, voltage_range, imax_range, period_range, span}
use Rattle.ranges.specs.Ranges.{Taken, Place, Nominal, Absolute, Current, Frequency, IsAccepted, Exactly, Answered, to_source, from_to, Ranges}
use Rattle.ranges.proofs.Ends.{Between, in_band, in_limits, voltages, currents, frequencies, voltage_is, imax_is, period_is}

-- ---- which settings are taken

-- settings with the numbers given and all else plain
module _ (nominal absolute current hz : ℕ) (mode : DrivingMode) where
  abbrev actuator : ActuatorConfig
  actuator = record {
    actuator_type = LRA;
    nominal_max_mV = nominal;
    absolute_max_mV = absolute;
    max_current_mA = current;
    impedance_mOhm = 8000;
    inductance_uH = 50;
    frequency_Hz = hz;
    pid_Kp_Ki = None;
  }

  abbrev device : DeviceConfig
  device = record {
    operation_mode = INACTIVE;
    driving_mode = mode;
    gpi_trigger_0 = None;
    gpi_trigger_1 = None;
    gpi_trigger_2 = None;
    acceleration = false;
    rapid_stop = false;
  }

  within : accepted_voltage nominal ≡ true → accepted_voltage absolute ≡ true → accepted_current current ≡ true → accepted_frequency mode hz ≡ true → InRange DA7280 actuator device
  within h g l f =
      let b = (in_band mode hz).0 f in
      let no_etwm : ¬ (INACTIVE ≡ ETWM_MODE) = λ e. true≢false (sym (ap etwm e)) in
      record {
        nominal = leb-true nominal 5990 h;
        absolute = leb-true absolute 5990 g;
        current = (in_limits current).0 l;
        impedance = (omega arith, omega arith);
        tracking = λ p. let t = ap tracking p in (grind arith, grind arith);
        untracked = λ u. let t = (untracks mode).1 u in (grind arith, grind arith, refl);
        rapid_stop = refl;
        triggers = λ e. absurd (no_etwm e);
        single = λ e. absurd (no_etwm e);
        sequences = λ e. absurd (no_etwm e);
      }

  abbrev taken : accepted_voltage nominal ≡ true → accepted_voltage absolute ≡ true → accepted_current current ≡ true → accepted_frequency mode hz ≡ true → Taken
  taken h g l f = record { variant = DA7280; actuator = actuator; device = device; taken = (checked.exact DA7280 actuator device).1 (within h g l f) }

-- ---- the accepted settings

in_range : (s : Taken) → InRange s.variant s.actuator s.device
in_range s = (checked.exact s.variant s.actuator s.device).0 s.taken

nominals : (mV : ℕ) → (accepted_voltage mV ≡ true) ↔ IsAccepted Nominal mV
nominals mV = (
  λ e. (taken mV 0 29 170 WIDEBAND e refl refl refl, refl),
  λ p. le-leb mV 5990 (subst (λ (n : ℕ). n ≤ 5990) p.1 (in_range p.0).nominal),
)

absolutes : (mV : ℕ) → (accepted_voltage mV ≡ true) ↔ IsAccepted Absolute mV
absolutes mV = (
  λ e. (taken 0 mV 29 170 WIDEBAND refl e refl refl, refl),
  λ p. le-leb mV 5990 (subst (λ (n : ℕ). n ≤ 5990) p.1 (in_range p.0).absolute),
)

currents_are : (mA : ℕ) → (accepted_current mA ≡ true) ↔ IsAccepted Current mA
currents_are mA = (
  λ e. (taken 0 0 mA 170 WIDEBAND refl refl e refl, refl),
  λ p. subst (λ (n : ℕ). accepted_current n ≡ true) p.1 ((in_limits p.0.actuator.max_current_mA).1 (in_range p.0).current),
)

of_range : (s : Taken) (t : Bool) → tracking s.device.driving_mode ≡ t → accepted_frequency s.device.driving_mode s.actuator.frequency_Hz ≡ true
of_range s true t = let b = (in_range s).tracking (tracks _ t) in (in_band s.device.driving_mode s.actuator.frequency_Hz).1 (grind arith, grind arith)
of_range s false t = let b = (in_range s).untracked ((untracks _).0 t) in (in_band s.device.driving_mode s.actuator.frequency_Hz).1 (grind arith, grind arith)

frequencies_are : (mode : DrivingMode) (hz : ℕ) → (accepted_frequency mode hz ≡ true) ↔ IsAccepted (Frequency mode) hz
frequencies_are mode hz = (
  λ e. (taken 0 0 29 hz mode refl refl refl e, (refl, refl)),
  λ p.
      subst₂ (λ (m : DrivingMode) (n : ℕ). accepted_frequency m n ≡ true) p.1.0 p.1.1 (of_range p.0 (tracking p.0.device.driving_mode) refl),
)

together : (mode : DrivingMode) (nominal absolute mA hz : ℕ) → IsAccepted Nominal nominal → IsAccepted Absolute absolute → IsAccepted Current mA
    → IsAccepted (Frequency mode) hz → (s : Taken) × Nominal s nominal × Absolute s absolute × Current s mA × Frequency mode s hz
together mode nominal absolute mA hz p q r s =
    (taken nominal absolute mA hz mode ((nominals nominal).1 p) ((absolutes absolute).1 q) ((currents_are mA).1 r) ((frequencies_are mode hz).1 s), refl, refl, refl, (refl, refl))

-- ---- an answer is exact

module _ (P : Place) (accepts : ℕ → Bool) (converts : ℕ → ℕ) (accepted : (n : ℕ) → (accepts n ≡ true) ↔ IsAccepted P n) where
  of_span : (value a b : ℕ) → Between accepts converts value a b → Exactly P converts value (span a b)
  of_span value a b between = go (leb a b) refl where
    go : (t : Bool) → leb a b ≡ t → Exactly P converts value (cond t (from_to a b) None)
    go true e = (
      leb-true a b e,
      λ n. (
        λ h. let k = (between n).1 h in ((accepted n).0 k.0, k.1),
        λ h. (between n).0 ((accepted n).1 h.0, h.1),
      ),
    )
    go false e = λ n h g. let k = (between n).0 ((accepted n).1 h, g) in let l = leb-false a b e in absurd (omega (arith, k.0, k.1))

  answered : (range : ℕ → Option Range) → ((value : ℕ) → (a : ℕ) × (b : ℕ) × Between accepts converts value a b × (range value ≡ span a b)) → Answered P accepts converts range
  answered range found =
      record { accepted = accepted; exactly = λ value. let f = found value in subst (Exactly P converts value) (sym f.3) (of_span value f.0 f.1 f.2) }

-- ---- what is written

elsewhere_pid : (p : Option (ℕ × ℕ)) → filter to_source (pid_steps p) ≡ []
unfolding pid_steps
elsewhere_pid None = refl
elsewhere_pid (Some (kp, ki)) = refl

elsewhere_driving : (m : DrivingMode) → filter to_source (driving_steps m) ≡ []
unfolding driving_steps phase_steps custom_steps
elsewhere_driving FREQUENCY_TRACK = refl
elsewhere_driving WIDEBAND = refl
elsewhere_driving CUSTOM_WAVEFORM = refl

elsewhere_gpi : (digit : String) (t : Option TriggerConfig) → ((byte : ℕ) → to_source (Fields.written ("GPI_" & digit & "_CTL") byte) ≡ false)
    → filter to_source (gpi_steps digit t) ≡ []
unfolding gpi_steps
elsewhere_gpi digit None e = refl
elsewhere_gpi digit (Some t) e = simp e

elsewhere_triggers : (d : DeviceConfig) → filter to_source (trigger_steps d) ≡ []
unfolding trigger_steps given_steps
elsewhere_triggers d = go (etwm d.operation_mode) where
  go : (b : Bool) → filter to_source (cond b (gpi_steps "0" d.gpi_trigger_0 ++ (gpi_steps "1" d.gpi_trigger_1 ++ gpi_steps "2" d.gpi_trigger_2)) []) ≡ []
  go true = simp (filter-append, elsewhere_gpi "0" d.gpi_trigger_0 (λ byte. refl), elsewhere_gpi "1" d.gpi_trigger_1 (λ byte. refl), elsewhere_gpi "2" d.gpi_trigger_2 (λ byte. refl))
  go false = refl

current_byte : (mA : ℕ) → mA ≤ 252 → fresh "ACTUATOR3" (put "IMAX" (imax_code mA) ∷ []) ≡ imax_code mA
unfolding with_of
current_byte mA h = same (λ v. fresh "ACTUATOR3" (put "IMAX" v ∷ [])) (λ v. v) 32 refl (imax_code mA) (whole.current_bits mA h)

low_byte : (w : ℕ) → fresh "FRQ_LRA_PER_L" (put "LRA_PER_L" (low_part w) ∷ []) ≡ w % 128
unfolding with_of
low_byte w = same (λ v. fresh "FRQ_LRA_PER_L" (put "LRA_PER_L" v ∷ [])) (λ v. v) 128 refl (low_part w) (omega arith)

at_least_25 : (mode : DrivingMode) (hz : ℕ) → accepted_frequency mode hz ≡ true → 25 ≤ hz
at_least_25 mode hz e = let k = (in_band mode hz).0 e in grind arith

period_steps : (hz : ℕ) → 25 ≤ hz → frequency_steps hz ≡ Write 0x0A (period_word hz / 128) ∷ Write 0x0B (period_word hz % 128) ∷ []
unfolding frequency_steps
period_steps hz h = simp (low_byte (period_word hz), whole.high_is (period_word hz) (whole.word_bits hz h))

written : (s : Taken) → filter to_source (configure_steps s.actuator s.device)
    ≡ Write 0x13 (top_cfg1 s.actuator s.device)
    ∷ Write 0x0C (voltage_byte s.actuator.nominal_max_mV) ∷ Write 0x0D (voltage_byte s.actuator.absolute_max_mV)
    ∷ Write 0x0E (imax_code s.actuator.max_current_mA)
    ∷ Write 0x0A (period_word s.actuator.frequency_Hz / 128) ∷ Write 0x0B (period_word s.actuator.frequency_Hz % 128) ∷ []
unfolding feature_steps limit_steps calibration_steps rapid_stop_steps
written s =
    let r = in_range s in
    let hz = checked.at_least_25 s.variant s.actuator s.device r in
    simp (filter-append, elsewhere_pid, elsewhere_driving, elsewhere_triggers, current_byte _ r.current.1, period_steps _ hz)

-- TOP_CFG1 by what it depends on
abbrev byte : ℕ → ℕ → ℕ → ℕ → ℕ
byte kind track acceleration stop =
    fresh "TOP_CFG1" (put "ACTUATOR_TYPE" kind ∷ put "BEMF_SENSE_EN" track ∷ put "FREQ_TRACK_EN" track
    ∷ put "ACCELERATION_EN" acceleration ∷ put "RAPID_STOP_EN" stop ∷ put "AMP_PID_EN" 0 ∷ put "EMBEDDED_MODE" 1 ∷ [])

flag : (b : Bool) → code_of b < 2
flag true = omega arith
flag false = omega arith

is_set : (b : Bool) → code_of b ≡ 1 → b ≡ true
is_set true e = refl
is_set false e = absurd (omega (arith, e))

track_bit : (kind : ActuatorType) (t a r : Bool) → byte (actuator_code kind) (code_of t) (code_of a) (code_of r) / 8 % 2 ≡ code_of t
unfolding with_of
track_bit LRA t a r = same₃ (λ t a r. byte 0 t a r / 8 % 2) (λ t a r. t) 2 2 2 refl (code_of t) (code_of a) (code_of r) (flag t) (flag a) (flag r)
track_bit ERM t a r = same₃ (λ t a r. byte 1 t a r / 8 % 2) (λ t a r. t) 2 2 2 refl (code_of t) (code_of a) (code_of r) (flag t) (flag a) (flag r)

tracks_told : (a : ActuatorConfig) (d : DeviceConfig) → (top_cfg1 a d / 8 % 2 ≡ 1) ↔ (d.driving_mode ≡ FREQUENCY_TRACK)
tracks_told a d =
    let t = tracking d.driving_mode in
    let e = track_bit a.actuator_type t (accelerates d) (t && d.rapid_stop) in
    (λ h. tracks d.driving_mode (is_set t (sym e ∙ h)), λ p. e ∙ ap (λ (m : DrivingMode). code_of (tracking m)) p)

-- ---- a sweep

abbrev steps_of : Start → List Step
steps_of (declines number) = []
steps_of (begins b xs) = xs

abbrev is_begun : Start → Bool
is_begun (declines number) = false
is_begun (begins b xs) = true

swept : (r : DA728x) (hz : ℕ) (s : Option (ActuatorConfig × DeviceConfig)) (b : Begun) (xs : List Step)
    → with_settings s (λ a d. unless (first_failing ((outside_band d.driving_mode hz, 23) ∷ [])) (runs r (frequency_steps hz))) ≡ begins b xs
    → InStored (λ a d. IsAccepted (Frequency d.driving_mode) hz) s × (xs ≡ Write 0x0A (period_word hz / 128) ∷ Write 0x0B (period_word hz % 128) ∷ [])
swept r hz None b xs e = absurd (true≢false (sym (ap is_begun e)))
swept r hz (Some (a, d)) b xs e = go (outside_band d.driving_mode hz) refl e where
  go : (t : Bool) → outside_band d.driving_mode hz ≡ t → unless (first_failing ((t, 23) ∷ [])) (runs r (frequency_steps hz)) ≡ begins b xs
      → IsAccepted (Frequency d.driving_mode) hz × (xs ≡ Write 0x0A (period_word hz / 128) ∷ Write 0x0B (period_word hz % 128) ∷ [])
  go true t e = absurd (true≢false (sym (ap is_begun e)))
  go false t e =
      let f : accepted_frequency d.driving_mode hz ≡ true = ap not t in
      let p = (frequencies_are d.driving_mode hz).0 f in
      (p, sym (ap steps_of e) ∙ period_steps hz (at_least_25 d.driving_mode hz f))

pub ranges : Ranges
ranges = record {
  nominal = answered Nominal accepted_voltage voltage_byte nominals voltage_range (λ byte. (_, _, voltages byte, voltage_is byte));
  absolute = answered Absolute accepted_voltage voltage_byte absolutes voltage_range (λ byte. (_, _, voltages byte, voltage_is byte));
  current = answered Current accepted_current imax_code currents_are imax_range (λ value. (_, _, currents value, imax_is value));
  frequency = λ mode. answered (Frequency mode) (accepted_frequency mode) period_word (frequencies_are mode) (period_range mode) (λ word. (_, _, frequencies mode word, period_is mode word));
  together = together;
  written = written;
  tracks = λ s. tracks_told s.actuator s.device;
  swept = λ r hz. swept r hz r.settings;
  examples = (voltage_is 255, imax_is 0, imax_is 32);
  volts = voltage_is 0;
  amperes = imax_is 31;
  tracked = (period_is FREQUENCY_TRACK 2499, period_is FREQUENCY_TRACK 2500, period_is FREQUENCY_TRACK 15000, period_is FREQUENCY_TRACK 30000);
  untracked = (period_is WIDEBAND 0, period_is WIDEBAND 732, period_is WIDEBAND 733, period_is CUSTOM_WAVEFORM 4411, period_is CUSTOM_WAVEFORM 30000);
}
