-- What `configure` writes of triggers: a byte is the sum of its fields, by a test computed over all of them, and the sum gives them back; the
-- triggers' writes are the last of its steps, and no other goes to their registers.
-- Assumes nothing.
use Rattle.std.proofs.Common.{ℕ, zero, suc, ◌+◌, ◌*◌, ◌%◌, ◌≤◌, ◌<◌, ◌≡◌, refl, sym, ap, ◌∙◌, arith, append_assoc}
use mathlib.Core.Bool.{true, cond}
use mathlib.Core.List.{List, [], ◌∷◌, ◌++◌}
use Prim.Native.Nat.{min}
use Rattle.std.specs.Prelude.{filter, Option, Some, None}
use Rattle.std.proofs.lemmas.List.Elements.{filter-append}
use Prim.Native.String.{String, ◌++◌ as ◌&◌}
use lib.Dec.{eqb}
use Rattle.laws.proofs.Tests.{all, same₃}
use Rattle.field.specs.Field.{with_of}
use Rattle.registers.specs.Table.{address_of}
use Rattle.field.proofs.Methods.{with_masked}
use Rattle.config.specs.declared.ActuatorConfig.{ActuatorConfig}
use Rattle.config.specs.declared.DeviceConfig.{DeviceConfig}
use Rattle.config.specs.declared.TriggerConfig.{TriggerConfig}
use Rattle.config.specs.declared.TriggerMode.{TriggerMode}
use Rattle.config.specs.declared.TriggerMode.TheVariants.{SingleSequence, MultiSequence}
use Rattle.config.specs.declared.TriggerPolarity.{TriggerPolarity}
use Rattle.config.specs.declared.TriggerPolarity.TheVariants.{Rising, Falling, Both}
use Rattle.config.specs.Codes.{polarity_code, trigger_mode_code, trigger_mode_at}
use Rattle.config.specs.declared.OperationMode.{OperationMode}
use Rattle.config.specs.declared.OperationMode.TheVariants.{INACTIVE, DRO_MODE, PWM_MODE, RTWM_MODE, ETWM_MODE}
use Rattle.config.specs.declared.DrivingMode.{DrivingMode}
use Rattle.config.specs.declared.DrivingMode.TheVariants.{FREQUENCY_TRACK, WIDEBAND, CUSTOM_WAVEFORM}
use Rattle.checks.specs.Checks.{etwm}
use Rattle.exchange.specs.declared.Step.{Step}
use Rattle.exchange.specs.declared.Step.TheVariants.{Write}
use Rattle.plans.specs.Fields.{put, fresh}
use Rattle.plans.specs.Configure.{feature_steps, limit_steps, calibration_steps, pid_steps, frequency_steps, rapid_stop_steps, phase_steps, custom_steps, driving_steps, gpi_byte, gpi_steps, given_steps, trigger_steps, configure_steps}
use Rattle.plans.specs.Trigger.{mode_bit, polarity_bits, TriggerByte, untriggered, in_etwm, gets, to_gpi, Trigger}

-- ---- a byte

-- its fields' values, as the register takes them
abbrev fields : String → ℕ → ℕ → ℕ → ℕ
fields digit p m n =
    fresh ("GPI_" & digit & "_CTL") (put ("GPI" & digit & "_POLARITY") p ∷ put ("GPI" & digit & "_MODE") m ∷ put ("GPI" & digit & "_SEQUENCE_ID") n ∷ [])

abbrev sum : ℕ → ℕ → ℕ → ℕ
sum p m n = p + 4 * m + 8 * n

-- the test: they are added, whatever they are
abbrev Added : String → Type 0
Added digit = all (λ p. all (λ m. all (λ n. eqb (fields digit p m n) (sum p m n)) 16) 2) 3 ≡ true

polarity_code_lem : (p : TriggerPolarity) → (polarity_code p ≡ polarity_bits p) × (polarity_bits p < 3)
polarity_code_lem Rising = (refl, omega arith)
polarity_code_lem Falling = (refl, omega arith)
polarity_code_lem Both = (refl, omega arith)

mode_code : (m : TriggerMode) → (trigger_mode_code m ≡ mode_bit m) × (mode_bit m < 2)
mode_code SingleSequence = (refl, omega arith)
mode_code MultiSequence = (refl, omega arith)

polarity_back : (p q : TriggerPolarity) → polarity_bits p ≡ polarity_bits q → p ≡ q
polarity_back Rising Rising h = refl
polarity_back Rising Falling h = absurd (omega arith)
polarity_back Rising Both h = absurd (omega arith)
polarity_back Falling Rising h = absurd (omega arith)
polarity_back Falling Falling h = refl
polarity_back Falling Both h = absurd (omega arith)
polarity_back Both Rising h = absurd (omega arith)
polarity_back Both Falling h = absurd (omega arith)
polarity_back Both Both h = refl

mode_back : (m n : TriggerMode) → mode_bit m ≡ mode_bit n → m ≡ n
mode_back SingleSequence SingleSequence h = refl
mode_back SingleSequence MultiSequence h = absurd (omega arith)
mode_back MultiSequence SingleSequence h = absurd (omega arith)
mode_back MultiSequence MultiSequence h = refl

module _ (digit : String) (added : Added digit) (cut : (p m n : ℕ) → fields digit p m (n % 16) ≡ fields digit p m n) where
  bits : (t : TriggerConfig) → gpi_byte digit t ≡ polarity_bits t.polarity + 4 * mode_bit t.mode + 8 * (t.sequence_id % 16)
  unfolding gpi_byte
  bits t =
      let p = polarity_code_lem t.polarity in
      let m = mode_code t.mode in
      let n : t.sequence_id % 16 < 16 = omega arith in
      let e : fields digit (polarity_code t.polarity) (trigger_mode_code t.mode) (t.sequence_id % 16) ≡ sum (polarity_bits t.polarity) (mode_bit t.mode) (t.sequence_id % 16) =
      simp (p.0, m.0) (same₃ (fields digit) sum 3 2 16 added (polarity_bits t.polarity) (mode_bit t.mode) (t.sequence_id % 16) p.1 m.1 n) in
      sym (cut (polarity_code t.polarity) (trigger_mode_code t.mode) t.sequence_id) ∙ e

  back : (t u : TriggerConfig) → t.sequence_id ≤ 15 → u.sequence_id ≤ 15 → gpi_byte digit t ≡ gpi_byte digit u
      → (t.sequence_id ≡ u.sequence_id) × (t.polarity ≡ u.polarity) × (t.mode ≡ u.mode)
  back t u h k e =
      let a = bits t in
      let b = bits u in
      let p = (polarity_code_lem t.polarity).1 in
      let q = (polarity_code_lem u.polarity).1 in
      let m = (mode_code t.mode).1 in
      let n = (mode_code u.mode).1 in
      (omega arith, polarity_back _ _ (omega arith), mode_back _ _ (omega arith))

  byte : TriggerByte digit
  byte =
      record {
        bits = bits;
        same = λ t u h k. (back t u h k, λ e. let a = bits t in let b = bits u in let p = ap polarity_bits e.1 in let m = ap mode_bit e.2 in omega arith);
      }

-- ---- the writes

-- the other steps go by other settings
features : (a : ActuatorConfig) (d : DeviceConfig) → feature_steps a (untriggered d) ≡ feature_steps a d
unfolding feature_steps
features a d = refl

-- the register with this digit in its names stands at this address
gpi_gets : (digit : String) (address : ℕ) → address_of ("GPI_" & digit & "_CTL") ≡ address → (t : Option TriggerConfig) → gpi_steps digit t ≡ gets address digit t
unfolding gpi_steps
gpi_gets digit address e None = refl
gpi_gets digit address e (Some t) = ap (λ (a : ℕ). Write a (gpi_byte digit t) ∷ []) e

chosen : (mode : OperationMode) (steps : List Step) → cond (etwm mode) steps [] ≡ in_etwm mode steps
chosen INACTIVE steps = refl
chosen DRO_MODE steps = refl
chosen PWM_MODE steps = refl
chosen RTWM_MODE steps = refl
chosen ETWM_MODE steps = refl

-- those of the triggers, and none without ETWM mode
given : (d : DeviceConfig)
    → trigger_steps d ≡ in_etwm d.operation_mode (gets 0x29 "0" d.gpi_trigger_0 ++ (gets 0x2A "1" d.gpi_trigger_1 ++ gets 0x2B "2" d.gpi_trigger_2))
unfolding trigger_steps given_steps
given d = simp (gpi_gets "0" 0x29 refl, gpi_gets "1" 0x2A refl, gpi_gets "2" 0x2B refl, chosen)

none : (d : DeviceConfig) → trigger_steps (untriggered d) ≡ []
unfolding trigger_steps
none d = refl

writes : (a : ActuatorConfig) (d : DeviceConfig) → configure_steps a d
    ≡ configure_steps a (untriggered d) ++ in_etwm d.operation_mode (gets 0x29 "0" d.gpi_trigger_0 ++ (gets 0x2A "1" d.gpi_trigger_1 ++ gets 0x2B "2" d.gpi_trigger_2))
writes a d = simp (features a d, given d, none d, append_assoc)

-- ---- the other steps

elsewhere_pid : (p : Option (ℕ × ℕ)) → filter to_gpi (pid_steps p) ≡ []
unfolding pid_steps
elsewhere_pid None = refl
elsewhere_pid (Some (kp, ki)) = refl

elsewhere_driving : (m : DrivingMode) → filter to_gpi (driving_steps m) ≡ []
unfolding driving_steps phase_steps custom_steps
elsewhere_driving FREQUENCY_TRACK = refl
elsewhere_driving WIDEBAND = refl
elsewhere_driving CUSTOM_WAVEFORM = refl

only : (a : ActuatorConfig) (d : DeviceConfig) → filter to_gpi (configure_steps a (untriggered d)) ≡ []
unfolding feature_steps limit_steps calibration_steps frequency_steps rapid_stop_steps
only a d = simp (filter-append, elsewhere_pid, elsewhere_driving, none d)

code : (byte : ℕ) → mode_bit (trigger_mode_at byte) ≡ min byte 1
code zero = refl
code (suc n) = omega arith

pub trigger : Trigger
unfolding with_of
trigger =
    record {
      bytes = (byte "0" refl (λ p m n. with_masked _ 3 4 n), (byte "1" refl (λ p m n. with_masked _ 3 4 n), (byte "2" refl (λ p m n. with_masked _ 3 4 n), tt)));
      code = code;
      writes = writes;
      sent = λ chip last register byte image. refl;
      only = only;
    }
