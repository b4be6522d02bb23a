-- A record is what its bytes give back, and they are 38; the same for the settings alone. Assumes nothing.
use mathlib.Core.Path.{◌≡◌, refl, sym, ap, ◌∙◌}
use mathlib.Core.Bool.{Bool, true, false}
use mathlib.Core.List.{List, [], ◌∷◌, ◌++◌, append_assoc}
use Prim.Native.Nat.{ℕ, suc, ◌+◌, ◌*◌, ◌/◌, ◌%◌, ◌<◌}
use native.Mathlib.Omega.{arith}
use native.Mathlib.Numerals.{unary_clauses}
use Rattle.std.specs.Prelude.{Option, Some, None}
use lib.Dec.{ltb}
use lib.ListN.{length, get_or, length-append}
use lib.Seq.{get_or-append_seam}
use borrow.Author.Tests.{eq-eqb}
use Rattle.laws.specs.Lists.{at}
use Rattle.field.specs.Field.{code_of}
use Rattle.config.specs.declared.ActuatorConfig.{ActuatorConfig}
use Rattle.config.specs.declared.DeviceConfig.{DeviceConfig}
use Rattle.config.specs.declared.TriggerConfig.{TriggerConfig}
use Rattle.config.specs.declared.ActuatorType.{ActuatorType}
use Rattle.config.specs.declared.ActuatorType.TheVariants.{LRA, ERM}
use Rattle.config.specs.declared.TriggerMode.{TriggerMode}
use Rattle.config.specs.declared.TriggerMode.TheVariants.{SingleSequence, MultiSequence}
use Rattle.config.specs.declared.TriggerPolarity.{TriggerPolarity}
use Rattle.config.specs.declared.TriggerPolarity.TheVariants.{Rising, Falling, Both}
use Rattle.config.specs.declared.OperationMode.{OperationMode}
use Rattle.config.specs.declared.OperationMode.TheVariants.{INACTIVE, DRO_MODE, PWM_MODE, RTWM_MODE, ETWM_MODE}
use Rattle.config.specs.declared.DrivingMode.{DrivingMode}
use Rattle.config.specs.declared.DrivingMode.TheVariants.{FREQUENCY_TRACK, WIDEBAND, CUSTOM_WAVEFORM}
use Rattle.config.specs.declared.Variant.{Variant}
use Rattle.config.specs.declared.Variant.TheVariants.{DA7280, DA7281, DA7282}
use Rattle.config.specs.Codes.{actuator_code, actuator_at, operation_code, operation_at, driving_code, driving_at, polarity_code, polarity_at, trigger_mode_code, trigger_mode_at, variant_code, variant_at}
use Rattle.da728x.specs.declared.DA728x.{DA728x}
use Rattle.da728x.specs.Record.{record_bytes, record_at, settings_bytes, settings_at, actuator_bytes, actuator_config_at, device_bytes, device_config_at, pid_bytes, pid_at, trigger_bytes, trigger_at}

-- ---- each choice from its code

actuator_kept : (t : ActuatorType) → actuator_at (actuator_code t) ≡ t
actuator_kept LRA = refl
actuator_kept ERM = refl

mode_kept : (m : TriggerMode) → trigger_mode_at (trigger_mode_code m) ≡ m
mode_kept SingleSequence = refl
mode_kept MultiSequence = refl

polarity_kept : (p : TriggerPolarity) → polarity_at (polarity_code p) ≡ p
polarity_kept Rising = refl
polarity_kept Falling = refl
polarity_kept Both = refl

operation_kept : (m : OperationMode) → operation_at (operation_code m) ≡ m
operation_kept INACTIVE = refl
operation_kept DRO_MODE = refl
operation_kept PWM_MODE = refl
operation_kept RTWM_MODE = refl
operation_kept ETWM_MODE = refl

driving_kept : (m : DrivingMode) → driving_at (driving_code m) ≡ m
driving_kept FREQUENCY_TRACK = refl
driving_kept WIDEBAND = refl
driving_kept CUSTOM_WAVEFORM = refl

pub variant_kept : (v : Variant) → variant_at (variant_code v) ≡ v
variant_kept DA7280 = refl
variant_kept DA7281 = refl
variant_kept DA7282 = refl

flag_kept : (b : Bool) → ltb 0 (code_of b) ≡ b
flag_kept true = refl
flag_kept false = refl

two_kept : (n : ℕ) → n % 256 + 256 * (n / 256) ≡ n
two_kept n = omega arith

pub high_byte : (n : ℕ) → n < 65536 → n / 256 % 256 ≡ n / 256
high_byte n h = omega arith

-- ---- the parts, and what stands after them

pid_kept : (p : Option (ℕ × ℕ)) (r : List ℕ) → pid_at (pid_bytes p ++ r) 0 ≡ p
pid_kept None r = refl
pid_kept (Some (kp, ki)) r = λ i. Some (two_kept kp i, two_kept ki i)

after_pid : (p : Option (ℕ × ℕ)) (r : List ℕ) → device_config_at (pid_bytes p ++ r) 5 ≡ device_config_at r 0
after_pid None r = refl
after_pid (Some (kp, ki)) r = refl

pid_length : (p : Option (ℕ × ℕ)) (r : List ℕ) → length (pid_bytes p ++ r) ≡ length r + 5
pid_length None r = omega arith
pid_length (Some (kp, ki)) r = omega arith

trigger_kept : (t : Option TriggerConfig) (r : List ℕ) → trigger_at (trigger_bytes t ++ r) 0 ≡ t
trigger_kept None r = refl
trigger_kept (Some t) r =
    λ i. Some (record { sequence_id = t.sequence_id; polarity = polarity_kept t.polarity i; mode = mode_kept t.mode i })

-- a place after a trigger's four bytes
abbrev later : ℕ → ℕ
later i = suc (suc (suc (suc i)))

after_trigger : (t : Option TriggerConfig) (r : List ℕ) (i : ℕ) → trigger_at (trigger_bytes t ++ r) (later i) ≡ trigger_at r i
after_trigger None r i = simp unary_clauses
after_trigger (Some t) r i = simp unary_clauses

byte_after : (t : Option TriggerConfig) (r : List ℕ) (i : ℕ) → get_or (trigger_bytes t ++ r) (later i) 0 ≡ get_or r i 0
byte_after None r i = refl
byte_after (Some t) r i = refl

trigger_length : (t : Option TriggerConfig) (r : List ℕ) → length (trigger_bytes t ++ r) ≡ length r + 4
trigger_length None r = omega arith
trigger_length (Some t) r = omega arith

-- ---- the settings

-- an actuator's settings, whatever stands after them
pub actuator_config_kept : (a : ActuatorConfig) (r : List ℕ) → actuator_config_at (actuator_bytes a ++ r) 0 ≡ a
actuator_config_kept a r =
    λ i. record {
      actuator_type = actuator_kept a.actuator_type i;
      nominal_max_mV = two_kept a.nominal_max_mV i;
      absolute_max_mV = two_kept a.absolute_max_mV i;
      max_current_mA = two_kept a.max_current_mA i;
      impedance_mOhm = two_kept a.impedance_mOhm i;
      inductance_uH = two_kept a.inductance_uH i;
      frequency_Hz = two_kept a.frequency_Hz i;
      pid_Kp_Ki = pid_kept a.pid_Kp_Ki r i;
    }

device_kept : (d : DeviceConfig) (r : List ℕ) → device_config_at (device_bytes d ++ r) 0 ≡ d
device_kept d r =
    let flags = code_of d.acceleration ∷ code_of d.rapid_stop ∷ r in
    let third = trigger_bytes d.gpi_trigger_2 ++ flags in
    let second = trigger_bytes d.gpi_trigger_1 ++ third in
    let flag : (i : ℕ) → get_or (trigger_bytes d.gpi_trigger_0 ++ second) (later (later (later i))) 0 ≡ get_or flags i 0 =
    λ i. byte_after d.gpi_trigger_0 second (later (later i)) ∙ byte_after d.gpi_trigger_1 third (later i) ∙ byte_after d.gpi_trigger_2 flags i in
    let laid : device_bytes d ++ r ≡ operation_code d.operation_mode ∷ driving_code d.driving_mode ∷ (trigger_bytes d.gpi_trigger_0 ++ second) = simp append_assoc in
    ap (λ (l : List ℕ). device_config_at l 0) laid
    ∙ λ i. record {
      operation_mode = operation_kept d.operation_mode i;
      driving_mode = driving_kept d.driving_mode i;
      gpi_trigger_0 = trigger_kept d.gpi_trigger_0 second i;
      gpi_trigger_1 = (after_trigger d.gpi_trigger_0 second 0 ∙ trigger_kept d.gpi_trigger_1 third) i;
      gpi_trigger_2 =
          (after_trigger d.gpi_trigger_0 second 4 ∙ after_trigger d.gpi_trigger_1 third 0 ∙ trigger_kept d.gpi_trigger_2 flags) i;
      acceleration = (ap (ltb 0) (flag 0) ∙ flag_kept d.acceleration) i;
      rapid_stop = (ap (ltb 0) (flag 1) ∙ flag_kept d.rapid_stop) i;
    }

-- a device's settings, after an actuator's, whatever stands after them
pub device_config_kept : (a : ActuatorConfig) (d : DeviceConfig) (r : List ℕ) → device_config_at (actuator_bytes a ++ (device_bytes d ++ r)) 18 ≡ d
device_config_kept a d r = after_pid a.pid_Kp_Ki (device_bytes d ++ r) ∙ device_kept d r

-- ---- the record

settings_length : (s : Option (ActuatorConfig × DeviceConfig)) → length (settings_bytes s) ≡ 35
settings_length None = refl
settings_length (Some (a, d)) = simp (pid_length, trigger_length)

pub record_length : (r : DA728x) → length (record_bytes r) ≡ 38
unfolding record_bytes
record_length r = simp length-append (omega (arith, settings_length r.settings))

settings_kept : (x y : ℕ) (s : Option (ActuatorConfig × DeviceConfig)) (r : List ℕ) → settings_at (x ∷ y ∷ (settings_bytes s ++ r)) ≡ s
settings_kept x y None r = refl
settings_kept x y (Some (a, d)) r =
    let laid : settings_bytes (Some (a, d)) ++ r ≡ 2 ∷ (actuator_bytes a ++ (device_bytes d ++ r)) = ap (λ (l : List ℕ). 2 ∷ l) (append_assoc (actuator_bytes a) (device_bytes d) r) in
    ap (λ (l : List ℕ). settings_at (x ∷ y ∷ l)) laid ∙ λ i. Some (actuator_config_kept a (device_bytes d ++ r) i, device_config_kept a d r i)

-- the last byte
sequences_kept : (s : Option (ActuatorConfig × DeviceConfig)) (n : ℕ) → at (settings_bytes s ++ (n ∷ [])) 35 ≡ n
sequences_kept s n = ap (at (settings_bytes s ++ (n ∷ []))) (sym (settings_length s)) ∙ get_or-append_seam (settings_bytes s) n [] 0

-- what `from_bytes` makes of what `to_bytes` made
pub record_kept : (r : DA728x) → record_at (record_bytes r) ≡ r
unfolding record_bytes record_at
record_kept r =
    rw (eq-eqb _ _ (record_length r))
    (λ i. record {
      address = r.address;
      variant = variant_kept r.variant i;
      settings = settings_kept r.address (variant_code r.variant) r.settings (r.sequences ∷ []) i;
      sequences = sequences_kept r.settings r.sequences i;
    })
