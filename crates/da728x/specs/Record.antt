-- Document 01, 'Rust forms without a counterpart': "the record in and out by value"; document 02, CR 10: it "gains the sequence count of the last
-- wholly uploaded image". The layout is ours.
-- The driver record as 38 bytes: chip address, variant, 1 for a record without settings or 2 where settings are stored, then the
-- settings, and last the count of sequences. Numbers of two bytes have the least byte first; choices are their codes. Read back, a third byte above 1 says
-- that settings are stored, and a flag is set by any byte but 0. Bytes of another length, and zeros, are a DA7280 at address 0
-- without settings and without sequences.
--   3 actuator type, 4 nominal mV, 6 absolute mV, 8 current mA, 10 impedance mOhm, 12 inductance µH, 14 frequency Hz,
--   16 PID words given, 17 Kp, 19 Ki, 21 operation mode, 22 driving mode, 23 27 31 three triggers, 35 acceleration, 36 rapid stop, 37 sequences;
--   a trigger: given, sequence number, polarity, mode
use Rattle.std.specs.Prelude.{ℕ, ◌+◌, ◌*◌, ◌/◌, ◌%◌, cond, List, [], ◌∷◌, ◌++◌, ltb, eqb, length, replicate, Option, Some, None}
use Rattle.laws.specs.Lists.{at}
use Rattle.field.specs.Field.{code_of}
use Rattle.config.specs.declared.ActuatorConfig.{ActuatorConfig}
use Rattle.config.specs.declared.DeviceConfig.{DeviceConfig}
use Rattle.config.specs.declared.TriggerConfig.{TriggerConfig}
use Rattle.config.specs.declared.Variant.TheVariants.{DA7280}
use Rattle.config.specs.Codes.{actuator_code, actuator_at, operation_code, operation_at, driving_code, driving_at, polarity_code, polarity_at, trigger_mode_code, trigger_mode_at, variant_code, variant_at}
use Rattle.da728x.specs.declared.DA728x.{DA728x}

-- ---- from a record to bytes

abbrev pub two : ℕ → List ℕ
two n = n % 256 ∷ n / 256 ∷ []

abbrev pub pid_bytes : Option (ℕ × ℕ) → List ℕ
pid_bytes None = replicate 5 0
pid_bytes (Some (kp, ki)) = 1 ∷ (two kp ++ two ki)

abbrev pub trigger_bytes : Option TriggerConfig → List ℕ
trigger_bytes None = replicate 4 0
trigger_bytes (Some t) = 1 ∷ t.sequence_id ∷ polarity_code t.polarity ∷ trigger_mode_code t.mode ∷ []

abbrev pub actuator_bytes : ActuatorConfig → List ℕ
actuator_bytes a =
    actuator_code a.actuator_type ∷ (two a.nominal_max_mV ++ (two a.absolute_max_mV ++ (two a.max_current_mA ++ (two a.impedance_mOhm
    ++ (two a.inductance_uH ++ (two a.frequency_Hz ++ pid_bytes a.pid_Kp_Ki))))))

abbrev pub device_bytes : DeviceConfig → List ℕ
device_bytes d =
    operation_code d.operation_mode ∷ driving_code d.driving_mode ∷ (trigger_bytes d.gpi_trigger_0
    ++ (trigger_bytes d.gpi_trigger_1 ++ (trigger_bytes d.gpi_trigger_2 ++ (code_of d.acceleration ∷ code_of d.rapid_stop ∷ []))))

abbrev pub settings_bytes : Option (ActuatorConfig × DeviceConfig) → List ℕ
settings_bytes None = 1 ∷ replicate 34 0
settings_bytes (Some (a, d)) = 2 ∷ (actuator_bytes a ++ device_bytes d)

unfoldable pub record_bytes : DA728x → List ℕ
record_bytes r = r.address ∷ variant_code r.variant ∷ (settings_bytes r.settings ++ (r.sequences ∷ []))

-- ---- from bytes to a record

abbrev pub two_at : List ℕ → ℕ → ℕ
two_at l i = at l i + 256 * at l (i + 1)

abbrev pub pid_at : List ℕ → ℕ → Option (ℕ × ℕ)
pid_at l i = cond (ltb 0 (at l i)) (Some (two_at l (i + 1), two_at l (i + 3))) None

abbrev pub trigger_config_at : List ℕ → ℕ → TriggerConfig
trigger_config_at l i = record { sequence_id = at l (i + 1); polarity = polarity_at (at l (i + 2)); mode = trigger_mode_at (at l (i + 3)) }

abbrev pub trigger_at : List ℕ → ℕ → Option TriggerConfig
trigger_at l i = cond (ltb 0 (at l i)) (Some (trigger_config_at l i)) None

abbrev pub actuator_config_at : List ℕ → ℕ → ActuatorConfig
actuator_config_at l i =
    record {
      actuator_type = actuator_at (at l i);
      nominal_max_mV = two_at l (i + 1);
      absolute_max_mV = two_at l (i + 3);
      max_current_mA = two_at l (i + 5);
      impedance_mOhm = two_at l (i + 7);
      inductance_uH = two_at l (i + 9);
      frequency_Hz = two_at l (i + 11);
      pid_Kp_Ki = pid_at l (i + 13);
    }

abbrev pub device_config_at : List ℕ → ℕ → DeviceConfig
device_config_at l i =
    record {
      operation_mode = operation_at (at l i);
      driving_mode = driving_at (at l (i + 1));
      gpi_trigger_0 = trigger_at l (i + 2);
      gpi_trigger_1 = trigger_at l (i + 6);
      gpi_trigger_2 = trigger_at l (i + 10);
      acceleration = ltb 0 (at l (i + 14));
      rapid_stop = ltb 0 (at l (i + 15));
    }

abbrev pub settings_at : List ℕ → Option (ActuatorConfig × DeviceConfig)
settings_at l = cond (ltb 1 (at l 2)) (Some (actuator_config_at l 3, device_config_at l 21)) None

unfoldable pub record_at : List ℕ → DA728x
record_at l =
    cond (eqb (length l) 38) (record { address = at l 0; variant = variant_at (at l 1); settings = settings_at l; sequences = at l 37 })
    (record { address = 0; variant = DA7280; settings = None; sequences = 0 })

-- all but its settings
abbrev pub chip_at : List ℕ → DA728x
chip_at l = let r = record_at l in record { address = r.address; variant = r.variant; settings = None; sequences = r.sequences }
