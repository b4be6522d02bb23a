-- `configure`'s checks: document 01, 'Settings to registers'. A check is what fails and the number that it then gives; the first of the
-- list that fails is told.
use Rattle.std.specs.Prelude.{ℕ, ◌+◌, Bool, false, not, cond, ◌&&◌, ◌||◌, List, [], ◌∷◌, ltb, eqb, Option, Some, None}
use Rattle.config.specs.declared.ActuatorConfig.{ActuatorConfig}
use Rattle.config.specs.declared.DeviceConfig.{DeviceConfig}
use Rattle.config.specs.declared.DrivingMode.{DrivingMode}
use Rattle.config.specs.declared.DrivingMode.TheVariants.{FREQUENCY_TRACK}
use Rattle.config.specs.declared.OperationMode.{OperationMode}
use Rattle.config.specs.declared.OperationMode.TheVariants.{ETWM_MODE}
use Rattle.config.specs.declared.TriggerConfig.{TriggerConfig}
use Rattle.config.specs.declared.Variant.{Variant}
use Rattle.config.specs.declared.Variant.TheVariants.{DA7281}
use Rattle.config.specs.Codes.{operation_code, driving_code, variant_code}

-- ---- what the checks ask

abbrev pub tracking : DrivingMode → Bool
tracking mode = eqb (driving_code mode) (driving_code FREQUENCY_TRACK)

abbrev pub etwm : OperationMode → Bool
etwm mode = eqb (operation_code mode) (operation_code ETWM_MODE)

abbrev pub one_if_given : Option TriggerConfig → ℕ
one_if_given None = 0
one_if_given (Some t) = 1

abbrev pub triggers_given : DeviceConfig → ℕ
triggers_given d = one_if_given d.gpi_trigger_0 + one_if_given d.gpi_trigger_1 + one_if_given d.gpi_trigger_2

-- "a given trigger's sequence number above 15"
abbrev pub sequence_above15 : Option TriggerConfig → Bool
sequence_above15 None = false
sequence_above15 (Some t) = ltb 15 t.sequence_id

abbrev pub triggers_above15 : DeviceConfig → Bool
triggers_above15 d = sequence_above15 d.gpi_trigger_0 || (sequence_above15 d.gpi_trigger_1 || sequence_above15 d.gpi_trigger_2)

-- "frequency outside 50..300 Hz when tracking, else 25..1024"
abbrev pub outside_band : DrivingMode → ℕ → Bool
outside_band m hz = cond (tracking m) (ltb hz 50 || ltb 300 hz) (ltb hz 25 || ltb 1024 hz)

-- ---- the checks

-- what fails, and the number that it then gives
abbrev pub Check : Type 0
Check = Bool × ℕ

-- "in the Rust's order", then the added ones; 21, 22 and 23 are document 02's: "Each check keeps its place in 01's order", "A voltage gives 21, a
-- current or impedance 22, and a frequency .. 23"
abbrev pub configure_checks : Variant → ActuatorConfig → DeviceConfig → List Check
configure_checks v a d =
    (not (tracking d.driving_mode) && (d.acceleration || d.rapid_stop), 12)
    ∷ (etwm d.operation_mode && eqb (triggers_given d) 0, 13)
    ∷ (etwm d.operation_mode && (eqb (variant_code v) (variant_code DA7281) && ltb 1 (triggers_given d)), 14)
    ∷ (ltb 6000 a.nominal_max_mV, 21) ∷ (ltb 6000 a.absolute_max_mV, 21)
    ∷ (ltb 252 a.max_current_mA, 22)
    ∷ (ltb a.impedance_mOhm 4000 || ltb 49999 a.impedance_mOhm, 22)
    ∷ (outside_band d.driving_mode a.frequency_Hz, 23)
    ∷ (ltb 5990 a.nominal_max_mV, 21) ∷ (ltb 5990 a.absolute_max_mV, 21)
    ∷ (ltb a.max_current_mA 29, 22)
    ∷ (etwm d.operation_mode && triggers_above15 d, 11)
    ∷ (d.rapid_stop, 14) ∷ []

-- the number of the first that fails, 0 if none does
abbrev pub first_failing : List Check → ℕ
first_failing [] = 0
first_failing (c ∷ cs) = cond c.0 c.1 (first_failing cs)

abbrev pub configure_number : Variant → ActuatorConfig → DeviceConfig → ℕ
configure_number v a d = first_failing (configure_checks v a d)
