-- The steps of `configure`, in the Rust's order: document 01, 'Settings to registers' and 'Exchanges'.
use Rattle.std.specs.Prelude.{ℕ, ◌/◌, ◌%◌, Bool, cond, not, ◌&&◌, List, [], ◌∷◌, ◌++◌, Option, Some, None}
use Prim.Native.String.{String, ◌++◌ as ◌&◌}
use Rattle.field.specs.Field.{code_of}
use Rattle.config.specs.declared.ActuatorConfig.{ActuatorConfig}
use Rattle.config.specs.declared.DeviceConfig.{DeviceConfig}
use Rattle.config.specs.declared.TriggerConfig.{TriggerConfig}
use Rattle.config.specs.declared.DrivingMode.{DrivingMode}
use Rattle.config.specs.declared.DrivingMode.TheVariants.{FREQUENCY_TRACK, WIDEBAND, CUSTOM_WAVEFORM}
use Rattle.config.specs.Codes.{actuator_code, polarity_code, trigger_mode_code}
use Rattle.checks.specs.Checks.{tracking, etwm}
use Rattle.convert.specs.Convert.{voltage_byte, imax_code, v2i_word, period_word, high_part, low_part}
use Rattle.convert.specs.Trim.{trim4_byte}
use Rattle.exchange.specs.declared.Step.{Step}
use Rattle.plans.specs.Fields.{put, fresh, written, written_with, updated}

-- whether the chip accelerates: only where it tracks
abbrev pub accelerates : DeviceConfig → Bool
accelerates d = tracking d.driving_mode && d.acceleration

-- EMBEDDED_MODE clears faults when the chip idles
abbrev pub top_cfg1 : ActuatorConfig → DeviceConfig → ℕ
top_cfg1 a d =
    fresh "TOP_CFG1" (put "ACTUATOR_TYPE" (actuator_code a.actuator_type)
    ∷ put "BEMF_SENSE_EN" (code_of (tracking d.driving_mode)) ∷ put "FREQ_TRACK_EN" (code_of (tracking d.driving_mode))
    ∷ put "ACCELERATION_EN" (code_of (accelerates d)) ∷ put "RAPID_STOP_EN" (code_of (tracking d.driving_mode && d.rapid_stop)) ∷ put "AMP_PID_EN" 0 ∷ put "EMBEDDED_MODE" 1 ∷ [])

-- TOP_CFG1, TOP_CFG2 (read and updated), TOP_CFG5
unfoldable pub feature_steps : ActuatorConfig → DeviceConfig → List Step
feature_steps a d =
    written "TOP_CFG1" (top_cfg1 a d)
    ∷ (updated "TOP_CFG2" (put "MEM_DATA_SIGNED" (code_of (not (accelerates d))))
    ++ (written_with "TOP_CFG5" (put "V2I_FACTOR_OFFSET_EN" (code_of (accelerates d)) ∷ []) ∷ []))

-- ACTUATOR1 to 3
unfoldable pub limit_steps : ActuatorConfig → List Step
limit_steps a =
    written "ACTUATOR1" (voltage_byte a.nominal_max_mV) ∷ written "ACTUATOR2" (voltage_byte a.absolute_max_mV)
    ∷ written_with "ACTUATOR3" (put "IMAX" (imax_code a.max_current_mA) ∷ []) ∷ []

abbrev pub v2i_for : ActuatorConfig → ℕ
v2i_for a = v2i_word a.impedance_mOhm (imax_code a.max_current_mA)

-- CALIB_V2I ("high byte written first") and TRIM4
unfoldable pub calibration_steps : ActuatorConfig → List Step
calibration_steps a =
    written "CALIB_V2I_H" (v2i_for a / 256) ∷ written "CALIB_V2I_L" (v2i_for a % 256) ∷ written "TRIM4" (trim4_byte a.impedance_mOhm a.inductance_uH) ∷ []

-- TOP_INT_CFG6 and 7: "PID words lose bit 15"
unfoldable pub pid_steps : Option (ℕ × ℕ) → List Step
pid_steps None = []
pid_steps (Some (kp, ki)) =
    written "TOP_INT_CFG6_H" (high_part kp) ∷ written "TOP_INT_CFG6_L" (low_part kp)
    ∷ written "TOP_INT_CFG7_H" (high_part ki) ∷ written "TOP_INT_CFG7_L" (low_part ki) ∷ []

-- FRQ_LRA_PER: the period word's two parts
unfoldable pub frequency_steps : ℕ → List Step
frequency_steps hz =
    written "FRQ_LRA_PER_H" (high_part (period_word hz)) ∷ written_with "FRQ_LRA_PER_L" (put "LRA_PER_L" (low_part (period_word hz)) ∷ []) ∷ []

-- TOP_INT_CFG8, read and updated
unfoldable pub rapid_stop_steps : List Step
rapid_stop_steps = updated "TOP_INT_CFG8" (put "RAPID_STOP_LIM" 7)

-- FRQ_PHASE
unfoldable pub phase_steps : List Step
phase_steps = written "FRQ_PHASE_H" 0 ∷ written_with "FRQ_PHASE_L" (put "DELAY_SHIFT_L" 0 ∷ put "DELAY_FREEZE" 1 ∷ []) ∷ []

-- SEQ_CTL1 and TOP_CFG4
unfoldable pub custom_steps : List Step
custom_steps = written_with "SEQ_CTL1" (put "WAVEGEN_MODE" 1 ∷ []) ∷ written_with "TOP_CFG4" (put "V2I_FACTOR_FREEZE" 1 ∷ []) ∷ []

unfoldable pub driving_steps : DrivingMode → List Step
driving_steps FREQUENCY_TRACK = []
driving_steps WIDEBAND = phase_steps
driving_steps CUSTOM_WAVEFORM = phase_steps ++ custom_steps

-- the byte of the GPI register with this digit in its names; document 02, CR 4: "it is the trigger's own `mode`: 0 for SingleSequence, 1 for
-- MultiSequence" (the codes of TriggerMode)
unfoldable pub gpi_byte : String → TriggerConfig → ℕ
gpi_byte digit t =
    fresh ("GPI_" & digit & "_CTL") (put ("GPI" & digit & "_POLARITY") (polarity_code t.polarity)
    ∷ put ("GPI" & digit & "_MODE") (trigger_mode_code t.mode) ∷ put ("GPI" & digit & "_SEQUENCE_ID") t.sequence_id ∷ [])

unfoldable pub gpi_steps : String → Option TriggerConfig → List Step
gpi_steps digit None = []
gpi_steps digit (Some t) = written ("GPI_" & digit & "_CTL") (gpi_byte digit t) ∷ []

-- GPI_0_CTL to GPI_2_CTL, those whose triggers are given
unfoldable pub given_steps : Option TriggerConfig → Option TriggerConfig → Option TriggerConfig → List Step
given_steps first second third = gpi_steps "0" first ++ (gpi_steps "1" second ++ gpi_steps "2" third)

-- in ETWM mode only
unfoldable pub trigger_steps : DeviceConfig → List Step
trigger_steps d = cond (etwm d.operation_mode) (given_steps d.gpi_trigger_0 d.gpi_trigger_1 d.gpi_trigger_2) []

abbrev pub configure_steps : ActuatorConfig → DeviceConfig → List Step
configure_steps a d =
    feature_steps a d ++ (limit_steps a ++ (calibration_steps a ++ (pid_steps a.pid_Kp_Ki ++ (frequency_steps a.frequency_Hz
    ++ (rapid_stop_steps ++ (driving_steps d.driving_mode ++ trigger_steps d))))))
