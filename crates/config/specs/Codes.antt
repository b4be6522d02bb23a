-- The codes of the settings' choices, by the order in which config.rs and lib.rs write them. That a code past the last counts as the last is
-- ours: document 01 has no such code.
use Rattle.std.specs.Prelude.{ℕ, [], ◌∷◌, get_or}
use Rattle.config.specs.declared.ActuatorType.{ActuatorType}
use Rattle.config.specs.declared.ActuatorType.TheVariants.{LRA, ERM}
use Rattle.config.specs.declared.TriggerMode.{TriggerMode}
use Rattle.config.specs.declared.TriggerMode.TheVariants.{SingleSequence, MultiSequence}
use Rattle.config.specs.declared.TriggerPolarity.{TriggerPolarity}
use Rattle.config.specs.declared.TriggerPolarity.TheVariants.{Rising, Falling, Both}
use Rattle.config.specs.declared.OperationMode.{OperationMode}
use Rattle.config.specs.declared.OperationMode.TheVariants.{INACTIVE, DRO_MODE, PWM_MODE, RTWM_MODE, ETWM_MODE}
use Rattle.config.specs.declared.DrivingMode.{DrivingMode}
use Rattle.config.specs.declared.DrivingMode.TheVariants.{FREQUENCY_TRACK, WIDEBAND, CUSTOM_WAVEFORM}
use Rattle.config.specs.declared.Variant.{Variant}
use Rattle.config.specs.declared.Variant.TheVariants.{DA7280, DA7281, DA7282}

abbrev pub actuator_code : ActuatorType → ℕ
actuator_code LRA = 0
actuator_code ERM = 1

abbrev pub actuator_at : ℕ → ActuatorType
actuator_at code = get_or (LRA ∷ []) code ERM

abbrev pub trigger_mode_code : TriggerMode → ℕ
trigger_mode_code SingleSequence = 0
trigger_mode_code MultiSequence = 1

abbrev pub trigger_mode_at : ℕ → TriggerMode
trigger_mode_at code = get_or (SingleSequence ∷ []) code MultiSequence

abbrev pub polarity_code : TriggerPolarity → ℕ
polarity_code Rising = 0
polarity_code Falling = 1
polarity_code Both = 2

abbrev pub polarity_at : ℕ → TriggerPolarity
polarity_at code = get_or (Rising ∷ Falling ∷ []) code Both

abbrev pub operation_code : OperationMode → ℕ
operation_code INACTIVE = 0
operation_code DRO_MODE = 1
operation_code PWM_MODE = 2
operation_code RTWM_MODE = 3
operation_code ETWM_MODE = 4

abbrev pub operation_at : ℕ → OperationMode
operation_at code = get_or (INACTIVE ∷ DRO_MODE ∷ PWM_MODE ∷ RTWM_MODE ∷ []) code ETWM_MODE

abbrev pub driving_code : DrivingMode → ℕ
driving_code FREQUENCY_TRACK = 0
driving_code WIDEBAND = 1
driving_code CUSTOM_WAVEFORM = 2

abbrev pub driving_at : ℕ → DrivingMode
driving_at code = get_or (FREQUENCY_TRACK ∷ WIDEBAND ∷ []) code CUSTOM_WAVEFORM

abbrev pub variant_code : Variant → ℕ
variant_code DA7280 = 0
variant_code DA7281 = 1
variant_code DA7282 = 2

abbrev pub variant_at : ℕ → Variant
variant_at code = get_or (DA7280 ∷ DA7281 ∷ []) code DA7282
