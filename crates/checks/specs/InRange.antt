-- The settings that `configure` takes: the ranges of document 01, 'Settings to registers', as one reads them. That the checks of
-- specs/Checks.antt pass in these and in no others: `Accepted` (plans/specs/Accepted.antt).
use Rattle.std.specs.Prelude.{◌≤◌, ◌≡◌, false, ◌⊎◌, Option, Some, None}
use Rattle.config.specs.declared.ActuatorConfig.{ActuatorConfig}
use Rattle.config.specs.declared.DeviceConfig.{DeviceConfig}
use Rattle.config.specs.declared.DrivingMode.TheVariants.{FREQUENCY_TRACK}
use Rattle.config.specs.declared.OperationMode.TheVariants.{ETWM_MODE}
use Rattle.config.specs.declared.TriggerConfig.{TriggerConfig}
use Rattle.config.specs.declared.Variant.{Variant}
use Rattle.config.specs.declared.Variant.TheVariants.{DA7281}

-- a trigger's sequence number, where it is given
abbrev pub SequenceTo15 : Option TriggerConfig → Type 0
SequenceTo15 s = (t : TriggerConfig) → s ≡ Some t → t.sequence_id ≤ 15

-- of two triggers at most one is given
abbrev pub OneAbsent : Option TriggerConfig → Option TriggerConfig → Type 0
OneAbsent s t = (s ≡ None) ⊎ (t ≡ None)

pub record InRange (v : Variant) (a : ActuatorConfig) (d : DeviceConfig) : Type 0 where
  pub nominal : a.nominal_max_mV ≤ 5990
  pub absolute : a.absolute_max_mV ≤ 5990
  pub current : (29 ≤ a.max_current_mA) × (a.max_current_mA ≤ 252)
  pub impedance : (4000 ≤ a.impedance_mOhm) × (a.impedance_mOhm ≤ 49999)
  pub tracking : d.driving_mode ≡ FREQUENCY_TRACK → (50 ≤ a.frequency_Hz) × (a.frequency_Hz ≤ 300)
  pub untracked : ¬ (d.driving_mode ≡ FREQUENCY_TRACK) → (25 ≤ a.frequency_Hz) × (a.frequency_Hz ≤ 1024) × (d.acceleration ≡ false)
  pub rapid_stop : d.rapid_stop ≡ false
  -- in ETWM mode: not all three triggers absent, on the DA7281 no two given, every one's number in four bits
  pub triggers : d.operation_mode ≡ ETWM_MODE → ¬ ((d.gpi_trigger_0 ≡ None) × (d.gpi_trigger_1 ≡ None) × (d.gpi_trigger_2 ≡ None))
  pub single : d.operation_mode ≡ ETWM_MODE → v ≡ DA7281 →
      OneAbsent d.gpi_trigger_0 d.gpi_trigger_1 × OneAbsent d.gpi_trigger_0 d.gpi_trigger_2 × OneAbsent d.gpi_trigger_1 d.gpi_trigger_2
  pub sequences : d.operation_mode ≡ ETWM_MODE → SequenceTo15 d.gpi_trigger_0 × SequenceTo15 d.gpi_trigger_1 × SequenceTo15 d.gpi_trigger_2
