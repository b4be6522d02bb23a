-- Which number `configure` tells of settings: that of the first fault in document 01's order, with document 02's numbers (CR 3). So where a number
-- is told, an entry that it stands for is wrong; a voltage that alone is wrong is told by 21, a current or an impedance by 22, a frequency
-- by 23, a trigger's number by 11. That it is so: proofs/Blames.antt.
use Rattle.std.specs.Prelude.{ℕ, ◌<◌, ◌≡◌, Bool, true, false, ◌||◌, ◌⊎◌, List, [], ◌∷◌, eqb, Option, Some, None}
use Rattle.config.specs.declared.ActuatorConfig.{ActuatorConfig}
use Rattle.config.specs.declared.DeviceConfig.{DeviceConfig}
use Rattle.config.specs.declared.DrivingMode.{DrivingMode}
use Rattle.config.specs.declared.DrivingMode.TheVariants.{FREQUENCY_TRACK}
use Rattle.config.specs.declared.OperationMode.TheVariants.{ETWM_MODE}
use Rattle.config.specs.declared.TriggerConfig.{TriggerConfig}
use Rattle.config.specs.declared.Variant.{Variant}
use Rattle.config.specs.declared.Variant.TheVariants.{DA7281}
use Rattle.checks.specs.Checks.{configure_number}
use Rattle.checks.specs.InRange.{OneAbsent}

-- ---- faults

abbrev pub Outside : ℕ → ℕ → ℕ → Type 0
Outside low high n = (n < low) ⊎ (high < n)

-- a frequency outside the band of its driving mode
abbrev pub OutOfBand : DrivingMode → ℕ → Type 0
OutOfBand m hz = (m ≡ FREQUENCY_TRACK → Outside 50 300 hz) × (¬ (m ≡ FREQUENCY_TRACK) → Outside 25 1024 hz)

abbrev pub NumberAbove15 : Option TriggerConfig → Type 0
NumberAbove15 None = ⊥
NumberAbove15 (Some t) = 15 < t.sequence_id

abbrev pub Fault : Type 1
Fault = ℕ × Type 0

-- each with its number: "A voltage gives 21, a current or impedance 22, and a frequency .. 23"; "Number 11 remains for trigger numbers"
abbrev pub faults : Variant → ActuatorConfig → DeviceConfig → List Fault
faults v a d =
    (12, (¬ (d.driving_mode ≡ FREQUENCY_TRACK)) × ((d.acceleration ≡ true) ⊎ (d.rapid_stop ≡ true)))
    ∷ (13, (d.operation_mode ≡ ETWM_MODE) × ((d.gpi_trigger_0 ≡ None) × (d.gpi_trigger_1 ≡ None) × (d.gpi_trigger_2 ≡ None)))
    ∷ (
      14,
      (d.operation_mode ≡ ETWM_MODE) × ((v ≡ DA7281)
          × ¬ (OneAbsent d.gpi_trigger_0 d.gpi_trigger_1 × OneAbsent d.gpi_trigger_0 d.gpi_trigger_2 × OneAbsent d.gpi_trigger_1 d.gpi_trigger_2)),
    )
    ∷ (21, 6000 < a.nominal_max_mV) ∷ (21, 6000 < a.absolute_max_mV)
    ∷ (22, 252 < a.max_current_mA) ∷ (22, Outside 4000 49999 a.impedance_mOhm)
    ∷ (23, OutOfBand d.driving_mode a.frequency_Hz)
    -- those that document 01 adds
    ∷ (21, 5990 < a.nominal_max_mV) ∷ (21, 5990 < a.absolute_max_mV)
    ∷ (22, a.max_current_mA < 29)
    ∷ (11, (d.operation_mode ≡ ETWM_MODE) × (NumberAbove15 d.gpi_trigger_0 ⊎ (NumberAbove15 d.gpi_trigger_1 ⊎ NumberAbove15 d.gpi_trigger_2)))
    ∷ (14, d.rapid_stop ≡ true) ∷ []

-- ---- the claim

-- the number of the first fault that holds, 0 if none does
abbrev pub OfFirst : ℕ → List Fault → Type 0
OfFirst n [] = n ≡ 0
OfFirst n (f ∷ fs) = (f.1 × (n ≡ f.0)) ⊎ ((¬ f.1) × OfFirst n fs)

-- whether a number is in a list
abbrev pub among : List ℕ → ℕ → Bool
among [] n = false
among (m ∷ ms) n = eqb n m || among ms n

pub record Blames : Type 0 where
  pub first : (v : Variant) (a : ActuatorConfig) (d : DeviceConfig) → OfFirst (configure_number v a d) (faults v a d)
  -- follows from `first`
  pub listed : (v : Variant) (a : ActuatorConfig) (d : DeviceConfig) → among (0 ∷ 11 ∷ 12 ∷ 13 ∷ 14 ∷ 21 ∷ 22 ∷ 23 ∷ []) (configure_number v a d) ≡ true
