-- From registers back to settings: document 02, CR 12, "Every setting between them, and no other accepted one, converts to that value, and none is
-- answered only if no accepted setting does". A setting is accepted if some whole settings hold it that `configure` takes. `Ranges` is proved in
-- proofs/Ranges.antt.
use Rattle.std.specs.Prelude.{ℕ, ◌/◌, ◌%◌, ◌≤◌, ◌≡◌, ◌↔◌, Bool, true, ◌&&◌, ◌||◌, leb, eqb, List, [], ◌∷◌, filter, Option, Some, None}
use Rattle.laws.specs.Lists.{at}
use Rattle.config.specs.declared.ActuatorConfig.{ActuatorConfig}
use Rattle.config.specs.declared.DeviceConfig.{DeviceConfig}
use Rattle.config.specs.declared.DrivingMode.{DrivingMode}
use Rattle.config.specs.declared.DrivingMode.TheVariants.{FREQUENCY_TRACK, WIDEBAND, CUSTOM_WAVEFORM}
use Rattle.config.specs.declared.Variant.{Variant}
use Rattle.checks.specs.Checks.{configure_number}
use Rattle.convert.specs.Convert.{voltage_byte, imax_code, period_word}
use Rattle.exchange.specs.declared.Step.{Step}
use Rattle.exchange.specs.declared.Step.TheVariants.{Write}
use Rattle.exchange.specs.State.{Begun}
use Rattle.exchange.specs.Steps.{exchange_for}
use Rattle.plans.specs.Configure.{top_cfg1, configure_steps}
use Rattle.da728x.specs.declared.DA728x.{DA728x}
use Rattle.driver.specs.Operations as operation
use Rattle.driver.specs.Operations.{begins}
use Rattle.driver.specs.Theorems.{InStored}
use Rattle.ranges.specs.declared.Range.{Range}
use Rattle.ranges.specs.Search.{accepted_voltage, accepted_current, accepted_frequency, voltage_range, imax_range, period_range}

-- ---- accepted settings

-- a chip's variant and the settings of one `configure`, which takes them
pub record Taken : Type 0 where
  pub variant : Variant
  pub actuator : ActuatorConfig
  pub device : DeviceConfig
  pub taken : configure_number variant actuator device ≡ 0

-- a place of the settings: which number they hold there
abbrev pub Place : Type 1
Place = Taken → ℕ → Type 0

abbrev pub Nominal : Place
Nominal s mV = s.actuator.nominal_max_mV ≡ mV

abbrev pub Absolute : Place
Absolute s mV = s.actuator.absolute_max_mV ≡ mV

abbrev pub Current : Place
Current s mA = s.actuator.max_current_mA ≡ mA

-- under a given driving mode
abbrev pub Frequency : DrivingMode → Place
Frequency mode s hz = (s.device.driving_mode ≡ mode) × (s.actuator.frequency_Hz ≡ hz)

abbrev pub IsAccepted : Place → ℕ → Type 0
IsAccepted P n = (s : Taken) × P s n

-- ---- an answer

-- the numbers from the least to the greatest are the accepted settings that convert to the value; where none is answered there is none
abbrev pub Exactly : Place → (ℕ → ℕ) → ℕ → Option Range → Type 0
Exactly P converts value None = (n : ℕ) → IsAccepted P n → ¬ (converts n ≡ value)
Exactly P converts value (Some r) =
    (r.least ≤ r.greatest) × ((n : ℕ) → ((r.least ≤ n) × (n ≤ r.greatest)) ↔ (IsAccepted P n × (converts n ≡ value)))

-- of a place: the search takes just what is accepted, and the answer to every value is exact
pub record Answered (P : Place) (accepts : ℕ → Bool) (converts : ℕ → ℕ) (range : ℕ → Option Range) : Type 0 where
  pub accepted : (n : ℕ) → (accepts n ≡ true) ↔ IsAccepted P n
  pub exactly : (value : ℕ) → Exactly P converts value (range value)

-- whether what a step sends begins with one of the addresses 0A to 0E, or with 13
abbrev pub to_source : Step → Bool
to_source s = let register = at (exchange_for 0 0 [] s).bytes 0 in (leb 0x0A register && leb register 0x0E) || eqb register 0x13

abbrev pub from_to : ℕ → ℕ → Option Range
from_to least greatest = Some (record { least = least; greatest = greatest })

pub record Ranges : Type 0 where
  pub nominal : Answered Nominal accepted_voltage voltage_byte voltage_range
  pub absolute : Answered Absolute accepted_voltage voltage_byte voltage_range
  pub current : Answered Current accepted_current imax_code imax_range
  pub frequency : (mode : DrivingMode) → Answered (Frequency mode) (accepted_frequency mode) period_word (period_range mode)
  -- accepted settings of the four places are accepted together
  pub together : (mode : DrivingMode) (nominal absolute mA hz : ℕ) → IsAccepted Nominal nominal → IsAccepted Absolute absolute → IsAccepted Current mA
      → IsAccepted (Frequency mode) hz → (s : Taken) × Nominal s nominal × Absolute s absolute × Current s mA × Frequency mode s hz
  -- `configure` writes each of these registers once: TOP_CFG1, ACTUATOR1, ACTUATOR2, ACTUATOR3, FRQ_LRA_PER_H, FRQ_LRA_PER_L
  pub written : (s : Taken) → filter to_source (configure_steps s.actuator s.device)
      ≡ Write 0x13 (top_cfg1 s.actuator s.device)
      ∷ Write 0x0C (voltage_byte s.actuator.nominal_max_mV) ∷ Write 0x0D (voltage_byte s.actuator.absolute_max_mV)
      ∷ Write 0x0E (imax_code s.actuator.max_current_mA)
      ∷ Write 0x0A (period_word s.actuator.frequency_Hz / 128) ∷ Write 0x0B (period_word s.actuator.frequency_Hz % 128) ∷ []
  -- FREQ_TRACK_EN, bit 3 of TOP_CFG1, tells whether the mode tracks
  pub tracks : (s : Taken) → (top_cfg1 s.actuator s.device / 8 % 2 ≡ 1) ↔ (s.device.driving_mode ≡ FREQUENCY_TRACK)
  -- `set_frequency` writes the last two registers, of a frequency that is accepted under the mode that is stored
  pub swept : (r : DA728x) (hz : ℕ) (b : Begun) (xs : List Step) → (operation.set_frequency r hz).start ≡ begins b xs →
      InStored (λ a d. IsAccepted (Frequency d.driving_mode) hz) r.settings × (xs ≡ Write 0x0A (period_word hz / 128) ∷ Write 0x0B (period_word hz % 128) ∷ [])
  -- "voltage 255 comes from 5967..5990 mV, IMAX 0 from 29..35 mA, and IMAX 32 from nothing"
  pub examples : (voltage_range 255 ≡ from_to 5967 5990) × (imax_range 0 ≡ from_to 29 35) × (imax_range 32 ≡ None)
  -- and ours: the ends of each band, and two frequencies of one word
  pub volts : voltage_range 0 ≡ from_to 0 23
  pub amperes : imax_range 31 ≡ from_to 252 252
  pub tracked : (period_range FREQUENCY_TRACK 2499 ≡ None) × (period_range FREQUENCY_TRACK 2500 ≡ from_to 300 300)
      × (period_range FREQUENCY_TRACK 15000 ≡ from_to 50 50) × (period_range FREQUENCY_TRACK 30000 ≡ None)
  pub untracked : (period_range WIDEBAND 0 ≡ None) × (period_range WIDEBAND 732 ≡ from_to 1024 1024) × (period_range WIDEBAND 733 ≡ from_to 1022 1023)
      × (period_range CUSTOM_WAVEFORM 4411 ≡ from_to 170 170) × (period_range CUSTOM_WAVEFORM 30000 ≡ from_to 25 25)
