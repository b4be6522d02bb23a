-- How many steps `configure` has: at least 14 and at most 25, whatever the settings. Assumes nothing.
use Rattle.std.specs.Prelude.{Option, Some, None}
use Prim.Native.Nat.{ℕ, ◌≤◌}
use Prim.Native.String.{String}
use native.Mathlib.Omega.{arith}
use mathlib.Core.Path.{◌≡◌, refl}
use mathlib.Core.List.{List, []}
use lib.ListN.{length, length-append}
use Rattle.laws.proofs.Tests.{choice}
use Rattle.config.specs.declared.ActuatorConfig.{ActuatorConfig}
use Rattle.config.specs.declared.DeviceConfig.{DeviceConfig}
use Rattle.config.specs.declared.TriggerConfig.{TriggerConfig}
use Rattle.config.specs.declared.DrivingMode.{DrivingMode}
use Rattle.config.specs.declared.DrivingMode.TheVariants.{FREQUENCY_TRACK, WIDEBAND, CUSTOM_WAVEFORM}
use Rattle.checks.specs.Checks.{etwm}
use Rattle.exchange.specs.declared.Step.{Step}
use Rattle.plans.specs.Configure.{feature_steps, limit_steps, calibration_steps, pid_steps, frequency_steps, rapid_stop_steps, phase_steps, custom_steps, driving_steps, gpi_steps, given_steps, trigger_steps, configure_steps}

-- ---- parts of a fixed number

pub features : (a : ActuatorConfig) (d : DeviceConfig) → length (feature_steps a d) ≡ 4
unfolding feature_steps
features a d = refl

pub limits : (a : ActuatorConfig) → length (limit_steps a) ≡ 3
unfolding limit_steps
limits a = refl

pub calibration : (a : ActuatorConfig) → length (calibration_steps a) ≡ 3
unfolding calibration_steps
calibration a = refl

pub frequency : (hz : ℕ) → length (frequency_steps hz) ≡ 2
unfolding frequency_steps
frequency hz = refl

pub rapid_stop : length rapid_stop_steps ≡ 2
unfolding rapid_stop_steps
rapid_stop = refl

-- ---- parts of at most as many

pub pid_words : (p : Option (ℕ × ℕ)) → length (pid_steps p) ≤ 4
unfolding pid_steps
pid_words None = omega arith
pid_words (Some (kp, ki)) = omega arith

pub driving : (m : DrivingMode) → length (driving_steps m) ≤ 4
unfolding driving_steps phase_steps custom_steps
driving FREQUENCY_TRACK = omega arith
driving WIDEBAND = omega arith
driving CUSTOM_WAVEFORM = omega arith

gpi : (digit : String) (t : Option TriggerConfig) → length (gpi_steps digit t) ≤ 1
unfolding gpi_steps
gpi digit None = omega arith
gpi digit (Some t) = omega arith

given : (s t u : Option TriggerConfig) → length (given_steps s t u) ≤ 3
unfolding given_steps
given s t u = simp length-append (omega (arith, gpi))

pub triggers : (d : DeviceConfig) → length (trigger_steps d) ≤ 3
unfolding trigger_steps
triggers d =
    let steps = given_steps d.gpi_trigger_0 d.gpi_trigger_1 d.gpi_trigger_2 in
    choice (λ (xs : List Step). length xs ≤ 3) (etwm d.operation_mode) steps [] (given d.gpi_trigger_0 d.gpi_trigger_1 d.gpi_trigger_2) (omega arith)

-- ---- all

module _ (a : ActuatorConfig) (d : DeviceConfig) where
  pub at_least : 14 ≤ length (configure_steps a d)
  at_least = simp (length-append, features, limits, calibration, frequency, rapid_stop) (omega arith)

  pub at_most : length (configure_steps a d) ≤ 25
  at_most =
      simp (length-append, features, limits, calibration, frequency, rapid_stop)
      (omega (arith, pid_words a.pid_Kp_Ki, driving d.driving_mode, triggers d))
