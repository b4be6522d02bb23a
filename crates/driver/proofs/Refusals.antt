-- What a start is refused for: the first check that fails is the first fault. Assumes nothing.
use Prim.Native.Nat.{ℕ, zero, suc, ◌<◌, ◌≤◌}
use native.Mathlib.Omega.{arith}
use mathlib.Core.Path.{◌≡◌, refl, ap}
use mathlib.Core.Bool.{Bool, true, false, not, true≢false, false≢true}
use mathlib.Core.List.{List, [], ◌∷◌}
use mathlib.Core.Logic.{◌↔◌, inl, inr}
use lib.Dec.{eqb, leb}
use lib.IntN.{ℤ, pos, negsuc}
use borrow.Author.Tests.{le-leb, leb-true}
use Rattle.std.proofs.lemmas.Bool.Decides.{Decides-and, Decides-ltb}
use Rattle.config.specs.declared.ActuatorConfig.{ActuatorConfig}
use Rattle.config.specs.declared.DeviceConfig.{DeviceConfig}
use Rattle.config.specs.declared.DrivingMode.{DrivingMode}
use Rattle.config.specs.declared.DrivingMode.TheVariants.{FREQUENCY_TRACK, WIDEBAND, CUSTOM_WAVEFORM}
use Rattle.config.specs.declared.OperationMode.{OperationMode}
use Rattle.config.specs.declared.OperationMode.TheVariants.{INACTIVE, DRO_MODE, PWM_MODE, RTWM_MODE, ETWM_MODE}
use Rattle.config.specs.Codes.{operation_code, driving_code}
use Rattle.checks.specs.Checks.{Check, first_failing, configure_number, outside_band}
use Rattle.checks.specs.Blames.{OutOfBand, Fault, faults, OfFirst}
use Rattle.checks.proofs.Blames.{Agree, of_first, flag, out_of_band, blames}
use Rattle.exchange.specs.declared.Step.{Step}
use Rattle.exchange.specs.State.{Begun}
use Rattle.da728x.specs.declared.DA728x.{DA728x}
use Rattle.std.specs.Prelude.{Option, Some, None}
use Rattle.driver.specs.Operations.{Start, declines, begins, unless, with_settings, negative, override_checks, is_custom, drive_point_checks, sequence_checks}
use Rattle.driver.specs.Theorems.{InStored, BelowZero, BeginsUnless, Refusals}

begins_unless : (n : ℕ) (b : Begun) (xs : List Step) (fs : List Fault) → OfFirst n fs → BeginsUnless (unless n (begins b xs)) fs
begins_unless zero b xs fs h = h
begins_unless (suc n) b xs fs h = (omega arith, h)

-- begun unless a check fails
checked : (cs : List Check) (b : Begun) (xs : List Step) (fs : List Fault) → Agree cs fs → BeginsUnless (unless (first_failing cs) (begins b xs)) fs
checked cs b xs fs t = begins_unless (first_failing cs) b xs fs (of_first cs fs t)

-- behind a fault that does not hold
later : (s : Start) (f : Fault) (fs : List Fault) → ¬ f.1 → BeginsUnless s fs → BeginsUnless s (f ∷ fs)
later (declines number) f fs n h = (h.0, inr (n, h.1))
later (begins b xs) f fs n h = inr (n, h)

-- 15 first
settled : (s : Option (ActuatorConfig × DeviceConfig)) (f : ActuatorConfig → DeviceConfig → Start) (fs : Option (ActuatorConfig × DeviceConfig) → List Fault) →
    ((a : ActuatorConfig) (d : DeviceConfig) → BeginsUnless (f a d) (fs (Some (a, d)))) → BeginsUnless (with_settings s f) ((15, s ≡ None) ∷ fs s)
settled None f fs h = (omega arith, inl (refl, refl))
settled (Some (a, d)) f fs h = later (f a d) (15, Some (a, d) ≡ None) (fs (Some (a, d))) (λ e. true≢false (ap given e)) (h a d)
  where
    given : Option (ActuatorConfig × DeviceConfig) → Bool
    given None = false
    given (Some (a, d)) = true

below_zero : (value : ℤ) → (negative value ≡ true) ↔ BelowZero value
below_zero (pos n) = (λ e. false≢true e, λ f. absurd f)
below_zero (negsuc n) = (λ e. tt, λ u. refl)

in_dro : (m : OperationMode) → (not (eqb (operation_code m) (operation_code DRO_MODE)) ≡ true) ↔ ¬ (m ≡ DRO_MODE)
in_dro INACTIVE = (λ e p. omega (arith, ap operation_code p), λ n. refl)
in_dro DRO_MODE = (λ e. absurd (false≢true e), λ n. absurd (n refl))
in_dro PWM_MODE = (λ e p. omega (arith, ap operation_code p), λ n. refl)
in_dro RTWM_MODE = (λ e p. omega (arith, ap operation_code p), λ n. refl)
in_dro ETWM_MODE = (λ e p. omega (arith, ap operation_code p), λ n. refl)

custom : (m : DrivingMode) → (not (is_custom m) ≡ true) ↔ ¬ (m ≡ CUSTOM_WAVEFORM)
custom FREQUENCY_TRACK = (λ e p. omega (arith, ap driving_code p), λ n. refl)
custom WIDEBAND = (λ e p. omega (arith, ap driving_code p), λ n. refl)
custom CUSTOM_WAVEFORM = (λ e. absurd (false≢true e), λ n. absurd (n refl))

not_below : (n m : ℕ) → (leb n m ≡ true) ↔ (n ≤ m)
not_below n m = (leb-true n m, le-leb n m)

-- of selecting and of playing a sequence
abbrev pub sequence_faults : ℕ → ℕ → ℕ → List Fault
sequence_faults sequences id loops = (11, 15 < id) ∷ (11, 15 < loops) ∷ (28, sequences ≤ id) ∷ []

checked_sequence : (r : DA728x) (id loops : ℕ) (b : Begun) (xs : List Step) →
    BeginsUnless (unless (first_failing (sequence_checks r.sequences id loops)) (begins b xs)) (sequence_faults r.sequences id loops)
checked_sequence r id loops b xs =
    checked (sequence_checks r.sequences id loops) b xs (sequence_faults r.sequences id loops)
    (refl, Decides-ltb 15 id, (refl, Decides-ltb 15 loops, (refl, not_below r.sequences id, tt)))

pub refusals : Refusals
refusals = record {
  configure = λ r a d. begins_unless (configure_number r.variant a d) _ _ (faults r.variant a d) (blames.first r.variant a d);
  set_frequency = λ r hz. settled r.settings _ (λ s. (23, InStored (λ a d. OutOfBand d.driving_mode hz) s) ∷ []) (λ a d.
      checked ((outside_band d.driving_mode hz, 23) ∷ []) _ _ ((23, OutOfBand d.driving_mode hz) ∷ []) (refl, out_of_band d.driving_mode hz, tt));
  set_override_value = λ r value. settled r.settings _ (λ s. (11, InStored (λ a d. (d.acceleration ≡ true) × BelowZero value) s)
      ∷ (12, InStored (λ a d. ¬ (d.operation_mode ≡ DRO_MODE)) s) ∷ []) (λ a d.
      checked (override_checks d value) _ _ ((11, (d.acceleration ≡ true) × BelowZero value) ∷ (12, ¬ (d.operation_mode ≡ DRO_MODE)) ∷ [])
      (refl, Decides-and d.acceleration (negative value) (flag d.acceleration) (below_zero value), (refl, in_dro d.operation_mode, tt)));
  select_sequence = λ r id loops. checked_sequence r id loops _ _;
  play_sequence = λ r id loops. checked_sequence r id loops _ _;
  enable = λ r. settled r.settings _ (λ s. []) (λ a d. refl);
  disable = λ r. settled r.settings _ (λ s. []) (λ a d. refl);
  set_custom_drive_waveform = λ r p1 p2 p3. settled r.settings _ (λ s. (12, InStored (λ a d. ¬ (d.driving_mode ≡ CUSTOM_WAVEFORM)) s) ∷ []) (λ a d.
      checked (drive_point_checks d) _ _ ((12, ¬ (d.driving_mode ≡ CUSTOM_WAVEFORM)) ∷ []) (refl, custom d.driving_mode, tt));
  others = λ r address v timebase m lock_after len room. (refl, (refl, (refl, (refl, (refl, (refl, (refl, (refl, (refl, (refl, tt))))))))));
}
