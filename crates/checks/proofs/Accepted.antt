-- The checks pass exactly where the settings are in range. Assumes nothing.
use Prim.Native.Nat.{ℕ, zero, suc, ◌≤◌}
use native.Mathlib.Omega.{arith}
use mathlib.Core.Path.{◌≡◌, refl, ◌∙◌, ap}
use mathlib.Core.Bool.{Bool, true, false, cond, not, ◌&&◌, ◌||◌, So, and-eq-true_iff}
use mathlib.Core.List.{List, [], ◌∷◌}
use mathlib.Core.Logic.{◌↔◌}
use lib.Dec.{ltb}
use Rattle.std.proofs.lemmas.Bool.{ltb-true, ltb-false, le-ltb, not-true, or_parts, or_from}
use Rattle.config.specs.declared.ActuatorConfig.{ActuatorConfig}
use Rattle.config.specs.declared.DeviceConfig.{DeviceConfig}
use Rattle.config.specs.declared.Variant.{Variant}
use Rattle.checks.specs.Checks.{tracking, etwm, triggers_given, sequence_above15, triggers_above15, Check, configure_checks, first_failing, configure_number}
use Rattle.checks.specs.InRange.{SequenceTo15, InRange}
use Rattle.checks.proofs.Tests.{and_off, and_on, between, either, tracks, untracks, is_etwm, is_da7281, is_da7281_lem, to15, some, lone}

-- ---- the list

-- whether check k fails
abbrev fails_at : ℕ → List Check → Bool
fails_at k [] = false
fails_at zero (c ∷ cs) = c.0
fails_at (suc k) (c ∷ cs) = fails_at k cs

-- every check has a number above 0
abbrev numbered : List Check → Bool
numbered [] = true
numbered (c ∷ cs) = ltb 0 c.1 && numbered cs

head_passes : (b : Bool) (n m : ℕ) → So (ltb 0 n) → cond b n m ≡ 0 → (b ≡ false) × (m ≡ 0)
head_passes true n m h e = let k = ltb-true 0 n h in absurd (omega arith)
head_passes false n m h e = (refl, e)

-- where no number is told, check k passes
passes : (k : ℕ) (l : List Check) → So (numbered l) → first_failing l ≡ 0 → fails_at k l ≡ false
passes k [] s e = refl
passes zero (c ∷ cs) s e = (head_passes c.0 c.1 (first_failing cs) ((and-eq-true_iff (ltb 0 c.1) (numbered cs)).0 s).0 e).0
passes (suc k) (c ∷ cs) s e =
    let both = (and-eq-true_iff (ltb 0 c.1) (numbered cs)).0 s in
    passes k cs both.1 (head_passes c.0 c.1 (first_failing cs) both.0 e).1

abbrev AllPass : List Check → Type 0
AllPass [] = Unit
AllPass (c ∷ cs) = (c.0 ≡ false) × AllPass cs

-- where each passes, no number is told
none_told : (l : List Check) → AllPass l → first_failing l ≡ 0
none_told [] p = refl
none_told (c ∷ cs) p = ap (λ (b : Bool). cond b c.1 (first_failing cs)) p.0 ∙ none_told cs p.1

-- ---- both ways

from_checks : (v : Variant) (a : ActuatorConfig) (d : DeviceConfig) → configure_number v a d ≡ 0 → InRange v a d
from_checks v a d e =
    let mode = d.driving_mode in
    let operation = d.operation_mode in
    let hz = a.frequency_Hz in
    let band = (either (tracking mode) (ltb hz 50 || ltb 300 hz) (ltb hz 25 || ltb 1024 hz)).0 (pass 7) in
    record {
      nominal = ltb-false 5990 a.nominal_max_mV (pass 8);
      absolute = ltb-false 5990 a.absolute_max_mV (pass 9);
      current = (ltb-false a.max_current_mA 29 (pass 10), ltb-false 252 a.max_current_mA (pass 5));
      impedance = (between 4000 49999 a.impedance_mOhm).0 (pass 6);
      tracking = λ p. (between 50 300 hz).0 (band.0 (ap tracking p));
      untracked = λ n.
          let f = (untracks mode).1 n in
          let wide = (between 25 1024 hz).0 (band.1 f) in
          (wide.0, wide.1, (or_parts d.acceleration d.rapid_stop (and_on (not (tracking mode)) _ (pass 0) (ap not f))).0);
      rapid_stop = pass 12;
      triggers = λ p. (some _ _ _).0 (and_on (etwm operation) _ (pass 1) (ap etwm p));
      single = λ p q. (lone _ _ _).0 (ltb-false 1 (triggers_given d) (and_on (is_da7281 v) _ (and_on (etwm operation) _ (pass 2) (ap etwm p)) (ap is_da7281 q)));
      sequences = λ p.
          let first = or_parts (sequence_above15 d.gpi_trigger_0) _ (and_on (etwm operation) _ (pass 11) (ap etwm p)) in
          let others = or_parts (sequence_above15 d.gpi_trigger_1) _ first.1 in
          ((to15 d.gpi_trigger_0).0 first.0, (to15 d.gpi_trigger_1).0 others.0, (to15 d.gpi_trigger_2).0 others.1);
    }
  where
    pass : (k : ℕ) → fails_at k (configure_checks v a d) ≡ false
    pass k = passes k (configure_checks v a d) refl e

to_checks : (v : Variant) (a : ActuatorConfig) (d : DeviceConfig) → InRange v a d → configure_number v a d ≡ 0
to_checks v a d r =
    let mode = d.driving_mode in
    let operation = d.operation_mode in
    let hz = a.frequency_Hz in
    none_told (configure_checks v a d) (
      and_off (not (tracking mode)) _ (λ u. or_from d.acceleration d.rapid_stop (wide (not-true (tracking mode) u)).2 r.rapid_stop),
      (
        and_off (etwm operation) _ (λ t. (some _ _ _).1 (r.triggers (is_etwm operation t))),
        (
          and_off (etwm operation) _ (λ t. and_off (is_da7281 v) _ (λ s. le-ltb 1 (triggers_given d) ((lone _ _ _).1 (r.single (is_etwm operation t) (is_da7281_lem v s))))),
          (
            le-ltb _ a.nominal_max_mV (omega (arith, r.nominal)),
            (
              le-ltb _ a.absolute_max_mV (omega (arith, r.absolute)),
              (
                le-ltb 252 a.max_current_mA r.current.1,
                (
                  (between 4000 49999 a.impedance_mOhm).1 r.impedance,
                  (
                    (either (tracking mode) _ _).1 (λ t. (between 50 300 hz).1 (r.tracking (tracks mode t)), λ f. (between 25 1024 hz).1 ((wide f).0, (wide f).1)),
                    (
                      le-ltb 5990 a.nominal_max_mV r.nominal,
                      (
                        le-ltb 5990 a.absolute_max_mV r.absolute,
                        (
                          le-ltb a.max_current_mA 29 r.current.0,
                          (
                            and_off (etwm operation) _ (λ t. none_above (r.sequences (is_etwm operation t))),
                            (r.rapid_stop, tt),
                          ),
                        ),
                      ),
                    ),
                  ),
                ),
              ),
            ),
          ),
        ),
      ),
    )
  where
    wide : tracking d.driving_mode ≡ false → (25 ≤ a.frequency_Hz) × (a.frequency_Hz ≤ 1024) × (d.acceleration ≡ false)
    wide f = r.untracked ((untracks d.driving_mode).0 f)

    none_above : SequenceTo15 d.gpi_trigger_0 × SequenceTo15 d.gpi_trigger_1 × SequenceTo15 d.gpi_trigger_2 → triggers_above15 d ≡ false
    none_above h = λ i. (to15 d.gpi_trigger_0).1 h.0 i || ((to15 d.gpi_trigger_1).1 h.1 i || (to15 d.gpi_trigger_2).1 h.2 i)

pub exact : (v : Variant) (a : ActuatorConfig) (d : DeviceConfig) → (configure_number v a d ≡ 0) ↔ InRange v a d
exact v a d = (from_checks v a d, to_checks v a d)

-- the least frequency of either band
pub at_least_25 : (v : Variant) (a : ActuatorConfig) (d : DeviceConfig) → InRange v a d → 25 ≤ a.frequency_Hz
at_least_25 v a d r =
    go (tracking d.driving_mode) (λ t. (r.tracking (tracks _ t)).0) (λ f. (r.untracked ((untracks _).0 f)).0)
  where
    go : (b : Bool) → (b ≡ true → 50 ≤ a.frequency_Hz) → (b ≡ false → 25 ≤ a.frequency_Hz) → 25 ≤ a.frequency_Hz
    go true h k = omega (arith, h refl)
    go false h k = k refl
