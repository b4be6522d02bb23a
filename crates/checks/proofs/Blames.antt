-- The first check that fails is the first fault: test by test. Assumes nothing.
use Rattle.std.specs.Prelude.{Option, Some, None}
use Prim.Native.Nat.{ℕ, ◌+◌}
use native.Mathlib.Omega.{arith}
use mathlib.Core.Path.{◌≡◌, refl, ◌∙◌, sym, ap}
use mathlib.Core.Bool.{Bool, true, false, cond, not, ◌&&◌, ◌||◌, So, and-eq-true_iff, false≢true}
use mathlib.Core.List.{List, [], ◌∷◌}
use mathlib.Core.Logic.{◌↔◌, inl, inr}
use lib.Dec.{ltb, eqb}
use Rattle.std.proofs.lemmas.Bool.{true_from_ne_false, ltb-true, ltb-false, eqb-true, eq-eqb, not-true}
use Rattle.std.proofs.lemmas.Bool.Decides.{Decides-and, Decides-or, Decides-ltb}
use Rattle.config.specs.declared.DrivingMode.{DrivingMode}
use Rattle.config.specs.declared.DrivingMode.TheVariants.{FREQUENCY_TRACK}
use Rattle.config.specs.declared.OperationMode.{OperationMode}
use Rattle.config.specs.declared.OperationMode.TheVariants.{ETWM_MODE}
use Rattle.config.specs.declared.TriggerConfig.{TriggerConfig}
use Rattle.checks.specs.Checks.{tracking, etwm, one_if_given, sequence_above15, outside_band, Check, configure_checks, first_failing}
use Rattle.checks.specs.InRange.{OneAbsent}
use Rattle.checks.specs.Blames.{Outside, OutOfBand, NumberAbove15, Fault, faults, OfFirst, among, Blames}
use Rattle.checks.proofs.Tests.{tracks, untracks, is_etwm, is_da7281, is_da7281_lem, absent, lone}

-- ---- the list

-- check by check: it fails exactly where there is the fault, and has its number
abbrev pub Agree : List Check → List Fault → Type 0
Agree [] [] = Unit
Agree [] (f ∷ fs) = ⊥
Agree (c ∷ cs) [] = ⊥
Agree (c ∷ cs) (f ∷ fs) = (c.1 ≡ f.0) × ((c.0 ≡ true) ↔ f.1) × Agree cs fs

pub of_first : (l : List Check) (fs : List Fault) → Agree l fs → OfFirst (first_failing l) fs
of_first [] [] t = refl
of_first [] (f ∷ fs) t = absurd t
of_first (c ∷ cs) [] t = absurd t
of_first (c ∷ cs) (f ∷ fs) t = go c.0 t.1 (of_first cs fs t.2)
  where
    go : (b : Bool) → (b ≡ true) ↔ f.1 → OfFirst (first_failing cs) fs → OfFirst (cond b c.1 (first_failing cs)) (f ∷ fs)
    go true p h = inl (p.0 refl, t.0)
    go false p h = inr (λ x. false≢true (p.1 x), h)

-- each of these numbers is in the list
abbrev all_among : List ℕ → List Check → Bool
all_among ns [] = true
all_among ns (c ∷ cs) = among ns c.1 && all_among ns cs

pub told_among : (ns : List ℕ) (l : List Check) → So (among ns 0) → So (all_among ns l) → among ns (first_failing l) ≡ true
told_among ns [] z s = z
told_among ns (c ∷ cs) z s = let both = (and-eq-true_iff (among ns c.1) (all_among ns cs)).0 s in go c.0 both.0 (told_among ns cs z both.1)
  where
    go : (b : Bool) → among ns c.1 ≡ true → among ns (first_failing cs) ≡ true → among ns (cond b c.1 (first_failing cs)) ≡ true
    go true p q = p
    go false p q = q

-- ---- what a test says

pub flag : (b : Bool) → (b ≡ true) ↔ (b ≡ true)
flag b = (λ e. e, λ e. e)

outside : (low high n : ℕ) → ((ltb n low || ltb high n) ≡ true) ↔ Outside low high n
outside low high n = Decides-or (ltb n low) (ltb high n) (Decides-ltb n low) (Decides-ltb high n)

untracked : (m : DrivingMode) → (not (tracking m) ≡ true) ↔ ¬ (m ≡ FREQUENCY_TRACK)
untracked m = (λ e. (untracks m).0 (not-true (tracking m) e), λ n. ap not ((untracks m).1 n))

pub out_of_band : (m : DrivingMode) (hz : ℕ) → (outside_band m hz ≡ true) ↔ OutOfBand m hz
out_of_band m hz = (λ e. (λ p. (outside 50 300 hz).0 (there true (ap tracking p) e), λ n. (outside 25 1024 hz).0 (there false ((untracks m).1 n) e)), λ o. back o (tracking m) refl)
  where
    there : (b : Bool) → tracking m ≡ b → outside_band m hz ≡ true → cond b (ltb hz 50 || ltb 300 hz) (ltb hz 25 || ltb 1024 hz) ≡ true
    there b p e = sym (ap (λ (t : Bool). cond t (ltb hz 50 || ltb 300 hz) (ltb hz 25 || ltb 1024 hz)) p) ∙ e

    back : OutOfBand m hz → (b : Bool) → tracking m ≡ b → cond b (ltb hz 50 || ltb 300 hz) (ltb hz 25 || ltb 1024 hz) ≡ true
    back o true t = (outside 50 300 hz).1 (o.0 (tracks m t))
    back o false f = (outside 25 1024 hz).1 (o.1 ((untracks m).0 f))

in_etwm_lem : (m : OperationMode) → (etwm m ≡ true) ↔ (m ≡ ETWM_MODE)
in_etwm_lem m = (is_etwm m, λ p. ap etwm p)

no_trigger : (r s t : Option TriggerConfig) → (eqb (one_if_given r + one_if_given s + one_if_given t) 0 ≡ true) ↔ ((r ≡ None) × (s ≡ None) × (t ≡ None))
no_trigger r s t = (
  λ e. let none = eqb-true (one_if_given r + one_if_given s + one_if_given t) 0 e in (absent r (omega (arith, none)), absent s (omega (arith, none)), absent t (omega (arith, none))),
  λ p. eq-eqb (one_if_given r + one_if_given s + one_if_given t) 0 (λ i. one_if_given (p.0 i) + one_if_given (p.1 i) + one_if_given (p.2 i)),
)

several : (r s t : Option TriggerConfig) → (ltb 1 (one_if_given r + one_if_given s + one_if_given t) ≡ true) ↔ ¬ (OneAbsent r s × OneAbsent r t × OneAbsent s t)
several r s t = (
  λ e p. omega (arith, ltb-true 1 (one_if_given r + one_if_given s + one_if_given t) e, (lone r s t).1 p),
  λ n. true_from_ne_false (ltb 1 (one_if_given r + one_if_given s + one_if_given t)) (λ f. n ((lone r s t).0 (ltb-false 1 (one_if_given r + one_if_given s + one_if_given t) f))),
)

number_above : (s : Option TriggerConfig) → (sequence_above15 s ≡ true) ↔ NumberAbove15 s
number_above None = (λ e. false≢true e, λ f. absurd f)
number_above (Some t) = Decides-ltb 15 t.sequence_id

-- ---- the claim

pub blames : Blames
blames = record {
  first = λ v a d.
      let operation = in_etwm_lem d.operation_mode in
      of_first (configure_checks v a d) (faults v a d) (
        refl,
        Decides-and _ _ (untracked d.driving_mode) (Decides-or _ _ (flag d.acceleration) (flag d.rapid_stop)),
        (
          refl,
          Decides-and _ _ operation (no_trigger d.gpi_trigger_0 d.gpi_trigger_1 d.gpi_trigger_2),
          (
            refl,
            Decides-and _ _ operation (Decides-and _ _ (is_da7281_lem v, λ p. ap is_da7281 p) (several d.gpi_trigger_0 d.gpi_trigger_1 d.gpi_trigger_2)),
            (
              refl,
              Decides-ltb 6000 a.nominal_max_mV,
              (
                refl,
                Decides-ltb 6000 a.absolute_max_mV,
                (
                  refl,
                  Decides-ltb 252 a.max_current_mA,
                  (
                    refl,
                    outside 4000 49999 a.impedance_mOhm,
                    (
                      refl,
                      out_of_band d.driving_mode a.frequency_Hz,
                      (
                        refl,
                        Decides-ltb 5990 a.nominal_max_mV,
                        (
                          refl,
                          Decides-ltb 5990 a.absolute_max_mV,
                          (
                            refl,
                            Decides-ltb a.max_current_mA 29,
                            (
                              refl,
                              Decides-and _ _ operation (Decides-or _ _ (number_above d.gpi_trigger_0)
                                  (Decides-or _ _ (number_above d.gpi_trigger_1) (number_above d.gpi_trigger_2))),
                              (refl, flag d.rapid_stop, tt),
                            ),
                          ),
                        ),
                      ),
                    ),
                  ),
                ),
              ),
            ),
          ),
        ),
      );
  listed = λ v a d. told_among (0 ∷ 11 ∷ 12 ∷ 13 ∷ 14 ∷ 21 ∷ 22 ∷ 23 ∷ []) (configure_checks v a d) refl refl;
}
