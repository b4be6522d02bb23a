-- What a test of a check says of the settings, both ways. Assumes nothing.
use Rattle.std.specs.Prelude.{Option, Some, None}
use Prim.Native.Nat.{ℕ, ◌+◌, ◌≤◌}
use native.Mathlib.Omega.{arith}
use mathlib.Core.Path.{◌≡◌, refl, ◌∙◌, sym, ap}
use mathlib.Core.Bool.{Bool, true, false, cond, ◌&&◌, ◌||◌, true≢false, false≢true}
use mathlib.Core.Logic.{◌↔◌, inl, inr}
use lib.Dec.{ltb, eqb}
use Rattle.std.proofs.lemmas.Bool.{false_from_ne_true, ltb-false, le-ltb, ne_eqb, or_parts, or_from}
use Rattle.config.specs.declared.DrivingMode.{DrivingMode}
use Rattle.config.specs.declared.DrivingMode.TheVariants.{FREQUENCY_TRACK, WIDEBAND, CUSTOM_WAVEFORM}
use Rattle.config.specs.declared.OperationMode.{OperationMode}
use Rattle.config.specs.declared.OperationMode.TheVariants.{INACTIVE, DRO_MODE, PWM_MODE, RTWM_MODE, ETWM_MODE}
use Rattle.config.specs.declared.TriggerConfig.{TriggerConfig}
use Rattle.config.specs.declared.Variant.{Variant}
use Rattle.config.specs.declared.Variant.TheVariants.{DA7280, DA7281, DA7282}
use Rattle.config.specs.Codes.{variant_code}
use Rattle.checks.specs.Checks.{tracking, etwm, one_if_given, sequence_above15}
use Rattle.checks.specs.InRange.{SequenceTo15, OneAbsent}

-- a test is of no account where the mode is another
pub and_off : (b x : Bool) → (b ≡ true → x ≡ false) → (b && x) ≡ false
and_off true x h = h refl
and_off false x h = refl

pub and_on : (b x : Bool) → (b && x) ≡ false → b ≡ true → x ≡ false
and_on b x e t = sym (ap (λ (c : Bool). c && x) t) ∙ e

-- a number that is neither below `low` nor above `high`
pub between : (low high n : ℕ) → ((ltb n low || ltb high n) ≡ false) ↔ ((low ≤ n) × (n ≤ high))
between low high n = (
  λ e. let both = or_parts (ltb n low) (ltb high n) e in (ltb-false n low both.0, ltb-false high n both.1),
  λ p. or_from (ltb n low) (ltb high n) (le-ltb n low p.0) (le-ltb high n p.1),
)

-- one of two, as a test says
pub either : (b x y : Bool) → (cond b x y ≡ false) ↔ ((b ≡ true → x ≡ false) × (b ≡ false → y ≡ false))
either true x y = (λ e. (λ t. e, λ f. absurd (true≢false f)), λ p. p.0 refl)
either false x y = (λ e. (λ t. absurd (false≢true t), λ f. e), λ p. p.1 refl)

-- ---- the modes, the variant and the triggers

pub tracks : (m : DrivingMode) → tracking m ≡ true → m ≡ FREQUENCY_TRACK
tracks FREQUENCY_TRACK e = refl
tracks WIDEBAND e = absurd (false≢true e)
tracks CUSTOM_WAVEFORM e = absurd (false≢true e)

pub untracks : (m : DrivingMode) → (tracking m ≡ false) ↔ ¬ (m ≡ FREQUENCY_TRACK)
untracks m = (λ e p. true≢false (sym (ap tracking p) ∙ e), λ n. false_from_ne_true (tracking m) (λ e. n (tracks m e)))

pub is_etwm : (m : OperationMode) → etwm m ≡ true → m ≡ ETWM_MODE
is_etwm INACTIVE e = absurd (false≢true e)
is_etwm DRO_MODE e = absurd (false≢true e)
is_etwm PWM_MODE e = absurd (false≢true e)
is_etwm RTWM_MODE e = absurd (false≢true e)
is_etwm ETWM_MODE e = refl

abbrev pub is_da7281 : Variant → Bool
is_da7281 v = eqb (variant_code v) (variant_code DA7281)

pub is_da7281_lem : (v : Variant) → is_da7281 v ≡ true → v ≡ DA7281
is_da7281_lem DA7280 e = absurd (false≢true e)
is_da7281_lem DA7281 e = refl
is_da7281_lem DA7282 e = absurd (false≢true e)

pub to15 : (s : Option TriggerConfig) → (sequence_above15 s ≡ false) ↔ SequenceTo15 s
to15 s = (λ e t p. ltb-false 15 t.sequence_id (sym (ap sequence_above15 p) ∙ e), back s)
  where
    back : (r : Option TriggerConfig) → SequenceTo15 r → sequence_above15 r ≡ false
    back None h = refl
    back (Some t) h = le-ltb 15 t.sequence_id (h t refl)

-- ---- how many triggers are given

pub absent : (s : Option TriggerConfig) → one_if_given s ≡ 0 → s ≡ None
absent None e = refl
absent (Some t) e = absurd (omega (arith, e))

-- not 0 where not all are absent
pub some : (r s t : Option TriggerConfig) → (eqb (one_if_given r + one_if_given s + one_if_given t) 0 ≡ false) ↔ ¬ ((r ≡ None) × (s ≡ None) × (t ≡ None))
some r s t = (
  λ e p. true≢false ((λ i. eqb (one_if_given (sym p.0 i) + one_if_given (sym p.1 i) + one_if_given (sym p.2 i)) 0) ∙ e),
  λ n. ne_eqb (one_if_given r + one_if_given s + one_if_given t) 0 (λ e. n (absent r (omega (arith, e)), absent s (omega (arith, e)), absent t (omega (arith, e)))),
)

pair : (s t : Option TriggerConfig) → (one_if_given s + one_if_given t ≤ 1) ↔ OneAbsent s t
pair None None = (λ h. inl refl, λ p. omega arith)
pair None (Some t) = (λ h. inl refl, λ p. omega arith)
pair (Some s) None = (λ h. inr refl, λ p. omega arith)
pair (Some s) (Some t) = (λ h. absurd (omega (arith, h)), go)
  where
    go : OneAbsent (Some s) (Some t) → one_if_given (Some s) + one_if_given (Some t) ≤ 1
    go (inl e) = omega (arith, ap one_if_given e)
    go (inr e) = omega (arith, ap one_if_given e)

-- at most 1 where no two are given
pub lone : (r s t : Option TriggerConfig) → (one_if_given r + one_if_given s + one_if_given t ≤ 1) ↔ (OneAbsent r s × OneAbsent r t × OneAbsent s t)
lone r s t = (
  λ h. ((pair r s).0 (omega (arith, h)), (pair r t).0 (omega (arith, h)), (pair s t).0 (omega (arith, h))),
  λ p. omega (arith, (pair r s).1 p.0, (pair r t).1 p.1, (pair s t).1 p.2),
)
