-- Points and bytes, both ways: two points have the same kind, length and amplitude exactly when they have the same byte.
-- Assumes nothing.
use mathlib.Core.Path.{◌≡◌, refl, ap, sym, ◌∙◌}
use mathlib.Core.Bool.{Bool, true, false}
use Prim.Native.Nat.{ℕ, ◌/◌, ◌%◌, ◌<◌}
use native.Mathlib.Omega.{arith}
use borrow.Author.Tests.{eq-eqb, ne_eqb}
use Rattle.laws.proofs.Tests.{same}
use Rattle.snippet.specs.Point.{point_byte, ramp_in, timebases_in, amplitude_in, PointAdmitted}

module _ (t a : ℕ) (h : PointAdmitted t a) where
  pub ramp_back : (r : Bool) → ramp_in (point_byte r t a) ≡ r
  ramp_back true = eq-eqb (point_byte true t a / 128 % 2) 1 (omega arith)
  ramp_back false = ne_eqb (point_byte false t a / 128 % 2) 1 (λ e. omega arith)

  pub timebases_back : (r : Bool) → timebases_in (point_byte r t a) ≡ t
  timebases_back true = omega arith
  timebases_back false = omega arith

  pub amplitude_back : (r : Bool) → amplitude_in (point_byte r t a) ≡ a
  amplitude_back true = omega arith
  amplitude_back false = omega arith

-- every byte is a point, made of its own fields
pub byte_back : (b : ℕ) → b < 256 → point_byte (ramp_in b) (timebases_in b) (amplitude_in b) ≡ b
byte_back = same (λ b. point_byte (ramp_in b) (timebases_in b) (amplitude_in b)) (λ b. b) 256 refl

pub byte_admitted : (b : ℕ) → PointAdmitted (timebases_in b) (amplitude_in b)
byte_admitted b = record { shortest = omega arith; longest = omega arith; strongest = omega arith }

-- "Points are the same when kind, length and amplitude are"
pub same_byte : (r : Bool) (t a : ℕ) (r' : Bool) (t' a' : ℕ) → (r ≡ r') × (t ≡ t') × (a ≡ a') → point_byte r t a ≡ point_byte r' t' a'
same_byte r t a r' t' a' s = λ i. point_byte (s.0 i) (s.1 i) (s.2 i)

pub same_point : (r : Bool) (t a : ℕ) (r' : Bool) (t' a' : ℕ) → PointAdmitted t a → PointAdmitted t' a'
    → point_byte r t a ≡ point_byte r' t' a' → (r ≡ r') × (t ≡ t') × (a ≡ a')
same_point r t a r' t' a' h h' e = (
  sym (ramp_back t a h r) ∙ ap ramp_in e ∙ ramp_back t' a' h' r',
  sym (timebases_back t a h r) ∙ ap timebases_in e ∙ timebases_back t' a' h' r',
  sym (amplitude_back t a h r) ∙ ap amplitude_in e ∙ amplitude_back t' a' h' r',
)
