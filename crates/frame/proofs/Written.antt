-- What is read is a frame's bytes: the fields that reading gives are admitted, and written they are the bytes that were read.
-- Assumes nothing.
use Rattle.std.specs.Prelude.{Some, None}
use Rattle.std.specs.declared.option.Option as rust
use mathlib.Core.Path.{◌≡◌, refl, ap, subst}
use mathlib.Core.Bool.{Bool, true, false, cond}
use mathlib.Core.List.{List, [], ◌∷◌, ◌++◌}
use mathlib.Core.Option.{none, some, some-injective, none-ne-some}
use Prim.Native.Nat.{ℕ, ◌+◌, ◌*◌, ◌/◌, ◌%◌, ◌<◌, ◌≤◌}
use native.Mathlib.Omega.{arith}
use borrow.Author.Tests.{lt-leb, ltb-true, ltb-false}
use lib.Dec.{ltb, leb}
use Rattle.laws.specs.Bytes.{Bytes}
use Rattle.laws.proofs.Tests.{same}
use Rattle.frame.specs.Agreement.{FrameAdmitted}
use Rattle.frame.specs.Frame.{gain_code, timebase_code, first_byte, second_byte, bytes_of}
use Rattle.frame.specs.Read.{gain_at, timebase_at, fields_in, one_byte, two_bytes, three_bytes, Parsed, parsed, read_third, read_second, read_after, read_frame}

gain_there : (n : ℕ) → n < 4 → gain_code (gain_at n) ≡ n
gain_there = same (λ n. gain_code (gain_at n)) (λ n. n) 4 refl

timebase_there : (n : ℕ) → n < 4 → timebase_code (timebase_at n) ≡ n
timebase_there = same (λ n. timebase_code (timebase_at n)) (λ n. n) 4 refl

-- the first byte is its fields
first_there : (a n : ℕ) (k : rust.Option ℕ) (q : rust.Option ℕ) → a < 128 → n % 8 ≡ a % 8 → first_byte (fields_in a n k q) ≡ a
first_there a n k q h e = omega (arith, gain_there (a / 32 % 4) (omega arith), timebase_there (a / 8 % 4) (omega arith))

-- a byte is its bits
bits : (b : ℕ) → b < 256 → b / 128 * 128 + b / 8 % 16 * 8 + b / 4 % 2 * 4 + b / 2 % 2 * 2 + b % 2 ≡ b
bits = same (λ b. b / 128 * 128 + b / 8 % 16 * 8 + b / 4 % 2 * 4 + b / 2 % 2 * 2 + b % 2) (λ b. b) 256 refl

high : (a b : ℕ) → (b % 2 * 8 + a % 8) / 8 % 2 ≡ b % 2
high a b = omega arith

-- a sum of a byte's bits, w standing for bit 0 and v for bits 2 and 1
sum : (d x p q m v w b : ℕ) → d * 128 + x * 8 + p * 4 + q * 2 + m ≡ b → d ≡ 1 → x < 16 → v ≡ p * 4 + q * 2 → w ≡ m → 128 + x % 16 * 8 + v + w ≡ b
sum d x p q m v w b e f g h k = omega arith

second_there : (a b v : ℕ) → 128 ≤ b → b < 256 → v ≡ b / 4 % 2 * 4 + b / 2 % 2 * 2
    → 128 + b / 8 % 16 % 16 * 8 + v + (b % 2 * 8 + a % 8) / 8 % 2 ≡ b
second_there a b v l u e = sum (b / 128) (b / 8 % 16) (b / 4 % 2) (b / 2 % 2) (b % 2) v _ b (bits b u) (omega arith) (omega arith) e (high a b)

-- what a parse is worth
abbrev Sound : List ℕ → Parsed → Type 0
Sound l p = FrameAdmitted p.frame × (bytes_of p.frame ++ p.rest ≡ l)

one_sound : (a : ℕ) (r : List ℕ) → a < 128 → Sound (a ∷ r) (record { frame = one_byte a; rest = r })
one_sound a r h =
    let e : leb 8 (a % 8 % 16) ≡ false = lt-leb 8 (a % 8 % 16) (omega arith) in (
      record { number_fits = omega arith; loop_fits = tt; frequency_fits = tt },
      simp e (ap (λ (x : ℕ). x ∷ r) (first_there a (a % 8) None None h (omega arith))),
    )

two_sound : (a b : ℕ) (r : List ℕ) → a < 128 → 128 ≤ b → b < 256 → b / 4 % 2 < 1 → b / 2 % 2 < 1
    → Sound (a ∷ b ∷ r) (record { frame = two_bytes a b; rest = r })
two_sound a b r h l u p q =
    let f = first_there a (b % 2 * 8 + a % 8) (Some (b / 8 % 16)) None h (omega arith) in
    let s : second_byte (two_bytes a b) ≡ b = second_there a b 0 l u (omega arith) in (
      record { number_fits = omega arith; loop_fits = omega arith; frequency_fits = tt },
      λ i. f i ∷ s i ∷ r,
    )

three_sound : (a b c : ℕ) (r : List ℕ) → a < 128 → 128 ≤ b → b < 256 → c < 256 → 1 ≤ b / 4 % 2
    → Sound (a ∷ b ∷ c ∷ r) (record { frame = three_bytes a b c; rest = r })
three_sound a b c r h l u v p =
    let f = first_there a (b % 2 * 8 + a % 8) (Some (b / 8 % 16)) (Some (b / 2 % 2 * 256 + c)) h (omega arith) in
    let s : second_byte (three_bytes a b c) ≡ b = second_there a b _ l u (omega arith) in
    let t : (b / 2 % 2 * 256 + c) % 256 ≡ c = omega arith in (
      record { number_fits = omega arith; loop_fits = omega arith; frequency_fits = omega arith },
      λ i. f i ∷ s i ∷ t i ∷ r,
    )

-- the parse that was given is the one that was made
given : (l : List ℕ) (q p : Parsed) → Sound l q → some q ≡ some p → Sound l p
given l q p s e = subst (λ (x : Parsed). Sound l x) (some-injective q p e) s

never : {X : Type 0} (p : Parsed) → none ≡ some p → X
never p e = absurd (none-ne-some p e)

third_sound : (a b : ℕ) (r : List ℕ) (p : Parsed) → a < 128 → 128 ≤ b → b < 256 → Bytes r → 1 ≤ b / 4 % 2 → read_third a b r ≡ some p → Sound (a ∷ b ∷ r) p
third_sound a b [] p h l u v t e = never p e
third_sound a b (c ∷ r) p h l u v t e = given _ _ p (three_sound a b c r h l u v.0 t) e

second_sound : (a b : ℕ) (r : List ℕ) (p : Parsed) → a < 128 → 128 ≤ b → b < 256 → Bytes r → read_second a b r ≡ some p → Sound (a ∷ b ∷ r) p
second_sound a b r p h l u v e = four (ltb (b / 4 % 2) 1) refl e where
  two : (t : Bool) → ltb (b / 2 % 2) 1 ≡ t → b / 4 % 2 < 1 → cond t (parsed (two_bytes a b) r) none ≡ some p → Sound (a ∷ b ∷ r) p
  two true d f e = given _ _ p (two_sound a b r h l u f (ltb-true (b / 2 % 2) 1 d)) e
  two false d f e = never p e

  four : (t : Bool) → ltb (b / 4 % 2) 1 ≡ t → cond t (cond (ltb (b / 2 % 2) 1) (parsed (two_bytes a b) r) none) (read_third a b r) ≡ some p → Sound (a ∷ b ∷ r) p
  four true d e = two (ltb (b / 2 % 2) 1) refl (ltb-true (b / 4 % 2) 1 d) e
  four false d e = third_sound a b r p h l u v (ltb-false (b / 4 % 2) 1 d) e

after_sound : (a : ℕ) (r : List ℕ) (p : Parsed) → a < 128 → Bytes r → read_after a r ≡ some p → Sound (a ∷ r) p
after_sound a [] p h v e = given _ _ p (one_sound a [] h) e
after_sound a (b ∷ r) p h v e = go (ltb b 128) refl e where
  go : (t : Bool) → ltb b 128 ≡ t → cond t (parsed (one_byte a) (b ∷ r)) (read_second a b r) ≡ some p → Sound (a ∷ b ∷ r) p
  go true d e = given _ _ p (one_sound a (b ∷ r) h) e
  go false d e = second_sound a b r p h (ltb-false b 128 d) v.0 v.1 e

pub sound : (l : List ℕ) (p : Parsed) → Bytes l → read_frame l ≡ some p → FrameAdmitted p.frame × (bytes_of p.frame ++ p.rest ≡ l)
unfolding read_frame
sound [] p v e = never p e
sound (a ∷ r) p v e = go (ltb a 128) refl e where
  go : (t : Bool) → ltb a 128 ≡ t → cond t (read_after a r) none ≡ some p → Sound (a ∷ r) p
  go true d e = after_sound a r p (ltb-true a 128 d) v.1 e
  go false d e = never p e
