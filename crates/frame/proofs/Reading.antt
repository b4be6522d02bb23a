-- Reading undoes writing: a frame's bytes, and any bytes that begin no second byte, are read to the frame and the rest.
-- Assumes nothing.
use Rattle.std.specs.Prelude.{Option, Some, None}
use mathlib.Core.Path.{◌≡◌, refl, sym, ap, ◌∙◌}
use mathlib.Core.Bool.{Bool, true, false, ◌||◌}
use mathlib.Core.List.{List, [], ◌∷◌, ◌++◌}
use Prim.Native.Nat.{ℕ, ◌+◌, ◌*◌, ◌/◌, ◌%◌, ◌<◌, ◌≤◌}
use native.Mathlib.Omega.{arith}
use borrow.Author.Tests.{lt-ltb, le-ltb, le-leb, lt-leb, leb-true, leb-false}
use lib.Dec.{leb}
use Rattle.frame.specs.declared.Gain.{Gain}
use Rattle.frame.specs.declared.Gain.TheVariants.{Full, Half, Quarter, Eighth}
use Rattle.frame.specs.declared.Timebase.{Timebase}
use Rattle.frame.specs.declared.Timebase.TheVariants.{Ms5_44, Ms21_76, Ms43_52, Ms87_04}
use Rattle.frame.specs.declared.FrameBuilder.{FrameBuilder}
use Rattle.frame.specs.Agreement.{FrameAdmitted}
use Rattle.frame.specs.Builder.{frame_with}
use Rattle.frame.specs.Frame.{gain_code, timebase_code, first_byte, bytes_of}
use Rattle.frame.specs.Read.{gain_at, timebase_at, fields_in, one_byte, two_bytes, three_bytes, parsed, read_frame}
use Rattle.frame.proofs.Canon.{canon}
use Rattle.frame.proofs.Parts.{loops, loop_given, LoopAdmitted, FrequencyAdmitted, absent_is_zero, written}

-- ---- codes, both ways

pub gain_back : (g : Gain) → (gain_at (gain_code g) ≡ g) × (gain_code g < 4)
gain_back Full = (refl, omega arith)
gain_back Half = (refl, omega arith)
gain_back Quarter = (refl, omega arith)
gain_back Eighth = (refl, omega arith)

pub timebase_back : (t : Timebase) → (timebase_at (timebase_code t) ≡ t) × (timebase_code t < 4)
timebase_back Ms5_44 = (refl, omega arith)
timebase_back Ms21_76 = (refl, omega arith)
timebase_back Ms43_52 = (refl, omega arith)
timebase_back Ms87_04 = (refl, omega arith)

-- ---- what was written is read

-- the first byte's fields, g and t being codes
first_back : (g t n : ℕ) → g < 4 → t < 4 →
    let a : ℕ = g * 32 + t * 8 + n % 8 in (a < 128) × (a / 32 % 4 ≡ g) × (a / 8 % 4 ≡ t) × (a % 8 ≡ n % 8)
first_back g t n hg ht = (omega arith, omega arith, omega arith, omega arith)

module _ (f : FrameBuilder) where
  pub first_small : first_byte f < 128
  first_small = (first_back (gain_code f.gain) (timebase_code f.timebase) f.snippet_id (gain_back f.gain).1 (timebase_back f.timebase).1).0

  fields_back : (n : ℕ) (k : Option ℕ) (q : Option ℕ) → n ≡ f.snippet_id → k ≡ written (absent_is_zero f.snippet_id f.frequency) f.loop_count → q ≡ f.frequency
      → fields_in (first_byte f) n k q ≡ canon f
  unfolding canon
  fields_back n k q en ek eq =
      let b = first_back (gain_code f.gain) (timebase_code f.timebase) f.snippet_id (gain_back f.gain).1 (timebase_back f.timebase).1 in
      let eg : gain_at (first_byte f / 32 % 4) ≡ f.gain = ap gain_at b.1 ∙ (gain_back f.gain).0 in
      let et : timebase_at (first_byte f / 8 % 4) ≡ f.timebase = ap timebase_at b.2 ∙ (timebase_back f.timebase).0 in
      λ i. frame_with (en i) (eg i) (et i) (ek i) (eq i)

-- what follows a frame begins no second byte
abbrev pub Starts : List ℕ → Type 0
Starts [] = Unit
Starts (b ∷ r) = b < 128

read_one : (a : ℕ) (r : List ℕ) → a < 128 → Starts r → read_frame (a ∷ r) ≡ parsed (one_byte a) r
unfolding read_frame
read_one a [] h s = simp (lt-ltb a 128 h)
read_one a (b ∷ r) h s = simp (lt-ltb a 128 h, lt-ltb b 128 s)

read_two : (a b : ℕ) (r : List ℕ) → a < 128 → 128 ≤ b → b / 4 % 2 < 1 → b / 2 % 2 < 1 → read_frame (a ∷ b ∷ r) ≡ parsed (two_bytes a b) r
unfolding read_frame
read_two a b r h l p q = simp (lt-ltb a 128 h, le-ltb b 128 l, lt-ltb (b / 4 % 2) 1 p, lt-ltb (b / 2 % 2) 1 q)

read_three : (a b c : ℕ) (r : List ℕ) → a < 128 → 128 ≤ b → 1 ≤ b / 4 % 2 → read_frame (a ∷ b ∷ c ∷ r) ≡ parsed (three_bytes a b c) r
unfolding read_frame
read_three a b c r h l p = simp (lt-ltb a 128 h, le-ltb b 128 l, le-ltb (b / 4 % 2) 1 p)

-- the second byte's fields, without and with a frequency
two_back : (k n : ℕ) → k ≤ 15 → let b : ℕ = 128 + k * 8 + 0 + n / 8 % 2 in
    (128 ≤ b) × (b / 4 % 2 < 1) × (b / 2 % 2 < 1) × (b / 8 % 16 ≡ k) × (b % 2 ≡ n / 8 % 2)
two_back k n h = (omega arith, omega arith, omega arith, omega arith, omega arith)

three_back : (k q n : ℕ) → k ≤ 15 → let b : ℕ = 128 + k * 8 + (4 + q / 256 % 2 * 2) + n / 8 % 2 in
    (128 ≤ b) × (1 ≤ b / 4 % 2) × (b / 2 % 2 ≡ q / 256 % 2) × (b / 8 % 16 ≡ k) × (b % 2 ≡ n / 8 % 2)
three_back k q n h = (omega arith, omega arith, omega arith, omega arith, omega arith)

number_back : (x a n : ℕ) → n ≤ 15 → x ≡ n / 8 % 2 → a ≡ n % 8 → x * 8 + a ≡ n
number_back x a n h e d = omega arith

module _ (f : FrameBuilder) (h : FrameAdmitted f) (r : List ℕ) where
  first_low : first_byte f % 8 ≡ f.snippet_id % 8
  first_low = omega (arith, (gain_back f.gain).1, (timebase_back f.timebase).1)

  one_complete : f.frequency ≡ None → f.loop_count ≡ None → leb 8 f.snippet_id ≡ false → Starts r
      → read_frame (bytes_of f ++ r) ≡ parsed (canon f) r
  one_complete eq ek en s =
      let l : f.snippet_id < 8 = leb-false 8 f.snippet_id en in
      let m : leb 8 (f.snippet_id % 16) ≡ false = lt-leb 8 (f.snippet_id % 16) (omega arith) in
      simp (eq, ek, m)
      (read_one (first_byte f) r (first_small f) s
      ∙ ap (λ (g : FrameBuilder). parsed g r) (fields_back f _ _ _ (first_low ∙ omega arith) (simp (eq, ek, en)) (sym eq)))

  two_complete : (k : ℕ) → k ≤ 15 → f.frequency ≡ None → (loop_given f.loop_count || leb 8 (f.snippet_id % 16)) ≡ true → loops f.loop_count ≡ k
      → written (leb 8 f.snippet_id) f.loop_count ≡ Some k
      → read_frame (bytes_of f ++ r) ≡ parsed (canon f) r
  two_complete k hk eq es ek ew =
      let b = two_back k f.snippet_id hk in
      let e : bytes_of f ++ r ≡ first_byte f ∷ (128 + k * 8 + 0 + f.snippet_id / 8 % 2) ∷ r = simp (eq, es, ek) in
      ap read_frame e
      ∙ read_two (first_byte f) _ r (first_small f) b.0 b.1 b.2
      ∙ ap (λ (g : FrameBuilder). parsed g r)
      (fields_back f _ _ _ (number_back _ _ _ h.number_fits b.4 first_low) (ap Some b.3 ∙ sym ew ∙ simp eq) (sym eq))

  three_complete : (k q : ℕ) → k ≤ 15 → q ≤ 511 → f.frequency ≡ Some q → loops f.loop_count ≡ k
      → written true f.loop_count ≡ Some k
      → read_frame (bytes_of f ++ r) ≡ parsed (canon f) r
  three_complete k q hk hq eq ek ew =
      let b = three_back k q f.snippet_id hk in
      let e : bytes_of f ++ r ≡ first_byte f ∷ (128 + k * 8 + (4 + q / 256 % 2 * 2) + f.snippet_id / 8 % 2) ∷ q % 256 ∷ r = simp (eq, ek) in
      let d : q / 256 % 2 * 256 + q % 256 ≡ q = omega arith in
      ap read_frame e
      ∙ read_three (first_byte f) _ (q % 256) r (first_small f) b.0 b.1
      ∙ ap (λ (g : FrameBuilder). parsed g r)
      (fields_back f _ _ _ (number_back _ _ _ h.number_fits b.4 first_low) (ap Some b.3 ∙ sym ew ∙ simp eq)
      (ap Some (ap (λ (x : ℕ). x * 256 + q % 256) b.2 ∙ d) ∙ sym eq))

  pub complete : Starts r → read_frame (bytes_of f ++ r) ≡ parsed (canon f) r
  complete s = go f.loop_count f.frequency refl refl h.loop_fits h.frequency_fits where
    high : (t : Bool) → leb 8 f.snippet_id ≡ t → f.loop_count ≡ None → f.frequency ≡ None → read_frame (bytes_of f ++ r) ≡ parsed (canon f) r
    high false e ek eq = one_complete eq ek e s
    high true e ek eq =
        let l : 8 ≤ f.snippet_id = leb-true 8 f.snippet_id e in
        let m : leb 8 (f.snippet_id % 16) ≡ true = le-leb 8 (f.snippet_id % 16) (omega (arith, h.number_fits)) in
        two_complete 0 (omega arith) eq (simp (ek, m)) (simp ek) (simp (ek, e))

    go : (k : Option ℕ) (q : Option ℕ) → f.loop_count ≡ k → f.frequency ≡ q → LoopAdmitted f.loop_count → FrequencyAdmitted f.frequency
        → read_frame (bytes_of f ++ r) ≡ parsed (canon f) r
    go None None ek eq hk hq = high (leb 8 f.snippet_id) refl ek eq
    go (Some k) None ek eq hk hq =
        let hk' : k ≤ 15 = rw ek at hk in
        let m : k % 16 ≡ k = omega arith in
        two_complete k hk' eq (simp ek) (simp ek m) (simp ek)
    go None (Some q) ek eq hk hq =
        three_complete 0 q (omega arith) (rw eq at hq) eq (simp ek) (simp ek)
    go (Some k) (Some q) ek eq hk hq =
        let hk' : k ≤ 15 = rw ek at hk in
        let m : k % 16 ≡ k = omega arith in
        three_complete k q hk' (rw eq at hq) eq (simp ek m) (simp ek)
