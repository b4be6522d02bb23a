-- A built frame shows the bytes of its fields, three at most.
-- Assumes nothing.
use Rattle.std.specs.Prelude.{Option, Some, None}
use mathlib.Core.Path.{◌≡◌, refl}
use mathlib.Core.Bool.{Bool, true, false, cond}
use mathlib.Core.List.{List, [], ◌∷◌, ◌++◌}
use Prim.Native.Nat.{ℕ, ◌%◌, ◌≤◌}
use native.Mathlib.Omega.{arith}
use lib.ListN.{length, take, replicate}
use Rattle.frame.specs.declared.FrameBuilder.{FrameBuilder}
use Rattle.frame.specs.Frame.{on_given, first_byte, second_byte, has_second, bytes_of, frame_bytes, built_frame}
use Rattle.frame.proofs.Parts.{third_byte}

third_short : (a b : ℕ) (q : Option ℕ) → take (length (a ∷ b ∷ third_byte q)) (take 3 ((a ∷ b ∷ third_byte q) ++ replicate 3 0)) ≡ a ∷ b ∷ third_byte q
third_short a b None = refl
third_short a b (Some f) = refl

pub built_bytes : (b : FrameBuilder) → frame_bytes (built_frame b) ≡ bytes_of b
built_bytes b = go (has_second b) where
  go : (t : Bool) → take (length (first_byte b ∷ cond t (second_byte b ∷ third_byte b.frequency) [])) (take 3 ((first_byte b ∷ cond t (second_byte b ∷ third_byte b.frequency) []) ++ replicate 3 0))
      ≡ first_byte b ∷ cond t (second_byte b ∷ third_byte b.frequency) []
  go true = third_short (first_byte b) (second_byte b) b.frequency
  go false = refl

third_few : (o : Option ℕ) → length (on_given o [] (λ f. f % 256 ∷ [])) ≤ 1
third_few None = omega arith
third_few (Some f) = omega arith

second_few : (b : Bool) (x : ℕ) (t : List ℕ) → length t ≤ 1 → length (cond b (x ∷ t) []) ≤ 2
second_few true x t h = omega arith
second_few false x t h = omega arith

pub few_bytes : (f : FrameBuilder) → length (bytes_of f) ≤ 3
few_bytes f = omega (arith, second_few (has_second f) (second_byte f) (on_given f.frequency [] (λ n. n % 256 ∷ [])) (third_few f.frequency))
