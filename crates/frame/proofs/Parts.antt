-- Names for the parts of a frame's bytes that the proofs speak of.
use Rattle.std.specs.Prelude.{Option, Some, None}
use Prim.Native.Nat.{ℕ, ◌+◌, ◌*◌, ◌/◌, ◌%◌, ◌≤◌}
use mathlib.Core.Bool.{Bool, true, false, cond}
use mathlib.Core.List.{List, [], ◌∷◌}
use lib.Dec.{leb}
use Rattle.frame.specs.Frame.{on_given}

abbrev pub loops : Option ℕ → ℕ
loops k = on_given k 0 (λ n. n % 16)

abbrev pub loop_given : Option ℕ → Bool
loop_given k = on_given k false (λ _. true)

abbrev pub frequency_bits : Option ℕ → ℕ
frequency_bits q = on_given q 0 (λ f. 4 + f / 256 % 2 * 2)

abbrev pub third_byte : Option ℕ → List ℕ
third_byte q = on_given q [] (λ f. f % 256 ∷ [])

abbrev pub loop_byte : Option ℕ → ℕ
loop_byte k = on_given k 255 (λ n. n)

abbrev pub frequency_word : Option ℕ → ℕ
frequency_word q = on_given q 65535 (λ f. f)

abbrev pub LoopAdmitted : Option ℕ → Type 0
LoopAdmitted k = on_given k Unit (λ n. n ≤ 15)

abbrev pub FrequencyAdmitted : Option ℕ → Type 0
FrequencyAdmitted q = on_given q Unit (λ f. f ≤ 511)

-- whether an absent loop count equals 0, and the loop count that stands in the bytes
abbrev pub absent_is_zero : ℕ → Option ℕ → Bool
absent_is_zero n q = on_given q (leb 8 n) (λ _. true)

abbrev pub written : Bool → Option ℕ → Option ℕ
written zero? k = on_given k (cond zero? (Some 0) None) Some
