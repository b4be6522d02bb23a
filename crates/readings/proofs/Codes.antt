-- Names for the numbers that the proofs speak of.
use Prim.Native.Nat.{ℕ, ◌^◌}
use mathlib.Core.Option.{Option}
use Rattle.frame.specs.declared.FrameBuilder.{FrameBuilder}
use Rattle.frame.specs.Word.{frame_word}
use Rattle.content.specs.Content.{Point, byte_of}
use Rattle.content.specs.ReadImage.{on_option}

abbrev pub absent_point : ℕ
absent_point = 256

abbrev pub point_code : Option Point → ℕ
point_code o = on_option o absent_point byte_of

-- a point by its byte
abbrev pub byte_code : Option ℕ → ℕ
byte_code o = on_option o absent_point (λ b. b)

abbrev pub absent_frame : ℕ
absent_frame = 2 ^ 48

abbrev pub frame_code : Option FrameBuilder → ℕ
frame_code o = on_option o absent_frame frame_word
