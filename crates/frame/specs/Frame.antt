-- The bytes of a frame: document 01, 'Points, frames, sequences'.
-- A builder's fields can hold any number of their types: of a snippet's number and a loop count the low four bits count, of a frequency
-- the low nine.
use Rattle.std.specs.Prelude.{ℕ, ◌+◌, ◌*◌, ◌/◌, ◌%◌, Bool, true, false, cond, ◌||◌, List, [], ◌∷◌, ◌++◌, leb, length, take, replicate, Option, Some, None}
use Rattle.frame.specs.declared.Gain.{Gain}
use Rattle.frame.specs.declared.Gain.TheVariants.{Full, Half, Quarter, Eighth}
use Rattle.frame.specs.declared.Timebase.{Timebase}
use Rattle.frame.specs.declared.Timebase.TheVariants.{Ms5_44, Ms21_76, Ms43_52, Ms87_04}
use Rattle.frame.specs.declared.FrameBuilder.{FrameBuilder}
use Rattle.frame.specs.declared.Frame.{Frame}

-- ---- codes

-- full, a half, a quarter, an eighth
abbrev pub gain_code : Gain → ℕ
gain_code Full = 0
gain_code Half = 1
gain_code Quarter = 2
gain_code Eighth = 3

-- 5.44, 21.76, 43.52, 87.04 ms
abbrev pub timebase_code : Timebase → ℕ
timebase_code Ms5_44 = 0
timebase_code Ms21_76 = 1
timebase_code Ms43_52 = 2
timebase_code Ms87_04 = 3

-- what is said where a setting is absent, and where it is given
abbrev pub on_given {ℓ} : {A : Type 0} {B : Type ℓ} → Option A → B → (A → B) → B
on_given None absent given = absent
on_given (Some a) absent given = given a

-- ---- the bytes

-- bit 7 clear, gain code in bits 6..5, timebase code in 4..3, low three bits of the snippet number in 2..0
abbrev pub first_byte : FrameBuilder → ℕ
first_byte b = gain_code b.gain * 32 + timebase_code b.timebase * 8 + b.snippet_id % 8

-- bit 7 set, loop count (0 if absent) in bits 6..3, frequency-present in 2, frequency bit 8 in 1, snippet number bit 3 in 0
abbrev pub second_byte : FrameBuilder → ℕ
second_byte b =
    128 + on_given b.loop_count 0 (λ k. k % 16) * 8 + on_given b.frequency 0 (λ f. 4 + f / 256 % 2 * 2) + b.snippet_id / 8 % 2

-- a second byte follows if the number is 8 or more, or a loop count or a frequency was given
abbrev pub has_second : FrameBuilder → Bool
has_second b = on_given b.frequency false (λ _. true) || on_given b.loop_count false (λ _. true) || leb 8 (b.snippet_id % 16)

-- one to three bytes: the third is the low eight bits of a frequency
abbrev pub bytes_of : FrameBuilder → List ℕ
bytes_of b = first_byte b ∷ cond (has_second b) (second_byte b ∷ on_given b.frequency [] (λ f. f % 256 ∷ [])) []

-- ---- a built frame

-- the bytes that a frame shows: the first len, three at most
abbrev pub frame_bytes : Frame → List ℕ
frame_bytes f = take f.len f.bytes

-- three bytes, zeros after the frame's own
abbrev pub built_frame : FrameBuilder → Frame
built_frame b = record { bytes = take 3 (bytes_of b ++ replicate 3 0); len = length (bytes_of b) }
