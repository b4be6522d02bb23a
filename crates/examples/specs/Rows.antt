-- The rows of document 01, 'Checked examples', that are marked P, all of them: what the definitions give, and what the paper says.
use Rattle.std.specs.Prelude.{ℕ, ◌≡◌, true, false, List, [], ◌∷◌, replicate, negsuc}
use Rattle.errors.specs.Told.{Told, gives, refuses, on_told, Built}
use Rattle.convert.specs.Convert.{voltage_byte, imax_code, v2i_word, period_word, high_part, low_part, override_byte}
use Rattle.convert.specs.Trim.{trim4_byte}
use Rattle.snippet.specs.Point.{point}
use Rattle.frame.specs.declared.Gain.TheVariants.{Half}
use Rattle.frame.specs.declared.Timebase.TheVariants.{Ms43_52}
use Rattle.frame.specs.Builder.{new_frame}
use Rattle.frame.specs.Frame.{frame_bytes, built_frame}
use Rattle.memory.specs.declared.WaveformMemory.{WaveformMemory}
use Rattle.memory.specs.declared.WaveformMemoryBuilder.{WaveformMemoryBuilder}
use Rattle.pattern.specs.Calls.{ran, answers_to, ramp, step, FrameCall, gain, timebase, loop_count, frequency_hz, frame_step, new, add_snippet, add_sequence, built_from}

-- a value of the definitions, and the paper's
infix 3 ◌is◌
pub data Example : Type 1 where
  ◌is◌ : {A : Type 0} → A → A → Example

-- every example holds
abbrev pub Hold : List Example → Type 0
Hold [] = Unit
Hold ((x is y) ∷ es) = (x ≡ y) × Hold es

-- what calls on the frame of a number are answered, and its bytes after them
abbrev pub framed : ℕ → List FrameCall → Told (List ℕ × List ℕ)
framed n ks = on_told (new_frame n) (λ f. gives (answers_to frame_step f ks, frame_bytes (built_frame (ran frame_step f ks)))) refuses

-- snippet AA 00 with sequence 01
abbrev pub smallest : Built WaveformMemory WaveformMemoryBuilder
smallest = built_from false (add_snippet (ramp 3 10 ∷ step 1 0 ∷ []) ∷ add_sequence (record { begin = new 1; calls = [] } ∷ []) ∷ [])

abbrev pub checked_examples : List Example
checked_examples =
    -- ramp(3,10) is AA; step(1,0) is 00; ramp(8,15) is FF. Length 0 and 9: 1.
    (point true 3 10 is gives 0xAA) ∷ (point false 1 0 is gives 0x00) ∷ (point true 8 15 is gives 0xFF)
    ∷ (point true 0 15 is refuses 1) ∷ (point false 9 15 is refuses 1)
    -- snippet 9 is 01 81, also with loop count 0; snippet 1 is 01, with loop count 0 it is 01 80.
    ∷ (framed 9 [] is gives ([], 0x01 ∷ 0x81 ∷ [])) ∷ (framed 9 (loop_count 0 ∷ []) is gives (0 ∷ [], 0x01 ∷ 0x81 ∷ []))
    ∷ (framed 1 [] is gives ([], 0x01 ∷ [])) ∷ (framed 1 (loop_count 0 ∷ []) is gives (0 ∷ [], 0x01 ∷ 0x80 ∷ []))
    -- snippet 3, half gain, Ms43_52, loop 2, 300 Hz: 33 96 2C. 511 passes, 512: 5.
    ∷ (framed 3 (gain Half ∷ timebase Ms43_52 ∷ loop_count 2 ∷ frequency_hz 300 ∷ []) is gives (0 ∷ 0 ∷ 0 ∷ 0 ∷ [], 0x33 ∷ 0x96 ∷ 0x2C ∷ []))
    ∷ (framed 3 (frequency_hz 511 ∷ frequency_hz 512 ∷ []) is gives (0 ∷ 5 ∷ [], 0x03 ∷ 0x86 ∷ 0xFF ∷ []))
    -- snippet AA 00 with sequence 01: image 01 01 05 06 AA 00 01 and 93 zeros.
    ∷ (smallest.number is 0)
    ∷ (smallest.item.«data» is (0x01 ∷ 0x01 ∷ 0x05 ∷ 0x06 ∷ 0xAA ∷ 0x00 ∷ 0x01 ∷ replicate 93 0))
    -- 5990 mV gives 255, 2500 gives 106; 29 mA gives 0, 252 gives 31, 165 gives 18.
    ∷ (voltage_byte 5990 is 255) ∷ (voltage_byte 2500 is 106) ∷ (imax_code 29 is 0) ∷ (imax_code 252 is 31) ∷ (imax_code 165 is 18)
    -- 8000 mOhm at IMAX 18: V2I 109. 170 Hz: word 4411, parts 34 and 59.
    ∷ (v2i_word 8000 18 is 109)
    ∷ (period_word 170 is 4411) ∷ (high_part (period_word 170) is 34) ∷ (low_part (period_word 170) is 59)
    -- override −1 sends FF, −128 sends 80; negsuc n is −n − 1. 8 ohms, 50 µH: TRIM4 02.
    ∷ (override_byte (negsuc 0) is 0xFF) ∷ (override_byte (negsuc 127) is 0x80) ∷ (trim4_byte 8000 50 is 0x02) ∷ []
