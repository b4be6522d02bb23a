-- A frame's fields by name, and as one number of 48 bits, the form in which they cross to C.
use Rattle.std.specs.Prelude.{ℕ, ◌+◌, ◌*◌, ◌^◌}
use Rattle.frame.specs.declared.FrameBuilder.{FrameBuilder}
use Rattle.frame.specs.declared.FrameFields.{FrameFields}
use Rattle.frame.specs.Frame.{gain_code, timebase_code, on_given}

abbrev pub fields_of : FrameBuilder → FrameFields
fields_of f = record { snippet_id = f.snippet_id; gain = f.gain; timebase = f.timebase; loop_count = f.loop_count; frequency_hz = f.frequency }

-- eight bits for each field and sixteen for the frequency; all of them set where a loop count or a frequency is absent
abbrev pub frame_word : FrameBuilder → ℕ
frame_word f =
    f.snippet_id + gain_code f.gain * 2 ^ 8 + timebase_code f.timebase * 2 ^ 16
    + on_given f.loop_count 255 (λ k. k) * 2 ^ 24 + on_given f.frequency 65535 (λ q. q) * 2 ^ 32
