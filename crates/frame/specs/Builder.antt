-- The calls on a frame's builder: document 01, 'Who can cause which answer' and "A frame's field is what the last accepted call that sets
-- it gave, else the Rust's default".
use Rattle.std.specs.Prelude.{ℕ, cond, ltb, Option, Some, None}
use Rattle.errors.specs.Told.{Told, gives, refuses, Handed, accepted, refused}
use Rattle.frame.specs.declared.Gain.{Gain}
use Rattle.frame.specs.declared.Gain.TheVariants.{Full}
use Rattle.frame.specs.declared.Timebase.{Timebase}
use Rattle.frame.specs.declared.Timebase.TheVariants.{Ms5_44}
use Rattle.frame.specs.declared.FrameBuilder.{FrameBuilder}

-- a frame of its five fields
abbrev pub frame_with : ℕ → Gain → Timebase → Option ℕ → Option ℕ → FrameBuilder
frame_with n g t k f = record { snippet_id = n; gain = g; timebase = t; loop_count = k; frequency = f }

-- the Rust's defaults: full gain, 5.44 ms, no loop count, no frequency
abbrev pub plain_frame : ℕ → FrameBuilder
plain_frame n = frame_with n Full Ms5_44 None None

-- "Number 0 is silence and comes from `silence` only"
abbrev pub silent_frame : FrameBuilder
silent_frame = plain_frame 0

-- 3 for a number that is 0 or above 15
abbrev pub new_frame : ℕ → Told FrameBuilder
new_frame n = cond (ltb n 1) (refuses 3) (cond (ltb 15 n) (refuses 3) (gives (plain_frame n)))

-- another gain, the rest as it was
abbrev pub with_gain : FrameBuilder → Gain → FrameBuilder
with_gain b g = frame_with b.snippet_id g b.timebase b.loop_count b.frequency

-- another timebase, the rest as it was
abbrev pub with_timebase : FrameBuilder → Timebase → FrameBuilder
with_timebase b t = frame_with b.snippet_id b.gain t b.loop_count b.frequency

-- 4 for a count above 15
abbrev pub with_loop_count : FrameBuilder → ℕ → Handed FrameBuilder
with_loop_count b k =
    cond (ltb 15 k) (refused 4 b) (accepted (frame_with b.snippet_id b.gain b.timebase (Some k) b.frequency))

-- 5 for a frequency above 511
abbrev pub with_frequency : FrameBuilder → ℕ → Handed FrameBuilder
with_frequency b f =
    cond (ltb 511 f) (refused 5 b) (accepted (frame_with b.snippet_id b.gain b.timebase b.loop_count (Some f)))
