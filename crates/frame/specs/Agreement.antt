-- When two frames agree, in the words of demand 3, and which frames the builders admit (document 01, 'The hundred bytes'); a frame is
-- told by its builder's fields. Admitted frames agree exactly when their bytes are the same: proofs/Frames.antt.
use Rattle.std.specs.Prelude.{ℕ, ◌≤◌, ◌≡◌, true, cond, leb, Option, Some, None}
use Rattle.frame.specs.declared.FrameBuilder.{FrameBuilder}
use Rattle.frame.specs.Frame.{on_given}

-- "an absent loop count equals 0 if the snippet number is 8 or more or a frequency is given"
abbrev pub loop_meant : FrameBuilder → Option ℕ
loop_meant f =
    on_given f.loop_count (cond (on_given f.frequency (leb 8 f.snippet_id) (λ _. true)) (Some 0) None) Some

-- "Frames agree when gain, timebase, snippet number, frequency (or its absence) and loop count agree"
pub record Agree (a b : FrameBuilder) : Type 0 where
  pub gains : a.gain ≡ b.gain
  pub timebases : a.timebase ≡ b.timebase
  pub numbers : a.snippet_id ≡ b.snippet_id
  pub frequencies : a.frequency ≡ b.frequency
  pub loop_counts : loop_meant a ≡ loop_meant b

-- "number 0 (silence) to 15, loop count 0..15 or absent, frequency 0..511 or absent"; gain and timebase codes are 0..3 by their types
pub record FrameAdmitted (b : FrameBuilder) : Type 0 where
  pub number_fits : b.snippet_id ≤ 15
  pub loop_fits : on_given b.loop_count Unit (λ k. k ≤ 15)
  pub frequency_fits : on_given b.frequency Unit (λ f. f ≤ 511)
