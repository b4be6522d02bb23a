-- Which calls are accepted, in terms of what the calls before them added: document 01, 'The hundred bytes', "A call is accepted when the
-- answers above name no fault in it". A call's fault is the number of the first one named in it, and 0 where there is none; the numbers
-- are those of 'Who can cause which answer'.
use Rattle.std.specs.Prelude.{ℕ, ◌+◌, ◌≡◌, Bool, false, cond, ◌||◌, List, ltb, leb, length}
use Rattle.errors.specs.Told.{gives, refuses}
use Rattle.frame.specs.declared.FrameBuilder.{FrameBuilder}
use Rattle.frame.specs.Builder.{plain_frame}
use Rattle.frame.specs.Frame.{bytes_of}
use Rattle.snippet.specs.Snippet.{built_snippet}
use Rattle.sequence.specs.Sequence.{built_sequence}
use Rattle.content.specs.Content.{Point, Content, frames_bytes, size_of}
use Rattle.pattern.specs.Calls.{SnippetCall, ramp, step, point, snippet_step, snippet_from, points_from, FrameCall, gain, timebase, loop_count, frequency_hz, Begin, new, silence, begun_by, FrameCalls, frame_called, number_of, frame_from, sequence_step, sequence_from, frames_from, MemoryCall, add_snippet, add_sequence, memory_step, memory_from, content_from, built_from}

-- ---- a snippet that holds these points

-- "6 TooManySnippets, a 17th point"
abbrev pub point_fault : List Point → ℕ
point_fault ps = cond (leb 16 (length ps)) 6 0

-- "1 InvalidTimebase, length not 1..8. 2 InvalidAmplitude, above 15", "both before a full builder"
abbrev pub made_fault : List Point → ℕ → ℕ → ℕ
made_fault ps timebases amplitude = cond (ltb timebases 1 || ltb 8 timebases) 1 (cond (ltb 15 amplitude) 2 (point_fault ps))

abbrev pub snippet_fault : List Point → SnippetCall → ℕ
snippet_fault ps (ramp t a) = made_fault ps t a
snippet_fault ps (step t a) = made_fault ps t a
snippet_fault ps (point x) = point_fault ps

-- ---- a frame

-- "3 InvalidSnippetId, 0 or above 15 in `FrameBuilder::new`"
abbrev pub bad_begin : Begin → Bool
bad_begin (new n) = ltb n 1 || ltb 15 n
bad_begin silence = false

-- "4 InvalidLoopCount, above 15. 5 InvalidFrequency, above 511"
abbrev pub field_fault : FrameCall → ℕ
field_fault (gain g) = 0
field_fault (timebase t) = 0
field_fault (loop_count k) = cond (ltb 15 k) 4 0
field_fault (frequency_hz f) = cond (ltb 511 f) 5 0

-- ---- a sequence that holds these frames

-- "`add_frame` tests 96 bytes first, then 32 frames", of a frame that was begun
abbrev pub sequence_fault : List FrameBuilder → FrameCalls → ℕ
sequence_fault fs m =
    cond (bad_begin m.begin) 3
    (cond (ltb 96 (length (frames_bytes fs) + length (bytes_of (frame_from m)))) 8 (cond (leb 32 (length fs)) 7 0))

-- ---- a memory that holds this content

-- "a .. 16th snippet", "a .. 17th sequence", of an item that was built
abbrev pub memory_fault : Content → MemoryCall → ℕ
memory_fault c (add_snippet ks) = cond (ltb (length (points_from ks)) 1) 9 (cond (leb 15 (length c.snippets)) 6 0)
memory_fault c (add_sequence ms) = cond (ltb (length (frames_from ms)) 1) 10 (cond (leb 16 (length c.sequences)) 7 0)

-- ---- the claim: each call, after any calls, is answered by its fault

pub record Accepts : Type 0 where
  pub snippet : (ks : List SnippetCall) (k : SnippetCall) → (snippet_step (snippet_from ks) k).number ≡ snippet_fault (points_from ks) k
  -- "9 EmptySnippet and 10 EmptySequence, nothing to build from"
  pub snippet_build : (ks : List SnippetCall) → (built_snippet (snippet_from ks)).number ≡ cond (ltb (length (points_from ks)) 1) 9 0
  -- a begin without a fault gives the frame with its number and the Rust's defaults
  pub begin : (b : Begin) → begun_by b ≡ cond (bad_begin b) (refuses 3) (gives (plain_frame (number_of b)))
  -- on a frame that was not begun, the fault in its begin
  pub frame : (m : FrameCalls) (k : FrameCall) → frame_called m k ≡ cond (bad_begin m.begin) 3 (field_fault k)
  pub sequence : (ms : List FrameCalls) (m : FrameCalls) → (sequence_step (sequence_from ms) m).number ≡ sequence_fault (frames_from ms) m
  pub sequence_build : (ms : List FrameCalls) → (built_sequence (sequence_from ms)).number ≡ cond (ltb (length (frames_from ms)) 1) 10 0
  pub memory : (a : Bool) (ks : List MemoryCall) (k : MemoryCall)
      → (memory_step (memory_from a ks) k).number ≡ memory_fault (content_from a ks) k
  -- "`build` tests no snippets, no sequences, then the size 2 + s + q + data ≤ 100"
  pub memory_build : (a : Bool) (ks : List MemoryCall) → let c = content_from a ks in
      (built_from a ks).number ≡ cond (ltb (length c.snippets) 1) 9 (cond (ltb (length c.sequences) 1) 10 (cond (ltb 100 (size_of c)) 8 0))
