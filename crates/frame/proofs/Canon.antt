-- A frame as it is read back; frames agree exactly when they are the same read back.
-- Assumes nothing.
use mathlib.Core.Path.{◌≡◌, ap}
use Rattle.frame.specs.declared.FrameBuilder.{FrameBuilder}
use Rattle.frame.specs.Agreement.{loop_meant, Agree}
use Rattle.frame.specs.Builder.{frame_with}

-- a frame as it is read back
unfoldable pub canon : FrameBuilder → FrameBuilder
canon f = frame_with f.snippet_id f.gain f.timebase (loop_meant f) f.frequency

pub canon_agree : (f g : FrameBuilder) → canon f ≡ canon g → Agree f g
unfolding canon
canon_agree f g e =
    record {
      gains = ap (λ (h : FrameBuilder). h.gain) e;
      timebases = ap (λ (h : FrameBuilder). h.timebase) e;
      numbers = ap (λ (h : FrameBuilder). h.snippet_id) e;
      frequencies = ap (λ (h : FrameBuilder). h.frequency) e;
      loop_counts = ap (λ (h : FrameBuilder). h.loop_count) e;
    }

pub agree_canon : (f g : FrameBuilder) → Agree f g → canon f ≡ canon g
unfolding canon
agree_canon f g a = λ i. frame_with (a.numbers i) (a.gains i) (a.timebases i) (a.loop_counts i) (a.frequencies i)
