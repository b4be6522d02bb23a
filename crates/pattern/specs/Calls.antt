-- Lists of builder calls, and what they hold: document 01, 'The hundred bytes', second paragraph. Each snippet, frame, sequence and image
-- comes from a list of calls on one builder of its kind, begun with a new one, and finished items are passed on as built.
use Rattle.std.specs.Prelude.{ℕ, ◌%◌, Option, Some, None, Bool, true, false, cond, List, [], ◌∷◌, ltb}
use Rattle.laws.specs.Lists.{joined}
use Rattle.errors.specs.Told.{Told, gives, on_told, Handed, refused, Built}
use Rattle.snippet.specs.declared.SnippetBuilder.{SnippetBuilder}
use Rattle.snippet.specs.Point as made
use Rattle.snippet.specs.Snippet.{new_snippet, with_made, built_snippet}
use Rattle.frame.specs.declared.Gain.{Gain}
use Rattle.frame.specs.declared.Gain.TheVariants.{Full}
use Rattle.frame.specs.declared.Timebase.{Timebase}
use Rattle.frame.specs.declared.Timebase.TheVariants.{Ms5_44}
use Rattle.frame.specs.declared.FrameBuilder.{FrameBuilder}
use Rattle.frame.specs.Builder.{frame_with, silent_frame, new_frame, with_gain, with_timebase, with_loop_count, with_frequency}
use Rattle.frame.specs.Frame.{on_given, built_frame}
use Rattle.sequence.specs.declared.SequenceBuilder.{SequenceBuilder}
use Rattle.sequence.specs.Sequence.{new_sequence, with_frame, built_sequence}
use Rattle.memory.specs.declared.WaveformMemory.{WaveformMemory}
use Rattle.memory.specs.declared.WaveformMemoryBuilder.{WaveformMemoryBuilder}
use Rattle.memory.specs.Memory.{new_memory, with_snippet, with_sequence, built_memory}
use Rattle.content.specs.Content.{Point, Content}
use Rattle.content.specs.ReadImage.{point_in}

-- ---- any builder B with calls K, each of which adds an X when it is accepted

module _ {B K : Type 0} (step : B → K → Handed B) where
  -- "Each call gets what the last handed back"
  abbrev pub ran : B → List K → B
  ran b [] = b
  ran b (k ∷ ks) = ran (step b k).builder ks

  -- the answer to each call: 0 where it is accepted, else the number of its refusal
  abbrev pub answers_to : B → List K → List ℕ
  answers_to b [] = []
  answers_to b (k ∷ ks) = (step b k).number ∷ answers_to (step b k).builder ks

module _ {B K X : Type 0} (step : B → K → Handed B) (adds : K → X) where
  -- "An item holds what its accepted calls added, in order; a refused call adds nothing"
  abbrev pub held : B → List K → List X
  held b [] = []
  held b (k ∷ ks) = cond (ltb 0 (step b k).number) (held (step b k).builder ks) (adds k ∷ held (step b k).builder ks)

-- ---- a snippet

pub data SnippetCall : Type 0 where
  ramp : ℕ → ℕ → SnippetCall
  step : ℕ → ℕ → SnippetCall
  -- a point that was made before, by its byte (the low eight bits count)
  point : ℕ → SnippetCall

-- the byte that it asks for
abbrev pub made_by : SnippetCall → Told ℕ
made_by (ramp t a) = made.point true t a
made_by (step t a) = made.point false t a
made_by (point x) = gives (x % 256)

abbrev pub snippet_step : SnippetBuilder → SnippetCall → Handed SnippetBuilder
snippet_step b k = with_made b (made_by k)

abbrev pub added_point : SnippetCall → Point
added_point (ramp t a) = record { ramp = true; timebases = t; amplitude = a }
added_point (step t a) = record { ramp = false; timebases = t; amplitude = a }
added_point (point x) = point_in (x % 256)

abbrev pub snippet_from : List SnippetCall → SnippetBuilder
snippet_from ks = ran snippet_step new_snippet ks

abbrev pub points_from : List SnippetCall → List Point
points_from ks = held snippet_step added_point new_snippet ks

-- ---- a frame

pub data FrameCall : Type 0 where
  gain : Gain → FrameCall
  timebase : Timebase → FrameCall
  loop_count : ℕ → FrameCall
  frequency_hz : ℕ → FrameCall

abbrev pub frame_step : FrameBuilder → FrameCall → Handed FrameBuilder
frame_step b (gain g) = record { number = 0; builder = with_gain b g }
frame_step b (timebase t) = record { number = 0; builder = with_timebase b t }
frame_step b (loop_count k) = with_loop_count b k
frame_step b (frequency_hz f) = with_frequency b f

-- begun by `new` or `silence`
pub data Begin : Type 0 where
  new : ℕ → Begin
  silence : Begin

abbrev pub begun_by : Begin → Told FrameBuilder
begun_by (new n) = new_frame n
begun_by silence = gives silent_frame

pub record FrameCalls : Type 0 where
  pub begin : Begin
  pub calls : List FrameCall

-- the answer to a call on a frame: where `new` was refused, that refusal
abbrev pub frame_called : FrameCalls → FrameCall → ℕ
frame_called m k = on_told (begun_by m.begin) (λ f. (frame_step (ran frame_step f m.calls) k).number) (λ n. n)

-- "A frame's field is what the last accepted call that sets it gave, else the Rust's default"
abbrev pub number_of : Begin → ℕ
number_of (new n) = n
number_of silence = 0

-- what a call sets: gain, timebase, loop count (accepted up to 15), frequency (accepted up to 511)
abbrev pub sets : FrameCall → Option Gain × Option Timebase × Option (Option ℕ) × Option (Option ℕ)
sets (gain g) = (Some g, None, None, None)
sets (timebase t) = (None, Some t, None, None)
sets (loop_count k) = (None, None, cond (ltb 15 k) None (Some (Some k)), None)
sets (frequency_hz f) = (None, None, None, cond (ltb 511 f) None (Some (Some f)))

-- the last that the calls set in one field, else the default
abbrev pub last_set : {A : Type 0} → (FrameCall → Option A) → A → List FrameCall → A
last_set field a [] = a
last_set field a (k ∷ ks) = last_set field (on_given (field k) a (λ x. x)) ks

abbrev pub frame_from : FrameCalls → FrameBuilder
frame_from m =
    frame_with (number_of m.begin) (last_set (λ k. (sets k).0) Full m.calls) (last_set (λ k. (sets k).1) Ms5_44 m.calls)
    (last_set (λ k. (sets k).2) None m.calls) (last_set (λ k. (sets k).3) None m.calls)

-- ---- a sequence: each call adds the frame that its own calls make; where `new` was refused there is no frame to add

abbrev pub sequence_step : SequenceBuilder → FrameCalls → Handed SequenceBuilder
sequence_step b m = on_told (begun_by m.begin) (λ f. with_frame b (built_frame (ran frame_step f m.calls))) (λ n. refused n b)

abbrev pub sequence_from : List FrameCalls → SequenceBuilder
sequence_from ms = ran sequence_step new_sequence ms

abbrev pub frames_from : List FrameCalls → List FrameBuilder
frames_from ms = held sequence_step frame_from new_sequence ms

-- ---- an image: each call adds the item that its own calls build; where `build` refuses there is no item to add

pub data MemoryCall : Type 0 where
  add_snippet : List SnippetCall → MemoryCall
  add_sequence : List FrameCalls → MemoryCall

abbrev pub with_built : {B I S : Type 0} → (B → I → Handed B) → B → Built I S → Handed B
with_built add b r = cond (ltb 0 r.number) (refused r.number b) (add b r.item)

abbrev pub memory_step : WaveformMemoryBuilder → MemoryCall → Handed WaveformMemoryBuilder
memory_step b (add_snippet ks) = with_built with_snippet b (built_snippet (snippet_from ks))
memory_step b (add_sequence ms) = with_built with_sequence b (built_sequence (sequence_from ms))

abbrev pub added_snippets : MemoryCall → List (List Point)
added_snippets (add_snippet ks) = points_from ks ∷ []
added_snippets (add_sequence ms) = []

abbrev pub added_sequences : MemoryCall → List (List FrameBuilder)
added_sequences (add_snippet ks) = []
added_sequences (add_sequence ms) = frames_from ms ∷ []

-- the memory builder after the calls, begun with either acceleration flag, and the content that they added
abbrev pub memory_from : Bool → List MemoryCall → WaveformMemoryBuilder
memory_from acceleration ks = ran memory_step (new_memory acceleration) ks

abbrev pub content_from : Bool → List MemoryCall → Content
content_from acceleration ks =
    let b = new_memory acceleration in
    record { snippets = joined (held memory_step added_snippets b ks); sequences = joined (held memory_step added_sequences b ks) }

-- what building then answers
abbrev pub built_from : Bool → List MemoryCall → Built WaveformMemory WaveformMemoryBuilder
built_from acceleration ks = built_memory (memory_from acceleration ks)
