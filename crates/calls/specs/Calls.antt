-- Builder calls as bytes, and calls on one snippet, one frame and one sequence under construction: document 01, 'The hundred bytes',
-- second paragraph, "Each call gets what the last handed back".
use Rattle.std.specs.Prelude.{ℕ, ◌+◌, ◌*◌, cond, List, [], ◌∷◌, ltb, length, get_or, Option, Some, None}
use Rattle.errors.specs.Told.{Told, gives, refuses, on_told, told_number, Handed, handed, accepted, refused}
use Rattle.snippet.specs.declared.SnippetBuilder.{SnippetBuilder}
use Rattle.snippet.specs.Snippet.{pwl_byte, new_snippet}
use Rattle.frame.specs.declared.FrameBuilder.{FrameBuilder}
use Rattle.frame.specs.Frame.{built_frame}
use Rattle.frame.specs.Read.{gain_at, timebase_at}
use Rattle.sequence.specs.declared.SequenceBuilder.{SequenceBuilder}
use Rattle.sequence.specs.Sequence.{new_sequence, with_frame}
use Rattle.pattern.specs.Calls.{ramp, step, point, snippet_step, FrameCall, gain, timebase, loop_count, frequency_hz, frame_step, new, silence, begun_by}
use Rattle.calls.specs.Said.{BuilderCall, Call, Record}
use Rattle.calls.specs.Said as Call
use Rattle.calls.specs.declared.Builders.{Builders}
use Rattle.calls.specs.declared.Call as enum
use Rattle.calls.specs.declared.Call.TheVariants as code

-- ---- calls as bytes

-- a choice of four by its code; a code above 3 says none
abbrev pub chosen : FrameCall → ℕ → Call
chosen k code = cond (ltb 3 code) Call.unknown (Call.builder (Call.on_frame k))

-- the calls by their codes, of which 0 says none; a and b are the two bytes that follow the code
abbrev pub calls_by_code : ℕ → ℕ → List Call
calls_by_code a b =
    Call.unknown
    -- 1 to 4: the snippet
    ∷ Call.builder Call.snippet_new ∷ Call.builder (Call.on_snippet (ramp a b)) ∷ Call.builder (Call.on_snippet (step a b)) ∷ Call.builder (Call.on_snippet (point a))
    -- 5 to 10: the frame
    ∷ Call.builder (Call.begin_frame (new a)) ∷ Call.builder (Call.begin_frame silence) ∷ chosen (gain (gain_at a)) a ∷ chosen (timebase (timebase_at a)) a
    ∷ Call.builder (Call.on_frame (loop_count a)) ∷ Call.builder (Call.on_frame (frequency_hz (a + b * 256)))
    -- 11 and 12: the sequence; 13 and 14: the memory
    ∷ Call.builder Call.sequence_new ∷ Call.builder Call.add_frame ∷ Call.add_snippet ∷ Call.add_sequence ∷ []

abbrev pub record_of : ℕ → ℕ → ℕ → Record
record_of code a b = record { code = code; a = a; b = b }

-- any other code says none
abbrev pub call_of : Record → Call
call_of r = get_or (calls_by_code r.a r.b) r.code Call.unknown

-- the first record of four bytes, the last of which says nothing; a shorter one counts as one of zeros, which says no call
abbrev pub first_record : List ℕ → Record
first_record l = cond (ltb (length l) 4) (record_of 0 0 0) (record_of (get_or l 0 0) (get_or l 1 0) (get_or l 2 0))

-- the call that the code's enum says
abbrev pub said : enum.Call → Call
said code.NewSnippet = Call.builder Call.snippet_new
said (code.Ramp t a) = Call.builder (Call.on_snippet (ramp t a))
said (code.Step t a) = Call.builder (Call.on_snippet (step t a))
said (code.Point p) = Call.builder (Call.on_snippet (point (pwl_byte p)))
said (code.New n) = Call.builder (Call.begin_frame (new n))
said code.Silence = Call.builder (Call.begin_frame silence)
said (code.Gain g) = Call.builder (Call.on_frame (gain g))
said (code.Timebase t) = Call.builder (Call.on_frame (timebase t))
said (code.LoopCount k) = Call.builder (Call.on_frame (loop_count k))
said (code.FrequencyHz f) = Call.builder (Call.on_frame (frequency_hz f))
said code.NewSequence = Call.builder Call.sequence_new
said code.AddFrame = Call.builder Call.add_frame
said code.AddSnippet = Call.add_snippet
said code.AddSequence = Call.add_sequence
said code.Unknown = Call.unknown

-- a list of calls: records one after the other, a shorter last one among them
unfoldable pub calls_in : List ℕ → List Call
calls_in [] = []
calls_in (code ∷ []) = Call.unknown ∷ []
calls_in (code ∷ a ∷ []) = Call.unknown ∷ []
calls_in (code ∷ a ∷ b ∷ []) = Call.unknown ∷ []
calls_in (code ∷ a ∷ b ∷ last ∷ r) = call_of (record_of code a b) ∷ calls_in r

-- ---- one call on the three builders

abbrev pub builders : SnippetBuilder → Option FrameBuilder → SequenceBuilder → Builders
builders s f q = record { snippet = s; frame = f; sequence = q }

-- no frame is begun
abbrev pub started : Builders
started = builders new_snippet None new_sequence

-- the frame under construction: one that is not begun is refused with 3, as `new` of number 0 is
abbrev pub frame_begun : Option FrameBuilder → Told FrameBuilder
frame_begun None = refuses 3
frame_begun (Some f) = gives f

-- what `new` or `silence` leaves under construction: where it is refused, no frame
abbrev pub under_way : Told FrameBuilder → Option FrameBuilder
under_way t = on_told t Some (λ n. None)

-- a frame that was accepted is used up
abbrev pub uses : Builders → Handed SequenceBuilder → Handed Builders
uses b s = handed s.number (builders b.snippet (cond (ltb 0 s.number) b.frame None) s.builder)

-- the call's number, and the builders after it; a call on one of the three leaves the other two
abbrev pub called : Builders → BuilderCall → Handed Builders
called b Call.snippet_new = accepted (builders new_snippet b.frame b.sequence)
called b (Call.on_snippet k) =
    handed (snippet_step b.snippet k).number (builders (snippet_step b.snippet k).builder b.frame b.sequence)
called b (Call.begin_frame k) = handed (told_number (begun_by k)) (builders b.snippet (under_way (begun_by k)) b.sequence)
called b (Call.on_frame k) =
    on_told (frame_begun b.frame)
    (λ f. handed (frame_step f k).number (builders b.snippet (Some (frame_step f k).builder) b.sequence))
    (λ n. refused n b)
called b Call.sequence_new = accepted (builders b.snippet b.frame new_sequence)
called b Call.add_frame = on_told (frame_begun b.frame) (λ f. uses b (with_frame b.sequence (built_frame f))) (λ n. refused n b)

-- a call on a memory is none for these three; what is none is refused with 14, NotSupported
abbrev pub called_by : Builders → Call → Handed Builders
called_by b (Call.builder k) = called b k
called_by b Call.add_snippet = refused 14 b
called_by b Call.add_sequence = refused 14 b
called_by b Call.unknown = refused 14 b
