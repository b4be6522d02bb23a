-- Sequences and their builder: document 01, 'Points, frames, sequences' and 'Who can cause which answer'.
-- A length can be any byte: it is kept as it is, and 96 bytes at most are shown. The length alone says whether there is anything to build.
use Rattle.std.specs.Prelude.{ℕ, ◌+◌, cond, List, ltb, leb, length, take, replicate}
use Rattle.errors.specs.Told.{Handed, accepted, refused, Built, built}
use Rattle.laws.specs.Copied.{over}
use Rattle.frame.specs.declared.Frame.{Frame}
use Rattle.frame.specs.Frame.{frame_bytes}
use Rattle.sequence.specs.declared.Sequence.{Sequence}
use Rattle.sequence.specs.declared.SequenceBuilder.{SequenceBuilder}

-- the bytes of a sequence's frames, in order: the first len, 96 at most
abbrev pub sequence_bytes : Sequence → List ℕ
sequence_bytes s = take s.len s.«data»

-- a builder of its bytes, their number and that of the frames
abbrev pub sequence_with : List ℕ → ℕ → ℕ → SequenceBuilder
sequence_with bytes n frames = record { «data» = bytes; len = n; frame_count = frames }

-- a builder that holds nothing
abbrev pub new_sequence : SequenceBuilder
new_sequence = sequence_with (replicate 96 0) 0 0

-- a frame more behind the others: 8 if the sequence would be more than 96 bytes, then 7 if it is a 33rd frame
abbrev pub with_frame : SequenceBuilder → Frame → Handed SequenceBuilder
with_frame b f =
    cond (ltb 96 (b.len + length (frame_bytes f))) (refused 8 b)
    (cond (leb 32 b.frame_count) (refused 7 b)
    (accepted (sequence_with (over b.«data» b.len (frame_bytes f)) (b.len + length (frame_bytes f)) (b.frame_count + 1))))

-- what stands in the answer where no sequence was built
abbrev pub no_sequence : Sequence
no_sequence = record { «data» = new_sequence.«data»; len = 0 }

-- the sequence of the builder's bytes, or 10 where there is none
abbrev pub built_sequence : SequenceBuilder → Built Sequence SequenceBuilder
built_sequence b = cond (ltb b.len 1) (built 10 no_sequence b) (built 0 (record { «data» = b.«data»; len = b.len }) b)
