-- The first i frames, then zeros.
use Rattle.std.proofs.Common.{◌≡◌, take}
use Rattle.reader.specs.Reading.{padded}
use Rattle.readings.specs.Lists.{words_bytes}
use Rattle.readings.proofs.frame_bytes.Given as goal

abbrev pub invariant-loop-i : goal.invariant-loop-i
invariant-loop-i l = l.out ≡ padded 576 0 (words_bytes (take l.i l.frames))
