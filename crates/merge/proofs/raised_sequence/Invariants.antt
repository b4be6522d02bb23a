-- The frames that are left, laid behind those before, give all of them; and they have room.
use Rattle.std.proofs.Common.{◌≡◌, ◌+◌, map, length}
use Rattle.laws.specs.Bytes.{All}
use Rattle.laws.specs.Copied.{placed}
use Rattle.content.specs.Content.{frames_bytes}
use Rattle.reader.specs.Walk.{frames_left}
use Rattle.readings.specs.InPlace.{those}
use Rattle.merge.specs.Merged.{raised}
use Rattle.merge.specs.InPlace.{Raisable, raised_bytes}
use Rattle.merge.proofs.raised_sequence.Given as goal

abbrev pub invariant-loop-frame : goal.invariant-loop-frame
invariant-loop-frame l =
    (placed l.out l.len (frames_bytes (map (raised l.count) (those (frames_left l.frame-iterator)))) ≡ placed l.initial.out 0 (raised_bytes l.count l.bytes))
    × (l.len + length (frames_bytes (map (raised l.count) (those (frames_left l.frame-iterator)))) ≡ length (raised_bytes l.count l.bytes))
    × All (Raisable l.count) (those (frames_left l.frame-iterator))
