-- Those that are left, with those before, are all.
use Rattle.std.proofs.Common.{◌≡◌, ◌+◌, length}
use Rattle.reader.specs.Walk.{frames_left}
use Rattle.readings.specs.InPlace.{those, frames_in}
use Rattle.page.proofs.frames.Given as goal

abbrev pub invariant-loop-frame : goal.invariant-loop-frame
invariant-loop-frame l = l.frames + length (those (frames_left l.frame-iterator)) ≡ length (frames_in l.bytes)
