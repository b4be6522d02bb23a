-- Adding those that are left gives what adding all gives.
use Rattle.std.proofs.Common.{◌≡◌}
use Rattle.reader.specs.Walk.{frames_from, frames_left}
use Rattle.reader.proofs.Running.{pushes}
use Rattle.reader.proofs.Frames.push_frames.Given as goal

abbrev pub invariant-loop-frame : goal.invariant-loop-frame
invariant-loop-frame l = pushes (frames_left l.frame-iterator) l.self ≡ pushes (frames_from 32 l.bytes) l.fn.self
