-- The lines that are left, behind those before, give all of them.
use Rattle.std.proofs.Common.{◌≡◌, ◌+◌, ◌*◌, length, map}
use Rattle.laws.specs.Copied.{placed}
use Rattle.laws.specs.Lists.{joined}
use Rattle.frame.specs.Frame.{bytes_of}
use Rattle.reader.specs.Walk.{frames_left}
use Rattle.readings.specs.InPlace.{those, frames_in}
use Rattle.page.specs.Lines.{frame_line, frame_lines, numbered}
use Rattle.page.proofs.print_frames.Given as goal

abbrev pub invariant-loop-frame : goal.invariant-loop-frame
invariant-loop-frame l =
    (placed l.out (37 * (l.above + l.j)) (joined (numbered (frame_line l.sequence) (l.j + 1) (map bytes_of (those (frames_left l.frame-iterator)))))
    ≡ placed l.fn.out (37 * l.above) (joined (frame_lines l.sequence (frames_in l.bytes))))
    × (l.j + length (those (frames_left l.frame-iterator)) ≡ length (frames_in l.bytes))
