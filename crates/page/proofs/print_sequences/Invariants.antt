-- The lines that are left, behind those before, give all of them; and they have room.
use Rattle.std.proofs.Common.{◌≡◌, ◌+◌, ◌*◌, ◌≤◌, drop, length, map}
use Rattle.laws.specs.Copied.{placed}
use Rattle.laws.specs.Lists.{joined}
use Rattle.readings.specs.InPlace.{items_at, frames_in}
use Rattle.page.specs.Lines.{frame_lines, numbered}
use Rattle.page.proofs.print_sequences.Given as goal

abbrev pub invariant-loop-i : goal.invariant-loop-i
invariant-loop-i l =
    (placed l.out (37 * l.above) (joined (joined (numbered frame_lines l.i (map frames_in (drop l.i (items_at l.image l.s l.q))))))
    ≡ placed l.fn.out (37 * l.s) (joined (joined (numbered frame_lines 0 (map frames_in (items_at l.image l.s l.q))))))
    × (37 * (l.above + length (joined (map frames_in (drop l.i (items_at l.image l.s l.q))))) ≤ length l.fn.out)
