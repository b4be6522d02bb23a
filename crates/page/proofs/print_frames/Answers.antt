-- A line more.
use Rattle.std.proofs.Common.{◌+◌, ◌*◌, ◌∙◌, ap, arith, map, length, ◌∷◌}
use Rattle.laws.specs.Copied.{placed}
use Rattle.laws.specs.Lists.{joined}
use Rattle.frame.specs.Frame.{bytes_of}
use Rattle.reader.specs.Walk.{frames_left}
use Rattle.readings.specs.InPlace.{those}
use Rattle.page.specs.Lines.{frame_line, numbered}
use Rattle.page.proofs.Numbered.{line_more}
use Rattle.page.proofs.Wide.{frame_wide}
use Rattle.page.proofs.print_frames.Goals as goal

pub loop-frame-preserved-in-Ok : goal.loop-frame-preserved-in-Ok
loop-frame-preserved-in-Ok c =
    let f = frame_line c.args.sequence in
    let j = c.loop-frame.j in
    let at = c.args.above + j in
    let left = frames_left c.next.new.self in
    let step = ap those (c.in-Some.ensures.steps ∙ ap (λ x. x ∷ left) c.in-Ok.is) in (
      ap (λ o. placed o (37 * (c.args.above + (j + 1))) (joined (numbered f (j + 1 + 1) (map bytes_of (those left))))) (c.copy_at.ensures ∙ ap (placed c.loop-frame.out (37 * at)) c.frame_line.ensures)
          ∙ line_more f _ (bytes_of c.in-Ok.frame) (map bytes_of (those left)) (j + 1) at (c.args.above + (j + 1)) c.loop-frame.out (ap (map bytes_of) step) (frame_wide c.args.sequence (j + 1) c.in-Ok.frame) (omega arith)
          ∙ c.loop-frame.invariant.0,
      omega (arith, c.loop-frame.invariant.1, ap length step),
    )
