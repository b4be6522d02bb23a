-- There are 32 at most.
use Rattle.std.proofs.Common.{arith}
use Rattle.readings.proofs.InPlace.{frames_few}
use Rattle.page.proofs.frames.Goals as goal

pub overflow_add-frames : goal.overflow_add-frames
overflow_add-frames c = omega (arith, c.loop-frame.invariant, frames_few c.args.bytes.now)
