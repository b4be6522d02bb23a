-- The rest are frames exactly if all are.
use Rattle.std.proofs.Common.{◌≡◌}
use Rattle.reader.specs.Walk.{frames_from, frames_left}
use Rattle.readings.proofs.Fitting.{all_ok}
use Rattle.readings.proofs.SequencesGather.add.Given as goal

abbrev pub invariant-loop-frame : goal.invariant-loop-frame
invariant-loop-frame l = all_ok (frames_left l.frame-iterator) ≡ all_ok (frames_from 32 l.item)
