-- Those that are left say what all say.
use Rattle.std.proofs.Common.{◌≡◌, ltb}
use Rattle.reader.specs.Walk.{frames_left}
use Rattle.readings.specs.InPlace.{those, frames_in}
use Rattle.std.specs.List.{list_any}
use Rattle.merge.proofs.is_above.Given as goal

abbrev pub invariant-loop-frame : goal.invariant-loop-frame
invariant-loop-frame l = list_any (λ f. ltb l.s f.snippet_id) (those (frames_left l.frame-iterator)) ≡ list_any (λ f. ltb l.s f.snippet_id) (frames_in l.bytes)
