-- The byte as shifts and masks pack it is the one that arithmetic says.
use Rattle.std.proofs.Common.{arith}
use borrow.Author.Tests.{le-ltb}
use Rattle.snippet.proofs.Packed.{packed_point}
use Rattle.snippet.proofs.PwlPoint.new.Goals as goal

pub returns : goal.returns
returns c =
    let a = c.args in
    simp
    (le-ltb _ _ c.if-timebases-lt1.false, le-ltb _ _ c.if-timebases-gt8.false, le-ltb _ _ c.if-amplitude-gt15.false, packed_point a.ramp a.timebases a.amplitude (omega arith) (omega arith))
