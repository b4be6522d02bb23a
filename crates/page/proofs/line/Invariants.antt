-- The bytes that are left, behind those before, give all of them.
use Rattle.std.proofs.Common.{◌≡◌, ◌+◌, ◌*◌, length, drop}
use Rattle.laws.specs.Copied.{placed}
use Rattle.page.specs.Lines.{in_capitals}
use Rattle.page.proofs.line.Given as goal

abbrev pub invariant-loop-k : goal.invariant-loop-k
invariant-loop-k l =
    placed l.line (length l.head + 2 * l.k) (in_capitals (drop l.k l.bytes)) ≡ placed l.initial.line (length l.head) (in_capitals l.bytes)
