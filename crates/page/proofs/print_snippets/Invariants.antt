-- The lines that are left, behind those before, give all of them.
use Rattle.std.proofs.Common.{◌≡◌, ◌+◌, ◌*◌, drop}
use Rattle.laws.specs.Copied.{placed}
use Rattle.laws.specs.Lists.{joined}
use Rattle.readings.specs.InPlace.{items_at}
use Rattle.page.specs.Lines.{snippet_line, numbered}
use Rattle.page.proofs.print_snippets.Given as goal

abbrev pub invariant-loop-i : goal.invariant-loop-i
invariant-loop-i l =
    placed l.out (37 * l.i) (joined (numbered snippet_line (l.i + 1) (drop l.i (items_at l.image 0 l.s))))
    ≡ placed l.fn.out 0 (joined (numbered snippet_line 1 (items_at l.image 0 l.s)))
