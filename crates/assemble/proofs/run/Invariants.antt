use Rattle.std.proofs.Common.{◌≡◌}
use Rattle.assemble.specs.Refusal.{first_number}
use Rattle.assemble.proofs.Running.{Running}
use Rattle.assemble.proofs.run.Given as goal

-- running what is left gives the builders and the answers of the whole, with the memory's builder kept in the pools
abbrev pub invariant-loop-i : goal.invariant-loop-i
invariant-loop-i l = record {
  four : l.i-iterator.iter.size ≡ 4;
  count : l.ran.count ≡ l.initial.ran.count;
  runs : Running l.calls l.fn.answers l.answers l.ran.kept l.ran.builders l.i-iterator.iter.rest.now l.i-iterator.count (first_number l.ran.first);
}
