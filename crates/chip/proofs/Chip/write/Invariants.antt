use Rattle.std.proofs.Common.{◌≡◌, ◌+◌, drop}
use Rattle.chip.specs.Writes.{stored_all}
use Rattle.chip.proofs.Chip.write.Given as goal

-- the bytes that are left lead to the end
abbrev pub invariant-loop-i : goal.invariant-loop-i
invariant-loop-i l = stored_all l.self (l.register + l.i) (drop l.i l.bytes) ≡ stored_all l.initial.self l.register l.bytes
