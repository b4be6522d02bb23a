use Rattle.std.proofs.Common.{◌≡◌, map, take, length}
use Rattle.registers.proofs.Register.all.Given as goal

-- the addresses so far stand at the front
abbrev pub invariant-loop-i : goal.invariant-loop-i
invariant-loop-i l =
    (length l.all ≡ length l.register-items) × (take l.i l.all ≡ map (λ p. p.1.0) (take l.i l.register-items))
