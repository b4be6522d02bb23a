use Rattle.std.proofs.Common.{arith}
use Rattle.std.proofs.Math.Seq.{sets-eq}
use Rattle.std.proofs.lemmas.Grind.{common_steps}
use Rattle.pool.proofs.Lists.{ends_length}
use Rattle.pool.proofs.pointers.Goals as goal

pub returns-clause-out_after : goal.returns-clause-out_after
returns-clause-out_after c = grind (arith, common_steps, sets-eq, ends_length)
