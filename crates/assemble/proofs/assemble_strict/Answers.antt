use Rattle.std.proofs.Common.{rules}
use Rattle.assemble.proofs.Holding.{image_built}
use Rattle.assemble.proofs.Strict.{strict_built}
use Rattle.assemble.proofs.assemble_strict.Goals as goal

pub returns-in-None-clause-answer : goal.returns-in-None-clause-answer
returns-in-None-clause-answer c =
    (strict_built c.args.calls.now c.args.image.now _ _ c.in-None.is c.run-ran.ensures.told _ _
    (image_built _ _ c.run-ran.ensures.memory c.args.image.now _ _ c.image.ensures) (search rules)).0

pub returns-in-None-clause-image : goal.returns-in-None-clause-image
returns-in-None-clause-image c =
    (strict_built c.args.calls.now c.args.image.now _ _ c.in-None.is c.run-ran.ensures.told _ c.map_err.result
    (image_built _ _ c.run-ran.ensures.memory c.args.image.now _ _ c.image.ensures) (search rules)).1
