use Rattle.assemble.proofs.Holding.{image_built}
use Rattle.assemble.proofs.assemble.Goals as goal

pub returns-clause-answer : goal.returns-clause-answer
returns-clause-answer c = (image_built _ _ c.run.ensures.memory c.args.image.now _ _ c.image.ensures).0

pub returns-clause-image : goal.returns-clause-image
returns-clause-image c = (image_built _ _ c.run.ensures.memory c.args.image.now _ _ c.image.ensures).1
