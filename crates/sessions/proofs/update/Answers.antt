-- Two steps, pushed to a session that was begun.
use Rattle.std.proofs.Common.{arith, ap, ◌∙◌, [], ◌∷◌}
use Rattle.exchange.specs.declared.Step.TheVariants.{Read, Update}
use Rattle.sessions.proofs.Runs.{ran_blank}
use Rattle.sessions.proofs.update.Goals as goal

pub returns : goal.returns
returns c =
    let a = c.args in
    ran_blank _ 0 a.address [] (Read a.register ∷ Update a.register a.place.shift a.place.width a.value ∷ []) (omega arith) (cc) c.push_update.ensures
