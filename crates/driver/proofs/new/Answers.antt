use Rattle.std.proofs.Common.{arith, [], ◌∷◌}
use Rattle.sessions.proofs.Runs.{made}
use Rattle.exchange.specs.declared.Step.TheVariants.{Match}
use Rattle.driver.specs.Operations.{revision, new_record}
use Rattle.driver.proofs.new.Goals as goal

pub returns-clause-session_after : goal.returns-clause-session_after
returns-clause-session_after c =
    let a = c.args in
    made _ {s = c.begin_with.new.session} 1 (new_record a.address a.variant) (Match 0 (revision a.variant) ∷ []) (omega arith) (cc) (cc)
