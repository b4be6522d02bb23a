use Rattle.std.proofs.Common.{arith, [], ◌∷◌}
use Rattle.exchange.specs.declared.Step.TheVariants.{Read, Write}
use Rattle.sessions.proofs.Runs.{ran_blank}
use Rattle.driver.proofs.get_events.Goals as goal

pub returns-clause-session_after : goal.returns-clause-session_after
returns-clause-session_after c =
    ran_blank _ {s = c.read.new.session} 4 c.args.driver.now.address (Read 3 ∷ []) (Read 4 ∷ Read 5 ∷ Write 3 255 ∷ []) (omega arith) (cc) (cc)
