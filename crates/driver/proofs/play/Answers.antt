use Rattle.std.proofs.Common.{arith, [], ◌∷◌}
use Rattle.exchange.specs.declared.Step.TheVariants.{Write}
use Rattle.sessions.specs.Sessions.{start_steps}
use Rattle.sessions.proofs.Runs.{ran_blank}
use Rattle.driver.proofs.play.Goals as goal

pub returns : goal.returns
returns c = ran_blank _ {s = c.write.new.session} 0 c.args.driver.now.address (Write 40 c.args.value ∷ []) start_steps (omega arith) (cc) (cc)
