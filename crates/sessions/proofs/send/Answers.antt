-- The steps of the calls, one behind the other.
use Rattle.exchange.proofs.Pushes.{push_append}
use Rattle.sessions.specs.Sessions.{send_steps}
use Rattle.sessions.proofs.send.Goals as goal

pub returns : goal.returns
unfolding send_steps
returns c = simp push_append cc
