-- One step, pushed to a session that was begun.
use Rattle.std.proofs.Common.{arith, ap, ◌∙◌, [], ◌∷◌}
use Rattle.exchange.specs.State.{begun_in}
use Rattle.sessions.proofs.Runs.{ran_blank}
use Rattle.sessions.proofs.run.Goals as goal

pub returns : goal.returns
returns c =
    let a = c.args in
    ran_blank _ a.purpose a.address [] (a.step ∷ []) (omega arith) (c.begin.ensures ∙ ap (λ b. begun_in a.session.now b []) c.opening.ensures) c.push.ensures
