use Rattle.std.proofs.Common.{◌≡◌, Some, [], sym, ap, ◌∙◌}
use Rattle.errors.specs.Number.{answer_number}
use Rattle.checks.specs.Checks.{configure_number}
use Rattle.exchange.specs.State.{begun_in}
use Rattle.sessions.specs.Sessions.{carrying}
use Rattle.sessions.proofs.Runs.{made}
use Rattle.plans.proofs.Lengths.{at_most}
use Rattle.plans.specs.Configure.{configure_steps}
use Rattle.driver.proofs.Starts.{configured}
use Rattle.driver.proofs.configure.Goals as goal

pub returns-clause-session_after : goal.returns-clause-session_after
returns-clause-session_after c =
    let a = c.args in
    let n : configure_number a.driver.now.variant a.a a.d ≡ 0 = sym c.configure_checks.ensures ∙ ap answer_number c.in_ok-configure_checks.was in
    let begun = c.begin_with.ensures ∙ (λ t. begun_in a.session.now (carrying (c.into.ensures t) (record { address = (c.new.ensures t).address; variant = (c.new.ensures t).variant; settings = Some (a.a, a.d); sequences = (c.new.ensures t).sequences })) []) in
    simp n (made _ 2 (configured a.driver.now a.a a.d) (configure_steps a.a a.d) (at_most a.a a.d) begun c.configure.ensures)
