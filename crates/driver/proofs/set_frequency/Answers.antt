use Rattle.std.proofs.Common.{arith, sym, ap, ◌∙◌, []}
use Rattle.std.specs.Result.{result_ok}
use Rattle.sessions.proofs.Runs.{ran_blank}
use Rattle.plans.proofs.Lengths.{frequency}
use Rattle.plans.specs.Configure.{frequency_steps}
use Rattle.driver.proofs.set_frequency.Goals as goal

pub returns-clause-session_after : goal.returns-clause-session_after
returns-clause-session_after c =
    let hz = c.args.frequency_hz in
    let passes = sym c.outside_band.ensures ∙ c.if-outside_band.false in
    let stored = c.settings.ensures.ok_part ∙ ap result_ok c.in_ok-d.was in
    simp (stored, passes) (ran_blank _ 0 c.args.driver.now.address [] (frequency_steps hz) (omega (arith, frequency hz)) (cc) c.frequency.ensures)
