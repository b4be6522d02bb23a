-- The settings that the session carries.
use Rattle.std.proofs.Common.{ap, ◌∙◌, rules}
use Rattle.da728x.specs.declared.DA728x.{DA728x}
use Rattle.outcome.specs.Outcome.{settling}
use Rattle.outcome.proofs.change_for.Goals as goal

pub returns-in-Settings : goal.returns-in-Settings
returns-in-Settings c =
    let e = c.settle.ensures ∙ ap (λ (next : DA728x). settling next c.args.driver) c.carried-in-Settings.ensures in
    search rules
