-- The step that comes next is the first that is left.
use Rattle.std.proofs.Common.{sym, rules}
use Rattle.exchange.proofs.Left.{at_some}
use Rattle.exchange.proofs.pending.Goals as goal

pub returns-clause-value : goal.returns-clause-value
returns-clause-value c = let e = at_some _ _ (sym c.in_ok-step.ensures) in search rules
