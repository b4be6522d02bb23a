-- The step that comes next, with the session's bytes.
use Rattle.std.proofs.Common.{sym, rules}
use Rattle.exchange.proofs.Answers.{fit_next}
use Rattle.exchange.proofs.judge.Goals as goal

pub returns-then-is_resized : goal.returns-then-is_resized
returns-then-is_resized c = let e = fit_next _ c.args.reply c.args.n _ (sym c.in_ok-step.ensures) in search rules

pub returns : goal.returns
returns c = let e = fit_next _ c.args.reply c.args.n _ (sym c.in_ok-step.ensures) in search rules
