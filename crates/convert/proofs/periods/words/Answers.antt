use Rattle.convert.proofs.Table.{quotients, entry}
use Rattle.convert.proofs.periods.words.Goals as goal

-- the checker sees that this law speaks of the table in the code by computing its thousand quotients
pub returns : goal.returns
unfolding quotients
returns c = entry 25 1000
