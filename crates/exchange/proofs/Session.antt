-- The theorem on sessions: over every list of answers the exchanges are those of the steps, in order, and the count is true.
-- Assumes nothing.
use mathlib.Core.Path.{ap}
use mathlib.Core.Bool.{Bool, cond}
use Rattle.exchange.specs.State.{made_in}
use Rattle.exchange.specs.Turn.{pending_for}
use Rattle.exchange.specs.Session.{Session}
use Rattle.exchange.proofs.Order.{follows}
use Rattle.exchange.proofs.Turns.{refused}
use Rattle.exchange.proofs.Takes.{takes, fails, done, reads, matches, stores, unstored, spares, tells}
use Rattle.exchange.proofs.Left.{closed}
use Rattle.exchange.proofs.Effects.{quiet, ends}
use Rattle.exchange.proofs.Ends.{whole}

pub session : Session
session = record {
  hands = λ st x xs e. ap (pending_for st) e;
  order = λ st cs. (follows cs st).order;
  count = λ st cs. (follows cs st).count;
  within = λ st cs. (follows cs st).within;
  end = λ st cs. (follows cs st).remaining;
  closed = closed;
  uncounted = λ st h. ap (λ (b : Bool). cond b (made_in st) 0) h;
  completes = whole;
  takes = takes;
  fails = fails;
  done = done;
  quiet = quiet;
  reads = reads;
  matches = matches;
  ends = ends;
  tells = tells;
  refused = refused;
  stores = stores;
  unstored = unstored;
  spares = spares;
}
