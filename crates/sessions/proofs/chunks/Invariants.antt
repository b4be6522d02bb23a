-- With the chunks that are left, all will have been pushed.
use Rattle.std.proofs.Common.{◌≡◌, drop}
use Rattle.exchange.specs.State.{pushed_all}
use Rattle.sessions.specs.Sessions.{chunk_steps}
use Rattle.sessions.proofs.Parts.{chunks_at}
use Rattle.sessions.proofs.chunks.Given as goal

abbrev pub invariant-loop-offset : goal.invariant-loop-offset
invariant-loop-offset l = pushed_all l.session (chunks_at l.n (drop l.offset-index l.offset-items)) ≡ pushed_all l.fn.session (chunk_steps l.n)
