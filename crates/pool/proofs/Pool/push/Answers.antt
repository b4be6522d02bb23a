use Rattle.std.proofs.Common.{◌≡◌, refl, ap, ◌∙◌, ℕ, min, arith, rules}
use Rattle.pool.proofs.Keeping.{full, room}
use Rattle.pool.proofs.Pool.push.Goals as goal

pub returns-then-n-clause-pushed : goal.returns-then-n-clause-pushed
returns-then-n-clause-pushed g c = full g.row.MOST c.args.bytes.now c.args.self.now c.if-n.true

pub returns-clause-pushed : goal.returns-clause-pushed
returns-clause-pushed g c =
    let used : c.from-used.result ≡ c.args.self.now.used = search rules in
    room g.row.MOST c.args.bytes.now c.args.self.now (omega (arith, c.if-n.false)) (search rules) _ _ _ _ _ refl c.min.ensures
    (c.min-at.ensures ∙ ap (λ (k : ℕ). min k 100) used) (omega (arith, c.min-3.ensures, c.min-2.ensures, used)) c.copy_into.ensures.buffer_after
