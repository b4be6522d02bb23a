use Rattle.std.proofs.Common.{◌≡◌, arith, rules}
use Rattle.std.specs.Prelude.{sum}
use Rattle.std.proofs.lemmas.Grind.{get_or_default_zero}
use Rattle.std.proofs.lemmas.List.Sums.{sum_by-le}
use Rattle.pool.proofs.total.Goals as goal

pub returns-clause-upper_bound : goal.returns-clause-upper_bound
returns-clause-upper_bound c =
    let l = c.args.lens.now in
    let h = sum_by-le (λ x. x) 255 l (λ i d lt. omega (arith, get_or_default_zero l i d lt, c.type_inv.lens i)) in
    let v : c.sum.result ≡ sum l = search rules in
    omega (arith, h, v)
