-- The register and the other bytes, laid over zeros.
use Rattle.std.proofs.Common.{ℕ, List, ◌+◌, ◌-◌, ◌≤◌, ◌≡◌, ap, ◌∙◌, refl, [], ◌∷◌, ◌++◌, length, suc, arith}
use Rattle.std.specs.Prelude.{replicate}
use Rattle.std.proofs.lemmas.List.{drop-replicate}
use Rattle.laws.proofs.Copies.{over_behind, over_laid}
use Rattle.exchange.proofs.Exchange.new.Goals as goal

pub returns : goal.returns
returns c =
    let register : ℕ = c.args.register in
    let rest : List ℕ = c.args.rest.now in
    let fits : 1 + length rest ≤ 33 = omega (arith, c.requires) in
    let n : length rest + 1 ≡ suc (length rest) = omega arith in
    let m : 32 - length rest ≡ 33 - suc (length rest) = omega arith in
    let zeros = drop-replicate (length rest) 32 0 ∙ ap (λ (k : ℕ). replicate k 0) m in
    let bytes = over_laid _ _ _ c.lay.ensures fits ∙ over_behind (register ∷ []) (replicate 32 0) rest 1 refl ∙ ap (λ (l : List ℕ). register ∷ (rest ++ l)) zeros in
    λ i. record { address = c.args.address; bytes = bytes i; len = n i; wanted = c.args.wanted }
