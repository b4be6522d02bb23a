-- The bytes of the length, as std gives them, are those of the definition.
use Rattle.std.proofs.Common.{◌≡◌, ap, ◌∙◌, ◌/◌, ◌%◌, [], ◌∷◌, length, slice_set, arith}
use Rattle.laws.specs.Copied.{over}
use Rattle.laws.proofs.Copies.{over_laid}
use Rattle.exchange.proofs.heading.Goals as goal

pub returns : goal.returns
returns c =
    let o = c.args.opening in
    let n = o.room in
    let w = c.to_le_bytes.ensures in
    let b : n / 65536 % 256 ≡ n / 256 / 256 % 256 = omega arith in
    let d : n / 16777216 % 256 ≡ n / 256 / 256 / 256 % 256 = omega arith in
    let e : n / 4294967296 % 256 ≡ n / 256 / 256 / 256 / 256 % 256 = omega arith in
    let f : n / 1099511627776 % 256 ≡ n / 256 / 256 / 256 / 256 / 256 % 256 = omega arith in
    let g : n / 281474976710656 % 256 ≡ n / 256 / 256 / 256 / 256 / 256 / 256 % 256 = omega arith in
    let h : n / 72057594037927936 % 256 ≡ n / 256 / 256 / 256 / 256 / 256 / 256 / 256 % 256 = omega arith in
    let m = w ∙ (λ i. n % 256 ∷ n / 256 % 256 ∷ b i ∷ d i ∷ e i ∷ f i ∷ g i ∷ h i ∷ []) in
    ap (λ l. slice_set l 16 o.purpose)
    (over_laid _ _ _ c.lay.ensures (omega (arith, ap length w)) ∙ (λ i. over (o.address ∷ c.into.ensures i ∷ 0 ∷ 0 ∷ 0 ∷ 0 ∷ 0 ∷ o.reads ∷ 0 ∷ 0 ∷ 0 ∷ 0 ∷ 0 ∷ 0 ∷ 0 ∷ 0 ∷ 0 ∷ []) 8 (m i)))
