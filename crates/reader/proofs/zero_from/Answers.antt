-- Each of the rest is tested.
use Rattle.std.proofs.Common.{◌≡◌, ◌≤◌, ◌-◌, List, ℕ, [], ◌∷◌, take, drop, length, ltb, ◌&&◌, min, ap, arith, refl, sym, ◌∙◌, rules, tests}
use native.Mathlib.Decide.{dec_le}
use lib.ListN.{drop_of_length-le}
use Rattle.std.specs.List.{list_all}
use Rattle.std.proofs.lemmas.List.{take_rest}
use Rattle.std.proofs.lemmas.Iterator.{YieldsList-from_slice}
use Rattle.std.proofs.lemmas.Iterator.Search.{all_from_yields_List}
use Rattle.content.specs.ReadImage.{all_zero}
use Rattle.reader.proofs.zero_from.Goals as goal

each : (l : List ℕ) → list_all (λ x. ltb x 1) l ≡ all_zero l
each [] = refl
each (x ∷ xs) = ap (λ b. ltb x 1 && b) (each xs)

rest : (l : List ℕ) (at n : ℕ) → n ≡ min at (length l) → drop n l ≡ drop at l
rest l at n e = go (dec_le at (length l)) where
  go : Dec (at ≤ length l) → drop n l ≡ drop at l
  go (yes h) = let k : n ≡ at = omega arith in ap (λ i. drop i l) k
  go (no h) = drop_of_length-le l (omega arith) ∙ sym (drop_of_length-le l (omega arith))

pub returns : goal.returns
returns c =
    let l = c.args.image.now in
    let n = c.min.result in
    let e : c.iter.result.rest.now ≡ take (length l - n) (drop n l) = search rules in
    all_from_yields_List (λ x. ltb x 1) _ _ _ c.all.ensures.ran (YieldsList-from_slice _ (e ∙ take_rest l n ∙ rest l c.args.at n c.min.ensures))
    (λ x b q k. search (rules, tests))
    ∙ each (drop c.args.at l)
