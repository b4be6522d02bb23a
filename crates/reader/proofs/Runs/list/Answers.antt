-- The part of the elements between two ends.
use Rattle.std.proofs.Common.{◌≡◌, ◌≤◌, ◌<◌, ◌-◌, ◌∙◌, List, ℕ, [], ◌∷◌, zero, suc, None, ap, arith, refl, sym, length, get_or, min, take, drop, rules}
use Rattle.std.specs.Option.{option_map}
use Rattle.std.proofs.Math.Option.{none, some}
use Rattle.std.proofs.Math.ListN.{get_elem?}
use Rattle.laws.proofs.Lists.{length_of_map}
use Rattle.reader.specs.Items.{at_told}
use Rattle.reader.specs.Places.{start_in}
use Rattle.reader.specs.Reading.{parts}
use Rattle.reader.proofs.Placed.{part_shown}
use Rattle.reader.proofs.Runs.list.Goals as goal

-- the i-th of the parts, which are as many as the ends
part_at : {A : Type 0} (es : List ℕ) (from i : ℕ) (l : List A) → i < length es
    → get_elem? (parts from es l) i ≡ some (take (get_or es i 0 - start_in from es i) (drop (start_in from es i) l))
part_at [] from i l h = absurd (omega arith)
part_at (e ∷ es) from zero l h = refl
part_at (e ∷ es) from (suc zero) l h = part_at es e zero l (omega arith)
part_at (e ∷ es) from (suc (suc i)) l h = part_at es e (suc i) l (omega arith)

part_none : {A : Type 0} (es : List ℕ) (from i : ℕ) (l : List A) → length es ≤ i → get_elem? (parts from es l) i ≡ none
part_none [] from i l h = refl
part_none (e ∷ es) from zero l h = absurd (omega arith)
part_none (e ∷ es) from (suc i) l h = part_none es e i l (omega arith)

pub returns-in_err-get : goal.returns-in_err-get
returns-in_err-get g c =
    let r = c.args.self.now in
    let es = c.shown-ends.result.now in
    let i = c.args.i in
    let h : length es ≤ i = search rules in
    let n : c.from_residual.result ≡ None = search rules in
    ap (λ o. at_told (option_map (λ l. l.now) o)) n ∙ sym (part_none es 0 i r.items h) ∙ ap (λ es. get_elem? (parts 0 es r.items) i) c.shown-ends.ensures.value

pub returns : goal.returns
returns g c =
    let r = c.args.self.now in
    let es = c.shown-ends.result.now in
    let i = c.args.i in
    let n : length r.items ≡ 96 = search (rules, length_of_map) in
    let h : i < length es = search rules in
    let to : c.from.result ≡ get_or es i 0 = search rules in
    let b : c.min-to.result ≡ min c.from.result (length r.items) = rw (c.min-to.ensures, n) in
    ap some (part_shown r.items c.start.result c.from.result _ _ b c.min-from.ensures)
    ∙ (λ k. some (take (to k - c.start.ensures k) (drop (c.start.ensures k) r.items)))
    ∙ sym (part_at es 0 i r.items h) ∙ ap (λ es. get_elem? (parts 0 es r.items) i) c.shown-ends.ensures.value
