-- The four parts fill the session.
use Rattle.std.proofs.Common.{ℕ, List, ◌≡◌, refl, sym, ap, ◌∙◌, arith, ◌++◌}
use Rattle.std.specs.Prelude.{Bool, cond, [], length, drop, replicate}
use mathlib.Core.List.{append-nil}
use lib.ListN.{length-append, length-drop, drop_of_length-le}
use borrow.Author.Tests.{eq-eqb}
use Rattle.laws.specs.Copied.{over}
use Rattle.laws.proofs.Copies.{over_behind, over_laid}
use Rattle.exchange.specs.State.{begun_with, head_of, begun_bytes, begun_in}
use Rattle.exchange.proofs.begin.Goals as goal

pub returns-in-Some : goal.returns-in-Some
unfolding begun_in
returns-in-Some c =
    let st = c.args.session.now in
    let o = c.args.opening in
    let b = begun_with o.address o.reads o.room o.purpose o.image.now o.«record».now in
    let front = head_of b 0 ++ b.image in
    let none : List ℕ = replicate 125 0 in
    let behind = drop (length b.«record») (drop (length b.image) (drop 17 st)) in
    let l = c.in-Some.ensures.cases.long in
    let i : length front ≡ 117 = simp length-append (omega arith) in
    let j : length (front ++ b.«record») ≡ 155 = simp length-append (omega arith) in
    let p = over_laid _ _ _ c.lay.ensures (omega arith) ∙ (λ t. over (c.in-Some.ensures.cases.same t) 0 (c.heading.ensures t)) in
    let q = over_laid _ _ _ c.lay-in-Some.ensures (omega arith) ∙ ap (λ (x : List ℕ). over x 17 b.image) p ∙ over_behind (head_of b 0) (drop 17 st) b.image 17 refl in
    let r = over_laid _ _ _ c.lay-in-Some-2.ensures (omega arith) ∙ ap (λ (x : List ℕ). over x 117 b.«record») q ∙ over_behind front (drop (length b.image) (drop 17 st)) b.«record» 117 i in
    over_laid _ _ _ c.lay-in-Some-3.ensures (omega arith)
    ∙ ap (λ (x : List ℕ). over x 155 none) r
    ∙ over_behind (front ++ b.«record») behind none 155 j
    ∙ ap (λ (x : List ℕ). front ++ b.«record» ++ none ++ x) (drop_of_length-le behind {i = 125} (simp length-drop (omega arith)))
    ∙ append-nil (front ++ b.«record» ++ none)
    ∙ ap (λ (x : List ℕ). x ++ none) (sym (append-nil (front ++ b.«record»)))
    ∙ sym (ap (λ (t : Bool). cond t (begun_bytes b []) st) (eq-eqb _ _ l))
