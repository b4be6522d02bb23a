-- An answer that was taken, and is not the last success.
use Rattle.std.proofs.Common.{List, ℕ, sym, ap, ◌∙◌, cond, None}
use Rattle.std.proofs.lemmas.Bool.{not-true}
use borrow.Author.Tests.{eq-eqb}
use Rattle.exchange.specs.State.{purpose_in, record_in}
use Rattle.da728x.specs.Record.{record_at}
use Rattle.outcome.specs.Outcome.{change_before, change_for, change_by}
use Rattle.outcome.proofs.change_by.Goals as goal

pub returns-then-is_taken : goal.returns-then-is_taken
unfolding change_by
returns-then-is_taken c =
    let st = c.args.session.now in
    let next = record_at (record_in st) in
    let session = eq-eqb _ _ c.in_ok-session.ensures.cases.long in
    let last = sym c.is_last.ensures ∙ c.if-is_last.false in
    let refused = not-true _ (sym c.is_taken.ensures ∙ c.if-is_taken.true) in
    let before = c.change_before.ensures ∙ ap (λ (st : List ℕ). change_before (purpose_in st) (record_at (record_in st)) c.args.driver) c.in_ok-session.ensures.cases.same in
    before
    ∙ sym (λ i. cond (session i) (cond (last i) (change_for (purpose_in st) next c.args.driver) (cond (refused i) None (change_before (purpose_in st) next c.args.driver))) None)
