-- Where the loop ends, every part of the line was come to, and each put an end behind the others.
use Rattle.std.proofs.Common.{rules, tests, eqb, refl, ◌∙◌}
use Rattle.std.proofs.lemmas.Iterator.Splits.{YieldsList-from_slice_split}
use Rattle.std.proofs.lemmas.Iterator.Consumers.{YieldsList-end}
use Rattle.vectors_bytes.proofs.hex.Fields.read.Goals as goal

pub returns : goal.returns
returns c = λ ok.
    c.loop-text.invariant
    ∙ (YieldsList-end {s = c.into_iter-text-iterator.result}
    (YieldsList-from_slice_split _ (λ x. eqb x 32) c.args.line.now (search (rules, c.into_iter-text-iterator.ensures, c.split-text-items.ensures))
    (search (rules, c.into_iter-text-iterator.ensures, c.split-text-items.ensures)) refl (λ x b q called. search (rules, tests)))
    c.loop-text.yielded _ c.loop-text.yielded_by _ _ c.in-None.is c.next.ensures.steps).1
