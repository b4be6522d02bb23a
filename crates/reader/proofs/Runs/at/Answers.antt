-- The element of the list that was found.
use Rattle.std.proofs.Common.{◌∙◌, ap}
use Rattle.std.proofs.Math.ListN.{get_elem?}
use Rattle.content.specs.ReadImage.{and_then}
use Rattle.reader.specs.Items.{at_told}
use Rattle.reader.proofs.Placed.{got}
use Rattle.reader.proofs.Runs.at.Goals as goal

pub returns : goal.returns
returns g c =
    let l = c.in_ok-list.field-0.now in
    let j = c.args.j in
    ap at_told c.copied.ensures ∙ got l j _ c.get.ensures.lookup ∙ ap (λ o. and_then o (λ l. get_elem? l j)) c.in_ok-list.ensures
