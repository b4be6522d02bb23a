-- By what is known of an image's content.
use Rattle.std.proofs.Common.{◌∙◌, Some, None, ap, arith, rules, sym}
use Rattle.std.proofs.Math.ListN.{get_elem?}
use Rattle.errors.specs.Told.{gives}
use Rattle.reader.proofs.Placed.{got}
use Rattle.readings.proofs.Told.{point_past, point_there, point_absent}
use Rattle.readings.proofs.read_point.Goals as goal

pub returns-then-from-i : goal.returns-then-from-i
returns-then-from-i c = point_past c.args.image.now _ _ c.in_ok-s.ensures c.args.i c.args.j (omega arith)

pub returns-in-Some : goal.returns-in-Some
returns-in-Some c =
    let j = c.args.j in
    let b = c.in-Some.byte in
    let e = ap (λ l. get_elem? l j) (sym c.item.ensures) ∙ sym (got c.item.result.now j (Some b) c.in-Some.ensures.lookup) in
    ap gives c.from-in-Some.ensures ∙ point_there c.args.image.now _ _ c.in_ok-s.ensures c.args.i j (omega arith) b.now e (search rules)

pub returns-in-None : goal.returns-in-None
returns-in-None c =
    let j = c.args.j in
    let e = ap (λ l. get_elem? l j) (sym c.item.ensures) ∙ sym (got c.item.result.now j None c.in-None.ensures.lookup) in
    point_absent c.args.image.now _ _ c.in_ok-s.ensures c.args.i j (omega arith) e
