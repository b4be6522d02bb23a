-- What was refused is none of them.
use Rattle.std.proofs.Common.{◌∙◌, ap, sym, ltb, ◌∷◌}
use Rattle.frame.specs.declared.FrameBuilder.{FrameBuilder}
use Rattle.reader.specs.Walk.{frames_left}
use Rattle.readings.specs.InPlace.{those}
use Rattle.std.specs.List.{list_any}
use Rattle.merge.proofs.is_above.Goals as goal

pub loop-frame-preserved : goal.loop-frame-preserved
loop-frame-preserved c =
    let step = ap those (c.in-Some.ensures.steps ∙ ap (λ x. x ∷ frames_left c.next.new.self) c.in_default.is) in
    ap (list_any (λ (f : FrameBuilder). ltb c.args.s f.snippet_id)) (sym step) ∙ c.loop-frame.invariant
