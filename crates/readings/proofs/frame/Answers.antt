-- By what is known of an image's content.
use Rattle.std.proofs.Common.{◌≡◌, ◌+◌, ◌∙◌, Some, None, arith, subst}
use Rattle.readings.specs.InPlace.{item_at, NthFrame}
use Rattle.readings.proofs.Told.{frame_past, frame_there}
use Rattle.readings.proofs.frame.Goals as goal

pub returns-in-Some : goal.returns-in-Some
returns-in-Some c =
    let j = c.args.j in
    let f = c.in-Some.frame in
    let k : c.from-in-Ok.result + c.args.i ≡ c.in-Ok.s + c.args.i = omega (arith, c.from-in-Ok.ensures) in
    c.word.ensures.value
    ∙ frame_there c.args.image.now _ _ c.in-Ok.ensures c.args.i j (omega arith) (Some f)
    (subst (λ n. NthFrame (item_at c.args.image.now n) j (Some f)) k (subst (λ l. NthFrame l j (Some f)) c.item.ensures c.in-Some.ensures))

pub returns-in-None : goal.returns-in-None
returns-in-None c =
    let j = c.args.j in
    let k : c.from-in-Ok.result + c.args.i ≡ c.in-Ok.s + c.args.i = omega (arith, c.from-in-Ok.ensures) in
    frame_there c.args.image.now _ _ c.in-Ok.ensures c.args.i j (omega arith) None
    (subst (λ n. NthFrame (item_at c.args.image.now n) j None) k (subst (λ l. NthFrame l j None) c.item.ensures c.in-None.ensures))

pub returns-in-Ok-2 : goal.returns-in-Ok-2
returns-in-Ok-2 c = frame_past c.args.image.now _ _ c.in-Ok.ensures c.args.i c.args.j (omega arith)
