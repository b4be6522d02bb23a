-- A frame more.
use Rattle.std.proofs.Common.{◌≡◌, ◌+◌, ◌∷◌, ◌∙◌, map, length, take, replicate, ap, sym, subst, arith}
use lib.Seq.{take_at}
use Rattle.laws.specs.Bytes.{All}
use Rattle.laws.specs.Copied.{placed}
use Rattle.laws.proofs.Copies.{placed_none, copied_fits}
use Rattle.frame.specs.Frame.{bytes_of, frame_bytes}
use Rattle.frame.proofs.Built.{built_bytes}
use Rattle.content.specs.Content.{frames_bytes}
use Rattle.reader.specs.Walk.{frames_left}
use Rattle.readings.specs.InPlace.{those}
use Rattle.merge.specs.Merged.{raised}
use Rattle.merge.specs.InPlace.{Raisable, raised_bytes}
use Rattle.merge.proofs.Raising.{raised_few, raised_next, raised_placed}
use Rattle.merge.proofs.raised_sequence.Goals as goal

pub overflow_add-len : goal.overflow_add-len
overflow_add-len c =
    let step = ap those (c.in-Some.ensures.steps ∙ ap (λ x. x ∷ frames_left c.next.new.self) c.in-Ok.is) in
    let f : c.in_ok-raised.field-0 ≡ raised c.args.count c.in-Ok.frame = cc c.in_ok-raised.ensures in
    let x : frame_bytes c.build-frame.result ≡ bytes_of (raised c.args.count c.in-Ok.frame) = ap frame_bytes c.build-frame.ensures ∙ built_bytes c.in_ok-raised.field-0 ∙ ap bytes_of f in
    omega (arith, c.loop-frame.invariant.1, c.byte_len.ensures, raised_next c.args.count _ _ c.in-Ok.frame step _ x, raised_few c.args.count c.args.bytes.now)

pub loop-frame-preserved-in-Ok : goal.loop-frame-preserved-in-Ok
loop-frame-preserved-in-Ok c =
    let count = c.args.count in
    let left = those (frames_left c.next.new.self) in
    let step = ap those (c.in-Some.ensures.steps ∙ ap (λ x. x ∷ frames_left c.next.new.self) c.in-Ok.is) in
    let f : c.in_ok-raised.field-0 ≡ raised count c.in-Ok.frame = cc c.in_ok-raised.ensures in
    let x : frame_bytes c.build-frame.result ≡ bytes_of (raised count c.in-Ok.frame) = ap frame_bytes c.build-frame.ensures ∙ built_bytes c.in_ok-raised.field-0 ∙ ap bytes_of f in
    let all = subst (All (Raisable count)) step c.loop-frame.invariant.2 in (
      (λ i. placed (c.copy_at.ensures i) (c.loop-frame.len + c.byte_len.ensures i) (frames_bytes (map (raised count) left)))
          ∙ ap (λ b. placed (placed c.loop-frame.out c.loop-frame.len b) (c.loop-frame.len + length (frame_bytes c.build-frame.result)) (frames_bytes (map (raised count) left))) c.as_bytes.ensures
          ∙ raised_placed count _ left c.in-Ok.frame step _ x c.loop-frame.out c.loop-frame.len
          ∙ c.loop-frame.invariant.0,
      omega (arith, c.loop-frame.invariant.1, c.byte_len.ensures, raised_next count _ left c.in-Ok.frame step _ x),
      all.1,
    )

pub returns : goal.returns
returns c =
    let all = raised_bytes c.args.count c.args.bytes.now in
    let none = ap (λ gs. frames_bytes (map (raised c.args.count) (those gs))) c.in-None.ensures.steps.0 in
    let few = raised_few c.args.count c.args.bytes.now in
    let long : c.loop-frame.len ≡ length all = omega (arith, c.loop-frame.invariant.1, ap length none) in
    let out = sym (placed_none c.loop-frame.out c.loop-frame.len) ∙ ap (placed c.loop-frame.out c.loop-frame.len) (sym none) ∙ c.loop-frame.invariant.0 ∙ copied_fits (replicate 96 0) all few in
    (omega (arith, long, few), ap (take c.loop-frame.len) out ∙ take_at all _ c.loop-frame.len (sym long))
