-- An item more.
use Rattle.std.proofs.Common.{◌≡◌, ◌+◌, ◌≤◌, ◌++◌, ◌∷◌, [], ◌∙◌, ap, sym, subst, arith, map, length}
use Rattle.std.proofs.lemmas.List.{length-map, map-append}
use Rattle.errors.specs.Number.{answer_number}
use Rattle.errors.proofs.Passed.{passed}
use Rattle.laws.specs.Bytes.{All}
use Rattle.pool.specs.Kept.{kept}
use Rattle.readings.specs.InPlace.{item_at, items_at, frames_in}
use Rattle.readings.proofs.InPlace.{items_length}
use Rattle.merge.specs.InPlace.{Raisable, raised_bytes}
use Rattle.merge.proofs.Keeping.{items_more, items_each, has_room, all_fit, kept_room, too_many, kept_more}
use Rattle.merge.proofs.keep_sequences.Goals as goal

pub raised_sequence-requires : goal.raised_sequence-requires
raised_sequence-requires c =
    let image = c.args.image.now in
    let here = c.item.ensures ∙ ap (λ k. item_at image (k + c.loop-i.i)) c.from.ensures in
    subst (λ l. All (Raisable c.args.count) (frames_in l)) (sym here)
    (items_each (λ fs. All (Raisable c.args.count) fs) frames_in image c.args.s c.args.q c.loop-i.i c.requires (omega (arith, c.loop-i-test.true, c.from-i-end.ensures)))

pub returns-in_err-push : goal.returns-in_err-push
returns-in_err-push c before h e =
    let image = c.args.image.now in
    let s = c.args.s in
    let g = raised_bytes c.args.count in
    let so_far = c.loop-i.invariant before h e in
    let full = too_many 16 before (map g (items_at image s c.loop-i.i)) c.loop-i.pool so_far.1 c.in_err-push.field-0.0 7 (length (map g (items_at image s c.args.q))) c.in_err-push.ensures.value
    (omega (
      arith,
      length-map (items_at image s c.loop-i.i) g,
      length-map (items_at image s c.args.q) g,
      items_length image s c.loop-i.i,
      items_length image s c.args.q,
      c.loop-i-test.true,
      c.from-i-end.ensures,
    )) in
    (ap answer_number (passed _ c.from_residual-in_err-push.ensures.1) ∙ full.0, λ k. absurd (omega (arith, full.1)))

pub loop-i-preserved : goal.loop-i-preserved
loop-i-preserved c before h e =
    let image = c.args.image.now in
    let s = c.args.s in
    let i = c.loop-i.i in
    let g = raised_bytes c.args.count in
    let items = items_at image s i in
    let so_far = c.loop-i.invariant before h e in
    let room = has_room c.loop-i.pool.count 16 7 (omega arith) c.in_ok-push.ensures.value in
    let here = c.item.ensures ∙ ap (λ k. item_at image (k + i)) c.from.ensures in
    let next = ap (λ y. map g items ++ y ∷ []) (c.in_ok-bytes.ensures.1 ∙ ap g here) ∙ sym (map-append g items (item_at image (s + i) ∷ [])) ∙ ap (map g) (sym (items_more image s i)) in (
      omega (arith, kept_room 16 before (map g items) c.loop-i.pool so_far.1 room, items_length image s i, length-map items g),
      kept_more 16 before (map g items) c.loop-i.pool so_far.1 _ _ room c.push.ensures.pushed ∙ ap (λ l. kept 16 (before ++ l)) next,
    )

pub returns : goal.returns
returns c before h e =
    let image = c.args.image.now in
    let g = raised_bytes c.args.count in
    let so_far = c.loop-i.invariant before h e in
    let all : c.loop-i.i ≡ c.args.q = omega (arith, c.loop-i-test.false, c.loop-i.auto.i-end, c.from-i-end.ensures) in
    let fits : length before + length (map g (items_at image c.args.s c.args.q)) ≤ 16 =
    omega (arith, so_far.0, all, items_length image c.args.s c.args.q, length-map (items_at image c.args.s c.args.q) g) in
    (all_fit 16 7 _ fits, λ k. so_far.1 ∙ ap (λ i. kept 16 (before ++ map g (items_at image c.args.s i))) all)
