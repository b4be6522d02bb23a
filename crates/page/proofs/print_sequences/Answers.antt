-- A sequence's lines more.
use Rattle.std.proofs.Common.{◌≡◌, ◌+◌, ◌*◌, ◌<◌, ◌∙◌, ap, sym, arith, length, map, drop, List, ℕ, [], ◌∷◌}
use Rattle.laws.specs.Copied.{placed}
use Rattle.laws.specs.Lists.{joined}
use Rattle.laws.proofs.Lists.{joined_append}
use Rattle.frame.specs.declared.FrameBuilder.{FrameBuilder}
use Rattle.readings.specs.InPlace.{item_at}
use Rattle.readings.specs.InPlace.{items_at, frames_in}
use Rattle.page.specs.Lines.{frame_lines, numbered}
use Rattle.laws.proofs.Copies.{placed_none}
use Rattle.page.proofs.Placed.{lines_placed}
use Rattle.page.proofs.Numbered.{numbered_next}
use Rattle.readings.proofs.InPlace.{items_next, items_end}
use Rattle.page.proofs.Standing.{frames_next}
use Rattle.page.proofs.Wide.{frames_wide}
use Rattle.page.proofs.print_sequences.Goals as goal

-- the lines of sequences from number i on, behind so many others
left : ℕ → ℕ → List (List FrameBuilder) → List ℕ → List ℕ
left above i sequences out = placed out (37 * above) (joined (joined (numbered frame_lines i sequences)))

none_left : (above i : ℕ) (sequences : List (List FrameBuilder)) (out : List ℕ) → sequences ≡ [] → left above i sequences out ≡ out
unfolding left
none_left above i sequences out e = ap (λ l. placed out (37 * above) (joined (joined (numbered frame_lines i l)))) e ∙ placed_none out (37 * above)

one_left : (above i n : ℕ) (sequences : List (List FrameBuilder)) (fs : List FrameBuilder) (rest : List (List FrameBuilder)) (out : List ℕ) → sequences ≡ fs ∷ rest → n ≡ length fs
    → left (above + n) (i + 1) rest (placed out (37 * above) (joined (frame_lines i fs))) ≡ left above i sequences out
unfolding left
one_left above i n sequences fs rest out e h =
    let r = joined (numbered frame_lines (i + 1) rest) in
    lines_placed out above (above + n) (length fs) (joined (frame_lines i fs)) (joined r) (frames_wide i 1 fs) (omega (arith, h))
    ∙ ap (placed out (37 * above)) (sym (joined_append (frame_lines i fs) r))
    ∙ ap (λ l. placed out (37 * above) (joined (joined l))) (sym (numbered_next frame_lines i sequences fs rest e))

pub print_frames-above-requires : goal.print_frames-above-requires
print_frames-above-requires c =
    let image = c.args.image.now in
    let i = c.loop-i.i in
    let here = c.item.ensures ∙ ap (λ k. item_at image (k + i)) c.from.ensures in
    omega (
      arith,
      c.loop-i.invariant.1,
      c.loop-i.auto.out,
      ap (λ l. length (frames_in l)) here,
      frames_next image c.args.s c.args.q i (omega (arith, c.loop-i-test.true, c.from-i-end.ensures)),
    )

pub overflow_add-above : goal.overflow_add-above
overflow_add-above c =
    let image = c.args.image.now in
    let i = c.loop-i.i in
    let here = c.item.ensures ∙ ap (λ k. item_at image (k + i)) c.from.ensures in
    omega (
      arith,
      c.loop-i.invariant.1,
      c.loop-i.auto.out,
      c.print_frames-above.ensures.value,
      ap (λ l. length (frames_in l)) here,
      frames_next image c.args.s c.args.q i (omega (arith, c.loop-i-test.true, c.from-i-end.ensures)),
    )

pub loop-i-preserved : goal.loop-i-preserved
unfolding left
loop-i-preserved c =
    let image = c.args.image.now in
    let i = c.loop-i.i in
    let inside : i < c.args.q = omega (arith, c.loop-i-test.true, c.from-i-end.ensures) in
    let here = c.item.ensures ∙ ap (λ k. item_at image (k + i)) c.from.ensures in
    let fs = frames_in (item_at image (c.args.s + i)) in
    let rest = map frames_in (drop (i + 1) (items_at image c.args.s c.args.q)) in
    let many = c.print_frames-above.ensures.value ∙ ap (λ l. length (frames_in l)) here in
    let printed = c.print_frames-above.ensures.out_after ∙ ap (λ l. placed c.loop-i.out (37 * c.loop-i.above) (joined (frame_lines i (frames_in l)))) here in (
      ap (left (c.loop-i.above + c.print_frames-above.result) (i + 1) rest) printed
          ∙ one_left c.loop-i.above i c.print_frames-above.result _ fs rest c.loop-i.out (ap (map frames_in) (items_next image c.args.s c.args.q i inside)) many
          ∙ c.loop-i.invariant.0,
      omega (arith, c.loop-i.invariant.1, many, frames_next image c.args.s c.args.q i inside),
    )

pub returns : goal.returns
unfolding left
returns c =
    let i = c.loop-i.i in
    sym (none_left c.loop-i.above i _ c.loop-i.out (ap (map frames_in) (items_end c.args.image.now c.args.s c.args.q i (omega (arith, c.loop-i-test.false, c.from-i-end.ensures)))))
    ∙ c.loop-i.invariant.0
