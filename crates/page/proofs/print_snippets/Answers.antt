-- A line more.
use Rattle.std.proofs.Common.{◌≡◌, ◌+◌, ◌*◌, ◌≤◌, ◌<◌, ◌∙◌, ap, sym, subst, arith, length, List, ℕ, drop}
use Rattle.laws.specs.Copied.{placed}
use Rattle.laws.specs.Lists.{joined}
use Rattle.readings.specs.InPlace.{item_at}
use Rattle.readings.specs.InPlace.{items_at}
use Rattle.page.specs.Lines.{snippet_line, numbered}
use Rattle.page.proofs.Numbered.{line_more, no_line_more}
use Rattle.readings.proofs.InPlace.{items_next, items_end, items_all}
use Rattle.page.proofs.Wide.{snippet_wide}
use Rattle.page.proofs.print_snippets.Goals as goal

from_start : (i : ℕ) → i ≡ 0 + i
from_start i = omega arith

pub snippet_line-line-requires : goal.snippet_line-line-requires
snippet_line-line-requires c =
    let i = c.loop-i.i in
    let here = c.item.ensures ∙ ap (item_at c.args.image.now) (from_start i) in
    subst (λ l. length l ≤ 16) (sym here) (items_all (λ l. length l ≤ 16) c.args.image.now 0 c.args.s i c.requires (omega (arith, c.loop-i-test.true, c.from-i-end.ensures)))

pub loop-i-preserved : goal.loop-i-preserved
loop-i-preserved c =
    let image = c.args.image.now in
    let xs = items_at image 0 c.args.s in
    let i = c.loop-i.i in
    let inside : i < c.args.s = omega (arith, c.loop-i-test.true, c.from-i-end.ensures) in
    let x = item_at image (0 + i) in
    let line = c.snippet_line-line.ensures ∙ ap (snippet_line (i + 1)) (c.item.ensures ∙ ap (item_at image) (from_start i)) in
    ap (λ (o : List ℕ). placed o (37 * (i + 1)) (joined (numbered snippet_line (i + 1 + 1) (drop (i + 1) xs)))) (c.copy_at.ensures ∙ ap (placed c.loop-i.out (37 * i)) line)
    ∙ line_more snippet_line (drop i xs) x (drop (i + 1) xs) (i + 1) i (i + 1) c.loop-i.out (items_next image 0 c.args.s i inside)
    (snippet_wide (i + 1) x (items_all (λ l. length l ≤ 16) image 0 c.args.s i c.requires inside)) (omega arith)
    ∙ c.loop-i.invariant

pub returns : goal.returns
returns c =
    let i = c.loop-i.i in
    sym (no_line_more snippet_line _ (i + 1) (37 * i) c.loop-i.out (items_end c.args.image.now 0 c.args.s i (omega (arith, c.loop-i-test.false, c.from-i-end.ensures))))
    ∙ c.loop-i.invariant
