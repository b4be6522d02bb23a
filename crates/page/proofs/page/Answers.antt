-- What was counted is the page's content, and the page has room or not.
use Rattle.std.proofs.Common.{◌≡◌, ◌*◌, ◌≤◌, ◌<◌, ◌∙◌, ap, sym, subst, arith, length, map}
use Rattle.errors.specs.Told.{gives}
use Rattle.laws.specs.Bytes.{All}
use Rattle.laws.specs.Lists.{joined}
use Rattle.laws.specs.Copied.{placed}
use Rattle.laws.proofs.Lists.{bytes_of}
use Rattle.laws.proofs.Whole.{whole_or_nothing}
use Rattle.readings.specs.InPlace.{items_at, frames_in}
use Rattle.page.specs.Lines.{frame_lines, numbered, page_of, page_item}
use Rattle.readings.proofs.InPlace.{counted}
use Rattle.page.proofs.Pages.{size, snippets_few, all_placed}
use Rattle.page.proofs.page.Goals as goal

-- without room
pub returns-then-out-size-clause-answer : goal.returns-then-out-size-clause-answer
returns-then-out-size-clause-answer c =
    let f = counted _ _ _ (bytes_of _ (λ i. (c.type_inv.image i).fits)) c.in_ok-s.ensures in
    let short : length c.args.out.now < length (page_of f.content) = omega (arith, c.if-out-size.true, size _ _ _ f, c.lines-size.ensures.value) in
    sym ((whole_or_nothing c.args.out.now (page_item _)).short (page_of f.content) (ap page_item f.read) short).0

pub returns-then-out-size-clause-buffer : goal.returns-then-out-size-clause-buffer
returns-then-out-size-clause-buffer c =
    let f = counted _ _ _ (bytes_of _ (λ i. (c.type_inv.image i).fits)) c.in_ok-s.ensures in
    let short : length c.args.out.now < length (page_of f.content) = omega (arith, c.if-out-size.true, size _ _ _ f, c.lines-size.ensures.value) in
    sym ((whole_or_nothing c.args.out.now (page_item _)).short (page_of f.content) (ap page_item f.read) short).2

-- with room
pub print_snippets-requires : goal.print_snippets-requires
print_snippets-requires c =
    let f = counted _ _ _ (bytes_of _ (λ i. (c.type_inv.image i).fits)) c.in_ok-s.ensures in
    subst (All (λ l. length l ≤ 16)) (sym f.snippets) (snippets_few f.content f.good)

pub returns-clause-answer : goal.returns-clause-answer
returns-clause-answer c =
    let f = counted _ _ _ (bytes_of _ (λ i. (c.type_inv.image i).fits)) c.in_ok-s.ensures in
    let same : 37 * c.lines-size.result ≡ length (page_of f.content) = omega (arith, size _ _ _ f, c.lines-size.ensures.value) in
    let room : length (page_of f.content) ≤ length c.args.out.now = omega (arith, c.if-out-size.false, same) in
    ap gives same ∙ sym ((whole_or_nothing c.args.out.now (page_item _)).given (page_of f.content) (ap page_item f.read) room).0

pub returns-clause-buffer : goal.returns-clause-buffer
returns-clause-buffer c =
    let f = counted _ _ _ (bytes_of _ (λ i. (c.type_inv.image i).fits)) c.in_ok-s.ensures in
    let same : 37 * c.lines-size.result ≡ length (page_of f.content) = omega (arith, size _ _ _ f, c.lines-size.ensures.value) in
    let room : length (page_of f.content) ≤ length c.args.out.now = omega (arith, c.if-out-size.false, same) in
    c.print_sequences.ensures
    ∙ ap (λ o. placed o (37 * c.in_ok-s.s) (joined (joined (numbered frame_lines 0 (map frames_in (items_at c.args.image.now c.in_ok-s.s c.in_ok-s.q)))))) c.print_snippets.ensures
    ∙ all_placed _ _ _ f c.args.out.now room
    ∙ sym ((whole_or_nothing c.args.out.now (page_item _)).given (page_of f.content) (ap page_item f.read) room).2
