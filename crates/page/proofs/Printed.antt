-- The claim on the printed page.
-- Assumes nothing.
use Rattle.std.proofs.Common.{◌≡◌, ◌∙◌, ◌+◌, arith, ℕ, List, take, refl, sym, ap}
use Rattle.std.proofs.Math.Option.{Option, none, some}
use Rattle.errors.specs.Told.{gives, refuses}
use Rattle.laws.specs.Bytes.{Bytes}
use Rattle.laws.specs.Whole.{whole, whole_out, length_of}
use Rattle.laws.proofs.Whole.{whole_or_nothing}
use Rattle.frame.specs.Read.{read_frame}
use Rattle.frame.specs.Frame.{bytes_of}
use Rattle.frame.proofs.Frames.{frame_bytes_lem}
use Rattle.content.proofs.Admits.{SnippetAdmitted, SequenceAdmitted}
use Rattle.content.proofs.Points.{snippet_codec}
use Rattle.content.specs.Content.{point_bytes, Content}
use Rattle.content.specs.ReadImage.{read_image, read_items, read_snippet, read_sequence}
use Rattle.content.proofs.Images.{image_codec}
use Rattle.page.specs.Lines.{page_lines, page_of, page_item}
use Rattle.page.specs.Page.{Printed, Page}
use Rattle.page.proofs.Apart.{same_page}
use Rattle.page.proofs.Indexed.{lines_count, snippet_at, frame_at}
use Rattle.page.proofs.Long.{page_most}
use Rattle.page.proofs.Said.{snippet_said, frame_said}
use Rattle.readings.proofs.InPlace.{found_inside, all_found}
use Rattle.page.proofs.Shown.{lines_shown, joined_lines}

apart : (l m : List ℕ) → Bytes l → Bytes m → (c d : Content) → read_image l ≡ some c → read_image m ≡ some d → page_of c ≡ page_of d → l ≡ m
apart l m h g c d e f p =
    let s = image_codec.sound l c h e in
    let t = image_codec.sound m d g f in
    sym s.1 ∙ same_page c d s.0 t.0 p ∙ t.1

-- images that are printed, and print alike
items_apart : (l m : List ℕ) (o r : Option Content) (t u : List ℕ) → Bytes l → Bytes m → read_image l ≡ o → read_image m ≡ r → page_item o ≡ gives t → page_item r ≡ gives u → t ≡ u → l ≡ m
items_apart l m none r t u h g e f a b p = cc
items_apart l m (some c) none t u h g e f a b p = cc
items_apart l m (some c) (some d) t u h g e f a b p =
    let v : page_of c ≡ t = cc in
    let w : page_of d ≡ u = cc in
    apart l m h g c d e f (v ∙ p ∙ sym w)

told_apart : (l m a b : List ℕ) → Bytes l → Bytes m → (n k : ℕ)
    → length_of (whole a (page_item (read_image l))) ≡ gives n → length_of (whole b (page_item (read_image m))) ≡ gives k
    → take n (whole_out a (page_item (read_image l))) ≡ take k (whole_out b (page_item (read_image m))) → l ≡ m
told_apart l m a b h g n k e f p =
    items_apart l m (read_image l) (read_image m) _ _ h g refl refl
    ((whole_or_nothing a (page_item (read_image l))).answered n e) ((whole_or_nothing b (page_item (read_image m))).answered k f) p

printed : (l : List ℕ) → Bytes l → (c : Content) → read_image l ≡ some c → Printed l c
unfolding page_of
printed l h c e =
    let s = image_codec.sound l c h e in
    let a = s.0 in
    let shown = lines_shown c a in
    let most = page_most c a in
    record {
      standing = s.1;
      given = ap page_item e;
      text = refl;
      lines = shown;
      count = lines_count c;
      snippet = λ i points f. snippet_at c i points f ∙ ap some (snippet_said (i + 1) (point_bytes points) (omega (arith, found_inside c.snippets i points f, a.snippets.few))
          (snippet_codec.fit points (all_found SnippetAdmitted c.snippets i points a.snippets.each f)));
      frame = λ i j frames f g k. frame_at c i j frames f g k ∙ ap some (frame_said i (j + 1) (bytes_of f) (omega (arith, found_inside c.sequences i frames g, a.sequences.few))
          (omega (arith, found_inside frames j f k, (all_found SequenceAdmitted c.sequences i frames a.sequences.each g).few)) (frame_bytes_lem f));
      size = joined_lines (page_lines c) shown;
      least = most.0;
      most = most.1;
    }

unread : (l a : List ℕ) → read_image l ≡ none → (length_of (whole a (page_item (read_image l))) ≡ refuses 18) × (whole_out a (page_item (read_image l)) ≡ a)
unread l a e = (ap (λ o. length_of (whole a (page_item o))) e, ap (λ o. whole_out a (page_item o)) e)

pub page : Page
unfolding page_of read_image read_items read_snippet read_sequence read_frame
page = record { apart = apart; told_apart = told_apart; printed = printed; unread = unread; example = refl; fuller = refl; longest = refl }
