-- How long a page is, what `page` knows of an image that it counted, and the page that is placed.
-- Assumes nothing.
use Rattle.std.proofs.Common.{◌≡◌, ◌+◌, ◌*◌, ◌≤◌, ◌++◌, ◌∙◌, ℕ, suc, List, [], ◌∷◌, map, length, drop, ap, refl, sym, arith}
use lib.ListN.{length-append, length-map}
use Rattle.laws.specs.Bytes.{All}
use Rattle.laws.specs.Copied.{copied, placed}
use Rattle.laws.specs.Lists.{joined}
use Rattle.laws.proofs.Lists.{joined_append, all_map}
use Rattle.laws.proofs.Copies.{copied_fits, placed_more}
use Rattle.content.specs.Content.{Content, byte_of, point_bytes, Admitted}
use Rattle.readings.specs.InPlace.{items_at, frames_in}
use Rattle.page.specs.Lines.{snippet_line, frame_lines, numbered, page_lines, page_of}
use Rattle.readings.proofs.InPlace.{Counted}
use Rattle.page.proofs.Indexed.{lines_count}
use Rattle.page.proofs.Shown.{lines_shown, joined_lines}
use Rattle.page.proofs.Wide.{snippet_wide}

pub snippets_few : (c : Content) → Admitted c → All (λ l. length l ≤ 16) (map point_bytes c.snippets)
snippets_few c a = all_map (λ l. length l ≤ 16) point_bytes (λ ps h. omega (arith, h.few, length-map ps byte_of)) c.snippets a.snippets.each

snippets_wide : (n : ℕ) (ls : List (List ℕ)) → All (λ l. length l ≤ 16) ls → length (joined (numbered snippet_line n ls)) ≡ 37 * length ls
snippets_wide n [] h = refl
snippets_wide n (l ∷ ls) h =
    omega (arith, length-append (snippet_line n l) (joined (numbered snippet_line (suc n) ls)), snippet_wide n l h.0, snippets_wide (suc n) ls h.1)

pub length_page : (c : Content) → Admitted c → length (page_of c) ≡ 37 * (length c.snippets + length (joined c.sequences))
unfolding page_of
length_page c a = joined_lines (page_lines c) (lines_shown c a) ∙ ap (λ n. 37 * n) (lines_count c)

-- ---- what is placed

module _ (l : List ℕ) (s q : ℕ) (f : Counted l s q) where
  pub size : length (page_of f.content) ≡ 37 * (s + length (joined (map frames_in (items_at l s q))))
  size = omega (arith, length_page f.content f.good, f.count, ap (λ x. length (joined x)) f.sequences)

  pub all_placed : (out : List ℕ) → length (page_of f.content) ≤ length out
      → placed (placed out 0 (joined (numbered snippet_line 1 (items_at l 0 s)))) (37 * s) (joined (joined (numbered frame_lines 0 (map frames_in (items_at l s q)))))
      ≡ page_of f.content ++ drop (length (page_of f.content)) out
  unfolding page_of
  all_placed out h =
      let c = f.content in
      let first = joined (numbered snippet_line 1 (map point_bytes c.snippets)) in
      let then = joined (numbered frame_lines 0 c.sequences) in
      let at : 37 * s ≡ 0 + length first = omega (arith, f.count, length-map c.snippets point_bytes, snippets_wide 1 (map point_bytes c.snippets) (snippets_few c f.good)) in
      (λ i. placed (placed out 0 (joined (numbered snippet_line 1 (f.snippets i)))) (at i) (joined (joined (numbered frame_lines 0 (f.sequences i)))))
      ∙ placed_more out 0 first (joined then)
      ∙ ap (copied out) (sym (joined_append (numbered snippet_line 1 (map point_bytes c.snippets)) then))
      ∙ copied_fits out (page_of c) h
