-- What the functions answer, by what is known of an image's content.
-- Assumes nothing.
use Rattle.std.specs.Prelude.{Ok}
use Rattle.std.specs.declared.option.Option as rust
use mathlib.Core.Path.{◌≡◌, refl, sym, ap, ◌∙◌}
use mathlib.Core.Bool.{◌&&◌}
use mathlib.Core.List.{List, [], ◌∷◌}
use mathlib.Core.Option.{Option, none, some}
use Prim.Native.Nat.{ℕ, zero, suc, ◌+◌, ◌≤◌, ◌<◌}
use native.Mathlib.Omega.{arith}
use lib.Dec.{leb}
use lib.ListN.{length, get_or, get_elem?}
use Rattle.errors.specs.Packed.{packed}
use Rattle.errors.specs.Told.{gives}
use Rattle.snippet.proofs.Points.{byte_back}
use Rattle.frame.specs.declared.FrameBuilder.{FrameBuilder}
use Rattle.content.specs.Content.{Point, Content}
use Rattle.content.proofs.Admits.{points_in}
use Rattle.content.specs.ReadImage.{and_then, read_snippet, read_frames, read_sequence, read_image}
use Rattle.content.proofs.Codec.{none_some, some_inj, cond_some}
use Rattle.reader.specs.Items.{element, at_told}
use Rattle.reader.proofs.Placed.{elem_some, elem_none}
use Rattle.readings.specs.InPlace.{header_of, item_at, NthFrame}
use Rattle.readings.specs.Readings.{point_answer, frame_answer}
use Rattle.readings.proofs.Codes.{absent_point, point_code, absent_frame, frame_code}
use Rattle.readings.proofs.Standing.{Known, known}

-- the bytes of a snippet and its points
elem_points : (bs : List ℕ) (j b : ℕ) → get_elem? bs j ≡ some b → b < 256 → b ≡ point_code (get_elem? (points_in bs) j)
elem_points [] j b e h = none_some b e
elem_points (x ∷ bs) zero b e h = sym (some_inj e) ∙ sym (byte_back x (rw (← (some_inj e)) at h))
elem_points (x ∷ bs) (suc j) b e h = elem_points bs j b e h

no_points : (bs : List ℕ) (j : ℕ) → get_elem? bs j ≡ none → absent_point ≡ point_code (get_elem? (points_in bs) j)
no_points [] j e = refl
no_points (x ∷ bs) zero e = none_some x (sym e)
no_points (x ∷ bs) (suc j) e = no_points bs j e

snippet_points : (bs : List ℕ) (ps : List Point) → read_snippet bs ≡ some ps → points_in bs ≡ ps
unfolding read_snippet
snippet_points bs ps e = some_inj (cond_some (leb 1 (length bs) && leb (length bs) 16) (some (points_in bs)) e).1

sequence_frames : (bs : List ℕ) (fs : List FrameBuilder) → read_sequence bs ≡ some fs → read_frames 32 bs ≡ some fs
unfolding read_sequence
sequence_frames bs fs e = (cond_some (leb 1 (length bs)) (read_frames 32 bs) e).1

no_element : {A : Type 0} (ls : List (List A)) (i j : ℕ) → length ls ≤ i → none ≡ element ls i j
no_element ls i j h = sym (ap (λ o. and_then o (λ l. get_elem? l j)) (elem_none ls i h))

an_element : {A : Type 0} (ls : List (List A)) (i j : ℕ) (h : i < length ls) → element ls i j ≡ get_elem? (get_or ls i []) j
an_element ls i j h = ap (λ o. and_then o (λ l. get_elem? l j)) (elem_some ls i [] h)

module _ (image : List ℕ) (s q : ℕ) (t : Ok (s, q) ≡ header_of (read_image image)) where
  -- what holds of any content that is known holds of what is read
  of_content : (P : Option Content → Type 0) → ((c : Content) → Known image c → s ≡ length c.snippets → q ≡ length c.sequences → P (some c)) → P (read_image image)
  of_content P f = go (read_image image) refl t where
    go : (o : Option Content) → read_image image ≡ o → Ok (s, q) ≡ header_of o → P o
    go none e t = cc
    go (some c) e t =
        let n : ◌≡◌ {A = ℕ × ℕ} (s, q) (length c.snippets, length c.sequences) = cc in
        f c (known image c e) (ap (λ (x : ℕ × ℕ). x.0) n) (ap (λ (x : ℕ × ℕ). x.1) n)

  -- an item of those that were counted
  module _ (i j : ℕ) where
    pub point_past : s ≤ i → gives absent_point ≡ point_answer (read_image image) i j
    point_past h =
        of_content (λ (o : Option Content). gives absent_point ≡ point_answer o i j)
        (λ c k e f. ap (λ (p : Option Point). gives (point_code p)) (no_element c.snippets i j (omega arith)))

    module _ (h : i < s) where
      point_by : (n : ℕ) → ((ps : List Point) → points_in (item_at image i) ≡ ps → n ≡ point_code (get_elem? ps j))
          → gives n ≡ point_answer (read_image image) i j
      point_by n d =
          of_content (λ (o : Option Content). gives n ≡ point_answer o i j)
          (λ c k e f.
          let g : i < length c.snippets = omega arith in
          let p : read_snippet (item_at image i) ≡ some (get_or c.snippets i []) = sym (k.snippet i (omega (arith, k.snippets))) ∙ elem_some c.snippets i [] g in
          ap gives (d (get_or c.snippets i []) (snippet_points (item_at image i) _ p) ∙ ap point_code (sym (an_element c.snippets i j g))))

      pub point_there : (b : ℕ) → get_elem? (item_at image i) j ≡ some b → b < 256 → gives b ≡ point_answer (read_image image) i j
      point_there b d w = point_by b (λ ps p. elem_points (item_at image i) j b d w ∙ ap (λ (l : List Point). point_code (get_elem? l j)) p)

      pub point_absent : get_elem? (item_at image i) j ≡ none → gives absent_point ≡ point_answer (read_image image) i j
      point_absent d = point_by absent_point (λ ps p. no_points (item_at image i) j d ∙ ap (λ (l : List Point). point_code (get_elem? l j)) p)

    pub frame_past : q ≤ i → absent_frame ≡ packed 56 (frame_answer (read_image image) i j)
    frame_past h =
        of_content (λ (o : Option Content). absent_frame ≡ packed 56 (frame_answer o i j))
        (λ c k e f. ap frame_code (no_element c.sequences i j (omega arith)))

    pub frame_there : i < q → (r : rust.Option FrameBuilder) → NthFrame (item_at image (s + i)) j r
        → frame_code (at_told r) ≡ packed 56 (frame_answer (read_image image) i j)
    frame_there h r w =
        of_content (λ (o : Option Content). frame_code (at_told r) ≡ packed 56 (frame_answer o i j))
        (λ c k e f.
        let g : i < length c.sequences = omega arith in
        let n : get_or image 0 0 + i ≡ s + i = omega (arith, k.snippets) in
        let p : read_sequence (item_at image (s + i)) ≡ some (get_or c.sequences i []) =
        ap (λ (m : ℕ). read_sequence (item_at image m)) (sym n) ∙ sym (k.sequence i (omega (arith, k.sequences))) ∙ elem_some c.sequences i [] g
        in
        ap frame_code (w (get_or c.sequences i []) (sequence_frames (item_at image (s + i)) _ p) ∙ sym (an_element c.sequences i j g)))
