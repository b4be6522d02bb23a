-- The lines by their places.
-- Assumes nothing.
use Rattle.std.proofs.Common.{◌≡◌, ◌+◌, ◌∙◌, ◌++◌, ℕ, zero, suc, List, [], ◌∷◌, map, length, take, refl, ap, arith}
use Rattle.std.proofs.Math.Option.{some}
use Rattle.std.proofs.Math.ListN.{get_elem?}
use lib.ListN.{length-append, length-map}
use Rattle.laws.specs.Lists.{joined}
use Rattle.frame.specs.declared.FrameBuilder.{FrameBuilder}
use Rattle.frame.specs.Frame.{bytes_of}
use Rattle.content.specs.Content.{Content, point_bytes}
use Rattle.content.proofs.Codec.{none_some, some_inj}
use Rattle.readings.proofs.Items.{found_left, found_right, found_map}
use Rattle.page.specs.Lines.{snippet_line, frame_line, frame_lines, numbered, page_lines}

found_numbered : {A B : Type 0} (f : ℕ → A → B) (n m : ℕ) (xs : List A) (i : ℕ) (x : A) → m ≡ n + i → get_elem? xs i ≡ some x → get_elem? (numbered f n xs) i ≡ some (f m x)
found_numbered f n m [] i x h e = none_some x e
found_numbered f n m (y ∷ xs) zero x h e = (λ k. some (f (at k) (some_inj e k))) where
  at : n ≡ m
  at = omega arith
found_numbered f n m (y ∷ xs) (suc i) x h e = found_numbered f (suc n) m xs i x (omega arith) e

pub length_numbered : {A B : Type 0} (f : ℕ → A → B) (n : ℕ) (xs : List A) → length (numbered f n xs) ≡ length xs
length_numbered f n [] = refl
length_numbered f n (x ∷ xs) = ap suc (length_numbered f (suc n) xs)

length_lines : (i : ℕ) (fs : List FrameBuilder) → length (frame_lines i fs) ≡ length fs
length_lines i fs = length_numbered (frame_line i) 1 (map bytes_of fs) ∙ length-map fs bytes_of

sequences_count : (n : ℕ) (qs : List (List FrameBuilder)) → length (joined (numbered frame_lines n qs)) ≡ length (joined qs)
sequences_count n [] = refl
sequences_count n (q ∷ qs) =
    omega (arith, length-append (frame_lines n q) (joined (numbered frame_lines (suc n) qs)), length-append q (joined qs), length_lines n q, sequences_count (suc n) qs)

pub lines_count : (c : Content) → length (page_lines c) ≡ length c.snippets + length (joined c.sequences)
lines_count c =
    omega (
      arith,
      length-append (numbered snippet_line 1 (map point_bytes c.snippets)) (joined (numbered frame_lines 0 c.sequences)),
      length_numbered snippet_line 1 (map point_bytes c.snippets),
      length-map c.snippets point_bytes,
      sequences_count 0 c.sequences,
    )

pub snippet_at : (c : Content) (i : ℕ) (points : _) → get_elem? c.snippets i ≡ some points → get_elem? (page_lines c) i ≡ some (snippet_line (i + 1) (point_bytes points))
snippet_at c i points e =
    found_left (numbered snippet_line 1 (map point_bytes c.snippets)) (joined (numbered frame_lines 0 c.sequences)) i (snippet_line (i + 1) (point_bytes points))
    (found_numbered snippet_line 1 (i + 1) (map point_bytes c.snippets) i (point_bytes points) (omega arith) (found_map point_bytes c.snippets i points e))

frame_in : (n m : ℕ) (qs : List (List FrameBuilder)) (i j k : ℕ) (fs : List FrameBuilder) (f : FrameBuilder) → m ≡ n + i → k ≡ length (joined (take i qs)) + j
    → get_elem? qs i ≡ some fs → get_elem? fs j ≡ some f → get_elem? (joined (numbered frame_lines n qs)) k ≡ some (frame_line m (j + 1) (bytes_of f))
frame_in n m [] i j k fs f h g e d = none_some fs e
frame_in n m (q ∷ qs) zero j k fs f h g e d =
    let found = found_numbered (frame_line n) 1 (j + 1) (map bytes_of q) j (bytes_of f) (omega arith) (found_map bytes_of q j f (ap (λ l. get_elem? l j) (some_inj e) ∙ d)) in
    let at : k ≡ j = omega (arith, g) in
    let number : n ≡ m = omega (arith, h) in
    ap (get_elem? (frame_lines n q ++ joined (numbered frame_lines (suc n) qs))) at
    ∙ found_left (frame_lines n q) (joined (numbered frame_lines (suc n) qs)) j (frame_line n (j + 1) (bytes_of f)) found
    ∙ ap (λ i. some (frame_line i (j + 1) (bytes_of f))) number
frame_in n m (q ∷ qs) (suc i) j k fs f h g e d =
    found_right (frame_lines n q) (joined (numbered frame_lines (suc n) qs)) (length (joined (take i qs)) + j) k (omega (arith, g, length_lines n q, length-append q (joined (take i qs))))
    ∙ frame_in (suc n) m qs i j (length (joined (take i qs)) + j) fs f (omega arith) refl e d

pub frame_at : (c : Content) (i j : ℕ) (fs : List FrameBuilder) (f : FrameBuilder) → get_elem? c.sequences i ≡ some fs → get_elem? fs j ≡ some f
    → get_elem? (page_lines c) (length c.snippets + length (joined (take i c.sequences)) + j) ≡ some (frame_line i (j + 1) (bytes_of f))
frame_at c i j fs f e d =
    let s = numbered snippet_line 1 (map point_bytes c.snippets) in
    found_right s (joined (numbered frame_lines 0 c.sequences)) (length (joined (take i c.sequences)) + j) _
    (omega (arith, length_numbered snippet_line 1 (map point_bytes c.snippets), length-map c.snippets point_bytes))
    ∙ frame_in 0 i c.sequences i j _ fs f (omega arith) refl e d
