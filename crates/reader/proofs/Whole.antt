-- What the code reads is what the definition reads, laid end to end.
-- Assumes nothing.
use Rattle.std.specs.Prelude.{Ok, Err}
use mathlib.Core.Path.{◌≡◌, refl, sym, ap, ◌∙◌, subst}
use mathlib.Core.Bool.{Bool, true, false, cond, ◌&&◌}
use mathlib.Core.List.{List, [], ◌∷◌, ◌++◌, map}
use mathlib.Core.Option.{Option, none, some}
use Prim.Native.Nat.{ℕ, suc, ◌+◌, ◌≤◌, ◌<◌}
use native.Mathlib.Omega.{arith}
use borrow.Author.Tests.{eq-eqb, eqb-true, eqb-false, ne_eqb}
use lib.Dec.{leb, eqb}
use lib.ListN.{length, take, drop, length-take}
use lib.Seq.{take-add, take_at, drop_at, length-take-le}
use Rattle.laws.specs.Bytes.{All, Bytes}
use Rattle.errors.specs.declared.Error.{Error}
use Rattle.errors.specs.Told.{gives, refuses}
use Rattle.frame.specs.declared.FrameBuilder.{FrameBuilder}
use Rattle.frame.specs.Builder.{silent_frame}
use Rattle.content.specs.Content.{Point, Content, point_bytes}
use Rattle.content.proofs.Admits.{points_in}
use Rattle.content.specs.ReadImage.{on_option, and_then, every, read_snippet, read_sequence, Cut, cut, all_zero, Items, counts_fit, items_from, read_items, content_in, read_image}
use Rattle.content.proofs.Codec.{cons_eq}
use Rattle.content.proofs.Points.{points_there}
use Rattle.content.proofs.Items.{counts_sound}
use Rattle.reader.specs.Reading.{Reading, Points, Frames, no_runs, laid, reading_of}
use Rattle.reader.specs.Walk.{push_snippet, push_sequence, Walked, walk, Scan, sequences_then, after_snippets, snippets_then, after_counts, scan}
use Rattle.reader.specs.Told.{reading_told}
use Rattle.reader.proofs.Capacity.{Tracks, raw_snippet, raw_same, tracks_snippets, tracks_sequences}
use Rattle.reader.proofs.Cuts.{last_of, in_turn, after_cut, walk_cut, join_cut, cut_more, cut_append, cond_then, WasCut, was_cut}
use Rattle.reader.proofs.Flats.{shows}

abbrev pub no_points : Points
no_points = no_runs 15 0

abbrev pub no_frames : Frames
no_frames = no_runs 16 silent_frame

-- the reading of what was scanned
abbrev pub reading_from : Option (Scan Points Frames) → Reading
reading_from none = Err Error.NotAnImage
reading_from (some r) = Ok (record { snippets = r.snippets; sequences = r.sequences })

abbrev pub scanned : List ℕ → Reading
scanned image = reading_from (scan push_snippet push_sequence image no_points no_frames)

-- the same, after each walk
abbrev after_snippets_of : List ℕ → ℕ → ℕ → Option (Walked Points) → Option (Scan Points Frames)
after_snippets_of image s q m = snippets_then push_snippet push_sequence image no_points no_frames s q m

abbrev after_sequences_of : List ℕ → Points → Option (Walked Frames) → Option (Scan Points Frames)
after_sequences_of image s m = sequences_then push_snippet push_sequence image no_points no_frames s m

abbrev no_reading : Reading
no_reading = reading_from none

-- a reading is right for what the definition reads
abbrev Right : Option Content → Reading → Type 0
Right o r = (reading_told r ≡ on_option o (refuses 18) gives) × (r ≡ reading_of o)

via : {o o' : Option Content} {r r' : Reading} → o ≡ o' → r ≡ r' → Right o' r' → Right o r
via {o} {o'} {r} {r'} p e x = subst (λ (y : Reading). Right o y) (sym e) (subst (λ (y : Option Content). Right y r') (sym p) x)

none_right : Right none no_reading
none_right = (refl, refl)

refused_right : {o : Option Content} → o ≡ none → Right o no_reading
refused_right e = subst (λ (y : Option Content). Right y no_reading) (sym e) none_right

-- ---- snippets

-- reading points is taking the bytes
every_raw : (items : List (List ℕ)) → every read_snippet items ≡ and_then (every raw_snippet items) (λ xs. some (map points_in xs))
unfolding read_snippet
every_raw [] = refl
every_raw (bs ∷ items) = go (leb 1 (length bs) && leb (length bs) 16) (every read_snippet items) (every raw_snippet items) (every_raw items) where
  go : (t : Bool) (e : Option (List (List Point))) (m : Option (List (List ℕ))) → e ≡ and_then m (λ xs. some (map points_in xs))
      → and_then (cond t (some (points_in bs)) none) (λ y. and_then e (λ ys. some (y ∷ ys)))
      ≡ and_then (and_then (cond t (some bs) none) (λ x. and_then m (λ xs. some (x ∷ xs)))) (λ xs. some (map points_in xs))
  go false e m h = refl
  go true e none h = ap (λ (n : Option (List (List Point))). and_then n (λ ys. some (points_in bs ∷ ys))) h
  go true e (some xs) h = ap (λ (n : Option (List (List Point))). and_then n (λ ys. some (points_in bs ∷ ys))) h

-- ---- the last step

abbrev made : Option (List (List ℕ)) → Option (List (List FrameBuilder)) → Option Content
made x y = and_then (and_then x (λ xs. some (map points_in xs))) (λ s. and_then y (λ q. some (record { snippets = s; sequences = q })))

abbrev reads : Bool → Option Points → Option Frames → Option (Scan Points Frames)
reads zeros none n = none
reads zeros (some s) none = none
reads zeros (some s) (some q) = cond zeros (some (record { snippets = s; sequences = q })) none

cond_none : (t : Bool) → Right (cond t none none) no_reading
cond_none true = none_right
cond_none false = none_right

-- snippets by their bytes are their points
there : (xs : List (List ℕ)) → All Bytes xs → xs ≡ map point_bytes (map points_in xs)
there [] h = refl
there (x ∷ xs) h = cons_eq (sym (points_there x h.0)) (there xs h.1)

last_step : (t : Bool) (m : Option Points) (x : Option (List (List ℕ))) → Tracks 15 0 [] m x → ((xs : List (List ℕ)) → x ≡ some xs → All Bytes xs)
    → (n : Option Frames) (y : Option (List (List FrameBuilder))) → Tracks 16 silent_frame [] n y → Right (cond t (made x y) none) (reading_from (reads t m n))
last_step t none none k w n y j = cond_none t
last_step t none (some xs) k w n y j = absurd k
last_step t (some s) none k w n y j = absurd k
last_step t (some s) (some xs) k w none none j = cond_none t
last_step t (some s) (some xs) k w none (some ys) j = absurd j
last_step t (some s) (some xs) k w (some q) none j = absurd j
last_step false (some s) (some xs) k w (some q) (some ys) j = none_right
last_step true (some s) (some xs) k w (some q) (some ys) j =
    let a = shows 15 0 s xs k in
    let b = shows 16 silent_frame q ys j in
    let p = k ∙ ap (laid 15 0) (there xs (w xs refl)) in (
      λ i. gives (record { snippets = map points_in (a i); sequences = b i }),
      λ i. Ok (record { snippets = p i; sequences = j i }),
    )

-- ---- after the snippets

module _ (image : List ℕ) (s q last : ℕ) where
  snippets_none : (m : Option Points) → walk push_sequence image last (take q (drop (2 + s) image)) no_frames ≡ none
      → after_snippets_of image s q (and_then m (λ o. some (record { state = o; last = last }))) ≡ none
  unfolding after_snippets
  snippets_none none e = refl
  snippets_none (some o) e = ap (after_sequences_of image o) e

  snippets_some : (m : Option Points) (n : Option Frames) (end : ℕ)
      → walk push_sequence image last (take q (drop (2 + s) image)) no_frames ≡ and_then n (λ o. some (record { state = o; last = end }))
      → after_snippets_of image s q (and_then m (λ o. some (record { state = o; last = last }))) ≡ reads (all_zero (drop (end + 1) image)) m n
  unfolding after_snippets
  snippets_some none n end e = refl
  snippets_some (some o) none end e = ap (after_sequences_of image o) e
  snippets_some (some o) (some f) end e = ap (after_sequences_of image o) e

-- the items that were cut, read
items_read : (s : ℕ) (c d : Cut) → length c.items ≡ s
    → and_then (and_then (join_cut c d) (items_from s)) content_in ≡ cond (all_zero d.left) (made (every raw_snippet c.items) (every read_sequence d.items)) none
items_read s c d h =
    let r : Items = record { snippets = take s (c.items ++ d.items); sequences = drop s (c.items ++ d.items) } in
    sym (cond_then (all_zero d.left) (some r) content_in)
    ∙ rw (take_at c.items d.items s h, drop_at c.items d.items s h, every_raw c.items)

-- ---- the image

module _ (s q : ℕ) (l : List ℕ) (h : length l ≡ 98) (t : counts_fit s q ≡ true) (small : Bytes (s ∷ q ∷ l)) where
  abbrev image : List ℕ
  image = s ∷ q ∷ l

  abbrev first : ℕ
  first = 1 + s + q

  abbrev ends : List ℕ
  ends = take s l

  abbrev more : List ℕ
  more = take q (drop (2 + s) image)

  -- the definition, with the pointers in two runs
  image_cut : read_image image ≡ and_then (and_then (and_then (cut first ends (drop (first + 1) image)) (cut_more (last_of first ends) more)) (items_from s)) content_in
  unfolding read_image read_items
  image_cut =
      let k : first + 1 ≡ suc (suc (s + q)) = omega arith in
      let j : 2 + s ≡ suc (suc s) = omega arith in
      let d : drop (first + 1) image ≡ drop (s + q) l = ap (λ (n : ℕ). drop n image) k in
      let g : drop (2 + s) image ≡ drop s l = ap (λ (n : ℕ). drop n image) j in
      let e : take (s + q) l ≡ ends ++ more = take-add s q l ∙ ap (λ (z : List ℕ). take s l ++ take q z) (sym g) in
      simp (eq-eqb (length l) 98 h, t)
      (ap (λ (m : Option Cut). and_then (and_then m (items_from s)) content_in) ((λ i. cut first (e i) (sym d i)) ∙ cut_append ends first more (drop (first + 1) image)))

  module _ (c : Cut) (w : WasCut first ends image c) where
    abbrev last : ℕ
    last = last_of first ends

    after_snippets_lem : (n : Option Cut) → cut last more (drop (last + 1) image) ≡ n
        → Right (and_then (and_then (and_then n (join_cut c)) (items_from s)) content_in) (reading_from (after_snippets_of image s q (after_cut push_snippet image last no_points c)))
    after_snippets_lem none e =
        via {o = none} {o' = none} refl (ap reading_from (snippets_none image s q last (in_turn push_snippet c.items no_points) (walk_cut push_sequence image more last no_frames ∙ rw e))) none_right
    after_snippets_lem (some d) e =
        let b = counts_sound s q t in
        let v = was_cut more last image d e in
        let within1 : last < length image = w.within (omega arith) in
        let within2 : last_of last more < length image = v.within within1 in
        let n1 : length ends ≡ s = length-take-le s l (omega arith) in
        let n2 : length more ≤ 16 = omega (arith, length-take q (drop (2 + s) image)) in
        let k = tracks_snippets c.items (omega (arith, w.size)) (omega (arith, w.count)) in
        let j = tracks_sequences d.items (omega (arith, v.size, w.rises)) (omega (arith, v.count)) in
        let z : all_zero d.left ≡ all_zero (drop (last_of last more + 1) image) = ap all_zero v.left in
        let y : List (List ℕ) → List (List ℕ) → Option Content = λ a b. made (every raw_snippet a) (every read_sequence b) in
        via (items_read s c d (w.count ∙ n1) ∙ ap (λ (x : Bool). cond x (y c.items d.items) none) z)
        (ap reading_from (snippets_some image s q last (in_turn push_snippet c.items no_points) (in_turn push_sequence d.items no_frames) (last_of last more) (walk_cut push_sequence image more last no_frames ∙ rw e)))
        (last_step (all_zero (drop (last_of last more + 1) image)) (in_turn push_snippet c.items no_points) (every raw_snippet c.items) k (λ xs e. subst (All Bytes) (raw_same c.items xs e) (w.bytes small)) (in_turn push_sequence d.items no_frames) (every read_sequence d.items) j)

  after_counts_lem : (m : Option Cut) → cut first ends (drop (first + 1) image) ≡ m
      → Right (and_then (and_then (and_then m (cut_more (last_of first ends) more)) (items_from s)) content_in) (reading_from (after_snippets_of image s q (and_then m (after_cut push_snippet image (last_of first ends) no_points))))
  after_counts_lem none e = none_right
  after_counts_lem (some c) e =
      let w = was_cut ends first image c e in
      let r : Reading = reading_from (after_snippets_of image s q (after_cut push_snippet image (last_of first ends) no_points c)) in
      subst (λ (x : List ℕ). Right (and_then (and_then (and_then (cut (last_of first ends) more x) (join_cut c)) (items_from s)) content_in) r) (sym w.left)
      (after_snippets_lem c w (cut (last_of first ends) more (drop (last_of first ends + 1) image)) refl)

  counts_right : Right (read_image image) (reading_from (after_counts push_snippet push_sequence image no_points no_frames s q))
  unfolding after_counts
  counts_right =
      let m : Option Cut = cut first ends (drop (first + 1) image) in
      via image_cut (ap (λ (m : Option (Walked Points)). reading_from (after_snippets_of image s q m)) (walk_cut push_snippet image ends first no_points)) (after_counts_lem m refl)

-- what is refused at once
image_none : (s q : ℕ) (l : List ℕ) (t u : Bool) → eqb (length l) 98 ≡ t → counts_fit s q ≡ u → (t && u) ≡ false → read_image (s ∷ q ∷ l) ≡ none
unfolding read_image read_items
image_none s q l t u e f g = simp (e, f, g)

pub whole : (image : List ℕ) → Bytes image → Right (read_image image) (scanned image)
unfolding read_image read_items
whole [] small = none_right
whole (s ∷ []) small = none_right
whole (s ∷ q ∷ l) small = go (eqb (length (s ∷ q ∷ l)) 100) (counts_fit s q) refl refl where
  go : (t u : Bool) → eqb (length (s ∷ q ∷ l)) 100 ≡ t → counts_fit s q ≡ u
      → Right (read_image (s ∷ q ∷ l)) (reading_from (cond t (cond u (after_counts push_snippet push_sequence (s ∷ q ∷ l) no_points no_frames s q) none) none))
  go true true e f = let n = eqb-true (length (s ∷ q ∷ l)) 100 e in counts_right s q l (omega arith) f small
  go true false e f =
      let n = eqb-true (length (s ∷ q ∷ l)) 100 e in
      refused_right (image_none s q l true false (eq-eqb (length l) 98 (omega arith)) f refl)
  go false u e f =
      let d = eqb-false (length (s ∷ q ∷ l)) 100 e in
      refused_right (image_none s q l false u (ne_eqb (length l) 98 (λ n. d (omega arith))) f refl)

-- a reading that holds what the image says tells it
pub told : (l : List ℕ) → Bytes l → (r : Reading) → r ≡ reading_of (read_image l) → reading_told r ≡ on_option (read_image l) (refuses 18) gives
told l small r e = let w = whole l small in ap reading_told (e ∙ sym w.1) ∙ w.0
