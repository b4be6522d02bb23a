-- What is found to be an image is what the reader reads, and what the loop over the frames asks.
-- Assumes nothing.
use Rattle.std.specs.Prelude.{Result, Ok, Err}
use mathlib.Core.Path.{◌≡◌, refl, sym, ap, ◌∙◌}
use mathlib.Core.Bool.{Bool, true, false, cond, ◌&&◌}
use mathlib.Core.List.{List, [], ◌∷◌}
use mathlib.Core.Option.{Option, none, some}
use Prim.Native.Nat.{ℕ, ◌+◌, ◌≤◌}
use borrow.Author.Tests.{le-leb}
use lib.Dec.{ltb, leb, eqb}
use lib.ListN.{length, take, drop, get_or}
use Rattle.laws.specs.Bytes.{Bytes}
use Rattle.errors.specs.declared.Error.{Error}
use Rattle.frame.specs.declared.FrameBuilder.{FrameBuilder}
use Rattle.content.specs.Content.{Content}
use Rattle.content.specs.ReadImage.{and_then, every, read_frames, read_sequence, all_zero, counts_fit, read_image}
use Rattle.reader.specs.Reading.{Reading, Points, Frames, reading_of}
use Rattle.reader.specs.Flat.{push_items, end_run}
use Rattle.reader.specs.Walk.{frames_from, snippet_fits, push_snippet, push_sequence, Walked, item, walk, Scan, sequences_then, after_snippets, snippets_then, after_counts, scan, Scans}
use Rattle.reader.proofs.Capacity.{raw_snippet, snippet_raw, sequence_raw}
use Rattle.reader.proofs.Running.{ok, every_ok}
use Rattle.reader.proofs.Whole.{no_points, no_frames, reading_from, whole}
use Rattle.readings.specs.InPlace.{present, sequence_fits, kept, header_of}
use Rattle.readings.proofs.Standing.{known}

-- ---- one item

some_found : {A : Type 0} (t : Bool) (a : A) → present (cond t (some a) none) ≡ t
some_found true a = refl
some_found false a = refl

then_found : {A B : Type 0} (m : Option A) (f : A → B) → present (and_then m (λ x. some (f x))) ≡ present m
then_found none f = refl
then_found (some x) f = refl

snippet_found : (bs : List ℕ) (o : Points) → present (push_snippet bs o) ≡ snippet_fits bs
snippet_found bs o = ap present (snippet_raw bs o) ∙ then_found (raw_snippet bs) (λ x. end_run (push_items o x)) ∙ some_found (snippet_fits bs) bs

sequence_found : (bs : List ℕ) (o : Frames) → present (push_sequence bs o) ≡ sequence_fits bs
unfolding read_sequence
sequence_found bs o = ap present (sequence_raw bs o) ∙ then_found (read_sequence bs) (λ fs. end_run (push_items o fs)) ∙ go (leb 1 (length bs)) where
  go : (t : Bool) → present (cond t (read_frames 32 bs) none) ≡ (t && present (read_frames 32 bs))
  go true = refl
  go false = refl

-- ---- the items that end at the pointers

abbrev pub last_of : {S : Type 0} → Option (Walked S) → Option ℕ
last_of none = none
last_of (some w) = some w.last

-- walks whose steps find the same items end alike
module _ {S T : Type 0} (f : List ℕ → S → Option S) (g : List ℕ → T → Option T) (image : List ℕ) (same : (bs : List ℕ) (o : S) (p : T) → present (f bs o) ≡ present (g bs p)) where
  walk_same : (es : List ℕ) (a : ℕ) (o : S) (p : T) → last_of (walk f image a es o) ≡ last_of (walk g image a es p)
  walk_same [] a o p = refl
  walk_same (e ∷ es) a o p =
      go (λ o' p'. walk_same es e o' p') (ltb a e) (ltb e (length image)) (f (item image a e) o) (g (item image a e) p) (same (item image a e) o p)
    where
      go : ((o' : S) (p' : T) → last_of (walk f image e es o') ≡ last_of (walk g image e es p')) → (t u : Bool) (m : Option S) (n : Option T)
          → present m ≡ present n
          → last_of (cond t (cond u (and_then m (λ o'. walk f image e es o')) none) none) ≡ last_of (cond t (cond u (and_then n (λ p'. walk g image e es p')) none) none)
      go ih false u m n h = refl
      go ih true false m n h = refl
      go ih true true none none h = refl
      go ih true true none (some p') h = cc
      go ih true true (some o') none h = cc
      go ih true true (some o') (some p') h = ih o' p'

-- ---- the image

abbrev zeros_after : List ℕ → Option ℕ → Bool
zeros_after image none = false
zeros_after image (some last) = all_zero (drop (last + 1) image)

-- q sequences, whose pointers stand from index at on
abbrev sequences_fit : List ℕ → ℕ → ℕ → Option ℕ → Bool
sequences_fit image at q none = false
sequences_fit image at q (some last) = zeros_after image (last_of (walk push_sequence image last (take q (drop at image)) no_frames))

-- s snippets, then q sequences
abbrev items_fit : List ℕ → ℕ → ℕ → Bool
items_fit image s q = sequences_fit image (2 + s) q (last_of (walk push_snippet image (1 + s + q) (take s (drop 2 image)) no_points))

abbrev image_fits : List ℕ → Bool
image_fits image =
    cond (eqb (length image) 100)
    (cond (counts_fit (get_or image 0 0) (get_or image 1 0)) (items_fit image (get_or image 0 0) (get_or image 1 0)) false)
    false

-- any scan that finds the same items finds an image in the same bytes
module _ {S Q : Type 0} (one : List ℕ → S → Option S) (many : List ℕ → Q → Option Q) (image : List ℕ) (a : S) (b : Q)
    (so : (bs : List ℕ) (o : S) → present (one bs o) ≡ snippet_fits bs) (sq : (bs : List ℕ) (o : Q) → present (many bs o) ≡ sequence_fits bs) where
  sequences_found : (x : S) (m : Option (Walked Q)) → present (sequences_then one many image a b x m) ≡ zeros_after image (last_of m)
  sequences_found x none = refl
  sequences_found x (some w) = some_found (all_zero (drop (w.last + 1) image)) _

  snippets_found : (s q : ℕ) (m : Option (Walked S)) → present (snippets_then one many image a b s q m) ≡ sequences_fit image (2 + s) q (last_of m)
  unfolding after_snippets
  snippets_found s q none = refl
  snippets_found s q (some w) =
      let es : List ℕ = take q (drop (2 + s) image) in
      sequences_found w.state (walk many image w.last es b)
      ∙ ap (zeros_after image) (walk_same many push_sequence image (λ bs o p. sq bs o ∙ sym (sequence_found bs p)) es w.last b no_frames)

  items_found : (s q : ℕ) → present (after_counts one many image a b s q) ≡ items_fit image s q
  unfolding after_counts
  items_found s q =
      let es : List ℕ = take s (drop 2 image) in
      snippets_found s q (walk one image (1 + s + q) es a)
      ∙ ap (sequences_fit image (2 + s) q) (walk_same one push_snippet image (λ bs o p. so bs o ∙ sym (snippet_found bs p)) es (1 + s + q) a no_points)

  scan_found : present (scan one many image a b) ≡ image_fits image
  scan_found = go (eqb (length image) 100) (counts_fit (get_or image 0 0) (get_or image 1 0)) where
    go : (t u : Bool)
        → present (cond t (cond u (after_counts one many image a b (get_or image 0 0) (get_or image 1 0)) none) none)
        ≡ cond t (cond u (items_fit image (get_or image 0 0) (get_or image 1 0)) false) false
    go true true = items_found (get_or image 0 0) (get_or image 1 0)
    go true false = refl
    go false u = refl

-- ---- how a scan is answered

abbrev done : Reading → Bool
done (Ok r) = true
done (Err e) = false

reading_done : (o : Option Content) → present o ≡ done (reading_of o)
reading_done none = refl
reading_done (some c) = refl

scan_done : (m : Option (Scan Points Frames)) → done (reading_from m) ≡ present m
scan_done none = refl
scan_done (some r) = refl

module _ (image : List ℕ) (small : Bytes image) where
  image_found : present (read_image image) ≡ image_fits image
  image_found =
      reading_done (read_image image) ∙ ap done (sym (whole image small).1) ∙ scan_done (scan push_snippet push_sequence image no_points no_frames)
      ∙ scan_found push_snippet push_sequence image no_points no_frames snippet_found sequence_found

  header_by : {S Q : Type 0} (m : Option (Scan S Q)) (r : Result (ℕ × ℕ) Error) (x : S) (y : Q) → Scans image m r x y → present m ≡ present (read_image image)
      → r ≡ header_of (read_image image)
  header_by m r x y h e = go m (read_image image) refl h e where
    go : (m : Option (Scan _ _)) (o : Option Content) → read_image image ≡ o → Scans image m r x y → present m ≡ present o → r ≡ header_of o
    go none none n h e = h
    go none (some c) n h e = cc
    go (some w) none n h e = cc
    go (some w) (some c) n h e = let k = known image c n in h.0 ∙ (λ i. Ok (sym k.snippets i, sym k.sequences i))

  -- snippets and sequences that are not kept
  pub a_header : {S Q : Type 0} (a : S) (b : Q) (r : Result (ℕ × ℕ) Error) (x : S) (y : Q)
      → Scans image (scan (λ bs o. kept (snippet_fits bs) o) (λ bs o. kept (sequence_fits bs) o) image a b) r x y → r ≡ header_of (read_image image)
  a_header a b r x y h =
      header_by _ r x y h
      (scan_found _ _ image a b (λ bs o. some_found (snippet_fits bs) o) (λ bs o. some_found (sequence_fits bs) o) ∙ sym image_found)

-- ---- the frames of a sequence, one by one

abbrev pub all_ok : List (Result FrameBuilder Error) → Bool
all_ok [] = true
all_ok (Ok f ∷ fs) = all_ok fs
all_ok (Err e ∷ fs) = false

ok_found : (fs : List (Result FrameBuilder Error)) → all_ok fs ≡ present (every ok fs)
ok_found [] = refl
ok_found (Ok f ∷ fs) = ok_found fs ∙ sym (then_found (every ok fs) (λ fs. f ∷ fs))
ok_found (Err e ∷ fs) = refl

pub frames_ok : (l : List ℕ) → all_ok (frames_from 32 l) ≡ present (read_frames 32 l)
frames_ok l = ok_found (frames_from 32 l) ∙ ap present (every_ok 32 l)

pub sequence_kept : {S : Type 0} (l : List ℕ) (o : S) (t : Bool) → 1 ≤ length l → all_ok (frames_from 32 l) ≡ t → kept (sequence_fits l) o ≡ kept t o
sequence_kept l o t h e = ap (λ (u : Bool). kept (u && present (read_frames 32 l)) o) (le-leb 1 (length l) h) ∙ ap (λ (u : Bool). kept u o) (sym (frames_ok l) ∙ e)
