-- An image's items and frames, where they stand, are those that were read.
-- Assumes nothing.
use Rattle.std.proofs.Common.{◌≡◌, ◌+◌, ◌≤◌, ◌<◌, ◌∙◌, ℕ, zero, suc, Result, Ok, Err, List, [], ◌∷◌, map, length, drop, get_or, refl, sym, ap, subst, arith}
use Rattle.std.proofs.Math.Option.{Option, none, some}
use Rattle.std.proofs.Math.ListN.{get_elem?}
use lib.ListN.{length-map, drop_of_length-le}
use lib.Dec.{leb}
use Rattle.std.proofs.lemmas.List.{map-id}
use Rattle.errors.specs.declared.Error.{Error}
use Rattle.errors.specs.declared.Error.TheVariants.{NotAnImage}
use Rattle.laws.specs.Bytes.{All, Bytes}
use Rattle.frame.specs.declared.FrameBuilder.{FrameBuilder}
use Rattle.frame.specs.Read.{Parsed, read_frame}
use Rattle.content.specs.Content.{Content, point_bytes, Admitted}
use Rattle.content.proofs.Images.{image_codec}
use Rattle.content.specs.ReadImage.{on_option, every, and_then, read_frames, read_sequence, read_image}
use Rattle.content.proofs.Codec.{none_some, some_inj, cond_some}
use Rattle.reader.specs.Walk.{frames_from}
use Rattle.reader.proofs.Placed.{elem_some}
use Rattle.reader.proofs.Running.{ok, every_ok}
use Rattle.readings.specs.InPlace.{header_of, item_at, items_at, those, frames_in}
use Rattle.readings.proofs.Standing.{known}
use Rattle.readings.proofs.Items.{snippet_there}

-- ---- one item more

pub items_length : (image : List ℕ) (k n : ℕ) → length (items_at image k n) ≡ n
items_length image k zero = refl
items_length image k (suc n) = ap suc (items_length image (suc k) n)

pub items_next : (image : List ℕ) (k n i : ℕ) → i < n → drop i (items_at image k n) ≡ item_at image (k + i) ∷ drop (i + 1) (items_at image k n)
items_next image k zero i h = absurd (omega arith)
items_next image k (suc n) zero h = (λ t. item_at image (at t) ∷ items_at image (suc k) n) where
  at : k ≡ k + 0
  at = omega arith
items_next image k (suc n) (suc i) h =
    items_next image (suc k) n i (omega arith) ∙ (λ t. item_at image (at t) ∷ drop (next t) (items_at image k (suc n))) where
      at : suc k + i ≡ k + suc i
      at = omega arith

      next : suc (i + 1) ≡ suc i + 1
      next = omega arith

pub items_end : (image : List ℕ) (k n i : ℕ) → n ≤ i → drop i (items_at image k n) ≡ []
items_end image k n i h = drop_of_length-le (items_at image k n) {i = i} (omega (arith, h, items_length image k n))

pub items_all : (P : List ℕ → Type 0) (image : List ℕ) (k n i : ℕ) → All P (items_at image k n) → i < n → P (item_at image (k + i))
items_all P image k zero i a h = absurd (omega arith)
items_all P image k (suc n) zero a h = subst (λ j. P (item_at image j)) at a.0 where
  at : k ≡ k + 0
  at = omega arith
items_all P image k (suc n) (suc i) a h = subst (λ j. P (item_at image j)) at (items_all P image (suc k) n i a.1 (omega arith)) where
  at : suc k + i ≡ k + suc i
  at = omega arith

-- ---- the frames of the items

-- bytes have 32 frames at most
those_few : (k : ℕ) (l : List ℕ) → length (those (frames_from k l)) ≤ k
those_few zero [] = omega arith
those_few zero (b ∷ bs) = omega arith
those_few (suc k) [] = omega arith
those_few (suc k) (b ∷ bs) = go (those_few k) (read_frame (b ∷ bs)) where
  go : ((l : List ℕ) → length (those (frames_from k l)) ≤ k) → (o : Option Parsed) → length (those (on_option o (Err NotAnImage ∷ []) (λ p. Ok p.frame ∷ frames_from k p.rest))) ≤ suc k
  go ih none = omega arith
  go ih (some p) = omega (arith, ih p.rest)

pub frames_few : (bytes : List ℕ) → length (frames_in bytes) ≤ 32
frames_few bytes = those_few 32 bytes

-- ---- the items that were read

-- by what is found at a place
pub found_inside : {A : Type 0} (xs : List A) (i : ℕ) (x : A) → get_elem? xs i ≡ some x → i < length xs
found_inside [] i x e = none_some x e
found_inside (y ∷ xs) zero x e = omega arith
found_inside (y ∷ xs) (suc i) x e = omega (arith, found_inside xs i x e)

pub all_found : {A : Type 0} (P : A → Type 0) (xs : List A) (i : ℕ) (x : A) → All P xs → get_elem? xs i ≡ some x → P x
all_found P [] i x h e = none_some x e
all_found P (y ∷ xs) zero x h e = subst P (some_inj e) h.0
all_found P (y ∷ xs) (suc i) x h e = all_found P xs i x h.1 e

-- what a function gives of n items, by what is found at each place
items_are : {A : Type 0} (g : List ℕ → A) (image : List ℕ) (k n : ℕ) (xs : List A) → length xs ≡ n → ((i : ℕ) → i < n → get_elem? xs i ≡ some (g (item_at image (k + i)))) → map g (items_at image k n) ≡ xs
items_are g image k zero [] h e = refl
items_are g image k zero (x ∷ xs) h e = absurd (omega arith)
items_are g image k (suc n) [] h e = absurd (omega arith)
items_are g image k (suc n) (x ∷ xs) h e =
    let rest = items_are g image (suc k) n xs (omega arith) (λ i t. e (suc i) (omega arith) ∙ ap (λ j. some (g (item_at image j))) (next i)) in
    λ t. first t ∷ rest t where
      next : (i : ℕ) → k + suc i ≡ suc k + i
      next i = omega arith

      at : k ≡ k + 0
      at = omega arith

      first : g (item_at image k) ≡ x
      first = ap (λ j. g (item_at image j)) at ∙ sym (some_inj (e 0 (omega arith)))

-- none of the frames was refused
frames_those : (rs : List (Result FrameBuilder Error)) (fs : List FrameBuilder) → every ok rs ≡ some fs → those rs ≡ fs
frames_those [] fs e = some_inj e
frames_those (Err r ∷ rs) fs e = none_some fs e
frames_those (Ok f ∷ rs) fs e = go (frames_those rs) (every ok rs) refl e where
  go : ((gs : List FrameBuilder) → every ok rs ≡ some gs → those rs ≡ gs) → (o : Option (List FrameBuilder)) → every ok rs ≡ o → and_then o (λ gs. some (f ∷ gs)) ≡ some fs
      → f ∷ those rs ≡ fs
  go ih none d t = none_some fs t
  go ih (some gs) d t = ap (λ l. f ∷ l) (ih gs d) ∙ some_inj t

frames_read : (bytes : List ℕ) (fs : List FrameBuilder) → read_sequence bytes ≡ some fs → frames_in bytes ≡ fs
unfolding read_sequence
frames_read bytes fs e = frames_those (frames_from 32 bytes) fs (every_ok 32 bytes ∙ (cond_some (leb 1 (length bytes)) (read_frames 32 bytes) e).1)

module _ (image : List ℕ) (b : Bytes image) (c : Content) (e : read_image image ≡ some c) where
  sequence_there : (i : ℕ) → i < length c.sequences → get_elem? c.sequences i ≡ some (frames_in (item_at image (length c.snippets + i)))
  sequence_there i h =
      let k = known image c e in
      let fs : List FrameBuilder = get_or c.sequences i [] in
      let found : get_elem? c.sequences i ≡ some fs = elem_some c.sequences i [] h in
      let at : get_or image 0 0 + i ≡ length c.snippets + i = omega (arith, k.snippets) in
      let read : read_sequence (item_at image (length c.snippets + i)) ≡ some fs =
      ap (λ j. read_sequence (item_at image j)) (sym at) ∙ sym (k.sequence i (omega (arith, k.sequences))) ∙ found in
      found ∙ ap some (sym (frames_read (item_at image (length c.snippets + i)) fs read))

  pub snippets_stand : items_at image 0 (length c.snippets) ≡ map point_bytes c.snippets
  snippets_stand =
      sym (map-id (items_at image 0 (length c.snippets)))
      ∙ items_are (λ l. l) image 0 (length c.snippets) (map point_bytes c.snippets) (length-map c.snippets point_bytes)
      (λ i h. snippet_there image b c e i (0 + i) h (omega arith))

  pub sequences_stand : map frames_in (items_at image (length c.snippets) (length c.sequences)) ≡ c.sequences
  sequences_stand = items_are frames_in image (length c.snippets) (length c.sequences) c.sequences refl sequence_there

-- ---- what is known by the counts

pub record Counted (l : List ℕ) (s q : ℕ) : Type 0 where
  pub content : Content
  pub read : read_image l ≡ some content
  pub good : Admitted content
  pub snippets : items_at l 0 s ≡ map point_bytes content.snippets
  pub sequences : map frames_in (items_at l s q) ≡ content.sequences
  pub count : s ≡ length content.snippets
  pub others : q ≡ length content.sequences

pub counted : (l : List ℕ) (s q : ℕ) → Bytes l → Ok (s, q) ≡ header_of (read_image l) → Counted l s q
counted l s q h e = go (read_image l) refl e where
  go : (o : Option Content) → read_image l ≡ o → Ok (s, q) ≡ header_of o → Counted l s q
  go none d e = cc
  go (some c) d e =
      let n : ◌≡◌ {A = ℕ × ℕ} (s, q) (length c.snippets, length c.sequences) = cc in
      record {
        content = c;
        read = d;
        good = (image_codec.sound l c h d).0;
        snippets = (λ i. items_at l 0 (n i).0) ∙ snippets_stand l h c d;
        sequences = (λ i. map frames_in (items_at l (n i).0 (n i).1)) ∙ sequences_stand l h c d;
        count = λ i. (n i).0;
        others = λ i. (n i).1;
      }
