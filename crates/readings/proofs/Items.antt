-- The items where they stand are those that were read.
-- Assumes nothing.
use Rattle.std.proofs.Common.{◌≡◌, ◌+◌, ◌-◌, ◌<◌, ◌∙◌, ◌++◌, ℕ, zero, suc, List, [], ◌∷◌, map, length, take, drop, get_or, refl, sym, ap, subst, arith}
use Rattle.std.proofs.Math.Option.{some}
use Rattle.std.proofs.Math.ListN.{get_elem?}
use native.Mathlib.Decide.{dec_lt}
use lib.ListN.{length-map, take-append-drop}
use Rattle.laws.specs.Bytes.{Bytes}
use Rattle.laws.proofs.Lists.{all_left, all_right}
use Rattle.frame.specs.declared.FrameBuilder.{FrameBuilder}
use Rattle.content.specs.Content.{Point, Content, point_bytes, frames_bytes}
use Rattle.content.specs.ReadImage.{read_snippet, read_sequence, read_image}
use Rattle.content.proofs.Codec.{none_some, some_inj}
use Rattle.content.proofs.Points.{snippet_codec}
use Rattle.content.proofs.Sequences.{sequence_codec}
use Rattle.reader.proofs.Placed.{elem_some}
use Rattle.readings.specs.InPlace.{item_at, before_item}
use Rattle.readings.proofs.Standing.{known}

-- what is found in a list is found in front of another, and what is found in the other behind it
pub found_left : {A : Type 0} (xs ys : List A) (i : ℕ) (x : A) → get_elem? xs i ≡ some x → get_elem? (xs ++ ys) i ≡ some x
found_left [] ys i x e = none_some x e
found_left (z ∷ xs) ys zero x e = e
found_left (z ∷ xs) ys (suc i) x e = found_left xs ys i x e

pub found_right : {A : Type 0} (xs ys : List A) (i n : ℕ) → n ≡ length xs + i → get_elem? (xs ++ ys) n ≡ get_elem? ys i
found_right [] ys i n e = ap (get_elem? ys) (e ∙ omega arith)
found_right (x ∷ xs) ys i zero e = absurd (omega arith)
found_right (x ∷ xs) ys i (suc n) e = found_right xs ys i n (omega arith)

pub found_map : {A B : Type 0} (g : A → B) (xs : List A) (i : ℕ) (x : A) → get_elem? xs i ≡ some x → get_elem? (map g xs) i ≡ some (g x)
found_map g [] i x e = none_some x e
found_map g (y ∷ xs) zero x e = ap (λ z. some (g z)) (some_inj e)
found_map g (y ∷ xs) (suc i) x e = found_map g xs i x e

-- the items are bytes
item_bytes : (image : List ℕ) (k : ℕ) → Bytes image → Bytes (item_at image k)
unfolding item_at
item_bytes image k h =
    let p = before_item image k in
    let n = get_or image (2 + k) 0 - p in
    let d : List ℕ = drop (p + 1) image in
    all_left (λ b. b < 256) (take n d) (drop n d) (subst Bytes (sym (take-append-drop n d))
    (all_right (λ b. b < 256) (take (p + 1) image) d (subst Bytes (sym (take-append-drop (p + 1) image)) h)))

module _ (image : List ℕ) (b : Bytes image) (c : Content) (e : read_image image ≡ some c) where
  pub snippet_there : (i k : ℕ) → i < length c.snippets → k ≡ i → get_elem? (map point_bytes c.snippets) i ≡ some (item_at image k)
  snippet_there i k h g =
      let n = known image c e in
      let ps : List Point = get_or c.snippets i [] in
      let found : get_elem? c.snippets i ≡ some ps = elem_some c.snippets i [] h in
      let read : read_snippet (item_at image i) ≡ some ps = sym (n.snippet i (omega (arith, n.snippets))) ∙ found in
      found_map point_bytes c.snippets i ps found ∙ ap some (snippet_codec.sound (item_at image i) ps (item_bytes image i b) read).1
      ∙ ap (λ j. some (item_at image j)) (sym g)

  sequence_there : (i k : ℕ) → i < length c.sequences → k ≡ length c.snippets + i → get_elem? (map frames_bytes c.sequences) i ≡ some (item_at image k)
  sequence_there i k h g =
      let n = known image c e in
      let fs : List FrameBuilder = get_or c.sequences i [] in
      let found : get_elem? c.sequences i ≡ some fs = elem_some c.sequences i [] h in
      let at : get_or image 0 0 + i ≡ k = omega (arith, g, n.snippets) in
      let read : read_sequence (item_at image k) ≡ some fs =
      ap (λ j. read_sequence (item_at image j)) (sym at) ∙ sym (n.sequence i (omega (arith, n.sequences))) ∙ found in
      found_map frames_bytes c.sequences i fs found ∙ ap some (sequence_codec.sound (item_at image k) fs (item_bytes image k b) read).1

  pub item_there : (k : ℕ) → k < length c.snippets + length c.sequences
      → get_elem? (map point_bytes c.snippets ++ map frames_bytes c.sequences) k ≡ some (item_at image k)
  item_there k h = go (dec_lt k (length c.snippets)) where
    go : Dec (k < length c.snippets) → get_elem? (map point_bytes c.snippets ++ map frames_bytes c.sequences) k ≡ some (item_at image k)
    go (yes lt) = found_left (map point_bytes c.snippets) (map frames_bytes c.sequences) k (item_at image k) (snippet_there k k lt refl)
    go (no ge) =
        let i = k - length c.snippets in
        found_right (map point_bytes c.snippets) (map frames_bytes c.sequences) i k (omega (arith, length-map c.snippets point_bytes))
        ∙ sequence_there i k (omega arith) (omega arith)
