-- Images and contents: reading undoes laying out, two admitted contents have the same image exactly when they are the same, and what is
-- not read is the image of no admitted content.
-- Assumes nothing.
use mathlib.Core.Path.{◌≡◌, sym, ap, ◌∙◌, subst}
use mathlib.Core.Logic.{◌↔◌}
use mathlib.Core.List.{List, [], ◌∷◌, ◌++◌, map}
use mathlib.Core.Option.{none, some}
use Prim.Native.Nat.{ℕ, zero, suc, ◌+◌, ◌-◌, ◌<◌}
use native.Mathlib.Omega.{arith}
use lib.ListN.{length, replicate, length-map, length-append}
use Rattle.laws.proofs.Lists.{all_append, all_left, all_right, all_map}
use Rattle.laws.specs.Bytes.{All, Bytes}
use Rattle.laws.specs.Lists.{joined}
use Rattle.frame.specs.declared.FrameBuilder.{FrameBuilder}
use Rattle.frame.proofs.Canon.{canon}
use Rattle.memory.specs.Image.{end_pointers, image_size}
use Rattle.content.specs.Content.{Point, Content, point_bytes, frames_bytes, image_of, Admitted, Same}
use Rattle.content.proofs.Admits.{SnippetAdmitted, SequenceAdmitted}
use Rattle.content.specs.ReadImage.{every, read_snippet, read_sequence, Items, read_items, content_in, read_image}
use Rattle.std.proofs.lemmas.List.{map-id}
use Rattle.content.proofs.Codec.{Codec, every_codec, refuses, same, write_canon, good_canon, then_some, some_inj}
use Rattle.content.proofs.Points.{snippet_codec, snippet_long}
use Rattle.content.proofs.Sequences.{sequence_codec, sequence_long}
use Rattle.content.proofs.Items.{NotEmpty, written, Good, hundred, items_sound, items_complete}
use Rattle.content.proofs.Sameness.{canonical, same_canonical, canonical_same}

-- ---- bytes

items_bytes : (xs : List (List ℕ)) → Bytes (joined xs) → All Bytes xs
items_bytes [] h = tt
items_bytes (x ∷ xs) h = (all_left (λ b. b < 256) x (joined xs) h, items_bytes xs (all_right (λ b. b < 256) x (joined xs) h))

joined_bytes : (xs : List (List ℕ)) → All Bytes xs → Bytes (joined xs)
joined_bytes [] h = tt
joined_bytes (x ∷ xs) h = all_append (λ b. b < 256) x (joined xs) h.0 (joined_bytes xs h.1)

pointers_bytes : (before : ℕ) (xs : List (List ℕ)) → before + length (joined xs) < 256 → Bytes (end_pointers before xs)
pointers_bytes before [] h = tt
pointers_bytes before (x ∷ xs) h =
    let n = length-append x (joined xs) in (omega arith, pointers_bytes (before + length x) xs (omega arith))

zero_bytes : (n : ℕ) → Bytes (replicate n 0)
zero_bytes zero = tt
zero_bytes (suc n) = (omega arith, zero_bytes n)

-- the items of an image are bytes where the image is
inner_bytes : (r : Items) → Bytes (written r) → All Bytes (r.snippets ++ r.sequences)
inner_bytes r h =
    let xs = r.snippets ++ r.sequences in
    let p = end_pointers (1 + length r.snippets + length r.sequences) xs in
    items_bytes xs (all_right (λ b. b < 256) p (joined xs) (all_left (λ b. b < 256) (p ++ joined xs) _ h.1.1))

outer_bytes : (r : Items) → Good r → All Bytes (r.snippets ++ r.sequences) → Bytes (written r)
outer_bytes r g h =
    let xs = r.snippets ++ r.sequences in
    let p = end_pointers (1 + length r.snippets + length r.sequences) xs in (
      omega (arith, g.few_snippets),
      (
        omega (arith, g.few_sequences),
        all_append (λ b. b < 256) (p ++ joined xs) _
            (all_append (λ b. b < 256) p (joined xs) (pointers_bytes _ xs (omega (arith, g.fits))) (joined_bytes xs h))
            (zero_bytes (100 - image_size r.snippets r.sequences)),
      ),
    )

-- ---- the content of an image

abbrev items_of : Content → Items
items_of c = record { snippets = map point_bytes c.snippets; sequences = map frames_bytes c.sequences }

snippets_codec : Codec (All Bytes) (every read_snippet) (map point_bytes) (All SnippetAdmitted) (map (λ ps. ps))
snippets_codec = every_codec Bytes read_snippet point_bytes SnippetAdmitted (λ ps. ps) snippet_codec

sequences_codec : Codec (All Bytes) (every read_sequence) (map frames_bytes) (All SequenceAdmitted) (map (map canon))
sequences_codec = every_codec Bytes read_sequence frames_bytes SequenceAdmitted (map canon) sequence_codec

items_good : (c : Content) → Admitted c → Good (items_of c)
items_good c a =
    let ns = length-map c.snippets point_bytes in
    let nq = length-map c.sequences frames_bytes in
    record {
      some_snippets = omega (arith, a.snippets.nonempty);
      few_snippets = omega (arith, a.snippets.few);
      some_sequences = omega (arith, a.sequences.nonempty);
      few_sequences = omega (arith, a.sequences.few);
      full = all_append NotEmpty (map point_bytes c.snippets) (map frames_bytes c.sequences)
          (all_map NotEmpty point_bytes snippet_long c.snippets a.snippets.each)
          (all_map NotEmpty frames_bytes sequence_long c.sequences a.sequences.each);
      fits = a.fits;
    }

whole : (l : List ℕ) (r : Items) (s : List (List Point)) (q : List (List FrameBuilder)) → Good r → written r ≡ l
    → All SnippetAdmitted s × (map point_bytes s ≡ r.snippets) → All SequenceAdmitted q × (map frames_bytes q ≡ r.sequences)
    → Admitted (record { snippets = s; sequences = q }) × (image_of (record { snippets = s; sequences = q }) ≡ l)
unfolding image_of
whole l r s q g w gs gq =
    let c : Content = record { snippets = s; sequences = q } in
    let p : r ≡ items_of c = λ i. record { snippets = sym gs.1 i; sequences = sym gq.1 i } in
    let h : Good (items_of c) = subst Good p g in
    let ns = length-map s point_bytes in
    let nq = length-map q frames_bytes in (
      record {
        snippets = record { nonempty = omega (arith, h.some_snippets); few = omega (arith, h.few_snippets); each = gs.0 };
        sequences = record { nonempty = omega (arith, h.some_sequences); few = omega (arith, h.few_sequences); each = gq.0 };
        fits = h.fits;
      },
      ap written (sym p) ∙ w,
    )

image_sound : (l : List ℕ) (c : Content) → Bytes l → read_image l ≡ some c → Admitted c × (image_of c ≡ l)
unfolding read_image
image_sound l c h e =
    let (r, e₁, e₂) = then_some (read_items l) content_in e in
    let (s, e₃, e₄) = then_some (every read_snippet r.snippets) _ e₂ in
    let (q, e₅, e₆) = then_some (every read_sequence r.sequences) _ e₄ in
    let g = items_sound l r e₁ in
    let b = inner_bytes r (subst Bytes (sym g.1) h) in
    let gs = snippets_codec.sound r.snippets s (all_left Bytes r.snippets r.sequences b) e₃ in
    let gq = sequences_codec.sound r.sequences q (all_right Bytes r.snippets r.sequences b) e₅ in
    subst (λ (x : Content). Admitted x × (image_of x ≡ l)) (some_inj e₆) (whole l r s q g.0 g.1 gs gq)

image_complete : (c : Content) → Admitted c → read_image (image_of c) ≡ some (canonical c)
unfolding read_image image_of canonical
image_complete c a =
    rw (
      items_complete (items_of c) (items_good c a),
      snippets_codec.complete c.snippets a.snippets.each,
      sequences_codec.complete c.sequences a.sequences.each,
      map-id c.snippets,
    )

pub image_bytes_lem : (c : Content) → Admitted c → Bytes (image_of c)
unfolding image_of
image_bytes_lem c a =
    outer_bytes (items_of c) (items_good c a)
    (all_append Bytes (map point_bytes c.snippets) (map frames_bytes c.sequences) (snippets_codec.fit c.snippets a.snippets.each) (sequences_codec.fit c.sequences a.sequences.each))

pub image_codec : Codec Bytes read_image image_of Admitted canonical
image_codec = record { sound = image_sound; complete = image_complete; fit = image_bytes_lem }

pub image_length : (c : Content) → Admitted c → length (image_of c) ≡ 100
unfolding image_of
image_length c a = hundred (items_of c) (items_good c a)

-- "equal exactly when they have equally many snippets ..": demand 3's first sentence, for admitted contents
pub same_image : (c d : Content) → Admitted c → Admitted d → (image_of c ≡ image_of d) ↔ Same c d
same_image c d a b =
    let s = same Bytes read_image image_of Admitted canonical image_codec c d a b in
    (λ e. canonical_same c d (s.0 e), λ x. s.1 (same_canonical c d x))

-- "refuses exactly when there are no such lists"
pub refuses_image : (l : List ℕ) → Bytes l → (read_image l ≡ none) ↔ ¬ ((c : Content) × (Admitted c × (image_of c ≡ l)))
refuses_image = refuses Bytes read_image image_of Admitted canonical image_codec

-- an admitted content is the same as what its image is read back to
pub read_same : (c : Content) → Admitted c → Same c (canonical c)
read_same c a =
    (same_image c (canonical c) a (good_canon Bytes read_image image_of Admitted canonical image_codec c a)).0
    (sym (write_canon Bytes read_image image_of Admitted canonical image_codec c a))

-- what was read is read back as it is
pub read_again : (l : List ℕ) (c : Content) → Bytes l → read_image l ≡ some c → canonical c ≡ c
read_again l c h e = let s = image_codec.sound l c h e in some_inj (sym (image_codec.complete c s.0) ∙ ap read_image s.1 ∙ e)
