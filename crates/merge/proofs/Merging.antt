-- The claim on two images merged.
-- Assumes nothing.
use Rattle.std.specs.Prelude.{ℕ, ◌≡◌, ◌↔◌, ◌⊎◌, List, [], ◌∷◌, ◌++◌, map, length}
use Rattle.std.proofs.Common.{refl, sym, subst, arith, ap, inl, inr, ◌∙◌, length-append, le-ltb, lt-ltb}
use Rattle.std.proofs.Math.Option.{Option, none, some}
use Rattle.std.proofs.lemmas.Bool.Decides.{nat_tests}
use Rattle.std.proofs.lemmas.List.{length-map, map-append}
use Rattle.errors.specs.Told.{gives, refuses}
use Rattle.laws.specs.Bytes.{Bytes}
use Rattle.frame.specs.declared.FrameBuilder.{FrameBuilder}
use Rattle.frame.specs.Read.{read_frame}
use Rattle.frame.proofs.Canon.{canon}
use Rattle.content.specs.Content.{Content, Both, Admitted, image_of}
use Rattle.content.specs.ReadImage.{read_image, read_items, read_snippet, read_sequence}
use Rattle.content.proofs.Codec.{good_canon, write_canon}
use Rattle.content.proofs.Images.{image_codec, image_length, read_again}
use Rattle.content.proofs.Sameness.{canonical}
use Rattle.merge.specs.Merged.{raised, merged, merged_item}
use Rattle.merge.specs.Merge.{Kept, Merged, Named, Merge}
use Rattle.merge.proofs.FrameKept.{kept}
use Rattle.merge.proofs.Lengths.{merged_size}
use Rattle.merge.proofs.Admits.{merged_admitted}
use Rattle.merge.proofs.Plays.{first_plays, second_plays}
use Rattle.merge.proofs.Raising.{sequences_short}
use Rattle.merge.proofs.Refused.{refused}

both_map : {A : Type 0} (R : A → A → Type 0) (g r : A → A) → ((x : A) → R (g x) (g (r (g x)))) → (xs : List A)
    → Both R (map g xs) (map g (map r (map g xs)))
both_map R g r h [] = tt
both_map R g r h (x ∷ xs) = (h x, both_map R g r h xs)

-- where none of the rules refuses them
module _ (c d : Content) (again_c : canonical c ≡ c) (again_d : canonical d ≡ d) (w : Named c × Named d) (a : Admitted (merged c d)) where
  abbrev count : ℕ
  count = length c.snippets

  abbrev others : List (List FrameBuilder) → List (List FrameBuilder)
  others qs = map (map canon) (map (map (raised count)) qs)

  image_merged : Merged c d (image_of (merged c d))
  unfolding canonical
  image_merged =
      let long = image_length (merged c d) a in
      record {
        content = canonical (merged c d);
        reads = image_codec.complete (merged c d) a;
        bytes = image_codec.fit (merged c d) a;
        admitted = good_canon Bytes read_image image_of Admitted canonical image_codec (merged c d) a;
        laid = sym (write_canon Bytes read_image image_of Admitted canonical image_codec (merged c d) a);
        short_sequences = sequences_short (canonical (merged c d)).sequences (good_canon Bytes read_image image_of Admitted canonical image_codec (merged c d) a).sequences.each;
        snippets = refl;
        others = others d.sequences;
        sequences = map-append (map canon) c.sequences (map (map (raised count)) d.sequences)
            ∙ ap (λ (x : Content). x.sequences ++ others d.sequences) again_c;
        keeps = subst (λ (x : Content). Both (Both (Kept count)) x.sequences (others x.sequences)) again_d
            (both_map (Both (Kept count)) (map canon) (map (raised count)) (both_map (Kept count) canon (raised count) (kept count)) d.sequences);
        count = simp (length-map, length-append);
        first = first_plays c d w.0;
        second = second_plays c d w.1;
        hundred = long;
        given = λ out h. let t = le-ltb (length out) 100 h in (simp (long, t), simp (long, t));
        short = λ out h. let t = lt-ltb (length out) 100 h in (simp (long, t), simp (long, t));
      }

merged_to : (l m : List ℕ) → Bytes l → Bytes m → (c d : Content) → read_image l ≡ some c → read_image m ≡ some d
    → (image : List ℕ) → merged_item (some c) (some d) ≡ gives image → Merged c d image
merged_to l m h g c d e f image t =
    let (w, s, q, z) = (refused c d).accepted.0 (image, t) in
    let a = merged_admitted c d (image_codec.sound l c h e).0 (image_codec.sound m d g f).0 w.1 s q (omega (arith, merged_size c d w.1 s)) in
    let same : image_of (merged c d) ≡ image = grind (arith, nat_tests) in
    subst (Merged c d) same (image_merged c d (read_again l c h e) (read_again m d g f) w a)

unread : (o p : Option Content) → (merged_item o p ≡ refuses 18) ↔ ((o ≡ none) ⊎ (p ≡ none))
unread none p = (λ e. inl refl, λ h. refl)
unread (some c) none = (λ e. inr refl, λ h. refl)
unread (some c) (some d) = grind (arith, nat_tests)

pub merge : Merge
unfolding read_image read_items read_snippet read_sequence read_frame image_of
merge = record { unread = unread; refused = refused; untouched = λ out n. (refl, refl); merged = merged_to; grown = refl; stays = refl }
