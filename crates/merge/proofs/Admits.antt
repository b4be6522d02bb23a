-- Where none of the limits is passed, the builders admit the merged content.
-- Assumes nothing.
use Rattle.std.specs.Prelude.{ℕ, zero, suc, ◌+◌, ◌≤◌, List, [], ◌∷◌, ◌++◌, map, length}
use Rattle.std.proofs.Common.{arith, length-append}
use Rattle.std.proofs.lemmas.List.{length-map}
use Rattle.laws.specs.Bytes.{All}
use Rattle.laws.proofs.Lists.{all_append}
use Rattle.frame.specs.declared.FrameBuilder.{FrameBuilder}
use Rattle.frame.specs.Agreement.{FrameAdmitted}
use Rattle.content.specs.Content.{Content, Within, Admitted, size_of}
use Rattle.content.proofs.Admits.{SnippetAdmitted, SequenceAdmitted}
use Rattle.merge.specs.Merged.{raised_number, raised, merged}
use Rattle.merge.specs.Merge.{Named, snippets_of, sequences_of}
use Rattle.merge.proofs.FrameKept.{Names}

module _ {A : Type 0} (most : ℕ) (Good : A → Type 0) where
  within_append : (xs ys : List A) → Within most Good xs → Within most Good ys → length xs + length ys ≤ most → Within most Good (xs ++ ys)
  within_append xs ys a b h =
      let n = length-append xs ys in
      record { nonempty = omega (arith, a.nonempty); few = omega arith; each = all_append Good xs ys a.each b.each }

  module _ (P : A → Type 0) (f : A → A) (one : (x : A) → P x → Good x → Good (f x)) where
    each_map : (xs : List A) → All P xs → All Good xs → All Good (map f xs)
    each_map [] p g = tt
    each_map (x ∷ xs) p g = (one x p.0 g.0, each_map xs p.1 g.1)

    within_map : (xs : List A) → All P xs → Within most Good xs → Within most Good (map f xs)
    within_map xs p g =
        let n = length-map xs f in
        record { nonempty = omega (arith, g.nonempty); few = omega (arith, g.few); each = each_map xs p g.each }

module _ (count few : ℕ) (s : count + few ≤ 15) where
  raised_fits : (n : ℕ) → n ≤ few → raised_number count n ≤ 15
  raised_fits zero h = omega arith
  raised_fits (suc n) h = omega arith

  sequences_raised : (qs : List (List FrameBuilder)) → All (All (Names few)) qs → Within 16 SequenceAdmitted qs
      → Within 16 SequenceAdmitted (map (map (raised count)) qs)
  sequences_raised =
      within_map 16 SequenceAdmitted (All (Names few)) (map (raised count)) (within_map 32 FrameAdmitted (Names few) (raised count)
      (λ f n a. record { number_fits = raised_fits f.snippet_id n; loop_fits = a.loop_fits; frequency_fits = a.frequency_fits }))

pub merged_admitted : (c d : Content) → Admitted c → Admitted d → Named d → snippets_of c d ≤ 15 → sequences_of c d ≤ 16 → size_of (merged c d) ≤ 100
    → Admitted (merged c d)
merged_admitted c d a b w s q z =
    let count = length c.snippets in
    let n = length-map d.sequences (map (raised count)) in
    record {
      snippets = within_append 15 SnippetAdmitted c.snippets d.snippets a.snippets b.snippets s;
      sequences = within_append 16 SequenceAdmitted c.sequences (map (map (raised count)) d.sequences) a.sequences
          (sequences_raised count (length d.snippets) s d.sequences w b.sequences) (omega arith);
      fits = z;
    }
