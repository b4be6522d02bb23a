-- Each number is told exactly where its rule applies.
-- Assumes nothing.
use Rattle.std.specs.Prelude.{ℕ, ◌≡◌, ◌↔◌, Bool, false, List, [], ◌∷◌, ltb, length}
use Rattle.std.proofs.Common.{refl, arith}
use Rattle.std.proofs.lemmas.Bool.Decides.{nat_tests}
use Rattle.laws.specs.Bytes.{All}
use Rattle.laws.specs.Lists.{joined}
use Rattle.frame.specs.declared.FrameBuilder.{FrameBuilder}
use Rattle.content.specs.Content.{Content, image_of}
use Rattle.std.specs.List.{list_any}
use Rattle.merge.specs.Merged.{merged}
use Rattle.merge.specs.Merge.{Refused}
use Rattle.std.proofs.lemmas.List.Folds.{list_any-append}
use Rattle.merge.proofs.FrameKept.{Names}
use Rattle.merge.proofs.Lengths.{merged_size}

module _ (most : ℕ) where
  abbrev over : List FrameBuilder → Bool
  over fs = list_any (λ (f : FrameBuilder). ltb most f.snippet_id) fs

  none_over : (fs : List FrameBuilder) → (over fs ≡ false) ↔ All (Names most) fs
  none_over [] = (λ e. tt, λ h. refl)
  none_over (f ∷ fs) = grind (arith, nat_tests, none_over fs)

  pub named : (qs : List (List FrameBuilder)) → (over (joined qs) ≡ false) ↔ All (All (Names most)) qs
  named [] = (λ e. tt, λ h. refl)
  named (q ∷ qs) = grind (arith, list_any-append (λ (f : FrameBuilder). ltb most f.snippet_id) q (joined qs), none_over q, named qs)

pub refused : (c d : Content) → Refused c d
refused c d =
    let m = named (length c.snippets) c.sequences in
    let n = named (length d.snippets) d.sequences in
    let size = merged_size c d in
    record {
      missing = grind (arith, nat_tests);
      snippets = grind (arith, nat_tests);
      sequences = grind (arith, nat_tests);
      size = grind (arith, nat_tests);
      accepted = (λ e. grind (arith, nat_tests), λ h. (image_of (merged c d), grind (arith, nat_tests)));
    }
