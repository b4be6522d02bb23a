-- A frame of either image plays in the merged image what it played.
-- Assumes nothing.
use Rattle.std.specs.Prelude.{ℕ, zero, suc, ◌+◌, ◌≤◌, ◌<◌, ◌≡◌, List, [], ◌∷◌, ◌++◌, map, length, get_or, Some, None}
use Rattle.std.specs.declared.option.Option as rust
use Rattle.std.proofs.Common.{refl, arith, ◌∙◌}
use mathlib.Core.List.{map-map}
use Rattle.std.proofs.Math.Option.{Option, none, some}
use Rattle.std.proofs.Math.ListN.{get_elem?}
use Rattle.std.proofs.lemmas.Bool.Decides.{nat_tests}
use Rattle.laws.specs.Bytes.{All}
use Rattle.frame.specs.declared.FrameBuilder.{FrameBuilder}
use Rattle.frame.specs.Frame.{on_given}
use Rattle.frame.specs.declared.Gain.TheVariants.{Full}
use Rattle.frame.specs.declared.Timebase.TheVariants.{Ms5_44}
use Rattle.frame.specs.Agreement.{loop_meant}
use Rattle.frame.specs.Builder.{frame_with}
use Rattle.frame.proofs.Canon.{canon}
use Rattle.content.specs.Content.{Point, Content}
use Rattle.content.specs.ReadImage.{every}
use Rattle.content.proofs.Sameness.{canonical}
use Rattle.reader.proofs.Placed.{elem_some}
use Rattle.readings.proofs.InPlace.{all_found}
use Rattle.readings.proofs.Items.{found_left, found_right, found_map}
use Rattle.merge.specs.Merged.{raised_number, raised, merged}
use Rattle.merge.specs.Merge.{points_named, played, PlaysAlike, Named}
use Rattle.merge.proofs.FrameKept.{Names}

-- both are there, and the same
abbrev Alike : {A : Type 0} → Option A → Option A → Type 0
Alike {A} o p = (a : A) × (o ≡ some a) × (p ≡ some a)

every_alike : {A B : Type 0} (f g : A → Option B) (h : A → A) (P : A → Type 0) → ((x : A) → P x → Alike (f x) (g (h x)))
    → (xs : List A) → All P xs → Alike (every f xs) (every g (map h xs))
every_alike f g h P one [] p = ([], refl, refl)
every_alike f g h P one (x ∷ xs) p =
    let (y, e, d) = one x p.0 in
    let (ys, es, ds) = every_alike f g h P one xs p.1 in
    (y ∷ ys, rw (e, es), rw (d, ds))

-- an absent loop count plays like the 0 that is read back
repeats : (n : ℕ) (k q : rust.Option ℕ) → on_given (loop_meant (frame_with n Full Ms5_44 k q)) 0 (λ j. j) ≡ on_given k 0 (λ j. j)
repeats n (Some k) q = refl
repeats n None (Some q) = refl
repeats n None None = grind (arith, nat_tests)

-- a frame as it is read back, with another number for the same points
frame_alike : (ss ts : List (List Point)) (f : FrameBuilder) (n : ℕ) → Alike (points_named ss f.snippet_id) (points_named ts n)
    → Alike (played ss f) (played ts (canon (frame_with n f.gain f.timebase f.loop_count f.frequency)))
unfolding canon
frame_alike ss ts f n (points, e, d) = (
  record { points = points; gain = f.gain; timebase = f.timebase; loop_count = on_given f.loop_count 0 (λ k. k); frequency = f.frequency },
  rw e,
  rw (d, repeats n f.loop_count f.frequency),
)

module _ (ss ts : List (List Point)) where
  points_first : (n : ℕ) → n ≤ length ss → Alike (points_named ss n) (points_named (ss ++ ts) n)
  points_first zero h = (none, refl, refl)
  points_first (suc n) h =
      let e : get_elem? ss n ≡ some (get_or ss n []) = elem_some ss n [] h in
      rw (e, found_left ss ts n (get_or ss n []) e) (some (get_or ss n []), refl, refl)

  points_second : (n : ℕ) → n ≤ length ts → Alike (points_named ts n) (points_named (ss ++ ts) (raised_number (length ss) n))
  points_second zero h = (none, refl, refl)
  points_second (suc n) h =
      let e : get_elem? ts n ≡ some (get_or ts n []) = elem_some ts n [] h in
      let at : length ss + suc n ≡ suc (length ss + n) = omega arith in
      rw (at, found_right ss ts n (length ss + n) refl, e) (some (get_or ts n []), refl, refl)

  frames_first : (fs : List FrameBuilder) → All (Names (length ss)) fs → Alike (every (played ss) fs) (every (played (ss ++ ts)) (map canon fs))
  frames_first =
      every_alike (played ss) (played (ss ++ ts)) canon (Names (length ss))
      (λ f h. frame_alike ss (ss ++ ts) f f.snippet_id (points_first f.snippet_id h))

  frames_second : (fs : List FrameBuilder) → All (Names (length ts)) fs
      → Alike (every (played ts) fs) (every (played (ss ++ ts)) (map (λ f. canon (raised (length ss) f)) fs))
  frames_second =
      every_alike (played ts) (played (ss ++ ts)) (λ f. canon (raised (length ss) f)) (Names (length ts))
      (λ f h. frame_alike ts (ss ++ ts) f (raised_number (length ss) f.snippet_id) (points_second f.snippet_id h))

-- ---- the sequences of two contents

module _ (c d : Content) where
  abbrev others : List FrameBuilder → List FrameBuilder
  others fs = map (raised (length c.snippets)) fs

  abbrev all : List (List FrameBuilder)
  all = c.sequences ++ map others d.sequences

  pub first_plays : Named c → (i : ℕ) → i < length c.sequences → PlaysAlike c i (canonical (merged c d)) i
  unfolding canonical
  first_plays w i h =
      let fs = get_or c.sequences i [] in
      let e : get_elem? c.sequences i ≡ some fs = elem_some c.sequences i [] h in
      let n = all_found (All (Names (length c.snippets))) c.sequences i fs w e in
      rw (e, found_map (map canon) all i fs (found_left c.sequences (map others d.sequences) i fs e)) (frames_first c.snippets d.snippets fs n)

  pub second_plays : Named d → (i : ℕ) → i < length d.sequences → PlaysAlike d i (canonical (merged c d)) (length c.sequences + i)
  unfolding canonical
  second_plays w i h =
      let fs = get_or d.sequences i [] in
      let e : get_elem? d.sequences i ≡ some fs = elem_some d.sequences i [] h in
      let n = all_found (All (Names (length d.snippets))) d.sequences i fs w e in
      let at = length c.sequences + i in
      let found = found_right c.sequences (map others d.sequences) i at refl ∙ found_map others d.sequences i fs e in
      rw (e, found_map (map canon) all at (others fs) found, map-map) (frames_second c.snippets d.snippets fs n)
