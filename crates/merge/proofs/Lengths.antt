-- The size of a merged image: both sizes without two counts, and one byte for each frame that grows.
-- Assumes nothing.
use Rattle.std.specs.Prelude.{ℕ, zero, suc, ◌+◌, ◌≤◌, ◌≡◌, List, [], ◌∷◌, ◌++◌, map, length, Some, None}
use Rattle.std.specs.declared.option.Option as rust
use Rattle.std.proofs.Common.{refl, arith, length-append}
use Rattle.std.proofs.lemmas.Bool.Decides.{nat_tests}
use Rattle.std.proofs.lemmas.List.{length-map, map-append}
use Rattle.laws.specs.Bytes.{All}
use Rattle.laws.specs.Lists.{joined}
use Rattle.laws.proofs.Lists.{joined_append}
use Rattle.frame.specs.declared.Gain.{Gain}
use Rattle.frame.specs.declared.Timebase.{Timebase}
use Rattle.frame.specs.declared.FrameBuilder.{FrameBuilder}
use Rattle.frame.specs.Frame.{bytes_of}
use Rattle.frame.specs.Builder.{frame_with}
use Rattle.content.specs.Content.{Content, frames_bytes, size_of}
use Rattle.merge.specs.Merged.{raised, merged}
use Rattle.merge.specs.Merge.{Named, growing, snippets_of, sizes_of}
use Rattle.merge.proofs.FrameKept.{Names}

growing_append : (count : ℕ) (fs gs : List FrameBuilder) → growing count (fs ++ gs) ≡ growing count fs + growing count gs
growing_append count [] gs = omega arith
growing_append count (f ∷ fs) gs = omega (arith, growing_append count fs gs)

module _ (count few : ℕ) (s : count + few ≤ 15) where
  frame_grows : (n : ℕ) (g : Gain) (t : Timebase) (k q : rust.Option ℕ) → n ≤ few
      → let f = frame_with n g t k q in length (bytes_of (raised count f)) ≡ length (bytes_of f) + growing count (f ∷ [])
  frame_grows n g t k (Some q) h = refl
  frame_grows n g t (Some k) None h = refl
  frame_grows zero g t None None h = refl
  frame_grows (suc n) g t None None h = grind (arith, nat_tests)

  frames_grow : (fs : List FrameBuilder) → All (Names few) fs
      → length (frames_bytes (map (raised count) fs)) ≡ length (frames_bytes fs) + growing count fs
  frames_grow [] h = omega arith
  frames_grow (f ∷ fs) h =
      simp length-append (omega (arith, frame_grows f.snippet_id f.gain f.timebase f.loop_count f.frequency h.0, frames_grow fs h.1))

  sequences_grow : (qs : List (List FrameBuilder)) → All (All (Names few)) qs
      → length (joined (map frames_bytes (map (map (raised count)) qs))) ≡ length (joined (map frames_bytes qs)) + growing count (joined qs)
  sequences_grow [] h = omega arith
  sequences_grow (q ∷ qs) h = simp length-append (omega (arith, growing_append count q (joined qs), frames_grow q h.0, sequences_grow qs h.1))

pub merged_size : (c d : Content) → Named d → snippets_of c d ≤ 15 → size_of (merged c d) + 2 ≡ sizes_of c d
merged_size c d w s =
    let grown = sequences_grow (length c.snippets) (length d.snippets) s d.sequences w in
    simp (length-map, map-append, joined_append, length-append) (omega (arith, grown))
