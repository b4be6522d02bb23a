-- What `merge` answers, by what its tests and its pools say of the two contents.
-- Assumes nothing.
use Rattle.std.specs.Prelude.{ℕ, zero, suc, ◌+◌, ◌≤◌, ◌<◌, ◌≡◌, Ok, Bool, true, false, cond, ltb, List, [], ◌∷◌, ◌++◌, map, length}
use Rattle.std.proofs.Common.{◌∙◌, refl, sym, ap, subst, arith, lt-ltb}
use Rattle.std.proofs.lemmas.Bool.Decides.{nat_tests}
use Rattle.std.proofs.lemmas.List.{length-map, map-append}
use lib.ListN.{length-append}
use borrow.Author.Tests.{ltb-true, ltb-false}
use Rattle.errors.specs.declared.Error.{Error}
use Rattle.errors.specs.Number.{error_number}
use Rattle.errors.specs.Told.{Told, gives, refuses, told_by, told_number}
use Rattle.errors.proofs.Numbers.{has_number}
use Rattle.laws.specs.Bytes.{All, Bytes}
use Rattle.laws.specs.Lists.{joined}
use Rattle.laws.specs.Whole.{whole, whole_out}
use Rattle.frame.specs.declared.FrameBuilder.{FrameBuilder}
use Rattle.frame.specs.Agreement.{FrameAdmitted}
use Rattle.frame.specs.Builder.{frame_with}
use Rattle.memory.specs.Image.{image_bytes}
use Rattle.memory.specs.Memory.{image_number}
use Rattle.content.specs.Content.{Content, point_bytes, frames_bytes, image_of}
use Rattle.content.specs.ReadImage.{read_image}
use Rattle.content.proofs.Admits.{SequenceAdmitted}
use Rattle.readings.specs.InPlace.{header_of, items_at, frames_in}
use Rattle.readings.proofs.InPlace.{Counted, counted, items_length}
use Rattle.pool.specs.declared.Pool.{Pool}
use Rattle.pool.specs.Kept.{no_items, kept, ImageLaid}
use Rattle.std.specs.List.{list_any}
use Rattle.merge.specs.Merged.{raised_number, raised, lacks, merged, merge_number, merged_item}
use Rattle.merge.specs.InPlace.{Raisable, raised_bytes, Keeps}
use Rattle.merge.proofs.FrameKept.{Names}
use Rattle.merge.proofs.Refused.{named}

-- ---- frames and items

-- a number raised by none
number_0 : (n : ℕ) → raised_number 0 n ≡ n
number_0 zero = refl
number_0 (suc n) = omega arith

raised_0 : (f : FrameBuilder) → raised 0 f ≡ f
raised_0 f = λ i. frame_with (number_0 f.snippet_id i) f.gain f.timebase f.loop_count f.frequency

sequences_0 : (qs : List (List FrameBuilder)) → map (map (raised 0)) qs ≡ qs
sequences_0 [] = refl
sequences_0 (fs ∷ qs) = λ i. frames fs i ∷ sequences_0 qs i where
  frames : (fs : List FrameBuilder) → map (raised 0) fs ≡ fs
  frames [] = refl
  frames (f ∷ fs) = λ i. raised_0 f i ∷ frames fs i

raised_items : (count : ℕ) (items : List (List ℕ)) (qs : List (List FrameBuilder)) → map frames_in items ≡ qs
    → map (raised_bytes count) items ≡ map frames_bytes (map (map (raised count)) qs)
raised_items count items qs e = go items ∙ ap (λ l. map frames_bytes (map (map (raised count)) l)) e where
  go : (items : List (List ℕ)) → map (raised_bytes count) items ≡ map frames_bytes (map (map (raised count)) (map frames_in items))
  go [] = refl
  go (x ∷ xs) = ap (λ l. raised_bytes count x ∷ l) (go xs)

-- frames that name what is there have room for their numbers raised
raisable : (count few : ℕ) → count + few ≤ 15 → (qs : List (List FrameBuilder)) → All (All (Names few)) qs → All SequenceAdmitted qs → All (All (Raisable count)) qs
raisable count few h [] n a = tt
raisable count few h (fs ∷ qs) n a = (frames fs n.0 a.0.each, raisable count few h qs n.1 a.1) where
  frames : (fs : List FrameBuilder) → All (Names few) fs → All FrameAdmitted fs → All (Raisable count) fs
  frames [] n a = tt
  frames (f ∷ fs) n a = (record { admitted = a.0; room = omega (arith, n.0) }, frames fs n.1 a.1)

-- ---- a test and a pool

-- whether an image of s snippets and q sequences lacks one that it names
abbrev pub lacking : List ℕ → ℕ → ℕ → Bool
lacking image s q = list_any (λ (f : FrameBuilder). ltb s f.snippet_id) (joined (map frames_in (items_at image s q)))

lacking_is : (image : List ℕ) (s q : ℕ) (f : Counted image s q) → lacking image s q ≡ lacks f.content
lacking_is image s q f = λ i. list_any (λ (h : FrameBuilder). ltb (f.count i) h.snippet_id) (joined (f.sequences i))

-- a test that is told by a refusal, and one that is passed
refused_by : (t : Bool) (full : ℕ) (u : Error) → error_number u ≡ cond t full 0 → (t ≡ true) × (error_number u ≡ full)
refused_by true full u e = (refl, e)
refused_by false full u e = absurd (omega (arith, e, has_number u))

passed_by : (t : Bool) (full : ℕ) → 1 ≤ full → 0 ≡ cond t full 0 → t ≡ false
passed_by true full h e = absurd (omega arith)
passed_by false full h e = refl

module _ (most full : ℕ) (items before : List (List ℕ)) (p p' : Pool most) (h : length before ≤ most) (e : p ≡ kept most before) where
  no_room : (u : Error) → Keeps most full items p (error_number u) p' → (most < length before + length items) × (error_number u ≡ full)
  no_room u k =
      let m = refused_by (ltb most (length before + length items)) full u (k before h e).0 in (ltb-true most (length before + length items) m.0, m.1)

  room : 1 ≤ full → Keeps most full items p 0 p' → (length before + length items ≤ most) × (p' ≡ kept most (before ++ items))
  room g k =
      let fits = ltb-false most (length before + length items) (passed_by (ltb most (length before + length items)) full g (k before h e).0) in
      (fits, (k before h e).1 fits)

-- ---- the answer

module _ (a b : List ℕ) (h : Bytes a) (i : Bytes b) (s q t r : ℕ) (e : Ok (s, q) ≡ header_of (read_image a)) (e' : Ok (t, r) ≡ header_of (read_image b)) (out : List ℕ) where
  abbrev f : Counted a s q
  f = counted a s q h e

  abbrev g : Counted b t r
  g = counted b t r i e'

  abbrev c : Content
  c = f.content

  abbrev d : Content
  d = g.content

  abbrev item : Told (List ℕ)
  item = merged_item (read_image a) (read_image b)

  item_is : item ≡ told_by (merge_number c d) (image_of (merged c d))
  item_is = λ j. merged_item (f.read j) (g.read j)

  abbrev pub Answered : ℕ → List ℕ → Type 0
  Answered n out' = (n ≡ told_number (whole out item)) × (out' ≡ whole_out out item)

  refused : (n : ℕ) → 0 < n → merge_number c d ≡ n → (u : Error) → error_number u ≡ n → Answered (error_number u) out
  refused n l m u k =
      let is : item ≡ refuses n = item_is ∙ ap (λ j. told_by j (image_of (merged c d))) m ∙ ap (λ x. cond x (refuses n) (gives (image_of (merged c d)))) (lt-ltb 0 n l) in
      (k ∙ sym (ap (λ y. told_number (whole out y)) is), sym (ap (whole_out out) is))

  pub missing_first : (u : Error) → error_number u ≡ cond (lacking a s q) 25 0 → Answered (error_number u) out
  missing_first u n =
      let m = refused_by (lacking a s q) 25 u n in
      let w : lacks c ≡ true = sym (lacking_is a s q f) ∙ m.0 in
      refused 25 (omega arith) (grind (arith, nat_tests)) u m.1

  module _ (m : ◌≡◌ {A = ℕ} 0 (cond (lacking a s q) 25 0)) where
    sound_first : lacks c ≡ false
    sound_first = sym (lacking_is a s q f) ∙ passed_by (lacking a s q) 25 (omega arith) m

    pub missing_second : (u : Error) → error_number u ≡ cond (lacking b t r) 25 0 → Answered (error_number u) out
    missing_second u n =
        let k = refused_by (lacking b t r) 25 u n in
        let w : lacks d ≡ true = sym (lacking_is b t r g) ∙ k.0 in
        refused 25 (omega arith) (grind (arith, nat_tests)) u k.1

    module _ (m' : ◌≡◌ {A = ℕ} 0 (cond (lacking b t r) 25 0)) (p : Pool 15) (z : p ≡ no_items 15) (p₁ : Pool 15) where
      sound_second : lacks d ≡ false
      sound_second = sym (lacking_is b t r g) ∙ passed_by (lacking b t r) 25 (omega arith) m'

      none : p ≡ kept 15 []
      unfolding kept
      none = z

      pub full_first : (u : Error) → Keeps 15 6 (items_at a 0 s) p (error_number u) p₁ → Answered (error_number u) out
      full_first u k =
          let n = no_room 15 6 (items_at a 0 s) [] p p₁ (omega arith) none u k in
          let x = sound_first in
          let y = sound_second in
          let over : 15 < length c.snippets + length d.snippets = omega (arith, n.0, items_length a 0 s, f.count) in
          refused 6 (omega arith) (grind (arith, nat_tests)) u n.1

      module _ (k₁ : Keeps 15 6 (items_at a 0 s) p 0 p₁) (p₂ : Pool 15) where
        first_kept : (length (items_at a 0 s) ≤ 15) × (p₁ ≡ kept 15 (items_at a 0 s))
        first_kept = let w = room 15 6 (items_at a 0 s) [] p p₁ (omega arith) none (omega arith) k₁ in (omega (arith, w.0), w.1)

        pub full_second : (u : Error) → Keeps 15 6 (items_at b 0 t) p₁ (error_number u) p₂ → Answered (error_number u) out
        full_second u k =
            let n = no_room 15 6 (items_at b 0 t) (items_at a 0 s) p₁ p₂ first_kept.0 first_kept.1 u k in
            let x = sound_first in
            let y = sound_second in
            let over : 15 < length c.snippets + length d.snippets = omega (arith, n.0, items_length a 0 s, items_length b 0 t, f.count, g.count) in
            refused 6 (omega arith) (grind (arith, nat_tests)) u n.1

        module _ (k₂ : Keeps 15 6 (items_at b 0 t) p₁ 0 p₂) where
          both_kept : (length (items_at a 0 s) + length (items_at b 0 t) ≤ 15) × (p₂ ≡ kept 15 (items_at a 0 s ++ items_at b 0 t))
          both_kept = room 15 6 (items_at b 0 t) (items_at a 0 s) p₁ p₂ first_kept.0 first_kept.1 (omega arith) k₂

          few : length c.snippets + length d.snippets ≤ 15
          few = omega (arith, both_kept.0, items_length a 0 s, items_length b 0 t, f.count, g.count)

          pub raisable_first : All (All (Raisable 0)) (map frames_in (items_at a s q))
          raisable_first =
              subst (All (All (Raisable 0))) (sym f.sequences)
              (raisable 0 (length c.snippets) (omega (arith, few)) c.sequences ((named (length c.snippets) c.sequences).0 sound_first) f.good.sequences.each)

          pub raisable_second : All (All (Raisable s)) (map frames_in (items_at b t r))
          raisable_second =
              subst (All (All (Raisable s))) (sym g.sequences)
              (raisable s (length d.snippets) (omega (arith, few, f.count)) d.sequences ((named (length d.snippets) d.sequences).0 sound_second) g.good.sequences.each)

          module _ (w : Pool 16) (z' : w ≡ no_items 16) (w₁ : Pool 16) where
            none' : w ≡ kept 16 []
            unfolding kept
            none' = z'

            abbrev qs : List (List ℕ)
            qs = map (raised_bytes 0) (items_at a s q)

            abbrev rs : List (List ℕ)
            rs = map (raised_bytes s) (items_at b t r)

            qs_long : length qs ≡ length c.sequences
            qs_long = length-map (items_at a s q) (raised_bytes 0) ∙ items_length a s q ∙ f.others

            rs_long : length rs ≡ length d.sequences
            rs_long = length-map (items_at b t r) (raised_bytes s) ∙ items_length b t r ∙ g.others

            pub many_first : (u : Error) → Keeps 16 7 qs w (error_number u) w₁ → Answered (error_number u) out
            many_first u k =
                let n = no_room 16 7 qs [] w w₁ (omega arith) none' u k in
                let x = sound_first in
                let y = sound_second in
                let v = few in
                let over : 16 < length c.sequences + length d.sequences = omega (arith, n.0, qs_long) in
                refused 7 (omega arith) (grind (arith, nat_tests)) u n.1

            module _ (k₃ : Keeps 16 7 qs w 0 w₁) (w₂ : Pool 16) where
              sequences_kept : (length qs ≤ 16) × (w₁ ≡ kept 16 qs)
              sequences_kept = let v = room 16 7 qs [] w w₁ (omega arith) none' (omega arith) k₃ in (omega (arith, v.0), v.1)

              pub many_second : (u : Error) → Keeps 16 7 rs w₁ (error_number u) w₂ → Answered (error_number u) out
              many_second u k =
                  let n = no_room 16 7 rs qs w₁ w₂ sequences_kept.0 sequences_kept.1 u k in
                  let x = sound_first in
                  let y = sound_second in
                  let v = few in
                  let over : 16 < length c.sequences + length d.sequences = omega (arith, n.0, qs_long, rs_long) in
                  refused 7 (omega arith) (grind (arith, nat_tests)) u n.1

              module _ (k₄ : Keeps 16 7 rs w₁ 0 w₂) where
                all_kept : (length qs + length rs ≤ 16) × (w₂ ≡ kept 16 (qs ++ rs))
                all_kept = room 16 7 rs qs w₁ w₂ sequences_kept.0 sequences_kept.1 (omega arith) k₄

                snippets_are : items_at a 0 s ++ items_at b 0 t ≡ map point_bytes (merged c d).snippets
                snippets_are = (λ j. f.snippets j ++ g.snippets j) ∙ sym (map-append point_bytes c.snippets d.snippets)

                sequences_are : qs ++ rs ≡ map frames_bytes (merged c d).sequences
                sequences_are =
                    (λ j. (raised_items 0 (items_at a s q) c.sequences f.sequences ∙ ap (map frames_bytes) (sequences_0 c.sequences)) j
                    ++ (raised_items s (items_at b t r) d.sequences g.sequences ∙ ap (λ n. map frames_bytes (map (map (raised n)) d.sequences)) f.count) j)
                    ∙ sym (map-append frames_bytes c.sequences (map (map (raised (length c.snippets))) d.sequences))

                abbrev xs : List (List ℕ)
                xs = map point_bytes (merged c d).snippets

                abbrev ys : List (List ℕ)
                ys = map frames_bytes (merged c d).sequences

                xs_long : length xs ≡ length c.snippets + length d.snippets
                xs_long = length-map (merged c d).snippets point_bytes ∙ length-append c.snippets d.snippets

                ys_long : length ys ≡ length c.sequences + length d.sequences
                ys_long =
                    let l = length-map (merged c d).sequences frames_bytes in
                    let m = length-append c.sequences (map (map (raised (length c.snippets))) d.sequences) in
                    let n = length-map d.sequences (map (raised (length c.snippets))) in
                    omega arith

                -- the builder of an image finds no other fault than the size
                number_same : image_number xs ys ≡ merge_number c d
                number_same =
                    let x = sound_first in
                    let y = sound_second in
                    let u : 1 ≤ length xs = omega (arith, xs_long, f.good.snippets.nonempty) in
                    let v : 1 ≤ length ys = omega (arith, ys_long, f.good.sequences.nonempty) in
                    let k : length c.snippets + length d.snippets ≤ 15 = few in
                    let l : length c.sequences + length d.sequences ≤ 16 = omega (arith, all_kept.0, qs_long, rs_long) in
                    grind (arith, nat_tests)

                pub answered : (n : ℕ) (out' : List ℕ) → ImageLaid (record { snippets = p₂; sequences = w₂ }) out n out' → Answered n out'
                unfolding image_of
                answered n out' laid =
                    let same : told_by (image_number xs ys) (image_bytes xs ys) ≡ item = ap (λ n. told_by n (image_bytes xs ys)) number_same ∙ sym item_is in
                    let y = laid xs ys (omega (arith, xs_long, few)) (omega (arith, ys_long, all_kept.0, qs_long, rs_long))
                    (both_kept.1 ∙ ap (kept 15) snippets_are) (all_kept.1 ∙ ap (kept 16) sequences_are) in
                    (y.0 ∙ ap (λ z. told_number (whole out z)) same, y.1 ∙ ap (whole_out out) same)
