-- A memory's builder holds the content that its accepted calls added, and what it builds is that content's image.
-- Assumes nothing.
use mathlib.Core.Path.{◌≡◌, refl, sym, ap, ap₂, ◌∙◌, subst}
use mathlib.Core.Logic.{inl, inr}
use mathlib.Core.Bool.{Bool}
use mathlib.Core.List.{List, [], ◌∷◌, ◌++◌, map, append-nil}
use Prim.Native.Nat.{ℕ, ◌≤◌, ◌<◌}
use native.Mathlib.Decide.{dec_le}
use native.Mathlib.Omega.{arith}
use borrow.Author.Tests.{lt-ltb, le-ltb, le-leb, lt-leb}
use lib.ListN.{length, length-map}
use Rattle.std.proofs.lemmas.List.{take-map}
use Rattle.laws.proofs.Lists.{all_append}
use Rattle.laws.specs.Bytes.{All}
use Rattle.errors.specs.Told.{Handed}
use Rattle.snippet.specs.declared.SnippetBuilder.{SnippetBuilder}
use Rattle.snippet.specs.Snippet as code
use Rattle.snippet.specs.Snippet.{snippet_bytes, built_snippet}
use Rattle.frame.specs.declared.FrameBuilder.{FrameBuilder}
use Rattle.sequence.specs.declared.SequenceBuilder.{SequenceBuilder}
use Rattle.sequence.specs.Sequence.{sequence_bytes, built_sequence}
use Rattle.memory.specs.declared.WaveformMemory.{WaveformMemory}
use Rattle.memory.specs.declared.WaveformMemoryBuilder.{WaveformMemoryBuilder}
use Rattle.memory.specs.Image.{image_size}
use Rattle.memory.specs.Memory.{new_memory, image_number, snippet_items, sequence_items, memory_of, built_memory}
use Rattle.content.specs.Content.{Point, Content, point_bytes, frames_bytes, image_of, Admitted}
use Rattle.content.proofs.Admits.{SnippetAdmitted, SequenceAdmitted}
use Rattle.content.proofs.Sequences.{short}
use Rattle.pattern.specs.Calls.{held, MemoryCall, add_snippet, add_sequence, memory_step, memory_from, content_from, built_from, snippet_from, points_from, sequence_from, frames_from}
use Rattle.pattern.proofs.Items.{Item, points, frames, added_item, snippets_of, sequences_of, content_of, content_held, with_built_snippet, with_built_sequence}
use Rattle.pattern.proofs.Outcomes.{Outcome, all_calls, Shows, shows_more}
use Rattle.pattern.proofs.Snippets as snippet
use Rattle.pattern.proofs.Snippets.{snippet_holds}
use Rattle.pattern.proofs.Sequences as sequence
use Rattle.pattern.proofs.Sequences.{sequence_holds}

pub record Holds (b : WaveformMemoryBuilder) (is : List Item) : Type 0 where
  pub snippets : Shows 15 snippet_bytes point_bytes b.snippets b.num_snippets (snippets_of is)
  pub sequences : Shows 16 sequence_bytes frames_bytes b.sequences b.num_sequences (sequences_of is)
  pub snippet : All SnippetAdmitted (snippets_of is)
  pub sequence : All SequenceAdmitted (sequences_of is)

pub none_held : (a : Bool) → Holds (new_memory a) []
none_held a =
    record {
      snippets = record { long = refl; shown = refl; counted = refl; room = omega arith };
      sequences = record { long = refl; shown = refl; counted = refl; room = omega arith };
      snippet = tt;
      sequence = tt;
    }

-- ---- items in order

pub snippets_append : (xs ys : List Item) → snippets_of (xs ++ ys) ≡ snippets_of xs ++ snippets_of ys
snippets_append [] ys = refl
snippets_append (points ps ∷ xs) ys = ap (λ (l : List (List Point)). ps ∷ l) (snippets_append xs ys)
snippets_append (frames fs ∷ xs) ys = snippets_append xs ys

pub sequences_append : (xs ys : List Item) → sequences_of (xs ++ ys) ≡ sequences_of xs ++ sequences_of ys
sequences_append [] ys = refl
sequences_append (points ps ∷ xs) ys = sequences_append xs ys
sequences_append (frames fs ∷ xs) ys = ap (λ (l : List (List FrameBuilder)). fs ∷ l) (sequences_append xs ys)

-- a builder by the snippets and the sequences of its items
holds_of : (b : WaveformMemoryBuilder) (is : List Item) (ss : List (List Point)) (qs : List (List FrameBuilder)) → snippets_of is ≡ ss → sequences_of is ≡ qs
    → Shows 15 snippet_bytes point_bytes b.snippets b.num_snippets ss
    → Shows 16 sequence_bytes frames_bytes b.sequences b.num_sequences qs
    → All SnippetAdmitted ss → All SequenceAdmitted qs → Holds b is
holds_of b is ss qs e f s q gs gq =
    record {
      snippets = subst (Shows 15 snippet_bytes point_bytes b.snippets b.num_snippets) (sym e) s;
      sequences = subst (Shows 16 sequence_bytes frames_bytes b.sequences b.num_sequences) (sym f) q;
      snippet = subst (All SnippetAdmitted) (sym e) gs;
      sequence = subst (All SequenceAdmitted) (sym f) gq;
    }

-- ---- one call

abbrev Added : List Item → Handed WaveformMemoryBuilder → Item → Type 0
Added is s i = Outcome s.number (Holds s.builder (is ++ (i ∷ []))) (Holds s.builder is)

-- this and `with_sequence_lem` below are two: each holds of its own array and count of the builder, and leaves the other's
with_snippet_lem : (b : WaveformMemoryBuilder) (is : List Item) (s : SnippetBuilder) (ps : List Point) → Holds b is → snippet.Holds s ps
    → Added is (with_built_snippet b (built_snippet s)) (points ps)
with_snippet_lem b is s ps h k = some (dec_le 1 s.len) where
  full : 1 ≤ s.len → Dec (15 ≤ b.num_snippets) → Added is (with_built_snippet b (built_snippet s)) (points ps)
  full p (yes q) = simp (le-ltb _ _ p, le-leb _ _ q) (inr (omega arith, h))
  full p (no q) =
      let q' : b.num_snippets < 15 = omega arith in
      simp (le-ltb _ _ p, lt-leb _ _ q')
      (inl (
        refl,
        holds_of _ _ _ _ (snippets_append is (points ps ∷ [])) (sequences_append is (points ps ∷ []) ∙ append-nil (sequences_of is))
            (shows_more 15 snippet_bytes point_bytes b.snippets b.num_snippets (snippets_of is) (record { points = s.points; len = s.len }) ps h.snippets q' (take-map code.pwl_byte s.len s.points ∙ k.shows.shown))
            h.sequences
            (all_append SnippetAdmitted (snippets_of is) (ps ∷ []) h.snippet (record { nonempty = omega (arith, k.shows.counted); few = omega (arith, k.shows.counted, k.shows.room); each = k.good }, tt))
            h.sequence,
      ))

  some : Dec (1 ≤ s.len) → Added is (with_built_snippet b (built_snippet s)) (points ps)
  some (yes p) = full p (dec_le 15 b.num_snippets)
  some (no p) = let p' : s.len < 1 = omega arith in simp (lt-ltb _ _ p') (inr (omega arith, h))

with_sequence_lem : (b : WaveformMemoryBuilder) (is : List Item) (s : SequenceBuilder) (fs : List FrameBuilder) → Holds b is → sequence.Holds s fs
    → Added is (with_built_sequence b (built_sequence s)) (frames fs)
with_sequence_lem b is s fs h k = some (dec_le 1 s.len) where
  full : 1 ≤ s.len → Dec (16 ≤ b.num_sequences) → Added is (with_built_sequence b (built_sequence s)) (frames fs)
  full p (yes q) = simp (le-ltb _ _ p, le-leb _ _ q) (inr (omega arith, h))
  full p (no q) =
      let q' : b.num_sequences < 16 = omega arith in
      simp (le-ltb _ _ p, lt-leb _ _ q')
      (inl (
        refl,
        holds_of _ _ _ _ (snippets_append is (frames fs ∷ []) ∙ append-nil (snippets_of is)) (sequences_append is (frames fs ∷ []))
            h.snippets
            (shows_more 16 sequence_bytes frames_bytes b.sequences b.num_sequences (sequences_of is) (record { «data» = s.«data»; len = s.len }) fs h.sequences q' k.shown)
            h.snippet
            (all_append SequenceAdmitted (sequences_of is) (fs ∷ []) h.sequence (record { nonempty = short fs (omega (arith, k.counted)); few = k.few; each = k.good }, tt)),
      ))

  some : Dec (1 ≤ s.len) → Added is (with_built_sequence b (built_sequence s)) (frames fs)
  some (yes p) = full p (dec_le 16 b.num_sequences)
  some (no p) = let p' : s.len < 1 = omega arith in simp (lt-ltb _ _ p') (inr (omega arith, h))

pub one_call : (b : WaveformMemoryBuilder) (is : List Item) (k : MemoryCall) → Holds b is → Added is (memory_step b k) (added_item k)
one_call b is (add_snippet ks) h = with_snippet_lem b is (snippet_from ks) (points_from ks) h (snippet_holds ks)
one_call b is (add_sequence ms) h = with_sequence_lem b is (sequence_from ms) (frames_from ms) h (sequence_holds ms)

-- ---- building

pub record Whole (ss qs : List (List ℕ)) : Type 0 where
  pub some_snippets : 1 ≤ length ss
  pub some_sequences : 1 ≤ length qs
  pub fits : image_size ss qs ≤ 100

number_whole : (ss qs : List (List ℕ)) → image_number ss qs ≡ 0 → Whole ss qs
number_whole ss qs e = first (dec_le 1 (length ss)) where
  third : 1 ≤ length ss → 1 ≤ length qs → Dec (image_size ss qs ≤ 100) → Whole ss qs
  third p q (yes r) = record { some_snippets = p; some_sequences = q; fits = r }
  third p q (no r) =
      let r' : 100 < image_size ss qs = omega arith in
      let z : ◌≡◌ {A = ℕ} 8 0 = simp (le-ltb (length ss) 1 p, le-ltb (length qs) 1 q, lt-ltb 100 (image_size ss qs) r') at e in absurd (omega arith)

  second : 1 ≤ length ss → Dec (1 ≤ length qs) → Whole ss qs
  second p (yes q) = third p q (dec_le (image_size ss qs) 100)
  second p (no q) =
      let q' : length qs < 1 = omega arith in
      let z : ◌≡◌ {A = ℕ} 10 0 = simp (le-ltb (length ss) 1 p, lt-ltb (length qs) 1 q') at e in absurd (omega arith)

  first : Dec (1 ≤ length ss) → Whole ss qs
  first (yes p) = second p (dec_le 1 (length qs))
  first (no p) = let p' : length ss < 1 = omega arith in let z : ◌≡◌ {A = ℕ} 9 0 = simp (lt-ltb (length ss) 1 p') at e in absurd (omega arith)

module _ (b : WaveformMemoryBuilder) (is : List Item) (h : Holds b is) (e : (built_memory b).number ≡ 0) where
  abbrev ss : List (List ℕ)
  ss = map point_bytes (snippets_of is)

  abbrev qs : List (List ℕ)
  qs = map frames_bytes (sequences_of is)

  -- what a builder that holds a content builds, where nothing is refused
  built_memory_lem : (built_memory b).item ≡ memory_of ss qs
  unfolding built_memory
  built_memory_lem = simp e (ap₂ memory_of h.snippets.shown h.sequences.shown)

  built_admitted : Admitted (content_of is)
  unfolding built_memory
  built_admitted =
      let r : image_number (snippet_items b) (sequence_items b) ≡ image_number ss qs = ap₂ image_number h.snippets.shown h.sequences.shown in
      let w = number_whole ss qs (sym r ∙ e) in
      let ns = length-map (snippets_of is) point_bytes in
      let nq = length-map (sequences_of is) frames_bytes in
      record {
        snippets = record {
          nonempty = omega (arith, w.some_snippets);
          few = omega (arith, h.snippets.counted, h.snippets.room);
          each = h.snippet;
        };
        sequences = record {
          nonempty = omega (arith, w.some_sequences);
          few = omega (arith, h.sequences.counted, h.sequences.room);
          each = h.sequence;
        };
        fits = w.fits;
      }

  built : Admitted (content_of is) × (image_of (content_of is) ≡ (built_memory b).item.«data»)
  unfolding image_of
  built = (built_admitted, ap (λ (m : WaveformMemory). m.«data») (sym built_memory_lem))

pub memory_holds : (a : Bool) (ks : List MemoryCall) → Holds (memory_from a ks) (held memory_step added_item (new_memory a) ks)
memory_holds a ks = all_calls memory_step added_item Holds one_call ks (new_memory a) [] (none_held a)

pub image_from_lem : (a : Bool) (ks : List MemoryCall) → (built_from a ks).number ≡ 0
    → Admitted (content_from a ks) × (image_of (content_from a ks) ≡ (built_from a ks).item.«data»)
image_from_lem a ks e =
    subst (λ (c : Content). Admitted c × (image_of c ≡ (built_from a ks).item.«data»)) (content_held a ks) (built (memory_from a ks) _ (memory_holds a ks) e)

pub values_from : (a : Bool) (ks : List MemoryCall) → (built_from a ks).number ≡ 0
    → (built_from a ks).item ≡ memory_of (map point_bytes (content_from a ks).snippets) (map frames_bytes (content_from a ks).sequences)
values_from a ks e =
    built_memory_lem (memory_from a ks) _ (memory_holds a ks) e
    ∙ ap (λ (c : Content). memory_of (map point_bytes c.snippets) (map frames_bytes c.sequences)) (content_held a ks)
