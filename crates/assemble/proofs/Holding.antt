-- A step of the memory's builder, made on the pools that keep its items: one law for snippets and sequences.
-- Assumes nothing.
use mathlib.Core.Path.{◌≡◌, refl, sym, ap, ◌∙◌}
use mathlib.Core.Bool.{Bool, true, false, cond}
use mathlib.Core.List.{List, [], ◌∷◌, ◌++◌, map, map-append}
use Prim.Native.Nat.{ℕ, ◌+◌, ◌≤◌, ◌<◌}
use native.Mathlib.Numerals.{add-one}
use native.Mathlib.Omega.{arith}
use borrow.Author.Tests.{lt-ltb, le-ltb, le-leb, lt-leb, ltb-true, ltb-false}
use lib.Dec.{ltb, leb}
use lib.ListN.{length, set, take, length-set, length-map, length-take}
use lib.Seq.{take-suc-set}
use Rattle.laws.specs.Whole.{whole, whole_out}
use Rattle.errors.specs.Told.{Told, gives, refuses, told_by, told_number, Handed, Built, accepted, refused}
use Rattle.snippet.specs.declared.Snippet.{Snippet}
use Rattle.snippet.specs.Snippet.{snippet_bytes}
use Rattle.sequence.specs.declared.Sequence.{Sequence}
use Rattle.sequence.specs.Sequence.{sequence_bytes}
use Rattle.memory.specs.Image.{image_bytes}
use Rattle.memory.specs.Memory.{new_memory, snippet_items, sequence_items, no_memory, memory_of, image_number, built_memory}
use Rattle.memory.specs.declared.WaveformMemoryBuilder.{WaveformMemoryBuilder}
use Rattle.pool.specs.declared.Pool.{Pool}
use Rattle.pool.specs.declared.Kept.{Kept}
use Rattle.pool.specs.Kept.{kept, nothing_kept, Pushed, ImageLaid}
use Rattle.pool.proofs.Keeping.{count}
use Rattle.assemble.specs.Holding.{Keeps, KeepsMemory}

-- ---- an array whose first n items are kept

module _ {A : Type 0} (most : ℕ) (f : A → List ℕ) (array : List A) (n : ℕ) (p : Pool most) (k : Keeps most f array n p) where
  abbrev items : List (List ℕ)
  items = map f (take n array)

  counted : length items ≡ n
  counted = length-map (take n array) f ∙ length-take n array ∙ (let e = k.long in let h = k.room in omega arith)

  pub number_is : p.count ≡ n
  number_is = count most items p k.same ∙ counted

  kept_by : (t : Bool) (x : List ℕ) (p' : Pool most) → ltb (length items) most ≡ t → Pushed most x p p' → p' ≡ kept most (cond t (items ++ (x ∷ [])) items)
  kept_by t x p' e q = q items (let h = k.room in let g = counted in omega arith) k.same ∙ ap (λ (u : Bool). kept most (cond u (items ++ (x ∷ [])) items)) e

  pub keeps_more : (a : A) (x : List ℕ) (p' : Pool most) → n < most → x ≡ f a → Pushed most x p p' → Keeps most f (set array n a) (n + 1) p'
  keeps_more a x p' h e q =
      let s : map f (take (n + 1) (set array n a)) ≡ items ++ (f a ∷ []) =
      ap (λ (j : ℕ). map f (take j (set array n a))) (add-one n)
      ∙ ap (map f) (take-suc-set array n a (let g = k.long in omega arith))
      ∙ map-append f (take n array) (a ∷ []) in
      record {
        long = length-set array n a ∙ k.long;
        room = omega arith;
        same = kept_by true x p' (lt-ltb (length items) most (let g = counted in omega arith)) q ∙ ap (λ (y : List ℕ). kept most (items ++ (y ∷ []))) e ∙ ap (kept most) (sym s);
      }

  pub keeps_full : (x : List ℕ) (p' : Pool most) → most ≤ n → Pushed most x p p' → Keeps most f array n p'
  keeps_full x p' h q =
      record { long = k.long; room = k.room; same = kept_by false x p' (le-ltb (length items) most (let g = counted in omega arith)) q }

-- ---- the memory's builder: the side of its snippets, or of its sequences

pub record Side (A : Type 0) (most : ℕ) (f : A → List ℕ) : Type 0 where
  pub full : ℕ
  pub array : WaveformMemoryBuilder → List A
  pub num : WaveformMemoryBuilder → ℕ
  pub add : WaveformMemoryBuilder → A → WaveformMemoryBuilder
  pub sets : (m : WaveformMemoryBuilder) (a : A) → array (add m a) ≡ set (array m) (num m) a
  pub counts : (m : WaveformMemoryBuilder) (a : A) → num (add m a) ≡ num m + 1

abbrev pub snippets : Side Snippet 15 snippet_bytes
snippets =
    record {
      full = 6;
      array = λ m. m.snippets;
      num = λ m. m.num_snippets;
      add = λ m s. record {
        snippets = set m.snippets m.num_snippets s;
        sequences = m.sequences;
        num_snippets = m.num_snippets + 1;
        num_sequences = m.num_sequences;
        acceleration_enabled = m.acceleration_enabled;
      };
      sets = λ m s. refl;
      counts = λ m s. refl;
    }

abbrev pub sequences : Side Sequence 16 sequence_bytes
sequences =
    record {
      full = 7;
      array = λ m. m.sequences;
      num = λ m. m.num_sequences;
      add = λ m s. record {
        snippets = m.snippets;
        sequences = set m.sequences m.num_sequences s;
        num_snippets = m.num_snippets;
        num_sequences = m.num_sequences + 1;
        acceleration_enabled = m.acceleration_enabled;
      };
      sets = λ m s. refl;
      counts = λ m s. refl;
    }

module _ {A : Type 0} {most : ℕ} {f : A → List ℕ} (side : Side A most f) where
  abbrev pub Holds : WaveformMemoryBuilder → Pool most → Type 0
  Holds m p = Keeps most f (side.array m) (side.num m) p

  -- the item that was built is added, unless it was refused or there is no room
  abbrev pub put : A → WaveformMemoryBuilder → Handed WaveformMemoryBuilder
  put a m = cond (leb most (side.num m)) (refused side.full m) (accepted (side.add m a))

  module _ {B : Type 0} where
    abbrev pub Steps : Built A B → Pool most → ℕ → Pool most → Type 0
    Steps r p n p' =
        (m : WaveformMemoryBuilder) → Holds m p
        → let next = cond (ltb 0 r.number) (refused r.number m) (put r.item m) in (n ≡ next.number) × Holds next.builder p'

    -- one that was built, x its bytes
    module _ (r : Built A B) (p : Pool most) (z : r.number ≡ 0) (p' : Pool most) (x : List ℕ) (e : x ≡ f r.item) (q : Pushed most x p p') where
      by : (n : ℕ) (u : Bool) → n ≡ cond u 0 side.full → (m : WaveformMemoryBuilder) → Holds m p → ltb p.count most ≡ u
          → (n ≡ (put r.item m).number) × Holds (put r.item m).builder p'
      by n true g m h w =
          let b : side.num m < most = let c = number_is most f (side.array m) (side.num m) p h in let d = ltb-true p.count most w in omega arith in
          let k = keeps_more most f (side.array m) (side.num m) p h r.item x p' b e q in
          rw (lt-leb most (side.num m) b) (g, rw (side.sets m r.item, side.counts m r.item) k)
      by n false g m h w =
          let b : most ≤ side.num m = let c = number_is most f (side.array m) (side.num m) p h in let d = ltb-false p.count most w in omega arith in
          rw (le-leb most (side.num m) b) (g, keeps_full most f (side.array m) (side.num m) p h x p' b q)

      pub put_in : (n : ℕ) → n ≡ cond (ltb p.count most) 0 side.full → Steps r p n p'
      put_in n g m h = simp (le-ltb 0 r.number (omega (arith, z))) (by n (ltb p.count most) g m h refl)

-- ---- from nothing to an image

pub keeps_none : KeepsMemory (new_memory false) nothing_kept
unfolding kept
keeps_none = (record { long = refl; room = omega arith; same = refl }, record { long = refl; room = omega arith; same = refl })

-- the image of what is kept is the builder's
module _ (m : WaveformMemoryBuilder) (k : Kept) (w : KeepsMemory m k) where
  pub image_built : (buffer buffer' : List ℕ) (n : ℕ) → ImageLaid k buffer n buffer'
      → let item = told_by (built_memory m).number (built_memory m).item.«data» in (n ≡ told_number (whole buffer item)) × (buffer' ≡ whole_out buffer item)
  unfolding built_memory
  image_built buffer buffer' n r =
      let a = counted 15 snippet_bytes m.snippets m.num_snippets k.snippets w.0 in
      let b = counted 16 sequence_bytes m.sequences m.num_sequences k.sequences w.1 in
      let p = r (snippet_items m) (sequence_items m) (omega (arith, w.0.room)) (omega (arith, w.1.room)) w.0.same w.1.same in
      let item = same (ltb 0 (image_number (snippet_items m) (sequence_items m))) in
      (p.0 ∙ ap (λ (t : Told (List ℕ)). told_number (whole buffer t)) item, p.1 ∙ ap (whole_out buffer) item)
    where
      same : (t : Bool) → cond {A = Told (List ℕ)} t (refuses (image_number (snippet_items m) (sequence_items m))) (gives (image_bytes (snippet_items m) (sequence_items m)))
          ≡ cond t (refuses (image_number (snippet_items m) (sequence_items m))) (gives (cond t no_memory (memory_of (snippet_items m) (sequence_items m))).«data»)
      same true = refl
      same false = refl
