-- What `build` answers for the snippets ss and the sequences qs that a builder shows, where it has some of each.
-- Assumes nothing.
use mathlib.Core.Path.{◌≡◌, sym, ap, ◌∙◌}
use mathlib.Core.Bool.{false, cond}
use mathlib.Core.List.{List, map}
use Prim.Native.Nat.{ℕ, ◌+◌, ◌≤◌, ◌<◌}
use native.Mathlib.Omega.{arith}
use lib.Dec.{ltb}
use lib.ListN.{length, take, length-map}
use borrow.Author.Tests.{lt-ltb, le-ltb}
use Rattle.laws.specs.Lists.{joined}
use Rattle.errors.specs.Told.{Built, built}
use Rattle.snippet.specs.declared.Snippet.{Snippet}
use Rattle.snippet.specs.Snippet.{snippet_bytes}
use Rattle.sequence.specs.declared.Sequence.{Sequence}
use Rattle.sequence.specs.Sequence.{sequence_bytes}
use Rattle.memory.specs.declared.WaveformMemory.{WaveformMemory}
use Rattle.memory.specs.declared.WaveformMemoryBuilder.{WaveformMemoryBuilder}
use Rattle.memory.specs.Image.{image_size, image_bytes}
use Rattle.memory.specs.Memory.{no_memory, memory_of, image_number, built_memory}
use Rattle.memory.proofs.Images.{image_size_lem}

abbrev answered : ℕ → List (List ℕ) → List (List ℕ) → WaveformMemoryBuilder → Built WaveformMemory WaveformMemoryBuilder
answered n snippets sequences b = built n (cond (ltb 0 n) no_memory (memory_of snippets sequences)) b

-- there are as many items as values
some_items : {A : Type 0} (f : A → List ℕ) (l : List A) → 1 ≤ length l → ltb (length (map f l)) 1 ≡ false
some_items f l h = le-ltb (length (map f l)) 1 (omega (arith, length-map l f))

module _ (ss : List Snippet) (qs : List Sequence) where
  -- x and y are how many bytes they take
  sized : (x y : ℕ) → x ≡ length (joined (map snippet_bytes ss)) → y ≡ length (joined (map sequence_bytes qs))
      → 2 + length ss + length qs + x + y ≡ image_size (map snippet_bytes ss) (map sequence_bytes qs)
  sized x y ex ey =
      omega (arith, image_size_lem (map snippet_bytes ss) (map sequence_bytes qs) (length ss) (length qs) (length-map ss snippet_bytes) (length-map qs sequence_bytes))

module _ {b : WaveformMemoryBuilder} {ss : List Snippet} {qs : List Sequence} (e : ss ≡ take b.num_snippets b.snippets) (f : qs ≡ take b.num_sequences b.sequences)
    (g : 1 ≤ length ss) (h : 1 ≤ length qs) where
  told : (n : ℕ) {m : WaveformMemory} → image_number (map snippet_bytes ss) (map sequence_bytes qs) ≡ n
      → m ≡ cond (ltb 0 n) no_memory (memory_of (map snippet_bytes ss) (map sequence_bytes qs)) → built n m b ≡ built_memory b
  unfolding built_memory
  told n j k =
      ap (λ (m : WaveformMemory). built n m b) k
      ∙ ap (λ (i : ℕ). answered i (map snippet_bytes ss) (map sequence_bytes qs) b) (sym j)
      ∙ (λ i. answered (image_number (map snippet_bytes (e i)) (map sequence_bytes (f i))) (map snippet_bytes (e i)) (map sequence_bytes (f i)) b)

  module _ {x y : ℕ} (ex : x ≡ length (joined (map snippet_bytes ss))) (ey : y ≡ length (joined (map sequence_bytes qs))) where
    pub too_long : 100 < 2 + length ss + length qs + x + y → built 8 no_memory b ≡ built_memory b
    too_long l =
        let full = lt-ltb 100 (image_size (map snippet_bytes ss) (map sequence_bytes qs)) (omega (arith, sized ss qs x y ex ey)) in
        told 8 (simp (some_items snippet_bytes ss g, some_items sequence_bytes qs h, full)) (λ i. no_memory)

    pub done : {image : List ℕ} → image ≡ image_bytes (map snippet_bytes ss) (map sequence_bytes qs) → 2 + length ss + length qs + x + y ≤ 100
        → built 0 (record { «data» = image; len = 2 + length ss + length qs + x + y; num_snippets = length ss; num_sequences = length qs }) b ≡ built_memory b
    done k l =
        let fits = le-ltb 100 (image_size (map snippet_bytes ss) (map sequence_bytes qs)) (omega (arith, sized ss qs x y ex ey)) in
        told 0 (simp (some_items snippet_bytes ss g, some_items sequence_bytes qs h, fits))
        (λ i. record { «data» = k i; len = sized ss qs x y ex ey i; num_snippets = sym (length-map ss snippet_bytes) i; num_sequences = sym (length-map qs sequence_bytes) i })
