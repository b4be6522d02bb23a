-- One turn of a loop over items, f of each its bytes: what is left gives what the whole gives.
-- Assumes nothing.
use mathlib.Core.Path.{◌≡◌, sym, ap, ◌∙◌}
use mathlib.Core.List.{List, [], ◌∷◌, map}
use Prim.Native.Nat.{ℕ, suc, ◌+◌, ◌*◌, ◌≤◌, ◌<◌}
use native.Mathlib.Numerals.{add-one}
use native.Mathlib.Omega.{arith}
use lib.ListN.{length, drop, get_or, length-append, length-take, length-drop, length-set, length-map, drop_of_length-le, get_or-map}
use lib.Seq.{drop-cons}
use Rattle.laws.specs.Lists.{joined}
use Rattle.memory.specs.Laid.{with_laid, laid, HasRoom}

-- the next item
pub next_item : {A : Type 0} (f : A → List ℕ) (l : List A) (i : ℕ) (d : A) → i < length l → drop i (map f l) ≡ f (get_or l i d) ∷ drop (i + 1) (map f l)
next_item f l i d h =
    rw (add-one) (drop-cons (map f l) i (f d) (omega (arith, length-map l f)))
    ∙ ap (λ (x : List ℕ). x ∷ drop (i + 1) (map f l)) (get_or-map f l i d)

joined_next : (items : List (List ℕ)) (i : ℕ) (x : List ℕ) → drop i items ≡ x ∷ drop (i + 1) items
    → length (joined (drop i items)) ≡ length x + length (joined (drop (i + 1) items))
joined_next items i x d = ap (λ (l : List (List ℕ)). length (joined l)) d ∙ length-append x (joined (drop (i + 1) items))

-- ---- the items' lengths, summed

-- the first i of them
pub record Summed {A : Type 0} (f : A → List ℕ) (l : List A) (sum i : ℕ) : Type 0 where
  pub rest : sum + length (joined (drop i (map f l))) ≡ length (joined (map f l))
  pub bound : sum ≤ 96 * i

module _ {A : Type 0} {f : A → List ℕ} {l : List A} {sum i : ℕ} (s : Summed f l sum i) where
  -- one item more, with its length
  pub summed_more : i < length l → (d : A) {k : ℕ} → (k ≡ length (f (get_or l i d))) × (k ≤ 96) → Summed f l (sum + k) (i + 1)
  summed_more g d p =
      let j = joined_next (map f l) i (f (get_or l i d)) (next_item f l i d g) in
      record { rest = omega (arith, s.rest, j, p.0); bound = omega (arith, s.bound, p.1) }

-- ---- the items put into an image

-- an item that fits leaves the image's length
pub length_with : (image : List ℕ) (pointer at : ℕ) (xs : List ℕ) → at + length xs ≤ length image → length (with_laid image pointer at xs) ≡ length image
length_with image pointer at xs h = simp (length-append, length-take, length-drop, length-set) (omega arith)

-- the first i of them
pub record Putting {A : Type 0} (f : A → List ℕ) (l : List A) (image₀ : List ℕ) (pointer at : ℕ) (image : List ℕ) (next i : ℕ) : Type 0 where
  pub room : HasRoom image₀ pointer at (map f l)
  pub long : length image ≡ 100
  pub behind : at ≤ next
  pub rest : next + length (joined (drop i (map f l))) ≡ at + length (joined (map f l))
  pub whole : laid image₀ pointer at (map f l) ≡ laid image (pointer + i) next (drop i (map f l))

module _ {A : Type 0} {f : A → List ℕ} {l : List A} {image₀ : List ℕ} {pointer at : ℕ} {image : List ℕ} {next i : ℕ}
    (s : Putting f l image₀ pointer at image next i) where
  -- the next item, b its bytes
  module _ (g : i < length l) (d : A) {b : List ℕ} (q : b ≡ f (get_or l i d)) where
    next_bytes : drop i (map f l) ≡ b ∷ drop (i + 1) (map f l)
    next_bytes = next_item f l i d g ∙ ap (λ (x : List ℕ). x ∷ drop (i + 1) (map f l)) (sym q)

    pub putting_fits : (pointer + i < next) × (next + length b ≤ 100)
    putting_fits = (
      omega (arith, s.room.1, s.behind, length-map l f),
      omega (arith, joined_next (map f l) i b next_bytes, s.rest, s.room.2),
    )

    pub putting_more : {image' : List ℕ} {next' : ℕ} → next' ≡ next + length b → image' ≡ with_laid image (pointer + i) next b
        → Putting f l image₀ pointer at image' next' (i + 1)
    unfolding laid
    putting_more {image'} {next'} n r =
        let j = joined_next (map f l) i b next_bytes in
        let z : pointer + (i + 1) ≡ suc (pointer + i) = omega arith in
        record {
          room = s.room;
          long = ap length r ∙ length_with image (pointer + i) next b (omega (arith, s.long, putting_fits.1)) ∙ s.long;
          behind = omega (arith, s.behind, n);
          rest = omega (arith, s.rest, n, j);
          whole = s.whole ∙ ap (laid image (pointer + i) next) next_bytes ∙ rw (z, r, n);
        }

  pub putting_all : length l ≤ i → (next ≡ at + length (joined (map f l))) × (image ≡ laid image₀ pointer at (map f l))
  unfolding laid
  putting_all g =
      let d : drop i (map f l) ≡ [] = drop_of_length-le (map f l) {i = i} (omega (arith, length-map l f)) in
      let z : length (joined (drop i (map f l))) ≡ 0 = ap (λ (x : List (List ℕ)). length (joined x)) d in
      (omega (arith, s.rest, z), sym (s.whole ∙ ap (laid image (pointer + i) next) d))
