-- The bytes behind the item before, up to the pointer.
use Rattle.std.proofs.Common.{◌-◌, ◌≡◌, ◌+◌, ◌≤◌, ◌∙◌, List, ℕ, zero, suc, take, drop, min, length, get_or, ap, refl, sym, arith}
use native.Mathlib.Decide.{dec_le}
use native.Mathlib.Nat.{min-eq_left, min-eq_right}
use lib.Seq.{take_all}
use lib.ListN.{length-drop, drop_of_length-le, get_or-eq_default}
use Rattle.std.proofs.lemmas.List.{get_or-drop}
use Rattle.reader.specs.Walk.{item}
use Rattle.reader.proofs.Placed.{part_shown}
use Rattle.readings.specs.InPlace.{before_item, item_at}
use Rattle.readings.proofs.item.Goals as goal
use Rattle.readings.proofs.item.Goals.{then-k-eq0, else-k-eq0}

-- the part up to the pointer, or to the end
item_part : (image : List ℕ) (p e from to : ℕ) → to ≡ min (e + 1) (length image) → from ≡ min (p + 1) to → take (to - from) (drop from image) ≡ item image p e
item_part image p e from to a b =
    let k : e + 1 - (p + 1) ≡ e - p = omega arith in
    part_shown image (p + 1) (e + 1) from to a b ∙ ap (λ (n : ℕ). take n (drop (p + 1) image)) k

-- the j-th byte behind the k-th; there is none behind the end
byte_behind : (image : List ℕ) (k m j n : ℕ) → m ≡ min k (length image) → n ≡ k + j → get_or (take (length image - m) (drop m image)) j 0 ≡ get_or image n 0
byte_behind image k m j n e h = ap (λ l. get_or l j 0) (take_all (length image - m) (drop m image) (omega (arith, length-drop m image))) ∙ go (dec_le k (length image)) where
  go : Dec (k ≤ length image) → get_or (drop m image) j 0 ≡ get_or image n 0
  go (yes le) = let d : m ≡ k = e ∙ min-eq_left le in ap (λ i. get_or (drop i image) j 0) d ∙ get_or-drop k image j 0 ∙ ap (λ i. get_or image i 0) (sym h)
  go (no gt) =
      let le : length image ≤ k = omega arith in
      let d : m ≡ length image = e ∙ min-eq_right le in
      ap (λ i. get_or (drop i image) j 0) d ∙ ap (λ l. get_or l j 0) (drop_of_length-le image {i = length image} (omega arith))
      ∙ sym (get_or-eq_default image 0 {n = n} (omega arith))

before_first : (image : List ℕ) (k last a b : ℕ) → last ≡ 1 + a + b → a ≡ get_or image 0 0 → b ≡ get_or image 1 0 → k ≡ 0 → last ≡ before_item image k
before_first image zero last a b d e f h = d ∙ (λ i. 1 + e i + f i)
before_first image (suc k) last a b d e f h = absurd (omega arith)

before_next : (image : List ℕ) (k last a : ℕ) → last ≡ a → a ≡ get_or image (1 + k) 0 → (k ≡ 0 → ⊥) → last ≡ before_item image k
before_next image zero last a d e h = absurd (h refl)
before_next image (suc k) last a d e h = let j : 1 + suc k ≡ 2 + k = omega arith in d ∙ e ∙ ap (λ (n : ℕ). get_or image n 0) j

pub returns : goal.returns
unfolding item_at
returns c =
    let image = c.args.image.now in
    let k = c.args.k in
    let behind = λ (j n : ℕ) (h : n ≡ k + j). byte_behind image k c.min.result j n c.min.ensures h in
    let last : c.if-k-eq0.last ≡ before_item image k =
    elim c.if-k-eq0.branch [
      | then-k-eq0 w ↦ before_first image k _ _ _ w.last-is (w.from.ensures ∙ w.byte_at.ensures) (w.from-then-k-eq0.ensures ∙ w.byte_at-then-k-eq0.ensures) w.if-k-eq0.true
      | else-k-eq0 w ↦ before_next image k _ _ w.last-is (w.from-last.ensures ∙ w.byte_at-else-k-eq0.ensures ∙ behind 1 (1 + k) (omega arith)) w.if-k-eq0.false
    ]
    in
    let end : c.from-2.result ≡ get_or image (2 + k) 0 = c.from-2.ensures ∙ c.byte_at-2.ensures ∙ behind 2 (2 + k) (omega arith) in
    item_part image c.if-k-eq0.last c.from-2.result _ _ c.min-end.ensures c.min-2.ensures ∙ (λ i. item image (last i) (end i))
