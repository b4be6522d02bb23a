-- How many frames an image's items have.
-- Assumes nothing.
use Rattle.std.proofs.Common.{◌≡◌, ◌+◌, ◌*◌, ◌≤◌, ◌<◌, ◌∙◌, ℕ, zero, suc, List, map, length, drop, ap, arith}
use lib.ListN.{length-append}
use Rattle.laws.specs.Lists.{joined}
use Rattle.readings.specs.InPlace.{item_at}
use Rattle.readings.specs.InPlace.{items_at, frames_in}
use Rattle.readings.proofs.InPlace.{items_next, items_end, frames_few}

-- as many as n items have, from the i-th on
abbrev pub left_in : List ℕ → ℕ → ℕ → ℕ → ℕ
left_in image k n i = length (joined (map frames_in (drop i (items_at image k n))))

pub frames_next : (image : List ℕ) (k n i : ℕ) → i < n → left_in image k n i ≡ length (frames_in (item_at image (k + i))) + left_in image k n (i + 1)
frames_next image k n i h =
    ap (λ l. length (joined (map frames_in l))) (items_next image k n i h)
    ∙ length-append (frames_in (item_at image (k + i))) (joined (map frames_in (drop (i + 1) (items_at image k n))))

pub frames_end : (image : List ℕ) (k n i : ℕ) → n ≤ i → left_in image k n i ≡ 0
frames_end image k n i h = ap (λ l. length (joined (map frames_in l))) (items_end image k n i h)

pub frames_bound : (image : List ℕ) (k n : ℕ) → length (joined (map frames_in (items_at image k n))) ≤ 32 * n
frames_bound image k zero = omega arith
frames_bound image k (suc n) =
    omega (arith, length-append (frames_in (item_at image k)) (joined (map frames_in (items_at image (suc k) n))), frames_few (item_at image k), frames_bound image (suc k) n)
