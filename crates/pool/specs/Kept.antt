-- Items kept: their number, a length for each, then their bytes, of which a hundred have room.
use Rattle.std.specs.Prelude.{ℕ, ◌+◌, ◌-◌, ◌≤◌, ◌≡◌, min, cond, List, [], ◌∷◌, ◌++◌, map, ltb, length, replicate, sum}
use Rattle.errors.specs.Told.{told_by, told_number}
use Rattle.laws.specs.Copied.{copied}
use Rattle.laws.specs.Whole.{whole, whole_out}
use Rattle.laws.specs.Lists.{joined}
use Rattle.memory.specs.Image.{image_bytes}
use Rattle.memory.specs.Memory.{image_number}
use Rattle.pool.specs.declared.Pool.{Pool}
use Rattle.pool.specs.declared.Kept.{Kept}

-- an item's length as it is kept: above 255 counts as 255
abbrev pub kept_length : List ℕ → ℕ
kept_length x = min (length x) 255

-- where there is room for the lengths of `most` items
unfoldable pub kept : (most : ℕ) → List (List ℕ) → Pool most
kept most items =
    record {
      count = length items;
      lens = map kept_length items ++ replicate (most - length items) 0;
      bytes = copied (replicate 100 0) (joined items);
      used = min (length (joined items)) 101;
    }

-- no items yet
abbrev pub no_items : (most : ℕ) → Pool most
no_items most = record { count = 0; lens = replicate most 0; bytes = replicate 100 0; used = 0 }

abbrev pub nothing_kept : Kept
nothing_kept = record { snippets = no_items 15; sequences = no_items 16 }

-- the index of each item's last byte, by the items' lengths
abbrev pub ends : ℕ → List ℕ → List ℕ
ends before [] = []
ends before (n ∷ ns) = (before + n) ∷ ends (before + n) ns

-- an item more behind the others, where there is room for its length; every pool keeps some items
abbrev pub Pushed : (most : ℕ) → List ℕ → Pool most → Pool most → Type 0
Pushed most bytes p p' =
    (items : List (List ℕ)) → length items ≤ most → p ≡ kept most items
    → p' ≡ kept most (cond (ltb (length items) most) (items ++ (bytes ∷ [])) items)

-- ---- the image

-- lengths and bytes of snippets, then of sequences, that fit into an image
pub record Fits (ls xs ks ys : List ℕ) : Type 0 where
  pub size : length ls + length ks + length xs + length ys ≤ 98
  pub snippets_laid : sum ls ≡ length xs
  pub sequences_laid : sum ks ≡ length ys

-- the image that they make
abbrev pub image_from : List ℕ → List ℕ → List ℕ → List ℕ → List ℕ
image_from ls xs ks ys =
    length ls ∷ length ks
    ∷ ends (1 + length ls + length ks) (ls ++ ks)
    ++ xs
    ++ ys
    ++ replicate (98 - (length ls + length ks + length xs + length ys)) 0

-- the answer and the buffer after the image of snippets and sequences that are kept was built
abbrev pub ImageLaid : Kept → List ℕ → ℕ → List ℕ → Type 0
ImageLaid k buffer n buffer' =
    (ss qs : List (List ℕ)) → length ss ≤ 15 → length qs ≤ 16 → k.snippets ≡ kept 15 ss → k.sequences ≡ kept 16 qs
    → let item = told_by (image_number ss qs) (image_bytes ss qs) in (n ≡ told_number (whole buffer item)) × (buffer' ≡ whole_out buffer item)
