-- Items put into an image one after the other: what the private functions that write an image do, turn by turn. Only private contracts
-- cite this; document 01's words are in Image.antt.
use Rattle.std.specs.Prelude.{ℕ, suc, ◌+◌, ◌-◌, ◌≤◌, ◌≡◌, List, [], ◌∷◌, length, set}
use Rattle.laws.specs.Copied.{over}
use Rattle.laws.specs.Lists.{joined}

-- an item's end pointer at one index, and its bytes from another on
abbrev pub with_laid : List ℕ → ℕ → ℕ → List ℕ → List ℕ
with_laid image pointer at bytes = over (set image pointer (at + length bytes - 1)) at bytes

-- the items in turn
unfoldable pub laid : List ℕ → ℕ → ℕ → List (List ℕ) → List ℕ
laid image pointer at [] = image
laid image pointer at (x ∷ xs) = laid (with_laid image pointer at x) (suc pointer) (at + length x) xs

-- items fit in a hundred bytes: their end pointers from an index on, their bytes from a later one on
abbrev pub HasRoom : List ℕ → ℕ → ℕ → List (List ℕ) → Type 0
HasRoom image pointer at items = (length image ≡ 100) × (pointer + length items ≤ at) × (at + length (joined items) ≤ 100)

-- snippets and sequences fit in an image
abbrev pub ImageFits : List (List ℕ) → List (List ℕ) → Type 0
ImageFits snippets sequences =
    (length snippets ≤ 15) × (length sequences ≤ 16)
    × (2 + length snippets + length sequences + length (joined snippets) + length (joined sequences) ≤ 100)
