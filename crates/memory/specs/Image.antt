-- The hundred bytes: document 01, the section of that name. Items are lists of bytes: snippets first, then sequences.
use Rattle.std.specs.Prelude.{ℕ, ◌+◌, ◌-◌, List, [], ◌∷◌, ◌++◌, length, replicate}
use Rattle.laws.specs.Lists.{joined}

-- the index of each item's last byte, where the byte before the first item stands at index `before`
abbrev pub end_pointers : {A : Type 0} → ℕ → List (List A) → List ℕ
end_pointers before [] = []
end_pointers before (x ∷ xs) = (before + length x) ∷ end_pointers (before + length x) xs

-- "2 + s + q + data"
abbrev pub image_size : List (List ℕ) → List (List ℕ) → ℕ
image_size snippets sequences = 2 + length snippets + length sequences + length (joined (snippets ++ sequences))

-- "Byte 0 is the number of snippets s, byte 1 of sequences q. Then s + q end pointers, each the index in the image of that item's last
-- byte, snippets first. Then the data in that order from 2 + s + q, and all later bytes zero"
abbrev pub image_bytes : List (List ℕ) → List (List ℕ) → List ℕ
image_bytes snippets sequences =
    length snippets ∷ length sequences
    ∷ end_pointers (1 + length snippets + length sequences) (snippets ++ sequences)
    ++ joined (snippets ++ sequences) ++ replicate (100 - image_size snippets sequences) 0
