-- A whole item into a lent buffer, or nothing: document 02, CR 5. The contract of every function that hands out an item, an image or all
-- lists of an image cites this; the answers to a list of calls, the register listings and the bytes of an exchange are in Copied.antt.
use Rattle.std.specs.Prelude.{ℕ, ◌<◌, ◌≤◌, ◌≡◌, cond, List, ◌++◌, ltb, length, take, drop}
use Rattle.errors.specs.Told.{Told, gives, refuses, on_told, told_number}

-- the item, if it was made, else its own refusal; then "A buffer shorter than the item is refused with 24", which is "tested last"
abbrev pub whole : List ℕ → Told (List ℕ) → Told (List ℕ)
whole buffer item = on_told item (λ bytes. cond (ltb (length buffer) (length bytes)) (refuses 24) (gives bytes)) refuses

-- the buffer afterwards: the item in front of the other bytes, which stay, "or copy nothing"
abbrev pub whole_out : List ℕ → Told (List ℕ) → List ℕ
whole_out buffer item = on_told (whole buffer item) (λ bytes. bytes ++ drop (length bytes) buffer) (λ number. buffer)

-- "and answer its length"
abbrev pub length_of : Told (List ℕ) → Told ℕ
length_of item = on_told item (λ bytes. gives (length bytes)) refuses

-- no part of an item is handed out
pub record WholeOrNothing (buffer : List ℕ) (item : Told (List ℕ)) : Type 0 where
  -- an item that was made and has room goes in front of the buffer's other bytes
  pub given : (bytes : List ℕ) → item ≡ gives bytes → length bytes ≤ length buffer
      → (length_of (whole buffer item) ≡ gives (length bytes)) × (told_number (whole buffer item) ≡ 0) × (whole_out buffer item ≡ bytes ++ drop (length bytes) buffer)
  -- one without room changes nothing
  pub short : (bytes : List ℕ) → item ≡ gives bytes → length buffer < length bytes
      → (length_of (whole buffer item) ≡ refuses 24) × (told_number (whole buffer item) ≡ 24) × (whole_out buffer item ≡ buffer)
  -- nor does one that was not made, whatever the buffer; its own number is told
  pub own : (number : ℕ) → item ≡ refuses number
      → (length_of (whole buffer item) ≡ refuses number) × (told_number (whole buffer item) ≡ number) × (whole_out buffer item ≡ buffer)
  -- so as many bytes of the buffer as are answered are the item
  pub answered : (n : ℕ) → length_of (whole buffer item) ≡ gives n → item ≡ gives (take n (whole_out buffer item))
