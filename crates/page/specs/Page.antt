-- What is claimed of the printed page: document 02, CR 1, "two readable images that print alike must be equal", and that its lines are the request's.
use Rattle.std.specs.Prelude.{ℕ, ◌+◌, ◌-◌, ◌*◌, ◌/◌, ◌%◌, ◌≤◌, ◌≡◌, Bool, true, cond, ◌&&◌, ◌||◌, List, [], ◌∷◌, ◌++◌, ltb, leb, eqb, length, take, replicate}
use Rattle.std.proofs.Math.Option.{none, some}
use Rattle.std.proofs.Math.ListN.{get_elem?}
use Prim.Native.String.{String}
use Rattle.errors.specs.Told.{gives, refuses}
use Rattle.laws.specs.Bytes.{All, Bytes}
use Rattle.laws.specs.Lists.{joined}
use Rattle.laws.specs.Whole.{whole, whole_out, length_of}
use Rattle.frame.specs.declared.FrameBuilder.{FrameBuilder}
use Rattle.frame.specs.Frame.{bytes_of}
use Rattle.content.specs.Content.{Point, Content, point_bytes, image_of}
use Rattle.content.specs.ReadImage.{read_image}
use Rattle.page.specs.Lines.{characters, page_lines, page_of, page_item}

-- ---- lines in numbers, said once more; characters are those of ASCII

-- a blank, 0 to 9, A to F or S
abbrev pub prints : ℕ → Bool
prints b = eqb b 0x20 || leb 0x30 b && leb b 0x39 || leb 0x41 b && leb b 0x46 || eqb b 0x53

-- "exactly 36 characters and a newline"
pub record Line (l : List ℕ) : Type 0 where
  pub body : List ℕ
  pub ends : l ≡ body ++ 0x0A ∷ []
  pub wide : length body ≡ 36
  pub shown : All (λ b. prints b ≡ true) body

-- a number below 100
abbrev pub decimal : ℕ → List ℕ
decimal n = (0x30 + n / 10) ∷ (0x30 + n % 10) ∷ []

-- a number below 16
abbrev pub capital : ℕ → ℕ
capital n = cond (ltb n 10) (0x30 + n) (0x37 + n)

abbrev pub hexadecimal : List ℕ → List ℕ
hexadecimal [] = []
hexadecimal (b ∷ bytes) = capital (b / 16) ∷ capital (b % 16) ∷ hexadecimal bytes

abbrev pub filled : List ℕ → List ℕ
filled l = l ++ replicate (36 - length l) 0x20 ++ 0x0A ∷ []

-- the page of an image whose content is c
pub record Printed (image : List ℕ) (c : Content) : Type 0 where
  -- the image is of these points and these frames, whose bytes the lines have
  pub standing : image_of c ≡ image
  -- it is printed, and the text is the lines
  pub given : page_item (read_image image) ≡ gives (joined (page_lines c))
  pub text : page_of c ≡ joined (page_lines c)
  pub lines : All Line (page_lines c)
  -- one for each snippet, then one for each frame; i and j count from 0, 0x53 is S and 0x46 is F
  pub count : length (page_lines c) ≡ length c.snippets + length (joined c.sequences)
  pub snippet : (i : ℕ) (points : List Point) → get_elem? c.snippets i ≡ some points → get_elem? (page_lines c) i ≡ some (filled (0x53 ∷ decimal (i + 1) ++ 0x20 ∷ hexadecimal (point_bytes points)))
  pub frame : (i j : ℕ) (frames : List FrameBuilder) (f : FrameBuilder) → get_elem? c.sequences i ≡ some frames → get_elem? frames j ≡ some f
      → get_elem? (page_lines c) (length c.snippets + length (joined (take i c.sequences)) + j) ≡ some (filled (0x46 ∷ decimal i ++ 0x20 ∷ decimal (j + 1) ++ 0x20 ∷ hexadecimal (bytes_of f)))
  -- two lines at least, and 94 at most
  pub size : length (page_of c) ≡ 37 * length (page_lines c)
  pub least : 74 ≤ length (page_of c)
  pub most : length (page_of c) ≤ 3478

-- ---- pages as one reads them

-- texts, a newline behind each
abbrev pub typed : List String → List ℕ
typed [] = []
typed (t ∷ ts) = characters t ++ 0x0A ∷ typed ts

-- 01's image: snippet AA 00 with sequence 01
abbrev pub example_image : List ℕ
example_image = 0x01 ∷ 0x01 ∷ 0x05 ∷ 0x06 ∷ 0xAA ∷ 0x00 ∷ 0x01 ∷ replicate 93 0

-- one with a second snippet, of 16 points; with frames of one, two and three bytes, and a second sequence, of ten frames
abbrev pub fuller_image : List ℕ
fuller_image =
    0x02 ∷ 0x02 ∷ 0x07 ∷ 0x17 ∷ 0x1D ∷ 0x27 ∷ 0xAA ∷ 0x00
    ∷ 0x01 ∷ 0x23 ∷ 0x45 ∷ 0x67 ∷ 0x89 ∷ 0xAB ∷ 0xCD ∷ 0xEF ∷ 0xFE ∷ 0xDC ∷ 0xBA ∷ 0x98 ∷ 0x76 ∷ 0x54 ∷ 0x32 ∷ 0x10
    ∷ 0x01 ∷ 0x01 ∷ 0x81 ∷ 0x33 ∷ 0x96 ∷ 0x2C ∷ replicate 9 0x02 ++ 0x1E ∷ replicate 60 0

-- one whose page is longest: one point, and 93 frames of one byte in three sequences
abbrev pub longest_image : List ℕ
longest_image = 0x01 ∷ 0x03 ∷ 0x06 ∷ 0x25 ∷ 0x44 ∷ 0x63 ∷ 0xAA ∷ replicate 93 0x01

pub record Page : Type 0 where
  -- "Two readable images that print alike must be equal"
  pub apart : (l m : List ℕ) → Bytes l → Bytes m → (c d : Content) → read_image l ≡ some c → read_image m ≡ some d → page_of c ≡ page_of d → l ≡ m
  -- so are images of which two calls left the same text: each buffer's front, as long as that call answered
  pub told_apart : (l m a b : List ℕ) → Bytes l → Bytes m → (n k : ℕ)
      → length_of (whole a (page_item (read_image l))) ≡ gives n → length_of (whole b (page_item (read_image m))) ≡ gives k
      → take n (whole_out a (page_item (read_image l))) ≡ take k (whole_out b (page_item (read_image m))) → l ≡ m
  pub printed : (l : List ℕ) → Bytes l → (c : Content) → read_image l ≡ some c → Printed l c
  -- "An unreadable image gives 18 and prints no line"
  pub unread : (l a : List ℕ) → read_image l ≡ none → (length_of (whole a (page_item (read_image l))) ≡ refuses 18) × (whole_out a (page_item (read_image l)) ≡ a)
  -- "01's image example prints "S01 AA00" and "F00 01 01", both padded"
  pub example : page_item (read_image example_image) ≡ gives (
      0x53 ∷ 0x30 ∷ 0x31 ∷ 0x20 ∷ 0x41 ∷ 0x41 ∷ 0x30 ∷ 0x30 ∷ replicate 28 0x20
      ++ 0x0A ∷ 0x46 ∷ 0x30 ∷ 0x30 ∷ 0x20 ∷ 0x30 ∷ 0x31 ∷ 0x20 ∷ 0x30 ∷ 0x31 ∷ replicate 27 0x20 ++ 0x0A ∷ [])
  -- and another one as it is read
  pub fuller : page_item (read_image fuller_image) ≡ gives (typed (
      "S01 AA00                            " ∷
      "S02 0123456789ABCDEFFEDCBA9876543210" ∷
      "F00 01 01                           " ∷
      "F00 02 0181                         " ∷
      "F00 03 33962C                       " ∷
      "F01 01 02                           " ∷
      "F01 02 02                           " ∷
      "F01 03 02                           " ∷
      "F01 04 02                           " ∷
      "F01 05 02                           " ∷
      "F01 06 02                           " ∷
      "F01 07 02                           " ∷
      "F01 08 02                           " ∷
      "F01 09 02                           " ∷
      "F01 10 1E                           " ∷ []))
  pub longest : length_of (page_item (read_image longest_image)) ≡ gives 3478
