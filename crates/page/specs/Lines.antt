-- The printed page of an image: document 02, CR 1. A character is its byte in ASCII; nothing ends the text but the last line's newline.
use Rattle.std.specs.Prelude.{ℕ, suc, ◌-◌, ◌/◌, ◌%◌, List, [], ◌∷◌, ◌++◌, map, length, replicate}
use Rattle.std.proofs.Math.Option.{Option}
use Prim.Native.Char.{code}
use Prim.Native.String.{String, [] as empty, ◌∷◌ as ◌then◌}
use Rattle.errors.specs.Told.{Told, gives, refuses}
use Rattle.laws.specs.Lists.{at, joined}
use Rattle.frame.specs.declared.FrameBuilder.{FrameBuilder}
use Rattle.frame.specs.Frame.{bytes_of}
use Rattle.content.specs.Content.{Content, point_bytes}
use Rattle.content.specs.ReadImage.{on_option}

-- the characters of a text
abbrev pub characters : String → List ℕ
characters empty = []
characters (c then s) = code c ∷ characters s

-- ---- numbers

-- decimal digits, then "hexadecimal capitals"
abbrev pub digit : ℕ → ℕ
digit n = at (characters "0123456789ABCDEF") n

-- "in two digits", of a number below 100
abbrev pub two_digits : ℕ → List ℕ
two_digits n = digit (n / 10) ∷ digit (n % 10) ∷ []

-- "two hexadecimal capitals each"
abbrev pub two_capitals : ℕ → List ℕ
two_capitals b = digit (b / 16) ∷ digit (b % 16) ∷ []

-- bytes one after the other
abbrev pub in_capitals : List ℕ → List ℕ
in_capitals bytes = joined (map two_capitals bytes)

-- ---- lines

abbrev pub blank : ℕ
blank = 0x20

abbrev pub newline : ℕ
newline = 0x0A

-- "blanks to 36", and a newline
abbrev pub line : List ℕ → List ℕ
line l = l ++ replicate (36 - length l) blank ++ newline ∷ []

-- "S, its number in two digits .., a blank, its points as two hexadecimal capitals each"
abbrev pub snippet_line : ℕ → List ℕ → List ℕ
snippet_line i bytes = line (characters "S" ++ two_digits i ++ characters " " ++ in_capitals bytes)

-- "F, its sequence in two digits .., a blank, the frame's number there in two digits .., a blank, its bytes written as points are"
abbrev pub frame_line : ℕ → ℕ → List ℕ → List ℕ
frame_line i j bytes = line (characters "F" ++ two_digits i ++ characters " " ++ two_digits j ++ characters " " ++ in_capitals bytes)

-- ---- the page

-- each of a list with its number, of which the first is n
abbrev pub numbered : {A B : Type 0} → (ℕ → A → B) → ℕ → List A → List B
numbered f n [] = []
numbered f n (x ∷ xs) = f n x ∷ numbered f (suc n) xs

-- a sequence's frames, "from 01"
abbrev pub frame_lines : ℕ → List FrameBuilder → List (List ℕ)
frame_lines i frames = numbered (frame_line i) 1 (map bytes_of frames)

-- "Snippets come first, all in the image's order": snippets "from 01", sequences "from 00"
abbrev pub page_lines : Content → List (List ℕ)
page_lines c = numbered snippet_line 1 (map point_bytes c.snippets) ++ joined (numbered frame_lines 0 c.sequences)

unfoldable pub page_of : Content → List ℕ
page_of c = joined (page_lines c)

-- "An unreadable image gives 18 and prints no line"
abbrev pub page_item : Option Content → Told (List ℕ)
page_item o = on_option o (refuses 18) (λ c. gives (page_of c))
