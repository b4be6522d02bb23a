-- What the reader answers: the lists of an image, or 18 (document 01, 'Who can cause which answer', and demand 3, "it returns lists that
-- the builders admit and whose image those bytes are").
use Rattle.std.specs.Prelude.{ℕ, Result, Ok, Err, ◌-◌, List, [], ◌∷◌, ◌++◌, map, length, take, drop, replicate}
use Rattle.std.proofs.Math.Option.{Option, none, some}
use Rattle.laws.specs.Lists.{joined}
use Rattle.errors.specs.declared.Error.{Error}
use Rattle.frame.specs.declared.FrameBuilder.{FrameBuilder}
use Rattle.frame.specs.Builder.{silent_frame}
use Rattle.memory.specs.Image.{end_pointers}
use Rattle.content.specs.Content.{Content, point_bytes}
use Rattle.reader.specs.declared.Runs.{Runs}
use Rattle.reader.specs.declared.Lists.{Lists}

-- the snippets' points by their bytes, and the sequences' frames
abbrev pub Points : Type 0
Points = Runs ℕ 15

abbrev pub Frames : Type 0
Frames = Runs FrameBuilder 16

-- the parts of a list that end before each index, one after the other
abbrev pub parts : {A : Type 0} → ℕ → List ℕ → List A → List (List A)
parts from [] l = []
parts from (e ∷ es) l = take (e - from) (drop from l) ∷ parts e es l

-- the lists: items holds their elements, ends where each ends
abbrev pub runs_in : {A : Type 0} {most : ℕ} → Runs A most → List (List A)
runs_in r = parts 0 (take r.count r.ends) r.items

-- no lists
abbrev pub no_runs : {A : Type 0} (most : ℕ) → A → Runs A most
no_runs most blank = record { items = replicate 96 blank; len = 0; ends = replicate most 0; count = 0 }

-- ---- the arrays of a reading

-- a list in n places, the others padded
abbrev pub padded : {A : Type 0} → ℕ → A → List A → List A
padded n blank l = l ++ replicate (n - length l) blank

-- lists laid end to end, and the index behind each
abbrev pub laid : {A : Type 0} (most : ℕ) → A → List (List A) → Runs A most
laid most blank ls =
    record { items = padded 96 blank (joined ls); len = length (joined ls); ends = padded most 0 (end_pointers 0 ls); count = length ls }

-- what the reader answers
abbrev pub Reading : Type 0
Reading = Result Lists Error

-- the lists of a content
abbrev pub reading_of : Option Content → Reading
reading_of none = Err Error.NotAnImage
reading_of (some c) = Ok (record { snippets = laid 15 0 (map point_bytes c.snippets); sequences = laid 16 silent_frame c.sequences })
