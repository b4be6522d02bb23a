-- What a reading tells, for the theorem `told` (proofs/Whole.antt): the content that its arrays hold, or the number of the refusal.
use Rattle.std.specs.Prelude.{map, Ok, Err}
use Rattle.errors.specs.Number.{error_number}
use Rattle.errors.specs.Told.{Told, gives, refuses}
use Rattle.content.specs.Content.{Content}
use Rattle.content.specs.ReadImage.{point_in}
use Rattle.reader.specs.declared.Lists.{Lists}
use Rattle.reader.specs.Reading.{Reading, runs_in}

-- the content that the arrays hold
abbrev pub read_content : Lists → Content
read_content r = record { snippets = map (map point_in) (runs_in r.snippets); sequences = runs_in r.sequences }

-- the content, if nothing was refused
abbrev pub reading_told : Reading → Told Content
reading_told (Ok r) = gives (read_content r)
reading_told (Err e) = refuses (error_number e)
