-- The bytes of all lists, laid part by part as the code does it; only private contracts cite this.
use Rattle.std.specs.Prelude.{ℕ, List, ◌++◌, take}
use Rattle.reader.specs.Reading.{Points, Frames, padded}
use Rattle.readings.specs.Lists.{words_bytes}

-- the arrays of a reading
abbrev pub laid_bytes : Points → Frames → List ℕ
laid_bytes s q = s.items ++ s.ends ++ padded 576 0 (words_bytes (take q.len q.items)) ++ q.ends
