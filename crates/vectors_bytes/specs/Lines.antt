-- What blanks part in a line.
use Rattle.std.specs.Prelude.{ℕ, List, eqb}
use Rattle.std.specs.List.{slice_split}

-- one more than there are blanks, an empty one where two blanks meet
abbrev pub parts : List ℕ → List (List ℕ)
parts line = slice_split (λ c. eqb c 32) line
