-- The j-th element of the i-th list in what the reader answers. Document 01 leaves the form to us: "it returns lists" (demand 3).
use Rattle.std.specs.Prelude.{ℕ, List, Some, None}
use Rattle.std.specs.declared.option.Option as rust
use Rattle.std.proofs.Math.Option.{Option, none, some}
use Rattle.std.proofs.Math.ListN.{get_elem?}
use Rattle.snippet.specs.declared.PwlPoint.{PwlPoint}
use Rattle.content.specs.ReadImage.{and_then}

-- the j-th of the i-th list, both counted from 0, if there is one
abbrev pub element : {A : Type 0} → List (List A) → ℕ → ℕ → Option A
element ls i j = and_then (get_elem? ls i) (λ l. get_elem? l j)

-- what was found, if anything
abbrev pub at_told : {A : Type 0} → rust.Option A → Option A
at_told (Some a) = some a
at_told None = none

-- the byte of a point of a snippet
abbrev pub point_at_told : rust.Option PwlPoint → Option ℕ
point_at_told (Some p) = some p.byte
point_at_told None = none
