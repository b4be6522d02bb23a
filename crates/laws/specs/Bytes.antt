-- Lists of bytes: what a slice can hold, which demand 3 calls "any bytes".
use Rattle.std.specs.Prelude.{ℕ, ◌<◌, List, [], ◌∷◌}

-- each of them holds: by cases, so that a tuple proves it; the library's word of this name goes by index
abbrev pub All : {A : Type 0} → (A → Type 0) → List A → Type 0
All P [] = Unit
All P (x ∷ xs) = P x × All P xs

abbrev pub Bytes : List ℕ → Type 0
Bytes l = All (λ b. b < 256) l
