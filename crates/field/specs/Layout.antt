-- A register as the list of its parts. Document 01, "Settings to registers": "A register's fields fill from bit 0 up in the
-- written order". `start_of` sums the widths that are written before a name, and `by_field` goes from part to part.
use Rattle.std.specs.Prelude.{ℕ, ◌+◌, Bool, false, cond, ◌||◌, List, [], ◌∷◌, ◌++◌}
use Prim.Native.String.{String}
use lib.Text.{eqt}
use Rattle.field.specs.Field.{get_of, flag_of, with_of}

-- a part's name and how many bits it has; padding is named `__`
pub data Part : Type 0 where
  part : String → ℕ → Part

-- a register: its name, its address and its parts, the first from bit 0 on
pub record Entry : Type 0 where
  pub name : String
  pub address : ℕ
  pub parts : List Part

abbrev pub entry : String → ℕ → List Part → Entry
entry name address parts = record { name = name; address = address; parts = parts }

-- a field's first bit
abbrev pub start_of : List Part → String → ℕ
start_of [] n = 0
start_of (part m w ∷ ps) n = cond (eqt m n) 0 (w + start_of ps n)

-- how many bits a field has; none where no part has the name
abbrev pub width_of : List Part → String → ℕ
width_of [] n = 0
width_of (part m w ∷ ps) n = cond (eqt m n) w (width_of ps n)

-- how many bits a register has
abbrev pub total : List Part → ℕ
total [] = 0
total (part m w ∷ ps) = w + total ps

-- what a named field reads in a byte
abbrev pub get_at : List Part → String → ℕ → ℕ
get_at ps n b = get_of b (start_of ps n) (width_of ps n)

-- whether a named flag is set in a byte
abbrev pub is_at : List Part → String → ℕ → Bool
is_at ps n b = flag_of b (start_of ps n)

-- the byte with a named field replaced
abbrev pub with_at : List Part → String → ℕ → ℕ → ℕ
with_at ps n b v = with_of b (start_of ps n) (width_of ps n) v

-- whether a name is in a list
abbrev pub among : String → List String → Bool
among m [] = false
among m (n ∷ ns) = eqt m n || among m ns

-- `f start width` of each part that is not named in `out`, in the written order, the first part at bit `s`
abbrev pub by_field_from : (ℕ → ℕ → ℕ) → List String → ℕ → List Part → List ℕ
by_field_from f out s [] = []
by_field_from f out s (part m w ∷ ps) = cond (among m out) [] (f s w ∷ []) ++ by_field_from f out (s + w) ps

-- the same over a list of registers
abbrev pub by_field : (ℕ → ℕ → ℕ) → List String → List Entry → List ℕ
by_field f out [] = []
by_field f out (e ∷ es) = by_field_from f out 0 e.parts ++ by_field f out es

-- what each field reads when its register holds `b`
abbrev pub readings : List Entry → ℕ → List ℕ
readings es b = by_field (get_of b) ("__" ∷ []) es

-- what each field's register holds once the field is replaced by `v` in `b`; read-only fields are left out
abbrev pub replacements : List String → List Entry → ℕ → ℕ → List ℕ
replacements read_only es b v = by_field (λ s w. with_of b s w v) ("__" ∷ read_only) es
