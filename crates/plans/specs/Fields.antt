-- A register's byte by the names of its fields, and the steps that write a register or replace one field: document 01, 'Settings to
-- registers', "`new` is zero, `from` keeps every bit, `with_` alters its own field".
use Rattle.std.specs.Prelude.{ℕ, List, [], ◌∷◌}
use Prim.Native.String.{String}
use Rattle.field.specs.Layout.{Part, start_of, width_of, with_at}
use Rattle.registers.specs.Table.{address_of, parts_of}
use Rattle.exchange.specs.declared.Step.{Step}
use Rattle.exchange.specs.declared.Step.TheVariants.{Write, Read, Update}

-- a field's name and value
pub data FieldValue : Type 0 where
  put : String → ℕ → FieldValue

abbrev pub with_fields : List Part → ℕ → List FieldValue → ℕ
with_fields parts b [] = b
with_fields parts b (put name value ∷ fields) = with_fields parts (with_at parts name b value) fields

-- "`new` is zero": a register's byte with these fields, the others zero
abbrev pub fresh : String → List FieldValue → ℕ
fresh register fields = with_fields (parts_of register) 0 fields

-- a register, by its name, that gets a byte
abbrev pub written : String → ℕ → Step
written register value = Write (address_of register) value

-- one that gets these fields, the others zero
abbrev pub written_with : String → List FieldValue → Step
written_with register fields = written register (fresh register fields)

-- a register read, and written back with one field replaced
abbrev pub updated : String → FieldValue → List Step
updated register (put name value) =
    Read (address_of register) ∷ Update (address_of register) (start_of (parts_of register) name) (width_of (parts_of register) name) value ∷ []
