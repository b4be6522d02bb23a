-- The GPI registers GPI_0_CTL to GPI_2_CTL, which differ in a digit of their names and their fields' names.
use Rattle.std.specs.Prelude.{ℕ}
use Prim.Native.String.{String, ◌++◌ as ◌&◌}
use Rattle.field.specs.Layout.{with_at}
use Rattle.registers.specs.Table.{parts_of}

-- the digit, "0" to "2"
abbrev pub Digit : Type 0
Digit = String

-- the register's name
abbrev pub gpi_name : Digit → String
gpi_name digit = "GPI_" & digit & "_CTL"

-- its byte with these three fields, the bit above them zero
abbrev pub gpi_with : Digit → ℕ → ℕ → ℕ → ℕ
gpi_with digit polarity mode sequence_id =
    let parts = parts_of (gpi_name digit) in
    with_at parts ("GPI" & digit & "_SEQUENCE_ID")
    (with_at parts ("GPI" & digit & "_MODE") (with_at parts ("GPI" & digit & "_POLARITY") 0 polarity) mode) sequence_id
