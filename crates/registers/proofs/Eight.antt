-- Every register of the table that has fields has eight bits. Assumes nothing.
use mathlib.Core.Path.{◌≡◌, refl}
use mathlib.Core.Bool.{cond}
use mathlib.Core.List.{[], ◌∷◌, map}
use Rattle.field.specs.Layout.{total, among}
use Rattle.registers.specs.Table.{registers}

pub eight : map (λ e. total e.parts) registers ≡ map (λ e. cond (among e.name ("POLARITY" ∷ "SNP_MEM_0" ∷ "SNP_MEM_99" ∷ [])) 0 8) registers
eight = refl
