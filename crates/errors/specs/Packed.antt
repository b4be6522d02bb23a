-- A value and a refusal in one number, as the functions exported for C answer them: document 01, "functions exported for C on numbers and
-- byte slices". proofs/Packed.antt: one that has room is told apart from every other, and gives its value back.
use Rattle.std.specs.Prelude.{ℕ, ◌*◌, ◌^◌, ◌<◌, ◌≤◌}
use Rattle.errors.specs.Told.{Told, on_told}

-- the value, or the number of the refusal times 2 to the power of `bits`
abbrev pub packed : ℕ → Told ℕ → ℕ
packed bits t = on_told t (λ value. value) (λ number. number * 2 ^ bits)

-- a value has at most so many bits, and a refusal has a number
abbrev pub Room : ℕ → Told ℕ → Type 0
Room bits t = on_told t (λ value. value < 2 ^ bits) (λ number. 1 ≤ number)
