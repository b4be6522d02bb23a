-- A point is one byte: document 01, 'Points, frames, sequences'. "A bad length is told before a bad amplitude".
use Rattle.std.specs.Prelude.{ℕ, ◌+◌, ◌-◌, ◌*◌, ◌/◌, ◌%◌, ◌≤◌, Bool, Result, Ok, Err, cond, ltb, eqb}
use Rattle.errors.specs.Number.{error_number}
use Rattle.errors.specs.Told.{Told, gives, refuses}
use Rattle.errors.specs.declared.Error.{Error}
use Rattle.snippet.specs.declared.PwlPoint.{PwlPoint}

-- bit 7 set for a ramp, bits 6..4 length − 1, bits 3..0 amplitude; for a length of 1..8 and an amplitude of 0..15 only
abbrev pub point_byte : Bool → ℕ → ℕ → ℕ
point_byte ramp timebases amplitude = cond ramp 128 0 + (timebases - 1) * 16 + amplitude

-- a ramp (true) or a step (false): 1 for a length that is not 1..8, else 2 for an amplitude above 15, else the byte
abbrev pub point : Bool → ℕ → ℕ → Told ℕ
point ramp timebases amplitude =
    cond (ltb timebases 1) (refuses 1) (cond (ltb 8 timebases) (refuses 1)
    (cond (ltb 15 amplitude) (refuses 2) (gives (point_byte ramp timebases amplitude))))

-- what an answer tells: the point's byte, or the number
abbrev pub point_told : Result PwlPoint Error → Told ℕ
point_told (Ok p) = gives p.byte
point_told (Err e) = refuses (error_number e)

-- the fields of a byte; every byte is a point's
abbrev pub ramp_in : ℕ → Bool
ramp_in byte = eqb (byte / 128 % 2) 1

abbrev pub timebases_in : ℕ → ℕ
timebases_in byte = byte / 16 % 8 + 1

abbrev pub amplitude_in : ℕ → ℕ
amplitude_in byte = byte % 16

-- "length 1..8, amplitude 0..15"
pub record PointAdmitted (timebases amplitude : ℕ) : Type 0 where
  pub shortest : 1 ≤ timebases
  pub longest : timebases ≤ 8
  pub strongest : amplitude ≤ 15
