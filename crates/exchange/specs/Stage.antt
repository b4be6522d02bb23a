-- The stage of a session as a byte: State.antt, byte 1.
use Rattle.std.specs.Prelude.{ℕ, [], ◌∷◌, get_or}
use Rattle.exchange.specs.declared.Stage.{Stage}
use Rattle.exchange.specs.declared.Stage.TheVariants.{NotBegun, Begun, BrokenOff}

abbrev pub stage_code : Stage → ℕ
stage_code NotBegun = 0
stage_code Begun = 1
stage_code BrokenOff = 2

-- a byte past the last counts as the last
abbrev pub stage_at : ℕ → Stage
stage_at code = get_or (NotBegun ∷ Begun ∷ []) code BrokenOff
