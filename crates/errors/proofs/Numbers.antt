-- Every error has a number: none is told as 0. Assumes nothing.
use Prim.Native.Nat.{◌≤◌}
use native.Mathlib.Omega.{arith}
use Rattle.errors.specs.declared.Error.{Error}
use Rattle.errors.specs.Number.{error_number}

pub has_number : (e : Error) → 1 ≤ error_number e
has_number Error.InvalidTimebase = omega arith
has_number Error.InvalidAmplitude = omega arith
has_number Error.InvalidSnippetId = omega arith
has_number Error.InvalidLoopCount = omega arith
has_number Error.InvalidFrequency = omega arith
has_number Error.TooManySnippets = omega arith
has_number Error.TooManySequences = omega arith
has_number Error.WaveformMemoryFull = omega arith
has_number Error.EmptySnippet = omega arith
has_number Error.EmptySequence = omega arith
has_number Error.InvalidValue = omega arith
has_number Error.WrongMode = omega arith
has_number Error.MissingTriggerConfigInEtwmMode = omega arith
has_number Error.NotSupported = omega arith
has_number Error.NotConfigured = omega arith
has_number Error.VariantMismatch = omega arith
has_number (Error.I2c code) = omega arith
has_number Error.NotAnImage = omega arith
has_number Error.OutOfTurn = omega arith
has_number Error.InvalidVoltage = omega arith
has_number Error.InvalidCurrentOrImpedance = omega arith
has_number Error.InvalidDriveFrequency = omega arith
has_number Error.BufferTooShort = omega arith
has_number Error.MissingSnippet = omega arith
has_number Error.MissingSequence = omega arith
