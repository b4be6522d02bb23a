-- The numbers of the refusals: document 01, 'Who can cause which answer', and document 02, "join 01's list".
use Rattle.std.specs.Prelude.{ℕ, Result, Ok, Err}
use Rattle.errors.specs.Told.{Told, gives, refuses, Handed, accepted, refused, Built, built}
use Rattle.errors.specs.declared.Error.{Error}

-- its number, and "17 I2c, with the bus's own failure code (one byte) handed through"; any other has code 0
abbrev pub number_and_code : Error → ℕ × ℕ
-- the pattern's author
number_and_code Error.InvalidTimebase = (1, 0)
number_and_code Error.InvalidAmplitude = (2, 0)
number_and_code Error.InvalidSnippetId = (3, 0)
number_and_code Error.InvalidLoopCount = (4, 0)
number_and_code Error.InvalidFrequency = (5, 0)
number_and_code Error.TooManySnippets = (6, 0)
number_and_code Error.TooManySequences = (7, 0)
number_and_code Error.WaveformMemoryFull = (8, 0)
number_and_code Error.EmptySnippet = (9, 0)
number_and_code Error.EmptySequence = (10, 0)
-- the fitter of the unit; document 02: "Number 11 remains for trigger numbers, override values, `select_sequence` and `play_sequence`"
number_and_code Error.InvalidValue = (11, 0)
number_and_code Error.WrongMode = (12, 0)
number_and_code Error.MissingTriggerConfigInEtwmMode = (13, 0)
number_and_code Error.NotSupported = (14, 0)
-- .. and document 02: "A voltage gives 21, a current or impedance 22, and a frequency .. 23" (5 is a frame's)
number_and_code Error.InvalidVoltage = (21, 0)
number_and_code Error.InvalidCurrentOrImpedance = (22, 0)
number_and_code Error.InvalidDriveFrequency = (23, 0)
-- the calling program (8 as well, for `from_bytes`)
number_and_code Error.NotConfigured = (15, 0)
-- the board
number_and_code Error.VariantMismatch = (16, 0)
number_and_code (Error.I2c code) = (17, code)
-- whoever hands in an image to read; document 02: "naming a snippet its own image lacks is refused with 25"
number_and_code Error.NotAnImage = (18, 0)
number_and_code Error.MissingSnippet = (25, 0)
-- the calling program; document 02: "A buffer shorter than the item is refused with 24", "a number not below it is refused with 28"
number_and_code Error.OutOfTurn = (19, 0)
number_and_code Error.BufferTooShort = (24, 0)
number_and_code Error.MissingSequence = (28, 0)

abbrev pub error_number : Error → ℕ
error_number e = (number_and_code e).0

-- what a call answers: 0 where nothing was refused
abbrev pub answer_number : {A : Type 0} → Result A Error → ℕ
answer_number (Ok a) = 0
answer_number (Err e) = error_number e

abbrev pub bus_code : {A : Type 0} → Result A Error → ℕ
bus_code (Ok a) = 0
bus_code (Err e) = (number_and_code e).1

-- the value, or the number of the refusal
abbrev pub told : {A : Type 0} → Result A Error → Told A
told (Ok a) = gives a
told (Err e) = refuses (error_number e)

-- a call on a builder: the builder that it gives, or the number of its refusal and the builder as it came in
abbrev pub handed_by : {B : Type 0} → B → Result B Error → Handed B
handed_by b (Ok next) = accepted next
handed_by b (Err e) = refused (error_number e) b

-- building from a builder: the item, or the number of its refusal and, in the item's place, an empty one
abbrev pub built_by : {I B : Type 0} → I → B → Result I Error → Built I B
built_by none b (Ok item) = built 0 item b
built_by none b (Err e) = built (error_number e) none b
