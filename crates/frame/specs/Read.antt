-- The first frame of bytes (each below 256) that are frames laid end to end, and the bytes after it; none where the first one to three
-- bytes rule that out: document 01, 'The hundred bytes'. proofs/Reading.antt and Written.antt: this undoes writing, and nothing else.
use Rattle.std.specs.Prelude.{ℕ, Result, Ok, Err, ◌+◌, ◌-◌, ◌*◌, ◌/◌, ◌%◌, cond, List, [], ◌∷◌, ltb, length, get_or, Some, None}
use Rattle.std.specs.declared.option.Option as rust
use Rattle.std.proofs.Math.Option.{Option, none, some}
use Rattle.errors.specs.declared.Error.{Error}
use Rattle.errors.specs.Number.{error_number}
use Rattle.errors.specs.Told.{Told, gives, refuses}
use Rattle.frame.specs.declared.Gain.{Gain}
use Rattle.frame.specs.declared.Gain.TheVariants.{Full, Half, Quarter, Eighth}
use Rattle.frame.specs.declared.Timebase.{Timebase}
use Rattle.frame.specs.declared.Timebase.TheVariants.{Ms5_44, Ms21_76, Ms43_52, Ms87_04}
use Rattle.frame.specs.declared.FrameBuilder.{FrameBuilder}
use Rattle.frame.specs.Builder.{frame_with}

-- the gain with a code; a code past the last counts as the last
abbrev pub gain_at : ℕ → Gain
gain_at code = get_or (Full ∷ Half ∷ Quarter ∷ []) code Eighth

-- the timebase with a code, in the same way
abbrev pub timebase_at : ℕ → Timebase
timebase_at code = get_or (Ms5_44 ∷ Ms21_76 ∷ Ms43_52 ∷ []) code Ms87_04

-- gain and timebase from the first byte a, the other fields as given
abbrev pub fields_in : ℕ → ℕ → rust.Option ℕ → rust.Option ℕ → FrameBuilder
fields_in a n k f = frame_with n (gain_at (a / 32 % 4)) (timebase_at (a / 8 % 4)) k f

-- "an absent loop count for a one-byte frame, a present one otherwise"
abbrev pub one_byte : ℕ → FrameBuilder
one_byte a = fields_in a (a % 8) None None

-- the loop count from the second byte b, its bit 0 the number's bit 3
abbrev pub two_bytes : ℕ → ℕ → FrameBuilder
two_bytes a b = fields_in a (b % 2 * 8 + a % 8) (Some (b / 8 % 16)) None

-- with the frequency: its bit 8 from the second byte, the rest the third byte c
abbrev pub three_bytes : ℕ → ℕ → ℕ → FrameBuilder
three_bytes a b c = fields_in a (b % 2 * 8 + a % 8) (Some (b / 8 % 16)) (Some (b / 2 % 2 * 256 + c))

-- a frame and the bytes after it
pub record Parsed : Type 0 where
  pub frame : FrameBuilder
  pub rest : List ℕ

-- a parse that succeeded
abbrev pub parsed : FrameBuilder → List ℕ → Option Parsed
parsed f r = some (record { frame = f; rest = r })

-- a third byte has to be there
abbrev pub read_third : ℕ → ℕ → List ℕ → Option Parsed
read_third a b [] = none
read_third a b (c ∷ r) = parsed (three_bytes a b c) r

-- bit 2 of the second byte says whether a third follows; "bit 2 clear and bit 1 set is made by no builder"
abbrev pub read_second : ℕ → ℕ → List ℕ → Option Parsed
read_second a b r = cond (ltb (b / 4 % 2) 1) (cond (ltb (b / 2 % 2) 1) (parsed (two_bytes a b) r) none) (read_third a b r)

-- the byte after the first: with bit 7 set it is the second, with bit 7 clear it begins the next frame; a third byte's bit 7 means nothing
abbrev pub read_after : ℕ → List ℕ → Option Parsed
read_after a [] = parsed (one_byte a) []
read_after a (b ∷ r) = cond (ltb b 128) (parsed (one_byte a) (b ∷ r)) (read_second a b r)

-- a first byte has bit 7 clear
unfoldable pub read_frame : List ℕ → Option Parsed
read_frame [] = none
read_frame (a ∷ r) = cond (ltb a 128) (read_after a r) none

-- ---- as the code answers it

-- a frame and how many bytes it took
pub record Taken : Type 0 where
  pub frame : FrameBuilder
  pub len : ℕ

-- the same of n bytes, with the parse's rest
abbrev pub taken_from : ℕ → Option Parsed → Told Taken
taken_from n none = refuses 18
taken_from n (some p) = gives (record { frame = p.frame; len = n - length p.rest })

-- the first frame of the bytes, or 18
abbrev pub first_frame : List ℕ → Told Taken
first_frame l = taken_from (length l) (read_frame l)

-- the same where a first byte a, a second byte b, its bit 7 set, and others follow one another
abbrev pub second_at : ℕ → ℕ → List ℕ → Told Taken
second_at a b r = taken_from (length r + 2) (read_second a b r)

-- what reading answers, in these terms
abbrev pub read_told : Result (FrameBuilder × ℕ) Error → Told Taken
read_told (Ok r) = gives (record { frame = r.0; len = r.1 })
read_told (Err e) = refuses (error_number e)
