-- Document 01's checked examples through a list of calls as bytes: each code reaches its own builder call. Then buffers without room.
use Rattle.std.specs.Prelude.{ℕ, ◌≡◌, List, [], ◌∷◌, ◌++◌, replicate}
use Rattle.errors.specs.Told.{gives, refuses}
use Rattle.laws.specs.Whole.{whole, whole_out, length_of}
use Rattle.assemble.specs.Lists.{answers_of, builders_of}
use Rattle.assemble.specs.Items.{snippet_item, frame_item, sequence_item, image_item, strict_item, leniently, strictly}

-- the record of a call
abbrev pub call : ℕ → ℕ → ℕ → List ℕ
call code a b = code ∷ a ∷ b ∷ 0 ∷ []

-- "snippet AA 00 with sequence 01": ramp(3, 10), step(1, 0), add the snippet; a frame for snippet 1, add it, add the sequence
abbrev pub one_of_each : List ℕ
one_of_each = call 2 3 10 ++ call 3 1 0 ++ call 13 0 0 ++ call 5 1 0 ++ call 12 0 0 ++ call 14 0 0

-- the point with byte AA as a snippet, begun anew after another point; a sequence, begun anew after a frame of silence
abbrev pub begun_anew : List ℕ
begun_anew = call 2 1 1 ++ call 1 0 0 ++ call 4 170 0 ++ call 13 0 0 ++ call 6 0 0 ++ call 12 0 0 ++ call 11 0 0

-- "snippet 3, half gain, Ms43_52, loop 2, 300 Hz: 33 96 2C", and a frame of four different arguments
abbrev pub two_frames : List ℕ
two_frames = (call 5 3 0 ++ call 7 1 0 ++ call 8 2 0 ++ call 9 2 0 ++ call 10 44 1 ++ call 12 0 0)
    ++ (call 5 4 0 ++ call 7 1 0 ++ call 8 3 0 ++ call 9 5 0 ++ call 12 0 0)

-- a frame of snippet 1 added, a `new` that is refused, and an add again
abbrev pub refused_new : List ℕ
refused_new = call 5 1 0 ++ call 12 0 0 ++ call 5 16 0 ++ call 12 0 0

-- length 9, code 15, a gain of code 4, three bytes of a record
abbrev pub wrong_calls : List ℕ
wrong_calls = call 2 9 0 ++ call 15 0 0 ++ call 7 4 0 ++ (6 ∷ 0 ∷ 0 ∷ [])

-- twelve points
abbrev pub twelve : List ℕ
twelve = let four = call 2 3 10 ++ call 3 1 0 ++ call 4 170 0 ++ call 4 85 0 in four ++ four ++ four

-- bytes that are none of an item's
abbrev pub lent : ℕ → List ℕ
lent n = replicate n 238

pub record Example : Type 0 where
  -- "01 01 05 06 AA 00 01 and 93 zeros"
  pub one_built : whole_out (lent 100) (strict_item one_of_each) ≡ (1 ∷ 1 ∷ 5 ∷ 6 ∷ 170 ∷ 0 ∷ 1 ∷ []) ++ replicate 93 0
  pub all_built : whole_out (lent 100) (strict_item (begun_anew ++ two_frames ++ call 14 0 0))
      ≡ (1 ∷ 1 ∷ 4 ∷ 9 ∷ 170 ∷ 51 ∷ 150 ∷ 44 ∷ 60 ∷ 168 ∷ []) ++ replicate 90 0
  pub silence_built : whole_out (lent 100) (strict_item (call 4 170 0 ++ call 13 0 0 ++ call 6 0 0 ++ call 12 0 0 ++ call 14 0 0))
      ≡ (1 ∷ 1 ∷ 4 ∷ 5 ∷ 170 ∷ 0 ∷ []) ++ replicate 94 0
  -- a refused call is left out, or told
  pub one_left_out : whole_out (lent 100) (image_item (call 2 9 0 ++ one_of_each)) ≡ (1 ∷ 1 ∷ 5 ∷ 6 ∷ 170 ∷ 0 ∷ 1 ∷ []) ++ replicate 93 0
  pub first_told : strictly [] (call 1 0 0 ++ call 2 9 0 ++ call 2 1 16) ≡ 513
  -- the second add finds no frame: the sequence has one
  pub no_stale_frame : answers_of refused_new ≡ 0 ∷ 0 ∷ 3 ∷ 3 ∷ []
  pub one_frame : (builders_of refused_new).sequence.len ≡ 1
  pub refusals : answers_of wrong_calls ≡ 1 ∷ 14 ∷ 14 ∷ 14 ∷ []
  -- the items under construction
  pub snippet : snippet_item (call 2 3 10 ++ call 3 1 0) ≡ gives (170 ∷ 0 ∷ [])
  pub frame : frame_item (call 5 3 0 ++ call 7 1 0 ++ call 8 2 0 ++ call 9 2 0 ++ call 10 44 1) ≡ gives (51 ∷ 150 ∷ 44 ∷ [])
  pub sequence : sequence_item two_frames ≡ gives (51 ∷ 150 ∷ 44 ∷ 60 ∷ 168 ∷ [])
  -- "lent nine bytes, got the answer 12 from `Snippet` and printed three stale ones"
  pub nine : length_of (whole (lent 9) (snippet_item twelve)) ≡ refuses 24
  pub nine_kept : whole_out (lent 9) (snippet_item twelve) ≡ lent 9
  pub just_room : length_of (whole (lent 12) (snippet_item twelve)) ≡ gives 12
  pub more_room : whole_out (lent 3) (snippet_item (call 2 3 10 ++ call 3 1 0)) ≡ 170 ∷ 0 ∷ 238 ∷ []
  -- what is not built is told first: no points, no frame begun, no frames
  pub no_items : (length_of (whole [] (snippet_item [])) ≡ refuses 9) × (length_of (whole [] (frame_item [])) ≡ refuses 3)
      × (length_of (whole [] (sequence_item [])) ≡ refuses 10)
  -- an image has room in a hundred bytes
  pub image_short : (leniently (lent 99) one_of_each ≡ 24) × (strictly (lent 99) one_of_each ≡ 24)
  pub image_room : (leniently (lent 100) one_of_each ≡ 0) × (strictly (lent 100) one_of_each ≡ 0)
  pub no_image : (leniently [] [] ≡ 9) × (strictly [] [] ≡ 9)
