-- A session as the 280 bytes that the caller lends: document 01, 'Exchanges', "An operation becomes a session"; the layout is ours.
-- Bytes of another length, and those whose stage is not 1, have no step left and are not completed.
--   0 chip address               6 how many steps               16 what the operation is for
--   1 stage: 0 not begun,        7 how many memory reads        17 the image to upload, 100 bytes
--     1 begun, 2 broken off      8 length of the read buffer,  117 the record that it carries, 38 bytes
--   2 exchanges made               8 bytes                     155 the steps, 25 of five bytes
--   3 the last three bytes read, the newest first
use Rattle.std.specs.Prelude.{ℕ, suc, zero, ◌+◌, ◌-◌, ◌*◌, min, Bool, true, false, cond, ◌&&◌, List, [], ◌∷◌, ◌++◌, map, ltb, leb, eqb, length, take, drop, set, replicate, Option, Some, None}
use Rattle.laws.specs.Copied.{over}
use Rattle.laws.specs.Lists.{joined, at, low_bytes}
use Rattle.exchange.specs.declared.Step.{Step}
use Rattle.exchange.specs.declared.Step.TheVariants.{Store}
use Rattle.exchange.specs.Steps.{step_of, step_bytes}

abbrev pub is_session : List ℕ → Bool
is_session st = eqb (length st) 280

-- ---- what the bytes say

abbrev pub address_in : List ℕ → ℕ
address_in st = at st 0

abbrev pub is_begun : List ℕ → Bool
is_begun st = is_session st && ltb 0 (at st 1)

-- begun, and not broken off
abbrev pub is_unbroken : List ℕ → Bool
is_unbroken st = is_session st && eqb (at st 1) 1

abbrev pub made_in : List ℕ → ℕ
made_in st = at st 2

-- "The count of exchanges made"
abbrev pub count_in : List ℕ → ℕ
count_in st = cond (is_begun st) (made_in st) 0

-- the byte read last
abbrev pub last_in : List ℕ → ℕ
last_in st = at st 3

abbrev pub step_count : List ℕ → ℕ
step_count st = min (at st 6) 25

abbrev pub read_count : List ℕ → ℕ
read_count st = min (at st 7) 100

-- least byte first
abbrev pub word_at : List ℕ → ℕ → ℕ
word_at st i = at st i + 256 * at st (i + 1) + 65536 * at st (i + 2) + 16777216 * at st (i + 3)

-- the length that the read buffer had at the start
abbrev pub room_in : List ℕ → ℕ
room_in st = word_at st 8 + 4294967296 * word_at st 12

-- a code of `outcome`
abbrev pub purpose_in : List ℕ → ℕ
purpose_in st = at st 16

abbrev pub image_in : List ℕ → List ℕ
image_in st = take 100 (drop 17 st)

abbrev pub record_in : List ℕ → List ℕ
record_in st = take 38 (drop 117 st)

-- where the i-th step stands
abbrev pub place_of : ℕ → ℕ
place_of i = 155 + 5 * i

abbrev pub encoded_step : List ℕ → ℕ → Step
encoded_step st i = step_of (at st (place_of i)) (at st (place_of i + 1)) (at st (place_of i + 2)) (at st (place_of i + 3)) (at st (place_of i + 4))

-- the encoded steps, and behind them one memory read for each index
abbrev pub step_in : List ℕ → ℕ → Step
step_in st i = cond (ltb i (step_count st)) (encoded_step st i) (Store (i - step_count st))

-- `f` of n numbers from i on
abbrev pub indexed : {A : Type 0} → (ℕ → A) → ℕ → ℕ → List A
indexed f i zero = []
indexed f i (suc n) = f i ∷ indexed f (suc i) n

-- all steps of the operation
abbrev pub plan : List ℕ → List Step
plan st = indexed (step_in st) 0 (step_count st + read_count st)

-- the steps still to be made
unfoldable pub left : List ℕ → List Step
left st = cond (is_unbroken st) (drop (made_in st) (plan st)) []

-- whether every step was made
unfoldable pub completed : List ℕ → Bool
completed st = is_unbroken st && leb (step_count st + read_count st) (made_in st)

-- where a session stands
abbrev pub slot_of : List Step → Option Step
slot_of [] = None
slot_of (x ∷ xs) = Some x

abbrev pub none_left : List Step → Bool
none_left [] = true
none_left (x ∷ xs) = false

-- ---- what a start writes

-- what a session is begun with
pub record Begun : Type 0 where
  pub address : ℕ
  pub reads : ℕ
  pub room : ℕ
  pub purpose : ℕ
  pub image : List ℕ
  pub «record» : List ℕ

abbrev pub begun_with : ℕ → ℕ → ℕ → ℕ → List ℕ → List ℕ → Begun
begun_with address reads room purpose image r = record { address = address; reads = reads; room = room; purpose = purpose; image = image; «record» = r }

-- the first seventeen bytes
abbrev pub head_of : Begun → ℕ → List ℕ
head_of b steps = b.address ∷ 1 ∷ 0 ∷ 0 ∷ 0 ∷ 0 ∷ steps ∷ b.reads ∷ (low_bytes 8 b.room ++ (b.purpose ∷ []))

-- the bytes of a session that has these steps, and has made none
abbrev pub begun_bytes : Begun → List Step → List ℕ
begun_bytes b xs =
    head_of b (length xs) ++ b.image ++ b.«record» ++ joined (map step_bytes xs) ++ replicate (125 - 5 * length xs) 0

-- bytes that are no session stay as they are
unfoldable pub begun_in : List ℕ → Begun → List Step → List ℕ
begun_in st b xs = cond (is_session st) (begun_bytes b xs) st

-- a step more, where there is room for it
unfoldable pub pushed : List ℕ → Step → List ℕ
pushed st x = cond (is_session st && ltb (at st 6) 25) (over (set st 6 (at st 6 + 1)) (place_of (at st 6)) (step_bytes x)) st

abbrev pub pushed_all : List ℕ → List Step → List ℕ
pushed_all st [] = st
pushed_all st (x ∷ xs) = pushed_all (pushed st x) xs
