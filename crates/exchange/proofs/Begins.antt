-- A session that was begun has its steps, the memory reads behind them, and all else that it was begun with.
-- Assumes nothing.
use Prim.Native.Nat.{ℕ, ◌+◌, ◌-◌, ◌*◌, ◌^◌, ◌≤◌, ◌<◌, min}
use native.Mathlib.Omega.{arith}
use native.Mathlib.Nat.{min-eq_left}
use mathlib.Core.Path.{◌≡◌, refl, sym, ◌∙◌, ap}
use mathlib.Core.Bool.{true}
use mathlib.Core.List.{List, [], ◌∷◌, ◌++◌, map, append_assoc}
use lib.ListN.{length, take, drop, replicate, length-append, length-replicate}
use lib.Seq.{take_at, drop_at, drop-drop}
use borrow.Author.Tests.{eq-eqb}
use Rattle.laws.specs.Lists.{joined, low_bytes}
use Rattle.exchange.specs.declared.Step.{Step}
use Rattle.exchange.specs.declared.Step.TheVariants.{Store}
use Rattle.exchange.specs.Steps.{step_bytes}
use Rattle.exchange.specs.State.{is_session, is_unbroken, address_in, count_in, read_count, purpose_in, word_at, room_in, image_in, record_in, indexed, plan, left, Begun, begun_bytes, begun_in}
use Rattle.exchange.proofs.Latest.{bytes_read}
use Rattle.exchange.proofs.Moves.{going_left}
use Rattle.exchange.proofs.Plan.{step_at, length_joined, joined_steps, plan_parts}

-- a number below 2 to the 64 is its eight bytes
low_again : (n : ℕ) → n < 2 ^ 64 → word_at (low_bytes 8 n) 0 + 4294967296 * word_at (low_bytes 8 n) 4 ≡ n
low_again n h = omega arith

module _ (b : Begun) (xs : List Step) (few : length xs ≤ 25) (image : length b.image ≡ 100) (recorded : length b.«record» ≡ 38) where
  -- it has the size of a session
  pub size : length (begun_bytes b xs) ≡ 280
  size = simp (length-append, length-replicate, length_joined, image, recorded) (omega arith)

  -- the bytes of the steps, and zeros
  abbrev rest : List ℕ
  rest = joined (map step_bytes xs) ++ replicate (125 - 5 * length xs) 0

  -- what stands where
  behind_head : drop 17 (begun_bytes b xs) ≡ b.image ++ (b.«record» ++ rest)
  behind_head = append_assoc (b.image ++ b.«record») (joined (map step_bytes xs)) (replicate (125 - 5 * length xs) 0) ∙ append_assoc b.image b.«record» rest

  behind_image : drop 117 (begun_bytes b xs) ≡ b.«record» ++ rest
  behind_image = sym (drop-drop 100 17 (begun_bytes b xs)) ∙ ap (drop 100) behind_head ∙ drop_at b.image (b.«record» ++ rest) 100 image

  behind_record : drop 155 (begun_bytes b xs) ≡ rest
  behind_record = sym (drop-drop 38 117 (begun_bytes b xs)) ∙ ap (drop 38) behind_image ∙ drop_at b.«record» rest 38 recorded

  -- its steps, and the memory reads
  planned : plan (begun_bytes b xs) ≡ xs ++ indexed Store 0 (min b.reads 100)
  planned =
      let p = joined_steps xs (replicate (125 - 5 * length xs) 0) in
      plan_parts (begun_bytes b xs)
      ∙ (λ t. indexed (step_at (behind_record t)) 0 (min-eq_left few t) ++ indexed Store 0 (min b.reads 100))
      ∙ ap (λ (l : List Step). l ++ indexed Store 0 (min b.reads 100)) p

-- all that is told of it
pub begins : (st : List ℕ) (b : Begun) (xs : List Step) → is_session st ≡ true → length xs ≤ 25 → b.room < 2 ^ 64 →
    length b.image ≡ 100 → length b.«record» ≡ 38 →
    (left (begun_in st b xs) ≡ xs ++ indexed Store 0 (min b.reads 100))
    × (address_in (begun_in st b xs) ≡ b.address)
    × (count_in (begun_in st b xs) ≡ 0)
    × (room_in (begun_in st b xs) ≡ b.room)
    × (image_in (begun_in st b xs) ≡ b.image)
    × (record_in (begun_in st b xs) ≡ b.«record»)
    × (purpose_in (begun_in st b xs) ≡ b.purpose)
    × (read_count (begun_in st b xs) ≡ min b.reads 100)
    × (is_unbroken (begun_in st b xs) ≡ true)
    × (bytes_read (begun_in st b xs) ≡ 0 ∷ 0 ∷ 0 ∷ [])
unfolding begun_in
begins st b xs s few room image recorded =
    let l : is_session (begun_bytes b xs) ≡ true = eq-eqb _ _ (size b xs few image recorded) in
    rw s (
      going_left (begun_bytes b xs) _ (record { session = l; stage = refl; steps = planned b xs few image recorded }),
      refl,
      rw l,
      low_again b.room room,
      ap (take 100) (behind_head b xs few image recorded) ∙ take_at b.image _ 100 image,
      ap (take 38) (behind_image b xs few image recorded) ∙ take_at b.«record» _ 38 recorded,
      refl,
      refl,
      rw l,
      rw l,
    )
