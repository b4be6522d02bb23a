-- What the two forms that make an image answer where a buffer is lent for it, and what they leave there, by what the calls answer and what
-- building comes to. One leaves refused calls out (`Assembled`), the other tells the first of them (`Strict`).
use Rattle.std.specs.Prelude.{ℕ, ◌+◌, ◌*◌, ◌<◌, ◌≤◌, ◌≡◌, false, ◌↔◌, ◌⊎◌, List, ◌∷◌, ◌++◌, length, drop}
use Rattle.laws.specs.Whole.{whole_out}
use Rattle.laws.specs.Bytes.{All}
use Rattle.pattern.specs.Calls.{content_from}
use Rattle.pattern.specs.Demand.{ImageOf}
use Rattle.assemble.specs.Lists.{groups_of, answers_of, built_of, last_place}
use Rattle.assemble.specs.Items.{image_item, strict_item, leniently, strictly}

pub record Assembled (buffer calls : List ℕ) : Type 0 where
  -- 0 exactly if an image is built and the buffer has room for it
  pub done : (leniently buffer calls ≡ 0) ↔ (((built_of calls).number ≡ 0) × (100 ≤ length buffer))
  -- what building refuses (9, 10 or 8), whatever the buffer; then a buffer without room
  pub builds : 0 < (built_of calls).number → leniently buffer calls ≡ (built_of calls).number
  pub short : (built_of calls).number ≡ 0 → length buffer < 100 → leniently buffer calls ≡ 24
  -- a refusal is its number alone; it leaves the buffer; else that has the image in front of its other bytes
  pub number : leniently buffer calls ≤ 24
  pub kept : 0 < leniently buffer calls → whole_out buffer (image_item calls) ≡ buffer
  pub image : leniently buffer calls ≡ 0 → whole_out buffer (image_item calls) ≡ (built_of calls).item.«data» ++ drop 100 buffer
  -- and that is the image of what the calls added, which the builders admit
  pub made : leniently buffer calls ≡ 0 → ImageOf (built_of calls).item.«data» (content_from false (groups_of calls).memory)

-- each of these answers accepts its call
abbrev pub AllAccepted : List ℕ → Type 0
AllAccepted answers = All (λ n. n ≡ 0) answers

pub record Strict (buffer calls : List ℕ) : Type 0 where
  -- 0 exactly if no call is refused, an image is built and the buffer has room for it
  pub done : (strictly buffer calls ≡ 0) ↔ (AllAccepted (answers_of calls) × ((built_of calls).number ≡ 0) × (100 ≤ length buffer))
  -- where a call is refused, the first that is: its number, and 256 times its place, counted from 1
  pub first : (before : List ℕ) (number : ℕ) (rest : List ℕ) → answers_of calls ≡ before ++ (number ∷ rest) → AllAccepted before → 0 < number
      → ((length before < last_place) × (strictly buffer calls ≡ number + 256 * (length before + 1)))
      -- a later place is told as the last that has room
      ⊎ ((last_place ≤ length before) × (strictly buffer calls ≡ number + 256 * last_place))
  -- number and place can be told apart in that sum
  pub numbers : All (λ n. n ≤ 14) (answers_of calls)
  -- where none is, all is as in the other form, and a refusal has place 0
  pub accepted : AllAccepted (answers_of calls) → (strictly buffer calls ≡ leniently buffer calls)
      × (whole_out buffer (strict_item calls) ≡ whole_out buffer (image_item calls))
  -- a refusal leaves the buffer
  pub kept : 0 < strictly buffer calls → whole_out buffer (strict_item calls) ≡ buffer
