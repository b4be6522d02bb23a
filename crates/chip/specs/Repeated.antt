-- What holds of uploads that are cut and repeated, for every chip, image and lock choice, and every list of runs: document 02, CR 14.
use Rattle.std.specs.Prelude.{ℕ, ◌≤◌, ◌≡◌, ◌⊎◌, Bool, true, false, not, List, [], ◌∷◌, ◌++◌, length, take}
use Rattle.laws.specs.Bytes.{All}
use Rattle.laws.specs.Copied.{over}
use Rattle.memory.specs.declared.WaveformMemory.{WaveformMemory}
use Rattle.da728x.specs.declared.DA728x.{DA728x}
use Rattle.exchange.specs.declared.Reply.TheVariants.{Failed}
use Rattle.exchange.specs.State.{is_session, completed}
use Rattle.exchange.specs.Session.{AnswerCall, number_at, final}
use Rattle.chip.specs.declared.Chip.{Chip}
use Rattle.chip.specs.Writes.{holding}
use Rattle.chip.specs.Runs.{Attempt, calls, chip_after, uploading, Run, is_whole, after_upload, after_uploads}

-- what is so of every value of these types: a hundred bytes
abbrev pub Sized : WaveformMemory → Chip → Type 0
Sized m c = (length m.«data» ≡ 100) × (length c.bytes ≡ 100)

-- a run to this chip, to its end
abbrev pub Whole : WaveformMemory → Bool → Chip → Run → Type 0
Whole m lock_after c x = (x.driver.address ≡ c.address) × (is_whole m lock_after x ≡ true)

-- "However an upload is cut, running the same upload to its end afterwards leaves bytes and lock as one undisturbed run from the same start would": after
-- any runs, each cut in any way or not at all, to this chip or another. `sole` is one run from the start, undisturbed if it has no tries: there is such a
-- one (`General`). The same upload is that of one memory, with one lock choice, from any record and in any lent bytes. Each of ours unlocks the chip's
-- memory first, so no proviso is left.
abbrev pub Repeated : Type 0
Repeated = (m : WaveformMemory) (lock_after : Bool) (c : Chip) (cut : List Run) (last sole : Run) → Sized m c →
    Whole m lock_after c last → Whole m lock_after c sole →
    after_uploads m lock_after c (cut ++ (last ∷ [])) ≡ after_upload m lock_after c sole

-- ---- what the chip holds

-- the first j of the bytes that a memory shows over the front of the chip's, and this lock
abbrev pub laid : Chip → WaveformMemory → ℕ → Bool → Chip
laid c m j unlocked = holding c (over c.bytes 0 (take j (take m.len m.«data»))) unlocked

-- how many it shows
abbrev pub shown : WaveformMemory → ℕ
shown m = length (take m.len m.«data»)

-- after a run to its end: all of them, the other bytes as they were, and locked exactly where that is asked
abbrev pub Result : Type 0
Result = (m : WaveformMemory) (lock_after : Bool) (c : Chip) (x : Run) → Sized m c → Whole m lock_after c x →
    after_upload m lock_after c x ≡ laid c m (shown m) (not lock_after)

-- after any run: the chip as it was; or, of one to this chip, a front of them, and unlocked, or all of them, and locked, where that is asked
abbrev pub Leaves : Type 0
Leaves = (m : WaveformMemory) (lock_after : Bool) (c : Chip) (x : Run) → Sized m c → let d = after_upload m lock_after c x in
    (d ≡ c) ⊎ ((x.driver.address ≡ c.address) × (((j : ℕ) × (j ≤ shown m) × (d ≡ laid c m j true)) ⊎ ((lock_after ≡ true) × (d ≡ laid c m (shown m) false))))

-- ---- the model leaves no cut out

-- a session, not completed and with no tries before, that leaves d where c was: the caller stops while the next exchange is made, of which `part` bytes with
-- the register's reach the chip, or that exchange fails there, with any code of the bus
pub record CutTo (st : List ℕ) (c d : Chip) : Type 0 where
  pub attempts : List Attempt
  pub part : ℕ
  pub buffer : List ℕ
  pub clean : All (λ (a : Attempt). a.tries ≡ []) attempts
  pub opened : completed (final st (calls attempts)) ≡ false
  pub stopped : chip_after c st attempts (part ∷ []) ≡ d
  pub failed : (code : ℕ) → let call : AnswerCall = record { reply = Failed code; buffer = buffer } in
      (number_at (final st (calls attempts)) call ≡ 17) × (chip_after c st (attempts ++ (record { tries = part ∷ []; call = call } ∷ [])) [] ≡ d)

-- each of the chips that `Leaves` lists: so a cut unlock can leave the memory locked or unlocked, and a cut lock too
pub record Reaches : Type 0 where
  pub unchanged : (m : WaveformMemory) (lock_after : Bool) (c : Chip) (r : DA728x) (st : List ℕ) → Sized m c → r.address ≡ c.address → is_session st ≡ true →
      CutTo (uploading m lock_after r st) c c
  pub front : (m : WaveformMemory) (lock_after : Bool) (c : Chip) (r : DA728x) (st : List ℕ) (j : ℕ) → Sized m c → r.address ≡ c.address → is_session st ≡ true →
      j ≤ shown m → CutTo (uploading m lock_after r st) c (laid c m j true)
  pub locked : (m : WaveformMemory) (c : Chip) (r : DA728x) (st : List ℕ) → Sized m c → r.address ≡ c.address → is_session st ≡ true →
      CutTo (uploading m true r st) c (laid c m (shown m) false)
