-- The same for runs that unlock the memory first, as the driver's do, or do not, as none of the driver's does, under the proviso of document 02, CR 14; and
-- that where they are mixed it is needed.
use Rattle.std.specs.Prelude.{ℕ, ◌≡◌, ◌⊎◌, Bool, true, false, List, [], ◌∷◌, ◌++◌, length}
use Rattle.laws.specs.Bytes.{All}
use Rattle.memory.specs.declared.WaveformMemory.{WaveformMemory}
use Rattle.da728x.specs.declared.DA728x.{DA728x}
use Rattle.exchange.specs.State.{is_session}
use Rattle.chip.specs.declared.Chip.{Chip}
use Rattle.chip.specs.Runs.{Attempt, uploading, Run, is_whole, after_upload, AnyRun, running, is_whole_run, after_run, after_runs}
use Rattle.chip.specs.Repeated.{Sized}

-- a run to this chip, to its end
abbrev pub WholeRun : WaveformMemory → Bool → Chip → AnyRun → Type 0
WholeRun m lock_after c x = (x.run.driver.address ≡ c.address) × (is_whole_run m lock_after x ≡ true)

pub record General : Type 0 where
  -- "provided the memory starts unlocked or each run unlocks it before writing to it, both runs use the same image and lock choice"
  pub repeated : (m : WaveformMemory) (lock_after : Bool) (c : Chip) (cut : List AnyRun) (last sole : AnyRun) → Sized m c →
      WholeRun m lock_after c last → WholeRun m lock_after c sole →
      (c.unlocked ≡ true) ⊎ All (λ (x : AnyRun). x.unlocks ≡ true) (sole ∷ last ∷ cut) →
      after_runs m lock_after c (cut ++ (last ∷ [])) ≡ after_run m lock_after c sole
  -- the driver's own upload is the run that unlocks: its session, what it leaves, and whether it is run to its end
  pub ours : (m : WaveformMemory) (lock_after : Bool) (c : Chip) (x : Run) → let y : AnyRun = record { unlocks = true; run = x } in
      (running m lock_after y ≡ uploading m lock_after x.driver x.session)
      × (after_run m lock_after c y ≡ after_upload m lock_after c x)
      × (is_whole_run m lock_after y ≡ is_whole m lock_after x)
  -- "nothing while locked"
  pub shut : (m : WaveformMemory) (lock_after : Bool) (c : Chip) (x : AnyRun) → Sized m c → c.unlocked ≡ false → x.unlocks ≡ false →
      after_run m lock_after c x ≡ c
  -- in any bytes that are a session each can be run to its end, with nothing that disturbs it
  pub undisturbed : (m : WaveformMemory) (lock_after : Bool) (unlocks : Bool) (r : DA728x) (st : List ℕ) → length m.«data» ≡ 100 → is_session st ≡ true →
      (attempts : List Attempt) × All (λ (a : Attempt). a.tries ≡ []) attempts
      × (is_whole_run m lock_after (record { unlocks = unlocks; run = record { driver = r; session = st; attempts = attempts; last_tries = [] } }) ≡ true)

-- without the proviso not even the bytes need be the same, though the last run and the sole one are of one kind: where a cut run unlocks a locked memory, and
-- these two do not
abbrev pub Needed : Type 0
Needed = ¬ ((m : WaveformMemory) (lock_after : Bool) (c : Chip) (cut : List AnyRun) (last sole : AnyRun) → Sized m c →
    WholeRun m lock_after c last → WholeRun m lock_after c sole → last.unlocks ≡ false → sole.unlocks ≡ false →
    (after_runs m lock_after c (cut ++ (last ∷ []))).bytes ≡ (after_run m lock_after c sole).bytes)
