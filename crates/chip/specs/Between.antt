-- What may be done between the runs: no operation of the driver but an upload and the two that write the lock alone changes the chip's memory or its lock,
-- whatever is answered and tried. Document 02, CR 14, "between them nothing else is written".
use Rattle.std.specs.Prelude.{ℕ, ◌≡◌, Bool, true, false, List, length}
use Rattle.config.specs.declared.Variant.{Variant}
use Rattle.exchange.specs.declared.Step.{Step}
use Rattle.exchange.specs.State.{Begun, begun_in}
use Rattle.da728x.specs.declared.DA728x.{DA728x}
use Rattle.driver.specs.Operations as operation
use Rattle.driver.specs.Operations.{begins, started_in}
use Rattle.driver.specs.Theorems.{Request, unlock_waveform_memory, lock_waveform_memory, operation_of, Typed, is_upload}
use Rattle.chip.specs.declared.Chip.{Chip}
use Rattle.chip.specs.Runs.{Attempt, chip_after}

-- the two that write the lock alone
abbrev pub writes_lock : Request → Bool
writes_lock unlock_waveform_memory = true
writes_lock lock_waveform_memory = true
writes_lock q = false

pub record Between : Type 0 where
  pub others : (r : DA728x) (q : Request) → Typed q → is_upload q ≡ false → writes_lock q ≡ false → (b : Begun) (xs : List Step) → (operation_of r q).start ≡ begins b xs →
      (st : List ℕ) (c : Chip) (attempts : List Attempt) (last_tries : List ℕ) → length c.bytes ≡ 100 → chip_after c (begun_in st b xs) attempts last_tries ≡ c
  pub new : (address : ℕ) (variant : Variant) (st : List ℕ) (c : Chip) (attempts : List Attempt) (last_tries : List ℕ) → length c.bytes ≡ 100 →
      chip_after c (started_in st (operation.new address variant).start) attempts last_tries ≡ c
