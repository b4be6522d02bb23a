-- What the operations begin a session with, and the steps of those that are not `configure`: document 01, 'Exchanges'.
use Rattle.std.specs.Prelude.{ℕ, ◌-◌, min, Bool, true, false, cond, List, [], ◌∷◌, ◌++◌, ltb, replicate}
use Rattle.field.specs.Field.{code_of}
use Rattle.config.specs.declared.OperationMode.{OperationMode}
use Rattle.config.specs.Codes.{operation_code}
use Rattle.da728x.specs.declared.DA728x.{DA728x}
use Rattle.da728x.specs.Record.{record_bytes}
use Rattle.exchange.specs.declared.Step.{Step}
use Rattle.exchange.specs.declared.Step.TheVariants.{Chunk}
use Rattle.exchange.specs.State.{Begun, begun_with}
use Rattle.plans.specs.Fields.{put, fresh, written, updated}

-- ---- what a session is begun with

-- what stands for an image where nothing is uploaded, and for a record where none is made, no settings are stored and nothing is uploaded
unfoldable pub no_image : List ℕ
no_image = replicate 100 0

unfoldable pub blank_record : List ℕ
blank_record = replicate 38 0

-- steps on the chip's registers alone, for this purpose (a code of `outcome`)
abbrev pub blank : ℕ → ℕ → Begun
blank purpose address = begun_with address 0 0 purpose no_image blank_record

-- the same, for a record
abbrev pub carrying : ℕ → DA728x → Begun
carrying purpose r = begun_with r.address 0 0 purpose no_image (record_bytes r)

-- ---- register values and steps

unfoldable pub enabled : OperationMode → ℕ
enabled mode = fresh "TOP_CTL1" (put "OPERATION_MODE" (operation_code mode) ∷ put "STANDBY_EN" 0 ∷ put "SEQ_START" 0 ∷ [])

unfoldable pub seq_ctl2 : ℕ → ℕ → ℕ
seq_ctl2 id loops = fresh "SEQ_CTL2" (put "PS_SEQ_ID" id ∷ put "PS_SEQ_LOOP" loops ∷ [])

abbrev pub select_step : ℕ → ℕ → Step
select_step id loops = written "SEQ_CTL2" (seq_ctl2 id loops)

abbrev pub start_steps : List Step
start_steps = updated "TOP_CTL1" (put "SEQ_START" 1)

unfoldable pub mem_ctl2 : Bool → ℕ
mem_ctl2 unlocked = fresh "MEM_CTL2" (put "WAV_MEM_LOCK" (code_of unlocked) ∷ [])

abbrev pub set_unlocked : Bool → Step
set_unlocked unlocked = written "MEM_CTL2" (mem_ctl2 unlocked)

-- the part from an offset on, of n bytes in all: none behind the end
unfoldable pub chunk_step : ℕ → ℕ → List Step
chunk_step n offset = cond (ltb offset n) (Chunk offset (min 32 (n - offset)) ∷ []) []

-- "what `WaveformMemory::as_bytes` shows in chunks of 32"
unfoldable pub chunk_steps : ℕ → List Step
chunk_steps n = chunk_step n 0 ++ (chunk_step n 32 ++ (chunk_step n 64 ++ chunk_step n 96))

unfoldable pub lock_steps : Bool → List Step
lock_steps lock_after = cond lock_after (set_unlocked false ∷ []) []

-- unlock, n bytes, and lock if asked
unfoldable pub send_steps : ℕ → Bool → List Step
send_steps n lock_after = set_unlocked true ∷ (chunk_steps n ++ lock_steps lock_after)
