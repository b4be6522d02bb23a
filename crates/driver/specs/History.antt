-- Document 02, CR 10, "No playing what was not loaded": over every history of a record, from a new one on, its count of sequences is that of the last
-- upload that was accepted, if it was completed, and the start of a select or a play is accepted only where that upload loaded the sequence.
use Rattle.std.specs.Prelude.{ℕ, ◌+◌, ◌*◌, ◌≤◌, ◌<◌, ◌≡◌, Bool, true, false, cond, ◌↔◌, List, [], ◌∷◌, ◌++◌}
use Rattle.config.specs.declared.Variant.{Variant}
use Rattle.laws.specs.Bytes.{All}
use Rattle.memory.specs.declared.WaveformMemory.{WaveformMemory}
use Rattle.exchange.specs.declared.Step.{Step}
use Rattle.exchange.specs.declared.Step.TheVariants.{Write, Read, Update}
use Rattle.exchange.specs.State.{is_session, completed, Begun, begun_in}
use Rattle.exchange.specs.Session.{AnswerCall, final}
use Rattle.da728x.specs.declared.DA728x.{DA728x}
use Rattle.outcome.specs.Outcome.{record_by}
use Rattle.driver.specs.Operations as operation
use Rattle.driver.specs.Operations.{Start, declines, begins, change_from, new_record}
use Rattle.driver.specs.Theorems.{Request, upload_waveform_memory, operation_of, Typed, record_final}

-- ---- histories

-- an operation is started, from the record in force, with any bytes lent for its session; then it is answered, to the end or not, with anything
pub data Event : Type 0 where
  new : ℕ → Variant → List ℕ → List AnswerCall → Event
  asks : Request → List ℕ → List AnswerCall → Event

-- the record in force after a start and the answers, where it was lent with each; a refused start is not answered
abbrev pub record_behind : DA728x → Start → List ℕ → List AnswerCall → DA728x
record_behind r (declines number) st cs = r
record_behind r (begins b xs) st cs = record_final (begun_in st b xs) cs (record_by r (change_from st (begins b xs)))

abbrev pub record_of : DA728x → Event → DA728x
record_of r (new address variant st cs) = record_behind r (operation.new address variant).start st cs
record_of r (asks q st cs) = record_behind r (operation_of r q).start st cs

-- .. and after one event after the other
abbrev pub in_force : DA728x → List Event → DA728x
in_force r [] = r
in_force r (e ∷ es) = in_force (record_of r e) es

-- ---- uploads

-- whether a session that begins so is completed by these answers
abbrev pub done_by : Start → List ℕ → List AnswerCall → Bool
done_by (declines number) st cs = false
done_by (begins b xs) st cs = completed (final (begun_in st b xs) cs)

-- an upload that was accepted: of what, and whether it was completed
pub record Upload : Type 0 where
  pub memory : WaveformMemory
  pub done : Bool

-- an upload is accepted where its start is, in bytes that are a session
abbrev pub upload_by : DA728x → Request → List ℕ → List AnswerCall → List Upload
upload_by r (upload_waveform_memory m lock_after) st cs =
    cond (is_session st) (record { memory = m; done = done_by (operation.upload_waveform_memory r m lock_after).start st cs } ∷ []) []
upload_by r q st cs = []

-- the uploads to the chip of a record, in order: those before, and one more, or none where `new` has made a new record
abbrev pub uploads_after : List Upload → DA728x → Event → List Upload
uploads_after us r (new address variant st cs) = cond (done_by (operation.new address variant).start st cs) [] us
uploads_after us r (asks q st cs) = us ++ upload_by r q st cs

-- .. of a history
abbrev pub uploads : List Upload → DA728x → List Event → List Upload
uploads us r [] = us
uploads us r (e ∷ es) = uploads (uploads_after us r e) (record_of r e) es

-- "the sequence count of the last wholly uploaded image, taken from its `num_sequences`", and zero where the last upload was not completed, or there is none
abbrev pub last_count : List Upload → ℕ
last_count [] = 0
last_count (u ∷ []) = cond u.done u.memory.num_sequences 0
last_count (u ∷ v ∷ us) = last_count (v ∷ us)

-- the last was completed, and its image has a sequence of this number
abbrev pub IsLoaded : List Upload → ℕ → Type 0
IsLoaded [] id = ⊥
IsLoaded (u ∷ []) id = (u.done ≡ true) × (id < u.memory.num_sequences)
IsLoaded (u ∷ v ∷ us) id = IsLoaded (v ∷ us) id

-- ---- the claims

abbrev pub TypedEvent : Event → Type 0
TypedEvent (new address variant st cs) = Unit
TypedEvent (asks q st cs) = Typed q

pub record Loaded : Type 0 where
  pub sequences : (address : ℕ) (variant : Variant) (es : List Event) → All TypedEvent es →
      let r = new_record address variant in (in_force r es).sequences ≡ last_count (uploads [] r es)

abbrev pub Begins : Start → Type 0
Begins (declines number) = ⊥
Begins (begins b xs) = Unit

-- "Selecting or playing consults it"
pub record Plays : Type 0 where
  -- begun exactly where both arguments are in range and the sequence is loaded
  pub selects : (address : ℕ) (variant : Variant) (es : List Event) (id loops : ℕ) → All TypedEvent es → let r = new_record address variant in
      Begins (operation.select_sequence (in_force r es) id loops).start ↔ ((id ≤ 15) × (loops ≤ 15) × IsLoaded (uploads [] r es) id)
  pub plays : (address : ℕ) (variant : Variant) (es : List Event) (id loops : ℕ) → All TypedEvent es → let r = new_record address variant in
      Begins (operation.play_sequence (in_force r es) id loops).start ↔ ((id ≤ 15) × (loops ≤ 15) × IsLoaded (uploads [] r es) id)
  -- and then this sequence is what the chip is given, with these loops; playing starts it, as `start_sequence` does, and no memory is read (SEQ_CTL2 and
  -- its fields, and bit 4 of TOP_CTL1, are said again here)
  pub selected : (r : DA728x) (id loops : ℕ) (b : Begun) (xs : List Step) → (operation.select_sequence r id loops).start ≡ begins b xs →
      (b.reads ≡ 0) × (xs ≡ Write 0x28 (id + 16 * loops) ∷ [])
  pub played : (r : DA728x) (id loops : ℕ) (b : Begun) (xs : List Step) → (operation.play_sequence r id loops).start ≡ begins b xs →
      (b.reads ≡ 0) × (xs ≡ Write 0x28 (id + 16 * loops) ∷ Read 0x22 ∷ Update 0x22 4 1 1 ∷ [])
  pub started : (r : DA728x) (b : Begun) (xs : List Step) → (operation.start_sequence r).start ≡ begins b xs →
      (b.reads ≡ 0) × (xs ≡ Read 0x22 ∷ Update 0x22 4 1 1 ∷ [])
