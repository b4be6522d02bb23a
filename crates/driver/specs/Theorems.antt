-- What every operation sends, answers and stores, and what its start is refused for: document 01, 'Exchanges'; for every session's bytes, every list of answers and every record.
-- They speak of what the contracts cite: how a start begins a session, and what an answer does to it.
use Rattle.std.specs.Prelude.{ℕ, suc, ◌^◌, ◌≤◌, ◌<◌, min, ◌≡◌, Bool, true, false, cond, not, ◌&&◌, ◌↔◌, List, [], ◌∷◌, ◌++◌, ltb, leb, eqb, ℤ, pos, negsuc, length, take, drop, Option, Some, None}
use Rattle.config.specs.declared.ActuatorConfig.{ActuatorConfig}
use Rattle.config.specs.declared.DeviceConfig.{DeviceConfig}
use Rattle.config.specs.declared.DrivingMode.TheVariants.{CUSTOM_WAVEFORM}
use Rattle.config.specs.declared.OperationMode.TheVariants.{DRO_MODE}
use Rattle.config.specs.declared.Variant.{Variant}
use Rattle.memory.specs.declared.WaveformMemory.{WaveformMemory}
use Rattle.memory.specs.declared.WaveformMemoryTimebase.{WaveformMemoryTimebase}
use Rattle.laws.specs.Bytes.{All}
use Rattle.laws.specs.Copied.{over}
use Rattle.laws.specs.Lists.{at}
use Rattle.registers.specs.Table.{address_of}
use Rattle.exchange.specs.declared.Step.{Step}
use Rattle.exchange.specs.declared.Step.TheVariants.{Write, Store}
use Rattle.exchange.specs.declared.Exchange.{Exchange}
use Rattle.exchange.specs.declared.Reply.{Reply}
use Rattle.exchange.specs.State.{is_session, count_in, purpose_in, record_in, completed, indexed, left, Begun, begun_in}
use Rattle.exchange.specs.Turn.{resized, report_of}
use Rattle.exchange.specs.Session.{AnswerCall, taken, number_at, after_call, final, sent, came, broken_off, exchanges_of, lending, filled}
use Rattle.checks.specs.Checks.{configure_number}
use Rattle.plans.specs.Configure.{configure_steps}
use Rattle.checks.specs.Blames.{OutOfBand, Fault, faults, OfFirst}
use Rattle.da728x.specs.declared.DA728x.{DA728x}
use Rattle.std.specs.Prelude.{Option, Some, None}
use Rattle.da728x.specs.Record.{record_at}
use Rattle.sessions.specs.Sessions.{no_image}
use Rattle.outcome.specs.declared.Change.{Change}
use Rattle.outcome.specs.declared.Change.TheVariants.{Sequences}
use Rattle.outcome.specs.Outcome.{for_upload, is_chip_of, record_by, outcome_of}
use Rattle.driver.specs.Operations as operation
use Rattle.driver.specs.Operations.{Start, declines, begins, started_in, change_from, Operation, revision, upload_steps, change_after, record_after}

-- ---- the operations that start from a record, all but `new`

-- which, and with what arguments
pub data Request : Type 0 where
  configure : ActuatorConfig → DeviceConfig → Request
  get_chip_rev : Request
  get_events : Request
  get_status : Request
  set_frequency : ℕ → Request
  set_override_value : ℤ → Request
  set_timebase : WaveformMemoryTimebase → Request
  enable : Request
  disable : Request
  set_custom_drive_waveform : ℕ → ℕ → ℕ → Request
  unlock_waveform_memory : Request
  lock_waveform_memory : Request
  upload_waveform_memory : WaveformMemory → Bool → Request
  read_waveform_memory : ℕ → ℕ → Request
  select_sequence : ℕ → ℕ → Request
  start_sequence : Request
  play_sequence : ℕ → ℕ → Request

abbrev pub operation_of : DA728x → Request → Operation
operation_of r (configure a d) = operation.configure r a d
operation_of r get_chip_rev = operation.get_chip_rev r
operation_of r get_events = operation.get_events r
operation_of r get_status = operation.get_status r
operation_of r (set_frequency hz) = operation.set_frequency r hz
operation_of r (set_override_value value) = operation.set_override_value r value
operation_of r (set_timebase timebase) = operation.set_timebase r timebase
operation_of r enable = operation.enable r
operation_of r disable = operation.disable r
operation_of r (set_custom_drive_waveform p1 p2 p3) = operation.set_custom_drive_waveform r p1 p2 p3
operation_of r unlock_waveform_memory = operation.unlock_waveform_memory r
operation_of r lock_waveform_memory = operation.lock_waveform_memory r
operation_of r (upload_waveform_memory m lock_after) = operation.upload_waveform_memory r m lock_after
operation_of r (read_waveform_memory len room) = operation.read_waveform_memory r len room
operation_of r (select_sequence id loops) = operation.select_sequence r id loops
operation_of r start_sequence = operation.start_sequence r
operation_of r (play_sequence id loops) = operation.play_sequence r id loops

-- what is so of every value of its arguments' types: a memory has a hundred bytes, and a buffer's length is below 2^64
abbrev pub Typed : Request → Type 0
Typed (upload_waveform_memory m lock_after) = length m.«data» ≡ 100
Typed (read_waveform_memory len room) = room < 2 ^ 64
Typed q = Unit

abbrev pub is_upload : Request → Bool
is_upload (upload_waveform_memory m lock_after) = true
is_upload q = false

abbrev pub is_configure : Request → Bool
is_configure (configure a d) = true
is_configure q = false

-- ---- what is sent and answered

-- what holds under a list of answers of a session that begins as `s`, for the chip at this address, with these steps; `result` gives the
-- operation's answer from the bytes that came
pub record Course (s : List ℕ) (address : ℕ) (image : List ℕ) (xs : List Step) (result : List ℕ → ℕ) (cs : List AnswerCall) : Type 0 where
  -- demand 2's exchanges: those of the steps, in order from the first, with the bytes read substituted
  pub order : sent s cs ≡ take (length (sent s cs)) (exchanges_of address 0 image xs (came s cs))
  -- all to the operation's own chip
  pub chip : All (λ (e : Exchange). e.address ≡ address) (sent s cs)
  -- still to be made are the steps behind those that were; none once it is broken off
  pub next : left (final s cs) ≡ cond (broken_off s cs) [] (drop (length (sent s cs)) xs)
  -- completed exactly where no answer broke it off and as many were made as there are steps; then they are all that is to be sent
  pub completes : completed (final s cs) ≡ not (broken_off s cs) && eqb (length (sent s cs)) (length xs)
  pub whole : completed (final s cs) ≡ true → sent s cs ≡ exchanges_of address 0 image xs (came s cs)
  -- the count, completed or not, and once completed what the operation answers
  pub outcome : outcome_of (final s cs)
      ≡ record { made = length (sent s cs); value = cond (completed (final s cs)) (Some (result (came s cs))) None }

-- the steps, and behind them a memory read for each index
abbrev pub all_steps : Begun → List Step → List Step
all_steps b xs = xs ++ indexed Store 0 (min b.reads 100)

abbrev pub AnswersAs : ℕ → Operation → Type 0
AnswersAs address o = (b : Begun) (xs : List Step) → o.start ≡ begins b xs → (st : List ℕ) → is_session st ≡ true → (cs : List AnswerCall) →
    Course (begun_in st b xs) address b.image (all_steps b xs) o.answers cs

-- no answer to a session that it begins is told by 16
abbrev pub NoMismatch : Operation → Type 0
NoMismatch o = (b : Begun) (xs : List Step) → o.start ≡ begins b xs → (st : List ℕ) → is_session st ≡ true → (cs : List AnswerCall) (c : AnswerCall) →
    ¬ (number_at (final (begun_in st b xs) cs) c ≡ 16)

-- something that is said of the settings stored; where none are, it does not hold
abbrev pub InStored : (ActuatorConfig → DeviceConfig → Type 0) → Option (ActuatorConfig × DeviceConfig) → Type 0
InStored P None = ⊥
InStored P (Some (a, d)) = P a d

pub record Answers : Type 0 where
  pub news : (address : ℕ) (variant : Variant) → AnswersAs address (operation.new address variant)
  pub courses : (r : DA728x) (q : Request) → Typed q → AnswersAs r.address (operation_of r q)
  -- "16 VariantMismatch, in `new`": in no other operation
  pub mismatch : (r : DA728x) (q : Request) → Typed q → NoMismatch (operation_of r q)
  -- "`configure` makes at most 25, at least 14 if none fails"
  pub counts : (r : DA728x) (a : ActuatorConfig) (d : DeviceConfig) (st : List ℕ) (cs : List AnswerCall) →
      configure_number r.variant a d ≡ 0 → is_session st ≡ true →
      let after = final (started_in st (operation.configure r a d).start) cs in (count_in after ≤ 25) × (completed after ≡ true → 14 ≤ count_in after)
  -- and what it begins are the steps of its own settings, of which `Accepted` and `Trigger` speak
  pub configures : (r : DA728x) (a : ActuatorConfig) (d : DeviceConfig) (b : Begun) (xs : List Step) → (operation.configure r a d).start ≡ begins b xs → xs ≡ configure_steps a d
  -- document 02, CR 8: where CUSTOM_WAVEFORM is stored, the three points, any bytes, go to SWG_C1, SWG_C2 and SWG_C3 (their addresses are said again
  -- here), in this order, each in a write of its own, and that is all; no value is answered
  pub drive_points : (r : DA728x) (p1 p2 p3 : ℕ) (st : List ℕ) (cs : List AnswerCall) → InStored (λ a d. d.driving_mode ≡ CUSTOM_WAVEFORM) r.settings →
      All (λ p. p < 256) (p1 ∷ p2 ∷ p3 ∷ []) → is_session st ≡ true →
      Course (started_in st (operation.set_custom_drive_waveform r p1 p2 p3).start) r.address no_image (Write 0x25 p1 ∷ Write 0x26 p2 ∷ Write 0x27 p3 ∷ []) (λ bytes. 0) cs

-- ---- what a start is refused for: document 01, 'Settings to registers' and its list of differences, with document 02's numbers (CR 3), and without the
-- 14 that `set_custom_drive_waveform` had there (CR 8)

abbrev pub BelowZero : ℤ → Type 0
BelowZero (pos n) = ⊥
BelowZero (negsuc n) = Unit

-- refused with the number of the first fault that holds; begun where none does
abbrev pub BeginsUnless : Start → List Fault → Type 0
BeginsUnless (declines number) fs = (1 ≤ number) × OfFirst number fs
BeginsUnless (begins b xs) fs = OfFirst 0 fs

pub record Refusals : Type 0 where
  pub configure : (r : DA728x) (a : ActuatorConfig) (d : DeviceConfig) → BeginsUnless (operation.configure r a d).start (faults r.variant a d)
  -- "a frequency, also in `set_frequency`, 23"
  pub set_frequency : (r : DA728x) (hz : ℕ) → BeginsUnless (operation.set_frequency r hz).start
      ((15, r.settings ≡ None) ∷ (23, InStored (λ a d. OutOfBand d.driving_mode hz) r.settings) ∷ [])
  -- "Number 11 remains for .. override values, `select_sequence` and `play_sequence`"
  pub set_override_value : (r : DA728x) (value : ℤ) → BeginsUnless (operation.set_override_value r value).start
      ((15, r.settings ≡ None) ∷ (11, InStored (λ a d. (d.acceleration ≡ true) × BelowZero value) r.settings)
      ∷ (12, InStored (λ a d. ¬ (d.operation_mode ≡ DRO_MODE)) r.settings) ∷ [])
  -- and CR 10: "After the test for 11, a number not below it is refused with 28"
  pub select_sequence : (r : DA728x) (id loops : ℕ) → BeginsUnless (operation.select_sequence r id loops).start ((11, 15 < id) ∷ (11, 15 < loops) ∷ (28, r.sequences ≤ id) ∷ [])
  pub play_sequence : (r : DA728x) (id loops : ℕ) → BeginsUnless (operation.play_sequence r id loops).start ((11, 15 < id) ∷ (11, 15 < loops) ∷ (28, r.sequences ≤ id) ∷ [])
  pub enable : (r : DA728x) → BeginsUnless (operation.enable r).start ((15, r.settings ≡ None) ∷ [])
  pub disable : (r : DA728x) → BeginsUnless (operation.disable r).start ((15, r.settings ≡ None) ∷ [])
  -- document 02, CR 8: "keeps its two checks"
  pub set_custom_drive_waveform : (r : DA728x) (p1 p2 p3 : ℕ) → BeginsUnless (operation.set_custom_drive_waveform r p1 p2 p3).start
      ((15, r.settings ≡ None) ∷ (12, InStored (λ a d. ¬ (d.driving_mode ≡ CUSTOM_WAVEFORM)) r.settings) ∷ [])
  -- never
  pub others : (r : DA728x) (address : ℕ) (v : Variant) (timebase : WaveformMemoryTimebase) (m : WaveformMemory) (lock_after : Bool) (len room : ℕ) →
      All (λ o. BeginsUnless o.start []) (operation.new address v ∷ operation.get_chip_rev r ∷ operation.get_events r ∷ operation.get_status r
      ∷ operation.set_timebase r timebase ∷ operation.unlock_waveform_memory r ∷ operation.lock_waveform_memory r ∷ operation.upload_waveform_memory r m lock_after
      ∷ operation.read_waveform_memory r len room ∷ operation.start_sequence r ∷ [])

-- ---- what is stored

-- what an answer does to the record lent with it
abbrev pub change_behind : List ℕ → AnswerCall → DA728x → Option Change
change_behind st c r = change_after st c.reply (length c.buffer) r

-- the record after these answers, where it was lent with each
abbrev pub record_final : List ℕ → List AnswerCall → DA728x → DA728x
record_final st [] r = r
record_final st (c ∷ cs) r = record_final (after_call st c) cs (record_after st c.reply (length c.buffer) r)

-- for every record lent and every list of answers; the first five for every session's bytes (old, foreign, forged)
pub record Stored : Type 0 where
  -- an answer that is refused with 19 leaves the record, every byte of it; where the session is for no upload, so does one that fails (16, 17) or is
  -- not the last
  pub refused : (st : List ℕ) (c : AnswerCall) (r : DA728x) → number_at st c ≡ 19 → change_behind st c r ≡ None
  pub failed : (st : List ℕ) (c : AnswerCall) (r : DA728x) → ¬ (purpose_in st ≡ for_upload) → ¬ (number_at st c ≡ 0) → change_behind st c r ≡ None
  pub before : (st : List ℕ) (c : AnswerCall) (r : DA728x) → ¬ (purpose_in st ≡ for_upload) → (report_of st c.reply (length c.buffer)).ended ≡ false → change_behind st c r ≡ None
  -- document 02, CR 10: where it is for an upload, each answer that is taken gives the count of sequences, and nothing else, to a record of the address
  -- that the session carries, whatever that record holds: 0, unless it completes the upload; a record of another address stays
  pub counts : (st : List ℕ) (c : AnswerCall) (r : DA728x) → purpose_in st ≡ for_upload → let carried = record_at (record_in st) in
      change_behind st c r ≡ cond (taken st c.reply (length c.buffer) && eqb carried.address r.address)
      (Some (Sequences (cond (completed (after_call st c)) carried.sequences 0))) None
  -- every answer to a session that has ended, that was never begun, or of another length leaves it; such a session stays
  pub ended : (st : List ℕ) (c : AnswerCall) (r : DA728x) → left st ≡ [] → (change_behind st c r ≡ None) × (after_call st c ≡ st)
  -- a start that is refused, or that lends bytes of another length, leaves both
  pub declined : (s : Start) (number : ℕ) (st : List ℕ) → s ≡ declines number → (started_in st s ≡ st) × (change_from st s ≡ None)
  pub unbegun : (s : Start) (st : List ℕ) → is_session st ≡ false → (started_in st s ≡ st) × (change_from st s ≡ None)
  -- the start of an upload sets the count to 0, and no other start changes the record
  pub zeroes : (r : DA728x) (m : WaveformMemory) (lock_after : Bool) (st : List ℕ) → is_session st ≡ true →
      change_from st (operation.upload_waveform_memory r m lock_after).start ≡ Some (Sequences 0)
  pub starts : (r : DA728x) (q : Request) (st : List ℕ) → Typed q → is_upload q ≡ false → change_from st (operation_of r q).start ≡ None
  pub starts_new : (address : ℕ) (variant : Variant) (st : List ℕ) → change_from st (operation.new address variant).start ≡ None
  -- `new` makes a record exactly if the one byte that came from CHIP_REV is the variant's
  pub creates : (address : ℕ) (variant : Variant) (st : List ℕ) (cs : List AnswerCall) (r : DA728x) → is_session st ≡ true →
      let s = started_in st (operation.new address variant).start in
      record_final s cs r ≡ cond (eqb (length (came s cs)) 1 && eqb (at (came s cs) 0) (revision variant))
      (record { address = address; variant = variant; settings = None; sequences = 0 }) r
  -- `configure` stores its settings exactly if it is completed, in a record of its own chip, whose count stays; a record of another chip stays
  pub configures : (r lent : DA728x) (a : ActuatorConfig) (d : DeviceConfig) (st : List ℕ) (cs : List AnswerCall) → configure_number r.variant a d ≡ 0 →
      is_session st ≡ true → let s = started_in st (operation.configure r a d).start in
      record_final s cs lent ≡ cond (completed (final s cs))
      (cond (is_chip_of r lent) (record { address = lent.address; variant = lent.variant; settings = Some (a, d); sequences = lent.sequences }) lent) lent
  pub own : (r lent : DA728x) → (is_chip_of r lent ≡ true) ↔ ((r.address ≡ lent.address) × (r.variant ≡ lent.variant))
  -- so an answer to an upload that is taken gives a record of its address the image's number of sequences if it completes the upload, and 0 if not
  pub loads : (r lent : DA728x) (m : WaveformMemory) (lock_after : Bool) (st : List ℕ) (cs : List AnswerCall) (c : AnswerCall) → length m.«data» ≡ 100 →
      is_session st ≡ true → let s = final (started_in st (operation.upload_waveform_memory r m lock_after).start) cs in
      change_behind s c lent ≡ cond (taken s c.reply (length c.buffer) && eqb r.address lent.address)
      (Some (Sequences (cond (completed (after_call s c)) m.num_sequences 0))) None
  -- and the record that was lent with the start and with each answer has that number exactly if the upload is completed, else 0; all else of it stays
  pub uploads : (r : DA728x) (m : WaveformMemory) (lock_after : Bool) (st : List ℕ) (cs : List AnswerCall) → length m.«data» ≡ 100 → is_session st ≡ true →
      let o = operation.upload_waveform_memory r m lock_after in let s = started_in st o.start in
      record_final s cs (record_by r (change_from st o.start))
      ≡ record { address = r.address; variant = r.variant; settings = r.settings; sequences = cond (completed (final s cs)) m.num_sequences 0 }
  -- no answer to another operation changes the record
  pub others : (r : DA728x) (q : Request) → Typed q → is_upload q ≡ false → is_configure q ≡ false → (b : Begun) (xs : List Step) → (operation_of r q).start ≡ begins b xs →
      (st : List ℕ) (cs : List AnswerCall) (c : AnswerCall) (lent : DA728x) → is_session st ≡ true →
      change_behind (final (begun_in st b xs) cs) c lent ≡ None

-- ---- what is uploaded and read

-- bytes, each with the address where it goes: the first at this one
abbrev pub addressed : ℕ → List ℕ → List (ℕ × ℕ)
addressed address [] = []
addressed address (b ∷ bytes) = (address, b) ∷ addressed (suc address) bytes

-- what exchanges write into the waveform memory: the first byte sent is an address there, and the others go to it and those behind it
abbrev pub payload : List Exchange → List (ℕ × ℕ)
payload [] = []
payload (e ∷ es) = cond (leb (address_of "SNP_MEM_0") (at e.bytes 0)) (addressed (at e.bytes 0) (drop 1 (take e.len e.bytes))) [] ++ payload es

pub record Transfers : Type 0 where
  -- an upload makes its steps and reads nothing; it unlocks the memory first, and where the lock is asked for, that is one exchange more, the last
  -- (address and bytes are said again here)
  pub alone : (r : DA728x) (m : WaveformMemory) (lock_after : Bool) (b : Begun) (xs : List Step) → (operation.upload_waveform_memory r m lock_after).start ≡ begins b xs →
      (b.reads ≡ 0) × (xs ≡ upload_steps m lock_after)
  pub unlocks : (m : WaveformMemory) (lock_after : Bool) → take 1 (upload_steps m lock_after) ≡ Write 0x2D 0x80 ∷ []
  pub locks : (m : WaveformMemory) → upload_steps m true ≡ upload_steps m false ++ (Write 0x2D 0x00 ∷ [])
  -- "Upload sends what `WaveformMemory::as_bytes` shows .. from address 84 (hexadecimal)": once completed, each byte to its own address; no other goes
  -- into the memory
  pub shown : (r : DA728x) (m : WaveformMemory) (lock_after : Bool) (st : List ℕ) (cs : List AnswerCall) → length m.«data» ≡ 100 → is_session st ≡ true →
      let s = started_in st (operation.upload_waveform_memory r m lock_after).start in
      completed (final s cs) ≡ true → payload (sent s cs) ≡ addressed (address_of "SNP_MEM_0") (take m.len m.«data»)
  -- no other operation writes into it, whatever is answered
  pub spares : (r : DA728x) (q : Request) → Typed q → is_upload q ≡ false → (b : Begun) (xs : List Step) → (operation_of r q).start ≡ begins b xs →
      (st : List ℕ) (cs : List AnswerCall) → is_session st ≡ true → payload (sent (begun_in st b xs) cs) ≡ []
  pub spares_new : (address : ℕ) (variant : Variant) (st : List ℕ) (cs : List AnswerCall) → is_session st ≡ true →
      payload (sent (started_in st (operation.new address variant).start) cs) ≡ []
  -- a read fills the front of the buffer with the bytes that came, and changes no other byte
  pub reads : (r : DA728x) (len : ℕ) (buffer : List ℕ) (st : List ℕ) (replies : List Reply) → is_session st ≡ true → length buffer < 2 ^ 64 →
      let s = started_in st (operation.read_waveform_memory r len (length buffer)).start in
      filled s buffer replies ≡ over buffer 0 (came s (lending s buffer replies))
  -- once completed, as many bytes came as it reads
  pub came_all : (r : DA728x) (len room : ℕ) (st : List ℕ) (cs : List AnswerCall) → is_session st ≡ true → room < 2 ^ 64 →
      let s = started_in st (operation.read_waveform_memory r len room).start in completed (final s cs) ≡ true → length (came s cs) ≡ min (min len 100) room
  -- an answer is out of turn where a buffer of another length is lent than was said at the start, if anything is read
  pub other_buffer : (r : DA728x) (len room n : ℕ) (st : List ℕ) (cs : List AnswerCall) → is_session st ≡ true → room < 2 ^ 64 →
      resized (final (started_in st (operation.read_waveform_memory r len room).start) cs) n ≡ ltb 0 (min (min len 100) room) && not (eqb n room)
