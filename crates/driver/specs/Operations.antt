-- Every operation of lib.rs: what it refuses before its first exchange, else its steps, and what it answers once they are made.
-- Document 01, 'Settings to registers', 'Exchanges' and 'Who can cause which answer'; document 02, CR 3, CR 8 and CR 10.
use Rattle.std.specs.Prelude.{ℕ, zero, suc, min, Bool, true, false, cond, not, ◌&&◌, List, [], ◌∷◌, ltb, leb, eqb, ℤ, pos, negsuc, Option, Some, None}
use Rattle.registers.specs.Table.{address_of}
use Rattle.config.specs.declared.ActuatorConfig.{ActuatorConfig}
use Rattle.config.specs.declared.DeviceConfig.{DeviceConfig}
use Rattle.config.specs.declared.DrivingMode.{DrivingMode}
use Rattle.config.specs.declared.DrivingMode.TheVariants.{CUSTOM_WAVEFORM}
use Rattle.config.specs.declared.OperationMode.TheVariants.{INACTIVE, DRO_MODE}
use Rattle.config.specs.declared.Variant.{Variant}
use Rattle.config.specs.declared.Variant.TheVariants.{DA7280, DA7281, DA7282}
use Rattle.config.specs.Codes.{operation_code, driving_code}
use Rattle.memory.specs.declared.WaveformMemory.{WaveformMemory}
use Rattle.memory.specs.declared.WaveformMemoryTimebase.{WaveformMemoryTimebase}
use Rattle.memory.specs.Timebase.{timebase_bit}
use Rattle.convert.specs.Convert.{override_byte}
use Rattle.checks.specs.Checks.{outside_band, Check, first_failing, configure_number}
use Rattle.exchange.specs.declared.Step.{Step}
use Rattle.exchange.specs.declared.Step.TheVariants.{Read, Match}
use Rattle.exchange.specs.declared.Reply.{Reply}
use Rattle.exchange.specs.State.{Begun, begun_with, begun_in}
use Rattle.exchange.specs.Turn.{state_after, report_of}
use Rattle.plans.specs.Fields.{put, written, written_with, updated}
use Rattle.plans.specs.Configure.{frequency_steps, configure_steps}
use Rattle.da728x.specs.declared.DA728x.{DA728x}
use Rattle.da728x.specs.Record.{record_bytes}
use Rattle.sessions.specs.Sessions.{no_image, blank_record, blank, carrying, enabled, select_step, start_steps, set_unlocked, send_steps}
use Rattle.outcome.specs.declared.Change.{Change}
use Rattle.outcome.specs.Outcome.{big_endian, for_upload, zeroing, change_by, record_by}

-- ---- what starting an operation comes to

pub data Start : Type 0 where
  declines : ℕ → Start
  begins : Begun → List Step → Start

abbrev pub start_number : Start → ℕ
start_number (declines number) = number
start_number (begins b xs) = 0

-- the lent session afterwards: a refusal writes nothing, and bytes of another length stay (that such a start still tells 0 is ours)
abbrev pub started_in : List ℕ → Start → List ℕ
started_in st (declines number) = st
started_in st (begins b xs) = begun_in st b xs

-- what a start makes of the record: an upload sets its count of sequences to 0, any other leaves it
abbrev pub change_from : List ℕ → Start → Option Change
change_from st (declines number) = None
change_from st (begins b xs) = cond (eqb b.purpose for_upload) (zeroing st) None

-- refused with a number, the first of a list of checks; begun where it is 0
abbrev pub unless : ℕ → Start → Start
unless zero s = s
unless (suc n) s = declines (suc n)

-- "15 comes first, while no settings are stored"
abbrev pub with_settings : Option (ActuatorConfig × DeviceConfig) → (ActuatorConfig → DeviceConfig → Start) → Start
with_settings None f = declines 15
with_settings (Some (a, d)) f = f a d

-- ---- what an answer gives

-- what an answer does to the record lent with it, where n bytes are lent too; a record that is left keeps its bytes
unfoldable pub change_after : List ℕ → Reply → ℕ → DA728x → Option Change
change_after st a n r = change_by (state_after st a n) (report_of st a n) r

-- the record in force after it
abbrev pub record_after : List ℕ → Reply → ℕ → DA728x → DA728x
record_after st a n r = record_by r (change_after st a n r)

-- ---- the operations, by their names in lib.rs; what each session is for (the first number of `blank`, `carrying` and `asking`, the fourth of
-- `begun_with`) is a code of outcome/specs/Outcome.antt

-- how it starts, and what it answers where these bytes came
pub record Operation : Type 0 where
  pub start : Start
  pub answers : List ℕ → ℕ

-- one that answers nothing
abbrev pub plain : Start → Operation
plain s = record { start = s; answers = λ bytes. 0 }

abbrev pub runs : DA728x → List Step → Start
runs r xs = begins (blank 0 r.address) xs

-- one that answers the bytes that came
abbrev pub asking : ℕ → DA728x → List Step → Operation
asking purpose r xs = record { start = begins (blank purpose r.address) xs; answers = big_endian 0 }

-- "CHIP_REV does not read BA for the DA7280, CA for the DA7281, DA for the DA7282"
abbrev pub revision : Variant → ℕ
revision DA7280 = 0xBA
revision DA7281 = 0xCA
revision DA7282 = 0xDA

abbrev pub new_record : ℕ → Variant → DA728x
new_record address variant = record { address = address; variant = variant; settings = None; sequences = 0 }

abbrev pub new : ℕ → Variant → Operation
new address variant = plain (begins (carrying 1 (new_record address variant)) (Match (address_of "CHIP_REV") (revision variant) ∷ []))

-- the count of the record that its session carries is not looked at
abbrev pub configure : DA728x → ActuatorConfig → DeviceConfig → Operation
configure r a d =
    plain (unless (configure_number r.variant a d) (begins (carrying 2 (record { address = r.address; variant = r.variant; settings = Some (a, d); sequences = 0 })) (configure_steps a d)))

abbrev pub get_chip_rev : DA728x → Operation
get_chip_rev r = asking 3 r (Read (address_of "CHIP_REV") ∷ [])

-- three reads, then a write of FF that clears them
abbrev pub get_events : DA728x → Operation
get_events r =
    asking 4 r (Read (address_of "IRQ_EVENT1") ∷ Read (address_of "IRQ_EVENT_WARNING_DIAG") ∷ Read (address_of "IRQ_EVENT_SEQ_DIAG") ∷ written "IRQ_EVENT1" 0xFF ∷ [])

abbrev pub get_status : DA728x → Operation
get_status r = asking 3 r (Read (address_of "IRQ_STATUS1") ∷ [])

-- 15, then 23, document 02: "a frequency, also in `set_frequency`, 23"
abbrev pub set_frequency : DA728x → ℕ → Operation
set_frequency r hz =
    plain (with_settings r.settings (λ a d. unless (first_failing ((outside_band d.driving_mode hz, 23) ∷ [])) (runs r (frequency_steps hz))))

abbrev pub negative : ℤ → Bool
negative (pos n) = false
negative (negsuc n) = true

-- "Its checks: 15, negative under acceleration (11), not DRO_MODE (12)"
abbrev pub override_checks : DeviceConfig → ℤ → List Check
override_checks d value = (d.acceleration && negative value, 11) ∷ (not (eqb (operation_code d.operation_mode) (operation_code DRO_MODE)), 12) ∷ []

abbrev pub overriding : ℕ → DeviceConfig → ℤ → Start
overriding address d value = unless (first_failing (override_checks d value)) (begins (blank 0 address) (written "TOP_CTL2" (override_byte value) ∷ []))

abbrev pub set_override_value : DA728x → ℤ → Operation
set_override_value r value = plain (with_settings r.settings (λ a d. overriding r.address d value))

abbrev pub set_timebase : DA728x → WaveformMemoryTimebase → Operation
set_timebase r timebase = plain (runs r (updated "SEQ_CTL1" (put "FREQ_WAVEFORM_TIMEBASE" (timebase_bit timebase))))

abbrev pub enable : DA728x → Operation
enable r = plain (with_settings r.settings (λ a d. runs r (written "TOP_CTL1" (enabled d.operation_mode) ∷ [])))

abbrev pub disable : DA728x → Operation
disable r = plain (with_settings r.settings (λ a d. runs r (updated "TOP_CTL1" (put "OPERATION_MODE" (operation_code INACTIVE)))))

abbrev pub is_custom : DrivingMode → Bool
is_custom mode = eqb (driving_code mode) (driving_code CUSTOM_WAVEFORM)

-- behind 15: "that the mode is CUSTOM_WAVEFORM (12)"
abbrev pub drive_point_checks : DeviceConfig → List Check
drive_point_checks d = (not (is_custom d.driving_mode), 12) ∷ []

-- document 02, CR 8: `set_custom_drive_waveform` "writes its three bytes to SWG_C1, SWG_C2 and SWG_C3, in that order"
abbrev pub drive_point_steps : ℕ → ℕ → ℕ → List Step
drive_point_steps p1 p2 p3 =
    written_with "SWG_C1" (put "CUSTOM_WAVE_GEN_COEFF1" p1 ∷ []) ∷ written_with "SWG_C2" (put "CUSTOM_WAVE_GEN_COEFF2" p2 ∷ []) ∷ written_with "SWG_C3" (put "CUSTOM_WAVE_GEN_COEFF3" p3 ∷ []) ∷ []

abbrev pub set_custom_drive_waveform : DA728x → ℕ → ℕ → ℕ → Operation
set_custom_drive_waveform r p1 p2 p3 = plain (with_settings r.settings (λ a d. unless (first_failing (drive_point_checks d)) (runs r (drive_point_steps p1 p2 p3))))

abbrev pub unlock_waveform_memory : DA728x → Operation
unlock_waveform_memory r = plain (runs r (set_unlocked true ∷ []))

abbrev pub lock_waveform_memory : DA728x → Operation
lock_waveform_memory r = plain (runs r (set_unlocked false ∷ []))

abbrev pub upload_steps : WaveformMemory → Bool → List Step
upload_steps m lock_after = send_steps (min m.len 100) lock_after

-- what the session of an upload carries: the address where it goes, and the count that it gives in the end, "taken from its `num_sequences`"
abbrev pub upload_record : DA728x → WaveformMemory → DA728x
upload_record r m = record { address = r.address; variant = r.variant; settings = None; sequences = m.num_sequences }

abbrev pub upload_begun : DA728x → WaveformMemory → Begun
upload_begun r m = begun_with r.address 0 0 for_upload m.«data» (record_bytes (upload_record r m))

abbrev pub upload_waveform_memory : DA728x → WaveformMemory → Bool → Operation
upload_waveform_memory r m lock_after = plain (begins (upload_begun r m) (upload_steps m lock_after))

-- "min(len, 100, buffer length) bytes, one an exchange; zero needs none"
abbrev pub read_waveform_memory : DA728x → ℕ → ℕ → Operation
read_waveform_memory r len room =
    let n = min (min len 100) room in
    record { start = begins (begun_with r.address n room 5 no_image blank_record) []; answers = λ bytes. n }

-- "a sequence number or loop count above 15 (11)"; document 02, CR 10: "After the test for 11, a number not below it is refused with 28"
abbrev pub sequence_checks : ℕ → ℕ → ℕ → List Check
sequence_checks sequences id loops = (ltb 15 id, 11) ∷ (ltb 15 loops, 11) ∷ (leb sequences id, 28) ∷ []

abbrev pub select_sequence : DA728x → ℕ → ℕ → Operation
select_sequence r id loops = plain (unless (first_failing (sequence_checks r.sequences id loops)) (runs r (select_step id loops ∷ [])))

abbrev pub start_sequence : DA728x → Operation
start_sequence r = plain (runs r start_steps)

abbrev pub play_sequence : DA728x → ℕ → ℕ → Operation
play_sequence r id loops = plain (unless (first_failing (sequence_checks r.sequences id loops)) (runs r (select_step id loops ∷ start_steps)))
