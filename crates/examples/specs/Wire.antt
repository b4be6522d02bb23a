-- What goes over the wire: each operation's exchanges in order where these bytes are read, each as one number: chip address, how many bytes are
-- wanted, the bytes sent (0x4A001380 sends 13 80 to 4A, 0x4A0114 sends 14 and reads a byte). What it answers; by which number it is refused.
-- Then a session that runs, what goes into a buffer, codes and TRIM4. Worked out by hand from registers.rs, lib.rs and document 01.
use Rattle.std.specs.Prelude.{ℕ, ◌+◌, true, false, List, [], ◌∷◌, ◌++◌, map, length, take, drop, set, replicate, ℤ, pos, negsuc, Some, None}
use Rattle.laws.specs.Copied.{copied}
use Rattle.config.specs.Codes.{variant_at}
use Rattle.config.specs.declared.Variant.{Variant}
use Rattle.config.specs.declared.Variant.TheVariants.{DA7280, DA7281, DA7282}
use Rattle.convert.specs.Trim.{cap_code, resistance_code}
use Rattle.memory.specs.declared.WaveformMemory.{WaveformMemory}
use Rattle.memory.specs.declared.WaveformMemoryTimebase.TheVariants.{TIMEBASE_544_2176_4352_8704, TIMEBASE_136_544_2176_4352}
use Rattle.memory.specs.Timebase.{memory_timebase_at}
use Rattle.exchange.specs.declared.Reply.TheVariants.{Done, Byte, Failed}
use Rattle.exchange.specs.State.{indexed}
use Rattle.exchange.specs.Session.{AnswerCall, final, exchanges_of}
use Rattle.da728x.specs.declared.DA728x.{DA728x}
use Rattle.da728x.specs.Record.{actuator_config_at, device_config_at, record_at}
use Rattle.outcome.specs.Outcome.{big_endian, outcome_of}
use Rattle.driver.specs.Operations as operation
use Rattle.driver.specs.Operations.{Start, declines, begins, start_number, started_in, Operation, new_record, revision}
use Rattle.driver.specs.Theorems.{all_steps, record_final}
use Rattle.examples.specs.Rows.{Example, ◌is◌, Hold, checked_examples}

abbrev pub wire_of : List ℕ → Start → List ℕ
wire_of bytes (declines number) = []
wire_of bytes (begins b xs) = map (λ e. big_endian 0 (e.address ∷ e.wanted ∷ take e.len e.bytes)) (exchanges_of b.address 0 b.image (all_steps b xs) bytes)

abbrev pub wire : List ℕ → Operation → List ℕ
wire bytes o = wire_of bytes o.start

-- settings as bytes, in this operation mode: LRA, 2500 and 5990 mV, 165 mA, 8000 mOhm, 50 µH, 170 Hz, Kp 0x8123, Ki 0x0180, CUSTOM_WAVEFORM, the
-- triggers with sequences 1 rising, 2 falling, 3 both, the last MultiSequence
abbrev pub settings_for : ℕ → List ℕ
settings_for mode =
    0 ∷ 0xC4 ∷ 0x09 ∷ 0x66 ∷ 0x17 ∷ 165 ∷ 0 ∷ 0x40 ∷ 0x1F ∷ 50 ∷ 0 ∷ 170 ∷ 0 ∷ 1 ∷ 0x23 ∷ 0x81 ∷ 0x80 ∷ 0x01
    ∷ mode ∷ 2 ∷ 1 ∷ 1 ∷ 0 ∷ 0 ∷ 1 ∷ 2 ∷ 1 ∷ 0 ∷ 1 ∷ 3 ∷ 2 ∷ 1 ∷ 0 ∷ 0 ∷ []

-- ERM, 1200 and 3000 mV, 252 mA, 49999 mOhm, 17 µH, 235 Hz, no PID words, FREQUENCY_TRACK, no triggers, acceleration
abbrev pub accelerating : ℕ → List ℕ
accelerating mode =
    1 ∷ 0xB0 ∷ 0x04 ∷ 0xB8 ∷ 0x0B ∷ 252 ∷ 0 ∷ 0x4F ∷ 0xC3 ∷ 17 ∷ 0 ∷ 235 ∷ 0 ∷ (replicate 5 0 ++ (mode ∷ 0 ∷ (replicate 12 0 ++ (1 ∷ 0 ∷ []))))

-- bytes with some replaced, by their indexes
abbrev pub replaced : List ℕ → List (ℕ × ℕ) → List ℕ
replaced l [] = l
replaced l (c ∷ cs) = replaced (set l c.0 c.1) cs

-- a DA7280 at 4A with these settings stored and sixteen sequences; `chip` has the first in DRO_MODE
abbrev pub chip_with : List ℕ → DA728x
chip_with settings = record_at (0x4A ∷ 0 ∷ 2 ∷ (settings ++ (16 ∷ [])))

abbrev pub chip : DA728x
chip = chip_with (settings_for 1)

-- one without settings, and with so many sequences
abbrev pub holding : ℕ → DA728x
holding n = record_at (0x4A ∷ 0 ∷ 1 ∷ (replicate 34 0 ++ (n ∷ [])))

abbrev pub configuring : Variant → List ℕ → Operation
configuring v settings = operation.configure (new_record 0x4A v) (actuator_config_at settings 0) (device_config_at settings 18)

-- an image of 98 bytes, or of 2, that says five sequences
abbrev pub loaded_to : ℕ → WaveformMemory
loaded_to n = record { «data» = replicate 96 7 ++ (8 ∷ 9 ∷ 0 ∷ 0 ∷ []); len = n; num_snippets = 1; num_sequences = 5 }

-- what the bus answers to a write
abbrev pub done : AnswerCall
done = record { reply = Done; buffer = [] }

abbrev pub failed : AnswerCall
failed = record { reply = Failed 5; buffer = [] }

-- the number that its start tells; 0 where it begins
abbrev pub refusal : Operation → ℕ
refusal o = start_number o.start

-- what `configure` tells of the settings in ETWM_MODE with these bytes replaced
abbrev pub told : Variant → List (ℕ × ℕ) → ℕ
told v changes = refusal (configuring v (replaced (settings_for 4) changes))

abbrev pub refused_examples : List Example
refused_examples =
    -- without settings
    (map (λ o. refusal (o (new_record 0x4A DA7280))) ((λ r. operation.set_frequency r 170) ∷ (λ r. operation.set_override_value r (negsuc 0)) ∷ operation.enable
    ∷ operation.disable ∷ (λ r. operation.set_custom_drive_waveform r 1 2 3) ∷ []) is replicate 5 15)
    -- those that need none; drive points in CUSTOM_WAVEFORM, in WIDEBAND and while tracking
    ∷ (map (λ o. refusal (o (new_record 0x4A DA7280))) (operation.get_chip_rev ∷ operation.get_events ∷ operation.get_status ∷ operation.unlock_waveform_memory ∷ operation.lock_waveform_memory ∷ operation.start_sequence
    ∷ (λ r. operation.set_timebase r TIMEBASE_136_544_2176_4352) ∷ []) is replicate 7 0)
    ∷ (map (λ settings. refusal (operation.set_custom_drive_waveform (chip_with settings) 1 2 3)) (settings_for 1 ∷ replaced (settings_for 1) ((19, 1) ∷ []) ∷ accelerating 1 ∷ []) is (0 ∷ 12 ∷ 12 ∷ []))
    ∷ (map (λ hz. refusal (operation.set_frequency chip hz)) (24 ∷ 25 ∷ 1024 ∷ 1025 ∷ []) is (23 ∷ 0 ∷ 0 ∷ 23 ∷ []))
    ∷ (map (λ hz. refusal (operation.set_frequency (chip_with (accelerating 1)) hz)) (49 ∷ 50 ∷ 300 ∷ 301 ∷ []) is (23 ∷ 0 ∷ 0 ∷ 23 ∷ []))
    -- −1 in ETWM_MODE, accelerating and not; −1, 0 and 127 in DRO_MODE, accelerating; 1 in the other modes
    ∷ (map (λ (c : List ℕ × ℤ). refusal (operation.set_override_value (chip_with c.0) c.1)) ((accelerating 4, negsuc 0) ∷ (settings_for 4, negsuc 0) ∷ (accelerating 1, negsuc 0) ∷ (accelerating 1, pos 0) ∷ (accelerating 1, pos 127)
    ∷ (settings_for 0, pos 1) ∷ (settings_for 2, pos 1) ∷ (settings_for 3, pos 1) ∷ []) is (11 ∷ 12 ∷ 11 ∷ 0 ∷ 0 ∷ 12 ∷ 12 ∷ 12 ∷ []))
    -- where 0, 4, 16 or 200 sequences are loaded
    ∷ (map refusal (operation.select_sequence chip 16 0 ∷ operation.select_sequence (holding 0) 0 16 ∷ operation.play_sequence (holding 200) 16 0 ∷ operation.play_sequence chip 0 16 ∷ []) is replicate 4 11)
    ∷ (map (λ (c : ℕ × ℕ). refusal (operation.select_sequence (holding c.0) c.1 2)) ((0, 0) ∷ (4, 0) ∷ (4, 3) ∷ (4, 4) ∷ (4, 9) ∷ (16, 15) ∷ (200, 15) ∷ []) is (28 ∷ 0 ∷ 0 ∷ 28 ∷ 28 ∷ 0 ∷ 0 ∷ []))
    ∷ (map (λ (c : ℕ × ℕ). refusal (operation.play_sequence (holding c.0) c.1 2)) ((0, 0) ∷ (4, 0) ∷ (4, 3) ∷ (4, 4) ∷ (4, 9) ∷ (16, 15) ∷ (200, 15) ∷ []) is (28 ∷ 0 ∷ 0 ∷ 28 ∷ 28 ∷ 0 ∷ 0 ∷ []))
    -- `configure`: as they are; acceleration, and rapid stop with no trigger, where it does not track; no trigger and 253 mA
    ∷ (map (told DA7280) ([] ∷ ((32, 1) ∷ []) ∷ ((33, 1) ∷ (20, 0) ∷ (24, 0) ∷ (28, 0) ∷ []) ∷ ((20, 0) ∷ (24, 0) ∷ (28, 0) ∷ (5, 253) ∷ []) ∷ []) is (0 ∷ 12 ∷ 12 ∷ 13 ∷ []))
    -- one trigger on a DA7281; two and 253 mA; two and acceleration
    ∷ (map (told DA7281) (((20, 0) ∷ (28, 0) ∷ []) ∷ ((28, 0) ∷ (5, 253) ∷ []) ∷ ((28, 0) ∷ (32, 1) ∷ []) ∷ []) is (0 ∷ 14 ∷ 12 ∷ []))
    -- 6001 mV, nominal and absolute, 253 mA, 3999 and 50000 mOhm, 24 and 1025 Hz, 49 and 301 Hz tracking, 5991 mV, 28 mA, sequence 16
    ∷ (map (told DA7280) (((1, 0x71) ∷ (2, 0x17) ∷ []) ∷ ((3, 0x71) ∷ []) ∷ ((5, 253) ∷ []) ∷ ((7, 0x9F) ∷ (8, 0x0F) ∷ []) ∷ ((7, 0x50) ∷ (8, 0xC3) ∷ []) ∷ ((11, 24) ∷ [])
    ∷ ((11, 1) ∷ (12, 4) ∷ []) ∷ ((19, 0) ∷ (11, 49) ∷ []) ∷ ((19, 0) ∷ (11, 0x2D) ∷ (12, 1) ∷ []) ∷ ((1, 0x67) ∷ (2, 0x17) ∷ []) ∷ ((3, 0x67) ∷ []) ∷ ((5, 28) ∷ []) ∷ ((29, 16) ∷ [])
    ∷ []) is (21 ∷ 21 ∷ 22 ∷ 22 ∷ 22 ∷ 23 ∷ 23 ∷ 23 ∷ 23 ∷ 21 ∷ 21 ∷ 22 ∷ 11 ∷ []))
    -- 5995 mV with 3999 mOhm, with 20 Hz, with 28 mA; 28 mA with 20 Hz, with sequence 16; 253 mA with 6001 mV, with 3999 mOhm, with 20 Hz; 3999 mOhm with
    -- 20 Hz; 6001 mV with acceleration, with no trigger, on a DA7281 with two
    ∷ (map (told DA7280) (((3, 0x6B) ∷ (7, 0x9F) ∷ (8, 0x0F) ∷ []) ∷ ((3, 0x6B) ∷ (11, 20) ∷ []) ∷ ((3, 0x6B) ∷ (5, 28) ∷ []) ∷ ((5, 28) ∷ (11, 20) ∷ []) ∷ ((5, 28) ∷ (29, 16) ∷ [])
    ∷ ((5, 253) ∷ (1, 0x71) ∷ (2, 0x17) ∷ []) ∷ ((5, 253) ∷ (7, 0x9F) ∷ (8, 0x0F) ∷ []) ∷ ((5, 253) ∷ (11, 20) ∷ []) ∷ ((7, 0x9F) ∷ (8, 0x0F) ∷ (11, 20) ∷ [])
    ∷ ((3, 0x71) ∷ (32, 1) ∷ []) ∷ ((3, 0x71) ∷ (20, 0) ∷ (24, 0) ∷ (28, 0) ∷ []) ∷ []) is (22 ∷ 23 ∷ 21 ∷ 23 ∷ 22 ∷ 21 ∷ 22 ∷ 22 ∷ 22 ∷ 12 ∷ 13 ∷ []))
    ∷ (told DA7281 ((3, 0x71) ∷ (28, 0) ∷ []) is 14)
    -- rapid stop while tracking; with sequence 16; with 5991 mV; with 28 mA
    ∷ (map (λ changes. told DA7280 ((19, 0) ∷ (33, 1) ∷ changes)) ([] ∷ ((29, 16) ∷ []) ∷ ((3, 0x67) ∷ []) ∷ ((5, 28) ∷ []) ∷ []) is (14 ∷ 11 ∷ 21 ∷ 22 ∷ [])) ∷ []

abbrev pub wire_examples : List Example
wire_examples =
    -- where TOP_CFG2 reads 0F and TOP_INT_CFG8 reads 8C: in ETWM_MODE; accelerating, where TOP_CFG2 reads 1F; WIDEBAND with the third trigger alone
    (wire (0x0F ∷ 0x8C ∷ []) (configuring DA7280 (settings_for 4))
    is (0x4A001380 ∷ 0x4A0114 ∷ 0x4A00141F ∷ 0x4A006E00 ∷ 0x4A000C6A ∷ 0x4A000DFF ∷ 0x4A000E12 ∷ 0x4A000F00 ∷ 0x4A00106D ∷ 0x4A006002 ∷ 0x4A001C02 ∷ 0x4A001D23 ∷ 0x4A001E03 ∷ 0x4A001F00 ∷ 0x4A000A22 ∷ 0x4A000B3B
    ∷ 0x4A0120 ∷ 0x4A00207C ∷ 0x4A004800 ∷ 0x4A004980 ∷ 0x4A002402 ∷ 0x4A001680 ∷ 0x4A002908 ∷ 0x4A002A11 ∷ 0x4A002B1E ∷ []))
    ∷ (wire (0x1F ∷ 0x8C ∷ []) (configuring DA7280 (accelerating 1))
    is (0x4A0013BC ∷ 0x4A0114 ∷ 0x4A00140F ∷ 0x4A006E01 ∷ 0x4A000C33 ∷ 0x4A000D80 ∷ 0x4A000E1F ∷ 0x4A000F04 ∷ 0x4A00103E ∷ 0x4A00600C ∷ 0x4A000A18 ∷ 0x4A000B77 ∷ 0x4A0120 ∷ 0x4A00207C ∷ []))
    -- tracking without acceleration, LRA and ERM; every bit read clear or set; triggers in ETWM_MODE only
    ∷ (map (λ type. take 4 (wire (0x0F ∷ []) (configuring DA7280 (replaced (accelerating 1) ((0, type) ∷ (32, 0) ∷ []))))) (0 ∷ 1 ∷ [])
    is ((0x4A001398 ∷ 0x4A0114 ∷ 0x4A00141F ∷ 0x4A006E00 ∷ []) ∷ (0x4A0013B8 ∷ 0x4A0114 ∷ 0x4A00141F ∷ 0x4A006E00 ∷ []) ∷ []))
    ∷ (map (λ b. let bytes = wire (b ∷ b ∷ []) (configuring DA7280 (accelerating 1)) in take 1 (drop 2 bytes) ++ drop 13 bytes) (0x00 ∷ 0xFF ∷ []) is ((0x4A001400 ∷ 0x4A002070 ∷ []) ∷ (0x4A0014EF ∷ 0x4A00207F ∷ []) ∷ []))
    ∷ (map (λ mode. length (wire [] (configuring DA7280 (settings_for mode)))) (0 ∷ 1 ∷ 2 ∷ 3 ∷ 4 ∷ []) is (22 ∷ 22 ∷ 22 ∷ 22 ∷ 25 ∷ []))
    ∷ (drop 16 (wire (0x0F ∷ 0x8C ∷ []) (configuring DA7280 (replaced (settings_for 4) ((19, 1) ∷ (20, 0) ∷ (24, 0) ∷ []))))
    is (0x4A0120 ∷ 0x4A00207C ∷ 0x4A004800 ∷ 0x4A004980 ∷ 0x4A002B1E ∷ []))
    -- sequence 5, rising, MultiSequence and SingleSequence, and 15, both edges, SingleSequence; then a mode byte of 2, which counts as 1
    ∷ (map (λ mode. drop 22 (wire (0x0F ∷ 0x8C ∷ []) (configuring DA7280 (replaced (settings_for 4) ((21, 5) ∷ (23, 1) ∷ (25, 5) ∷ (26, 0) ∷ (29, 15) ∷ (31, mode) ∷ []))))) (0 ∷ 2 ∷ [])
    is ((0x4A00292C ∷ 0x4A002A28 ∷ 0x4A002B7A ∷ []) ∷ (0x4A00292C ∷ 0x4A002A28 ∷ 0x4A002B7E ∷ []) ∷ []))
    ∷ (wire (0xBA ∷ []) (operation.new 0x4A DA7280) is (0x4A0100 ∷ [])) ∷ (map revision (DA7280 ∷ DA7281 ∷ DA7282 ∷ []) is (0xBA ∷ 0xCA ∷ 0xDA ∷ []))
    ∷ (wire (0xBA ∷ []) (operation.get_chip_rev chip) is (0x4A0100 ∷ [])) ∷ ((operation.get_chip_rev chip).answers (0xBA ∷ []) is 0xBA)
    ∷ (wire (1 ∷ 2 ∷ 3 ∷ []) (operation.get_events chip) is (0x4A0103 ∷ 0x4A0104 ∷ 0x4A0105 ∷ 0x4A0003FF ∷ [])) ∷ ((operation.get_events chip).answers (1 ∷ 2 ∷ 3 ∷ []) is 0x010203)
    ∷ (wire (9 ∷ []) (operation.get_status chip) is (0x4A0106 ∷ [])) ∷ ((operation.get_status chip).answers (9 ∷ []) is 9)
    ∷ (wire [] (operation.set_frequency chip 170) is (0x4A000A22 ∷ 0x4A000B3B ∷ []))
    ∷ (map (λ value. wire [] (operation.set_override_value chip value)) (negsuc 0 ∷ negsuc 127 ∷ pos 127 ∷ []) is ((0x4A0023FF ∷ []) ∷ (0x4A002380 ∷ []) ∷ (0x4A00237F ∷ []) ∷ []))
    -- one field replaced, where every bit read is clear or set
    ∷ (map (λ o. map (λ b. wire (b ∷ []) o) (0x00 ∷ 0xFF ∷ [])) (operation.set_timebase chip TIMEBASE_544_2176_4352_8704 ∷ operation.set_timebase chip TIMEBASE_136_544_2176_4352 ∷ operation.disable chip ∷ operation.start_sequence chip ∷ [])
    is (((0x4A0124 ∷ 0x4A002400 ∷ []) ∷ (0x4A0124 ∷ 0x4A0024FB ∷ []) ∷ []) ∷ ((0x4A0124 ∷ 0x4A002404 ∷ []) ∷ (0x4A0124 ∷ 0x4A0024FF ∷ []) ∷ [])
    ∷ ((0x4A0122 ∷ 0x4A002200 ∷ []) ∷ (0x4A0122 ∷ 0x4A0022F8 ∷ []) ∷ []) ∷ ((0x4A0122 ∷ 0x4A002210 ∷ []) ∷ (0x4A0122 ∷ 0x4A0022FF ∷ []) ∷ []) ∷ []))
    ∷ (map (λ mode. wire [] (operation.enable (chip_with (settings_for mode)))) (0 ∷ 1 ∷ 2 ∷ 3 ∷ 4 ∷ []) is map (λ byte. byte ∷ []) (0x4A002200 ∷ 0x4A002201 ∷ 0x4A002202 ∷ 0x4A002203 ∷ 0x4A002204 ∷ []))
    ∷ (wire [] (operation.set_custom_drive_waveform chip 0x12 0x80 0xFF) is (0x4A002512 ∷ 0x4A002680 ∷ 0x4A0027FF ∷ []))
    ∷ (wire [] (operation.unlock_waveform_memory chip) is (0x4A002D80 ∷ [])) ∷ (wire [] (operation.lock_waveform_memory chip) is (0x4A002D00 ∷ []))
    ∷ (wire [] (operation.upload_waveform_memory chip (loaded_to 98) true)
    is (0x4A002D80 ∷ big_endian 0x4A0084 (replicate 32 7) ∷ big_endian 0x4A00A4 (replicate 32 7) ∷ big_endian 0x4A00C4 (replicate 32 7) ∷ 0x4A00E40809 ∷ 0x4A002D00 ∷ []))
    ∷ (wire [] (operation.upload_waveform_memory chip (loaded_to 2) false) is (0x4A002D80 ∷ 0x4A00840707 ∷ []))
    ∷ (wire (5 ∷ 6 ∷ []) (operation.read_waveform_memory chip 2 5) is (0x4A0184 ∷ 0x4A0185 ∷ [])) ∷ (wire [] (operation.read_waveform_memory chip 200 150) is indexed (λ i. 0x4A0184 + i) 0 100) ∷ ((operation.read_waveform_memory chip 2 5).answers (5 ∷ 6 ∷ []) is 2)
    ∷ (wire [] (operation.select_sequence chip 3 2) is (0x4A002823 ∷ [])) ∷ (wire [] (operation.select_sequence chip 15 15) is (0x4A0028FF ∷ []))
    ∷ (map (λ b. wire (b ∷ []) (operation.play_sequence chip 3 2)) (0x00 ∷ 0xFF ∷ []) is ((0x4A002823 ∷ 0x4A0122 ∷ 0x4A002210 ∷ []) ∷ (0x4A002823 ∷ 0x4A0122 ∷ 0x4A0022FF ∷ []) ∷ []))
    -- sessions that run, one with a buffer lent, one whose second of three writes fails; what goes into a buffer; codes that C hands in
    ∷ (outcome_of (final (started_in (replicate 280 0) (operation.get_status chip).start) (record { reply = Byte 9; buffer = 0 ∷ [] } ∷ [])) is record { made = 1; value = Some 9 })
    ∷ (outcome_of (final (started_in (replicate 280 0) (operation.set_custom_drive_waveform chip 1 2 3).start) (done ∷ failed ∷ done ∷ [])) is record { made = 2; value = None })
    -- how many sequences a record with four has once these are answered to an upload of an unlock, a chunk and a lock
    ∷ (map (λ cs. (record_final (started_in (replicate 280 0) (operation.upload_waveform_memory (holding 4) (loaded_to 2) true).start) cs (holding 4)).sequences)
    ([] ∷ replicate 1 done ∷ replicate 2 done ∷ replicate 3 done ∷ (done ∷ done ∷ failed ∷ []) ∷ (failed ∷ done ∷ done ∷ []) ∷ []) is (4 ∷ 0 ∷ 0 ∷ 5 ∷ 0 ∷ 0 ∷ []))
    ∷ (copied (1 ∷ 2 ∷ 3 ∷ []) (8 ∷ 9 ∷ []) is (8 ∷ 9 ∷ 3 ∷ [])) ∷ (copied (1 ∷ []) (8 ∷ 9 ∷ []) is (8 ∷ []))
    ∷ (map memory_timebase_at (0 ∷ 1 ∷ []) is (TIMEBASE_544_2176_4352_8704 ∷ TIMEBASE_136_544_2176_4352 ∷ [])) ∷ (map variant_at (0 ∷ 1 ∷ 2 ∷ []) is (DA7280 ∷ DA7281 ∷ DA7282 ∷ []))
    -- TRIM4's codes: inductances around each limit of the cap code; whole ohms at 25 and at 113 µH; columns at 18 ohms
    ∷ (map cap_code (17 ∷ 18 ∷ 27 ∷ 28 ∷ 40 ∷ 41 ∷ []) is (3 ∷ 2 ∷ 2 ∷ 1 ∷ 1 ∷ 0 ∷ [])) ∷ (map (λ mOhm. resistance_code mOhm 25) (5999 ∷ 6000 ∷ 9999 ∷ 10000 ∷ []) is (2 ∷ 1 ∷ 1 ∷ 0 ∷ []))
    ∷ (map (λ mOhm. resistance_code mOhm 113) (45999 ∷ 46000 ∷ []) is (3 ∷ 2 ∷ [])) ∷ (map (resistance_code 18000) (62 ∷ 63 ∷ 237 ∷ 238 ∷ 65535 ∷ []) is (0 ∷ 1 ∷ 2 ∷ 3 ∷ 3 ∷ [])) ∷ refused_examples

pub record Examples : Type 0 where
  pub checked : Hold checked_examples
  pub wired : Hold wire_examples
