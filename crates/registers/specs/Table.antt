-- The chip's registers, in the order in which registers.rs writes them: name, address and parts, with the names and widths of registers.rs;
-- padding is named `__`. Document 01, "Settings to registers": "Addresses are those of `Register`, constants of that type"; "A register's
-- fields fill from bit 0 up in the written order".
use Rattle.std.specs.Prelude.{ℕ, Bool, true, false, cond, ◌&&◌, ◌||◌, List, [], ◌∷◌, ◌++◌, map, eqb}
use Prim.Native.Char.{code}
use Prim.Native.String.{String, [] as none, ◌∷◌ as ◌then◌}
use lib.Text.{eqt}
use Rattle.field.specs.Layout.{Part, part, Entry, entry}

-- identity, events and masks
abbrev pub interrupts : List Entry
interrupts =
    entry "CHIP_REV" 0x00 (part "CHIP_REV_MAJOR" 4 ∷ part "CHIP_REV_MINOR" 4 ∷ [])
    ∷ entry "IRQ_EVENT1" 0x03 (part "E_SEQ_CONTINUE" 1 ∷ part "E_UVLO" 1 ∷ part "E_SEQ_DONE" 1 ∷ part "E_OVERTEMP_CRIT" 1 ∷ part "E_SEQ_FAULT" 1 ∷ part "E_WARNING" 1 ∷ part "E_ACTUATOR_FAULT" 1 ∷ part "E_OC_FAULT" 1 ∷ [])
    ∷ entry "IRQ_EVENT_WARNING_DIAG" 0x04 (part "__" 3 ∷ part "E_OVERTEMP_WARN" 1 ∷ part "E_MEM_TYPE" 1 ∷ part "__" 1 ∷ part "E_LIM_DRIVE_ACC" 1 ∷ part "E_LIM_DRIVE" 1 ∷ [])
    ∷ entry "IRQ_EVENT_SEQ_DIAG" 0x05 (part "__" 5 ∷ part "E_PWM_FAULT" 1 ∷ part "E_MEM_FAULT" 1 ∷ part "E_SEQ_ID_FAULT" 1 ∷ [])
    ∷ entry "IRQ_STATUS1" 0x06 (part "STA_SEQ_CONTINUE" 1 ∷ part "STA_UVLO_VBAT_OK" 1 ∷ part "STA_SEQ_DONE" 1 ∷ part "STA_OVERTEMP_CRIT" 1 ∷ part "STA_SEQ_FAULT" 1 ∷ part "STA_WARNING" 1 ∷ part "STA_ACTUATOR" 1 ∷ part "STA_OC" 1 ∷ [])
    ∷ entry "IRQ_MASK1" 0x07 (part "SEQ_CONTINUE_M" 1 ∷ part "E_UVLO_M" 1 ∷ part "SEQ_DONE_M" 1 ∷ part "OVERTEMP_CRIT_M" 1 ∷ part "SEQ_FAULT_M" 1 ∷ part "WARNING_M" 1 ∷ part "ACTUATOR_M" 1 ∷ part "OC_M" 1 ∷ []) ∷ []

-- the actuator, and the features of driving it
abbrev pub actuator : List Entry
actuator =
    entry "FRQ_LRA_PER_H" 0x0A (part "LRA_PER_H" 8 ∷ []) ∷ entry "FRQ_LRA_PER_L" 0x0B (part "LRA_PER_L" 7 ∷ part "__" 1 ∷ [])
    ∷ entry "ACTUATOR1" 0x0C (part "ACTUATOR_NOMMAX" 8 ∷ []) ∷ entry "ACTUATOR2" 0x0D (part "ACTUATOR_ABSMAX" 8 ∷ [])
    ∷ entry "ACTUATOR3" 0x0E (part "IMAX" 5 ∷ part "__" 3 ∷ [])
    ∷ entry "CALIB_V2I_H" 0x0F (part "V2I_FACTOR_H" 8 ∷ []) ∷ entry "CALIB_V2I_L" 0x10 (part "V2I_FACTOR_L" 8 ∷ [])
    ∷ entry "TOP_CFG1" 0x13 (part "AMP_PID_EN" 1 ∷ part "RAPID_STOP_EN" 1 ∷ part "ACCELERATION_EN" 1 ∷ part "FREQ_TRACK_EN" 1 ∷ part "BEMF_SENSE_EN" 1 ∷ part "ACTUATOR_TYPE" 1 ∷ part "__" 1 ∷ part "EMBEDDED_MODE" 1 ∷ [])
    ∷ entry "TOP_CFG2" 0x14 (part "FULL_BRAKE_THR" 4 ∷ part "MEM_DATA_SIGNED" 1 ∷ part "__" 3 ∷ [])
    ∷ entry "TOP_CFG4" 0x16 (part "__" 6 ∷ part "TST_CALIB_IMPEDANCE_DIS" 1 ∷ part "V2I_FACTOR_FREEZE" 1 ∷ []) ∷ []

-- the control loop, operation and custom waveforms
abbrev pub control : List Entry
control =
    entry "TOP_INT_CFG1" 0x17 (part "BEMF_FAULT_LIM" 2 ∷ part "FRQ_LOCKED_LIM" 6 ∷ [])
    ∷ entry "TOP_INT_CFG6_H" 0x1C (part "FRQ_PID_Kp_H" 8 ∷ []) ∷ entry "TOP_INT_CFG6_L" 0x1D (part "FRQ_PID_Kp_L" 8 ∷ [])
    ∷ entry "TOP_INT_CFG7_H" 0x1E (part "FRQ_PID_Ki_H" 8 ∷ []) ∷ entry "TOP_INT_CFG7_L" 0x1F (part "FRQ_PID_Ki_L" 8 ∷ [])
    ∷ entry "TOP_INT_CFG8" 0x20 (part "FRQ_TRACK_BEMF_LIM" 4 ∷ part "RAPID_STOP_LIM" 4 ∷ [])
    ∷ entry "TOP_CTL1" 0x22 (part "OPERATION_MODE" 3 ∷ part "STANDBY_EN" 1 ∷ part "SEQ_START" 1 ∷ part "__" 3 ∷ [])
    ∷ entry "TOP_CTL2" 0x23 (part "OVERRIDE_VAL" 8 ∷ [])
    ∷ entry "SEQ_CTL1" 0x24 (part "SEQ_CONTINUE" 1 ∷ part "WAVEGEN_MODE" 1 ∷ part "FREQ_WAVEFORM_TIMEBASE" 1 ∷ part "__" 5 ∷ [])
    ∷ entry "SWG_C1" 0x25 (part "CUSTOM_WAVE_GEN_COEFF1" 8 ∷ []) ∷ entry "SWG_C2" 0x26 (part "CUSTOM_WAVE_GEN_COEFF2" 8 ∷ [])
    ∷ entry "SWG_C3" 0x27 (part "CUSTOM_WAVE_GEN_COEFF3" 8 ∷ []) ∷ []

-- sequences, triggers, the waveform memory and trims; POLARITY and the two ends of the memory have no fields
abbrev pub trigger : List Entry
trigger =
    entry "SEQ_CTL2" 0x28 (part "PS_SEQ_ID" 4 ∷ part "PS_SEQ_LOOP" 4 ∷ [])
    ∷ entry "GPI_0_CTL" 0x29 (part "GPI0_POLARITY" 2 ∷ part "GPI0_MODE" 1 ∷ part "GPI0_SEQUENCE_ID" 4 ∷ part "__" 1 ∷ [])
    ∷ entry "GPI_1_CTL" 0x2A (part "GPI1_POLARITY" 2 ∷ part "GPI1_MODE" 1 ∷ part "GPI1_SEQUENCE_ID" 4 ∷ part "__" 1 ∷ [])
    ∷ entry "GPI_2_CTL" 0x2B (part "GPI2_POLARITY" 2 ∷ part "GPI2_MODE" 1 ∷ part "GPI2_SEQUENCE_ID" 4 ∷ part "__" 1 ∷ [])
    ∷ entry "MEM_CTL1" 0x2C (part "WAV_MEM_BASE_ADDR" 8 ∷ []) ∷ entry "MEM_CTL2" 0x2D (part "__" 7 ∷ part "WAV_MEM_LOCK" 1 ∷ [])
    ∷ entry "POLARITY" 0x43 [] ∷ entry "FRQ_PHASE_H" 0x48 (part "DELAY_H" 8 ∷ [])
    ∷ entry "FRQ_PHASE_L" 0x49 (part "DELAY_SHIFT_L" 3 ∷ part "__" 4 ∷ part "DELAY_FREEZE" 1 ∷ [])
    ∷ entry "TRIM4" 0x60 (part "LOOP_FILT_RES_TRIM" 2 ∷ part "LOOP_FILT_CAP_TRIM" 2 ∷ part "__" 4 ∷ [])
    ∷ entry "TOP_CFG5" 0x6E (part "V2I_FACTOR_OFFSET_EN" 1 ∷ part "__" 7 ∷ []) ∷ entry "IRQ_MASK2" 0x83 (part "__" 7 ∷ part "ADC_SAT_M" 1 ∷ [])
    ∷ entry "SNP_MEM_0" 0x84 [] ∷ entry "SNP_MEM_99" 0xE7 [] ∷ []

abbrev pub registers : List Entry
registers = interrupts ++ (actuator ++ (control ++ trigger))

-- the fields that registers.rs marks `access = RO`
abbrev pub read_only : List String
read_only = "CHIP_REV_MAJOR" ∷ "CHIP_REV_MINOR" ∷ "WAV_MEM_BASE_ADDR" ∷ []

-- the register of a name; any other text has no part, and an address past every one
abbrev pub entry_in : List Entry → String → Entry
entry_in [] name = entry name 256 []
entry_in (e ∷ es) name = cond (eqt e.name name) e (entry_in es name)

abbrev pub address_of : String → ℕ
address_of name = (entry_in registers name).address

abbrev pub parts_of : String → List Part
parts_of name = (entry_in registers name).parts

-- every register's address, in the written order
abbrev pub addresses : List ℕ
addresses = map (λ e. e.address) registers

-- whether bytes are the characters of a text
abbrev pub spells : List ℕ → String → Bool
spells [] none = true
spells [] (c then s) = false
spells (b ∷ bs) none = false
spells (b ∷ bs) (c then s) = eqb b (code c) && spells bs s

-- whether a register of this name, in bytes, has this address
abbrev pub lists : List Entry → List ℕ → ℕ → Bool
lists [] bytes address = false
lists (e ∷ es) bytes address = spells bytes e.name && eqb e.address address || lists es bytes address
