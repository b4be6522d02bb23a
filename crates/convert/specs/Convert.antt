-- Settings to register values: document 01, 'Settings to registers'. "All quotients round down".
-- A byte holds 256 values: `% 256` cuts a PID word, and nothing of any other accepted setting (plans/specs/Accepted.antt).
use Rattle.std.specs.Prelude.{ℕ, ◌+◌, ◌-◌, ◌*◌, ◌/◌, ◌%◌, cond, ltb, ℤ, pos, negsuc}

-- "volts 1000 × mV / 23400"
abbrev pub voltage_byte : ℕ → ℕ
voltage_byte mV = 1000 * mV / 23400 % 256

-- "IMAX (1000 × mA − 28600) / 7200"; nothing below 28600
abbrev pub imax_code : ℕ → ℕ
imax_code mA = (1000 * mA - 28600) / 7200 % 256

-- "V2I 1000 × mOhm × (IMAX + 4) / 1610400"
abbrev pub v2i_word : ℕ → ℕ → ℕ
v2i_word mOhm imax = 1000 * mOhm * (imax + 4) / 1610400

-- "period word 10^11 / (133332 × Hz)"; below 25 Hz, which no mode takes, it is 0
abbrev pub period_word : ℕ → ℕ
period_word hz = cond (ltb hz 25) 0 (100000000000 / (133332 * hz))

-- "high part w / 128, low part w mod 128"; of a PID word bit 15 is lost
abbrev pub high_part : ℕ → ℕ
high_part w = w / 128 % 256

abbrev pub low_part : ℕ → ℕ
low_part w = w % 128

-- "a signed byte, −128..127, sent in two's complement": negsuc n is −n − 1
abbrev pub override_byte : ℤ → ℕ
override_byte (pos n) = n
override_byte (negsuc n) = 255 - n
