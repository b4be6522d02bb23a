-- The codes of the global timebase, by the order in which waveform/memory.rs writes them; `set_timebase` sends them. A code past the last
-- counts as the last.
use Rattle.std.specs.Prelude.{ℕ, [], ◌∷◌, get_or}
use Rattle.memory.specs.declared.WaveformMemoryTimebase.{WaveformMemoryTimebase}
use Rattle.memory.specs.declared.WaveformMemoryTimebase.TheVariants.{TIMEBASE_544_2176_4352_8704, TIMEBASE_136_544_2176_4352}

abbrev pub timebase_bit : WaveformMemoryTimebase → ℕ
timebase_bit TIMEBASE_544_2176_4352_8704 = 0
timebase_bit TIMEBASE_136_544_2176_4352 = 1

abbrev pub memory_timebase_at : ℕ → WaveformMemoryTimebase
memory_timebase_at code = get_or (TIMEBASE_544_2176_4352_8704 ∷ []) code TIMEBASE_136_544_2176_4352
