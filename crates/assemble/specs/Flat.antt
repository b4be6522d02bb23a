-- A run as the code has it: the snippet, the frame and the sequence by value, and a memory's builder that the bytes keep (Holding.antt).
-- Only private contracts cite this; proofs/Assembly.antt: it answers and leaves what Lists.antt says.
use Rattle.std.specs.Prelude.{ℕ}
use Rattle.errors.specs.Told.{Handed, refused}
use Rattle.snippet.specs.Snippet.{new_snippet, built_snippet}
use Rattle.sequence.specs.Sequence.{new_sequence, built_sequence}
use Rattle.calls.specs.Said.{Call}
use Rattle.calls.specs.declared.Builders.{Builders}
use Rattle.calls.specs.Calls.{called}
use Rattle.memory.specs.declared.WaveformMemoryBuilder.{WaveformMemoryBuilder}
use Rattle.memory.specs.Memory.{with_snippet, with_sequence}
use Rattle.pattern.specs.Calls.{with_built}
use Rattle.assemble.specs.Lists.{left_by}

-- the builders of all four kinds
pub record State : Type 0 where
  pub builders : Builders
  pub memory : WaveformMemoryBuilder

abbrev pub state : Builders → WaveformMemoryBuilder → State
state b m = record { builders = b; memory = m }

-- a snippet, a sequence that was accepted is used up
abbrev pub less_snippet : Builders → ℕ → Builders
less_snippet b n = record { snippet = left_by n new_snippet b.snippet; frame = b.frame; sequence = b.sequence }

abbrev pub less_sequence : Builders → ℕ → Builders
less_sequence b n = record { snippet = b.snippet; frame = b.frame; sequence = left_by n new_sequence b.sequence }

abbrev pub on_memory : (ℕ → Builders) → Handed WaveformMemoryBuilder → Handed State
on_memory left r = record { number = r.number; builder = state (left r.number) r.builder }

-- a call's number, and the builders after it
abbrev pub flat_called : State → Call → Handed State
flat_called s (Call.builder k) =
    record { number = (called s.builders k).number; builder = state (called s.builders k).builder s.memory }
flat_called s Call.add_snippet =
    on_memory (less_snippet s.builders) (with_built with_snippet s.memory (built_snippet s.builders.snippet))
flat_called s Call.add_sequence =
    on_memory (less_sequence s.builders) (with_built with_sequence s.memory (built_sequence s.builders.sequence))
flat_called s Call.unknown = refused 14 s
