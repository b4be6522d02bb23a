-- A run of calls as the code has it. Assumes nothing.
use Prim.Native.Nat.{ℕ}
use mathlib.Core.Bool.{false}
use mathlib.Core.List.{List, [], ◌∷◌}
use Rattle.calls.specs.Said.{Call}
use Rattle.calls.specs.Calls.{started}
use Rattle.memory.specs.Memory.{new_memory}
use Rattle.assemble.specs.Flat.{State, state, flat_called}

abbrev pub nothing_yet : State
nothing_yet = state started (new_memory false)

unfoldable pub flat_after : State → List Call → State
flat_after s [] = s
flat_after s (k ∷ ks) = flat_after (flat_called s k).builder ks

unfoldable pub flat_answers : State → List Call → List ℕ
flat_answers s [] = []
flat_answers s (k ∷ ks) = (flat_called s k).number ∷ flat_answers (flat_called s k).builder ks
