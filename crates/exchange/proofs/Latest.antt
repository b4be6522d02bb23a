-- The bytes read last that a session shows, and how many bytes exchanges want. Assumes nothing.
use Prim.Native.Nat.{ℕ, ◌+◌}
use mathlib.Core.Bool.{cond}
use mathlib.Core.List.{List, [], ◌∷◌}
use Rattle.laws.specs.Lists.{at}
use Rattle.exchange.specs.declared.Exchange.{Exchange}
use Rattle.exchange.specs.State.{is_session}

-- the latest first
abbrev pub bytes_read : List ℕ → List ℕ
bytes_read st = cond (is_session st) (at st 3 ∷ at st 4 ∷ at st 5 ∷ []) (0 ∷ 0 ∷ 0 ∷ [])

abbrev pub bytes_wanted : List Exchange → ℕ
bytes_wanted [] = 0
bytes_wanted (e ∷ es) = e.wanted + bytes_wanted es
