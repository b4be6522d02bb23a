-- What a buffer holds after as many bytes as fit were copied into it: the answers to a list of calls, the register listings and the bytes of
-- an exchange, and what a function keeps for itself. An item goes into a lent buffer whole or not at all: Whole.antt.
use Rattle.std.specs.Prelude.{ℕ, ◌+◌, List, ◌++◌, length, take, drop, cond, leb}

-- as many of the bytes as fit, then the buffer's other bytes
abbrev pub copied : List ℕ → List ℕ → List ℕ
copied buffer bytes = take (length buffer) bytes ++ drop (length bytes) buffer

-- bytes laid over a list from an index on, where they fit: at + length bytes ≤ length l
abbrev pub over : List ℕ → ℕ → List ℕ → List ℕ
over l at bytes = take at l ++ bytes ++ drop (at + length bytes) l

-- all of them laid over it where they fit, or none
unfoldable pub over_or_none : List ℕ → ℕ → List ℕ → List ℕ
over_or_none l at bytes = cond (leb (at + length bytes) (length l)) (over l at bytes) l

-- as many of the bytes as fit, from an index on
abbrev pub placed : List ℕ → ℕ → List ℕ → List ℕ
placed l at bytes = take at l ++ copied (drop at l) bytes
