-- The parts of an image, from the first offset that is left on. Assumes nothing.
use Prim.Native.Nat.{ℕ}
use mathlib.Core.Path.{◌≡◌}
use mathlib.Core.List.{List, [], ◌∷◌, ◌++◌, append-nil}
use Rattle.exchange.specs.declared.Step.{Step}
use Rattle.sessions.specs.Sessions.{chunk_step, chunk_steps}

abbrev pub chunks_at : ℕ → List ℕ → List Step
chunks_at n [] = []
chunks_at n (offset ∷ offsets) = chunk_step n offset ++ chunks_at n offsets

pub all_chunks : (n : ℕ) → chunks_at n (0 ∷ 32 ∷ 64 ∷ 96 ∷ []) ≡ chunk_steps n
unfolding chunk_steps
all_chunks n = simp append-nil
