use Rattle.std.proofs.Common.{◌≡◌, vec_len}
use Rattle.vectors_bytes.proofs.hex.read.Given as goal

abbrev pub invariant-loop-k : goal.invariant-loop-k
invariant-loop-k l = vec_len l.copies ≡ l.k
