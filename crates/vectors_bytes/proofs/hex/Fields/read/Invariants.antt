use Rattle.std.proofs.Common.{◌≡◌, vec_len, length}
use Rattle.vectors_bytes.proofs.hex.Fields.read.Given as goal

abbrev pub invariant-loop-text : goal.invariant-loop-text
invariant-loop-text l = vec_len l.self.ends ≡ length l.yielded
