-- The error that `?` hands on.
-- Assumes nothing.
use Rattle.std.proofs.Common.{◌≡◌, ap, Result, Ok, Err, IsErrAnd}
use Rattle.errors.specs.declared.Error.{Error}

pub passed : {A : Type 0} (r : Result A Error) {e : Error} → IsErrAnd r (λ y. y ≡ e) → r ≡ Err e
passed (Ok a) h = absurd h
passed (Err y) h = ap Err h
