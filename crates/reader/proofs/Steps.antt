-- What the code's answers say, and how they are told.
-- Assumes nothing.
use Rattle.std.proofs.Common.{◌≡◌, refl, sym, subst, Result, Ok, Err}
use mathlib.Core.Option.{Option, none, some}
use Rattle.errors.specs.declared.Error.{Error}
use Rattle.errors.specs.declared.Error.TheVariants.{NotAnImage}
use Rattle.reader.specs.Walk.{Tells}

module _ {M V S : Type 0} (value : M → V) (after : M → S) where
  pub tells_none : (m : Option M) {r : Result V Error} (s : S) → m ≡ none → r ≡ Err NotAnImage → Tells value after m r s
  tells_none m {r} s h e = subst (λ (n : Option M). Tells value after n r s) (sym h) e

  pub tells_some : (m : Option M) {x : M} {r : Result V Error} {s : S} → m ≡ some x → r ≡ Ok (value x) → s ≡ after x → Tells value after m r s
  tells_some m {x} {r} {s} h e d = subst (λ (n : Option M). Tells value after n r s) (sym h) (e, d)

  -- what was made has that value, and left that
  pub record Made (m : Option M) (v : V) (s : S) : Type 0 where
    pub made : M
    pub is : m ≡ some made
    pub told : value made ≡ v
    pub left : after made ≡ s

  pub tells_ok : (m : Option M) {r : Result V Error} {s : S} {v : V} → Tells value after m r s → r ≡ Ok v → Made m v s
  tells_ok none h e = cc
  tells_ok (some x) h e = record { made = x; is = refl; told = cc; left = sym h.1 }

  pub tells_err : (m : Option M) {r : Result V Error} (s : S) {e : Error} → Tells value after m r s → r ≡ Err e → (m ≡ none) × (e ≡ NotAnImage)
  tells_err none s h d = (refl, cc)
  tells_err (some x) s h d = cc
