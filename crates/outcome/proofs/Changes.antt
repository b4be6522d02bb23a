-- Where an answer may change no record, it changes none. Assumes nothing.
use Prim.Native.Nat.{ℕ, zero, suc}
use mathlib.Core.Path.{◌≡◌, refl, sym, ap}
use mathlib.Core.Bool.{Bool, true, false, cond, ◌&&◌, ◌||◌, true≢false}
use mathlib.Core.List.{List}
use lib.Dec.{eqb}
use Rattle.std.specs.Prelude.{None}
use Rattle.exchange.specs.State.{is_session, purpose_in, record_in}
use Rattle.exchange.specs.Turn.{Report}
use Rattle.da728x.specs.declared.DA728x.{DA728x}
use Rattle.da728x.specs.Record.{record_at}
use Rattle.outcome.specs.Outcome.{for_upload, counting, change_for, change_before, change_by}

-- whether an answer that ended a session of no upload may change a record at all
abbrev pub may_change : List ℕ → Bool → Bool
may_change st ended = ended && (is_session st && (eqb (purpose_in st) 1 || eqb (purpose_in st) 2))

-- where it may not, it does not
pub unchanged : (st : List ℕ) (t : Report) (r : DA728x) → is_session st && eqb (purpose_in st) for_upload ≡ false → may_change st t.ended ≡ false → None ≡ change_by st t r
unfolding change_by
unchanged st t r u e = go (is_session st) t.ended (eqb t.number 0) (purpose_in st) u e where
  next : DA728x
  next = record_at (record_in st)

  -- one that is not the last success
  before : (refused : Bool) (purpose : ℕ) → eqb purpose for_upload ≡ false → None ≡ cond refused None (change_before purpose next r)
  before true purpose f = refl
  before false purpose f = ap (λ (upload : Bool). cond upload (counting next 0 r) None) (sym f)

  last : (purpose : ℕ) → eqb purpose for_upload ≡ false → eqb purpose 1 || eqb purpose 2 ≡ false → None ≡ change_for purpose next r
  last zero u f = refl
  last (suc zero) u f = absurd (true≢false f)
  last (suc (suc zero)) u f = absurd (true≢false f)
  last (suc (suc (suc zero))) u f = refl
  last (suc (suc (suc (suc zero)))) u f = refl
  last (suc (suc (suc (suc (suc zero))))) u f = refl
  last (suc (suc (suc (suc (suc (suc zero)))))) u f = absurd (true≢false u)
  last (suc (suc (suc (suc (suc (suc (suc n))))))) u f = refl

  go : (s ended n : Bool) (purpose : ℕ) → s && eqb purpose for_upload ≡ false → ended && (s && (eqb purpose 1 || eqb purpose 2)) ≡ false →
      None ≡ cond s (cond (ended && n) (change_for purpose next r) (cond (eqb t.number 19) None (change_before purpose next r))) None
  go false ended n purpose u f = refl
  go true true true purpose u f = last purpose u f
  go true true false purpose u f = before (eqb t.number 19) purpose u
  go true false n purpose u f = before (eqb t.number 19) purpose u
