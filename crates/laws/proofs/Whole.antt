-- A whole item into a lent buffer, or nothing: by the test for its length.
-- Assumes nothing.
use mathlib.Core.Path.{◌≡◌, refl, sym, ap, ◌∙◌}
use mathlib.Core.Bool.{Bool, true, false, cond}
use mathlib.Core.List.{List, ◌++◌}
use Prim.Native.Nat.{ℕ}
use native.Mathlib.Omega.{arith}
use borrow.Author.Tests.{lt-ltb, le-ltb}
use lib.Dec.{ltb}
use lib.ListN.{length, take, drop}
use lib.Seq.{take_at}
use Rattle.errors.specs.Told.{Told, gives, refuses, on_told, told_number}
use Rattle.laws.specs.Whole.{whole, whole_out, length_of, WholeOrNothing}

-- a length tells the same number
pub length_number : (t : Told (List ℕ)) → told_number (length_of t) ≡ told_number t
length_number (gives bytes) = refl
length_number (refuses number) = refl

-- ---- the claim

-- a value is no refusal
apart : {A X : Type 0} {a : A} {number : ℕ} → refuses number ≡ gives a → X
apart e = absurd (omega (arith, ap {B = ℕ} (λ t. on_told t (λ a. 0) (λ n. 1)) e))

module _ (buffer : List ℕ) where
  abbrev out : Told (List ℕ) → List ℕ
  out t = on_told t (λ bytes. bytes ++ drop (length bytes) buffer) (λ number. buffer)

  -- by what `whole` is
  told : (item t : Told (List ℕ)) → whole buffer item ≡ t
      → (length_of (whole buffer item) ≡ length_of t) × (told_number (whole buffer item) ≡ told_number t) × (whole_out buffer item ≡ out t)
  told item t e = (ap length_of e, ap told_number e, ap out e)

  answered : (item : Told (List ℕ)) (n : ℕ) → length_of (whole buffer item) ≡ gives n → item ≡ gives (take n (whole_out buffer item))
  answered (refuses number) n e = apart e
  answered (gives bytes) n e = go (ltb (length buffer) (length bytes)) e where
    go : (t : Bool) → let w = cond t (refuses 24) (gives bytes) in length_of w ≡ gives n → gives bytes ≡ gives (take n (out w))
    go true e = apart e
    go false e = ap gives (sym (take_at bytes (drop (length bytes) buffer) n (ap (λ t. on_told t (λ a. a) (λ m. m)) e)))

  pub whole_or_nothing : (item : Told (List ℕ)) → WholeOrNothing buffer item
  whole_or_nothing item =
      record {
        given = λ bytes e h. told item (gives bytes) (ap (whole buffer) e ∙ simp (le-ltb (length buffer) (length bytes) h));
        short = λ bytes e h. told item (refuses 24) (ap (whole buffer) e ∙ simp (lt-ltb (length buffer) (length bytes) h));
        own = λ number e. told item (refuses number) (ap (whole buffer) e);
        answered = answered item;
      }
