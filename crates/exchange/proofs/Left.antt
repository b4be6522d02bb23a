-- The steps that are left of a session, by what its bytes say. Assumes nothing.
use Prim.Native.Nat.{ℕ, suc, zero, ◌+◌, ◌-◌, ◌≤◌, ◌<◌}
use mathlib.Core.Path.{◌≡◌, refl, sym, ap, ap₂, ◌∙◌}
use mathlib.Core.Bool.{Bool, true, false, cond, ◌&&◌}
use mathlib.Core.List.{List, [], ◌∷◌}
use native.Mathlib.Omega.{arith}
use lib.Dec.{leb}
use lib.ListN.{length, drop}
use borrow.Author.Tests.{lt-ltb, le-ltb, ne_eqb}
use Rattle.exchange.specs.declared.Step.{Step}
use Rattle.exchange.specs.declared.Step.TheVariants.{Store}
use Rattle.std.specs.Prelude.{Some, None}
use Rattle.std.proofs.lemmas.Option.{none-some, same_Some}
use Rattle.exchange.specs.State.{is_unbroken, made_in, step_count, read_count, encoded_step, step_in, indexed, plan, left, completed, slot_of}

-- ---- `indexed`

-- without the first k, it starts k later
pub drop_indexed : {A : Type 0} (f : ℕ → A) (k i n : ℕ) → drop k (indexed f i n) ≡ indexed f (i + k) (n - k)
drop_indexed f zero i n = let p : i ≡ i + zero = omega arith in let q : n ≡ n - zero = omega arith in ap₂ (indexed f) p q
drop_indexed f (suc k) i zero = let q : zero ≡ zero - suc k = omega arith in ap (indexed f (i + suc k)) q
drop_indexed f (suc k) i (suc n) =
    let p : suc i + k ≡ i + suc k = omega arith in
    let q : n - k ≡ suc n - suc k = omega arith in
    drop_indexed f k (suc i) n ∙ ap₂ (indexed f) p q

-- ---- `left`

-- no step is left of one that is not open, and it is not completed
pub left_closed : (st : List ℕ) → is_unbroken st ≡ false → left st ≡ []
unfolding left
left_closed st h = ap (λ (t : Bool). cond t (drop (made_in st) (plan st)) []) h

-- nor of bytes of another length
pub left_other : (st : List ℕ) → (length st ≡ 280 → ⊥) → left st ≡ []
left_other st h = left_closed st (simp (ne_eqb _ _ h))

pub closed : (st : List ℕ) → is_unbroken st ≡ false → (left st ≡ []) × (completed st ≡ false)
unfolding completed
closed st h = (left_closed st h, ap (λ (t : Bool). t && leb (step_count st + read_count st) (made_in st)) h)

module _ (st : List ℕ) (o : is_unbroken st ≡ true) where
  -- what is left of one that is open
  left_rest : left st ≡ indexed (step_in st) (made_in st) (step_count st + read_count st - made_in st)
  unfolding left
  left_rest =
      let p : 0 + made_in st ≡ made_in st = omega arith in
      ap (λ (t : Bool). cond t (drop (made_in st) (plan st)) []) o
      ∙ drop_indexed (step_in st) (made_in st) 0 (step_count st + read_count st)
      ∙ ap (λ (i : ℕ). indexed (step_in st) i (step_count st + read_count st - made_in st)) p

  -- where all were made, none is left
  pub left_none : step_count st + read_count st ≤ made_in st → left st ≡ []
  left_none n = let p : step_count st + read_count st - made_in st ≡ zero = omega arith in left_rest ∙ ap (indexed (step_in st) (made_in st)) p

  -- else one is, and those behind it
  left_next : made_in st < step_count st + read_count st →
      left st ≡ step_in st (made_in st) ∷ indexed (step_in st) (suc (made_in st)) (step_count st + read_count st - suc (made_in st))
  left_next n =
      let p : step_count st + read_count st - made_in st ≡ suc (step_count st + read_count st - suc (made_in st)) = omega arith in
      left_rest ∙ ap (indexed (step_in st) (made_in st)) p

  -- an encoded step comes next, or a memory read
  pub slot_encoded : made_in st < step_count st → Some (encoded_step st (made_in st)) ≡ slot_of (left st)
  slot_encoded k = sym (ap slot_of (left_next (omega (arith, k))) ∙ ap (λ (t : Bool). Some (cond t (encoded_step st (made_in st)) (Store (made_in st - step_count st)))) (lt-ltb _ _ k))

  pub slot_store : step_count st ≤ made_in st → made_in st < step_count st + read_count st → Some (Store (made_in st - step_count st)) ≡ slot_of (left st)
  slot_store k n = sym (ap slot_of (left_next n) ∙ ap (λ (t : Bool). Some (cond t (encoded_step st (made_in st)) (Store (made_in st - step_count st)))) (le-ltb _ _ k))

-- ---- where a session stands

pub idle_none : (xs : List Step) → slot_of xs ≡ None → xs ≡ []
idle_none [] e = refl
idle_none (x ∷ xs) e = absurd (none-some x (sym e))

pub at_some : (xs : List Step) (x : Step) → slot_of xs ≡ Some x → xs ≡ x ∷ drop 1 xs
at_some [] x e = absurd (none-some x e)
at_some (y ∷ xs) x e = ap (λ (z : Step). z ∷ xs) (same_Some y x e)
