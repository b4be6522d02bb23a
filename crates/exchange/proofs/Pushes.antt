-- Pushing steps one after another to a session that was begun is beginning it with them.
-- Assumes nothing.
use Prim.Native.Nat.{ℕ, ◌+◌, ◌-◌, ◌*◌, ◌≤◌, ◌<◌}
use native.Mathlib.Omega.{arith}
use mathlib.Core.Path.{◌≡◌, refl, sym, ◌∙◌, ap}
use mathlib.Core.Bool.{Bool, true, false, cond}
use mathlib.Core.List.{List, [], ◌∷◌, ◌++◌, map, append-nil, append_assoc}
use lib.ListN.{length, replicate, length-append, replicate-append-replicate}
use lib.Seq.{append_snoc}
use borrow.Author.Tests.{eq-eqb, lt-ltb}
use Rattle.laws.specs.Copied.{over}
use Rattle.laws.proofs.Copies.{over_at}
use Rattle.laws.specs.Lists.{joined}
use Rattle.laws.proofs.Lists.{joined_append}
use Rattle.std.proofs.lemmas.List.{map-append}
use Rattle.exchange.specs.declared.Step.{Step}
use Rattle.exchange.specs.Steps.{step_bytes}
use Rattle.exchange.specs.State.{is_session, head_of, Begun, begun_bytes, begun_in, pushed, pushed_all}
use Rattle.exchange.proofs.Plan.{length_step, length_joined}
use Rattle.exchange.proofs.Begins.{size}

-- pushing some and then others is pushing them all
pub push_append : (xs ys : List Step) (st : List ℕ) → pushed_all st (xs ++ ys) ≡ pushed_all (pushed_all st xs) ys
push_append [] ys st = refl
push_append (x ∷ xs) ys st = push_append xs ys (pushed st x)

-- the zeros behind n steps, of which five go to one more
abbrev zeros : ℕ → List ℕ
zeros n = replicate (125 - 5 * n) 0

zeros_more : (n : ℕ) → n < 25 → zeros n ≡ replicate 5 0 ++ zeros (n + 1)
zeros_more n h =
    let k : 5 + (125 - 5 * (n + 1)) ≡ 125 - 5 * n = omega arith in
    sym (replicate-append-replicate {A = ℕ} 5 (125 - 5 * (n + 1)) 0 ∙ ap (λ (m : ℕ). replicate m 0) k)

-- bytes of another length take no step
push_none : (ys : List Step) (st : List ℕ) → is_session st ≡ false → pushed_all st ys ≡ st
unfolding pushed
push_none [] st s = refl
push_none (y ∷ ys) st s = rw s (push_none ys st s)

module _ (b : Begun) (image : length b.image ≡ 100) (recorded : length b.«record» ≡ 38) where
  -- what stands before the steps, where there are n
  abbrev front : ℕ → List ℕ
  front n = head_of b n ++ b.image ++ b.«record»

  -- one step more
  push_one : (xs : List Step) (x : Step) → length xs < 25 → pushed (begun_bytes b xs) x ≡ begun_bytes b (xs ++ (x ∷ []))
  unfolding pushed
  push_one xs x h =
      let n = length xs in
      let p = front (n + 1) ++ joined (map step_bytes xs) in
      let e : length p ≡ 155 + 5 * n = simp (length-append, length_joined, image, recorded) (omega arith) in
      let m : n + 1 ≡ length (xs ++ (x ∷ [])) = sym (length-append xs (x ∷ [])) in
      let k = ap (λ (z : List ℕ). over (p ++ z) (155 + 5 * n) (step_bytes x)) (zeros_more n h) in
      let o = over_at p (replicate 5 0) (zeros (n + 1)) (step_bytes x) (155 + 5 * n) e (sym (length_step x)) in
      let a = append_assoc (front (n + 1)) (joined (map step_bytes xs)) (step_bytes x) in
      let j : joined (map step_bytes xs) ++ step_bytes x ≡ joined (map step_bytes (xs ++ (x ∷ []))) = simp (map-append, joined_append, append-nil) in
      rw (eq-eqb _ _ (size b xs (omega arith) image recorded), lt-ltb _ _ h) (k ∙ o ∙ (λ t. a t ++ zeros (n + 1)) ∙ (λ t. front (m t) ++ j t ++ zeros (m t)))

  -- one after another
  push_more : (ys xs : List Step) → length (xs ++ ys) ≤ 25 → pushed_all (begun_bytes b xs) ys ≡ begun_bytes b (xs ++ ys)
  push_more [] xs h = ap (begun_bytes b) (sym (append-nil xs))
  push_more (y ∷ ys) xs h =
      let e : xs ++ (y ∷ []) ++ ys ≡ xs ++ y ∷ ys = append_snoc xs y ys in
      ap (λ (l : List ℕ). pushed_all l ys) (push_one xs y (omega (arith, length-append xs (y ∷ ys))))
      ∙ push_more ys (xs ++ (y ∷ [])) (rw e h)
      ∙ ap (begun_bytes b) e

-- also where the bytes are no session
pub pushes : (st : List ℕ) (b : Begun) (xs ys : List Step) → length b.image ≡ 100 → length b.«record» ≡ 38 → length (xs ++ ys) ≤ 25 →
    pushed_all (begun_in st b xs) ys ≡ begun_in st b (xs ++ ys)
unfolding begun_in
pushes st b xs ys image recorded h = go (is_session st) refl
  where
    go : (s : Bool) → is_session st ≡ s → pushed_all (cond s (begun_bytes b xs) st) ys ≡ cond s (begun_bytes b (xs ++ ys)) st
    go true e = push_more b image recorded ys xs h
    go false e = push_none ys st e
