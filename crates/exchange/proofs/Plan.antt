-- The steps of a session are those that its bytes hold, and the memory reads behind them.
-- Assumes nothing.
use Prim.Native.Nat.{ℕ, suc, zero, ◌+◌, ◌-◌, ◌*◌, ◌<◌}
use native.Mathlib.Omega.{arith}
use native.Mathlib.Nat.{add-zero, zero-add}
use mathlib.Core.Path.{◌≡◌, refl, sym, ◌∙◌, ap}
use mathlib.Core.Bool.{Bool, cond}
use mathlib.Core.List.{List, [], ◌∷◌, ◌++◌, map, append_assoc}
use lib.ListN.{length, drop, length-append}
use lib.Seq.{drop_at, get_or-drop}
use borrow.Author.Tests.{lt-ltb, le-ltb}
use Rattle.laws.specs.Lists.{joined, at}
use Rattle.exchange.specs.declared.Step.{Step}
use Rattle.exchange.specs.declared.Step.TheVariants.{Write, Read, Update, Match, Chunk, Store}
use Rattle.exchange.specs.Steps.{step_of, step_bytes}
use Rattle.exchange.specs.State.{step_count, read_count, encoded_step, step_in, indexed, plan}

-- ---- numbered steps

-- f from i on is g from k on, where they agree
indexed_same : {A : Type 0} (f g : ℕ → A) (i k n : ℕ) → ((j : ℕ) → j < n → f (i + j) ≡ g (k + j)) → indexed f i n ≡ indexed g k n
indexed_same f g i k zero h = refl
indexed_same f g i k (suc n) h =
    let p : f i ≡ g k = simp add-zero at (h 0 (omega arith)) in
    let q = indexed_same f g (suc i) (suc k) n later in
    λ t. p t ∷ q t
  where
    later : (j : ℕ) → j < n → f (suc i + j) ≡ g (suc k + j)
    later j l =
        let a : suc i + j ≡ i + suc j = omega arith in
        let b : suc k + j ≡ k + suc j = omega arith in
        rw (a, b) (h (suc j) (omega arith))

-- the first n, and m behind them
indexed_append : {A : Type 0} (f : ℕ → A) (i n m : ℕ) → indexed f i (n + m) ≡ indexed f i n ++ indexed f (i + n) m
indexed_append f i zero m = rw (zero-add, add-zero)
indexed_append f i (suc n) m =
    let a : suc n + m ≡ suc (n + m) = omega arith in
    let b : i + suc n ≡ suc i + n = omega arith in
    rw (a, b) (ap (λ (l : List _). f i ∷ l) (indexed_append f (suc i) n m))

-- n are n
pub length_indexed : {A : Type 0} (f : ℕ → A) (i n : ℕ) → length (indexed f i n) ≡ n
length_indexed f i zero = refl
length_indexed f i (suc n) = ap suc (length_indexed f (suc i) n)

-- ---- steps in bytes

-- the step that the i-th five bytes are
abbrev pub step_at : List ℕ → ℕ → Step
step_at l i = step_of (at l (5 * i)) (at l (1 + 5 * i)) (at l (2 + 5 * i)) (at l (3 + 5 * i)) (at l (4 + 5 * i))

-- five bytes of a list are five bytes of the list's end from n on
step_drop : (l : List ℕ) (n i a b c d e : ℕ) → a ≡ n + 5 * i → b ≡ n + (1 + 5 * i) → c ≡ n + (2 + 5 * i) → d ≡ n + (3 + 5 * i) → e ≡ n + (4 + 5 * i) →
    step_of (at l a) (at l b) (at l c) (at l d) (at l e) ≡ step_at (drop n l) i
step_drop l n i a b c d e p q r s t = simp (get_or-drop, p, q, r, s, t)

-- the first five bytes of a step's bytes and others are the step
step_first : (x : Step) (l : List ℕ) → step_at (step_bytes x ++ l) 0 ≡ x
step_first (Write r v) l = refl
step_first (Read r) l = refl
step_first (Update r s w v) l = refl
step_first (Match r v) l = refl
step_first (Chunk i n) l = refl
step_first (Store i) l = refl

-- a step is five bytes
pub length_step : (x : Step) → length (step_bytes x) ≡ 5
length_step (Write r v) = refl
length_step (Read r) = refl
length_step (Update r s w v) = refl
length_step (Match r v) = refl
length_step (Chunk i n) = refl
length_step (Store i) = refl

pub length_joined : (xs : List Step) → length (joined (map step_bytes xs)) ≡ 5 * length xs
length_joined [] = refl
length_joined (x ∷ xs) = simp (length-append, length_step, length_joined xs) (omega arith)

-- the five bytes behind them are those of the others
step_later : (x : Step) (l : List ℕ) (i : ℕ) → step_at (step_bytes x ++ l) (1 + i) ≡ step_at l i
step_later x l i =
    step_drop (step_bytes x ++ l) 5 i _ _ _ _ _ (omega arith) (omega arith) (omega arith) (omega arith) (omega arith)
    ∙ ap (λ (m : List ℕ). step_at m i) (drop_at (step_bytes x) l 5 (length_step x))

-- the bytes of steps hold the steps
pub joined_steps : (xs : List Step) (l : List ℕ) → indexed (step_at (joined (map step_bytes xs) ++ l)) 0 (length xs) ≡ xs
joined_steps [] l = refl
joined_steps (x ∷ xs) l =
    let m = joined (map step_bytes xs) ++ l in
    let p = indexed_same (step_at (step_bytes x ++ m)) (step_at m) 1 0 (length xs) (λ j h. step_later x m j ∙ ap (step_at m) (sym (zero-add j))) in
    let q = p ∙ joined_steps xs l in
    ap (λ (k : List ℕ). indexed (step_at k) 0 (suc (length xs))) (append_assoc (step_bytes x) (joined (map step_bytes xs)) l)
    ∙ (λ t. step_first x m t ∷ q t)

-- ---- the steps of a session

module _ (st : List ℕ) where
  -- a step that is encoded
  encoded : (i : ℕ) → i < step_count st → step_in st i ≡ step_at (drop 155 st) i
  encoded i h =
      ap (λ (b : Bool). cond b (encoded_step st i) (Store (i - step_count st))) (lt-ltb i (step_count st) h)
      ∙ step_drop st 155 i _ _ _ _ _ (omega arith) (omega arith) (omega arith) (omega arith) (omega arith)

  -- a memory read behind them
  behind : (i : ℕ) → step_in st (step_count st + i) ≡ Store i
  behind i =
      let n = step_count st in
      let k : n + i - n ≡ i = omega arith in
      ap (λ (b : Bool). cond b (encoded_step st (n + i)) (Store (n + i - n))) (le-ltb (n + i) n (omega arith)) ∙ ap Store k

  -- the plan is the one, and then the other
  pub plan_parts : plan st ≡ indexed (step_at (drop 155 st)) 0 (step_count st) ++ indexed Store 0 (read_count st)
  plan_parts =
      let n = step_count st in
      let m = read_count st in
      let p = indexed_same (step_in st) (step_at (drop 155 st)) 0 0 n (λ j h. encoded (0 + j) (omega arith)) in
      let q = indexed_same (step_in st) Store (0 + n) 0 m (λ j h. ap (λ (k : ℕ). step_in st (k + j)) (zero-add n) ∙ behind j ∙ ap Store (sym (zero-add j))) in
      indexed_append (step_in st) 0 n m ∙ (λ t. p t ++ q t)
