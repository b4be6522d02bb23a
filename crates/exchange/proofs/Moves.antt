-- What an exchange taken back does to a session: one step less is left, or none.
-- Assumes nothing.
use Prim.Native.Nat.{ℕ, ◌+◌, ◌<◌, min, ◌*◌}
use native.Mathlib.Omega.{arith}
use mathlib.Core.Path.{◌≡◌, refl, sym, ◌∙◌, ap}
use mathlib.Core.Bool.{Bool, true, false, cond, ◌&&◌}
use mathlib.Core.List.{List, [], ◌∷◌, ◌++◌, cons-ne-nil}
use lib.Dec.{ltb, eqb}
use lib.ListN.{length, take, drop, length-drop}
use lib.Seq.{get_or-drop, drop-drop}
use borrow.Author.Tests.{eq-eqb, eqb-true}
use Rattle.laws.specs.Copied.{over}
use Rattle.laws.specs.Lists.{at}
use Rattle.exchange.specs.declared.Step.{Step}
use Rattle.exchange.specs.declared.Step.TheVariants.{Store}
use Rattle.exchange.specs.State.{is_session, is_unbroken, address_in, made_in, count_in, room_in, step_count, read_count, purpose_in, image_in, record_in, step_in, indexed, plan, left}
use Rattle.exchange.specs.Turn.{going, Effect, moved}
use Rattle.exchange.proofs.Latest.{bytes_read}
use Rattle.exchange.proofs.Left.{left_closed}
use Rattle.exchange.proofs.Plan.{length_indexed, step_at, plan_parts}

-- ---- states that differ before byte 6 only

module _ (s t : List ℕ) (e : drop 6 s ≡ drop 6 t) where
  -- the bytes from there on, one by one, the image, the record and the plan are the same
  later_same : (n : ℕ) → drop (6 + n) s ≡ drop (6 + n) t
  later_same n = sym (drop-drop n 6 s) ∙ ap (drop n) e ∙ drop-drop n 6 t

  at_same : (n : ℕ) → at s (6 + n) ≡ at t (6 + n)
  at_same n = sym (get_or-drop 6 s n 0) ∙ ap (λ (l : List ℕ). at l n) e ∙ get_or-drop 6 t n 0

  image_same : image_in s ≡ image_in t
  image_same = ap (take 100) (later_same 11)

  record_same : record_in s ≡ record_in t
  record_same = ap (take 38) (later_same 111)

  plan_same : plan s ≡ plan t
  plan_same =
      plan_parts s
      ∙ (λ j. indexed (step_at (later_same 149 j)) 0 (min (at_same 0 j) 25) ++ indexed Store 0 (min (at_same 1 j) 100))
      ∙ sym (plan_parts t)

-- ---- a state after a move

-- the last three bytes read, with those that came, are three
abbrev pub latest : List ℕ → List ℕ → List ℕ
latest st came = take 3 (came ++ (at st 3 ∷ at st 4 ∷ at st 5 ∷ []))

three : (st came : List ℕ) → latest st came ≡ at (latest st came) 0 ∷ at (latest st came) 1 ∷ at (latest st came) 2 ∷ []
three st [] = refl
three st (a ∷ []) = refl
three st (a ∷ b ∷ []) = refl
three st (a ∷ b ∷ c ∷ l) = refl

-- byte by byte
moved_bytes : (st : List ℕ) (w m x y z : ℕ) → length st ≡ 280 → over st 1 (w ∷ m ∷ x ∷ y ∷ z ∷ []) ≡ at st 0 ∷ w ∷ m ∷ x ∷ y ∷ z ∷ drop 6 st
moved_bytes [] w m x y z e = absurd (omega (arith, e))
moved_bytes (a ∷ st) w m x y z e = refl

-- what stays, and what is another
pub record Moved (st t : List ℕ) (w : ℕ) (came : List ℕ) : Type 0 where
  pub address : address_in t ≡ address_in st
  pub stage : at t 1 ≡ w
  pub last : at t 3 ≡ at (latest st came) 0
  pub shows : bytes_read t ≡ latest st came
  pub image : image_in t ≡ image_in st
  pub purpose : purpose_in t ≡ purpose_in st
  pub «record» : record_in t ≡ record_in st
  pub session : is_session t ≡ true
  pub room : room_in t ≡ room_in st
  pub made : made_in t ≡ made_in st + 1
  pub reads : read_count t ≡ read_count st
  pub steps : plan t ≡ plan st

-- a move does that
pub moves : (st : List ℕ) (w : ℕ) (came : List ℕ) → is_session st ≡ true → Moved st (moved st w came) w came
moves st w came s =
    let e : length st ≡ 280 = eqb-true _ _ s in
    let t = moved st w came in
    let l = three st came in
    let m = ap (λ (k : List ℕ). over st 1 (w ∷ (made_in st + 1) ∷ k)) l ∙ moved_bytes st w (made_in st + 1) _ _ _ e in
    let d : drop 6 t ≡ drop 6 st = ap (drop 6) m in
    let n : length t ≡ 280 = ap length m ∙ simp length-drop (omega arith) in
    let h : is_session t ≡ true = eq-eqb _ _ n in
    let k : made_in t ≡ made_in st + 1 = ap made_in m in
    record {
      address = ap address_in m;
      stage = ap (λ (l : List ℕ). at l 1) m;
      last = ap (λ (l : List ℕ). at l 3) m;
      shows = rw h ((λ j. at (m j) 3 ∷ at (m j) 4 ∷ at (m j) 5 ∷ []) ∙ sym l);
      image = image_same t st d;
      purpose = at_same t st d 10;
      «record» = record_same t st d;
      session = h;
      room =
          let a = at_same t st d in
          λ i. a 2 i + 256 * a 3 i + 65536 * a 4 i + 16777216 * a 5 i + 4294967296 * (a 6 i + 256 * a 7 i + 65536 * a 8 i + 16777216 * a 9 i);
      made = k;
      reads = ap (λ (n : ℕ). min n 100) (at_same t st d 1);
      steps = plan_same t st d;
    }

-- the state after an answer that does this
abbrev pub state_by : List ℕ → Effect → List ℕ
state_by st e = cond e.counts (moved st e.stage e.came) st

-- of a session that was begun it is counted
pub counts_more : (st t : List ℕ) (w : ℕ) (came : List ℕ) → Moved st t w came → is_session st ≡ true → at st 1 ≡ 1 → ltb 0 w ≡ true → count_in t ≡ count_in st + 1
counts_more st t w came m s h k = rw (m.session, m.stage, k, s, h) m.made

-- ---- the steps left

-- one more dropped
tail_of : {A : Type 0} (l : List A) (n : ℕ) (x : A) (xs : List A) → drop n l ≡ x ∷ xs → drop (n + 1) l ≡ xs
tail_of l n x xs e = sym (drop-drop 1 n l) ∙ ap (drop 1) e

-- a session with a step left is open, and has the steps
pub record Going (st : List ℕ) (l : List Step) : Type 0 where
  pub session : is_session st ≡ true
  pub stage : at st 1 ≡ 1
  pub steps : drop (made_in st) (plan st) ≡ l

pub left_going : (st : List ℕ) (x : Step) (xs : List Step) → left st ≡ x ∷ xs → Going st (x ∷ xs)
unfolding left
left_going st x xs e = go (is_session st) (eqb (at st 1) 1) refl refl e
  where
    go : (s b : Bool) → is_session st ≡ s → eqb (at st 1) 1 ≡ b → cond (s && b) (drop (made_in st) (plan st)) [] ≡ x ∷ xs → Going st (x ∷ xs)
    go false b p q e = absurd (cons-ne-nil _ _ (sym e))
    go true false p q e = absurd (cons-ne-nil _ _ (sym e))
    go true true p q e = record { session = p; stage = eqb-true _ _ q; steps = e }

-- and the other way
pub going_open : (st : List ℕ) (l : List Step) → Going st l → is_unbroken st ≡ true
going_open st l g = rw (g.session, g.stage)

pub going_left : (st : List ℕ) (l : List Step) → Going st l → left st ≡ l
unfolding left
going_left st l g = rw (g.session, g.stage) g.steps

-- a list that has something behind its first m is longer
longer : {A : Type 0} (l : List A) (m : ℕ) (x : A) (xs : List A) → drop m l ≡ x ∷ xs → m < length l
longer l m x xs e = omega (arith, simp length-drop at (ap length e))

-- a session with a step left has its size, and can count one more
pub left_counts : (st : List ℕ) (x : Step) (xs : List Step) → left st ≡ x ∷ xs → going st
left_counts st x xs e =
    let g = left_going st x xs e in
    let h = longer (plan st) (made_in st) x xs g.steps in
    (eqb-true _ _ g.session, omega (arith, length_indexed (step_in st) 0 (step_count st + read_count st)))

module _ (st : List ℕ) (x : Step) (xs : List Step) (e : left st ≡ x ∷ xs) (came : List ℕ) where
  -- a move goes on to the next step
  pub goes_on : Going (moved st 1 came) xs
  goes_on =
      let g = left_going st x xs e in
      let m = moves st 1 came g.session in
      record {
        session = m.session;
        stage = m.stage;
        steps = (λ j. drop (m.made j) (m.steps j)) ∙ tail_of (plan st) (made_in st) x xs g.steps;
      }

  pub left_moved : left (moved st 1 came) ≡ xs
  left_moved = going_left (moved st 1 came) xs goes_on

  -- or breaks the session off
  pub breaks_off : is_unbroken (moved st 2 came) ≡ false
  breaks_off = let m = moves st 2 came (left_going st x xs e).session in rw (m.session, m.stage)

  pub left_broken : left (moved st 2 came) ≡ []
  left_broken = left_closed (moved st 2 came) breaks_off
