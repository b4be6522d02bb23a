-- However uploads are cut, one that is completed then leaves the chip as one from the start would. Assumes nothing.
use Rattle.std.proofs.Common.{ℕ, ◌+◌, ◌≤◌, ◌≡◌, ◌∙◌, ◌⊎◌, inl, inr, refl, sym, ap, subst, Bool, true, false, not, List, [], ◌∷◌, ◌++◌, map, length, take, drop, arith}
use Rattle.std.proofs.lemmas.Bool.{true≢false}
use Rattle.std.proofs.lemmas.List.{take-take, take-append-drop}
use Rattle.std.proofs.Math.ListN.{length-take}
use Rattle.laws.specs.Bytes.{All}
use Rattle.memory.specs.declared.WaveformMemory.{WaveformMemory}
use Rattle.sessions.specs.Sessions.{send_steps}
use Rattle.chip.specs.declared.Chip.{Chip}
use Rattle.chip.specs.Writes.{holding, reached}
use Rattle.exchange.specs.declared.Exchange.{Exchange}
use Rattle.exchange.specs.Turn.{pending_of}
use Rattle.exchange.specs.Session.{after_call, final}
use Rattle.chip.specs.Runs.{tried, Attempt, answered, chip_after, calls, one_by_one, OneByOne, Run, after_upload, after_uploads, AnyRun, after_run, after_runs}
use Rattle.chip.specs.Repeated.{Sized, Whole, laid, shown, Repeated, Result, Leaves}
use Rattle.chip.specs.General.{WholeRun}
use Rattle.chip.proofs.Stores.{front, at, length_front, take_front, drop_front}
use Rattle.chip.proofs.Upload.{done, Stopped}
use Rattle.chip.proofs.One.{size, One, one}

module _ (m : WaveformMemory) (lock_after : Bool) (start : Chip) (z : Sized m start) where
  abbrev image : List ℕ
  image = m.«data»

  abbrev n : ℕ
  n = size m

  -- what stays from run to run: the hundred bytes, those behind the bytes shown, and, of a memory that was unlocked at the start, that it is so or all is stored
  record Kept (d : Chip) : Type 0 where
    address : d.address ≡ start.address
    size_is : length d.bytes ≡ 100
    behind : drop n d.bytes ≡ drop n start.bytes
    lock : (start.unlocked ≡ false) ⊎ (d.unlocked ≡ true) ⊎ ((d.unlocked ≡ false) × (lock_after ≡ true) × (take n d.bytes ≡ take n image))

  first : (b : Bool) → start.unlocked ≡ b → Kept start
  first true e = record { address = refl; size_is = z.1; behind = refl; lock = inr (inl e) }
  first false e = record { address = refl; size_is = z.1; behind = refl; lock = inl e }

  next_front : (d : Chip) (j : ℕ) → j ≤ n → Kept d → Kept (at d image j)
  next_front d j h b = record {
    address = b.address;
    size_is = length_front image d.bytes z.0 b.size_is j (omega arith);
    behind = drop_front image d.bytes z.0 b.size_is n j h (omega arith) ∙ b.behind;
    lock = inr (inl refl);
  }

  next_stopped : (d e : Chip) → Stopped d image n lock_after e → Kept d → Kept e
  next_stopped d e (inl h) b = subst Kept (sym h) b
  next_stopped d e (inr (inl h)) b = subst Kept (sym h.2) (next_front d h.0 h.1 b)
  next_stopped d e (inr (inr h)) b = subst Kept (sym h.1) (record {
    address = b.address;
    size_is = length_front image d.bytes z.0 b.size_is n (omega arith);
    behind = drop_front image d.bytes z.0 b.size_is n n (omega arith) (omega arith) ∙ b.behind;
    lock = inr (inr (refl, h.0, take_front image d.bytes z.0 b.size_is n n (omega arith) (omega arith)));
  })

  next : (x : AnyRun) (d e : Chip) → (e ≡ d) ⊎ ((x.run.driver.address ≡ d.address) × Stopped d image n lock_after e) → Kept d → Kept e
  next x d e (inl h) b = subst Kept (sym h) b
  next x d e (inr h) b = next_stopped d e h.1 b

  kept : (xs : List AnyRun) (d : Chip) → Kept d → Kept (after_runs m lock_after d xs)
  kept [] d b = b
  kept (x ∷ xs) d b =
      kept xs (after_run m lock_after d x) (next x d (after_run m lock_after d x) (one m lock_after d x (z.0, b.size_is)).leaves b)

  -- from any of these chips all bytes make the same
  same_done : (d : Chip) → Kept d → done d image n lock_after ≡ done start image n lock_after
  same_done d b = λ i. record { address = b.address i; bytes = take n image ++ b.behind i; unlocked = not lock_after }

  to_end : (x : AnyRun) (d : Chip) → Kept d → WholeRun m lock_after start x → (start.unlocked ≡ true) ⊎ (x.unlocks ≡ true) →
      after_run m lock_after d x ≡ done start image n lock_after
  to_end x d b w p = go x.unlocks refl p b.lock
    where
      o : One m lock_after d x
      o = one m lock_after d x (z.0, b.size_is)

      ends : (x.unlocks ≡ true) ⊎ (d.unlocked ≡ true) → after_run m lock_after d x ≡ done start image n lock_after
      ends u = o.whole (w.0 ∙ sym b.address) w.1 u ∙ same_done d b

      go : (u : Bool) → x.unlocks ≡ u → (start.unlocked ≡ true) ⊎ (x.unlocks ≡ true) →
          (start.unlocked ≡ false) ⊎ (d.unlocked ≡ true) ⊎ ((d.unlocked ≡ false) × (lock_after ≡ true) × (take n d.bytes ≡ take n image)) →
          after_run m lock_after d x ≡ done start image n lock_after
      go true u p l = ends (inl u)
      go false u (inr q) l = absurd (true≢false (sym q ∙ u))
      go false u (inl q) (inl l) = absurd (true≢false (sym q ∙ l))
      go false u (inl q) (inr (inl l)) = ends (inr l)
      go false u (inl q) (inr (inr l)) =
          let f : d.bytes ≡ front image start.bytes n = sym (take-append-drop n d.bytes) ∙ (λ i. l.2 i ++ b.behind i) in
          o.shut u l.0 ∙ (λ i. record { address = b.address i; bytes = f i; unlocked = (l.0 ∙ ap not (sym l.1)) i })

-- ---- one after the other

-- a list and one more
one_more : {A : Type 0} (f : Chip → A → Chip) (xs : List A) (c : Chip) (x : A) → one_by_one f c (xs ++ (x ∷ [])) ≡ f (one_by_one f c xs) x
one_more f [] c x = refl
one_more f (y ∷ ys) c x = one_more f ys (f c y) x

tried_more : (ks : List ℕ) (k : ℕ) (c : Chip) (e : Exchange) → tried (ks ++ (k ∷ [])) c e ≡ reached k (tried ks c e) e
tried_more [] k c e = refl
tried_more (j ∷ ks) k c e = tried_more ks k (reached j c e) e

after_stop : (attempts : List Attempt) (c : Chip) (st : List ℕ) (ks : List ℕ) →
    chip_after c st attempts ks ≡ tried ks (chip_after c st attempts []) (pending_of (final st (calls attempts)))
after_stop [] c st ks = refl
after_stop (a ∷ more) c st ks = after_stop more (answered c st a) (after_call st a.call) ks

after_answer : (attempts : List Attempt) (c : Chip) (st : List ℕ) (a : Attempt) →
    chip_after c st (attempts ++ (a ∷ [])) [] ≡ answered (chip_after c st attempts []) (final st (calls attempts)) a
after_answer [] c st a = refl
after_answer (b ∷ more) c st a = after_answer more (answered c st b) (after_call st b.call) a

pub each : OneByOne
each = record {
  tries = tried_more;
  untried = λ c e. refl;
  begun = λ c st. refl;
  stopped = λ c st attempts ks. after_stop attempts c st ks;
  answers = λ c st attempts a. after_answer attempts c st a;
  uploads = λ m lock_after c xs x. one_more (after_upload m lock_after) xs c x;
  no_upload = λ m lock_after c. refl;
  runs = λ m lock_after c xs x. one_more (after_run m lock_after) xs c x;
  no_run = λ m lock_after c. refl;
}

pub repeats : (m : WaveformMemory) (lock_after : Bool) (c : Chip) (cut : List AnyRun) (last sole : AnyRun) → Sized m c →
    WholeRun m lock_after c last → WholeRun m lock_after c sole → (c.unlocked ≡ true) ⊎ All (λ (x : AnyRun). x.unlocks ≡ true) (sole ∷ last ∷ cut) →
    after_runs m lock_after c (cut ++ (last ∷ [])) ≡ after_run m lock_after c sole
repeats m lock_after c cut last sole z w v p =
    one_more (after_run m lock_after) cut c last
    ∙ to_end m lock_after c z last (after_runs m lock_after c cut) (kept m lock_after c z cut c (first m lock_after c z c.unlocked refl)) w (of_last p)
    ∙ sym (to_end m lock_after c z sole c (first m lock_after c z c.unlocked refl) v (of_sole p))
  where
    of_last : (c.unlocked ≡ true) ⊎ All (λ (x : AnyRun). x.unlocks ≡ true) (sole ∷ last ∷ cut) → (c.unlocked ≡ true) ⊎ (last.unlocks ≡ true)
    of_last (inl h) = inl h
    of_last (inr h) = inr h.1.0

    of_sole : (c.unlocked ≡ true) ⊎ All (λ (x : AnyRun). x.unlocks ≡ true) (sole ∷ last ∷ cut) → (c.unlocked ≡ true) ⊎ (sole.unlocks ≡ true)
    of_sole (inl h) = inl h
    of_sole (inr h) = inr h.0

-- ---- the driver's own uploads

abbrev pub unlocking : Run → AnyRun
unlocking x = record { unlocks = true; run = x }

all_unlock : (xs : List Run) → All (λ (x : AnyRun). x.unlocks ≡ true) (map unlocking xs)
all_unlock [] = tt
all_unlock (x ∷ xs) = (refl, all_unlock xs)

pub as_upload : (m : WaveformMemory) (lock_after : Bool) (c : Chip) (x : Run) → after_upload m lock_after c x ≡ after_run m lock_after c (unlocking x)
unfolding send_steps
as_upload m lock_after c x = refl

as_uploads : (m : WaveformMemory) (lock_after : Bool) (xs : List Run) (x : Run) (c : Chip) →
    after_uploads m lock_after c (xs ++ (x ∷ [])) ≡ after_runs m lock_after c (map unlocking xs ++ (unlocking x ∷ []))
as_uploads m lock_after [] x c = as_upload m lock_after c x
as_uploads m lock_after (y ∷ ys) x c =
    as_uploads m lock_after ys x (after_upload m lock_after c y) ∙ ap (λ (d : Chip). after_runs m lock_after d (map unlocking ys ++ (unlocking x ∷ []))) (as_upload m lock_after c y)

pub as_whole : (m : WaveformMemory) (lock_after : Bool) (c : Chip) (x : Run) → Whole m lock_after c x → WholeRun m lock_after c (unlocking x)
unfolding send_steps
as_whole m lock_after c x w = w

pub repeated : Repeated
repeated m lock_after c cut last sole z w v =
    as_uploads m lock_after cut last c
    ∙ repeats m lock_after c (map unlocking cut) (unlocking last) (unlocking sole) z (as_whole m lock_after c last w) (as_whole m lock_after c sole v) (inr (refl, (refl, all_unlock cut)))
    ∙ sym (as_upload m lock_after c sole)

-- the bytes that are shown, over the front
pub laid_is : (m : WaveformMemory) (c : Chip) (z : Sized m c) (j : ℕ) (u : Bool) → j ≤ size m → holding c (front m.«data» c.bytes j) u ≡ laid c m j u
laid_is m c z j u h =
    let t : take j m.«data» ≡ take j (take m.len m.«data») = sym (take-take j m.len m.«data» (omega arith)) in
    let k : j ≡ 0 + length (take j (take m.len m.«data»)) = simp length-take (omega arith) in
    λ i. holding c (t i ++ drop (k i) c.bytes) u

pub shown_is : (m : WaveformMemory) (c : Chip) → Sized m c → size m ≡ shown m
shown_is m c z = simp length-take (omega arith)

pub all_laid : (m : WaveformMemory) (c : Chip) (z : Sized m c) (u : Bool) → holding c (front m.«data» c.bytes (size m)) u ≡ laid c m (shown m) u
all_laid m c z u = laid_is m c z (size m) u (omega arith) ∙ ap (λ (j : ℕ). laid c m j u) (shown_is m c z)

pub result : Result
result m lock_after c x z w =
    let v = as_whole m lock_after c x w in
    as_upload m lock_after c x ∙ (one m lock_after c (unlocking x) z).whole v.0 v.1 (inl refl) ∙ all_laid m c z (not lock_after)

pub leaves : Leaves
leaves m lock_after c x z = go (one m lock_after c (unlocking x) z).leaves
  where
    d : Chip
    d = after_upload m lock_after c x

    Left : Type 0
    Left = ((j : ℕ) × (j ≤ shown m) × (d ≡ laid c m j true)) ⊎ ((lock_after ≡ true) × (d ≡ laid c m (shown m) false))

    stop : x.driver.address ≡ c.address → Stopped c m.«data» (size m) lock_after (after_run m lock_after c (unlocking x)) → (d ≡ c) ⊎ ((x.driver.address ≡ c.address) × Left)
    stop a (inl h) = inl (as_upload m lock_after c x ∙ h)
    stop a (inr (inl h)) = inr (a, inl (h.0, omega (arith, h.1, shown_is m c z), as_upload m lock_after c x ∙ h.2 ∙ laid_is m c z h.0 true h.1))
    stop a (inr (inr h)) = inr (a, inr (h.0, as_upload m lock_after c x ∙ h.1 ∙ all_laid m c z false))

    go : (after_run m lock_after c (unlocking x) ≡ c) ⊎ ((x.driver.address ≡ c.address) × Stopped c m.«data» (size m) lock_after (after_run m lock_after c (unlocking x))) →
        (d ≡ c) ⊎ ((x.driver.address ≡ c.address) × Left)
    go (inl h) = inl (as_upload m lock_after c x ∙ h)
    go (inr h) = stop h.0 h.1
