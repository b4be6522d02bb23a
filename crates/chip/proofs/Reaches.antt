-- Each cut is reached, and an upload that nothing disturbs is completed. Assumes nothing.
use Rattle.std.proofs.Common.{ℕ, zero, suc, ◌+◌, ◌-◌, ◌≤◌, ◌<◌, min, max, ◌≡◌, ◌∙◌, refl, sym, ap, subst, Bool, true, false, cond, not, ◌&&◌, ltb, eqb, List, [], ◌∷◌, ◌++◌, length, drop, arith}
use Rattle.std.proofs.lemmas.Bool.{true≢false}
use mathlib.Core.List.{cons-ne-nil}
use native.Mathlib.Decide.{dec_le}
use Rattle.memory.specs.declared.WaveformMemory.{WaveformMemory}
use Rattle.da728x.specs.declared.DA728x.{DA728x}
use Rattle.exchange.specs.declared.Step.{Step}
use Rattle.exchange.specs.declared.Step.TheVariants.{Write, Chunk}
use Rattle.exchange.specs.declared.Reply.{Reply}
use Rattle.exchange.specs.declared.Reply.TheVariants.{Done, Failed}
use Rattle.exchange.specs.Steps.{exchange_for}
use Rattle.exchange.specs.State.{is_session, address_in, last_in, image_in, read_count, room_in, left, completed}
use Rattle.exchange.specs.Turn.{pending_for, pending_of}
use Rattle.exchange.specs.Session.{AnswerCall, fits_exchange, taken, number_at, after_call}
use Rattle.exchange.proofs.Session.{session}
use Rattle.exchange.proofs.Takes.{sends}
use Rattle.sessions.specs.Sessions.{mem_ctl2, set_unlocked, chunk_steps, lock_steps, send_steps}
use Rattle.chip.specs.declared.Chip.{Chip}
use Rattle.chip.specs.Writes.{holding, reached, reached_all}
use Rattle.chip.specs.Runs.{Attempt, answered, chip_after, uploading, AnyRun, running}
use Rattle.chip.specs.Repeated.{CutTo, Reaches}
use Rattle.chip.proofs.Stores.{part_own, front, at}
use Rattle.chip.proofs.Turns.{Told, same, gone, over, told, same_after}
use Rattle.chip.proofs.Runs.{all_done, Of, of_after}
use Rattle.chip.proofs.Upload.{Ahead, ahead, part_chunk, made_chunk, lock_made, Harmless}
use Rattle.chip.proofs.One.{size, begins}
use Rattle.chip.proofs.Repeated.{unlocking, laid_is, all_laid, shown_is}

-- ---- a session that sends, and takes done and failures

abbrev pub Sends : Step → Type 0
Sends x = (address last : ℕ) (image : List ℕ) → (exchange_for address last image x).wanted ≡ 0

pub sends_if : (x : Step) → Harmless x → Sends x
sends_if (Write register value) h = λ address last image. refl
sends_if (Chunk offset len) h = λ address last image. refl
sends_if x h = absurd h

-- with these steps left
pub record Ready (address : ℕ) (image st : List ℕ) (xs : List Step) : Type 0 where
  pub of : Of address image st
  pub steps : left st ≡ xs
  pub reads : read_count st ≡ 0

abbrev pub call : Reply → AnswerCall
call a = record { reply = a; buffer = [] }

abbrev pub done : Attempt
done = record { tries = []; call = call Done }

pub fits_done : (st : List ℕ) (x : Step) (xs : List Step) → Sends x → fits_exchange (pending_for st (x ∷ xs)) Done ≡ true
fits_done st x xs s = λ i. sends st x i && eqb (s (address_in st) (last_in st) (image_in st) i) 0

module _ {address : ℕ} {image st : List ℕ} {x : Step} {xs : List Step} (r : Ready address image st (x ∷ xs)) (s : Sends x) where
  pub takes : (a : Reply) → fits_exchange (pending_for st (x ∷ xs)) a ≡ true → taken st a 0 ≡ true
  takes a f = (λ i. fits_exchange (pending_for st (r.steps i)) a && not (ltb 0 (r.reads i) && not (eqb 0 (room_in st)))) ∙ ap (λ (b : Bool). b && true) f

  -- done is told by 0, and the next steps are left
  pub told_done : number_at st (call Done) ≡ 0
  told_done = session.done st 0 (takes Done (fits_done st x xs s))

  next_steps : (n : ℕ) (t : List ℕ) → Told st t n → n ≡ 0 → left t ≡ xs
  next_steps n t (same h) e = absurd (omega (arith, e))
  next_steps n t (gone y ys f g) e = let k : ys ≡ xs = ap (drop 1) (sym f ∙ r.steps) in g ∙ k
  next_steps n t (over m y ys f z g w) e = absurd (true≢false (sym (ap (λ (i : ℕ). eqb i 0) e) ∙ z))

  pub next : Ready address image (after_call st (call Done)) xs
  next =
      let k = same_after st (call Done) r.of.session in
      record { of = of_after address image st (call Done) r.of; steps = next_steps _ _ (told st (call Done)) told_done; reads = k.reads ∙ r.reads }

  -- a failure by 17
  told_failed : (code : ℕ) → number_at st (call (Failed code)) ≡ 17
  told_failed code = (session.fails st code 0 (takes (Failed code) (sends st x))).0

  -- with a step left it is not completed
  not_completed : (b : Bool) → completed st ≡ b → b ≡ false
  not_completed true e = absurd (cons-ne-nil x xs (sym r.steps ∙ all_done st e))
  not_completed false e = refl

  sent_as : pending_of st ≡ exchange_for address (last_in st) image x
  sent_as = (λ i. pending_for st (r.steps i)) ∙ (λ i. exchange_for (r.of.address_is i) (last_in st) (r.of.image_is i) x)

  -- the cut that is made here
  stop : (c d : Chip) (k : ℕ) → reached k c (exchange_for address (last_in st) image x) ≡ d → CutTo st c d
  stop c d k e =
      let b = reached k c (pending_of st) in
      let p : b ≡ d = ap (reached k c) sent_as ∙ e in
      record {
        attempts = [];
        clean = tt;
        part = k;
        buffer = [];
        opened = not_completed (completed st) refl;
        stopped = p;
        failed = λ code. (told_failed code, ap (λ (i : ℕ). cond (eqb i 0) (reached_all b (pending_of st)) b) (told_failed code) ∙ p);
      }

  -- or made behind this exchange
  go_on : (c b d : Chip) → reached_all c (exchange_for address (last_in st) image x) ≡ b → CutTo (after_call st (call Done)) b d → CutTo st c d
  go_on c b d e k =
      let t = after_call st (call Done) in
      let p : answered c st done ≡ b = ap (λ (i : ℕ). cond (eqb i 0) (reached_all c (pending_of st)) c) told_done ∙ ap (reached_all c) sent_as ∙ e in
      record {
        attempts = done ∷ k.attempts;
        clean = (refl, k.clean);
        part = k.part;
        buffer = k.buffer;
        opened = k.opened;
        stopped = ap (λ (a : Chip). chip_after a t k.attempts (k.part ∷ [])) p ∙ k.stopped;
        failed = λ code.
            let failure : Attempt = record { tries = k.part ∷ []; call = record { reply = Failed code; buffer = k.buffer } } in
            ((k.failed code).0, ap (λ (a : Chip). chip_after a t (k.attempts ++ (failure ∷ [])) []) p ∙ (k.failed code).1);
      }

-- ---- the bytes that a cut leaves

module _ (c : Chip) (image : List ℕ) (e : length image ≡ 100) (f : length c.bytes ≡ 100) (n : ℕ) (small : n ≤ 100) (lock_after : Bool) where
  -- a part of the image: made, it is all new
  part_done : (st : List ℕ) (offset len i last : ℕ) (xs : List Step) → Ahead n lock_after i (Chunk offset len ∷ xs) →
      reached_all (at c image i) (exchange_for c.address last image (Chunk offset len)) ≡ at c image (i + len)
  part_done st offset len i last xs a =
      let p : max i (i + len) ≡ i + len = omega arith in
      ap (λ (o : ℕ). reached_all (at c image i) (exchange_for c.address last image (Chunk o len))) a.0
      ∙ made_chunk c image e f n small lock_after i len i last (omega arith) (omega (arith, a.3)) a.2 a.3
      ∙ ap (at c image) p

  -- behind the first i bytes, the first j: in this part, or behind it
  in_part : (st : List ℕ) (offset len i j : ℕ) (xs : List Step) → Ready c.address image st (Chunk offset len ∷ xs) → Ahead n lock_after i (Chunk offset len ∷ xs) → i < j → j ≤ n →
      (i + len < j → CutTo (after_call st (call Done)) (at c image (i + len)) (at c image j)) → CutTo st (at c image i) (at c image j)
  in_part st offset len i j xs r a h g next_part = go (dec_le j (i + len)) where
    go : Dec (j ≤ i + len) → CutTo st (at c image i) (at c image j)
    go (yes k) =
        let p : max i (i + min (suc (j - i) - 1) len) ≡ j = omega arith in
        stop r (λ address last image. refl) (at c image i) (at c image j) (suc (j - i))
        (ap (λ (o : ℕ). reached (suc (j - i)) (at c image i) (exchange_for c.address (last_in st) image (Chunk o len))) a.0
        ∙ part_chunk c image e f n small lock_after i len i (suc (j - i)) (last_in st) (omega arith) (omega (arith, a.3)) a.2 a.3
        ∙ ap (at c image) p)
    go (no k) = go_on r (λ address last image. refl) (at c image i) (at c image (i + len)) (at c image j) (part_done st offset len i (last_in st) xs a) (next_part (omega arith))

  to_front : (xs : List Step) (st : List ℕ) (i j : ℕ) → Ready c.address image st xs → Ahead n lock_after i xs → i < j → j ≤ n → CutTo st (at c image i) (at c image j)
  to_front [] st i j r a h g = absurd (omega (arith, a.0))
  to_front (Write register value ∷ xs) st i j r a h g = absurd (omega (arith, a.0))
  to_front (Chunk offset len ∷ xs) st i j r a h g =
      in_part st offset len i j xs r a h g (λ k. to_front xs (after_call st (call Done)) (i + len) j (next r (λ address last image. refl)) a.4 k g)
  to_front (x ∷ xs) st i j r a h g = absurd a

  -- all of them, and the lock
  to_lock : (xs : List Step) (st : List ℕ) (i : ℕ) → lock_after ≡ true → Ready c.address image st xs → Ahead n lock_after i xs →
      CutTo st (at c image i) (holding c (front image c.bytes n) false)
  to_lock [] st i b r a = absurd (true≢false (sym b ∙ a.1))
  to_lock (Write register value ∷ xs) st i b r a =
      stop r (λ address last image. refl) (at c image i) (holding c (front image c.bytes n) false) 2
      ((λ z. reached 2 (at c image (a.0 z)) (exchange_for c.address (last_in st) image (Write (a.2 z) (a.3 z))))
      ∙ lock_made (at c image n) false c.address refl)
  to_lock (Chunk offset len ∷ xs) st i b r a =
      go_on r (λ address last image. refl) (at c image i) (at c image (i + len)) (holding c (front image c.bytes n) false) (part_done st offset len i (last_in st) xs a)
      (to_lock xs (after_call st (call Done)) (i + len) b (next r (λ address last image. refl)) a.4)
  to_lock (x ∷ xs) st i b r a = absurd a

-- ---- an upload

module _ (m : WaveformMemory) (lock_after : Bool) (r : DA728x) (session_bytes : List ℕ) (e : length m.«data» ≡ 100) (s : is_session session_bytes ≡ true) where
  abbrev x : AnyRun
  x = unlocking (record { driver = r; session = session_bytes; attempts = []; last_tries = [] })

  abbrev tail : List Step
  tail = chunk_steps (size m) ++ lock_steps lock_after

  small : size m ≤ 100
  small = omega arith

  ready : Ready r.address m.«data» (running m lock_after x) (set_unlocked true ∷ tail)
  ready = let b = begins m lock_after x e s in record { of = b.of; steps = b.steps; reads = b.reads }

  module _ (c : Chip) (f : length c.bytes ≡ 100) (h : r.address ≡ c.address) where
    here : Ready c.address m.«data» (running m lock_after x) (set_unlocked true ∷ tail)
    here = subst (λ (a : ℕ). Ready a m.«data» (running m lock_after x) (set_unlocked true ∷ tail)) h ready

    ready_tail : Ready c.address m.«data» (after_call (running m lock_after x) (call Done)) tail
    ready_tail = next here (λ address last image. refl)

    -- before the unlock, or behind it
    pub cut_none : CutTo (running m lock_after x) c c
    cut_none = stop here (λ address last image. refl) c c 1 (part_own c c.address 0x2D (mem_ctl2 true ∷ []) 1 refl)

    behind : (d : Chip) → CutTo (after_call (running m lock_after x) (call Done)) (at c m.«data» 0) d → CutTo (running m lock_after x) c d
    behind d = go_on here (λ address last image. refl) c (at c m.«data» 0) d (lock_made c true c.address refl)

    pub cut_front : (j : ℕ) → j ≤ size m → CutTo (running m lock_after x) c (at c m.«data» j)
    cut_front zero g = stop here (λ address last image. refl) c (at c m.«data» 0) 2 (lock_made c true c.address refl)
    cut_front (suc j) g = behind _ (to_front c m.«data» e f (size m) small lock_after tail _ 0 (suc j) ready_tail (ahead (size m) lock_after small) (omega arith) g)

    pub cut_lock : lock_after ≡ true → CutTo (running m lock_after x) c (holding c (front m.«data» c.bytes (size m)) false)
    cut_lock b = behind _ (to_lock c m.«data» e f (size m) small lock_after tail _ 0 b ready_tail (ahead (size m) lock_after small))

pub reaches : Reaches
unfolding send_steps
reaches = record {
  unchanged = λ m lock_after c r st z h s. cut_none m lock_after r st z.0 s c z.1 h;
  front = λ m lock_after c r st j z h s g.
      let k : j ≤ size m = omega (arith, g, shown_is m c z) in
      subst (CutTo (uploading m lock_after r st) c) (laid_is m c z j true k) (cut_front m lock_after r st z.0 s c z.1 h j k);
  locked = λ m c r st z h s. subst (CutTo (uploading m true r st) c) (all_laid m c z false) (cut_lock m true r st z.0 s c z.1 h refl);
}
