-- What a run of an upload keeps: the chip as it was, a front of the bytes shown, or all of them. Assumes nothing.
use Rattle.std.proofs.Common.{ℕ, zero, suc, ◌+◌, ◌-◌, ◌≤◌, min, max, ◌≡◌, ◌∙◌, ◌⊎◌, inl, inr, refl, sym, ap, subst, Bool, true, false, cond, not, ltb, List, [], ◌∷◌, ◌++◌, length, take, drop, arith, ltb-true, ltb-false}
use Rattle.std.proofs.lemmas.List.{take-take, append_assoc}
use Rattle.std.proofs.Math.Seq.{take_all, take-nil}
use Rattle.std.proofs.Math.ListN.{length-take, length-drop}
use native.Mathlib.Decide.{dec_le}
use Rattle.laws.specs.Bytes.{All}
use Rattle.exchange.specs.declared.Step.{Step}
use Rattle.exchange.specs.declared.Step.TheVariants.{Write, Chunk}
use Rattle.exchange.specs.Steps.{exchange, exchange_for, memory_address, chunk}
use Rattle.sessions.specs.Sessions.{mem_ctl2, set_unlocked, chunk_step, chunk_steps, lock_steps}
use Rattle.driver.proofs.Begun.{to_chip}
use Rattle.chip.specs.declared.Chip.{Chip}
use Rattle.chip.specs.Writes.{holding, stored, stored_all, reached, reached_all}
use Rattle.chip.proofs.Stores.{part_own, part_other, locks, shut_all, front, at, lays}
use Rattle.chip.proofs.Runs.{Keeps, Idle}

take_min : (p q : ℕ) (l : List ℕ) → take p (take q l) ≡ take (min p q) l
take_min p q l = go (dec_le p q) where
  go : Dec (p ≤ q) → take p (take q l) ≡ take (min p q) l
  go (yes h) = let e : p ≡ min p q = omega arith in take-take p q l h ∙ ap (λ (i : ℕ). take i l) e
  go (no h) =
      let e : q ≡ min p q = omega arith in
      take_all p (take q l) (simp length-take (omega arith)) ∙ ap (λ (i : ℕ). take i l) e

-- ---- the lock

module _ (d : Chip) (unlocked : Bool) (a : ℕ) (h : a ≡ d.address) where
  -- of whose byte none or one was stored
  pub lock_part : (k : ℕ) → (reached k d (exchange a (0x2D ∷ mem_ctl2 unlocked ∷ []) 0) ≡ d) ⊎ (reached k d (exchange a (0x2D ∷ mem_ctl2 unlocked ∷ []) 0) ≡ holding d d.bytes unlocked)
  lock_part k = go (k - 1) (part_own d a 0x2D (mem_ctl2 unlocked ∷ []) k h) where
    go : (i : ℕ) → reached k d (exchange a (0x2D ∷ mem_ctl2 unlocked ∷ []) 0) ≡ stored_all d 0x2D (take i (mem_ctl2 unlocked ∷ [])) →
        (reached k d (exchange a (0x2D ∷ mem_ctl2 unlocked ∷ []) 0) ≡ d) ⊎ (reached k d (exchange a (0x2D ∷ mem_ctl2 unlocked ∷ []) 0) ≡ holding d d.bytes unlocked)
    go zero e = inl e
    go (suc i) e = inr (e ∙ ap (λ (l : List ℕ). stored_all (stored d 0x2D (mem_ctl2 unlocked)) 0x2E l) (take-nil i) ∙ locks d unlocked)

  pub lock_made : reached_all d (exchange a (0x2D ∷ mem_ctl2 unlocked ∷ []) 0) ≡ holding d d.bytes unlocked
  lock_made = part_own d a 0x2D (mem_ctl2 unlocked ∷ []) 2 h ∙ locks d unlocked

-- ---- what is to be sent, where the first i of n bytes were: parts of 32 or less, and the lock if it is asked

module _ (n : ℕ) (lock_after : Bool) where
  abbrev pub Ahead : ℕ → List Step → Type 0
  Ahead i [] = (i ≡ n) × (lock_after ≡ false)
  Ahead i (Write register value ∷ xs) = (i ≡ n) × (lock_after ≡ true) × (register ≡ 0x2D) × (value ≡ mem_ctl2 false) × (xs ≡ [])
  Ahead i (Chunk offset len ∷ xs) = (offset ≡ i) × (1 ≤ len) × (len ≤ 32) × (i + len ≤ n) × Ahead (i + len) xs
  Ahead i (x ∷ xs) = ⊥

  -- a part, or none behind the end
  ahead_chunk : (i : ℕ) (xs : List Step) → Ahead (min n (i + 32)) xs → Ahead (min n i) (chunk_step n i ++ xs)
  unfolding chunk_step
  ahead_chunk i xs a = go (ltb i n) refl where
    go : (b : Bool) → ltb i n ≡ b → Ahead (min n i) (cond b (Chunk i (min 32 (n - i)) ∷ []) [] ++ xs)
    go true e =
        let h = ltb-true i n e in
        let p : i ≡ min n i = omega arith in
        let q : min n (i + 32) ≡ min n i + min 32 (n - i) = omega arith in
        (p, omega arith, omega arith, omega arith, subst (λ (j : ℕ). Ahead j xs) q a)
    go false e =
        let h = ltb-false i n e in
        let p : min n (i + 32) ≡ min n i = omega arith in
        subst (λ (j : ℕ). Ahead j xs) p a

  ahead_lock : (b : Bool) → lock_after ≡ b → Ahead n (lock_steps b)
  unfolding lock_steps
  ahead_lock true e = (refl, e, refl, refl, refl)
  ahead_lock false e = (refl, e)

  pub ahead : n ≤ 100 → Ahead 0 (chunk_steps n ++ lock_steps lock_after)
  unfolding chunk_steps
  ahead h =
      let p : n ≡ min n 128 = omega arith in
      let z : min n 0 ≡ 0 = omega arith in
      let last = lock_steps lock_after in
      let s : chunk_step n 0 ++ (chunk_step n 32 ++ (chunk_step n 64 ++ (chunk_step n 96 ++ last))) ≡ (chunk_step n 0 ++ (chunk_step n 32 ++ (chunk_step n 64 ++ chunk_step n 96))) ++ last = simp append_assoc in
      subst (Ahead 0) s (subst (λ (j : ℕ). Ahead j (chunk_step n 0 ++ (chunk_step n 32 ++ (chunk_step n 64 ++ (chunk_step n 96 ++ last))))) z
      (ahead_chunk 0 _ (ahead_chunk 32 _ (ahead_chunk 64 _ (ahead_chunk 96 last (subst (λ (j : ℕ). Ahead j last) p (ahead_lock lock_after refl)))))))

-- ---- a run on an unlocked chip, or of an upload that unlocks it

-- what holds of two chips holds of one that is either
either : (P : Chip → Type 0) (x y d : Chip) → P x → P y → (d ≡ x) ⊎ (d ≡ y) → P d
either P x y d p q (inl h) = subst P (sym h) p
either P x y d p q (inr h) = subst P (sym h) q

-- all bytes, and the lock
abbrev pub done : Chip → List ℕ → ℕ → Bool → Chip
done c image n lock_after = holding c (front image c.bytes n) (not lock_after)

-- what a run leaves, wherever it stops
abbrev pub Stopped : Chip → List ℕ → ℕ → Bool → Chip → Type 0
Stopped c image n lock_after d = (d ≡ c) ⊎ ((j : ℕ) × (j ≤ n) × (d ≡ at c image j)) ⊎ ((lock_after ≡ true) × (d ≡ holding c (front image c.bytes n) false))

module _ (c : Chip) (image : List ℕ) (e : length image ≡ 100) (f : length c.bytes ≡ 100) (n : ℕ) (small : n ≤ 100) (lock_after : Bool) where
  abbrev own : Chip → Type 0
  own d = c.address ≡ d.address

  -- the first k bytes of a part of the image, behind the register
  pub part_chunk : (i len j k last : ℕ) → i ≤ j → j ≤ n → len ≤ 32 → i + len ≤ n →
      reached k (at c image j) (exchange_for c.address last image (Chunk i len)) ≡ at c image (max j (i + min (k - 1) len))
  part_chunk i len j k last h g l m =
      let a : memory_address i ≡ 132 + i = omega arith in
      let q : min (k - 1) (min len 32) ≡ min (k - 1) len = omega arith in
      part_own (at c image j) c.address (memory_address i) (chunk image i len) k refl
      ∙ ap (stored_all (at c image j) (memory_address i)) (take_min (k - 1) (min len 32) (drop i image))
      ∙ (λ z. stored_all (at c image j) (a z) (take (q z) (drop i image)))
      ∙ lays c image e f i (min (k - 1) len) j h (omega arith) (omega arith)

  pub made_chunk : (i len j last : ℕ) → i ≤ j → j ≤ n → len ≤ 32 → i + len ≤ n →
      reached_all (at c image j) (exchange_for c.address last image (Chunk i len)) ≡ at c image (max j (i + len))
  made_chunk i len j last h g l m =
      let k : length (chunk image i len) ≡ len = simp (length-take, length-drop) (omega arith) in
      let p : max j (i + min (suc (length (chunk image i len)) - 1) len) ≡ max j (i + len) = omega (arith, k) in
      part_chunk i len j (suc (length (chunk image i len))) last h g l m ∙ ap (at c image) p

  -- the bytes are all in place, and not locked
  full : (j : ℕ) (d : Chip) → n ≤ j → j ≤ n → d ≡ at c image j → d ≡ at c image n
  full j d h g k = let p : j ≡ n = omega arith in k ∙ ap (at c image) p

  -- where a run stands: before the unlock, of which the byte may have come; with j bytes new, of which the first i were made; before the lock, of which
  -- the byte came; and at the end
  pub data Stage : List Step → Chip → Type 0 where
    waiting : (ys : List Step) (d : Chip) → Ahead n lock_after 0 ys → (d ≡ c) ⊎ (d ≡ at c image 0) → Stage (set_unlocked true ∷ ys) d
    sending : (i j : ℕ) (xs : List Step) (d : Chip) → Ahead n lock_after i xs → i ≤ j → j ≤ n → d ≡ at c image j → Stage xs d
    locking : (xs : List Step) (d : Chip) → Ahead n lock_after n xs → d ≡ done c image n lock_after → Stage xs d
    ended : (d : Chip) → d ≡ done c image n lock_after → Stage [] d

  -- the unlock
  opens : (d : Chip) → (d ≡ c) ⊎ (d ≡ at c image 0) → holding d d.bytes true ≡ at c image 0
  opens d q = either (λ (b : Chip). holding b b.bytes true ≡ at c image 0) c (at c image 0) d refl refl q

  tries_unlock : (ys : List Step) (d : Chip) (k last : ℕ) → Ahead n lock_after 0 ys → (d ≡ c) ⊎ (d ≡ at c image 0) →
      Stage (set_unlocked true ∷ ys) (reached k d (exchange_for c.address last image (set_unlocked true)))
  tries_unlock ys d k last a q = go (lock_part d true c.address (either own c (at c image 0) d refl refl q) k) where
    go : (reached k d (exchange_for c.address last image (set_unlocked true)) ≡ d)
        ⊎ (reached k d (exchange_for c.address last image (set_unlocked true)) ≡ holding d d.bytes true) → Stage (set_unlocked true ∷ ys) (reached k d (exchange_for c.address last image (set_unlocked true)))
    go (inl h) = subst (Stage (set_unlocked true ∷ ys)) (sym h) (waiting ys d a q)
    go (inr h) = waiting ys _ a (inr (h ∙ opens d q))

  -- the lock
  shuts : (d : Chip) → lock_after ≡ true → (d ≡ at c image n) ⊎ (d ≡ done c image n lock_after) → holding d d.bytes false ≡ done c image n lock_after
  shuts d b q =
      let p : holding c (front image c.bytes n) false ≡ done c image n lock_after = ap (λ (u : Bool). holding c (front image c.bytes n) (not u)) (sym b) in
      either (λ (x : Chip). holding x x.bytes false ≡ done c image n lock_after) (at c image n) (done c image n lock_after) d p p q

  module _ (register value : ℕ) (xs : List Step) (d : Chip) (last : ℕ) (a : Ahead n lock_after n (Write register value ∷ xs)) (q : (d ≡ at c image n) ⊎ (d ≡ done c image n lock_after)) where
    abbrev x : Step
    x = Write register value

    is_lock : (k : ℕ) → reached k d (exchange_for c.address last image x) ≡ reached k d (exchange c.address (0x2D ∷ mem_ctl2 false ∷ []) 0)
    is_lock k = λ i. reached k d (exchange c.address (a.2 i ∷ a.3 i ∷ []) 0)

    tries_lock : (k : ℕ) → Stage (x ∷ xs) d → Stage (x ∷ xs) (reached k d (exchange_for c.address last image x))
    tries_lock k s = go (lock_part d false c.address (either own (at c image n) (done c image n lock_after) d refl refl q) k) where
      go : (reached k d (exchange c.address (0x2D ∷ mem_ctl2 false ∷ []) 0) ≡ d) ⊎ (reached k d (exchange c.address (0x2D ∷ mem_ctl2 false ∷ []) 0) ≡ holding d d.bytes false) →
          Stage (x ∷ xs) (reached k d (exchange_for c.address last image x))
      go (inl h) = subst (Stage (x ∷ xs)) (sym (is_lock k ∙ h)) s
      go (inr h) = locking (x ∷ xs) _ a (is_lock k ∙ h ∙ shuts d a.1 q)

    makes_lock : Stage xs (reached_all d (exchange_for c.address last image x))
    makes_lock = subst (λ (l : List Step). Stage l (reached_all d (exchange_for c.address last image x))) (sym a.4) (ended _ (is_lock 2 ∙ lock_made d false c.address (either own (at c image n) (done c image n lock_after) d refl refl q) ∙ shuts d a.1 q))

  -- before the lock all bytes were made, and behind them there is no other part
  full_ahead : (i register value : ℕ) (xs : List Step) → Ahead n lock_after i (Write register value ∷ xs) → Ahead n lock_after n (Write register value ∷ xs)
  full_ahead i register value xs a = (refl, a.1, a.2, a.3, a.4)

  none_ahead : (offset len : ℕ) (xs : List Step) → Ahead n lock_after n (Chunk offset len ∷ xs) → ⊥
  none_ahead offset len xs a = omega (arith, a.1, a.3)

  tries_step : (x : Step) (xs : List Step) (d : Chip) (k last i j : ℕ) → Ahead n lock_after i (x ∷ xs) → i ≤ j → j ≤ n → d ≡ at c image j →
      Stage (x ∷ xs) (reached k d (exchange_for c.address last image x))
  tries_step (Chunk offset len) xs d k last i j a h g q =
      sending i (max j (i + min (k - 1) len)) (Chunk offset len ∷ xs) _ a (omega arith) (omega (arith, a.3))
      (ap (λ (b : Chip). reached k b (exchange_for c.address last image (Chunk offset len))) q
      ∙ ap (λ (o : ℕ). reached k (at c image j) (exchange_for c.address last image (Chunk o len))) a.0
      ∙ part_chunk i len j k last h g a.2 a.3)
  tries_step (Write register value) xs d k last i j a h g q =
      tries_lock register value xs d last (full_ahead i register value xs a) (inl (full j d (omega (arith, a.0)) g q)) k (sending i j (Write register value ∷ xs) d a h g q)
  tries_step x xs d k last i j a h g q = absurd a

  tries_full : (x : Step) (xs : List Step) (d : Chip) (k last : ℕ) → Ahead n lock_after n (x ∷ xs) → d ≡ done c image n lock_after → Stage (x ∷ xs) (reached k d (exchange_for c.address last image x))
  tries_full (Write register value) xs d k last a h = tries_lock register value xs d last a (inr h) k (locking (Write register value ∷ xs) d a h)
  tries_full (Chunk offset len) xs d k last a h = absurd (none_ahead offset len xs a)
  tries_full x xs d k last a h = absurd a

  tries : (x : Step) (xs : List Step) (d : Chip) (k last : ℕ) → Stage (x ∷ xs) d → Stage (x ∷ xs) (reached k d (exchange_for c.address last image x))
  tries x xs d k last (waiting ys b a q) = tries_unlock xs d k last a q
  tries x xs d k last (sending i j zs b a h g q) = tries_step x xs d k last i j a h g q
  tries x xs d k last (locking zs b a h) = tries_full x xs d k last a h

  makes_step : (x : Step) (xs : List Step) (d : Chip) (last i j : ℕ) → Ahead n lock_after i (x ∷ xs) → i ≤ j → j ≤ n → d ≡ at c image j →
      Stage xs (reached_all d (exchange_for c.address last image x))
  makes_step (Chunk offset len) xs d last i j a h g q =
      sending (i + len) (max j (i + len)) xs _ a.4 (omega arith) (omega (arith, a.3))
      (ap (λ (b : Chip). reached_all b (exchange_for c.address last image (Chunk offset len))) q
      ∙ ap (λ (o : ℕ). reached_all (at c image j) (exchange_for c.address last image (Chunk o len))) a.0
      ∙ made_chunk i len j last h g a.2 a.3)
  makes_step (Write register value) xs d last i j a h g q =
      makes_lock register value xs d last (full_ahead i register value xs a) (inl (full j d (omega (arith, a.0)) g q))
  makes_step x xs d last i j a h g q = absurd a

  makes_full : (x : Step) (xs : List Step) (d : Chip) (last : ℕ) → Ahead n lock_after n (x ∷ xs) → d ≡ done c image n lock_after → Stage xs (reached_all d (exchange_for c.address last image x))
  makes_full (Write register value) xs d last a h = makes_lock register value xs d last a (inr h)
  makes_full (Chunk offset len) xs d last a h = absurd (none_ahead offset len xs a)
  makes_full x xs d last a h = absurd a

  makes : (x : Step) (xs : List Step) (d : Chip) (last : ℕ) → Stage (x ∷ xs) d → Stage xs (reached_all d (exchange_for c.address last image x))
  makes x xs d last (waiting ys b a q) = sending 0 0 xs _ a (omega arith) (omega arith) (lock_made d true c.address (either own c (at c image 0) d refl refl q) ∙ opens d q)
  makes x xs d last (sending i j zs b a h g q) = makes_step x xs d last i j a h g q
  makes x xs d last (locking zs b a h) = makes_full x xs d last a h

  pub keeps : Keeps Stage c.address image
  keeps = record { tries = tries; makes = makes }

  -- what it has stored at its end, and wherever it stops
  pub at_end : (d : Chip) → Stage [] d → d ≡ done c image n lock_after
  at_end d (sending i j xs b a h g q) =
      let p : j ≡ n = omega (arith, a.0) in
      q ∙ ap (at c image) p ∙ ap (λ (u : Bool). holding c (front image c.bytes n) (not u)) (sym a.1)
  at_end d (locking xs b a h) = h
  at_end d (ended b h) = h

  done_stopped : (b : Bool) (d : Chip) → lock_after ≡ b → d ≡ done c image n lock_after → Stopped c image n lock_after d
  done_stopped true d e h = inr (inr (e, h ∙ ap (λ (u : Bool). holding c (front image c.bytes n) (not u)) e))
  done_stopped false d e h = inr (inl (n, omega arith, h ∙ ap (λ (u : Bool). holding c (front image c.bytes n) (not u)) e))

  pub stopped : (xs : List Step) (d : Chip) → Stage xs d → Stopped c image n lock_after d
  stopped xs d (waiting ys b a (inl h)) = inl h
  stopped xs d (waiting ys b a (inr h)) = inr (inl (0, omega arith, h))
  stopped xs d (sending i j ys b a h g q) = inr (inl (j, g, q))
  stopped xs d (locking ys b a h) = done_stopped lock_after d refl h
  stopped xs d (ended b h) = done_stopped lock_after d refl h

-- ---- a run that does not unlock a locked memory stores nothing

abbrev pub Harmless : Step → Type 0
Harmless (Chunk offset len) = offset ≤ 100
Harmless (Write register value) = (register ≡ 0x2D) × (value ≡ mem_ctl2 false)
Harmless x = ⊥

pub harmless : (n : ℕ) (lock_after : Bool) (i : ℕ) (xs : List Step) → n ≤ 100 → Ahead n lock_after i xs → All Harmless xs
harmless n lock_after i [] h a = tt
harmless n lock_after i (Write register value ∷ xs) h a = ((a.2, a.3), subst (All Harmless) (sym a.4) tt)
harmless n lock_after i (Chunk offset len ∷ xs) h a = (omega (arith, a.0, a.3), harmless n lock_after (i + len) xs h a.4)
harmless n lock_after i (x ∷ xs) h a = absurd a

module _ (c : Chip) (image : List ℕ) (shut : c.unlocked ≡ false) where
  pub part_shut : (x : Step) → Harmless x → Idle c c.address image x
  part_shut (Chunk offset len) h k last =
      part_own c c.address (memory_address offset) (chunk image offset len) k refl
      ∙ shut_all (take (k - 1) (chunk image offset len)) c (memory_address offset) shut (omega arith)
  part_shut (Write register value) h k last = (λ i. reached k c (exchange c.address (h.0 i ∷ h.1 i ∷ []) 0)) ∙ go (lock_part c false c.address refl k) where
    go : (reached k c (exchange c.address (0x2D ∷ mem_ctl2 false ∷ []) 0) ≡ c) ⊎ (reached k c (exchange c.address (0x2D ∷ mem_ctl2 false ∷ []) 0) ≡ holding c c.bytes false) →
        reached k c (exchange c.address (0x2D ∷ mem_ctl2 false ∷ []) 0) ≡ c
    go (inl e) = e
    go (inr e) = e ∙ ap (holding c c.bytes) (sym shut)
  part_shut x h k last = absurd h

  pub all_shut : (xs : List Step) → All Harmless xs → All (Idle c c.address image) xs
  all_shut [] h = tt
  all_shut (x ∷ xs) h = (part_shut x h.0, all_shut xs h.1)

-- ---- nor does one for another chip

pub all_spared : (c : Chip) (address : ℕ) (image : List ℕ) → ¬ (address ≡ c.address) → (xs : List Step) → All (Idle c address image) xs
all_spared c address image other [] = tt
all_spared c address image other (x ∷ xs) =
    ((λ k last. part_other c (exchange_for address last image x) k (λ h. other (sym (to_chip (x ∷ []) address last image []).0 ∙ h))), all_spared c address image other xs)
