-- What writes store: a part of an image over the front of a memory that is unlocked, and nothing in one that is locked. Assumes nothing.
use Rattle.std.proofs.Common.{ℕ, zero, suc, ◌+◌, ◌-◌, ◌≤◌, ◌<◌, ◌/◌, ◌%◌, max, ◌≡◌, ◌∙◌, ◌⊎◌, inl, inr, refl, sym, ap, Bool, true, false, cond, ltb, leb, eqb, List, [], ◌∷◌, ◌++◌, length, take, drop, set, replicate, arith, le-leb, leb-true, leb-false, eq-eqb, ne_eqb}
use Rattle.std.proofs.lemmas.Bool.{lt-ltb, le-ltb, lt-leb}
use Rattle.std.proofs.Math.Seq.{sets, sets-eq, take-add, take-append_seam, take-nil, take_all}
use Rattle.std.proofs.Math.ListN.{length-take, length-drop, length-append}
use Rattle.std.proofs.lemmas.List.{take-append-le, take-append-drop, take-take, drop-take}
use Rattle.std.proofs.lemmas.Slice.{drop-append-drop}
use native.Mathlib.Decide.{dec_le}
use Rattle.field.specs.Field.{flag_of, get_of, with_of}
use Rattle.sessions.specs.Sessions.{mem_ctl2}
use Rattle.exchange.specs.declared.Exchange.{Exchange}
use Rattle.exchange.specs.Steps.{exchange}
use Rattle.chip.specs.declared.Chip.{Chip}
use Rattle.chip.specs.Writes.{holding, stored, stored_all, written, reached, ByteByByte}

-- ---- an exchange

module _ (c : Chip) (a register : ℕ) (bytes : List ℕ) where
  abbrev e : Exchange
  e = exchange a (register ∷ bytes) 0

  sends : take e.len e.bytes ≡ register ∷ bytes
  sends = take-append_seam (register ∷ bytes) (replicate (33 - length (register ∷ bytes)) 0)

  -- to this chip: the first bytes behind the register
  pub part_own : (k : ℕ) → a ≡ c.address → reached k c e ≡ stored_all c register (take (k - 1) bytes)
  unfolding reached
  part_own zero h = rw (eq-eqb a c.address h) refl
  part_own (suc k) h =
      let p : k ≡ suc k - 1 = omega arith in
      rw (eq-eqb a c.address h) (ap (λ (l : List ℕ). written c (take (suc k) l)) sends ∙ ap (λ (i : ℕ). stored_all c register (take i bytes)) p)

-- to another: none
pub part_other : (c : Chip) (e : Exchange) (k : ℕ) → ¬ (e.address ≡ c.address) → reached k c e ≡ c
unfolding reached
part_other c e k h = rw (ne_eqb e.address c.address h)

-- no exchange
pub part_none : (c : Chip) (k : ℕ) → reached k c (exchange 0 [] 0) ≡ c
unfolding reached
part_none c k = ap (λ (l : List ℕ). cond (eqb 0 c.address) (written c l) c) (take-nil k) ∙ go (eqb 0 c.address) where
  go : (b : Bool) → cond b c c ≡ c
  go true = refl
  go false = refl

-- ---- the lock

pub locks : (c : Chip) (unlocked : Bool) → stored c 0x2D (mem_ctl2 unlocked) ≡ holding c c.bytes unlocked
unfolding stored mem_ctl2 flag_of get_of with_of
locks c true = refl
locks c false = refl

-- ---- the memory

-- while it is locked
shut_stays : (c : Chip) (register b : ℕ) → c.unlocked ≡ false → 132 ≤ register → stored c register b ≡ c
unfolding stored
shut_stays c register b h k = rw (ne_eqb register 0x2D (λ e. omega arith), le-leb 132 register k, h)

pub shut_all : (bytes : List ℕ) (c : Chip) (register : ℕ) → c.unlocked ≡ false → 132 ≤ register → stored_all c register bytes ≡ c
shut_all [] c register h k = refl
shut_all (b ∷ bytes) c register h k =
    ap (λ (d : Chip). stored_all d (suc register) bytes) (shut_stays c register b h k) ∙ shut_all bytes c (suc register) h (omega arith)

module _ (c : Chip) where
  -- while it is unlocked
  stores_one : (l : List ℕ) (i b : ℕ) → stored (holding c l true) (132 + i) b ≡ holding c (set l i b) true
  unfolding stored
  stores_one l i b =
      let k : 132 + i - 132 ≡ i = omega arith in
      rw (ne_eqb (132 + i) 0x2D (λ e. omega arith), le-leb 132 (132 + i) (omega arith), k)

  stores_all : (bytes l : List ℕ) (i : ℕ) → stored_all (holding c l true) (132 + i) bytes ≡ holding c (sets l i bytes) true
  stores_all [] l i = refl
  stores_all (b ∷ bytes) l i =
      let e : suc (132 + i) ≡ 132 + suc i = omega arith in
      (λ j. stored_all (stores_one l i b j) (e j) bytes) ∙ stores_all bytes (set l i b) (suc i)

-- ---- an image over the front

-- the first j bytes of an image, and behind them those of a list
abbrev pub front : List ℕ → List ℕ → ℕ → List ℕ
front image l j = take j image ++ drop j l

module _ (image l : List ℕ) (e : length image ≡ 100) (f : length l ≡ 100) where
  pub length_front : (j : ℕ) → j ≤ 100 → length (front image l j) ≡ 100
  length_front j h = simp (length-append, length-take, length-drop) (omega arith)

  -- it begins as the image does, and goes on as the list does
  pub take_front : (i j : ℕ) → i ≤ j → j ≤ 100 → take i (front image l j) ≡ take i image
  take_front i j h k = take-append-le i (take j image) (drop j l) (simp length-take (omega arith)) ∙ take-take i j image h

  pub drop_front : (i j : ℕ) → j ≤ i → j ≤ 100 → drop i (front image l j) ≡ drop i l
  drop_front i j h k = drop-append-drop j l (take j image) i h (simp length-take (omega arith))

  part_front : (i k j : ℕ) → i + k ≤ j → j ≤ 100 → take k (drop i (front image l j)) ≡ take k (drop i image)
  part_front i k j h g =
      sym (drop-take i k (front image l j)) ∙ ap (drop i) (take_front (i + k) j h g) ∙ drop-take i k image

  -- a part of the image stored once more, or for the first time
  laid_again : (i k j : ℕ) → i + k ≤ j → j ≤ 100 → sets (front image l j) i (take k (drop i image)) ≡ front image l j
  laid_again i k j h g =
      let x = front image l j in
      let p = part_front i k j h g in
      let n : i + length (take k (drop i image)) ≡ i + k = simp (length-take, length-drop) (omega arith) in
      sets-eq (take k (drop i image)) x i (simp (length-take, length-drop, length_front j g) (omega arith))
      ∙ (λ z. take i x ++ sym p z ++ drop (n z) x)
      ∙ ap (λ (r : List ℕ). r ++ drop (i + k) x) (sym (take-add i k x))
      ∙ take-append-drop (i + k) x

  laid_first : (i k j : ℕ) → i ≤ j → j ≤ i + k → i + k ≤ 100 → sets (front image l j) i (take k (drop i image)) ≡ front image l (i + k)
  laid_first i k j h g m =
      let x = front image l j in
      let n : i + length (take k (drop i image)) ≡ i + k = simp (length-take, length-drop) (omega arith) in
      sets-eq (take k (drop i image)) x i (simp (length-take, length-drop, length_front j (omega arith)) (omega arith))
      ∙ (λ z. take_front i j h (omega arith) z ++ take k (drop i image) ++ drop (n z) x)
      ∙ (λ z. sym (take-add i k image) z ++ drop_front (i + k) j g (omega arith) z)

-- an unlocked memory in which the first j bytes of an image stand
abbrev pub at : Chip → List ℕ → ℕ → Chip
at c image j = holding c (front image c.bytes j) true

-- .. and a part of the image is stored
module _ (c : Chip) (image : List ℕ) (e : length image ≡ 100) (f : length c.bytes ≡ 100) where
  pub lays : (i k j : ℕ) → i ≤ j → j ≤ 100 → i + k ≤ 100 → stored_all (at c image j) (132 + i) (take k (drop i image)) ≡ at c image (max j (i + k))
  lays i k j h g m = stores_all c (take k (drop i image)) (front image c.bytes j) i ∙ ap (λ (l : List ℕ). holding c l true) (go (dec_le (i + k) j)) where
    go : Dec (i + k ≤ j) → sets (front image c.bytes j) i (take k (drop i image)) ≡ front image c.bytes (max j (i + k))
    go (yes n) =
        let p : j ≡ max j (i + k) = omega arith in
        laid_again image c.bytes e f i k j n g ∙ ap (front image c.bytes) p
    go (no n) =
        let p : i + k ≡ max j (i + k) = omega arith in
        laid_first image c.bytes e f i k j h (omega arith) m ∙ ap (front image c.bytes) p

-- ---- single bytes

-- bit 7
bit_7 : (b : ℕ) → b < 256 → flag_of b 7 ≡ leb 128 b
unfolding flag_of get_of
bit_7 b h = go (leb 128 b) refl where
  go : (q : Bool) → leb 128 b ≡ q → ltb 0 (b / 128 % 2) ≡ q
  go true e = lt-ltb 0 (b / 128 % 2) (omega (arith, leb-true 128 b e))
  go false e = le-ltb 0 (b / 128 % 2) (omega (arith, leb-false 128 b e))

set_past : (l : List ℕ) (i b : ℕ) → length l ≤ i → set l i b ≡ l
set_past [] i b h = refl
set_past (x ∷ l) zero b h = absurd (omega arith)
set_past (x ∷ l) (suc i) b h = ap (λ (r : List ℕ). x ∷ r) (set_past l i b (omega arith))

-- at a register where nothing stands
nothing_there : (c : Chip) (register b : ℕ) → length c.bytes ≡ 100 → ¬ (register ≡ 0x2D) → (register < 132) ⊎ (231 < register) → stored c register b ≡ c
unfolding stored
nothing_there c register b e h (inl k) = rw (ne_eqb register 0x2D h, lt-leb 132 register k)
nothing_there c register b e h (inr k) = rw (ne_eqb register 0x2D h, le-leb 132 register (omega arith)) (go c.unlocked refl) where
  go : (q : Bool) → c.unlocked ≡ q → cond q (holding c (set c.bytes (register - 132) b) true) c ≡ c
  go true f = (λ i. holding c (set_past c.bytes (register - 132) b (omega arith) i) (sym f i))
  go false f = refl

-- a register alone
alone : (c : Chip) (bytes : List ℕ) → length bytes ≤ 1 → written c bytes ≡ c
alone c [] h = refl
alone c (register ∷ []) h = refl
alone c (register ∷ b ∷ bytes) h = absurd (omega arith)

read_only : (k : ℕ) (c : Chip) (e : Exchange) → e.len ≤ 1 → reached k c e ≡ c
unfolding reached
read_only k c e h = go (eqb e.address c.address) where
  go : (q : Bool) → cond q (written c (take k (take e.len e.bytes))) c ≡ c
  go true = alone c (take k (take e.len e.bytes)) (simp length-take (omega arith))
  go false = refl

all_next : (bytes : List ℕ) (c : Chip) (register b : ℕ) → stored_all c register (bytes ++ (b ∷ [])) ≡ stored (stored_all c register bytes) (register + length bytes) b
all_next [] c register b = let p : register ≡ register + 0 = omega arith in ap (λ (r : ℕ). stored c r b) p
all_next (x ∷ bytes) c register b =
    let p : suc register + length bytes ≡ register + suc (length bytes) = omega arith in
    all_next bytes (stored c register x) (suc register) b ∙ ap (λ (r : ℕ). stored (stored_all (stored c register x) (suc register) bytes) r b) p

unsent : (c : Chip) (e : Exchange) → reached 0 c e ≡ c
unfolding reached
unsent c e = go (eqb e.address c.address) where
  go : (q : Bool) → cond q c c ≡ c
  go true = refl
  go false = refl

pub stores : ByteByByte
unfolding stored
stores = record {
  lock = λ c b h. ap (holding c c.bytes) (bit_7 b h);
  unlocked = λ c i b h.
      let k : 132 + i - 132 ≡ i = omega arith in
      rw (ne_eqb (132 + i) 0x2D (λ e. omega arith), le-leb 132 (132 + i) (omega arith), k, h);
  locked = λ c i b h. shut_stays c (132 + i) b h (omega arith);
  elsewhere = nothing_there;
  nothing = λ c register. refl;
  next = λ c register b bytes. all_next bytes c register b;
  other = λ k c e h. part_other c e k h;
  none = unsent;
  parts = λ k c register bytes.
      let p : suc k - 1 ≡ k = omega arith in
      part_own c c.address register bytes (suc k) refl ∙ ap (λ (i : ℕ). stored_all c register (take i bytes)) p;
  all = λ c register bytes.
      let p : length (register ∷ bytes) - 1 ≡ length bytes = omega arith in
      part_own c c.address register bytes (length (register ∷ bytes)) refl
      ∙ ap (λ (i : ℕ). stored_all c register (take i bytes)) p
      ∙ ap (stored_all c register) (take_all (length bytes) bytes (omega arith));
  reads = read_only;
}
