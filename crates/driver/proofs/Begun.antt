-- What a session holds that an operation began, and what follows for every list of answers. Assumes nothing.
use Prim.Native.Nat.{ℕ, suc, zero, ◌^◌, ◌≤◌, ◌<◌, min}
use native.Mathlib.Omega.{arith}
use mathlib.Core.Path.{◌≡◌, refl, sym, ◌∙◌, ap, subst}
use mathlib.Core.Bool.{Bool, true, false, cond, not, ◌&&◌, and-eq-true_iff}
use mathlib.Core.List.{List, [], ◌∷◌, ◌++◌, reverse, reverse_aux-eq}
use lib.Dec.{eqb, eqb-zero-suc, eqb-suc-suc}
use lib.ListN.{length, take, drop, get_or, length-replicate}
use lib.Seq.{take_all}
use borrow.Author.Tests.{eqb-true, not-true}
use Rattle.std.proofs.lemmas.List.{take-append-drop}
use Rattle.laws.specs.Bytes.{All}
use Rattle.laws.specs.Lists.{at}
use Rattle.laws.proofs.Lists.{all_left, all_right}
use Rattle.exchange.specs.Steps.{exchange_for}
use Rattle.exchange.specs.declared.Step.{Step}
use Rattle.exchange.specs.declared.Step.TheVariants.{Write, Read, Update, Match, Chunk, Store}
use Rattle.exchange.specs.declared.Exchange.{Exchange}
use Rattle.exchange.specs.State.{is_session, is_unbroken, address_in, count_in, room_in, read_count, purpose_in, image_in, record_in, left, none_left, completed, Begun, begun_in}
use Rattle.exchange.specs.Session.{AnswerCall, final, sent, came, broken_off, exchanges_of}
use Rattle.exchange.proofs.Latest.{bytes_read, bytes_wanted}
use Rattle.exchange.proofs.Begins.{begins as begun}
use Rattle.exchange.proofs.Comes.{comes}
use Rattle.exchange.proofs.Keeps.{keeps}
use Rattle.exchange.proofs.Session.{session}
use Rattle.sessions.specs.Sessions.{no_image, blank_record}
use Rattle.std.specs.Prelude.{Some, None}
use Rattle.outcome.specs.Outcome.{big_endian, value_in, outcome_of}
use Rattle.driver.specs.Theorems.{all_steps, Course}

-- ---- what stands in place of an image, and of a record

pub no_image_lem : length no_image ≡ 100
unfolding no_image
no_image_lem = length-replicate {A = ℕ} 100 0

pub no_record : length blank_record ≡ 38
unfolding blank_record
no_record = length-replicate {A = ℕ} 38 0

-- ---- what a session holds

-- what a session can be begun with
abbrev pub Fits : Begun → List Step → Type 0
Fits b xs = (length xs ≤ 25) × (b.room < 2 ^ 64) × (length b.image ≡ 100) × (length b.«record» ≡ 38)

-- these steps and all else that it was begun with, and none made
pub record Holds (s : List ℕ) (b : Begun) (xs : List Step) : Type 0 where
  pub steps : left s ≡ xs
  pub address : address_in s ≡ b.address
  pub last : at s 3 ≡ 0
  pub image : image_in s ≡ b.image
  pub «record» : record_in s ≡ b.«record»
  pub purpose : purpose_in s ≡ b.purpose
  pub reads : read_count s ≡ min b.reads 100
  pub room : room_in s ≡ b.room
  pub count : count_in s ≡ 0
  pub session : is_session s ≡ true
  pub opened : is_unbroken s ≡ true
  pub bytes : bytes_read s ≡ 0 ∷ 0 ∷ 0 ∷ []

-- an open session has its size
open_session : (s : List ℕ) → is_unbroken s ≡ true → is_session s ≡ true
open_session s o = ((and-eq-true_iff (is_session s) (eqb (at s 1) 1)).0 o).0

-- the byte read last, of three
last_read : (s : List ℕ) → is_session s ≡ true → bytes_read s ≡ 0 ∷ 0 ∷ 0 ∷ [] → at s 3 ≡ 0
last_read s e h = ap (λ (l : List ℕ). get_or l 0 0) (rw e at h)

pub holds : (st : List ℕ) (b : Begun) (xs : List Step) → is_session st ≡ true → Fits b xs → Holds (begun_in st b xs) b (all_steps b xs)
holds st b xs s f =
    let k = begun st b xs s f.0 f.1 f.2 f.3 in
    let o = open_session (begun_in st b xs) k.8 in
    record {
      steps = k.0;
      address = k.1;
      last = last_read (begun_in st b xs) o k.9;
      image = k.4;
      «record» = k.5;
      purpose = k.6;
      reads = k.7;
      room = k.3;
      count = k.2;
      session = o;
      opened = k.8;
      bytes = k.9;
    }

-- ---- what follows

-- no step is left of those from the k-th on, exactly where k is their number
none_past : (xs : List Step) (k : ℕ) → k ≤ length xs → none_left (drop k xs) ≡ eqb k (length xs)
none_past [] zero h = refl
none_past [] (suc k) h = absurd (omega arith)
none_past (x ∷ xs) zero h = sym (eqb-zero-suc (length xs))
none_past (x ∷ xs) (suc k) h = none_past xs k (omega arith) ∙ sym (eqb-suc-suc k (length xs))

-- every exchange is the chip's
pub to_chip : (xs : List Step) (address last : ℕ) (image bytes : List ℕ) → All (λ (e : Exchange). e.address ≡ address) (exchanges_of address last image xs bytes)
to_chip [] address last image bytes = tt
to_chip (x ∷ xs) address last image bytes = (own x, to_chip xs address _ image _)
  where
    own : (x : Step) → (exchange_for address last image x).address ≡ address
    own (Write register value) = refl
    own (Read register) = refl
    own (Update register shift width value) = refl
    own (Match register value) = refl
    own (Chunk offset len) = refl
    own (Store index) = refl

-- what holds of each element holds of the first n, and of those after them
module _ {A : Type 0} (P : A → Type 0) (n : ℕ) (xs : List A) (h : All P xs) where
  parted : All P (take n xs ++ drop n xs)
  parted = subst (All P) (sym (take-append-drop n xs)) h

  pub all_taken : All P (take n xs)
  all_taken = all_left P (take n xs) (drop n xs) parted

  pub all_dropped : All P (drop n xs)
  all_dropped = all_right P (take n xs) (drop n xs) parted

-- as many exchanges as steps
length_exchanges : (xs : List Step) (address last : ℕ) (image bytes : List ℕ) → length (exchanges_of address last image xs bytes) ≡ length xs
length_exchanges [] address last image bytes = refl
length_exchanges (x ∷ xs) address last image bytes = ap suc (length_exchanges xs address _ image _)

-- what the bytes read last say once these came
abbrev shown : List ℕ → List ℕ
shown bytes = take 3 (reverse bytes ++ (0 ∷ 0 ∷ 0 ∷ []))

abbrev pub value_of : ℕ → List ℕ → ℕ → ℕ
value_of purpose bytes reads =
    let l = shown bytes in
    get_or (0 ∷ 0 ∷ 0 ∷ get_or l 0 0 ∷ big_endian 0 (get_or l 2 0 ∷ get_or l 1 0 ∷ get_or l 0 0 ∷ []) ∷ reads ∷ []) purpose 0

module _ {s : List ℕ} {b : Begun} {xs : List Step} (h : Holds s b xs) (cs : List AnswerCall) where
  -- the exchanges are those of the steps, in order
  pub in_order : sent s cs ≡ take (length (sent s cs)) (exchanges_of b.address 0 b.image xs (came s cs))
  in_order =
      session.order s cs
      ∙ (λ i. take (length (sent s cs)) (exchanges_of (h.address i) (h.last i) (h.image i) (h.steps i) (came s cs)))

  -- the count is their number
  pub counted : count_in (final s cs) ≡ length (sent s cs)
  counted = omega (arith, session.count s cs, h.count)

  -- no more than there are steps
  pub within : length (sent s cs) ≤ length xs
  within = omega (arith, session.within s cs, ap length h.steps)

  -- completed, exactly where all were made and none failed
  pub completes : completed (final s cs) ≡ not (broken_off s cs) && eqb (length (sent s cs)) (length xs)
  completes =
      session.completes s cs h.opened
      ∙ ap (λ (l : List Step). not (broken_off s cs) && none_left (drop (length (sent s cs)) l)) h.steps
      ∙ ap (λ (k : Bool). not (broken_off s cs) && k) (none_past xs (length (sent s cs)) within)

  -- so all were made where it is completed, and as many bytes came as they want
  pub all_made : completed (final s cs) ≡ true → length (sent s cs) ≡ length xs
  all_made e = eqb-true _ _ ((and-eq-true_iff (not (broken_off s cs)) _).0 (sym completes ∙ e)).1

  pub all_sent : completed (final s cs) ≡ true → sent s cs ≡ exchanges_of b.address 0 b.image xs (came s cs)
  all_sent e =
      let es = exchanges_of b.address 0 b.image xs (came s cs) in
      in_order ∙ take_all (length (sent s cs)) es (omega (arith, all_made e, length_exchanges xs b.address 0 b.image (came s cs)))

  pub all_came : completed (final s cs) ≡ true → length (came s cs) ≡ bytes_wanted (exchanges_of b.address 0 b.image xs (came s cs))
  all_came e =
      comes cs s (not-true (broken_off s cs) ((and-eq-true_iff (not (broken_off s cs)) _).0 (sym completes ∙ e)).0)
      ∙ ap bytes_wanted (all_sent e)

  -- what the session answers
  pub value_as : value_in (final s cs) ≡ value_of b.purpose (came s cs) (min b.reads 100)
  value_as =
      let k = keeps cs s h.session in
      let l : at (final s cs) 3 ∷ at (final s cs) 4 ∷ at (final s cs) 5 ∷ [] ≡ shown (came s cs) =
      (rw k.session at (k.shows ∙ ap (take 3) (reverse_aux-eq (came s cs) (bytes_read s)))) ∙ ap (λ (m : List ℕ). take 3 (reverse (came s cs) ++ m)) h.bytes in
      (λ i. get_or (0 ∷ 0 ∷ 0 ∷ get_or (l i) 0 0 ∷ big_endian 0 (get_or (l i) 2 0 ∷ get_or (l i) 1 0 ∷ get_or (l i) 0 0 ∷ []) ∷ (k.reads ∙ h.reads) i ∷ []) ((k.purpose ∙ h.purpose) i) 0)

  -- all of it, where the result is this
  pub answered : (result : List ℕ → ℕ) →
      ((bytes : List ℕ) → length bytes ≡ bytes_wanted (exchanges_of b.address 0 b.image xs bytes) → value_of b.purpose bytes (min b.reads 100) ≡ result bytes) →
      Course s b.address b.image xs result cs
  unfolding outcome_of
  answered result g = record {
    order = in_order;
    chip = subst (All (λ (e : Exchange). e.address ≡ b.address)) (sym in_order) (all_taken _ (length (sent s cs)) _ (to_chip xs b.address 0 b.image (came s cs)));
    next = session.end s cs ∙ ap (λ (l : List Step). cond (broken_off s cs) [] (drop (length (sent s cs)) l)) h.steps;
    completes = completes;
    whole = all_sent;
    outcome = λ i. record { made = counted i; value = go (completed (final s cs)) refl i };
  }
    where
      go : (k : Bool) → completed (final s cs) ≡ k → cond k (Some (value_in (final s cs))) None ≡ cond k (Some (result (came s cs))) None
      go true e = ap Some (value_as ∙ g (came s cs) (all_came e))
      go false e = refl
