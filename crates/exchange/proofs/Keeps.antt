-- Over every list of answers a session shows the last three bytes that came, and keeps what the operation is for.
-- Assumes nothing.
use Prim.Native.Nat.{ℕ, suc, zero}
use native.Mathlib.Omega.{arith}
use mathlib.Core.Path.{◌≡◌, refl, sym, ◌∙◌, ap}
use mathlib.Core.Bool.{true}
use mathlib.Core.List.{List, [], ◌∷◌, ◌++◌, reverse_aux}
use lib.ListN.{length, take}
use lib.Seq.{take-take}
use Rattle.std.specs.Prelude.{Option, Some, None}
use Rattle.exchange.specs.declared.Fit.{Fit}
use Rattle.exchange.specs.declared.Fit.TheVariants.{Broke, Went, Got, Kept, Wrong}
use Rattle.exchange.specs.State.{is_session, read_count, purpose_in, room_in, record_in}
use Rattle.exchange.specs.Turn.{fit_of, effect_of, moved, state_after}
use Rattle.exchange.specs.Session.{AnswerCall, after_call, final, came}
use Rattle.exchange.proofs.Latest.{bytes_read}
use Rattle.exchange.proofs.Effects.{came_taken}
use Rattle.exchange.proofs.Moves.{latest, moves, state_by}

-- of bytes behind others no more than n show among the first n
first_more : (n b : ℕ) (l : List ℕ) → take n (b ∷ take n l) ≡ take n (b ∷ l)
first_more zero b l = refl
first_more (suc n) b l = ap (λ (m : List ℕ). b ∷ m) (take-take n (suc n) l (omega arith))

-- so the last n before are enough for the last n after
enough : (bytes : List ℕ) (n : ℕ) (l : List ℕ) → take n (reverse_aux bytes (take n l)) ≡ take n (reverse_aux bytes l)
enough [] n l = take-take n n l (omega arith)
enough (b ∷ bytes) n l =
    sym (enough bytes n (b ∷ take n l)) ∙ ap (λ (m : List ℕ). take n (reverse_aux bytes m)) (first_more n b l) ∙ enough bytes n (b ∷ l)

-- ---- what an answer leaves

-- what the operation is for, and the bytes read with those that came
pub record Keeps (st t bytes : List ℕ) : Type 0 where
  pub session : is_session t ≡ true
  pub purpose : purpose_in t ≡ purpose_in st
  pub «record» : record_in t ≡ record_in st
  pub reads : read_count t ≡ read_count st
  pub room : room_in t ≡ room_in st
  pub shows : bytes_read t ≡ take 3 (reverse_aux bytes (bytes_read st))

module _ (st : List ℕ) (s : is_session st ≡ true) where
  -- nothing
  keeps_all : Keeps st st []
  keeps_all = record { session = s; purpose = refl; «record» = refl; reads = refl; room = refl; shows = rw s }

  -- a move that takes in these bytes
  keeps_moved : (w : ℕ) (bytes : List ℕ) → latest st bytes ≡ take 3 (reverse_aux bytes (bytes_read st)) → Keeps st (moved st w bytes) bytes
  keeps_moved w bytes e =
      let m = moves st w bytes s in
      record { session = m.session; purpose = m.purpose; «record» = m.«record»; reads = m.reads; room = m.room; shows = m.shows ∙ e }

  -- by how the answer fits
  keeps_by : (f : Option Fit) → Keeps st (state_by st (effect_of f)) (effect_of f).came
  keeps_by None = keeps_all
  keeps_by (Some (Broke code)) = keeps_moved 2 [] (rw s)
  keeps_by (Some Went) = keeps_moved 1 [] (rw s)
  keeps_by (Some (Got b)) = keeps_moved 1 (b ∷ []) (rw s)
  keeps_by (Some (Kept i b)) = keeps_moved 1 (b ∷ []) (rw s)
  keeps_by (Some (Wrong b)) = keeps_moved 2 (b ∷ []) (rw s)

-- the bytes that came with the first answer, and those after it
came_more : (first bytes earlier : List ℕ) → reverse_aux bytes (reverse_aux first earlier) ≡ reverse_aux (first ++ bytes) earlier
came_more [] bytes earlier = refl
came_more (b ∷ first) bytes earlier = came_more first bytes (b ∷ earlier)

-- every list of answers
pub keeps : (cs : List AnswerCall) (st : List ℕ) → is_session st ≡ true → Keeps st (final st cs) (came st cs)
unfolding after_call state_after
keeps [] st s = keeps_all st s
keeps (c ∷ cs) st s =
    let first = (effect_of (fit_of st c.reply (length c.buffer))).came in
    let t = after_call st c in
    let k = keeps_by st s (fit_of st c.reply (length c.buffer)) in
    let m = keeps cs t k.session in
    record {
      session = m.session;
      purpose = m.purpose ∙ k.purpose;
      «record» = m.«record» ∙ k.«record»;
      reads = m.reads ∙ k.reads;
      room = m.room ∙ k.room;
      shows =
          m.shows
          ∙ ap (λ (l : List ℕ). take 3 (reverse_aux (came t cs) l)) k.shows
          ∙ enough (came t cs) 3 (reverse_aux first (bytes_read st))
          ∙ ap (take 3) (came_more first (came t cs) (bytes_read st))
          ∙ ap (λ (l : List ℕ). take 3 (reverse_aux (l ++ came t cs) (bytes_read st))) (sym (came_taken st c.reply (length c.buffer)));
    }
