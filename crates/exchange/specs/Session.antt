-- The theorem on sessions, for every state, every list of answers and every lent buffer: document 01, 'Exchanges'.
-- It speaks of the definitions that the contracts of `pending` and `answer` cite.
use Rattle.std.specs.Prelude.{ℕ, ◌+◌, ◌≤◌, ◌≡◌, Bool, true, false, cond, not, ◌&&◌, ◌||◌, List, [], ◌∷◌, ◌++◌, ltb, eqb, length, take, drop, get_or, set}
use Rattle.exchange.specs.declared.Step.{Step}
use Rattle.exchange.specs.declared.Step.TheVariants.{Match, Store}
use Rattle.exchange.specs.declared.Exchange.{Exchange}
use Rattle.exchange.specs.declared.Reply.{Reply}
use Rattle.exchange.specs.declared.Reply.TheVariants.{Done, Byte, Failed}
use Rattle.exchange.specs.Steps.{exchange_for}
use Rattle.exchange.specs.State.{is_begun, is_unbroken, address_in, count_in, last_in, read_count, room_in, image_in, left, none_left, completed}
use Rattle.exchange.specs.Turn.{pending_of, wanted, state_after, buffer_after, report_of}

-- ---- what the steps ask for

-- the exchanges of a list of steps, in order, where the bytes read are these
abbrev pub exchanges_of : ℕ → ℕ → List ℕ → List Step → List ℕ → List Exchange
exchanges_of address last image [] bytes = []
exchanges_of address last image (x ∷ xs) bytes =
    exchange_for address last image x
    ∷ exchanges_of address (get_or (take (wanted x) bytes) 0 last) image xs (drop (wanted x) bytes)

-- ---- what a session does under a list of answers

-- whether an answer fits an exchange: done where nothing is wanted, a byte where one is, a failure both; where nothing is pending no answer fits
abbrev pub fits_exchange : Exchange → Reply → Bool
fits_exchange e Done = ltb 0 e.len && eqb e.wanted 0
fits_exchange e (Byte b) = ltb 0 e.len && eqb e.wanted 1
fits_exchange e (Failed code) = ltb 0 e.len

-- whether an answer is taken back, where n bytes are lent with it: it fits, and the buffer of a memory read has the length that it had at the start
abbrev pub taken : List ℕ → Reply → ℕ → Bool
taken st a n = fits_exchange (pending_of st) a && not (ltb 0 (read_count st) && not (eqb n (room_in st)))

-- the byte of an answer
abbrev pub reply_bytes : Reply → List ℕ
reply_bytes Done = []
reply_bytes (Byte b) = b ∷ []
reply_bytes (Failed code) = []

-- "16 and 17 end the session"
abbrev pub breaks : ℕ → Bool
breaks number = eqb number 16 || eqb number 17

-- a call of `answer`: what the bus answered, and the buffer lent with it
pub record AnswerCall : Type 0 where
  pub reply : Reply
  pub buffer : List ℕ

abbrev pub number_at : List ℕ → AnswerCall → ℕ
number_at st c = (report_of st c.reply (length c.buffer)).number

unfoldable pub after_call : List ℕ → AnswerCall → List ℕ
after_call st c = state_after st c.reply (length c.buffer)

abbrev pub final : List ℕ → List AnswerCall → List ℕ
final st [] = st
final st (c ∷ cs) = final (after_call st c) cs

-- the exchanges that were made: those pending when a fitting answer was taken back
abbrev pub sent : List ℕ → List AnswerCall → List Exchange
sent st [] = []
sent st (c ∷ cs) = cond (taken st c.reply (length c.buffer)) (pending_of st ∷ []) [] ++ sent (after_call st c) cs

-- the bytes that came back with them
abbrev pub came : List ℕ → List AnswerCall → List ℕ
came st [] = []
came st (c ∷ cs) = cond (taken st c.reply (length c.buffer)) (reply_bytes c.reply) [] ++ came (after_call st c) cs

-- whether 16 or 17 was told
abbrev pub broken_off : List ℕ → List AnswerCall → Bool
broken_off st [] = false
broken_off st (c ∷ cs) = breaks (number_at st c) || broken_off (after_call st c) cs

-- the calls where one buffer is lent at every answer and left alone in between
abbrev pub lending : List ℕ → List ℕ → List Reply → List AnswerCall
lending st buffer [] = []
lending st buffer (a ∷ replies) =
    record { reply = a; buffer = buffer } ∷ lending (state_after st a (length buffer)) (buffer_after st a buffer) replies

-- the buffer after them
abbrev pub filled : List ℕ → List ℕ → List Reply → List ℕ
filled st buffer [] = buffer
filled st buffer (a ∷ replies) = filled (state_after st a (length buffer)) (buffer_after st a buffer) replies

-- ---- the theorem

pub record Session : Type 0 where
  -- what is handed out is the exchange of the next step
  pub hands : (st : List ℕ) (x : Step) (xs : List Step) → left st ≡ x ∷ xs → pending_of st ≡ exchange_for (address_in st) (last_in st) (image_in st) x
  -- the exchanges made are those of the steps left, in order from the first, with the bytes read substituted
  pub order : (st : List ℕ) (cs : List AnswerCall) →
      sent st cs ≡ take (length (sent st cs)) (exchanges_of (address_in st) (last_in st) (image_in st) (left st) (came st cs))
  -- the count is how many were made
  pub count : (st : List ℕ) (cs : List AnswerCall) → count_in (final st cs) ≡ count_in st + length (sent st cs)
  -- no more are made than there are steps
  pub within : (st : List ℕ) (cs : List AnswerCall) → length (sent st cs) ≤ length (left st)
  -- it ends after the last, or at the first failure or mismatch, and not before
  pub end : (st : List ℕ) (cs : List AnswerCall) → left (final st cs) ≡ cond (broken_off st cs) [] (drop (length (sent st cs)) (left st))
  -- bytes of another length, or not begun, or broken off: no step is left, and nothing is completed; of the first two the count is 0
  pub closed : (st : List ℕ) → is_unbroken st ≡ false → (left st ≡ []) × (completed st ≡ false)
  pub uncounted : (st : List ℕ) → is_begun st ≡ false → count_in st ≡ 0
  -- a session that was begun is completed exactly where no step is left and it was not broken off
  pub completes : (st : List ℕ) (cs : List AnswerCall) → is_unbroken st ≡ true →
      completed (final st cs) ≡ not (broken_off st cs) && none_left (drop (length (sent st cs)) (left st))
  -- 19 is told exactly where the answer does not fit the exchange handed out, or the read buffer's length has changed
  pub takes : (st : List ℕ) (a : Reply) (n : ℕ) → eqb (report_of st a n).number 19 ≡ not (taken st a n)
  -- of an answer that is taken back, a failure is told by 17 with the bus's own code, and no other number has one
  pub fails : (st : List ℕ) (code n : ℕ) → taken st (Failed code) n ≡ true →
      ((report_of st (Failed code) n).number ≡ 17) × ((report_of st (Failed code) n).code ≡ code)
  pub quiet : (st : List ℕ) (a : Reply) (n : ℕ) → eqb (report_of st a n).number 17 ≡ false → (report_of st a n).code ≡ 0
  -- done is told by 0, and so is a byte that no step compares; 16 is told exactly of a byte that is not what the step must read
  pub done : (st : List ℕ) (n : ℕ) → taken st Done n ≡ true → (report_of st Done n).number ≡ 0
  pub reads : (st : List ℕ) (x : Step) (xs : List Step) (b n : ℕ) → left st ≡ x ∷ xs → ((register value : ℕ) → x ≡ Match register value → ⊥) →
      taken st (Byte b) n ≡ true → (report_of st (Byte b) n).number ≡ 0
  pub matches : (st : List ℕ) (xs : List Step) (register value b n : ℕ) → left st ≡ Match register value ∷ xs → taken st (Byte b) n ≡ true →
      (report_of st (Byte b) n).number ≡ cond (eqb b value) 0 16
  -- 16 and 17 end the session, and it is not completed
  pub ends : (st : List ℕ) (a : Reply) (n : ℕ) → breaks (report_of st a n).number ≡ true →
      (left (state_after st a n) ≡ []) × (completed (state_after st a n) ≡ false)
  -- every result has the count, and whether the session has ended
  pub tells : (st : List ℕ) (a : Reply) (n : ℕ) →
      ((report_of st a n).made ≡ count_in (state_after st a n)) × ((report_of st a n).ended ≡ none_left (left (state_after st a n)))
  -- 19 changes nothing
  pub refused : (st : List ℕ) (a : Reply) (buffer : List ℕ) → (report_of st a (length buffer)).number ≡ 19 →
      (state_after st a (length buffer) ≡ st) × (buffer_after st a buffer ≡ buffer)
  -- a byte of memory goes to its own index, and no other byte changes; a failure changes none, and only a memory read writes at all
  pub stores : (st : List ℕ) (xs : List Step) (i b : ℕ) (buffer : List ℕ) → left st ≡ Store i ∷ xs → taken st (Byte b) (length buffer) ≡ true →
      buffer_after st (Byte b) buffer ≡ set buffer i b
  pub unstored : (st : List ℕ) (code : ℕ) (buffer : List ℕ) → buffer_after st (Failed code) buffer ≡ buffer
  pub spares : (st : List ℕ) (x : Step) (xs : List Step) (a : Reply) (buffer : List ℕ) → left st ≡ x ∷ xs → ((i : ℕ) → x ≡ Store i → ⊥) →
      buffer_after st a buffer ≡ buffer
