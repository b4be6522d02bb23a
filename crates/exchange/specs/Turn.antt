-- What a session hands out, and what an answer of the bus does to it: document 01, 'Exchanges' and 'Who can cause which answer'.
use Rattle.std.specs.Prelude.{ℕ, ◌+◌, ◌<◌, ◌≡◌, Bool, true, false, cond, not, ◌&&◌, List, [], ◌∷◌, ◌++◌, ltb, eqb, length, take, set, Option, Some, None}
use Rattle.errors.specs.Number.{answer_number, bus_code}
use Rattle.laws.specs.Copied.{over}
use Rattle.laws.specs.Lists.{at}
use Rattle.exchange.specs.declared.Step.{Step}
use Rattle.exchange.specs.declared.Step.TheVariants.{Write, Read, Update, Match, Chunk, Store}
use Rattle.exchange.specs.declared.Exchange.{Exchange}
use Rattle.exchange.specs.declared.Reply.{Reply}
use Rattle.exchange.specs.declared.Reply.TheVariants.{Done, Byte, Failed}
use Rattle.exchange.specs.declared.Fit.{Fit}
use Rattle.exchange.specs.declared.Fit.TheVariants.{Broke, Went, Got, Kept, Wrong}
use Rattle.exchange.specs.declared.Turn.{Turn}
use Rattle.exchange.specs.Steps.{exchange, exchange_for}
use Rattle.exchange.specs.State.{address_in, made_in, count_in, last_in, read_count, room_in, image_in, left, none_left}

-- ---- the pending exchange

abbrev pub pending_for : List ℕ → List Step → Exchange
pending_for st [] = exchange 0 [] 0
pending_for st (x ∷ xs) = exchange_for (address_in st) (last_in st) (image_in st) x

-- the exchange of the next step; none once the session has ended
abbrev pub pending_of : List ℕ → Exchange
pending_of st = pending_for st (left st)

-- ---- how an answer fits a step: done fits a write, a byte fits a read, a failure fits either

-- how many bytes a step reads: 0 or 1
abbrev pub wanted : Step → ℕ
wanted x = (exchange_for 0 0 [] x).wanted

-- what a step makes of a byte
abbrev pub byte_fit : Step → ℕ → Option Fit
byte_fit (Write register value) b = None
byte_fit (Read register) b = Some (Got b)
byte_fit (Update register shift width value) b = None
byte_fit (Match register value) b = cond (eqb b value) (Some (Got b)) (Some (Wrong b))
byte_fit (Chunk offset len) b = None
byte_fit (Store i) b = Some (Kept i b)

abbrev pub fitting_of : Step → Reply → Option Fit
fitting_of x (Failed code) = Some (Broke code)
fitting_of x Done = cond (eqb (wanted x) 0) (Some Went) None
fitting_of x (Byte b) = byte_fit x b

-- "a read buffer whose length has changed since the start"
abbrev pub resized : List ℕ → ℕ → Bool
resized st n = ltb 0 (read_count st) && not (eqb n (room_in st))

abbrev pub fits_next : List Step → Reply → Option Fit
fits_next [] a = None
fits_next (x ∷ xs) a = fitting_of x a

-- how an answer fits a session, where n bytes are lent with it
unfoldable pub fit_of : List ℕ → Reply → ℕ → Option Fit
fit_of st a n = cond (resized st n) None (fits_next (left st) a)

-- ---- what an answer does

-- a session of its size that has counted less than its most steps
abbrev pub going : List ℕ → Type 0
going st = (length st ≡ 280) × (made_in st < 125)

-- what an answer does
pub record Effect : Type 0 where
  -- the number of the refusal or 0, and the bus's own code
  pub number : ℕ
  pub code : ℕ
  -- whether the exchange counts as made, the session's stage then, and the byte that came
  pub counts : Bool
  pub stage : ℕ
  pub came : List ℕ
  -- the lent buffer afterwards
  pub buffer : List ℕ → List ℕ

abbrev pub effect : ℕ → ℕ → Bool → ℕ → List ℕ → (List ℕ → List ℕ) → Effect
effect number code counts stage came buffer = record { number = number; code = code; counts = counts; stage = stage; came = came; buffer = buffer }

-- 16 and 17 end the session; "Each byte read is stored at its own index in the buffer lent with that answer, and that call changes no other byte"
abbrev pub effect_of : Option Fit → Effect
effect_of None = effect 19 0 false 1 [] (λ l. l)
effect_of (Some (Broke code)) = effect 17 code true 2 [] (λ l. l)
effect_of (Some Went) = effect 0 0 true 1 [] (λ l. l)
effect_of (Some (Got b)) = effect 0 0 true 1 (b ∷ []) (λ l. l)
effect_of (Some (Kept i b)) = effect 0 0 true 1 (b ∷ []) (λ l. set l i b)
effect_of (Some (Wrong b)) = effect 16 0 true 2 (b ∷ []) (λ l. l)

-- the state with another count and stage, and the last three bytes read
abbrev pub moved : List ℕ → ℕ → List ℕ → List ℕ
moved st stage came = over st 1 (stage ∷ (made_in st + 1) ∷ take 3 (came ++ (at st 3 ∷ at st 4 ∷ at st 5 ∷ [])))

-- a refusal hands back the session as it came in
unfoldable pub state_after : List ℕ → Reply → ℕ → List ℕ
state_after st a n = let e = effect_of (fit_of st a n) in cond e.counts (moved st e.stage e.came) st

unfoldable pub buffer_after : List ℕ → Reply → List ℕ → List ℕ
buffer_after st a l = (effect_of (fit_of st a (length l))).buffer l

-- ---- what is answered

-- the number of a refusal or 0, the bus's own code, the count, and whether the session has ended
pub record Report : Type 0 where
  pub number : ℕ
  pub code : ℕ
  pub made : ℕ
  pub ended : Bool

unfoldable pub report_of : List ℕ → Reply → ℕ → Report
report_of st a n =
    let e = effect_of (fit_of st a n) in
    record { number = e.number; code = e.code; made = count_in (state_after st a n); ended = none_left (left (state_after st a n)) }

-- a turn in document 01's numbers
abbrev pub turn_report : Turn → Report
turn_report t = record { number = answer_number t.answer; code = bus_code t.answer; made = t.made; ended = t.ended }
