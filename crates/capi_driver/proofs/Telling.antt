-- No word misleads: each number is given back. Assumes nothing.
use Prim.Native.Nat.{ℕ, zero, suc, ◌+◌, ◌-◌, ◌*◌, ◌/◌, ◌%◌, ◌≤◌, ◌<◌, min}
use native.Mathlib.Omega.{arith}
use mathlib.Core.Path.{◌≡◌, refl, sym, ap, subst, ◌∙◌}
use mathlib.Core.Bool.{Bool, true, false, cond, true≢false}
use mathlib.Core.Logic.{◌⊎◌, inl, inr}
use mathlib.Core.List.{List, [], ◌∷◌, ◌++◌}
use lib.Dec.{eqb}
use lib.ListN.{length, take, drop, get_or, replicate, length-append, length-take, length-replicate}
use lib.Seq.{take_at}
use borrow.Author.Tests.{eq-eqb, ne_eqb, le-ltb, ltb-true}
use Rattle.laws.proofs.Tests.{choice}
use Rattle.laws.specs.Bytes.{Bytes}
use Rattle.laws.specs.Lists.{at}
use Rattle.errors.specs.Told.{accepted, refused}
use Rattle.config.specs.declared.Variant.TheVariants.{DA7280}
use Rattle.std.specs.Prelude.{Some, None, is_some, Option}
use Rattle.std.specs.Option.{unwrap_or}
use Rattle.field.specs.Field.{code_of}
use Rattle.exchange.specs.declared.Exchange.{Exchange}
use Rattle.exchange.specs.declared.Step.{Step}
use Rattle.exchange.specs.declared.Step.TheVariants.{Write, Read, Update, Match, Chunk, Store}
use Rattle.exchange.specs.declared.Reply.TheVariants.{Done, Byte, Failed}
use Rattle.exchange.specs.State.{indexed, is_begun, made_in, count_in, purpose_in, image_in, left, none_left, completed}
use Rattle.exchange.specs.Turn.{pending_for, pending_of, wanted, resized, fits_next, fit_of, effect_of, state_after, report_of}
use Rattle.exchange.specs.Session.{AnswerCall, taken, after_call, sent}
use Rattle.exchange.proofs.Moves.{left_counts}
use Rattle.exchange.proofs.Session.{session}
use Rattle.exchange.proofs.Takes.{sends}
use Rattle.memory.specs.Memory.{memory, no_memory}
use Rattle.da728x.specs.declared.DA728x.{DA728x}
use Rattle.da728x.specs.Record.{record_at}
use Rattle.da728x.proofs.Kept.{record_kept}
use Rattle.outcome.specs.declared.Change.{Change}
use Rattle.outcome.specs.declared.Change.TheVariants.{To, Sequences}
use Rattle.outcome.specs.Outcome.{value_in, outcome_of, with_sequences, record_by}
use Rattle.driver.specs.Operations.{upload_waveform_memory}
use Rattle.ranges.specs.declared.Range.{Range}
use Rattle.ranges.specs.Search.{voltage_range, imax_range, period_range}
use Rattle.ranges.proofs.Ends.{Fits, voltage_fits, imax_fits, period_fits}
use Rattle.capi_driver.specs.Words.{exchange_word, reply_of, report_word, record_out, result_word, upload_of, range_word}
use Rattle.capi_driver.specs.Telling.{RangeTold, Telling}
use Rattle.capi_driver.proofs.Uploads.{upload, upload_refused}

-- bytes of another length stay as they are
left_as : (l : List ℕ) (c : Option Change) → eqb (length l) 38 ≡ false → record_out l c ≡ l
left_as l None e = refl
left_as l (Some (To r)) e = rw e
left_as l (Some (Sequences n)) e = rw e

three : (a b c : ℕ) → a < 256 → b < 256 →
    ((a + 256 * b + 65536 * c) % 256 ≡ a) × ((a + 256 * b + 65536 * c) / 256 % 256 ≡ b) × ((a + 256 * b + 65536 * c) / 65536 ≡ c)
three a b c h k = (omega arith, omega arith, omega arith)

four : (a b c d : ℕ) → a < 256 → b < 256 → c < 256 →
    ((a + 256 * b + 65536 * c + 16777216 * d) % 256 ≡ a) × ((a + 256 * b + 65536 * c + 16777216 * d) / 256 % 256 ≡ b)
    × ((a + 256 * b + 65536 * c + 16777216 * d) / 65536 % 256 ≡ c) × ((a + 256 * b + 65536 * c + 16777216 * d) / 16777216 ≡ d)
four a b c d h k l = (omega arith, omega arith, omega arith, omega arith)

wide : (a b c : ℕ) → a < 16777216 → b < 256 →
    ((a + 16777216 * b + 4294967296 * c) % 16777216 ≡ a) × ((a + 16777216 * b + 4294967296 * c) / 16777216 % 256 ≡ b)
    × ((a + 16777216 * b + 4294967296 * c) / 4294967296 ≡ c)
wide a b c h k = (omega arith, omega arith, omega arith)

-- every exchange sends something, and no exchange is 0
ended : (st : List ℕ) → eqb (exchange_word (pending_of st)) 0 ≡ none_left (left st)
ended st = go (left st)
  where
    go : (l : List Step) → eqb (exchange_word (pending_for st l)) 0 ≡ none_left l
    go [] = refl
    go (x ∷ xs) = ne_eqb (exchange_word (pending_for st (x ∷ xs))) 0 (λ e. omega (arith, e, ltb-true 0 (pending_for st (x ∷ xs)).len (sends st x)))

-- what bytes can say
byte_of : (l : List ℕ) (i : ℕ) → Bytes l → get_or l i 0 < 256
byte_of [] zero h = omega arith
byte_of [] (suc i) h = omega arith
byte_of (x ∷ xs) zero h = h.0
byte_of (x ∷ xs) (suc i) h = byte_of xs i h.1

pick : (p a b c : ℕ) → a < 16777216 → b < 16777216 → c < 16777216 → get_or (0 ∷ 0 ∷ 0 ∷ a ∷ b ∷ c ∷ []) p 0 < 16777216
pick zero a b c f g h = omega arith
pick (suc zero) a b c f g h = omega arith
pick (suc (suc zero)) a b c f g h = omega arith
pick (suc (suc (suc zero))) a b c f g h = f
pick (suc (suc (suc (suc zero)))) a b c f g h = g
pick (suc (suc (suc (suc (suc zero))))) a b c f g h = h
pick (suc (suc (suc (suc (suc (suc n)))))) a b c f g h = omega arith

counted : (st : List ℕ) → Bytes st → count_in st < 256
counted st h = choice (λ (n : ℕ). n < 256) (is_begun st) (made_in st) 0 (byte_of st 2 h) (omega arith)

bounded : (st : List ℕ) → Bytes st → (unwrap_or (outcome_of st).value 0 < 16777216) × ((outcome_of st).made < 256)
unfolding outcome_of
bounded st h = (value (completed st), counted st h)
  where
    value : (k : Bool) → unwrap_or (cond k (Some (value_in st)) None) 0 < 16777216
    value false = omega arith
    value true = pick (purpose_in st) _ _ _ (omega (arith, byte_of st 3 h)) (omega (arith, byte_of st 3 h, byte_of st 4 h, byte_of st 5 h)) (omega arith)

-- an exchange sends at most 33 bytes
bounded_exchange : (st : List ℕ) → Bytes st → ((pending_of st).len < 256) × ((pending_of st).address < 256)
bounded_exchange st h = go (left st)
  where
    go : (l : List Step) → ((pending_for st l).len < 256) × ((pending_for st l).address < 256)
    go [] = (omega arith, omega arith)
    go (Write r v ∷ xs) = (omega arith, byte_of st 0 h)
    go (Read r ∷ xs) = (omega arith, byte_of st 0 h)
    go (Update r s w v ∷ xs) = (omega arith, byte_of st 0 h)
    go (Match r v ∷ xs) = (omega arith, byte_of st 0 h)
    go (Chunk i n ∷ xs) = (omega (arith, length-take (min n 32) (drop i (image_in st))), byte_of st 0 h)
    go (Store i ∷ xs) = (omega arith, byte_of st 0 h)

-- what is told of an answer, by how it fits
module _ (st : List ℕ) (kind byte n : ℕ) (h : Bytes st) (b : byte < 256) where
  told : ((report_of st (reply_of kind byte) n).number < 256) × ((report_of st (reply_of kind byte) n).code < 256)
  unfolding report_of fit_of
  told = go (resized st n) (left st) kind
    where
      go : (k : Bool) (l : List Step) (m : ℕ) →
          ((effect_of (cond k (fits_next [] Done) (fits_next l (reply_of m byte)))).number < 256) × ((effect_of (cond k (fits_next [] Done) (fits_next l (reply_of m byte)))).code < 256)
      go true l m = (omega arith, omega arith)
      go false [] m = (omega arith, omega arith)
      go false (x ∷ xs) zero = choice (λ f. ((effect_of f).number < 256) × ((effect_of f).code < 256)) (eqb (wanted x) 0) _ _ (omega arith, omega arith) (omega arith, omega arith)
      go false (Write r v ∷ xs) (suc zero) = (omega arith, omega arith)
      go false (Read r ∷ xs) (suc zero) = (omega arith, omega arith)
      go false (Update r s w v ∷ xs) (suc zero) = (omega arith, omega arith)
      go false (Match r v ∷ xs) (suc zero) = choice (λ f. ((effect_of f).number < 256) × ((effect_of f).code < 256)) (eqb byte v) _ _ (omega arith, omega arith) (omega arith, omega arith)
      go false (Chunk i m ∷ xs) (suc zero) = (omega arith, omega arith)
      go false (Store i ∷ xs) (suc zero) = (omega arith, omega arith)
      go false (x ∷ xs) (suc (suc m)) = (omega arith, b)

  -- the call, with some buffer of this length
  abbrev call : AnswerCall
  call = record { reply = reply_of kind byte; buffer = replicate n 0 }

  one_sent : length (sent st (call ∷ [])) ≤ 1
  one_sent = choice (λ (es : List Exchange). length (es ++ []) ≤ 1) (taken st call.reply (length call.buffer)) (pending_of st ∷ []) [] (omega arith) (omega arith)

  -- one more is counted where a step is left
  more : count_in (after_call st call) < 256
  more = go (left st) refl
    where
      go : (l : List Step) → left st ≡ l → count_in (after_call st call) < 256
      go [] e = omega (arith, session.count st (call ∷ []), session.within st (call ∷ []), ap length e, counted st h)
      go (x ∷ xs) e = omega (arith, session.count st (call ∷ []), one_sent, choice (λ (m : ℕ). m < 125) (is_begun st) (made_in st) 0 (left_counts st x xs e).1 (omega arith))

  made : (report_of st (reply_of kind byte) n).made < 256
  unfolding report_of after_call
  made = let k = ap (λ (m : ℕ). count_in (state_after st (reply_of kind byte) m)) (length-replicate {A = ℕ} n 0) in omega (arith, k, more)

  bounded_report : ((report_of st (reply_of kind byte) n).number < 256) × ((report_of st (reply_of kind byte) n).code < 256) × ((report_of st (reply_of kind byte) n).made < 256)
  bounded_report = (told.0, told.1, made)

-- ---- the record

-- a list is its bytes, one by one
shifted : (f : ℕ → ℕ) (i n : ℕ) → indexed f (suc i) n ≡ indexed (λ j. f (suc j)) i n
shifted f i zero = refl
shifted f i (suc n) = ap (λ (l : List ℕ). f (suc i) ∷ l) (shifted f (suc i) n)

each_byte : (k : ℕ) (l : List ℕ) → length l ≡ k → l ≡ indexed (at l) 0 k
each_byte zero [] h = refl
each_byte zero (x ∷ xs) h = absurd (omega (arith, h))
each_byte (suc k) [] h = absurd (omega (arith, h))
each_byte (suc k) (x ∷ xs) h = ap (λ (l : List ℕ). x ∷ l) (each_byte k xs (omega (arith, h)) ∙ sym (shifted (at (x ∷ xs)) 0 k))

records : (l : List ℕ) (c : Option Change) → length l ≡ 38 → record_at (record_out l c) ≡ record_by (record_at l) c
unfolding record_at
records l None h = refl
records l (Some (To r)) h = rw (eq-eqb _ _ h) (record_kept r)
records l (Some (Sequences n)) h = subst (λ (m : List ℕ). record_at (record_out m (Some (Sequences n))) ≡ with_sequences (record_at m) n) (sym (each_byte 38 l h)) refl

-- another count is in the last byte alone
last_byte : (l : List ℕ) (n : ℕ) → length l ≡ 38 → record_out l (Some (Sequences n)) ≡ take 37 l ++ (n ∷ [])
last_byte l n h = subst (λ (m : List ℕ). record_out m (Some (Sequences n)) ≡ take 37 m ++ (n ∷ [])) (sym (each_byte 38 l h)) refl

none : (l : List ℕ) → ¬ (length l ≡ 38) → record_at l ≡ record { address = 0; variant = DA7280; settings = None; sequences = 0 }
unfolding record_at
none l h = rw (ne_eqb _ _ h)

spared : (l : List ℕ) (c : Option Change) → (¬ (length l ≡ 38)) ⊎ (c ≡ None) → record_out l c ≡ l
spared l c (inl h) = left_as l c (ne_eqb _ _ h)
spared l c (inr e) = ap (record_out l) e

-- ---- answers of the bus, and uploads

replies : (kind byte : ℕ) → (reply_of 0 byte ≡ Done) × (reply_of 1 byte ≡ Byte byte) × (2 ≤ kind → reply_of kind byte ≡ Failed byte)
replies kind byte = (refl, refl, failed kind)
  where
    failed : (kind : ℕ) → 2 ≤ kind → reply_of kind byte ≡ Failed byte
    failed zero h = absurd (omega arith)
    failed (suc zero) h = absurd (omega arith)
    failed (suc (suc n)) h = refl

uploads : (r : DA728x) (image : List ℕ) (lock_after : Bool) → length image ≤ 100 → let m = memory (image ++ replicate (100 - length image) 0) (length image) (at image 0) (at image 1) in
    (upload_of r image lock_after ≡ (upload_waveform_memory r m lock_after).start) × (take m.len m.«data» ≡ image) × (length m.«data» ≡ 100) × (m.num_sequences ≡ at image 1)
unfolding upload_of
uploads r image lock_after h = (
  ap (λ (b : Bool). upload r lock_after (cond b (refused 8 no_memory) (accepted (memory (image ++ replicate (100 - length image) 0) (length image) (at image 0) (at image 1))))) (le-ltb 100 (length image) h),
  take_at image (replicate (100 - length image) 0) (length image) refl,
  length-append image (replicate (100 - length image) 0) ∙ ap (λ (n : ℕ). length image + n) (length-replicate {A = ℕ} (100 - length image) 0) ∙ omega arith,
  refl,
)

-- ---- a range of settings

range_told : (range : Option Range) → Fits range → RangeTold range
range_told None h = ((λ e. refl, λ e. refl), λ r e. absurd (true≢false (sym (ap is_some e))))
range_told (Some r) h = (
  (λ e. absurd (omega (arith, h.1)), λ e. absurd (true≢false (ap is_some e))),
  λ q e. subst (λ (p : Range). (range_word (Some r) % 65536 ≡ p.least) × (range_word (Some r) / 65536 ≡ p.greatest)) (ap (λ (o : Option Range). unwrap_or o r) e) (omega (arith, h.0), omega (arith, h.0)),
)

pub telling : Telling
unfolding report_word result_word
telling = record {
  exchanges = λ st h. let k = bounded_exchange st h in three (pending_of st).len (pending_of st).address (pending_of st).wanted k.0 k.1;
  ended = ended;
  reports = λ st kind byte n h b.
      let t = report_of st (reply_of kind byte) n in
      let k = bounded_report st kind byte n h b in four t.number t.code t.made (code_of t.ended) k.0 k.1 k.2;
  records = records;
  spared = spared;
  counted = last_byte;
  none = none;
  results = λ st h. let k = bounded st h in wide (unwrap_or (outcome_of st).value 0) (outcome_of st).made (code_of (is_some (outcome_of st).value)) k.0 k.1;
  replies = replies;
  full = upload_refused;
  uploads = uploads;
  voltages = λ byte. range_told (voltage_range byte) (voltage_fits byte);
  currents = λ value. range_told (imax_range value) (imax_fits value);
  frequencies = λ mode word. range_told (period_range mode word) (period_fits mode word);
}
