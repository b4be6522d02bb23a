-- 16 is told of a step that compares only, and `new` alone has one; steps on registers alone write nothing into the waveform memory. Assumes nothing.
use Prim.Native.Nat.{ℕ, zero, suc, ◌-◌, min}
use native.Mathlib.Omega.{arith}
use mathlib.Core.Path.{◌≡◌, refl, sym, ◌∙◌, ap, subst}
use mathlib.Core.Bool.{Bool, true, false, cond, not, ◌&&◌, true≢false, and-eq-true_iff}
use mathlib.Core.List.{List, [], ◌∷◌, ◌++◌}
use Prim.Native.String.{String, ◌++◌ as ◌&◌}
use lib.Dec.{ltb, leb, eqb}
use lib.ListN.{length, take, drop}
use borrow.Author.Tests.{ltb-true, lt-leb, not-false}
use Rattle.laws.specs.Bytes.{All}
use Rattle.laws.specs.Lists.{at}
use Rattle.registers.specs.Table.{address_of}
use Rattle.laws.proofs.Lists.{all_append}
use Rattle.laws.proofs.Tests.{choice}
use Rattle.config.specs.declared.ActuatorConfig.{ActuatorConfig}
use Rattle.config.specs.declared.DeviceConfig.{DeviceConfig}
use Rattle.config.specs.declared.TriggerConfig.{TriggerConfig}
use Rattle.std.specs.Prelude.{Option, Some, None}
use Rattle.config.specs.declared.DrivingMode.{DrivingMode}
use Rattle.config.specs.declared.DrivingMode.TheVariants.{FREQUENCY_TRACK, WIDEBAND, CUSTOM_WAVEFORM}
use Rattle.checks.specs.Checks.{etwm}
use Rattle.exchange.specs.declared.Step.{Step}
use Rattle.exchange.specs.declared.Step.TheVariants.{Write, Read, Update, Match, Chunk, Store}
use Rattle.exchange.specs.declared.Exchange.{Exchange}
use Rattle.exchange.specs.Steps.{memory_address, exchange_for}
use Rattle.exchange.specs.declared.Reply.{Reply}
use Rattle.exchange.specs.declared.Reply.TheVariants.{Done, Byte, Failed}
use Rattle.exchange.specs.State.{indexed, left, Begun}
use Rattle.exchange.specs.Turn.{pending_for, resized, report_of}
use Rattle.exchange.specs.Session.{AnswerCall, fits_exchange, taken, number_at, final, sent, broken_off, exchanges_of}
use Rattle.exchange.proofs.Answers.{cond_self}
use Rattle.exchange.proofs.Session.{session}
use Rattle.plans.specs.Configure.{feature_steps, limit_steps, calibration_steps, pid_steps, frequency_steps, rapid_stop_steps, phase_steps, custom_steps, driving_steps, gpi_steps, given_steps, trigger_steps, configure_steps}
use Rattle.sessions.specs.Sessions.{chunk_step, chunk_steps, lock_steps, send_steps}
use Rattle.driver.specs.Theorems.{all_steps, addressed}
use Rattle.driver.proofs.Begun.{Holds, all_dropped}

-- ---- the steps of a session

-- what holds of each step given, and of every memory read, holds of all of a session's
module _ (P : Step → Type 0) (store : (i : ℕ) → P (Store i)) where
  all_stores : (n i : ℕ) → All P (indexed Store i n)
  all_stores zero i = tt
  all_stores (suc n) i = (store i, all_stores n (suc i))

  pub every_step : (b : Begun) (xs : List Step) → All P xs → All P (all_steps b xs)
  every_step b xs p = all_append P xs _ p (all_stores (min b.reads 100) 0)

-- ---- steps that compare nothing

abbrev Plain : Step → Type 0
Plain (Write register value) = Unit
Plain (Read register) = Unit
Plain (Update register shift width value) = Unit
Plain (Match register value) = ⊥
Plain (Chunk offset len) = Unit
Plain (Store i) = Unit

abbrev pub AllPlain : List Step → Type 0
AllPlain xs = All Plain xs

pub all_plain : (b : Begun) (xs : List Step) → AllPlain xs → AllPlain (all_steps b xs)
all_plain = every_step Plain (λ i. tt)

-- ---- steps on registers alone, which write nothing from the waveform memory's first address on

abbrev Tame : Step → Type 0
Tame (Write register value) = ltb register 132 ≡ true
Tame (Read register) = ltb register 132 ≡ true
Tame (Update register shift width value) = ltb register 132 ≡ true
Tame (Match register value) = ⊥
Tame (Chunk offset len) = ⊥
Tame (Store i) = Unit

abbrev pub AllTame : List Step → Type 0
AllTame xs = All Tame xs

pub all_tame : (b : Begun) (xs : List Step) → AllTame xs → AllTame (all_steps b xs)
all_tame = every_step Tame (λ i. tt)

-- they compare nothing
pub plain : (xs : List Step) → AllTame xs → AllPlain xs
plain [] p = tt
plain (x ∷ xs) p = (one x p.0, plain xs p.1)
  where
    one : (x : Step) → Tame x → Plain x
    one (Write register value) h = tt
    one (Read register) h = tt
    one (Update register shift width value) h = tt
    one (Match register value) h = absurd h
    one (Chunk offset len) h = tt
    one (Store i) h = tt

-- what one writes into the memory
abbrev pub into : Exchange → List (ℕ × ℕ)
into e = cond (leb 132 (at e.bytes 0)) (addressed (at e.bytes 0) (drop 1 (take e.len e.bytes))) []

-- nothing
pub tame_exchanges : (xs : List Step) → AllTame xs → (address last : ℕ) (image bytes : List ℕ) → All (λ e. into e ≡ []) (exchanges_of address last image xs bytes)
tame_exchanges [] p address last image bytes = tt
tame_exchanges (x ∷ xs) p address last image bytes = (one x p.0, tame_exchanges xs p.1 address _ image _)
  where
    below : (register : ℕ) (l : List (ℕ × ℕ)) → ltb register 132 ≡ true → cond (leb 132 register) l [] ≡ []
    below register l h = ap (λ (b : Bool). cond b l []) (lt-leb 132 register (ltb-true register 132 h))

    one : (x : Step) → Tame x → into (exchange_for address last image x) ≡ []
    one (Write register value) h = below register _ h
    one (Read register) h = below register _ h
    one (Update register shift width value) h = below register _ h
    one (Match register value) h = absurd h
    one (Chunk offset len) h = absurd h
    one (Store i) h = cond_self (leb 132 (memory_address i)) []

-- ---- steps on registers alone, MEM_CTL2 not among them

abbrev apart : ℕ → Bool
apart register = not (eqb register 0x2D) && ltb register 132

abbrev pub Apart : Step → Type 0
Apart (Write register value) = apart register ≡ true
Apart (Read register) = ltb register 132 ≡ true
Apart (Update register shift width value) = apart register ≡ true
Apart (Store i) = Unit
Apart x = ⊥

pub tame_if : (xs : List Step) → All Apart xs → AllTame xs
tame_if [] p = tt
tame_if (x ∷ xs) p = (one x p.0, tame_if xs p.1)
  where
    one : (x : Step) → Apart x → Tame x
    one (Write register value) h = ((and-eq-true_iff (not (eqb register 0x2D)) (ltb register 132)).0 h).1
    one (Read register) h = h
    one (Update register shift width value) h = ((and-eq-true_iff (not (eqb register 0x2D)) (ltb register 132)).0 h).1
    one (Store i) h = tt
    one x h = absurd h

-- such are those of `configure`
pub frequency_apart : (hz : ℕ) → All Apart (frequency_steps hz)
unfolding frequency_steps
frequency_apart hz = (refl, (refl, tt))

pid_apart : (p : Option (ℕ × ℕ)) → All Apart (pid_steps p)
unfolding pid_steps
pid_apart None = tt
pid_apart (Some (kp, ki)) = (refl, (refl, (refl, (refl, tt))))

driving_apart : (m : DrivingMode) → All Apart (driving_steps m)
unfolding driving_steps phase_steps custom_steps
driving_apart FREQUENCY_TRACK = tt
driving_apart WIDEBAND = (refl, (refl, tt))
driving_apart CUSTOM_WAVEFORM = (refl, (refl, (refl, (refl, tt))))

gpi_apart : (digit : String) (t : Option TriggerConfig) → apart (address_of ("GPI_" & digit & "_CTL")) ≡ true → All Apart (gpi_steps digit t)
unfolding gpi_steps
gpi_apart digit None e = tt
gpi_apart digit (Some t) e = (e, tt)

given_apart : (r s t : Option TriggerConfig) → All Apart (given_steps r s t)
unfolding given_steps
given_apart r s t =
    all_append Apart (gpi_steps "0" r) (gpi_steps "1" s ++ gpi_steps "2" t) (gpi_apart "0" r refl)
    (all_append Apart (gpi_steps "1" s) (gpi_steps "2" t) (gpi_apart "1" s refl) (gpi_apart "2" t refl))

triggers_apart : (d : DeviceConfig) → All Apart (trigger_steps d)
unfolding trigger_steps
triggers_apart d =
    choice (All Apart) (etwm d.operation_mode) (given_steps d.gpi_trigger_0 d.gpi_trigger_1 d.gpi_trigger_2) []
    (given_apart d.gpi_trigger_0 d.gpi_trigger_1 d.gpi_trigger_2) tt

pub configure_apart : (a : ActuatorConfig) (d : DeviceConfig) → All Apart (configure_steps a d)
unfolding feature_steps limit_steps calibration_steps rapid_stop_steps
configure_apart a d =
    let mode = driving_steps d.driving_mode in
    let last = rapid_stop_steps ++ (mode ++ trigger_steps d) in
    let period = frequency_steps a.frequency_Hz in
    let end : All Apart last = (refl, (refl, all_append Apart mode (trigger_steps d) (driving_apart d.driving_mode) (triggers_apart d))) in
    let rest = all_append Apart (pid_steps a.pid_Kp_Ki) (period ++ last) (pid_apart a.pid_Kp_Ki) (all_append Apart period last (frequency_apart a.frequency_Hz) end) in
    (refl, (refl, (refl, (refl, (refl, (refl, (refl, (refl, (refl, (refl, rest))))))))))

-- ---- an upload compares nothing

chunk_plain : (n offset : ℕ) → AllPlain (chunk_step n offset)
unfolding chunk_step
chunk_plain n offset = choice AllPlain (ltb offset n) (Chunk offset (min 32 (n - offset)) ∷ []) [] (tt, tt) tt

lock_plain : (lock_after : Bool) → AllPlain (lock_steps lock_after)
unfolding lock_steps
lock_plain true = (tt, tt)
lock_plain false = tt

chunks_plain : (n : ℕ) → AllPlain (chunk_steps n)
unfolding chunk_steps
chunks_plain n =
    let last = chunk_step n 64 ++ chunk_step n 96 in
    all_append Plain (chunk_step n 0) (chunk_step n 32 ++ last) (chunk_plain n 0)
    (all_append Plain (chunk_step n 32) last (chunk_plain n 32) (all_append Plain (chunk_step n 64) (chunk_step n 96) (chunk_plain n 64) (chunk_plain n 96)))

pub send_plain : (n : ℕ) (lock_after : Bool) → AllPlain (send_steps n lock_after)
unfolding send_steps
send_plain n lock_after = (tt, all_append Plain (chunk_steps n) (lock_steps lock_after) (chunks_plain n) (lock_plain lock_after))

-- ---- what is told

-- where the next step compares nothing, no answer is told by 16
unmatched : (st : List ℕ) (l : List Step) → left st ≡ l → AllPlain l → (a : Reply) (n : ℕ) → ¬ ((report_of st a n).number ≡ 16)
unmatched st l p q a n e = go l p q a e (not-false (taken st a n) (sym (ap (λ (m : ℕ). eqb m 19) (sym e) ∙ session.takes st a n)))
  where
    plain : (x : Step) → Plain x → (register value : ℕ) → x ≡ Match register value → ⊥
    plain x q register value e = subst Plain e q

    go : (l : List Step) → left st ≡ l → AllPlain l → (a : Reply) → (report_of st a n).number ≡ 16 → taken st a n ≡ true → ⊥
    go l p q Done e t = omega (arith, e, session.done st n t)
    go l p q (Failed code) e t = omega (arith, e, (session.fails st code n t).0)
    go [] p q (Byte b) e t = true≢false (sym t ∙ ap (λ (m : List Step). fits_exchange (pending_for st m) (Byte b) && not (resized st n)) p)
    go (x ∷ xs) p q (Byte b) e t = omega (arith, e, session.reads st x xs b n p (plain x q.0) t)

-- at no time in a session that has such steps
pub never : {s : List ℕ} {b : Begun} {xs : List Step} → Holds s b xs → AllPlain xs → (cs : List AnswerCall) (c : AnswerCall) → ¬ (number_at (final s cs) c ≡ 16)
never {s} {b} {xs} h p cs c =
    let k = subst AllPlain (sym h.steps) p in
    unmatched (final s cs) _ (session.end s cs) (choice AllPlain (broken_off s cs) [] _ tt (all_dropped Plain (length (sent s cs)) (left s) k)) c.reply (length c.buffer)
