-- Runs that unlock the memory first or do not, and uploads that nothing disturbs. Assumes nothing.
use Rattle.std.proofs.Common.{ℕ, ◌≡◌, ◌∙◌, refl, sym, ap, Bool, true, false, true≢false, cond, not, ◌&&◌, ◌||◌, List, [], ◌∷◌, ◌++◌, length, drop, arith}
use mathlib.Core.List.{cons-ne-nil}
use Rattle.laws.specs.Bytes.{All}
use Rattle.memory.specs.declared.WaveformMemory.{WaveformMemory}
use Rattle.exchange.specs.declared.Step.{Step}
use Rattle.exchange.specs.declared.Reply.TheVariants.{Done}
use Rattle.exchange.specs.State.{is_session, is_unbroken, none_left, completed}
use Rattle.exchange.specs.Turn.{pending_of}
use Rattle.exchange.specs.Session.{breaks, after_call, final}
use Rattle.exchange.proofs.Session.{session}
use Rattle.sessions.specs.Sessions.{chunk_steps, lock_steps, send_steps}
use Rattle.chip.specs.Runs.{Attempt, calls, AnyRun, run_steps, running}
use Rattle.chip.specs.General.{General}
use Rattle.chip.proofs.Upload.{ahead, Harmless, harmless}
use Rattle.chip.proofs.One.{size, one, begins}
use Rattle.chip.proofs.Reaches.{Sends, sends_if, Ready, call, done, fits_done, takes, told_done, next}
use Rattle.chip.proofs.Repeated.{repeats}

-- ---- nothing disturbs it

abbrev pub Undisturbed : List ℕ → Type 0
Undisturbed st = (attempts : List Attempt) × All (λ (a : Attempt). a.tries ≡ []) attempts × (completed (final st (calls attempts)) ≡ true)

-- the last step
last_made : {address : ℕ} {image : List ℕ} (st : List ℕ) (x : Step) → Ready address image st (x ∷ []) → Sends x → completed (after_call st (call Done)) ≡ true
last_made st x r s =
    session.completes st (call Done ∷ []) (opened (is_unbroken st) refl)
    ∙ (λ i. not (breaks (told_done r s i) || false) && none_left (drop (length (cond (takes r s Done (fits_done st x [] s) i) (pending_of st ∷ []) [] ++ [])) (r.steps i)))
  where
    opened : (b : Bool) → is_unbroken st ≡ b → b ≡ true
    opened true o = refl
    opened false o = absurd (cons-ne-nil x [] (sym r.steps ∙ (session.closed st o).0))

-- a step that is made leaves the session open
next_open : {address : ℕ} {image : List ℕ} (xs : List Step) (st : List ℕ) (x : Step) → Ready address image st (x ∷ xs) → Sends x → (b : Bool) →
    is_unbroken (after_call st (call Done)) ≡ b → b ≡ true
next_open xs st x r s true o = refl
next_open [] st x r s false o = absurd (true≢false (sym (last_made st x r s) ∙ (session.closed (after_call st (call Done)) o).1))
next_open (y ∷ ys) st x r s false o = absurd (cons-ne-nil y ys (sym (next r s).steps ∙ (session.closed (after_call st (call Done)) o).0))

to_end : {address : ℕ} {image : List ℕ} (xs : List Step) (st : List ℕ) → Ready address image st xs → All Sends xs → is_unbroken st ≡ true → Undisturbed st
to_end [] st r h o = ([], tt, session.completes st [] o ∙ ap none_left r.steps)
to_end (x ∷ xs) st r h o =
    let k = to_end xs (after_call st (call Done)) (next r h.0) h.1 (next_open xs st x r h.0 (is_unbroken (after_call st (call Done))) refl) in
    (done ∷ k.0, (refl, k.1), k.2)

all_send : (xs : List Step) → All Harmless xs → All Sends xs
all_send [] h = tt
all_send (x ∷ xs) h = (sends_if x h.0, all_send xs h.1)

steps_send : (unlocks : Bool) (m : WaveformMemory) (lock_after : Bool) → All Sends (run_steps unlocks m lock_after)
steps_send unlocks m lock_after = go unlocks where
  tail : All Sends (chunk_steps (size m) ++ lock_steps lock_after)
  tail = all_send _ (harmless (size m) lock_after 0 _ (omega arith) (ahead (size m) lock_after (omega arith)))

  go : (u : Bool) → All Sends (run_steps u m lock_after)
  go true = ((λ address last image. refl), tail)
  go false = tail

pub undisturbed : (m : WaveformMemory) (lock_after : Bool) (x : AnyRun) → length m.«data» ≡ 100 → is_session x.run.session ≡ true → Undisturbed (running m lock_after x)
undisturbed m lock_after x e s =
    let b = begins m lock_after x e s in
    to_end (run_steps x.unlocks m lock_after) (running m lock_after x) (record { of = b.of; steps = b.steps; reads = b.reads }) (steps_send x.unlocks m lock_after) b.opened

pub general : General
unfolding send_steps
general = record {
  repeated = repeats;
  ours = λ m lock_after c x. (refl, refl, refl);
  shut = λ m lock_after c x z l u. (one m lock_after c x z).shut u l;
  undisturbed = λ m lock_after unlocks r st e s.
      undisturbed m lock_after (record { unlocks = unlocks; run = record { driver = r; session = st; attempts = []; last_tries = [] } }) e s;
}
