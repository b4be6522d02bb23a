-- What the chip holds after an upload's session went as far as it did: document 02, CR 14. The session is the driver's own: what it hands out, what an
-- answer tells and what it does are those of the contracts of `pending`, `answer` and `upload_waveform_memory`.
use Rattle.std.specs.Prelude.{ℕ, min, ◌≡◌, Bool, true, cond, List, [], ◌∷◌, ◌++◌, map, eqb}
use Rattle.memory.specs.declared.WaveformMemory.{WaveformMemory}
use Rattle.da728x.specs.declared.DA728x.{DA728x}
use Rattle.exchange.specs.declared.Step.{Step}
use Rattle.exchange.specs.declared.Exchange.{Exchange}
use Rattle.exchange.specs.State.{completed, begun_in}
use Rattle.exchange.specs.Turn.{pending_of}
use Rattle.exchange.specs.Session.{AnswerCall, number_at, after_call, final}
use Rattle.sessions.specs.Sessions.{set_unlocked, chunk_steps, lock_steps}
use Rattle.driver.specs.Operations as operation
use Rattle.driver.specs.Operations.{started_in, upload_begun}
use Rattle.chip.specs.declared.Chip.{Chip}
use Rattle.chip.specs.Writes.{reached, reached_all}

-- ---- one session

-- tries of an exchange: of each, how many of its bytes reached the chip
abbrev pub tried : List ℕ → Chip → Exchange → Chip
tried [] c e = c
tried (k ∷ ks) c e = tried ks (reached k c e) e

-- a call of `answer`, and the tries of the pending exchange before it
pub record Attempt : Type 0 where
  pub tries : List ℕ
  pub call : AnswerCall

-- we suppose that a caller answers done only where the exchange was made whole: so it was where 0 is told, whatever was tried before; where a failure is
-- told (17), or the answer is refused (19), it was only tried (16 is told of a read alone, which changes nothing)
abbrev pub answered : Chip → List ℕ → Attempt → Chip
answered c st a =
    let e = pending_of st in
    let d = tried a.tries c e in cond (eqb (number_at st a.call) 0) (reached_all d e) d

-- "However an upload is cut": after these calls, of which the last may tell a failure, the caller stops, and the exchange that is pending then may have
-- been tried
abbrev pub chip_after : Chip → List ℕ → List Attempt → List ℕ → Chip
chip_after c st [] last_tries = tried last_tries c (pending_of st)
chip_after c st (a ∷ attempts) last_tries = chip_after (answered c st a) (after_call st a.call) attempts last_tries

-- ---- runs of one upload

-- an upload begun with this record, in these lent bytes
abbrev pub uploading : WaveformMemory → Bool → DA728x → List ℕ → List ℕ
uploading m lock_after r session = started_in session (operation.upload_waveform_memory r m lock_after).start

-- the record and the bytes lent for the session that it is begun with, its calls, and the tries behind the last of them
pub record Run : Type 0 where
  pub driver : DA728x
  pub session : List ℕ
  pub attempts : List Attempt
  pub last_tries : List ℕ

abbrev pub calls : List Attempt → List AnswerCall
calls attempts = map (λ (a : Attempt). a.call) attempts

-- whether it is run to its end
abbrev pub is_whole : WaveformMemory → Bool → Run → Bool
is_whole m lock_after x = completed (final (uploading m lock_after x.driver x.session) (calls x.attempts))

abbrev pub after_upload : WaveformMemory → Bool → Chip → Run → Chip
after_upload m lock_after c x = chip_after c (uploading m lock_after x.driver x.session) x.attempts x.last_tries

-- one run after the other; "between them nothing else is written and the chip keeps its power"
abbrev pub one_by_one : {A : Type 0} → (Chip → A → Chip) → Chip → List A → Chip
one_by_one f c [] = c
one_by_one f c (x ∷ xs) = one_by_one f (f c x) xs

abbrev pub after_uploads : WaveformMemory → Bool → Chip → List Run → Chip
after_uploads m lock_after c xs = one_by_one (after_upload m lock_after) c xs

-- ---- the same for runs that unlock the memory, as the driver's do, or do not

pub record AnyRun : Type 0 where
  pub unlocks : Bool
  pub run : Run

-- unlock or not, the bytes, and lock if asked
abbrev pub run_steps : Bool → WaveformMemory → Bool → List Step
run_steps unlocks m lock_after = cond unlocks (set_unlocked true ∷ []) [] ++ (chunk_steps (min m.len 100) ++ lock_steps lock_after)

abbrev pub running : WaveformMemory → Bool → AnyRun → List ℕ
running m lock_after x = begun_in x.run.session (upload_begun x.run.driver m) (run_steps x.unlocks m lock_after)

abbrev pub is_whole_run : WaveformMemory → Bool → AnyRun → Bool
is_whole_run m lock_after x = completed (final (running m lock_after x) (calls x.run.attempts))

abbrev pub after_run : WaveformMemory → Bool → Chip → AnyRun → Chip
after_run m lock_after c x = chip_after c (running m lock_after x) x.run.attempts x.run.last_tries

abbrev pub after_runs : WaveformMemory → Bool → Chip → List AnyRun → Chip
after_runs m lock_after c xs = one_by_one (after_run m lock_after) c xs

-- each try, each answer and each run counts, one after the other: the same from behind
pub record OneByOne : Type 0 where
  pub tries : (ks : List ℕ) (k : ℕ) (c : Chip) (e : Exchange) → tried (ks ++ (k ∷ [])) c e ≡ reached k (tried ks c e) e
  pub untried : (c : Chip) (e : Exchange) → tried [] c e ≡ c
  pub begun : (c : Chip) (st : List ℕ) → chip_after c st [] [] ≡ c
  pub stopped : (c : Chip) (st : List ℕ) (attempts : List Attempt) (ks : List ℕ) →
      chip_after c st attempts ks ≡ tried ks (chip_after c st attempts []) (pending_of (final st (calls attempts)))
  pub answers : (c : Chip) (st : List ℕ) (attempts : List Attempt) (a : Attempt) →
      let e = pending_of (final st (calls attempts)) in
      let d = tried a.tries (chip_after c st attempts []) e in
      chip_after c st (attempts ++ (a ∷ [])) [] ≡ cond (eqb (number_at (final st (calls attempts)) a.call) 0) (reached_all d e) d
  pub uploads : (m : WaveformMemory) (lock_after : Bool) (c : Chip) (xs : List Run) (x : Run) →
      after_uploads m lock_after c (xs ++ (x ∷ [])) ≡ after_upload m lock_after (after_uploads m lock_after c xs) x
  pub no_upload : (m : WaveformMemory) (lock_after : Bool) (c : Chip) → after_uploads m lock_after c [] ≡ c
  pub runs : (m : WaveformMemory) (lock_after : Bool) (c : Chip) (xs : List AnyRun) (x : AnyRun) →
      after_runs m lock_after c (xs ++ (x ∷ [])) ≡ after_run m lock_after (after_runs m lock_after c xs) x
  pub no_run : (m : WaveformMemory) (lock_after : Bool) (c : Chip) → after_runs m lock_after c [] ≡ c
