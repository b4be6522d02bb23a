-- One run of an upload. Assumes nothing.
use Rattle.std.proofs.Common.{ℕ, ◌≤◌, min, ◌≡◌, ◌∙◌, ◌⊎◌, inl, inr, refl, sym, ap, subst, Bool, true, false, eqb, eqb-true, List, [], length, arith}
use Rattle.std.proofs.lemmas.Bool.{true≢false, eqb-false}
use mathlib.Core.List.{append-nil}
use Rattle.laws.specs.Bytes.{All}
use Rattle.memory.specs.declared.WaveformMemory.{WaveformMemory}
use Rattle.exchange.specs.declared.Step.{Step}
use Rattle.exchange.specs.State.{is_session, is_unbroken, read_count, left, completed, Begun, begun_in}
use Rattle.exchange.proofs.Session.{session}
use Rattle.sessions.specs.Sessions.{send_steps}
use Rattle.driver.specs.Operations.{upload_begun, upload_steps}
use Rattle.driver.proofs.Answers.{fits_upload}
use Rattle.driver.proofs.Begun.{holds}
use Rattle.chip.specs.declared.Chip.{Chip}
use Rattle.chip.specs.Writes.{holding}
use Rattle.chip.specs.Runs.{AnyRun, run_steps, running, is_whole_run, after_run}
use Rattle.chip.specs.Repeated.{Sized}
use Rattle.chip.proofs.Runs.{stays, Of, run, Idle, idle_run}
use Rattle.chip.proofs.Upload.{ahead, done, Stage, waiting, sending, keeps, at_end, Stopped, stopped, harmless, all_shut, all_spared}

-- how many bytes are shown
abbrev pub size : WaveformMemory → ℕ
size m = min m.len 100

-- ---- what a run begins with

few_steps : (unlocks : Bool) (m : WaveformMemory) (lock_after : Bool) → length (upload_steps m lock_after) ≤ 25 → length (run_steps unlocks m lock_after) ≤ 25
unfolding send_steps
few_steps true m lock_after h = h
few_steps false m lock_after h = omega arith

-- a session of these steps, for its chip and with the image
pub record Begins (m : WaveformMemory) (lock_after : Bool) (x : AnyRun) : Type 0 where
  pub of : Of x.run.driver.address m.«data» (running m lock_after x)
  pub steps : left (running m lock_after x) ≡ run_steps x.unlocks m lock_after
  pub reads : read_count (running m lock_after x) ≡ 0
  pub opened : is_unbroken (running m lock_after x) ≡ true

pub begins : (m : WaveformMemory) (lock_after : Bool) (x : AnyRun) → length m.«data» ≡ 100 → is_session x.run.session ≡ true → Begins m lock_after x
begins m lock_after x e s =
    let f = fits_upload x.run.driver m lock_after e in
    let h = holds x.run.session (upload_begun x.run.driver m) (run_steps x.unlocks m lock_after) s (few_steps x.unlocks m lock_after f.0, f.1, f.2, f.3) in
    record {
      of = record { session = h.session; address_is = h.address; image_is = h.image };
      steps = h.steps ∙ append-nil (run_steps x.unlocks m lock_after);
      reads = h.reads;
      opened = h.opened;
    }

-- bytes that are no session begin nothing
pub none_begun : (st : List ℕ) (b : Begun) (xs : List Step) → is_session st ≡ false → begun_in st b xs ≡ st
unfolding begun_in
none_begun st b xs e = rw e

pub no_steps : (st : List ℕ) → is_session st ≡ false → (left st ≡ []) × (completed st ≡ false)
no_steps st s = session.closed st (rw s)

-- what a run leaves, and one that is completed
pub record One (m : WaveformMemory) (lock_after : Bool) (c : Chip) (x : AnyRun) : Type 0 where
  pub leaves : (after_run m lock_after c x ≡ c) ⊎ ((x.run.driver.address ≡ c.address) × Stopped c m.«data» (size m) lock_after (after_run m lock_after c x))
  pub whole : x.run.driver.address ≡ c.address → is_whole_run m lock_after x ≡ true → (x.unlocks ≡ true) ⊎ (c.unlocked ≡ true) →
      after_run m lock_after c x ≡ done c m.«data» (size m) lock_after
  pub shut : x.unlocks ≡ false → c.unlocked ≡ false → after_run m lock_after c x ≡ c

-- one that leaves the chip, and is not for it, or not completed
idle : (m : WaveformMemory) (lock_after : Bool) (c : Chip) (x : AnyRun) → after_run m lock_after c x ≡ c →
    (x.run.driver.address ≡ c.address → is_whole_run m lock_after x ≡ true → ⊥) → One m lock_after c x
idle m lock_after c x e n = record { leaves = inl e; whole = λ a w u. absurd (n a w); shut = λ u s. e }

module _ (m : WaveformMemory) (lock_after : Bool) (c : Chip) (x : AnyRun) (z : Sized m c) where
  abbrev st : List ℕ
  st = running m lock_after x

  abbrev image : List ℕ
  image = m.«data»

  small : size m ≤ 100
  small = omega arith

  -- in the stages of an upload
  module _ (b : Begins m lock_after x) (own : x.run.driver.address ≡ c.address) where
    of : Of c.address image st
    of = subst (λ (a : ℕ). Of a image st) own b.of

    staged : Stage c image z.0 z.1 (size m) small lock_after (run_steps x.unlocks m lock_after) c → ¬ ((x.unlocks ≡ false) × (c.unlocked ≡ false)) → One m lock_after c x
    staged p n =
        let S = Stage c image z.0 z.1 (size m) small lock_after in
        let r = run S c.address image (keeps c image z.0 z.1 (size m) small lock_after) x.run.attempts st c x.run.last_tries of (subst (λ (xs : List Step). S xs c) (sym b.steps) p) in
        record {
          leaves = inr (own, stopped c image z.0 z.1 (size m) small lock_after r.steps (after_run m lock_after c x) r.holds);
          whole = λ a w u. at_end c image z.0 z.1 (size m) small lock_after (after_run m lock_after c x) (r.whole w);
          shut = λ u s. absurd (n (u, s));
        }

    by_flags : (unlocks unlocked : Bool) → x.unlocks ≡ unlocks → c.unlocked ≡ unlocked → One m lock_after c x
    by_flags true unlocked u v =
        staged (subst (λ (f : Bool). Stage c image z.0 z.1 (size m) small lock_after (run_steps f m lock_after) c) (sym u)
        (waiting _ c (ahead (size m) lock_after small) (inl refl))) (λ h. true≢false (sym u ∙ h.0))
    by_flags false true u v =
        staged (subst (λ (f : Bool). Stage c image z.0 z.1 (size m) small lock_after (run_steps f m lock_after) c) (sym u)
        (sending 0 0 _ c (ahead (size m) lock_after small) (omega arith) (omega arith) (ap (holding c c.bytes) v))) (λ h. true≢false (sym v ∙ h.1))
    by_flags false false u v =
        let h = all_shut c image v _ (harmless (size m) lock_after 0 _ small (ahead (size m) lock_after small)) in
        let p = subst (λ (xs : List Step). All (Idle c c.address image) xs) (sym (b.steps ∙ ap (λ (f : Bool). run_steps f m lock_after) u)) h in
        let r = idle_run c c.address image st of p x.run.attempts x.run.last_tries in
        record {
          leaves = inl r;
          whole = λ a w k. absurd (go k);
          shut = λ k s. r;
        }
      where
        go : (x.unlocks ≡ true) ⊎ (c.unlocked ≡ true) → ⊥
        go (inl k) = true≢false (sym k ∙ u)
        go (inr k) = true≢false (sym k ∙ v)

  by_address : (k : Bool) → eqb x.run.driver.address c.address ≡ k → Begins m lock_after x → One m lock_after c x
  by_address true e b = by_flags b (eqb-true _ _ e) x.unlocks c.unlocked refl refl
  by_address false e b =
      let other = eqb-false _ _ e in
      let a = x.run.driver.address in
      idle m lock_after c x (idle_run c a image st b.of (all_spared c a image other (left st)) x.run.attempts x.run.last_tries) (λ a w. other a)

  by_session : (k : Bool) → is_session x.run.session ≡ k → One m lock_after c x
  by_session true e = by_address (eqb x.run.driver.address c.address) refl (begins m lock_after x z.0 e)
  by_session false e =
      let n = no_steps x.run.session e in
      let s : st ≡ x.run.session = none_begun x.run.session (upload_begun x.run.driver m) (run_steps x.unlocks m lock_after) e in
      let k = stays x.run.attempts st (ap left s ∙ n.0) in
      idle m lock_after c x (k.chip c x.run.last_tries) (λ a w. true≢false (sym w ∙ k.ends ∙ ap completed s ∙ n.1))

  pub one : One m lock_after c x
  one = by_session (is_session x.run.session) refl
