-- A session whose one step must read a value is completed exactly if the one byte that came is that value. Assumes nothing.
use Prim.Native.Nat.{ℕ}
use mathlib.Core.Path.{◌≡◌, refl, sym, ◌∙◌, ap}
use mathlib.Core.Bool.{Bool, true, false, cond, not, ◌&&◌, true≢false}
use mathlib.Core.List.{List, [], ◌∷◌, ◌++◌}
use lib.Dec.{eqb}
use lib.ListN.{length}
use Rattle.laws.specs.Lists.{at}
use Rattle.exchange.specs.declared.Step.{Step}
use Rattle.exchange.specs.declared.Step.TheVariants.{Match}
use Rattle.exchange.specs.declared.Reply.{Reply}
use Rattle.exchange.specs.declared.Reply.TheVariants.{Done, Byte, Failed}
use Rattle.exchange.specs.State.{left, completed}
use Rattle.exchange.specs.Turn.{pending_for, resized, report_of}
use Rattle.exchange.specs.Session.{AnswerCall, fits_exchange, taken, number_at, reply_bytes, breaks, after_call, final, came}
use Rattle.exchange.proofs.Cases.{Case, same, broken, went, case, idle_state}
use Rattle.exchange.proofs.Session.{session}
use Rattle.driver.proofs.Records.{taken_none, untaken, idle, unfinished, finished}

-- nothing comes where no step is left
came_none : (cs : List AnswerCall) (st : List ℕ) → left st ≡ [] → came st cs ≡ []
came_none [] st e = refl
came_none (c ∷ cs) st e =
    ap (λ (k : Bool). cond k (reply_bytes c.reply) [] ++ came (after_call st c) cs) (taken_none st c.reply (length c.buffer) e)
    ∙ ap (λ (t : List ℕ). came t cs) (idle_state st c e) ∙ came_none cs st e

-- whether one byte came, and is this
abbrev pub came_only : List ℕ → ℕ → Bool
came_only bytes value = eqb (length bytes) 1 && eqb (at bytes 0) value

module _ (register value : ℕ) where
  abbrev Creates : List AnswerCall → Type 0
  Creates cs = (st : List ℕ) → left st ≡ Match register value ∷ [] → completed (final st cs) ≡ came_only (came st cs) value

  module _ (c : AnswerCall) (cs : List AnswerCall) (later : Creates cs) (st : List ℕ) (e : left st ≡ Match register value ∷ []) where
    abbrev t : List ℕ
    t = after_call st c

    abbrev Created : List ℕ → Type 0
    Created bytes = completed (final t cs) ≡ came_only (bytes ++ came t cs) value

    -- the answer ended the session
    over : (bytes : List ℕ) (k : Bool) → left t ≡ [] → completed t ≡ k → came_only bytes value ≡ k → (bytes ++ [] ≡ bytes) → Created bytes
    over bytes k l d h n =
        ap completed (idle cs t l) ∙ d ∙ sym h
        ∙ ap (λ (m : List ℕ). came_only m value) (sym (ap (λ (m : List ℕ). bytes ++ m) (came_none cs t l) ∙ n))

    -- broken off
    off : (bytes : List ℕ) → breaks (number_at st c) ≡ true → came_only bytes value ≡ false → (bytes ++ [] ≡ bytes) → Created bytes
    unfolding after_call
    off bytes h k n = let w = session.ends st c.reply (length c.buffer) h in over bytes false w.0 w.1 k n

    -- gone on, to the end
    on : (bytes : List ℕ) → eqb (number_at st c) 0 ≡ true → came_only bytes value ≡ true → (bytes ++ [] ≡ bytes) → Created bytes
    on bytes h k n = go (case st c)
      where
        go : Case st c → Created bytes
        go (same m w) = absurd (true≢false (sym h ∙ w))
        go (broken x xs p q w r) = absurd (true≢false (sym h ∙ w))
        go (went x xs p q o w) =
            let z : left t ≡ [] = q ∙ ap tail (sym p ∙ e) in
            over bytes true z (finished t o z) k n
          where
            tail : List Step → List Step
            tail [] = []
            tail (x ∷ xs) = xs

    byte : (b : ℕ) (q : Bool) → eqb b value ≡ q → number_at st c ≡ cond q 0 16 → Created (b ∷ [])
    byte b true p h = on (b ∷ []) (ap (λ (n : ℕ). eqb n 0) h) p refl
    byte b false p h = off (b ∷ []) (ap breaks h) p refl

    -- by the answer, and whether it is taken back
    by : (a : Reply) → c.reply ≡ a → (k : Bool) → taken st a (length c.buffer) ≡ k → Created (cond k (reply_bytes a) [])
    by a p false h = ap (λ (s : List ℕ). completed (final s cs)) (untaken st c (ap (λ (x : Reply). taken st x (length c.buffer)) p ∙ h))
        ∙ later st e
        ∙ ap (λ (s : List ℕ). came_only (came s cs) value) (sym (untaken st c (ap (λ (x : Reply). taken st x (length c.buffer)) p ∙ h)))
    by Done p true h = absurd (true≢false (sym h ∙ ap (λ (l : List Step). fits_exchange (pending_for st l) Done && not (resized st (length c.buffer))) e))
    by (Failed code) p true h =
        off [] (ap (λ (a : Reply). breaks (report_of st a (length c.buffer)).number) p ∙ ap breaks (session.fails st code (length c.buffer) h).0) refl refl
    by (Byte b) p true h =
        byte b (eqb b value) refl
        (ap (λ (a : Reply). (report_of st a (length c.buffer)).number) p ∙ session.matches st [] register value b (length c.buffer) e h)

  pub creates : (cs : List AnswerCall) → Creates cs
  creates [] st e = unfinished st _ _ e
  creates (c ∷ cs) st e = by c cs (creates cs) st e c.reply refl (taken st c.reply (length c.buffer)) refl
