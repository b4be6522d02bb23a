-- As many bytes come as the exchanges made want, where no answer broke the session off.
-- Assumes nothing.
use Prim.Native.Nat.{ℕ}
use native.Mathlib.Omega.{arith}
use mathlib.Core.Path.{◌≡◌, refl, sym, ap, ◌∙◌}
use mathlib.Core.Bool.{Bool, false, cond, ◌||◌, true≢false}
use mathlib.Core.List.{List, [], ◌∷◌, ◌++◌}
use lib.Dec.{eqb}
use lib.ListN.{length}
use Rattle.std.specs.Prelude.{Option, Some, None}
use Rattle.exchange.specs.declared.Step.{Step}
use Rattle.exchange.specs.declared.Step.TheVariants.{Write, Read, Update, Match, Chunk, Store}
use Rattle.exchange.specs.declared.Fit.{Fit}
use Rattle.exchange.specs.declared.Fit.TheVariants.{Broke, Went, Got, Kept, Wrong}
use Rattle.exchange.specs.Steps.{exchange_for}
use Rattle.exchange.specs.State.{left}
use Rattle.exchange.specs.Turn.{pending_of, pending_for, wanted, fit_of, effect_of}
use Rattle.exchange.specs.Session.{AnswerCall, after_call, sent, came, broken_off}
use Rattle.exchange.proofs.Latest.{bytes_wanted}
use Rattle.exchange.proofs.Effects.{made_taken, came_taken, stage_breaks}
use Rattle.exchange.proofs.Turns.{Turned, turned}

-- the exchange of a step wants as many bytes as the step
wants : (address last : ℕ) (image : List ℕ) (x : Step) → (exchange_for address last image x).wanted ≡ wanted x
wants address last image (Write r v) = refl
wants address last image (Read r) = refl
wants address last image (Update r s w v) = refl
wants address last image (Match r v) = refl
wants address last image (Chunk i n) = refl
wants address last image (Store i) = refl

pending_wants : (st : List ℕ) (x : Step) (xs : List Step) (n : ℕ) → left st ≡ x ∷ xs → wanted x ≡ n → (pending_of st).wanted ≡ n
pending_wants st x xs n e h = ap (λ (l : List Step). (pending_for st l).wanted) e ∙ wants _ _ _ x ∙ h

-- by how the first answer fits
comes_by : (f : Option Fit) (st t : List ℕ) (cs : List AnswerCall) → Turned f st t →
    (broken_off t cs ≡ false → length (came t cs) ≡ bytes_wanted (sent t cs)) → eqb (effect_of f).stage 2 || broken_off t cs ≡ false →
    length ((effect_of f).came ++ came t cs) ≡ bytes_wanted (cond (effect_of f).counts (pending_of st ∷ []) [] ++ sent t cs)
comes_by None st t cs g k h = k h
comes_by (Some (Broke code)) st t cs g k h = absurd (true≢false h)
comes_by (Some Went) st t cs g k h = omega (arith, k h, pending_wants st _ _ _ g.before g.reads)
comes_by (Some (Got b)) st t cs g k h = omega (arith, k h, pending_wants st _ _ _ g.before g.reads)
comes_by (Some (Kept i b)) st t cs g k h = omega (arith, k h, pending_wants st _ _ _ g.before g.reads)
comes_by (Some (Wrong b)) st t cs g k h = absurd (true≢false h)

-- every list of answers
pub comes : (cs : List AnswerCall) (st : List ℕ) → broken_off st cs ≡ false → length (came st cs) ≡ bytes_wanted (sent st cs)
comes [] st h = refl
comes (c ∷ cs) st h =
    let b = c.reply in
    let n = length c.buffer in
    let t = after_call st c in
    let k = comes_by (fit_of st b n) st t cs (turned st c) (comes cs t) (ap (λ (q : Bool). q || broken_off t cs) (sym (stage_breaks st b n)) ∙ h) in
    ap (λ (l : List ℕ). length (l ++ came t cs)) (came_taken st b n)
    ∙ k
    ∙ ap (λ (m : Bool). bytes_wanted (cond m (pending_of st ∷ []) [] ++ sent t cs)) (sym (made_taken st b n))
