-- Memory reads store each byte at its own index, and change no other.
-- Assumes nothing.
use Prim.Native.Nat.{ℕ, suc, zero, ◌+◌, ◌≤◌, ◌<◌}
use native.Mathlib.Omega.{arith}
use native.Mathlib.Nat.{add-zero}
use mathlib.Core.Path.{◌≡◌, sym, ◌∙◌, ap, subst}
use mathlib.Core.Bool.{Bool, true, false, cond}
use mathlib.Core.List.{List, [], ◌∷◌, ◌++◌, append-nil}
use lib.ListN.{length, take, drop, set, length-set, take-append-drop}
use lib.Seq.{take-suc-set, drop-set-lt, append_snoc}
use Rattle.std.specs.Prelude.{Option, None}
use Rattle.laws.specs.Copied.{over}
use Rattle.exchange.specs.declared.Step.{Step}
use Rattle.exchange.specs.declared.Step.TheVariants.{Store}
use Rattle.exchange.specs.declared.Reply.{Reply}
use Rattle.exchange.specs.declared.Reply.TheVariants.{Done, Byte, Failed}
use Rattle.exchange.specs.declared.Fit.{Fit}
use Rattle.exchange.specs.State.{indexed, left}
use Rattle.exchange.specs.Turn.{fits_next, resized, fit_of, effect_of, state_after, buffer_after}
use Rattle.exchange.specs.Session.{after_call, came, lending, filled}
use Rattle.exchange.proofs.Effects.{came_taken}
use Rattle.exchange.proofs.Moves.{left_moved, left_broken, state_by}

-- no bytes laid over a list
over_none : (l : List ℕ) (i : ℕ) → l ≡ over l i []
over_none l i = simp (append-nil, add-zero, take-append-drop)

-- a byte stored at i, and the others laid over behind it
over_more : (l : List ℕ) (i b : ℕ) (bytes : List ℕ) → i < length l → over (set l i b) (suc i) bytes ≡ over l i (b ∷ bytes)
over_more l i b bytes h =
    let n : suc i + length bytes ≡ i + suc (length bytes) = omega arith in
    ap (λ (k : List ℕ). k ++ bytes ++ drop (suc i + length bytes) (set l i b)) (take-suc-set l i b h)
    ∙ ap (λ (k : List ℕ). take i l ++ (b ∷ []) ++ bytes ++ k) (drop-set-lt (suc i + length bytes) l i b (omega arith) ∙ ap (λ (j : ℕ). drop j l) n)
    ∙ ap (λ (k : List ℕ). k ++ drop (i + suc (length bytes)) l) (append_snoc (take i l) b bytes)

-- what is to be shown of a run of answers
abbrev Filled : List ℕ → List ℕ → ℕ → List Reply → Type 0
Filled st buffer i replies = filled st buffer replies ≡ over buffer i (came st (lending st buffer replies))

-- the same, where the first answer fits so
abbrev FilledBy : Option Fit → List ℕ → List ℕ → ℕ → List Reply → Type 0
FilledBy f st buffer i replies =
    let e = effect_of f in
    let t = state_by st e in
    filled t (e.buffer buffer) replies ≡ over buffer i (e.came ++ came t (lending t (e.buffer buffer) replies))

module _ (replies : List Reply) (ih : (st : List ℕ) (i n : ℕ) (buffer : List ℕ) → left st ≡ indexed Store i n → i + n ≤ length buffer → Filled st buffer i replies) where
  -- by whether the buffer's length changed, how many reads are left, and the answer
  fills_by : (st : List ℕ) (k : Bool) (i n : ℕ) (buffer : List ℕ) (a : Reply) → left st ≡ indexed Store i n → i + n ≤ length buffer →
      FilledBy (cond k None (fits_next (indexed Store i n) a)) st buffer i replies
  fills_by st true i n buffer a e h = ih st i n buffer e h
  fills_by st false i zero buffer a e h = ih st i zero buffer e h
  fills_by st false i (suc n) buffer Done e h = ih st i (suc n) buffer e h
  fills_by st false i (suc n) buffer (Failed code) e h = ih _ i 0 buffer (left_broken st _ _ e []) (omega arith)
  fills_by st false i (suc n) buffer (Byte b) e h =
      let l : length (set buffer i b) ≡ length buffer = length-set buffer i b in
      ih _ (suc i) n (set buffer i b) (left_moved st _ _ e (b ∷ [])) (omega arith)
      ∙ over_more buffer i b _ (omega arith)

-- every run of memory reads
pub fills : (replies : List Reply) (st : List ℕ) (i n : ℕ) (buffer : List ℕ) → left st ≡ indexed Store i n → i + n ≤ length buffer → Filled st buffer i replies
unfolding fit_of after_call state_after buffer_after
fills [] st i n buffer e h = over_none buffer i
fills (a ∷ replies) st i n buffer e h =
    let k = resized st (length buffer) in
    subst (λ (l : List Step). FilledBy (cond k None (fits_next l a)) st buffer i replies) (sym e)
    (fills_by replies (fills replies) st k i n buffer a e h)
    ∙ ap (λ (l : List ℕ). over buffer i (l ++ came (state_after st a (length buffer)) (lending (state_after st a (length buffer)) (buffer_after st a buffer) replies))) (sym (came_taken st a (length buffer)))
