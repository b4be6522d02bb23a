-- The two forms that make an image. Assumes nothing.
use mathlib.Core.Path.{◌≡◌, refl, sym, ap, ◌∙◌}
use mathlib.Core.Logic.{◌⊎◌, inl, inr}
use mathlib.Core.Bool.{Bool, true, false, cond}
use mathlib.Core.List.{List, [], ◌∷◌, ◌++◌}
use Prim.Native.Nat.{ℕ, suc, ◌+◌, ◌*◌, ◌≤◌, ◌<◌}
use native.Mathlib.Nat.{min-eq_left, min-eq_right, lt_of_not-le}
use native.Mathlib.Decide.{dec_le}
use native.Mathlib.Omega.{arith}
use borrow.Author.Tests.{lt-ltb, le-ltb, ltb-true, ltb-false}
use lib.Dec.{ltb}
use lib.ListN.{length, drop}
use Rattle.std.specs.Prelude.{Option, None, Result, Ok, Err}
use Rattle.std.specs.Result.{result_map_both}
use Rattle.errors.specs.declared.Error.{Error}
use Rattle.errors.specs.Number.{error_number, answer_number}
use Rattle.errors.specs.Told.{Told, refuses, told_number}
use Rattle.laws.specs.Whole.{whole, whole_out}
use Rattle.laws.proofs.Whole.{whole_or_nothing}
use Rattle.pattern.specs.Calls.{memory_from}
use Rattle.pattern.specs.Demand.{Pattern}
use Rattle.pattern.proofs.Demand3.{demand3}
use Rattle.assemble.specs.Lists.{groups_of, answers_of, built_of, last_place, with_place, first_refused}
use Rattle.assemble.specs.declared.Refusal.{Refusal}
use Rattle.assemble.specs.Refusal.{first_number, strict_number}
use Rattle.assemble.specs.Items.{image_item, strict_item, leniently, strictly}
use Rattle.assemble.specs.Strict.{AllAccepted, Assembled, Strict}
use Rattle.assemble.proofs.Numbers.{answer_numbers, build_number}

-- ---- as the code answers it

-- an item's answer and what it leaves, by what the item is
same_item : (buffer : List ℕ) {a b : Told (List ℕ)} → a ≡ b → (told_number (whole buffer a) ≡ told_number (whole buffer b)) × (whole_out buffer a ≡ whole_out buffer b)
same_item buffer e = (ap (λ (t : Told (List ℕ)). told_number (whole buffer t)) e, ap (whole_out buffer) e)

module _ (calls : List ℕ) where
  abbrev f : ℕ
  f = first_refused 0 (answers_of calls)

  -- a call was refused, and none was
  refused_item : 0 < f → refuses f ≡ strict_item calls
  refused_item h = simp (lt-ltb 0 f h)

  image_item_lem : f ≤ 0 → image_item calls ≡ strict_item calls
  image_item_lem h = simp (le-ltb 0 f h)

  module _ (told : ℕ) (e : told ≡ f) (buffer : List ℕ) where
    pub strict_refused : 0 < told → (told ≡ strictly buffer calls) × (buffer ≡ whole_out buffer (strict_item calls))
    strict_refused h = same_item buffer (ap refuses e ∙ refused_item (omega arith))

  -- the build's refusal has no place
  placed : (r : Result Unit Error) → strict_number (result_map_both (λ u. u) (λ (e : Error). record { error = e; place = None }) r) ≡ answer_number r
  placed (Ok u) = refl
  placed (Err e) = let add : error_number e + 0 ≡ error_number e = omega arith in add

  pub strict_built : (buffer buffer' : List ℕ) (first : Option Refusal) → first ≡ None → first_number first ≡ f
      → (built : Result Unit Error) (told : Result Unit Refusal) → (answer_number built ≡ leniently buffer calls) × (buffer' ≡ whole_out buffer (image_item calls))
      → told ≡ result_map_both (λ u. u) (λ (e : Error). record { error = e; place = None }) built
      → (strict_number told ≡ strictly buffer calls) × (buffer' ≡ whole_out buffer (strict_item calls))
  strict_built buffer buffer' first none e built told w g =
      let s = same_item buffer (image_item_lem (omega (arith, e, ap first_number none))) in
      (ap strict_number g ∙ placed built ∙ w.0 ∙ s.0, w.1 ∙ s.1)

-- ---- the lenient form

module _ (buffer calls : List ℕ) where
  abbrev n : ℕ
  n = (built_of calls).number

  abbrev bytes : List ℕ
  bytes = (built_of calls).item.«data»

  abbrev pattern : Pattern
  pattern = record { acceleration = false; calls = (groups_of calls).memory }

  -- the build is refused, there is no room, or there is
  builds : 0 < n → (leniently buffer calls ≡ n) × (whole_out buffer (image_item calls) ≡ buffer)
  builds h = let w = (whole_or_nothing buffer (image_item calls)).own n (simp (lt-ltb 0 n h)) in (w.1, w.2)

  short : n ≡ 0 → length buffer < 100 → (leniently buffer calls ≡ 24) × (whole_out buffer (image_item calls) ≡ buffer)
  short e h = let w = (whole_or_nothing buffer (image_item calls)).short bytes (simp e) (omega (arith, demand3.hundred pattern e, h)) in (w.1, w.2)

  room : n ≡ 0 → 100 ≤ length buffer → (leniently buffer calls ≡ 0) × (whole_out buffer (image_item calls) ≡ bytes ++ drop 100 buffer)
  room e h =
      let l = demand3.hundred pattern e in
      let w = (whole_or_nothing buffer (image_item calls)).given bytes (simp e) (omega (arith, l, h)) in
      (w.1, w.2 ∙ ap (λ (k : ℕ). bytes ++ drop k buffer) l)

  -- one of the three
  module _ {X : Type 0} (a : 0 < n → X) (b : n ≡ 0 → length buffer < 100 → X) (c : n ≡ 0 → 100 ≤ length buffer → X) where
    one_of : X
    one_of = go (dec_le n 0) (dec_le 100 (length buffer)) where
      go : Dec (n ≤ 0) → Dec (100 ≤ length buffer) → X
      go (no h) d = a (lt_of_not-le h)
      go (yes h) (no k) = b (omega (arith, h)) (lt_of_not-le k)
      go (yes h) (yes k) = c (omega (arith, h)) k

  done_leniently : leniently buffer calls ≡ 0 → (n ≡ 0) × (100 ≤ length buffer)
  done_leniently e =
      one_of
      (λ h. absurd (omega (arith, (builds h).0, e, h)))
      (λ k h. absurd (omega (arith, (short k h).0, e)))
      (λ k h. (k, h))

  kept_leniently : 0 < leniently buffer calls → whole_out buffer (image_item calls) ≡ buffer
  kept_leniently p = one_of (λ h. (builds h).1) (λ k h. (short k h).1) (λ k h. absurd (omega (arith, (room k h).0, p)))

  pub assembled : Assembled buffer calls
  assembled =
      record {
        done = (done_leniently, λ w. (room w.0 w.1).0);
        builds = λ h. (builds h).0;
        short = λ e h. (short e h).0;
        number = one_of (λ h. omega (arith, (builds h).0, build_number (memory_from false (groups_of calls).memory))) (λ k h. omega (arith, (short k h).0)) (λ k h. omega (arith, (room k h).0));
        kept = kept_leniently;
        image = λ e. (room (done_leniently e).0 (done_leniently e).1).1;
        made = λ e. demand3.laid_out pattern (done_leniently e).0;
      }

-- ---- the first refusal

none_refused : (ns : List ℕ) (i : ℕ) → AllAccepted ns → first_refused i ns ≡ 0
none_refused [] i h = refl
none_refused (n ∷ ns) i h = simp h.0 (none_refused ns (suc i) h.1)

none_only : (ns : List ℕ) (i : ℕ) → first_refused i ns ≡ 0 → AllAccepted ns
none_only [] i e = tt
none_only (n ∷ ns) i e = go (ltb 0 n) refl e (none_only ns (suc i)) where
  go : (t : Bool) → ltb 0 n ≡ t → cond t (with_place n i) (first_refused (suc i) ns) ≡ 0 → (first_refused (suc i) ns ≡ 0 → AllAccepted ns) → AllAccepted (n ∷ ns)
  go true f g more = let h = ltb-true 0 n f in absurd (omega arith)
  go false f g more = let h = ltb-false 0 n f in (omega arith, more g)

first_at : (before : List ℕ) (n : ℕ) (rest : List ℕ) (i : ℕ) → AllAccepted before → 0 < n → first_refused i (before ++ (n ∷ rest)) ≡ with_place n (i + length before)
first_at [] n rest i h k = simp (lt-ltb 0 n k) (ap (with_place n) (let z : i ≡ i + 0 = omega arith in z))
first_at (x ∷ before) n rest i h k =
    simp h.0 (first_at before n rest (suc i) h.1 k ∙ ap (with_place n) (let z : suc i + length before ≡ i + suc (length before) = omega arith in z))

module _ (buffer calls : List ℕ) where
  accepted : AllAccepted (answers_of calls) → (strictly buffer calls ≡ leniently buffer calls) × (whole_out buffer (strict_item calls) ≡ whole_out buffer (image_item calls))
  accepted h = same_item buffer (sym (image_item_lem calls (let e = none_refused (answers_of calls) 0 h in omega (arith, e))))

  -- a call is refused, or none is
  module _ {X : Type 0} (a : 0 < f calls → X) (b : AllAccepted (answers_of calls) → X) where
    either : X
    either = go (dec_le (f calls) 0) where
      go : Dec (f calls ≤ 0) → X
      go (no h) = a (lt_of_not-le h)
      go (yes h) = b (none_only (answers_of calls) 0 (omega (arith, h)))

  done_strictly : strictly buffer calls ≡ 0 → AllAccepted (answers_of calls) × ((built_of calls).number ≡ 0) × (100 ≤ length buffer)
  done_strictly e =
      either
      (λ h. absurd (omega (arith, (strict_refused calls (f calls) refl buffer h).0, e, h)))
      (λ h. let w = (assembled buffer calls).done.0 (sym (accepted h).0 ∙ e) in (h, w.0, w.1))

  kept_strictly : 0 < strictly buffer calls → whole_out buffer (strict_item calls) ≡ buffer
  kept_strictly p =
      either
      (λ h. sym (strict_refused calls (f calls) refl buffer h).1)
      (λ h. (accepted h).1 ∙ (assembled buffer calls).kept (let e = (accepted h).0 in omega (arith, e, p)))

  at_first : (before : List ℕ) (n : ℕ) (rest : List ℕ) → answers_of calls ≡ before ++ (n ∷ rest) → AllAccepted before → 0 < n
      → ((length before < last_place) × (strictly buffer calls ≡ n + 256 * (length before + 1))) ⊎ ((last_place ≤ length before) × (strictly buffer calls ≡ n + 256 * last_place))
  at_first before n rest e h k = go (dec_le last_place (length before)) where
    g : f calls ≡ with_place n (length before)
    g = ap (first_refused 0) e ∙ first_at before n rest 0 h k ∙ ap (with_place n) (let z : 0 + length before ≡ length before = omega arith in z)

    told : strictly buffer calls ≡ with_place n (length before)
    told = let z : 0 < with_place n (length before) = omega arith in sym (strict_refused calls _ (sym g) buffer z).0

    go : Dec (last_place ≤ length before)
        → ((length before < last_place) × (strictly buffer calls ≡ n + 256 * (length before + 1))) ⊎ ((last_place ≤ length before) × (strictly buffer calls ≡ n + 256 * last_place))
    go (yes d) = inr (d, told ∙ ap (λ (j : ℕ). n + 256 * j) (min-eq_right {n = last_place} {m = length before + 1} (omega (arith, d))))
    go (no d) =
        let c = lt_of_not-le d in
        inl (c, told ∙ ap (λ (j : ℕ). n + 256 * j) (min-eq_left {n = length before + 1} {m = last_place} (omega (arith, c))))

  pub strict : Strict buffer calls
  strict =
      record {
        done = (done_strictly, λ w. (accepted w.0).0 ∙ (assembled buffer calls).done.1 (w.1, w.2));
        first = at_first;
        numbers = answer_numbers calls;
        accepted = accepted;
        kept = kept_strictly;
      }
