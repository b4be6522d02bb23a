-- Where a run stands: the pools keep a memory's builder from which what is left gives what the whole gives. One turn, and the end.
-- Assumes nothing.
use mathlib.Core.Path.{◌≡◌, refl, sym, ap, ap₂, ◌∙◌, subst}
use mathlib.Core.Bool.{Bool, true, false, cond}
use mathlib.Core.List.{List, [], ◌∷◌, ◌++◌}
use Prim.Native.Nat.{ℕ, suc, ◌+◌, ◌*◌, ◌≤◌, ◌<◌, min}
use native.Mathlib.Omega.{arith}
use borrow.Author.Tests.{lt-ltb, ltb-true, ltb-false}
use lib.Dec.{ltb}
use lib.ListN.{length, set}
use lib.Seq.{sets}
use Rattle.laws.specs.Copied.{copied}
use Rattle.laws.proofs.Answers.{sets_copied}
use Rattle.errors.specs.Told.{Handed}
use Rattle.calls.specs.Said.{Call}
use Rattle.calls.specs.declared.Builders.{Builders}
use Rattle.calls.specs.Calls.{started, first_record, call_of, calls_in}
use Rattle.memory.specs.declared.WaveformMemoryBuilder.{WaveformMemoryBuilder}
use Rattle.assemble.specs.Lists.{with_place, first_refused}
use Rattle.assemble.specs.Refusal.{refusal_number, first_number}
use Rattle.assemble.specs.declared.Refusal.{Refusal}
use Rattle.errors.specs.declared.Error.{Error}
use Rattle.errors.specs.Number.{error_number, answer_number}
use Rattle.errors.proofs.Numbers.{has_number}
use Rattle.std.specs.Prelude.{Option, Some, None, Result, Ok, Err}
use Rattle.std.specs.Option.{option_or, option_map}
use Rattle.std.specs.Result.{result_err}
use Rattle.assemble.specs.Flat.{State, state, flat_called}
use Rattle.assemble.proofs.Flat.{nothing_yet, flat_after, flat_answers}
use Rattle.pool.specs.declared.Kept.{Kept}
use Rattle.pool.specs.Kept.{nothing_kept}
use Rattle.assemble.specs.Holding.{KeepsMemory, StepsMemory}
use Rattle.assemble.proofs.Holding.{keeps_none}

-- ---- the bytes in chunks of four

-- the first chunk says the first call, and what is behind it the others
calls_chunk : (x y : List ℕ) → 0 < length (x ++ y) → length x ≡ min 4 (length (x ++ y)) → calls_in (x ++ y) ≡ call_of (first_record x) ∷ calls_in y
unfolding calls_in
calls_chunk [] y h e = absurd (omega (arith, h, e))
calls_chunk (k ∷ []) [] h e = refl
calls_chunk (k ∷ []) (z ∷ y) h e = absurd (omega (arith, e))
calls_chunk (k ∷ a ∷ []) [] h e = refl
calls_chunk (k ∷ a ∷ []) (z ∷ y) h e = absurd (omega (arith, e))
calls_chunk (k ∷ a ∷ b ∷ []) [] h e = refl
calls_chunk (k ∷ a ∷ b ∷ []) (z ∷ y) h e = absurd (omega (arith, e))
calls_chunk (k ∷ a ∷ b ∷ c ∷ []) y h e = refl
calls_chunk (k ∷ a ∷ b ∷ c ∷ d ∷ x) y h e = absurd (omega (arith, e))

-- as many chunks as calls, the last of which may be short
pub calls_count : (l : List ℕ) → (length l ≤ 4 * length (calls_in l)) × (4 * length (calls_in l) < length l + 4)
unfolding calls_in
calls_count [] = (omega arith, omega arith)
calls_count (k ∷ []) = (omega arith, omega arith)
calls_count (k ∷ a ∷ []) = (omega arith, omega arith)
calls_count (k ∷ a ∷ b ∷ []) = (omega arith, omega arith)
calls_count (k ∷ a ∷ b ∷ c ∷ r) = let h = calls_count r in (omega (arith, h.0), omega (arith, h.1))

-- behind the last there are none
calls_none : (l : List ℕ) → length l ≤ 0 → calls_in l ≡ []
unfolding calls_in
calls_none [] h = refl
calls_none (x ∷ l) h = absurd (omega arith)

-- ---- where a run stands

pub record Running (bytes answers₀ answers : List ℕ) (kept : Kept) (b : Builders) (ahead : List ℕ) (i told : ℕ) : Type 0 where
  pub memory : WaveformMemoryBuilder
  pub holds : KeepsMemory memory kept
  pub rest : flat_after nothing_yet (calls_in bytes) ≡ flat_after (state b memory) (calls_in ahead)
  pub stored : sets answers₀ 0 (flat_answers nothing_yet (calls_in bytes)) ≡ sets answers i (flat_answers (state b memory) (calls_in ahead))
  pub tells : first_refused 0 (flat_answers nothing_yet (calls_in bytes)) ≡ cond (ltb 0 told) told (first_refused i (flat_answers (state b memory) (calls_in ahead)))

-- before the first call
pub begun : (bytes answers : List ℕ) {b : Builders} {kept : Kept} → b ≡ started → kept ≡ nothing_kept
    → Running bytes answers answers kept b bytes 0 0
begun bytes answers e f =
    rw (e, f)
    (record { memory = nothing_yet.memory; holds = keeps_none; rest = refl; stored = refl; tells = refl })

abbrev pub refused_at : Error → ℕ → Refusal
refused_at e place = record { error = e; place = Some place }

-- the first refusal, with one answer more
first_more : (told n i : ℕ) (ns : List ℕ) (told' : ℕ) → told' ≡ cond (ltb 0 told) told (cond (ltb 0 n) (with_place n i) 0)
    → cond (ltb 0 told) told (first_refused i (n ∷ ns)) ≡ cond (ltb 0 told') told' (first_refused (suc i) ns)
first_more told n i ns told' e = go (ltb 0 told) (ltb 0 n) refl refl ∙ ap (λ (x : ℕ). cond (ltb 0 x) x (first_refused (suc i) ns)) (sym e) where
  go : (t u : Bool) → ltb 0 told ≡ t → ltb 0 n ≡ u
      → cond t told (cond u (with_place n i) (first_refused (suc i) ns))
      ≡ cond (ltb 0 (cond t told (cond u (with_place n i) 0))) (cond t told (cond u (with_place n i) 0)) (first_refused (suc i) ns)
  go true u f g = simp f
  go false true f g = let h = ltb-true 0 n g in simp (lt-ltb 0 (with_place n i) (omega arith))
  go false false f g = refl

-- a refusal, if the call was refused, behind one that was told before
pub first_or : (first : Option Refusal) (answer : Result Unit Error) (i : ℕ) (refused : Option Error) (other result : Option Refusal)
    → result ≡ option_or first other → other ≡ option_map (λ (e : Error). refused_at e (i + 1)) refused → refused ≡ result_err answer
    → first_number result ≡ cond (ltb 0 (first_number first)) (first_number first) (cond (ltb 0 (answer_number answer)) (with_place (answer_number answer) i) 0)
first_or first answer i refused other result e f g = rw (e, f, g) (go first answer) where
  go : (first : Option Refusal) (answer : Result Unit Error)
      → first_number (option_or first (option_map (λ (e : Error). refused_at e (i + 1)) (result_err answer)))
      ≡ cond (ltb 0 (first_number first)) (first_number first) (cond (ltb 0 (answer_number answer)) (with_place (answer_number answer) i) 0)
  go None (Ok u) = refl
  go None (Err e) = let h = has_number e in simp (lt-ltb 0 (error_number e) (omega (arith, h)))
  go (Some r) answer = let h = has_number r.error in simp (lt-ltb 0 (refusal_number r) (omega (arith, h)))

-- a refusal told stays, and 0 is none
first_last : (told : ℕ) → cond (ltb 0 told) told 0 ≡ told
first_last told = go (ltb 0 told) refl where
  go : (t : Bool) → ltb 0 told ≡ t → cond t told 0 ≡ told
  go true e = refl
  go false e = let h = ltb-false 0 told e in omega arith

module _ {bytes k₀ k : List ℕ} {kept : Kept} {b : Builders} {ahead : List ℕ} {i told : ℕ} (r : Running bytes k₀ k kept b ahead i told) where
  -- one turn
  pub turn : (call : Call) (t : Handed Builders) (kept' : Kept) (k' : List ℕ) (b' : Builders) (n : ℕ) (chunk ahead' : List ℕ) (at i' told' : ℕ) → 0 < length ahead → ahead ≡ chunk ++ ahead'
      → length chunk ≡ min 4 (length ahead) → at ≡ i → i' ≡ i + 1 → call ≡ call_of (first_record chunk) → StepsMemory b call kept t kept' → n ≡ t.number → b' ≡ t.builder → k' ≡ set k at n
      → told' ≡ cond (ltb 0 told) told (cond (ltb 0 n) (with_place n at) 0) → Running bytes k₀ k' kept' b' ahead' i' told'
  unfolding flat_after flat_answers
  turn call t kept' k' b' n chunk ahead' at i' told' h e four ea ei ec steps en eb ek et =
      let m = r.memory in
      let w = steps m r.holds in
      let f = flat_called (state b m) call in
      let ks = calls_in ahead' in
      let next : calls_in ahead ≡ call ∷ ks = ap calls_in e ∙ calls_chunk chunk ahead' (omega (arith, h, ap length e)) (four ∙ ap (λ (l : List ℕ). min 4 (length l)) e) ∙ ap (λ (c : Call). c ∷ ks) (sym ec) in
      let number : f.number ≡ n = sym (en ∙ ap (λ (x : Handed Builders). x.number) w.0) in
      let left : f.builder ≡ state b' f.builder.memory = ap (λ (x : Builders). state x f.builder.memory) (sym (eb ∙ ap (λ (x : Handed Builders). x.builder) w.0)) in
      let one : i' ≡ suc i = omega (arith, ei) in
      record {
        memory = f.builder.memory;
        holds = w.1;
        rest = r.rest ∙ ap (flat_after (state b m)) next ∙ ap (λ (s : State). flat_after s ks) left;
        stored =
            r.stored
            ∙ ap (λ (js : List Call). sets k i (flat_answers (state b m) js)) next
            ∙ ap₂ (λ (x : ℕ) (s : State). sets (set k i x) (suc i) (flat_answers s ks)) number left
            ∙ ap₂ (λ (x : List ℕ) (j : ℕ). sets x j (flat_answers (state b' f.builder.memory) ks)) (sym (ek ∙ ap (λ (j : ℕ). set k j n) ea)) (sym one);
        tells =
            r.tells
            ∙ ap (λ (js : List Call). cond (ltb 0 told) told (first_refused i (flat_answers (state b m) js))) next
            ∙ ap₂ (λ (x : ℕ) (s : State). cond (ltb 0 told) told (first_refused i (x ∷ flat_answers s ks))) number left
            ∙ first_more told n i (flat_answers (state b' f.builder.memory) ks) told' (et ∙ ap (λ (j : ℕ). cond (ltb 0 told) told (cond (ltb 0 n) (with_place n j) 0)) ea)
            ∙ ap (λ (j : ℕ). cond (ltb 0 told') told' (first_refused j (flat_answers (state b' f.builder.memory) ks))) (sym one);
      }

  -- nothing is left
  module _ (h : length ahead ≤ 0) where
    none : calls_in ahead ≡ []
    none = calls_none ahead h

    pub left_builders : b ≡ (flat_after nothing_yet (calls_in bytes)).builders
    unfolding flat_after
    left_builders = ap (λ (s : State). s.builders) (sym (r.rest ∙ ap (flat_after (state b r.memory)) none))

    pub left_memory : (m : WaveformMemoryBuilder) → (flat_after nothing_yet (calls_in bytes)).memory ≡ m → KeepsMemory m kept
    unfolding flat_after
    left_memory m e = subst (λ (x : WaveformMemoryBuilder). KeepsMemory x kept) (ap (λ (s : State). s.memory) (sym (r.rest ∙ ap (flat_after (state b r.memory)) none)) ∙ e) r.holds

    pub left_answers : k ≡ copied k₀ (flat_answers nothing_yet (calls_in bytes))
    unfolding flat_answers
    left_answers = sym (sym (sets_copied k₀ _) ∙ r.stored ∙ ap (λ (js : List Call). sets k i (flat_answers (state b r.memory) js)) none)

    pub left_told : told ≡ first_refused 0 (flat_answers nothing_yet (calls_in bytes))
    unfolding flat_answers
    left_told = sym (r.tells ∙ ap (λ (js : List Call). cond (ltb 0 told) told (first_refused i (flat_answers (state b r.memory) js))) none ∙ first_last told)
