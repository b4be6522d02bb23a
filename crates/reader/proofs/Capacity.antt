-- The lists hold what was read: nothing is dropped where there is room for all bytes of the items.
-- Assumes nothing.
use mathlib.Core.Path.{◌≡◌, refl, sym, ap, ◌∙◌, subst}
use mathlib.Core.Bool.{Bool, true, false, cond, ◌&&◌}
use mathlib.Core.List.{List, [], ◌∷◌, ◌++◌, append_assoc, append-nil}
use mathlib.Core.Option.{Option, none, some}
use Prim.Native.Nat.{ℕ, zero, suc, ◌+◌, ◌≤◌}
use native.Mathlib.Omega.{arith}
use lib.Dec.{leb}
use lib.ListN.{length, length-append}
use Rattle.laws.specs.Lists.{joined}
use Rattle.frame.specs.declared.FrameBuilder.{FrameBuilder}
use Rattle.frame.specs.Builder.{silent_frame}
use Rattle.frame.specs.Read.{Parsed, read_frame}
use Rattle.content.specs.ReadImage.{and_then, every, read_frames, read_sequence}
use Rattle.content.proofs.Codec.{none_some, some_inj, cond_some, then_some, cons_eq}
use Rattle.reader.specs.declared.Runs.{Runs}
use Rattle.reader.specs.Reading.{Points, Frames, no_runs, laid}
use Rattle.reader.specs.Flat.{push_item, push_items, end_run}
use Rattle.reader.specs.Walk.{run_frames, push_snippet, push_sequence}
use Rattle.reader.proofs.Cuts.{in_turn, cond_then}
use Rattle.reader.proofs.Flats.{joined_snoc, add_list}
use Rattle.reader.proofs.Running.{rest}

-- ---- any lists

module _ {A : Type 0} (most : ℕ) (blank : A) where
  -- both read nothing, or the state holds the lists behind those that it held
  abbrev pub Tracks : List (List A) → Option (Runs A most) → Option (List (List A)) → Type 0
  Tracks xs none none = Unit {0}
  Tracks xs none (some ys) = ⊥
  Tracks xs (some o) none = ⊥
  Tracks xs (some o) (some ys) = o ≡ laid most blank (xs ++ ys)

  tracks_put : (xs : List (List A)) (x : List A) (m : Option (Runs A most)) (n : Option (List (List A))) → Tracks (xs ++ x ∷ []) m n
      → Tracks xs m (and_then n (λ ys. some (x ∷ ys)))
  tracks_put xs x none none s = s
  tracks_put xs x none (some ys) s = s
  tracks_put xs x (some o) none s = s
  tracks_put xs x (some o) (some ys) s = s ∙ ap (laid most blank) (append_assoc xs (x ∷ []) ys)

  module _ (step : List ℕ → Runs A most → Option (Runs A most)) (raw : List ℕ → Option (List A))
      (hs : (bs : List ℕ) (o : Runs A most) → step bs o ≡ and_then (raw bs) (λ x. some (end_run (push_items o x))))
      (hl : (bs : List ℕ) (x : List A) → raw bs ≡ some x → length x ≤ length bs) where
    pub tracks : (items : List (List ℕ)) (o : Runs A most) (xs : List (List A)) → o ≡ laid most blank xs
        → length (joined xs) + length (joined items) ≤ 96 → length xs + length items ≤ most
        → Tracks xs (in_turn step items o) (every raw items)
    tracks [] o xs h f g = h ∙ ap (laid most blank) (sym (append-nil xs))
    tracks (bs ∷ items) o xs h f g =
        subst (λ (m : Option (Runs A most)). Tracks xs (and_then m (λ o'. in_turn step items o')) (every raw (bs ∷ items))) (sym (hs bs o))
        (go (tracks items) (raw bs) refl)
      where
        go : ((o : Runs A most) (xs : List (List A)) → o ≡ laid most blank xs → length (joined xs) + length (joined items) ≤ 96 → length xs + length items ≤ most → Tracks xs (in_turn step items o) (every raw items))
            → (m : Option (List A)) → raw bs ≡ m
            → Tracks xs (and_then (and_then m (λ x. some (end_run (push_items o x)))) (λ o'. in_turn step items o')) (and_then m (λ x. and_then (every raw items) (λ ys. some (x ∷ ys))))
        go ih none k = tt
        go ih (some x) k =
            let n = hl bs x k in
            let j = length-append bs (joined items) in
            let a : Runs A most = end_run (push_items o x) in
            let e : a ≡ laid most blank (xs ++ x ∷ []) =
            ap (λ (z : Runs A most). end_run (push_items z x)) h ∙ add_list most blank xs x (omega arith) (omega arith) in
            let l : length (joined (xs ++ x ∷ [])) ≡ length (joined xs) + length x = ap length (joined_snoc xs x) ∙ length-append (joined xs) x in
            let c = length-append xs (x ∷ []) in
            tracks_put xs x (in_turn step items a) (every raw items) (ih a (xs ++ x ∷ []) e (omega arith) (omega arith))

-- ---- points

-- a snippet's bytes
abbrev pub raw_snippet : List ℕ → Option (List ℕ)
raw_snippet bs = cond (leb 1 (length bs) && leb (length bs) 16) (some bs) none

raw_long : (bs x : List ℕ) → raw_snippet bs ≡ some x → length x ≤ length bs
raw_long bs x e =
    let k = ap length (some_inj (cond_some (leb 1 (length bs) && leb (length bs) 16) (some bs) e).1) in omega arith

pub raw_same : (items xs : List (List ℕ)) → every raw_snippet items ≡ some xs → items ≡ xs
raw_same [] xs e = some_inj e
raw_same (bs ∷ items) xs e =
    let (x, e₁, e₂) = then_some (raw_snippet bs) (λ x. and_then (every raw_snippet items) (λ ys. some (x ∷ ys))) e in
    let (ys, e₃, e₄) = then_some (every raw_snippet items) (λ ys. some (x ∷ ys)) e₂ in
    cons_eq (some_inj (cond_some (leb 1 (length bs) && leb (length bs) 16) (some bs) e₁).1) (raw_same items ys e₃) ∙ some_inj e₄

pub snippet_raw : (bs : List ℕ) (o : Points) → push_snippet bs o ≡ and_then (raw_snippet bs) (λ x. some (end_run (push_items o x)))
unfolding push_snippet
snippet_raw bs o = cond_then (leb 1 (length bs) && leb (length bs) 16) (some bs) (λ x. some (end_run (push_items o x)))

pub tracks_snippets : (items : List (List ℕ)) → length (joined items) ≤ 96 → length items ≤ 15
    → Tracks 15 0 [] (in_turn push_snippet items (no_runs 15 0)) (every raw_snippet items)
tracks_snippets items f g = tracks 15 0 push_snippet raw_snippet snippet_raw raw_long items (no_runs 15 0) [] refl (omega arith) (omega arith)

-- ---- frames

run_frames_lem : (k : ℕ) (l : List ℕ) (o : Frames) → run_frames k l o ≡ and_then (read_frames k l) (λ fs. some (push_items o fs))
run_frames_lem zero [] o = refl
run_frames_lem zero (b ∷ bs) o = refl
run_frames_lem (suc k) [] o = refl
run_frames_lem (suc k) (b ∷ bs) o = go (read_frame (b ∷ bs)) (λ l. run_frames_lem k l) where
  inner : (f : FrameBuilder) (q : Option (List FrameBuilder)) → and_then q (λ fs. some (push_items (push_item o f) fs)) ≡ and_then (and_then q (λ fs. some (f ∷ fs))) (λ fs. some (push_items o fs))
  inner f none = refl
  inner f (some fs) = refl

  go : (d : Option Parsed) → ((l : List ℕ) (o : Frames) → run_frames k l o ≡ and_then (read_frames k l) (λ fs. some (push_items o fs)))
      → and_then d (λ p. run_frames k p.rest (push_item o p.frame)) ≡ and_then (and_then d (λ p. and_then (read_frames k p.rest) (λ fs. some (p.frame ∷ fs)))) (λ fs. some (push_items o fs))
  go none ih = refl
  go (some p) ih = ih p.rest (push_item o p.frame) ∙ inner p.frame (read_frames k p.rest)

-- a frame takes at least a byte
frames_long : (k : ℕ) (l : List ℕ) (fs : List FrameBuilder) → read_frames k l ≡ some fs → length fs ≤ length l
frames_long zero [] fs e = let z = ap length (some_inj e) in omega arith
frames_long zero (b ∷ bs) fs e = none_some fs e
frames_long (suc k) [] fs e = let z = ap length (some_inj e) in omega arith
frames_long (suc k) (b ∷ bs) fs e =
    let (p, e₁, e₂) = then_some (read_frame (b ∷ bs)) (λ p. and_then (read_frames k p.rest) (λ fs. some (p.frame ∷ fs))) e in
    let (gs, e₃, e₄) = then_some (read_frames k p.rest) (λ fs. some (p.frame ∷ fs)) e₂ in
    let n = frames_long k p.rest gs e₃ in
    let z = ap length (some_inj e₄) in
    omega (arith, (rest (b ∷ bs) p e₁).shorter)

sequence_long : (bs : List ℕ) (fs : List FrameBuilder) → read_sequence bs ≡ some fs → length fs ≤ length bs
unfolding read_sequence
sequence_long bs fs e = frames_long 32 bs fs (cond_some (leb 1 (length bs)) (read_frames 32 bs) e).1

pub sequence_raw : (bs : List ℕ) (o : Frames) → push_sequence bs o ≡ and_then (read_sequence bs) (λ x. some (end_run (push_items o x)))
unfolding push_sequence read_sequence
sequence_raw bs o =
    ap (λ (m : Option Frames). cond (leb 1 (length bs)) (and_then m (λ f. some (end_run f))) none) (run_frames_lem 32 bs o)
    ∙ go (leb 1 (length bs)) (read_frames 32 bs)
  where
    go : (t : Bool) (q : Option (List FrameBuilder))
        → cond t (and_then (and_then q (λ fs. some (push_items o fs))) (λ f. some (end_run f))) none ≡ and_then (cond t q none) (λ x. some (end_run (push_items o x)))
    go true none = refl
    go true (some x) = refl
    go false q = refl

pub tracks_sequences : (items : List (List ℕ)) → length (joined items) ≤ 96 → length items ≤ 16
    → Tracks 16 silent_frame [] (in_turn push_sequence items (no_runs 16 silent_frame)) (every read_sequence items)
tracks_sequences items f g =
    tracks 16 silent_frame push_sequence read_sequence sequence_raw sequence_long items (no_runs 16 silent_frame) [] refl (omega arith) (omega arith)
