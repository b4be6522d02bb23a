-- The hundred bytes: reading the items of an image undoes laying them out.
-- Assumes nothing.
use mathlib.Core.Path.{◌≡◌, refl, sym, ap, ◌∙◌, subst}
use mathlib.Core.Bool.{true, ◌&&◌, and-eq-true_iff}
use mathlib.Core.List.{List, [], ◌∷◌, ◌++◌, append_assoc}
use mathlib.Core.Option.{some}
use Prim.Native.Nat.{ℕ, zero, suc, ◌+◌, ◌-◌, ◌≤◌}
use native.Mathlib.Omega.{arith}
use borrow.Author.Tests.{lt-ltb, le-leb, eq-eqb, ltb-true, leb-true, eqb-true}
use lib.Dec.{ltb, leb, eqb}
use lib.ListN.{length, take, drop, replicate, length-append, length-drop, length-replicate, take-append-drop}
use lib.Seq.{take_at, drop_at, length-take-le}
use Rattle.laws.specs.Bytes.{All}
use Rattle.laws.specs.Lists.{joined}
use Rattle.memory.specs.Image.{end_pointers, image_size, image_bytes}
use Rattle.content.specs.ReadImage.{and_then, Cut, cut, all_zero, Items, counts_fit, items_from, read_items}
use Rattle.content.proofs.Codec.{cond_some, cond_on, some_inj, none_some, then_some, cons_eq}

abbrev pub NotEmpty : List ℕ → Type 0
NotEmpty x = 1 ≤ length x

-- ---- cutting at the pointers

record WasCut (before : ℕ) (es l : List ℕ) (c : Cut) : Type 0 where
  full : All NotEmpty c.items
  at : end_pointers before c.items ≡ es
  all : joined c.items ++ c.left ≡ l

cut_sound : (before : ℕ) (es l : List ℕ) (c : Cut) → cut before es l ≡ some c → WasCut before es l c
cut_sound before [] l c e = subst (λ (d : Cut). WasCut before [] l d) (some_inj e) (record { full = tt; at = refl; all = refl })
cut_sound before (e ∷ es) l c h =
    let (t, h₁) = cond_some (ltb before e && leb (e - before) (length l)) _ h in
    let (u, v) = (and-eq-true_iff (ltb before e) (leb (e - before) (length l))).0 t in
    let (d, h₂, h₃) = then_some (cut e es (drop (e - before) l)) _ h₁ in
    let s = cut_sound e es (drop (e - before) l) d h₂ in
    let a = ltb-true before e u in
    let n : length (take (e - before) l) ≡ e - before = length-take-le (e - before) l (leb-true (e - before) (length l) v) in
    let k : before + length (take (e - before) l) ≡ e = omega arith in
    subst (λ (x : Cut). WasCut before (e ∷ es) l x) (some_inj h₃)
    (record {
      full = (omega arith, s.full);
      at = rw k (cons_eq refl s.at);
      all = append_assoc (take (e - before) l) (joined d.items) d.left ∙ ap (λ (r : List ℕ). take (e - before) l ++ r) s.all ∙ take-append-drop (e - before) l;
    })

cut_complete : (before : ℕ) (xs : List (List ℕ)) (r : List ℕ) → All NotEmpty xs
    → cut before (end_pointers before xs) (joined xs ++ r) ≡ some (record { items = xs; left = r })
cut_complete before [] r g = refl
cut_complete before (x ∷ xs) r g =
    let e : ℕ = before + length x in
    let n : length x ≡ e - before = omega arith in
    cond_on _ _ ((and-eq-true_iff _ _).1 (lt-ltb before e (omega arith), le-leb (e - before) (length (joined (x ∷ xs) ++ r)) (omega (arith, length-append x (joined xs), length-append (x ++ joined xs) r))))
    ∙ rw (append_assoc x (joined xs) r, drop_at x (joined xs ++ r) (e - before) n, take_at x (joined xs ++ r) (e - before) n, cut_complete e xs r g.1)

-- ---- the tail

zero_sound : (l : List ℕ) → all_zero l ≡ true → l ≡ replicate (length l) 0
zero_sound [] t = refl
zero_sound (x ∷ xs) t =
    let (u, v) = (and-eq-true_iff (ltb x 1) (all_zero xs)).0 t in
    let e : x ≡ 0 = omega (arith, ltb-true x 1 u) in cons_eq e (zero_sound xs v)

zero_complete : (n : ℕ) → all_zero (replicate n 0) ≡ true
zero_complete zero = refl
zero_complete (suc n) = zero_complete n

-- ---- the image

abbrev pub written : Items → List ℕ
written r = image_bytes r.snippets r.sequences

pub record Good (r : Items) : Type 0 where
  pub some_snippets : 1 ≤ length r.snippets
  pub few_snippets : length r.snippets ≤ 15
  pub some_sequences : 1 ≤ length r.sequences
  pub few_sequences : length r.sequences ≤ 16
  pub full : All NotEmpty (r.snippets ++ r.sequences)
  pub fits : image_size r.snippets r.sequences ≤ 100

pub counts_sound : (s q : ℕ) → counts_fit s q ≡ true → (1 ≤ s) × (s ≤ 15) × (1 ≤ q) × (q ≤ 16)
counts_sound s q t =
    let (t₁, d) = (and-eq-true_iff (leb 1 s && leb s 15 && leb 1 q) (leb q 16)).0 t in
    let (t₂, c) = (and-eq-true_iff (leb 1 s && leb s 15) (leb 1 q)).0 t₁ in
    let (a, b) = (and-eq-true_iff (leb 1 s) (leb s 15)).0 t₂ in
    (leb-true 1 s a, leb-true s 15 b, leb-true 1 q c, leb-true q 16 d)

counts_complete : (s q : ℕ) → 1 ≤ s → s ≤ 15 → 1 ≤ q → q ≤ 16 → counts_fit s q ≡ true
counts_complete s q a b c d = simp (le-leb 1 s a, le-leb s 15 b, le-leb 1 q c, le-leb q 16 d)

pub length_pointers : {A : Type 0} (before : ℕ) (xs : List (List A)) → length (end_pointers before xs) ≡ length xs
length_pointers before [] = refl
length_pointers before (x ∷ xs) = ap suc (length_pointers (before + length x) xs)

items_cut : (s q : ℕ) (l : List ℕ) (c : Cut) → length l ≡ 98 → counts_fit s q ≡ true
    → WasCut (1 + s + q) (take (s + q) l) (drop (s + q) l) c → all_zero c.left ≡ true
    → Good (record { snippets = take s c.items; sequences = drop s c.items })
    × (written (record { snippets = take s c.items; sequences = drop s c.items }) ≡ s ∷ q ∷ l)
items_cut s q l c hl t w z =
    let b = counts_sound s q t in
    let n : length c.items ≡ s + q = sym (length_pointers (1 + s + q) c.items) ∙ ap length w.at ∙ length-take-le (s + q) l (omega arith) in
    let ns : length (take s c.items) ≡ s = length-take-le s c.items (omega arith) in
    let nq : length (drop s c.items) ≡ q = omega (arith, length-drop s c.items) in
    let j : take s c.items ++ drop s c.items ≡ c.items = take-append-drop s c.items in
    let m : length (joined c.items) + length c.left + (s + q) ≡ 98 = omega (arith, length-append (joined c.items) c.left, ap length w.all, length-drop (s + q) l) in
    let k : 100 - (2 + s + q + length (joined c.items)) ≡ length c.left = omega arith in
    let y : replicate (100 - (2 + s + q + length (joined c.items))) 0 ≡ c.left = ap (λ (i : ℕ). replicate i 0) k ∙ sym (zero_sound c.left z) in (
      record {
        some_snippets = omega arith;
        few_snippets = omega arith;
        some_sequences = omega arith;
        few_sequences = omega arith;
        full = rw j w.full;
        fits = rw j (omega arith);
      },
      rw (ns, nq, j, w.at, y, append_assoc (take (s + q) l) (joined c.items) c.left, w.all, take-append-drop (s + q) l),
    )

pub items_sound : (l : List ℕ) (r : Items) → read_items l ≡ some r → Good r × (written r ≡ l)
unfolding read_items
items_sound [] r e = none_some r e
items_sound (s ∷ []) r e = none_some r e
items_sound (s ∷ q ∷ l) r e =
    let (t, e₁) = cond_some (eqb (length l) 98 && counts_fit s q) _ e in
    let (u, v) = (and-eq-true_iff (eqb (length l) 98) (counts_fit s q)).0 t in
    let (c, e₂, e₃) = then_some (cut (1 + s + q) (take (s + q) l) (drop (s + q) l)) (items_from s) e₁ in
    let (z, e₄) = cond_some (all_zero c.left) _ e₃ in
    subst (λ (x : Items). Good x × (written x ≡ s ∷ q ∷ l)) (some_inj e₄)
    (items_cut s q l c (eqb-true (length l) 98 u) v (cut_sound (1 + s + q) (take (s + q) l) (drop (s + q) l) c e₂) z)

image_length : (s q : ℕ) (xs : List (List ℕ)) → length xs ≡ s + q → 2 + s + q + length (joined xs) ≤ 100
    → length (end_pointers (1 + s + q) xs ++ joined xs ++ replicate (100 - (2 + s + q + length (joined xs))) 0) ≡ 98
image_length s q xs n h =
    let tail : List ℕ = replicate (100 - (2 + s + q + length (joined xs))) 0 in
    omega (
      arith,
      length_pointers (1 + s + q) xs,
      length-append (end_pointers (1 + s + q) xs ++ joined xs) tail,
      length-append (end_pointers (1 + s + q) xs) (joined xs),
      length-replicate {A = ℕ} (100 - (2 + s + q + length (joined xs))) 0,
    )

pub hundred : (r : Items) → Good r → length (written r) ≡ 100
hundred r g =
    omega (arith, image_length (length r.snippets) (length r.sequences) (r.snippets ++ r.sequences) (length-append r.snippets r.sequences) g.fits)

pub items_complete : (r : Items) → Good r → read_items (written r) ≡ some r
unfolding read_items
items_complete r g =
    let s : ℕ = length r.snippets in
    let q : ℕ = length r.sequences in
    let xs : List (List ℕ) = r.snippets ++ r.sequences in
    let tail : List ℕ = replicate (100 - (2 + s + q + length (joined xs))) 0 in
    let n : length xs ≡ s + q = length-append r.snippets r.sequences in
    let m : length (end_pointers (1 + s + q) xs) ≡ s + q = length_pointers (1 + s + q) xs ∙ n in
    let a = append_assoc (end_pointers (1 + s + q) xs) (joined xs) tail in
    let z : and_then (cut (1 + s + q) (take (s + q) (end_pointers (1 + s + q) xs ++ joined xs ++ tail)) (drop (s + q) (end_pointers (1 + s + q) xs ++ joined xs ++ tail))) (items_from s) ≡ some r =
    rw (a, take_at (end_pointers (1 + s + q) xs) (joined xs ++ tail) (s + q) m, drop_at (end_pointers (1 + s + q) xs) (joined xs ++ tail) (s + q) m, cut_complete (1 + s + q) xs tail g.full)
    (cond_on _ _ (zero_complete (100 - (2 + s + q + length (joined xs))))
    ∙ rw (take_at r.snippets r.sequences s refl, drop_at r.snippets r.sequences s refl)) in
    cond_on _ _ ((and-eq-true_iff _ _).1 (eq-eqb _ 98 (image_length s q xs n g.fits), counts_complete s q g.some_snippets g.few_snippets g.some_sequences g.few_sequences))
    ∙ z
