-- Walking item by item is cutting first and then taking each item in turn.
-- Assumes nothing.
use mathlib.Core.Path.{◌≡◌, refl, sym, ap, ◌∙◌, subst}
use mathlib.Core.Bool.{Bool, true, false, cond, ◌&&◌, and-eq-true_iff}
use mathlib.Core.List.{List, [], ◌∷◌, ◌++◌}
use mathlib.Core.Option.{Option, none, some}
use Prim.Native.Nat.{ℕ, suc, ◌+◌, ◌-◌, ◌≤◌, ◌<◌}
use native.Mathlib.Omega.{arith}
use borrow.Author.Tests.{le-leb, lt-leb, ltb-true, ltb-false, leb-true}
use lib.Dec.{ltb, leb}
use lib.ListN.{length, take, drop, length-append, length-take, length-drop, take-append-drop}
use lib.Seq.{drop-drop}
use Rattle.laws.proofs.Lists.{all_left, all_right}
use Rattle.laws.specs.Bytes.{All, Bytes}
use Rattle.laws.specs.Lists.{joined}
use Rattle.content.specs.ReadImage.{and_then, Cut, cut}
use Rattle.content.proofs.Codec.{some_inj, cond_some, then_some}
use Rattle.reader.specs.Walk.{Walked, item, walk}

-- the last of the pointers
abbrev pub last_of : ℕ → List ℕ → ℕ
last_of p [] = p
last_of p (e ∷ es) = last_of e es

-- each item in turn
abbrev pub in_turn : {S : Type 0} → (List ℕ → S → Option S) → List (List ℕ) → S → Option S
in_turn step [] o = some o
in_turn step (x ∷ xs) o = and_then (step x o) (λ o'. in_turn step xs o')

abbrev put_cut : List ℕ → Cut → Option Cut
put_cut x c = some (record { items = x ∷ c.items; left = c.left })

pub drop_on : (image : List ℕ) (p e : ℕ) → p < e → drop (e - p) (drop (p + 1) image) ≡ drop (e + 1) image
drop_on image p e h =
    let k : p + 1 + (e - p) ≡ e + 1 = omega arith in drop-drop (e - p) (p + 1) image ∙ ap (λ (n : ℕ). drop n image) k

module _ {S : Type 0} (step : List ℕ → S → Option S) (image : List ℕ) where
  abbrev pub after_cut : ℕ → S → Cut → Option (Walked S)
  after_cut last o c = and_then (in_turn step c.items o) (λ o'. some (record { state = o'; last = last }))

  one_more : (x : List ℕ) (last : ℕ) (o : S) (f : S → Option (Walked S)) (m : Option Cut) (r : Option S) → step x o ≡ r
      → ((o' : S) → f o' ≡ and_then m (after_cut last o'))
      → and_then r f ≡ and_then (and_then m (put_cut x)) (after_cut last o)
  one_more x last o f none none e h = refl
  one_more x last o f none (some o') e h = h o'
  one_more x last o f (some c) none e h = sym (rw e)
  one_more x last o f (some c) (some o') e h = h o' ∙ sym (rw e)

  pub walk_cut : (es : List ℕ) (p : ℕ) (o : S) → walk step image p es o ≡ and_then (cut p es (drop (p + 1) image)) (after_cut (last_of p es) o)
  walk_cut [] p o = refl
  walk_cut (e ∷ es) p o = rises (λ o'. walk_cut es e o') (ltb p e) refl where
    inside : ((o' : S) → walk step image e es o' ≡ and_then (cut e es (drop (e + 1) image)) (after_cut (last_of e es) o')) → p < e → (t : Bool) → ltb e (length image) ≡ t
        → cond t (and_then (step (item image p e) o) (λ o'. walk step image e es o')) none
        ≡ and_then (cond (leb (e - p) (length (drop (p + 1) image))) (and_then (cut e es (drop (e - p) (drop (p + 1) image))) (put_cut (item image p e))) none) (after_cut (last_of e es) o)
    inside ih u false k =
        let n = length-drop (p + 1) image in
        let v = ltb-false e (length image) k in
        sym (rw (lt-leb (e - p) (length (drop (p + 1) image)) (omega arith)))
    inside ih u true k =
        let n = length-drop (p + 1) image in
        let v = ltb-true e (length image) k in
        one_more (item image p e) (last_of e es) o (λ o'. walk step image e es o') (cut e es (drop (e + 1) image)) (step (item image p e) o) refl ih
        ∙ sym (rw (le-leb (e - p) (length (drop (p + 1) image)) (omega arith), drop_on image p e u))

    rises : ((o' : S) → walk step image e es o' ≡ and_then (cut e es (drop (e + 1) image)) (after_cut (last_of e es) o')) → (t : Bool) → ltb p e ≡ t
        → cond t (cond (ltb e (length image)) (and_then (step (item image p e) o) (λ o'. walk step image e es o')) none) none
        ≡ and_then (cond (t && leb (e - p) (length (drop (p + 1) image))) (and_then (cut e es (drop (e - p) (drop (p + 1) image))) (put_cut (item image p e))) none) (after_cut (last_of e es) o)
    rises ih false k = refl
    rises ih true k = inside ih (ltb-true p e k) (ltb e (length image)) refl

-- ---- two runs of pointers

abbrev pub join_cut : Cut → Cut → Option Cut
join_cut c d = some (record { items = c.items ++ d.items; left = d.left })

abbrev pub cut_more : ℕ → List ℕ → Cut → Option Cut
cut_more last fs c = and_then (cut last fs c.left) (join_cut c)

cut_more_lem : (x : List ℕ) (last : ℕ) (fs : List ℕ) (m : Option Cut)
    → and_then (and_then m (cut_more last fs)) (put_cut x) ≡ and_then (and_then m (put_cut x)) (cut_more last fs)
cut_more_lem x last fs none = refl
cut_more_lem x last fs (some c) = go (cut last fs c.left) where
  go : (n : Option Cut) → and_then (and_then n (join_cut c)) (put_cut x) ≡ and_then n (join_cut (record { items = x ∷ c.items; left = c.left }))
  go none = refl
  go (some d) = refl

pub cond_then : {A B : Type 0} (t : Bool) (m : Option A) (f : A → Option B) → cond t (and_then m f) none ≡ and_then (cond t m none) f
cond_then true m f = refl
cond_then false m f = refl

pub cut_append : (es : List ℕ) (p : ℕ) (fs l : List ℕ) → cut p (es ++ fs) l ≡ and_then (cut p es l) (cut_more (last_of p es) fs)
cut_append [] p fs l = go (cut p fs l) where
  go : (n : Option Cut) → n ≡ and_then n (join_cut (record { items = []; left = l }))
  go none = refl
  go (some d) = refl
cut_append (e ∷ es) p fs l =
    let x : List ℕ = take (e - p) l in
    let r : List ℕ = drop (e - p) l in
    ap (λ (m : Option Cut). cond (ltb p e && leb (e - p) (length l)) m none)
    (ap (λ (m : Option Cut). and_then m (put_cut x)) (cut_append es e fs r) ∙ cut_more_lem x (last_of e es) fs (cut e es r))
    ∙ cond_then (ltb p e && leb (e - p) (length l)) (and_then (cut e es r) (put_cut x)) (cut_more (last_of e es) fs)

-- ---- what was cut

part_bytes : (n : ℕ) (l : List ℕ) → Bytes l → Bytes (take n l)
part_bytes n l h = all_left (λ b. b < 256) (take n l) (drop n l) (subst Bytes (sym (take-append-drop n l)) h)

rest_bytes : (n : ℕ) (l : List ℕ) → Bytes l → Bytes (drop n l)
rest_bytes n l h = all_right (λ b. b < 256) (take n l) (drop n l) (subst Bytes (sym (take-append-drop n l)) h)

pub record WasCut (p : ℕ) (es image : List ℕ) (c : Cut) : Type 0 where
  pub left : c.left ≡ drop (last_of p es + 1) image
  pub count : length c.items ≡ length es
  pub rises : p ≤ last_of p es
  pub size : length (joined c.items) + p ≤ last_of p es
  pub within : p < length image → last_of p es < length image
  pub bytes : Bytes image → All Bytes c.items

pub was_cut : (es : List ℕ) (p : ℕ) (image : List ℕ) (c : Cut) → cut p es (drop (p + 1) image) ≡ some c → WasCut p es image c
was_cut [] p image c h =
    subst (λ (d : Cut). WasCut p [] image d) (some_inj h) (record { left = refl; count = refl; rises = omega arith; size = omega arith; within = λ k. k; bytes = λ k. tt })
was_cut (e ∷ es) p image c h =
    let l : List ℕ = drop (p + 1) image in
    let (t, h₁) = cond_some (ltb p e && leb (e - p) (length l)) _ h in
    let (t₁, t₂) = (and-eq-true_iff (ltb p e) (leb (e - p) (length l))).0 t in
    let u : p < e = ltb-true p e t₁ in
    let v : e - p ≤ length l = leb-true (e - p) (length l) t₂ in
    let (d, h₂, h₃) = then_some (cut e es (drop (e - p) l)) (put_cut (take (e - p) l)) h₁ in
    let w = was_cut es e image d (ap (cut e es) (sym (drop_on image p e u)) ∙ h₂) in
    let n : length (take (e - p) l ++ joined d.items) ≡ length (take (e - p) l) + length (joined d.items) = length-append (take (e - p) l) (joined d.items) in
    let m = length-take (e - p) l in
    let k = length-drop (p + 1) image in
    subst (λ (x : Cut). WasCut p (e ∷ es) image x) (some_inj h₃)
    (record {
      left = w.left;
      count = ap suc w.count;
      rises = omega (arith, w.rises);
      size = omega (arith, w.size);
      within = λ j. w.within (omega arith);
      bytes = λ j. (part_bytes (e - p) l (rest_bytes (p + 1) image j), w.bytes j);
    })
