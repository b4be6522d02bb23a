-- Where the items of an image stand, and what of them was read.
-- Assumes nothing.
use mathlib.Core.Path.{◌≡◌, refl, sym, ap, ◌∙◌, subst}
use mathlib.Core.Bool.{◌&&◌, and-eq-true_iff}
use mathlib.Core.List.{List, [], ◌∷◌}
use mathlib.Core.Option.{Option, some}
use Prim.Native.Nat.{ℕ, zero, suc, ◌+◌, ◌-◌, ◌≤◌, ◌<◌}
use native.Mathlib.Omega.{arith}
use borrow.Author.Tests.{ltb-true, eqb-true}
use lib.Dec.{ltb, leb, eqb}
use lib.ListN.{length, take, drop, get_or, get_elem?, length-take, length-drop}
use lib.Seq.{get_or-take, length-take-le}
use Rattle.content.specs.Content.{Content}
use Rattle.content.specs.ReadImage.{and_then, every, read_snippet, read_sequence, Cut, cut, all_zero, Items, counts_fit, items_from, read_items, content_in, read_image}
use Rattle.content.proofs.Codec.{none_some, some_inj, cond_some, then_some}
use Rattle.reader.specs.Walk.{item}
use Rattle.reader.proofs.Cuts.{drop_on, was_cut}
use Rattle.content.proofs.Items.{counts_sound}
use Rattle.reader.specs.Places.{start_in}
use Rattle.reader.proofs.Placed.{elem_take, elem_drop}
use Rattle.readings.specs.InPlace.{before_item, item_at}

-- ---- each of a list, read

module _ {A B : Type 0} (f : A → Option B) where
  record First (x : A) (xs : List A) (ys : List B) : Type 0 where
    one : B
    more : List B
    cons : one ∷ more ≡ ys
    read : f x ≡ some one
    rest : every f xs ≡ some more

  first : (x : A) (xs : List A) (ys : List B) → every f (x ∷ xs) ≡ some ys → First x xs ys
  first x xs ys e =
      let (y, p, e₁) = then_some (f x) (λ y. and_then (every f xs) (λ zs. some (y ∷ zs))) e in
      let (zs, q, e₂) = then_some (every f xs) (λ zs. some (y ∷ zs)) e₁ in
      record { one = y; more = zs; cons = some_inj e₂; read = p; rest = q }

  every_length : (xs : List A) (ys : List B) → every f xs ≡ some ys → length ys ≡ length xs
  every_length [] ys e = ap length (sym (some_inj e))
  every_length (x ∷ xs) ys e = let d = first x xs ys e in ap length (sym d.cons) ∙ ap suc (every_length xs d.more d.rest)

  pub every_at : (xs : List A) (ys : List B) (i : ℕ) → every f xs ≡ some ys → get_elem? ys i ≡ and_then (get_elem? xs i) f
  every_at [] ys i e = ap (λ (l : List B). get_elem? l i) (sym (some_inj e))
  every_at (x ∷ xs) ys zero e = let d = first x xs ys e in ap (λ (l : List B). get_elem? l 0) (sym d.cons) ∙ sym d.read
  every_at (x ∷ xs) ys (suc i) e =
      let d = first x xs ys e in ap (λ (l : List B). get_elem? l (suc i)) (sym d.cons) ∙ every_at xs d.more i d.rest

-- ---- the items that were cut

record OneCut (p e : ℕ) (es image : List ℕ) (c : Cut) : Type 0 where
  more : Cut
  next : cut e es (drop (e + 1) image) ≡ some more
  items : item image p e ∷ more.items ≡ c.items

one_cut : (p e : ℕ) (es image : List ℕ) (c : Cut) → cut p (e ∷ es) (drop (p + 1) image) ≡ some c → OneCut p e es image c
one_cut p e es image c h =
    let l : List ℕ = drop (p + 1) image in
    let (t, h₁) = cond_some (ltb p e && leb (e - p) (length l)) _ h in
    let u : p < e = ltb-true p e ((and-eq-true_iff (ltb p e) (leb (e - p) (length l))).0 t).0 in
    let (d, h₂, h₃) = then_some (cut e es (drop (e - p) l)) _ h₁ in
    record {
      more = d;
      next = ap (cut e es) (sym (drop_on image p e u)) ∙ h₂;
      items = ap (λ (x : Cut). x.items) (some_inj h₃);
    }

start_next : (p e : ℕ) (es : List ℕ) (k : ℕ) → start_in e es k ≡ start_in p (e ∷ es) (suc k)
start_next p e es zero = refl
start_next p e es (suc k) = refl

cut_at : (es : List ℕ) (p : ℕ) (image : List ℕ) (c : Cut) (k : ℕ) → cut p es (drop (p + 1) image) ≡ some c → k < length es
    → get_elem? c.items k ≡ some (item image (start_in p es k) (get_or es k 0))
cut_at [] p image c k h g = absurd (omega arith)
cut_at (e ∷ es) p image c zero h g = ap (λ (l : List (List ℕ)). get_elem? l 0) (sym (one_cut p e es image c h).items)
cut_at (e ∷ es) p image c (suc k) h g =
    let o = one_cut p e es image c h in
    ap (λ (l : List (List ℕ)). get_elem? l (suc k)) (sym o.items) ∙ cut_at es e image o.more k o.next (omega arith)
    ∙ ap (λ (b : ℕ). some (item image b (get_or es k 0))) (start_next p e es k)

-- ---- the items of an image

module _ (s q : ℕ) (l : List ℕ) (h : s + q ≤ length l) where
  abbrev image : List ℕ
  image = s ∷ q ∷ l

  abbrev ends : List ℕ
  ends = take (s + q) l

  end_at : (k : ℕ) → k < s + q → get_or ends k 0 ≡ get_or image (2 + k) 0
  end_at k g = let j : suc (suc k) ≡ 2 + k = omega arith in get_or-take (s + q) l k 0 g ∙ ap (λ (n : ℕ). get_or image n 0) j

  before_at : (k : ℕ) → k < s + q → start_in (1 + s + q) ends k ≡ before_item image k
  before_at zero g = refl
  before_at (suc k) g = end_at k (omega arith)

  item_cut : (c : Cut) → cut (1 + s + q) ends (drop (s + q) l) ≡ some c → (k : ℕ) → k < s + q → get_elem? c.items k ≡ some (item_at image k)
  unfolding item_at
  item_cut c e k g =
      let n : 1 + s + q + 1 ≡ suc (suc (s + q)) = omega arith in
      let d : drop (1 + s + q + 1) image ≡ drop (s + q) l = ap (λ (m : ℕ). drop m image) n in
      cut_at ends (1 + s + q) image c k (ap (cut (1 + s + q) ends) d ∙ e) (omega (arith, length-take (s + q) l))
      ∙ (λ i. some (item image (before_at k g i) (end_at k g i)))

-- what is known of an image's content
pub record Known (image : List ℕ) (c : Content) : Type 0 where
  pub snippets : length c.snippets ≡ get_or image 0 0
  pub sequences : length c.sequences ≡ get_or image 1 0
  pub snippet : (i : ℕ) → i < get_or image 0 0 → get_elem? c.snippets i ≡ read_snippet (item_at image i)
  pub sequence : (i : ℕ) → i < get_or image 1 0 → get_elem? c.sequences i ≡ read_sequence (item_at image (get_or image 0 0 + i))

module _ (s q : ℕ) (l : List ℕ) (h : s + q ≤ length l) (c : Cut) (e : cut (1 + s + q) (take (s + q) l) (drop (s + q) l) ≡ some c) where
  abbrev image' : List ℕ
  image' = s ∷ q ∷ l

  count : length c.items ≡ s + q
  count =
      let n : 1 + s + q + 1 ≡ suc (suc (s + q)) = omega arith in
      let d : drop (1 + s + q + 1) image' ≡ drop (s + q) l = ap (λ (m : ℕ). drop m image') n in
      (was_cut (take (s + q) l) (1 + s + q) image' c (ap (cut (1 + s + q) (take (s + q) l)) d ∙ e)).count ∙ length-take-le (s + q) l h

  content_known : (x : Content) → every read_snippet (take s c.items) ≡ some x.snippets → every read_sequence (drop s c.items) ≡ some x.sequences
      → Known image' x
  content_known x a b =
      let n = count in
      let ns : length (take s c.items) ≡ s = length-take-le s c.items (omega arith) in
      let nq : length (drop s c.items) ≡ q = omega (arith, length-drop s c.items) in
      record {
        snippets = every_length read_snippet (take s c.items) x.snippets a ∙ ns;
        sequences = every_length read_sequence (drop s c.items) x.sequences b ∙ nq;
        snippet = λ i g.
            every_at read_snippet (take s c.items) x.snippets i a
            ∙ ap (λ (o : Option (List ℕ)). and_then o read_snippet) (elem_take c.items s i g ∙ item_cut s q l h c e i (omega arith));
        sequence = λ i g.
            every_at read_sequence (drop s c.items) x.sequences i b
            ∙ ap (λ (o : Option (List ℕ)). and_then o read_sequence) (elem_drop c.items s i ∙ item_cut s q l h c e (s + i) (omega arith));
      }

items_known : (s q : ℕ) (l : List ℕ) (r : Items) (x : Content) → read_items (s ∷ q ∷ l) ≡ some r → content_in r ≡ some x → Known (s ∷ q ∷ l) x
unfolding read_items
items_known s q l r x e f =
    let (t, e₁) = cond_some (eqb (length l) 98 && counts_fit s q) _ e in
    let (u, v) = (and-eq-true_iff (eqb (length l) 98) (counts_fit s q)).0 t in
    let (c, e₂, e₃) = then_some (cut (1 + s + q) (take (s + q) l) (drop (s + q) l)) (items_from s) e₁ in
    let (z, e₄) = cond_some (all_zero c.left) _ e₃ in
    let d = some_inj e₄ in
    let (a, f₁, f₂) = then_some (every read_snippet r.snippets) _ f in
    let (b, f₃, f₄) = then_some (every read_sequence r.sequences) _ f₂ in
    let n = eqb-true (length l) 98 u in
    let k = counts_sound s q v in
    subst (λ (y : Content). Known (s ∷ q ∷ l) y) (some_inj f₄)
    (content_known s q l (omega arith) c e₂ (record { snippets = a; sequences = b })
    (ap (λ (y : Items). every read_snippet y.snippets) d ∙ f₁)
    (ap (λ (y : Items). every read_sequence y.sequences) d ∙ f₃))

known_by : (image : List ℕ) (r : Items) (x : Content) → read_items image ≡ some r → content_in r ≡ some x → Known image x
unfolding read_items
known_by [] r x d f = none_some r d
known_by (s ∷ []) r x d f = none_some r d
known_by (s ∷ q ∷ l) r x d f = items_known s q l r x d f

pub known : (image : List ℕ) (x : Content) → read_image image ≡ some x → Known image x
unfolding read_image
known image x e = let (r, d, f) = then_some (read_items image) content_in e in known_by image r x d f
