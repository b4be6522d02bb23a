-- Items kept, one item more, and the image that is laid out of them.
-- Assumes nothing.
use mathlib.Core.Path.{◌≡◌, refl, sym, ap, ap₂, ◌∙◌}
use mathlib.Core.Bool.{Bool, cond}
use mathlib.Core.List.{List, [], ◌∷◌, ◌++◌, map, map-append, append_assoc, append-nil}
use Prim.Native.Nat.{ℕ, suc, ◌+◌, ◌-◌, ◌≤◌, ◌<◌, min}
use native.Mathlib.Omega.{arith}
use lib.ListN.{length, take, drop, set, replicate, length-append, length-map, length-replicate, length-take, length-drop, drop_of_length-le, replicate-append-replicate}
use lib.Seq.{set-append_seam, take_at, drop_at, take_all}
use borrow.Author.Rules.{part_to_end}
use borrow.Author.Tests.{lt-ltb, le-ltb}
use borrow.Rule.Slice.PartMut.{mid_of, post_of, put_mid}
use Rattle.std.specs.Prelude.{sum}
use Rattle.std.proofs.lemmas.List.{take_min, drop_min}
use Rattle.std.proofs.lemmas.List.Sums.{sum_by-cons}
use Rattle.errors.specs.Told.{Told, gives, told_by, told_number}
use Rattle.laws.specs.Copied.{copied, over}
use Rattle.laws.specs.Whole.{whole, whole_out, length_of}
use Rattle.laws.proofs.Whole.{length_number}
use Rattle.laws.specs.Lists.{joined}
use Rattle.memory.specs.Image.{end_pointers, image_size, image_bytes}
use Rattle.memory.specs.Memory.{image_number}
use Rattle.memory.proofs.Images.{joined_length}
use Rattle.pool.specs.declared.Pool.{Pool}
use Rattle.pool.specs.declared.Kept.{Kept}
use Rattle.pool.specs.Kept.{kept_length, kept, ends, Pushed, image_from, ImageLaid}
use Rattle.laws.proofs.Lists.{joined_append}
use Rattle.pool.proofs.Lists.{sum_of_lengths, ends_pointers, ends_append, ends_length, copied_more, over_more}

abbrev zeros : ℕ → List ℕ
zeros n = replicate n 0

module _ (most : ℕ) (items : List (List ℕ)) (p : Pool most) (e : p ≡ kept most items) where
  pub count : p.count ≡ length items
  unfolding kept
  count = ap (λ (x : Pool most). x.count) e

  -- the lengths
  pub lens : take p.count p.lens ≡ map kept_length items
  unfolding kept
  lens = ap (λ (x : Pool most). take x.count x.lens) e ∙ take_at (map kept_length items) (zeros (most - length items)) (length items) (length-map items kept_length)

  -- the bytes, where they fit
  pub bytes : (a : ℕ) → a ≡ length (joined items) → a ≤ 100 → take a p.bytes ≡ joined items
  unfolding kept
  bytes a f fit =
      let j : List ℕ = joined items in
      ap (λ (x : Pool most). take a x.bytes) e
      ∙ ap (λ (m : List ℕ). take a (m ++ drop (length j) (zeros 100))) (take_all (length (zeros 100)) j (simp length-replicate (omega arith)))
      ∙ take_at j (drop (length j) (zeros 100)) a (sym f)

-- ---- the lengths, as they are kept

kept_most : (items : List (List ℕ)) → sum (map kept_length items) ≤ length (joined items)
kept_most [] = omega arith
kept_most (x ∷ xs) = omega (arith, sum_by-cons (λ k. k) (kept_length x) (map kept_length xs), kept_most xs, length-append x (joined xs))

-- where all are exact
kept_exact : (items : List (List ℕ)) → sum (map kept_length items) < 255 → map kept_length items ≡ map length items
kept_exact [] h = refl
kept_exact (x ∷ xs) h =
    let s = sum_by-cons (λ k. k) (kept_length x) (map kept_length xs) in
    let one : kept_length x ≡ length x = omega arith in
    let rest = kept_exact xs (omega arith) in
    λ i. one i ∷ rest i

kept_sum : (items : List (List ℕ)) → sum (map kept_length items) < 255 → sum (map kept_length items) ≡ length (joined items)
kept_sum items h = ap sum (kept_exact items h) ∙ sum_of_lengths items

-- ---- one item more

module _ (most : ℕ) (x : List ℕ) where
  -- the pool after it, as the code leaves it
  abbrev next : Pool most → Pool most
  next p =
      let at = min p.used 100 in
      record {
        count = p.count + 1;
        lens = set p.lens p.count (kept_length x);
        bytes = take at p.bytes ++ copied (drop at p.bytes) x;
        used = min (p.used + min (length x) 101) 101;
      }

  module _ (items : List (List ℕ)) (h : length items < most) where
    abbrev m : ℕ
    m = length items

    abbrev lengths : List ℕ
    lengths = map kept_length items

    abbrev more : List (List ℕ)
    more = items ++ (x ∷ [])

    lens_more : set (lengths ++ zeros (most - m)) m (kept_length x) ≡ map kept_length more ++ zeros (most - length more)
    lens_more =
        let n : length more ≡ suc m = length-append items (x ∷ []) ∙ (let q : m + 1 ≡ suc m = omega arith in q) in
        ap (λ (j : ℕ). set (lengths ++ zeros j) m (kept_length x)) (let q : most - m ≡ suc (most - suc m) = omega arith in q)
        ∙ ap (λ (j : ℕ). set (lengths ++ (0 ∷ zeros (most - suc m))) j (kept_length x)) (sym (length-map items kept_length))
        ∙ set-append_seam lengths 0 (zeros (most - suc m)) (kept_length x)
        ∙ sym (append_assoc lengths (kept_length x ∷ []) (zeros (most - suc m)))
        ∙ ap₂ (λ (l : List ℕ) (j : ℕ). l ++ zeros (most - j)) (sym (map-append kept_length items (x ∷ []))) (sym n)

    bytes_more : (at : ℕ) → at ≡ min (length (joined items)) 100 → let b = copied (zeros 100) (joined items) in
        take at b ++ copied (drop at b) x ≡ copied (zeros 100) (joined more)
    bytes_more at e =
        let b : List ℕ = copied (zeros 100) (joined items) in
        let a : ℕ = length (joined items) in
        let f : at ≡ min a (length b) = e ∙ ap (min a) (let q : 100 ≡ length b = simp (length-append, length-take, length-drop, length-replicate) (omega arith) in q) in
        ap₂ (λ (u v : List ℕ). u ++ copied v x) (ap (λ (j : ℕ). take j b) f ∙ take_min a b) (ap (λ (j : ℕ). drop j b) f ∙ drop_min a b)
        ∙ copied_more (zeros 100) (joined items) x
        ∙ ap (copied (zeros 100)) (sym (joined_append items (x ∷ []) ∙ ap (λ (l : List ℕ). joined items ++ l) (append-nil x)))

    next_kept : next (kept most items) ≡ kept most more
    unfolding kept
    next_kept =
        let joins = ap length (joined_append items (x ∷ []) ∙ ap (λ (l : List ℕ). joined items ++ l) (append-nil x)) ∙ length-append (joined items) x in
        let at : min (min (length (joined items)) 101) 100 ≡ min (length (joined items)) 100 = omega arith in
        let used : min (min (length (joined items)) 101 + min (length x) 101) 101 ≡ min (length (joined more)) 101 = omega (arith, joins) in
        let n : m + 1 ≡ length more = sym (length-append items (x ∷ [])) in
        λ i. record { count = n i; lens = lens_more i; bytes = bytes_more _ at i; used = used i }

  -- the number tells whether there is room
  module _ (p : Pool most) where
    pub full : most ≤ p.count → Pushed most x p p
    full h items g e =
        let c = count most items p e in
        e ∙ ap (λ (t : Bool). kept most (cond t (items ++ (x ∷ [])) items)) (sym (le-ltb (length items) most (omega arith)))

    -- what the code leaves, where the bytes from an index on were lent to the copying
    pub room : p.count < most → length p.bytes ≡ 100 → (n at len used : ℕ) (last : List ℕ) → n ≡ p.count → len ≡ kept_length x → at ≡ min p.used 100
        → used ≡ min (p.used + min (length x) 101) 101 → last ≡ copied (mid_of at (100 - at) p.bytes) x
        → Pushed most x p (record { count = p.count + 1; lens = set p.lens n len; bytes = put_mid at (100 - at) p.bytes last; used = used })
    room h long n at len used last f w j k l items g e =
        let c = count most items p e in
        let d : length items < most = omega arith in
        let t : mid_of at (100 - at) p.bytes ≡ drop at p.bytes = ap (λ (k : ℕ). mid_of at (k - at) p.bytes) (sym long) ∙ part_to_end p.bytes at in
        let none : post_of at (100 - at) p.bytes ≡ [] = drop_of_length-le (drop at p.bytes) {i = 100 - at} (simp length-drop (omega arith)) in
        let b : put_mid at (100 - at) p.bytes last ≡ take at p.bytes ++ copied (drop at p.bytes) x =
        ap₂ (λ (u v : List ℕ). take at p.bytes ++ (u ++ v)) (l ∙ ap (λ (u : List ℕ). copied u x) t) none
        ∙ ap (λ (u : List ℕ). take at p.bytes ++ u) (append-nil (copied (drop at p.bytes) x)) in
        (λ i. record { count = p.count + 1; lens = set p.lens (f i) (w i); bytes = b i; used = k i })
        ∙ ap (λ (a : ℕ). record {
          count = p.count + 1;
          lens = set p.lens p.count (kept_length x);
          bytes = take a p.bytes ++ copied (drop a p.bytes) x;
          used = min (p.used + min (length x) 101) 101;
        }) j
        ∙ ap next e
        ∙ next_kept items d
        ∙ ap (λ (t : Bool). kept most (cond t (items ++ (x ∷ [])) items)) (sym (lt-ltb (length items) most d))

-- ---- the image

-- lengths and bytes laid over zeros
module _ (ls ks xs ys : List ℕ) (fit : length ls + length ks + length xs + length ys ≤ 98) where
  abbrev s : ℕ
  s = length ls

  abbrev q : ℕ
  q = length ks

  abbrev start : List ℕ
  start = s ∷ q ∷ zeros 98

  pub laid_over : (last : ℕ) (a b c d : List ℕ) → last ≡ 1 + s + q + sum ls → a ≡ over start 2 (ends (1 + s + q) ls) → b ≡ over a (2 + s) (ends last ks)
      → c ≡ over b (2 + s + q) xs → d ≡ over c (2 + s + q + length xs) ys
      → d ≡ s ∷ q ∷ (ends (1 + s + q) (ls ++ ks) ++ xs ++ ys ++ zeros (98 - (s + q + length xs + length ys)))
  laid_over last a b c d e f g h i =
      let p : List ℕ = ends (1 + s + q) ls in
      let r : List ℕ = ends last ks in
      let j = ends_length ls (1 + s + q) in
      let k = ends_length ks last in
      let u = length-append p r in
      let v = length-append (p ++ r) xs in
      let w = length-append (p ++ r ++ xs) ys in
      let all : List ℕ = p ++ r ++ xs ++ ys in
      let n : ℕ = s + q + length xs + length ys in
      let z : zeros 98 ≡ zeros (length all) ++ zeros (98 - n) =
      ap zeros (let o : 98 ≡ length all + (98 - n) = omega arith in o) ∙ sym (replicate-append-replicate (length all) (98 - n) 0) in
      let t : drop (2 + length all) start ≡ zeros (98 - n) =
      ap (λ (o : ℕ). drop o start) (let o : 2 + length all ≡ suc (suc (length all)) = omega arith in o)
      ∙ ap (drop (length all)) z
      ∙ drop_at (zeros (length all)) (zeros (98 - n)) (length all) (length-replicate (length all) 0) in
      i
      ∙ ap (λ (o : List ℕ). over o (2 + s + q + length xs) ys)
      (h ∙ ap (λ (o : List ℕ). over o (2 + s + q) xs) (g ∙ ap (λ (o : List ℕ). over o (2 + s) r) f ∙ over_more start p r 2 (2 + s) (omega arith) (omega arith)) ∙ over_more start (p ++ r) xs 2 (2 + s + q) (omega arith) (omega arith))
      ∙ over_more start (p ++ r ++ xs) ys 2 (2 + s + q + length xs) (omega arith) (omega arith)
      ∙ ap (λ (o : List ℕ). s ∷ q ∷ (all ++ o)) t
      ∙ ap (λ (o : List ℕ). s ∷ q ∷ (o ++ xs ++ ys ++ zeros (98 - n))) (ap (λ (o : ℕ). p ++ ends o ks) e ∙ sym (ends_append ls ks (1 + s + q)))

-- the lengths and the bytes of items
pub laid_image : (ss qs : List (List ℕ)) (ls ks xs ys out : List ℕ) → ls ≡ map length ss → ks ≡ map length qs → xs ≡ joined ss → ys ≡ joined qs
    → out ≡ length ls ∷ length ks ∷ (ends (1 + length ls + length ks) (ls ++ ks) ++ xs ++ ys ++ zeros (98 - (length ls + length ks + length xs + length ys)))
    → out ≡ image_bytes ss qs
laid_image ss qs ls ks xs ys out e f g h i =
    let a : length ls ≡ length ss = ap length e ∙ length-map ss length in
    let b : length ks ≡ length qs = ap length f ∙ length-map qs length in
    let p : List ℕ = end_pointers (1 + length ss + length qs) (ss ++ qs) in
    let c : ends (1 + length ls + length ks) (ls ++ ks) ≡ p =
    ap₂ (λ (u v : ℕ). ends (1 + u + v) (ls ++ ks)) a b
    ∙ ap (ends (1 + length ss + length qs)) (ap₂ (λ (u v : List ℕ). u ++ v) e f ∙ sym (map-append length ss qs))
    ∙ ends_pointers (ss ++ qs) (1 + length ss + length qs) in
    let d : xs ++ ys ≡ joined (ss ++ qs) = ap₂ (λ (u v : List ℕ). u ++ v) g h ∙ sym (joined_append ss qs) in
    let n : 98 - (length ls + length ks + length xs + length ys) ≡ 100 - image_size ss qs =
    let j = joined_length ss qs in let k : length xs ≡ length (joined ss) = ap length g in let o : length ys ≡ length (joined qs) = ap length h in omega arith in
    i
    ∙ ap₂ (λ (u v : ℕ). u ∷ v ∷ (ends (1 + length ls + length ks) (ls ++ ks) ++ xs ++ ys ++ zeros (98 - (length ls + length ks + length xs + length ys)))) a b
    ∙ ap₂ (λ (u : List ℕ) (v : ℕ). length ss ∷ length qs ∷ (u ++ xs ++ ys ++ zeros v)) c n
    ∙ ap (λ (u : List ℕ). length ss ∷ length qs ∷ (u ++ zeros (100 - image_size ss qs))) (append_assoc p xs ys ∙ ap (λ (u : List ℕ). p ++ u) d)

-- what is answered, by the lengths of snippets ls and of sequences js
module _ (k : Kept) (buffer ls js : List ℕ) (f : ls ≡ take k.snippets.count k.snippets.lens) (g : js ≡ take k.sequences.count k.sequences.lens) where
  module _ (ss qs : List (List ℕ)) (e : k.snippets ≡ kept 15 ss) (i : k.sequences ≡ kept 16 qs) where
    snippets_are : ls ≡ map kept_length ss
    snippets_are = f ∙ lens 15 ss k.snippets e

    sequences_are : js ≡ map kept_length qs
    sequences_are = g ∙ lens 16 qs k.sequences i

    many_snippets : length ls ≡ length ss
    many_snippets = ap length snippets_are ∙ length-map ss kept_length

    many_sequences : length js ≡ length qs
    many_sequences = ap length sequences_are ∙ length-map qs kept_length

  pub no_snippets_lem : length ls < 1 → ImageLaid k buffer 9 buffer
  no_snippets_lem h ss qs a b e i =
      let c = many_snippets ss qs e i in
      let t = lt-ltb (length ss) 1 (omega arith) in
      (simp t, simp t)

  pub no_sequences_lem : 1 ≤ length ls → length js < 1 → ImageLaid k buffer 10 buffer
  no_sequences_lem h o ss qs a b e i =
      let c = many_snippets ss qs e i in
      let d = many_sequences ss qs e i in
      let t = le-ltb (length ss) 1 (omega arith) in
      let u = lt-ltb (length qs) 1 (omega arith) in
      (simp (t, u), simp (t, u))

  module _ (h : 1 ≤ length ls) (o : 1 ≤ length js) (u v : ℕ) (p : u ≡ sum ls) (q : v ≡ sum js) where
    pub too_large : 98 < length ls + length js + u + v → ImageLaid k buffer 8 buffer
    too_large w ss qs a b e i =
        let c = many_snippets ss qs e i in
        let d = many_sequences ss qs e i in
        let r = ap sum (snippets_are ss qs e i) in
        let t = ap sum (sequences_are ss qs e i) in
        let s = le-ltb (length ss) 1 (omega arith) in
        let z = le-ltb (length qs) 1 (omega arith) in
        let x = lt-ltb 100 (image_size ss qs) (omega (arith, kept_most ss, kept_most qs, joined_length ss qs)) in
        (simp (s, z, x), simp (s, z, x))

    pub built : length ls + length js + u + v ≤ 98 → (xs ys out buffer' : List ℕ) (number : ℕ) → xs ≡ take u k.snippets.bytes → ys ≡ take v k.sequences.bytes
        → out ≡ image_from ls xs js ys
        → number ≡ told_number (length_of (whole buffer (gives out))) → buffer' ≡ whole_out buffer (gives out) → ImageLaid k buffer number buffer'
    built w xs ys out buffer' number j l z m x ss qs a b e i =
        let c = many_snippets ss qs e i in
        let d = many_sequences ss qs e i in
        let sums : sum ls ≡ sum (map kept_length ss) = ap sum (snippets_are ss qs e i) in
        let totals : sum js ≡ sum (map kept_length qs) = ap sum (sequences_are ss qs e i) in
        let r : u ≡ length (joined ss) = omega (arith, kept_sum ss (omega arith)) in
        let t : v ≡ length (joined qs) = omega (arith, kept_sum qs (omega arith)) in
        let y = joined_length ss qs in
        let none : image_number ss qs ≡ 0 = simp (le-ltb (length ss) 1 (omega arith), le-ltb (length qs) 1 (omega arith), le-ltb 100 (image_size ss qs) (omega arith)) in
        let laid : out ≡ image_bytes ss qs =
        laid_image ss qs ls js xs ys out (snippets_are ss qs e i ∙ kept_exact ss (omega arith)) (sequences_are ss qs e i ∙ kept_exact qs (omega arith))
        (j ∙ bytes 15 ss k.snippets e u r (omega arith)) (l ∙ bytes 16 qs k.sequences i v t (omega arith)) z in
        let item : gives out ≡ told_by (image_number ss qs) (image_bytes ss qs) = λ i. told_by (sym none i) (laid i) in (
          m ∙ length_number (whole buffer (gives out)) ∙ ap (λ (t : Told (List ℕ)). told_number (whole buffer t)) item,
          x ∙ ap (whole_out buffer) item,
        )
