-- Images that print alike are equal: lines of one width are cut alike, their first letter parts snippets from frames, and a line gives back its
-- numbers and bytes.
-- Assumes nothing.
use Rattle.std.proofs.Common.{◌≡◌, ◌+◌, ◌/◌, ◌%◌, ◌-◌, ◌≤◌, ◌<◌, ◌++◌, ◌∙◌, ℕ, suc, zero, cond, ltb, List, [], ◌∷◌, map, length, take, drop, replicate, get_or, refl, sym, ap, arith}
use mathlib.Core.List.{append_assoc}
use lib.ListN.{length-append}
use lib.Seq.{take_at, drop_at}
use Rattle.laws.specs.Bytes.{All, Bytes}
use Rattle.laws.specs.Lists.{joined}
use Rattle.laws.proofs.Tests.{same}
use Rattle.frame.specs.declared.FrameBuilder.{FrameBuilder}
use Rattle.frame.specs.Frame.{bytes_of}
use Rattle.frame.proofs.Frames.{frame_bytes_lem}
use Rattle.memory.specs.Image.{image_bytes}
use Rattle.content.specs.Content.{Point, Content, point_bytes, frames_bytes, Admitted, image_of}
use Rattle.content.proofs.Admits.{SnippetAdmitted}
use Rattle.content.proofs.Codec.{cons_eq}
use Rattle.content.proofs.Points.{snippet_codec}
use Rattle.page.specs.Lines.{blank, newline, digit, two_digits, in_capitals, snippet_line, frame_line, frame_lines, numbered, page_lines, page_of}
use Rattle.page.specs.Page.{decimal, Line}
use Rattle.page.proofs.Long.{Begun, begun}
use Rattle.page.proofs.Said.{decimal_said}
use Rattle.page.proofs.Shown.{lines_shown}

-- ---- lists

head_eq : {x y : ℕ} {xs ys : List ℕ} → x ∷ xs ≡ y ∷ ys → x ≡ y
head_eq e = ap (λ l. get_or l 0 0) e

abbrev rest : {A : Type 0} → List A → List A
rest [] = []
rest (x ∷ xs) = xs

rest_eq : {A : Type 0} {x y : A} {xs ys : List A} → x ∷ xs ≡ y ∷ ys → xs ≡ ys
rest_eq e = ap rest e

abbrev first_line : List (List ℕ) → List ℕ
first_line [] = []
first_line (x ∷ xs) = x

no_cons : {A X : Type 0} {x : A} {xs : List A} → [] ≡ x ∷ xs → X
no_cons e = absurd (omega (arith, ap length e))

-- ---- digits

abbrev value_of : ℕ → ℕ
value_of b = cond (ltb b 58) (b - 48) (b - 55)

value_digit : (m : ℕ) → m < 16 → value_of (digit m) ≡ m
value_digit m h = same (λ k. value_of (digit k)) (λ k. k) 16 refl m h

digit_same : (m n : ℕ) → m < 16 → n < 16 → digit m ≡ digit n → m ≡ n
digit_same m n h g e = sym (value_digit m h) ∙ ap value_of e ∙ value_digit n g

-- a digit is above the blank and the newline
digit_least : (m : ℕ) → m < 16 → 48 ≤ digit m
digit_least m h = omega (arith, same (λ k. 48 - digit k) (λ k. 0) 16 refl m h)

number_same : (i k : ℕ) (r t : List ℕ) → i < 100 → k < 100 → two_digits i ++ r ≡ two_digits k ++ t → i ≡ k
number_same i k r t h g e =
    let d : decimal i ++ r ≡ decimal k ++ t = (λ n. sym (decimal_said i h) n ++ r) ∙ e ∙ (λ n. decimal_said k g n ++ t) in
    omega (arith, head_eq d, head_eq (rest_eq d))

-- ---- the hexadecimal of bytes, up to the blanks

pad_head : (n x : ℕ) (r : List ℕ) → replicate n blank ++ newline ∷ [] ≡ x ∷ r → x ≤ 32
pad_head zero x r e = omega (arith, head_eq e)
pad_head (suc n) x r e = omega (arith, head_eq e)

capitals_same : (bs cs : List ℕ) (m n : ℕ) → Bytes bs → Bytes cs
    → in_capitals bs ++ (replicate m blank ++ newline ∷ []) ≡ in_capitals cs ++ (replicate n blank ++ newline ∷ []) → bs ≡ cs
capitals_same [] [] m n h g e = refl
capitals_same [] (c ∷ cs) m n h g e = absurd (omega (arith, pad_head m (digit (c / 16)) _ e, digit_least (c / 16) (omega (arith, g.0))))
capitals_same (b ∷ bs) [] m n h g e = absurd (omega (arith, pad_head n (digit (b / 16)) _ (sym e), digit_least (b / 16) (omega (arith, h.0))))
capitals_same (b ∷ bs) (c ∷ cs) m n h g e =
    let high = digit_same (b / 16) (c / 16) (omega (arith, h.0)) (omega (arith, g.0)) (head_eq e) in
    let low = digit_same (b % 16) (c % 16) (omega arith) (omega arith) (head_eq (rest_eq e)) in
    let w : b ≡ c = omega (arith, high, low) in
    cons_eq w (capitals_same bs cs m n h.1 g.1 (rest_eq (rest_eq e)))

-- ---- lines

snippet_same : (i : ℕ) (bs cs : List ℕ) → Bytes bs → Bytes cs → snippet_line i bs ≡ snippet_line i cs → bs ≡ cs
snippet_same i bs cs h g e =
    let bl = replicate (36 - length (0 ∷ 0 ∷ 0 ∷ 0 ∷ in_capitals bs)) blank in
    let cl = replicate (36 - length (0 ∷ 0 ∷ 0 ∷ 0 ∷ in_capitals cs)) blank in
    capitals_same bs cs _ _ h g
    (sym (append_assoc (in_capitals bs) bl (newline ∷ [])) ∙ rest_eq (rest_eq (rest_eq (rest_eq e))) ∙ append_assoc (in_capitals cs) cl (newline ∷ []))

frame_same : (i j : ℕ) (bs cs : List ℕ) → Bytes bs → Bytes cs → frame_line i j bs ≡ frame_line i j cs → bs ≡ cs
frame_same i j bs cs h g e =
    let bl = replicate (36 - length (0 ∷ 0 ∷ 0 ∷ 0 ∷ 0 ∷ 0 ∷ 0 ∷ in_capitals bs)) blank in
    let cl = replicate (36 - length (0 ∷ 0 ∷ 0 ∷ 0 ∷ 0 ∷ 0 ∷ 0 ∷ in_capitals cs)) blank in
    capitals_same bs cs _ _ h g
    (sym (append_assoc (in_capitals bs) bl (newline ∷ [])) ∙ rest_eq (rest_eq (rest_eq (rest_eq (rest_eq (rest_eq (rest_eq e)))))) ∙ append_assoc (in_capitals cs) cl (newline ∷ []))

sequence_same : (i k j l : ℕ) (bs cs : List ℕ) → i < 100 → k < 100 → frame_line i j bs ≡ frame_line k l cs → i ≡ k
sequence_same i k j l bs cs h g e = number_same i k _ _ h g (rest_eq e)

-- ---- the lines of a page

-- the lines of sequences from number k on
abbrev from : ℕ → List (List FrameBuilder) → List (List ℕ)
from k qs = joined (numbered frame_lines k qs)

no_frame : {X : Type 0} (i k : ℕ) (qs : List (List FrameBuilder)) (j : ℕ) (bs : List ℕ) (r : List (List ℕ)) → Begun qs → i < k → k + length qs ≤ 100
    → from k qs ≡ frame_line i j bs ∷ r → X
no_frame i k [] j bs r h s g e = no_cons e
no_frame i k ([] ∷ qs) j bs r h s g e = absurd (omega (arith, h.0))
no_frame i k ((f ∷ fs) ∷ qs) j bs r h s g e = absurd (omega (arith, sequence_same k i 1 j (bytes_of f) bs (omega arith) (omega arith) (ap first_line e)))

no_snippet : {X : Type 0} (k : ℕ) (qs : List (List FrameBuilder)) (i : ℕ) (bs : List ℕ) (r : List (List ℕ)) → Begun qs → from k qs ≡ snippet_line i bs ∷ r → X
no_snippet k [] i bs r h e = no_cons e
no_snippet k ([] ∷ qs) i bs r h e = absurd (omega (arith, h.0))
no_snippet k ((f ∷ fs) ∷ qs) i bs r h e = absurd (omega (arith, head_eq (ap first_line e)))

frames_same : (i j : ℕ) (fs gs : List FrameBuilder) (qs rs : List (List FrameBuilder)) → Begun qs → Begun rs → suc i + length qs ≤ 100 → suc i + length rs ≤ 100
    → numbered (frame_line i) j (map bytes_of fs) ++ from (suc i) qs ≡ numbered (frame_line i) j (map bytes_of gs) ++ from (suc i) rs
    → (map bytes_of fs ≡ map bytes_of gs) × (from (suc i) qs ≡ from (suc i) rs)
frames_same i j [] [] qs rs h g a b e = (refl, e)
frames_same i j [] (x ∷ gs) qs rs h g a b e = no_frame i (suc i) qs j (bytes_of x) _ h (omega arith) a e
frames_same i j (x ∷ fs) [] qs rs h g a b e = no_frame i (suc i) rs j (bytes_of x) _ g (omega arith) b (sym e)
frames_same i j (x ∷ fs) (y ∷ gs) qs rs h g a b e =
    let t = frames_same i (suc j) fs gs qs rs h g a b (rest_eq e) in
    (cons_eq (frame_same i j (bytes_of x) (bytes_of y) (frame_bytes_lem x) (frame_bytes_lem y) (ap first_line e)) t.0, t.1)

sequences_same : (i : ℕ) (qs rs : List (List FrameBuilder)) → Begun qs → Begun rs → i + length qs ≤ 100 → i + length rs ≤ 100 → from i qs ≡ from i rs
    → map frames_bytes qs ≡ map frames_bytes rs
sequences_same i [] [] h g a b e = refl
sequences_same i [] ([] ∷ rs) h g a b e = absurd (omega (arith, g.0))
sequences_same i [] ((x ∷ gs) ∷ rs) h g a b e = no_cons e
sequences_same i ([] ∷ qs) [] h g a b e = absurd (omega (arith, h.0))
sequences_same i ((x ∷ fs) ∷ qs) [] h g a b e = no_cons (sym e)
sequences_same i (fs ∷ qs) (gs ∷ rs) h g a b e =
    let t = frames_same i 1 fs gs qs rs h.1 g.1 (omega arith) (omega arith) e in
    cons_eq (ap joined t.0) (sequences_same (suc i) qs rs h.1 g.1 (omega arith) (omega arith) t.1)

snippets_same : (i : ℕ) (ss ts : List (List Point)) (qs rs : List (List FrameBuilder)) → All SnippetAdmitted ss → All SnippetAdmitted ts → Begun qs → Begun rs
    → numbered snippet_line i (map point_bytes ss) ++ from 0 qs ≡ numbered snippet_line i (map point_bytes ts) ++ from 0 rs
    → (map point_bytes ss ≡ map point_bytes ts) × (from 0 qs ≡ from 0 rs)
snippets_same i [] [] qs rs a b h g e = (refl, e)
snippets_same i [] (y ∷ ts) qs rs a b h g e = no_snippet 0 qs i (point_bytes y) _ h e
snippets_same i (x ∷ ss) [] qs rs a b h g e = no_snippet 0 rs i (point_bytes x) _ g (sym e)
snippets_same i (x ∷ ss) (y ∷ ts) qs rs a b h g e =
    let t = snippets_same (suc i) ss ts qs rs a.1 b.1 h g (rest_eq e) in
    (cons_eq (snippet_same i (point_bytes x) (point_bytes y) (snippet_codec.fit x a.0) (snippet_codec.fit y b.0) (ap first_line e)) t.0, t.1)

-- ---- lines of 37 bytes

front_same : (x y r t : List ℕ) → length x ≡ length y → x ++ r ≡ y ++ t → (x ≡ y) × (r ≡ t)
front_same x y r t h e = (
  sym (take_at x r (length x) refl) ∙ ap (take (length x)) e ∙ take_at y t (length x) (sym h),
  sym (drop_at x r (length x) refl) ∙ ap (drop (length x)) e ∙ drop_at y t (length x) (sym h),
)

wide : (l : List ℕ) → Line l → length l ≡ 37
wide l h = omega (arith, ap length h.ends, length-append h.body (newline ∷ []), h.wide)

lines_same : (xs ys : List (List ℕ)) → All Line xs → All Line ys → joined xs ≡ joined ys → xs ≡ ys
lines_same [] [] h g e = refl
lines_same [] (y ∷ ys) h g e = absurd (omega (arith, ap length e, wide y g.0, length-append y (joined ys)))
lines_same (x ∷ xs) [] h g e = absurd (omega (arith, ap length e, wide x h.0, length-append x (joined xs)))
lines_same (x ∷ xs) (y ∷ ys) h g e =
    let s = front_same x y (joined xs) (joined ys) (wide x h.0 ∙ sym (wide y g.0)) e in cons_eq s.0 (lines_same xs ys h.1 g.1 s.1)

-- ---- the image

pub same_page : (c d : Content) → Admitted c → Admitted d → page_of c ≡ page_of d → image_of c ≡ image_of d
unfolding page_of image_of
same_page c d a b e =
    let l = lines_same (page_lines c) (page_lines d) (lines_shown c a) (lines_shown d b) e in
    let qc = begun c.sequences a.sequences.each in
    let qd = begun d.sequences b.sequences.each in
    let t = snippets_same 1 c.snippets d.snippets c.sequences d.sequences a.snippets.each b.snippets.each qc qd l in
    let q = sequences_same 0 c.sequences d.sequences qc qd (omega (arith, a.sequences.few)) (omega (arith, b.sequences.few)) t.1 in
    λ i. image_bytes (t.0 i) (q i)
