-- Every line is 36 characters of the request's, and a newline.
-- Assumes nothing.
use Rattle.std.proofs.Common.{eqb, ◌≡◌, ◌+◌, ◌*◌, ◌/◌, ◌%◌, ◌-◌, ◌≤◌, ◌<◌, ◌++◌, ℕ, zero, suc, Bool, true, false, List, [], ◌∷◌, map, length, get_or, replicate, refl, ap, arith}
use lib.ListN.{length-append, length-map, length-replicate}
use Rattle.laws.specs.Bytes.{All, Bytes}
use Rattle.laws.specs.Lists.{joined}
use Rattle.laws.proofs.Lists.{all_append}
use Rattle.laws.proofs.Tests.{all, same}
use Rattle.frame.specs.declared.FrameBuilder.{FrameBuilder}
use Rattle.frame.specs.Frame.{bytes_of}
use Rattle.frame.proofs.Frames.{frame_bytes_lem}
use Rattle.content.specs.Content.{Point, Content, byte_of, point_bytes, Admitted}
use Rattle.content.proofs.Admits.{SnippetAdmitted, SequenceAdmitted}
use Rattle.content.proofs.Points.{snippet_codec}
use Rattle.page.specs.Lines.{characters, blank, newline, digit, two_digits, in_capitals, line, snippet_line, frame_line, frame_lines, numbered, page_lines}
use Rattle.page.specs.Page.{prints, Line}
use Rattle.frame.proofs.Built.{few_bytes}
use Rattle.page.proofs.Wide.{length_capitals}

abbrev code_of : Bool → ℕ
code_of true = 1
code_of false = 0

-- one of the request's characters
abbrev Shown : ℕ → Type 0
Shown b = prints b ≡ true

-- what a function gives below a bound, by a test of each
shown : (f : ℕ → ℕ) (n : ℕ) → all (λ k. eqb (code_of (prints (f k))) 1) n ≡ true → (k : ℕ) → k < n → Shown (f k)
shown f n t k h = go (prints (f k)) (same (λ j. code_of (prints (f j))) (λ j. 1) n t k h) where
  go : (u : Bool) → code_of u ≡ 1 → u ≡ true
  go true e = refl
  go false e = absurd (omega (arith, e))

shown_digit : (n : ℕ) → n < 16 → Shown (digit n)
shown_digit = shown digit 16 refl

shown_number : (n : ℕ) → n < 100 → All Shown (two_digits n)
shown_number n h = (shown (λ k. get_or (two_digits k) 0 0) 100 refl n h, (shown (λ k. get_or (two_digits k) 1 0) 100 refl n h, tt))

shown_capitals : (bytes : List ℕ) → Bytes bytes → All Shown (in_capitals bytes)
shown_capitals [] h = tt
shown_capitals (b ∷ bytes) h = (shown_digit (b / 16) (omega (arith, h.0)), (shown_digit (b % 16) (omega arith), shown_capitals bytes h.1))

shown_blanks : (n : ℕ) → All Shown (replicate n blank)
shown_blanks zero = tt
shown_blanks (suc n) = (refl, shown_blanks n)

a_line : (l : List ℕ) → length l ≤ 36 → All Shown l → Line (line l)
a_line l h p =
    record {
      body = l ++ replicate (36 - length l) blank;
      ends = refl;
      wide = omega (arith, length-append l (replicate (36 - length l) blank), length-replicate (36 - length l) blank);
      shown = all_append Shown l (replicate (36 - length l) blank) p (shown_blanks (36 - length l));
    }

snippet_shown : (i : ℕ) (bytes : List ℕ) → i < 100 → length bytes ≤ 16 → Bytes bytes → Line (snippet_line i bytes)
snippet_shown i bytes h g b =
    let n = shown_number i h in
    a_line (characters "S" ++ two_digits i ++ characters " " ++ in_capitals bytes) (omega (arith, length_capitals bytes)) (refl, (n.0, (n.1.0, (refl, shown_capitals bytes b))))

frame_shown : (i j : ℕ) (f : FrameBuilder) → i < 100 → j < 100 → Line (frame_line i j (bytes_of f))
frame_shown i j f h g =
    let n = shown_number i h in
    let m = shown_number j g in
    a_line (characters "F" ++ two_digits i ++ characters " " ++ two_digits j ++ characters " " ++ in_capitals (bytes_of f))
    (omega (arith, length_capitals (bytes_of f), few_bytes f)) (refl, (n.0, (n.1.0, (refl, (m.0, (m.1.0, (refl, shown_capitals (bytes_of f) (frame_bytes_lem f))))))))

snippets_shown : (n : ℕ) (ss : List (List Point)) → n + length ss ≤ 100 → All SnippetAdmitted ss → All Line (numbered snippet_line n (map point_bytes ss))
snippets_shown n [] h a = tt
snippets_shown n (s ∷ ss) h a =
    (snippet_shown n (point_bytes s) (omega arith) (omega (arith, a.0.few, length-map s byte_of)) (snippet_codec.fit s a.0), snippets_shown (suc n) ss (omega arith) a.1)

frames_shown : (i n : ℕ) (fs : List FrameBuilder) → i < 100 → n + length fs ≤ 100 → All Line (numbered (frame_line i) n (map bytes_of fs))
frames_shown i n [] h g = tt
frames_shown i n (f ∷ fs) h g = (frame_shown i n f h (omega arith), frames_shown i (suc n) fs h (omega arith))

sequences_shown : (n : ℕ) (qs : List (List FrameBuilder)) → n + length qs ≤ 100 → All SequenceAdmitted qs → All Line (joined (numbered frame_lines n qs))
sequences_shown n [] h a = tt
sequences_shown n (q ∷ qs) h a =
    all_append Line (frame_lines n q) (joined (numbered frame_lines (suc n) qs)) (frames_shown n 1 q (omega arith) (omega (arith, a.0.few))) (sequences_shown (suc n) qs (omega arith) a.1)

pub lines_shown : (c : Content) → Admitted c → All Line (page_lines c)
lines_shown c a =
    all_append Line (numbered snippet_line 1 (map point_bytes c.snippets)) (joined (numbered frame_lines 0 c.sequences))
    (snippets_shown 1 c.snippets (omega (arith, a.snippets.few)) a.snippets.each) (sequences_shown 0 c.sequences (omega (arith, a.sequences.few)) a.sequences.each)

-- ---- so they are as long as 37 for each

pub joined_lines : (ls : List (List ℕ)) → All Line ls → length (joined ls) ≡ 37 * length ls
joined_lines [] h = refl
joined_lines (l ∷ ls) h =
    omega (arith, length-append l (joined ls), ap length h.0.ends, length-append h.0.body (newline ∷ []), h.0.wide, joined_lines ls h.1)
