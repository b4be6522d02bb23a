-- Lines are 37 bytes: what is placed in an empty one.
-- Assumes nothing.
use Rattle.std.proofs.Common.{◌≡◌, ◌+◌, ◌*◌, ◌-◌, ◌≤◌, ◌<◌, ◌++◌, ◌∙◌, ℕ, suc, List, [], ◌∷◌, map, length, drop, get_or, set, replicate, refl, sym, ap, subst, arith}
use Rattle.std.proofs.lemmas.List.{drop_more, drop-append-le, drop-replicate}
use mathlib.Core.List.{append_assoc}
use lib.ListN.{length-append, length-replicate, drop_of_length-le}
use Rattle.laws.specs.Copied.{copied, placed}
use Rattle.laws.specs.Lists.{joined}
use Rattle.laws.proofs.Copies.{copied_fits, placed_more, placed_none}
use Rattle.frame.specs.declared.FrameBuilder.{FrameBuilder}
use Rattle.frame.proofs.Built.{few_bytes}
use Rattle.frame.specs.Frame.{bytes_of}
use Rattle.page.specs.Lines.{characters, blank, newline, two_digits, two_capitals, in_capitals, line, snippet_line, frame_line, numbered}
use Rattle.page.proofs.Placed.{placed_two}

-- what is left of an empty line behind a text
blanks_left : (n m : ℕ) → n ≤ m → drop {A = ℕ} n (replicate m blank ++ newline ∷ []) ≡ replicate (m - n) blank ++ newline ∷ []
blanks_left n m h =
    drop-append-le n (replicate m blank) (newline ∷ []) (omega (arith, h, length-replicate m blank)) ∙ ap (λ l. l ++ newline ∷ []) (drop-replicate n m blank)

-- a text and behind it another in an empty line
pub text_placed : (empty head text : List ℕ) → empty ≡ replicate 36 blank ++ newline ∷ [] → length head + length text ≤ 36
    → placed (copied empty head) (length head) text ≡ line (head ++ text)
text_placed empty head text e h =
    let l = length-append head text in
    let t : List ℕ = head ++ text in
    ap (λ n. placed (copied empty head) n text) (omega arith)
    ∙ placed_more empty 0 head text
    ∙ copied_fits empty t (subst (λ x. length t ≤ length x) (sym e) (omega arith))
    ∙ ap (λ x. t ++ drop (length t) x) e
    ∙ ap (λ x. t ++ x) (blanks_left (length t) 36 (omega arith))
    ∙ sym (append_assoc t (replicate (36 - length t) blank) (newline ∷ []))

pub line_length : (text : List ℕ) → length text ≤ 36 → length (line text) ≡ 37
line_length text h = simp (length-append, length-replicate) (omega arith)

-- two characters each
pub length_capitals : (bytes : List ℕ) → length (in_capitals bytes) ≡ 2 * length bytes
length_capitals [] = refl
length_capitals (b ∷ bytes) = ap (λ n. suc (suc n)) (length_capitals bytes) ∙ omega arith

pub snippet_wide : (i : ℕ) (bytes : List ℕ) → length bytes ≤ 16 → length (snippet_line i bytes) ≡ 37
snippet_wide i bytes h = line_length (characters "S" ++ two_digits i ++ characters " " ++ in_capitals bytes) (omega (arith, length_capitals bytes))

pub frame_wide : (i j : ℕ) (f : FrameBuilder) → length (frame_line i j (bytes_of f)) ≡ 37
frame_wide i j f =
    line_length (characters "F" ++ two_digits i ++ characters " " ++ two_digits j ++ characters " " ++ in_capitals (bytes_of f)) (omega (arith, length_capitals (bytes_of f), few_bytes f))

-- a sequence's lines
pub frames_wide : (i n : ℕ) (fs : List FrameBuilder) → length (joined (numbered (frame_line i) n (map bytes_of fs))) ≡ 37 * length fs
frames_wide i n [] = refl
frames_wide i n (f ∷ fs) =
    omega (arith, length-append (frame_line i n (bytes_of f)) (joined (numbered (frame_line i) (suc n) (map bytes_of fs))), frame_wide i n f, frames_wide i (suc n) fs)

-- one byte more
pub byte_more : (l : List ℕ) (n k : ℕ) (bytes pair : List ℕ) → k < length bytes → pair ≡ two_capitals (get_or bytes k 0)
    → placed (set (set l (n + 2 * k) (get_or pair 0 0)) (n + 2 * k + 1) (get_or pair 1 0)) (n + 2 * (k + 1)) (in_capitals (drop (k + 1) bytes))
    ≡ placed l (n + 2 * k) (in_capitals (drop k bytes))
byte_more l n k bytes pair h e =
    let r = in_capitals (drop (k + 1) bytes) in
    let b = two_capitals (get_or bytes k 0) in
    let at : n + 2 * (k + 1) ≡ n + 2 * k + 2 = omega arith in
    (λ i. placed (set (set l (n + 2 * k) (get_or (e i) 0 0)) (n + 2 * k + 1) (get_or (e i) 1 0)) (at i) r)
    ∙ sym (placed_two l (n + 2 * k) (get_or b 0 0) (get_or b 1 0) r)
    ∙ ap (λ t. placed l (n + 2 * k) (in_capitals t)) (sym (drop_more bytes k 0 h))

pub no_byte_more : (l : List ℕ) (n k : ℕ) (bytes : List ℕ) → length bytes ≤ k → placed l (n + 2 * k) (in_capitals (drop k bytes)) ≡ l
no_byte_more l n k bytes h = ap (λ t. placed l (n + 2 * k) (in_capitals t)) (drop_of_length-le bytes {i = k} h) ∙ placed_none l (n + 2 * k)
