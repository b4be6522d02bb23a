-- The lines are those that the claim says in numbers.
-- Assumes nothing.
use Rattle.std.proofs.Common.{◌≡◌, ◌+◌, ◌/◌, ◌%◌, ◌<◌, ◌++◌, ℕ, List, [], ◌∷◌, get_or, refl, arith}
use Rattle.laws.specs.Bytes.{Bytes}
use Rattle.laws.proofs.Tests.{same}
use Rattle.page.specs.Lines.{digit, two_digits, in_capitals, line, snippet_line, frame_line}
use Rattle.page.specs.Page.{decimal, capital, hexadecimal, filled}

pub decimal_said : (n : ℕ) → n < 100 → two_digits n ≡ decimal n
decimal_said n h =
    let tens = same (λ k. get_or (two_digits k) 0 0) (λ k. 0x30 + k / 10) 100 refl n h in
    let ones = same (λ k. get_or (two_digits k) 1 0) (λ k. 0x30 + k % 10) 100 refl n h in
    λ i. tens i ∷ ones i ∷ []

capital_said : (n : ℕ) → n < 16 → digit n ≡ capital n
capital_said = same digit capital 16 refl

hexadecimal_said : (bytes : List ℕ) → Bytes bytes → in_capitals bytes ≡ hexadecimal bytes
hexadecimal_said [] h = refl
hexadecimal_said (b ∷ bytes) h =
    let high = capital_said (b / 16) (omega (arith, h.0)) in
    let low = capital_said (b % 16) (omega arith) in
    let rest = hexadecimal_said bytes h.1 in
    λ i. high i ∷ low i ∷ rest i

pub snippet_said : (n : ℕ) (bytes : List ℕ) → n < 100 → Bytes bytes → snippet_line n bytes ≡ filled (0x53 ∷ decimal n ++ 0x20 ∷ hexadecimal bytes)
snippet_said n bytes h b = λ i. line (0x53 ∷ decimal_said n h i ++ 0x20 ∷ hexadecimal_said bytes b i)

pub frame_said : (i j : ℕ) (bytes : List ℕ) → i < 100 → j < 100 → Bytes bytes
    → frame_line i j bytes ≡ filled (0x46 ∷ decimal i ++ 0x20 ∷ decimal j ++ 0x20 ∷ hexadecimal bytes)
frame_said i j bytes h g b = λ k. line (0x46 ∷ decimal_said i h k ++ 0x20 ∷ decimal_said j g k ++ 0x20 ∷ hexadecimal_said bytes b k)
