-- One part behind the other.
use Rattle.std.proofs.Common.{◌∙◌, ◌++◌, List, ℕ, refl, ap, rules}
use Rattle.std.proofs.Math.ListN.{replicate}
use Rattle.reader.specs.Reading.{padded}
use Rattle.readings.specs.Lists.{words_bytes}
use mathlib.Core.Path.{◌≡◌}
use mathlib.Core.List.{[], append-nil}
use Prim.Native.Nat.{◌≤◌}
use native.Mathlib.Omega.{arith}
use lib.ListN.{length, drop, length-append, length-drop, drop_of_length-le}
use Rattle.laws.specs.Copied.{over}
use Rattle.laws.proofs.Copies.{over_behind, over_laid}
use Rattle.readings.proofs.lay.Goals as goal

laid : (l a b c d m₁ m₂ m₃ m₄ : List ℕ) → length l ≡ 703 → length a ≡ 96 → length b ≡ 15 → length c ≡ 576 → length d ≡ 16
    → m₁ ≡ over l 0 a → m₂ ≡ over m₁ 96 b → m₃ ≡ over m₂ 111 c → m₄ ≡ over m₃ 687 d → m₄ ≡ a ++ b ++ c ++ d
laid l a b c d m₁ m₂ m₃ m₄ nl na nb nc nd e₁ e₂ e₃ e₄ =
    let l₁ : List ℕ = drop (length a) l in
    let l₂ : List ℕ = drop (length b) l₁ in
    let l₃ : List ℕ = drop (length c) l₂ in
    let n : length (a ++ b) ≡ 111 = omega (arith, length-append a b) in
    let k : length (a ++ b ++ c) ≡ 687 = omega (arith, length-append (a ++ b) c) in
    let p₁ = e₁ ∙ over_behind [] l a 0 refl in
    let p₂ = e₂ ∙ ap (λ (m : List ℕ). over m 96 b) p₁ ∙ over_behind a l₁ b 96 na in
    let p₃ = e₃ ∙ ap (λ (m : List ℕ). over m 111 c) p₂ ∙ over_behind (a ++ b) l₂ c 111 n in
    let p₄ = e₄ ∙ ap (λ (m : List ℕ). over m 687 d) p₃ ∙ over_behind (a ++ b ++ c) l₃ d 687 k in
    let r : length l₃ ≤ length d = omega (arith, length-drop (length a) l, length-drop (length b) l₁, length-drop (length c) l₂) in
    p₄ ∙ ap (λ (x : List ℕ). a ++ b ++ c ++ d ++ x) (drop_of_length-le l₃ {i = length d} r) ∙ append-nil (a ++ b ++ c ++ d)

pub returns : goal.returns
returns c =
    let s = c.args.lists.now.snippets in
    let q = c.args.lists.now.sequences in
    laid (replicate 703 0) s.items s.ends c.frame_bytes.result q.ends _ _ _ _ refl (search rules) (search rules) (search rules) (search rules)
    (over_laid _ _ _ c.lay.ensures (search rules)) (over_laid _ _ _ c.lay-2.ensures (search rules)) (over_laid _ _ _ c.lay-3.ensures (search rules)) (over_laid _ _ _ c.lay-4.ensures (search rules))
    ∙ ap (λ (x : List ℕ). s.items ++ s.ends ++ x ++ q.ends) (c.frame_bytes.ensures ∙ ap (λ l. padded 576 0 (words_bytes l)) c.as_slice.ensures.value)
