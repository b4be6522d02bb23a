-- One frame more, behind those before.
use Rattle.std.proofs.Common.{◌∙◌, ap, arith}
use lib.Seq.{take-suc}
use Rattle.laws.specs.Lists.{low_bytes}
use Rattle.reader.specs.Reading.{padded}
use Rattle.readings.specs.Lists.{words_bytes, word_bytes}
use mathlib.Core.Path.{◌≡◌, refl, sym}
use mathlib.Core.List.{List, [], ◌∷◌, ◌++◌, append_assoc, append-nil}
use Prim.Native.Nat.{ℕ, ◌+◌, ◌-◌, ◌*◌, ◌≤◌, ◌<◌}
use native.Mathlib.Numerals.{add-one}
use lib.ListN.{length, take, get_or, replicate, length-append, length-take, length-replicate, replicate-append-replicate}
use Rattle.laws.specs.Copied.{over}
use Rattle.frame.specs.declared.FrameBuilder.{FrameBuilder}
use Rattle.frame.specs.Word.{frame_word}
use Rattle.laws.proofs.Copies.{over_at, over_laid}
use Rattle.readings.proofs.Words.{word_length, words_length}
use Rattle.readings.proofs.frame_bytes.Goals as goal

words_append : (fs gs : List FrameBuilder) → words_bytes (fs ++ gs) ≡ words_bytes fs ++ words_bytes gs
words_append [] gs = refl
words_append (f ∷ fs) gs =
    ap (λ (l : List ℕ). word_bytes f ++ l) (words_append fs gs) ∙ sym (append_assoc (word_bytes f) (words_bytes fs) (words_bytes gs))

words_next : (fs : List FrameBuilder) (d : FrameBuilder) (i : ℕ) → i < length fs
    → words_bytes (take (i + 1) fs) ≡ words_bytes (take i fs) ++ word_bytes (get_or fs i d)
words_next fs d i h =
    ap words_bytes (ap (λ (k : ℕ). take k fs) (add-one i) ∙ take-suc fs i d h)
    ∙ words_append (take i fs) (get_or fs i d ∷ [])
    ∙ ap (λ (l : List ℕ). words_bytes (take i fs) ++ l) (append-nil (word_bytes (get_or fs i d)))

-- a frame more behind i others
words_more : (fs : List FrameBuilder) (d : FrameBuilder) (i n : ℕ) (l six m : List ℕ) → i < length fs → 6 * (i + 1) ≤ n
    → l ≡ padded n 0 (words_bytes (take i fs)) → six ≡ low_bytes 6 (frame_word (get_or fs i d)) → m ≡ over l (6 * i) six
    → m ≡ padded n 0 (words_bytes (take (i + 1) fs))
unfolding word_bytes
words_more fs d i n l six m h g e k p =
    let b : List ℕ = words_bytes (take i fs) in
    let w : List ℕ = word_bytes (get_or fs i d) in
    let o : length b ≡ 6 * i = omega (arith, words_length (take i fs), length-take i fs) in
    let z : n - length b ≡ length w + (n - length (b ++ w)) = omega (arith, length-append b w, word_length (get_or fs i d)) in
    let zeros : ℕ → List ℕ = λ k. replicate k 0 in
    p ∙ (λ j. over (e j) (6 * i) (k j))
    ∙ ap (λ (k : ℕ). over (b ++ zeros k) (6 * i) w) z
    ∙ ap (λ (r : List ℕ). over (b ++ r) (6 * i) w) (sym (replicate-append-replicate (length w) (n - length (b ++ w)) 0))
    ∙ over_at b (zeros (length w)) (zeros (n - length (b ++ w))) w (6 * i) o (length-replicate {A = ℕ} (length w) 0)
    ∙ ap (padded n 0) (sym (words_next fs d i h))

pub loop-i-preserved : goal.loop-i-preserved
loop-i-preserved c =
    let six = c.low_bytes-six.ensures ∙ ap (low_bytes 6) c.word.ensures.value in
    words_more c.args.frames.now _ c.loop-i.i 576 _ _ _ c.loop-i-test.true (omega arith) c.loop-i.invariant six (over_laid _ _ _ c.lay.ensures (omega arith))
