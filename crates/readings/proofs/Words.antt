-- Admitted frames are told by their numbers, and by the bytes of those.
-- Assumes nothing.
use Rattle.std.specs.Prelude.{Option, Some, None}
use mathlib.Core.Path.{◌≡◌, refl, sym, ap, ◌∙◌}
use mathlib.Core.List.{List, [], ◌∷◌}
use Prim.Native.Nat.{ℕ, zero, suc, ◌+◌, ◌*◌, ◌/◌, ◌^◌, ◌≤◌, ◌<◌}
use native.Mathlib.Omega.{arith}
use lib.ListN.{length, take, drop, length-append}
use lib.Seq.{take_at, drop_at}
use Rattle.laws.specs.Bytes.{All}
use Rattle.laws.specs.Lists.{low_bytes}
use Rattle.frame.specs.declared.FrameBuilder.{FrameBuilder}
use Rattle.frame.specs.Agreement.{FrameAdmitted}
use Rattle.frame.proofs.Parts.{loop_byte, frequency_word}
use Rattle.frame.specs.Frame.{on_given, gain_code, timebase_code}
use Rattle.frame.specs.Read.{gain_at, timebase_at}
use Rattle.frame.specs.Word.{frame_word}
use Rattle.frame.proofs.Reading.{gain_back, timebase_back}
use Rattle.content.proofs.Codec.{cons_eq}
use Rattle.readings.specs.Lists.{word_bytes, words_bytes}

-- ---- how long they are

pub word_length : (f : FrameBuilder) → length (word_bytes f) ≡ 6
unfolding word_bytes
word_length f = refl

pub words_length : (fs : List FrameBuilder) → length (words_bytes fs) ≡ 6 * length fs
words_length [] = refl
words_length (f ∷ fs) = let n = words_length fs in omega (arith, length-append (word_bytes f) (words_bytes fs), word_length f)

-- ---- the fields

-- a number, if there is one, in one that says by a greater one that there is none
module _ (most none : ℕ) (above : most < none) where
  abbrev Within : Option ℕ → Type 0
  Within o = on_given o Unit (λ n. n ≤ most)

  abbrev code : Option ℕ → ℕ
  code o = on_given o none (λ n. n)

  code_small : (o : Option ℕ) → Within o → code o ≤ none
  code_small None h = omega arith
  code_small (Some n) h = omega arith

  code_told : (a b : Option ℕ) → Within a → Within b → code a ≡ code b → a ≡ b
  code_told None None h g e = refl
  code_told None (Some n) h g e = absurd (omega arith)
  code_told (Some n) None h g e = absurd (omega arith)
  code_told (Some m) (Some n) h g e = ap Some e

-- ---- a frame

pub word_small : (f : FrameBuilder) → FrameAdmitted f → frame_word f < 2 ^ 48
word_small f a =
    omega (arith, a.number_fits, (gain_back f.gain).1, (timebase_back f.timebase).1, code_small 15 255 (omega arith) f.loop_count a.loop_fits, code_small 511 65535 (omega arith) f.frequency a.frequency_fits)

-- two numbers by their low byte and the rest
low : (a b x y : ℕ) → a < 256 → b < 256 → a + x * 256 ≡ b + y * 256 → (a ≡ b) × (x ≡ y)
low a b x y h k e = (omega arith, omega arith)

pub word_told : (f g : FrameBuilder) → FrameAdmitted f → FrameAdmitted g → frame_word f ≡ frame_word g → f ≡ g
word_told f g a b e =
    let gf = gain_back f.gain in
    let gg = gain_back g.gain in
    let tf = timebase_back f.timebase in
    let tg = timebase_back g.timebase in
    let r : FrameBuilder → ℕ = λ x. loop_byte x.loop_count + frequency_word x.frequency * 256 in
    let s : FrameBuilder → ℕ = λ x. timebase_code x.timebase + r x * 256 in
    let t : FrameBuilder → ℕ = λ x. gain_code x.gain + s x * 256 in
    let p = low f.snippet_id g.snippet_id (t f) (t g) (omega (arith, a.number_fits)) (omega (arith, b.number_fits)) (omega arith) in
    let q = low (gain_code f.gain) (gain_code g.gain) (s f) (s g) (omega arith) (omega arith) p.1 in
    let u = low (timebase_code f.timebase) (timebase_code g.timebase) (r f) (r g) (omega arith) (omega arith) q.1 in
    let loop = code_small 15 255 (omega arith) in
    let v = low (loop_byte f.loop_count) (loop_byte g.loop_count) (frequency_word f.frequency) (frequency_word g.frequency) (omega (arith, loop f.loop_count a.loop_fits)) (omega (arith, loop g.loop_count b.loop_fits)) u.1 in
    let gains = sym gf.0 ∙ ap gain_at q.0 ∙ gg.0 in
    let timebases = sym tf.0 ∙ ap timebase_at u.0 ∙ tg.0 in
    let loops = code_told 15 255 (omega arith) f.loop_count g.loop_count a.loop_fits b.loop_fits v.0 in
    let frequencies = code_told 511 65535 (omega arith) f.frequency g.frequency a.frequency_fits b.frequency_fits v.1 in
    λ i. record { snippet_id = p.0 i; gain = gains i; timebase = timebases i; loop_count = loops i; frequency = frequencies i }

-- ---- its bytes

abbrev from_low : List ℕ → ℕ
from_low [] = 0
from_low (b ∷ bs) = b + from_low bs * 256

abbrev Below : ℕ → ℕ → Type 0
Below zero n = n < 1
Below (suc k) n = Below k (n / 256)

low_back : (k n : ℕ) → Below k n → from_low (low_bytes k n) ≡ n
low_back zero n h = omega arith
low_back (suc k) n h = let e = low_back k (n / 256) h in omega arith

step : (n m : ℕ) → n < m * 256 → n / 256 < m
step n m h = omega arith

six : (n : ℕ) → n < 2 ^ 48 → Below 6 n
six n h = step _ 1 (step _ (2 ^ 8) (step _ (2 ^ 16) (step _ (2 ^ 24) (step _ (2 ^ 32) (step n (2 ^ 40) h)))))

bytes_told : (f g : FrameBuilder) → FrameAdmitted f → FrameAdmitted g → word_bytes f ≡ word_bytes g → f ≡ g
unfolding word_bytes
bytes_told f g a b e =
    word_told f g a b
    (sym (low_back 6 (frame_word f) (six (frame_word f) (word_small f a))) ∙ ap from_low e ∙ low_back 6 (frame_word g) (six (frame_word g) (word_small g b)))

pub words_told : (fs gs : List FrameBuilder) → All FrameAdmitted fs → All FrameAdmitted gs → length fs ≡ length gs → words_bytes fs ≡ words_bytes gs → fs ≡ gs
words_told [] [] a b n e = refl
words_told [] (g ∷ gs) a b n e = absurd (omega arith)
words_told (f ∷ fs) [] a b n e = absurd (omega arith)
words_told (f ∷ fs) (g ∷ gs) a b n e =
    let h : word_bytes f ≡ word_bytes g = sym (take_at (word_bytes f) (words_bytes fs) 6 (word_length f)) ∙ ap (take 6) e ∙ take_at (word_bytes g) (words_bytes gs) 6 (word_length g) in
    let t : words_bytes fs ≡ words_bytes gs = sym (drop_at (word_bytes f) (words_bytes fs) 6 (word_length f)) ∙ ap (drop 6) e ∙ drop_at (word_bytes g) (words_bytes gs) 6 (word_length g) in
    cons_eq (bytes_told f g a.0 b.0 h) (words_told fs gs a.1 b.1 (omega arith) t)
