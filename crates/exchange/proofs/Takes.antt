-- Which answers are taken back, what is told of them, and which of them write to the buffer.
-- Assumes nothing.
use Prim.Native.Nat.{ℕ, zero-le, suc-le-suc}
use mathlib.Core.Path.{◌≡◌, refl, sym, ◌∙◌, ap}
use mathlib.Core.Bool.{Bool, true, false, cond, not, ◌&&◌, true≢false, and-false}
use mathlib.Core.List.{List, [], ◌∷◌}
use lib.Dec.{ltb, eqb}
use lib.ListN.{length, set}
use borrow.Author.Tests.{lt-ltb}
use Rattle.std.specs.Prelude.{Option, Some, None}
use Rattle.exchange.specs.declared.Step.{Step}
use Rattle.exchange.specs.declared.Step.TheVariants.{Write, Read, Update, Match, Chunk, Store}
use Rattle.exchange.specs.declared.Reply.{Reply}
use Rattle.exchange.specs.declared.Reply.TheVariants.{Done, Byte, Failed}
use Rattle.exchange.specs.declared.Fit.{Fit}
use Rattle.exchange.specs.declared.Fit.TheVariants.{Went, Got, Kept, Wrong}
use Rattle.exchange.specs.State.{count_in, left, none_left}
use Rattle.exchange.specs.Turn.{pending_for, wanted, byte_fit, fitting_of, fits_next, resized, fit_of, effect_of, state_after, buffer_after, report_of}
use Rattle.exchange.specs.Session.{fits_exchange, taken}

-- every step sends something
pub sends : (st : List ℕ) (x : Step) → ltb 0 (pending_for st (x ∷ [])).len ≡ true
sends st (Write r v) = refl
sends st (Read r) = refl
sends st (Update r s w v) = refl
sends st (Match r v) = refl
sends st (Chunk i n) = lt-ltb 0 (pending_for st (Chunk i n ∷ [])).len (suc-le-suc zero-le)
sends st (Store i) = refl

-- by whether the buffer's length changed, the steps left, and the answer
takes_by : (st : List ℕ) (k : Bool) (l : List Step) (a : Reply) →
    eqb (effect_of (cond k None (fits_next l a))).number 19 ≡ not (fits_exchange (pending_for st l) a && not k)
takes_by st true l a = ap not (sym (and-false (fits_exchange (pending_for st l) a)))
takes_by st false [] Done = refl
takes_by st false [] (Byte b) = refl
takes_by st false [] (Failed code) = refl
takes_by st false (Write r v ∷ xs) Done = refl
takes_by st false (Read r ∷ xs) Done = refl
takes_by st false (Update r s w v ∷ xs) Done = refl
takes_by st false (Match r v ∷ xs) Done = refl
takes_by st false (Chunk i n ∷ xs) Done = ap (λ (b : Bool). not (b && true && true)) (sym (sends st (Chunk i n)))
takes_by st false (Store i ∷ xs) Done = refl
takes_by st false (Write r v ∷ xs) (Byte b) = refl
takes_by st false (Read r ∷ xs) (Byte b) = refl
takes_by st false (Update r s w v ∷ xs) (Byte b) = refl
takes_by st false (Match r v ∷ xs) (Byte b) = go (eqb b v)
  where
    go : (q : Bool) → eqb (effect_of (cond q (Some (Got b)) (Some (Wrong b)))).number 19 ≡ false
    go true = refl
    go false = refl
takes_by st false (Chunk i n ∷ xs) (Byte b) = ap (λ (b : Bool). not (b && false && true)) (sym (sends st (Chunk i n)))
takes_by st false (Store i ∷ xs) (Byte b) = refl
takes_by st false (x ∷ xs) (Failed code) = ap (λ (b : Bool). not (b && true)) (sym (sends st x))

-- 19 is told exactly where an answer is not taken back
pub takes : (st : List ℕ) (a : Reply) (n : ℕ) → eqb (report_of st a n).number 19 ≡ not (taken st a n)
unfolding report_of fit_of
takes st a n = takes_by st (resized st n) (left st) a

-- a failure that is taken back is told by 17, with its code
pub fails : (st : List ℕ) (code n : ℕ) → taken st (Failed code) n ≡ true →
    ((report_of st (Failed code) n).number ≡ 17) × ((report_of st (Failed code) n).code ≡ code)
unfolding report_of fit_of
fails st code n h = go (resized st n) (left st) h
  where
    go : (k : Bool) (l : List Step) → fits_exchange (pending_for st l) (Failed code) && not k ≡ true →
        ((effect_of (cond k None (fits_next l (Failed code)))).number ≡ 17) × ((effect_of (cond k None (fits_next l (Failed code)))).code ≡ code)
    go true l h = absurd (true≢false (sym h ∙ and-false (fits_exchange (pending_for st l) (Failed code))))
    go false [] h = absurd (true≢false (sym h))
    go false (x ∷ xs) h = (refl, refl)

-- done that is taken back is told by 0
pub done : (st : List ℕ) (n : ℕ) → taken st Done n ≡ true → (report_of st Done n).number ≡ 0
unfolding report_of fit_of
done st n h = go (resized st n) (left st) (takes st Done n ∙ ap not h)
  where
    wanting : (w : Bool) → eqb (effect_of (cond w (Some Went) None)).number 19 ≡ false → (effect_of (cond w (Some Went) None)).number ≡ 0
    wanting true e = refl
    wanting false e = absurd (true≢false e)

    go : (k : Bool) (l : List Step) → eqb (effect_of (cond k None (fits_next l Done))).number 19 ≡ false → (effect_of (cond k None (fits_next l Done))).number ≡ 0
    go true l e = absurd (true≢false e)
    go false [] e = absurd (true≢false e)
    go false (x ∷ xs) e = wanting (eqb (wanted x) 0) e

-- a byte that is taken back is told as the step makes of it
byte_told : (st : List ℕ) (x : Step) (xs : List Step) (b n : ℕ) → left st ≡ x ∷ xs → taken st (Byte b) n ≡ true →
    (report_of st (Byte b) n).number ≡ (effect_of (byte_fit x b)).number
unfolding report_of fit_of
byte_told st x xs b n l h =
    let p = ap (λ (l : List Step). (effect_of (cond (resized st n) None (fits_next l (Byte b)))).number) l in
    p ∙ go (resized st n) (byte_fit x b) (ap (λ (m : ℕ). eqb m 19) (sym p) ∙ takes st (Byte b) n ∙ ap not h)
  where
    go : (k : Bool) (f : Option Fit) → eqb (effect_of (cond k None f)).number 19 ≡ false → (effect_of (cond k None f)).number ≡ (effect_of f).number
    go true f e = absurd (true≢false e)
    go false f e = refl

-- by 0 where it need not be another
pub reads : (st : List ℕ) (x : Step) (xs : List Step) (b n : ℕ) → left st ≡ x ∷ xs → ((register value : ℕ) → x ≡ Match register value → ⊥) →
    taken st (Byte b) n ≡ true → (report_of st (Byte b) n).number ≡ 0
reads st x xs b n l m h =
    let p = byte_told st x xs b n l h in
    p ∙ go x m (ap (λ (m : ℕ). eqb m 19) (sym p) ∙ takes st (Byte b) n ∙ ap not h)
  where
    go : (x : Step) → ((register value : ℕ) → x ≡ Match register value → ⊥) → eqb (effect_of (byte_fit x b)).number 19 ≡ false → (effect_of (byte_fit x b)).number ≡ 0
    go (Write r v) m e = absurd (true≢false e)
    go (Read r) m e = refl
    go (Update r s w v) m e = absurd (true≢false e)
    go (Match r v) m e = absurd (m r v refl)
    go (Chunk i n) m e = absurd (true≢false e)
    go (Store i) m e = refl

-- else by 16 where it is another
pub matches : (st : List ℕ) (xs : List Step) (register value b n : ℕ) → left st ≡ Match register value ∷ xs → taken st (Byte b) n ≡ true →
    (report_of st (Byte b) n).number ≡ cond (eqb b value) 0 16
matches st xs register value b n l h = byte_told st _ xs b n l h ∙ go (eqb b value)
  where
    go : (q : Bool) → (effect_of (cond q (Some (Got b)) (Some (Wrong b)))).number ≡ cond q 0 16
    go true = refl
    go false = refl

-- every result tells the state after it
pub tells : (st : List ℕ) (a : Reply) (n : ℕ) →
    ((report_of st a n).made ≡ count_in (state_after st a n)) × ((report_of st a n).ended ≡ none_left (left (state_after st a n)))
unfolding report_of state_after
tells st a n = (refl, refl)

-- only a memory read writes to the buffer
pub spares : (st : List ℕ) (x : Step) (xs : List Step) (a : Reply) (buffer : List ℕ) → left st ≡ x ∷ xs → ((i : ℕ) → x ≡ Store i → ⊥) →
    buffer_after st a buffer ≡ buffer
unfolding buffer_after fit_of
spares st x xs a buffer l m =
    ap (λ (l : List Step). (effect_of (cond (resized st (length buffer)) None (fits_next l a))).buffer buffer) l ∙ go (resized st (length buffer)) x a m
  where
    wanting : (w : Bool) → (effect_of (cond w (Some Went) None)).buffer buffer ≡ buffer
    wanting true = refl
    wanting false = refl

    test : (q : Bool) (b : ℕ) → (effect_of (cond q (Some (Got b)) (Some (Wrong b)))).buffer buffer ≡ buffer
    test true b = refl
    test false b = refl

    go : (k : Bool) (x : Step) (a : Reply) → ((i : ℕ) → x ≡ Store i → ⊥) → (effect_of (cond k None (fitting_of x a))).buffer buffer ≡ buffer
    go true x a m = refl
    go false x (Failed code) m = refl
    go false x Done m = wanting (eqb (wanted x) 0)
    go false (Write r v) (Byte b) m = refl
    go false (Read r) (Byte b) m = refl
    go false (Update r s w v) (Byte b) m = refl
    go false (Match r v) (Byte b) m = test (eqb b v) b
    go false (Chunk i n) (Byte b) m = refl
    go false (Store i) (Byte b) m = absurd (m i refl)

-- a byte of memory goes to its own index
pub stores : (st : List ℕ) (xs : List Step) (i b : ℕ) (buffer : List ℕ) → left st ≡ Store i ∷ xs → taken st (Byte b) (length buffer) ≡ true →
    buffer_after st (Byte b) buffer ≡ set buffer i b
unfolding buffer_after fit_of
stores st xs i b buffer l h =
    let n = length buffer in
    let p = ap (λ (l : List Step). (effect_of (cond (resized st n) None (fits_next l (Byte b)))).buffer buffer) l in
    p ∙ go (resized st n) (ap (λ (l : List Step). fits_exchange (pending_for st l) (Byte b) && not (resized st n)) (sym l) ∙ h)
  where
    go : (k : Bool) → fits_exchange (pending_for st (Store i ∷ xs)) (Byte b) && not k ≡ true → (effect_of (cond k None (Some (Kept i b)))).buffer buffer ≡ set buffer i b
    go true e = absurd (true≢false (sym e ∙ and-false (fits_exchange (pending_for st (Store i ∷ xs)) (Byte b))))
    go false e = refl

-- a failure changes nothing there
pub unstored : (st : List ℕ) (code : ℕ) (buffer : List ℕ) → buffer_after st (Failed code) buffer ≡ buffer
unfolding buffer_after fit_of
unstored st code buffer = go (resized st (length buffer)) (left st)
  where
    go : (k : Bool) (l : List Step) → (effect_of (cond k None (fits_next l (Failed code)))).buffer buffer ≡ buffer
    go true l = refl
    go false [] = refl
    go false (x ∷ xs) = refl
