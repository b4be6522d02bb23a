-- The frames of a sequence: one that was read, and what is left behind it.
-- Assumes nothing.
use Rattle.std.proofs.Common.{Result, Ok, Err}
use mathlib.Core.Path.{◌≡◌, refl, sym, ap, ◌∙◌, subst}
use mathlib.Core.Bool.{Bool, true, false, cond}
use mathlib.Core.List.{List, [], ◌∷◌, ◌++◌}
use mathlib.Core.Option.{Option, none, some}
use Prim.Native.Nat.{ℕ, zero, suc, ◌-◌, ◌/◌, ◌%◌, ◌≤◌, ◌<◌}
use native.Mathlib.Omega.{arith}
use lib.Dec.{ltb}
use lib.ListN.{length, drop, length-append}
use lib.Seq.{drop_at}
use Rattle.errors.specs.Told.{gives}
use Rattle.frame.specs.declared.FrameBuilder.{FrameBuilder}
use Rattle.frame.specs.Read.{two_bytes, Parsed, parsed, read_third, read_second, read_after, read_frame, one_byte, Taken, taken_from}
use Rattle.errors.specs.declared.Error.{Error}
use Rattle.errors.specs.declared.Error.TheVariants.{NotAnImage}
use Rattle.content.specs.ReadImage.{on_option, and_then, every, read_frames}
use Rattle.content.proofs.Codec.{none_some, some_inj, cond_some}
use Rattle.reader.specs.Reading.{Frames}
use Rattle.reader.specs.Flat.{push_item}
use Rattle.reader.specs.Walk.{frames_from, run_frames}

-- ---- a frame leaves a shorter end of the bytes

pub record Rest (l r : List ℕ) : Type 0 where
  pub shorter : length r < length l
  pub behind : drop (length l - length r) l ≡ r

given : (pre r : List ℕ) (f : FrameBuilder) (p : Parsed) → 1 ≤ length pre → parsed f r ≡ some p → Rest (pre ++ r) p.rest
given pre r f p h e =
    let n = length-append pre r in
    let k : length pre ≡ length (pre ++ r) - length r = omega arith in
    subst (λ (x : Parsed). Rest (pre ++ r) x.rest) (some_inj e)
    (record { shorter = omega arith; behind = drop_at pre r (length (pre ++ r) - length r) k })

rest_third : (a b : ℕ) (r : List ℕ) (p : Parsed) → read_third a b r ≡ some p → Rest (a ∷ b ∷ r) p.rest
rest_third a b [] p e = none_some p e
rest_third a b (c ∷ r) p e = given (a ∷ b ∷ c ∷ []) r _ p (omega arith) e

rest_second : (a b : ℕ) (r : List ℕ) (p : Parsed) → read_second a b r ≡ some p → Rest (a ∷ b ∷ r) p.rest
rest_second a b r p e = go (ltb (b / 4 % 2) 1) e where
  go : (t : Bool) → cond t (cond (ltb (b / 2 % 2) 1) (parsed (two_bytes a b) r) none) (read_third a b r) ≡ some p → Rest (a ∷ b ∷ r) p.rest
  go true e = given (a ∷ b ∷ []) r _ p (omega arith) (cond_some (ltb (b / 2 % 2) 1) (parsed (two_bytes a b) r) e).1
  go false e = rest_third a b r p e

rest_after : (a : ℕ) (r : List ℕ) (p : Parsed) → read_after a r ≡ some p → Rest (a ∷ r) p.rest
rest_after a [] p e = given (a ∷ []) [] _ p (omega arith) e
rest_after a (b ∷ r) p e = go (ltb b 128) e where
  go : (t : Bool) → cond t (parsed (one_byte a) (b ∷ r)) (read_second a b r) ≡ some p → Rest (a ∷ b ∷ r) p.rest
  go true e = given (a ∷ []) (b ∷ r) _ p (omega arith) e
  go false e = rest_second a b r p e

pub rest : (l : List ℕ) (p : Parsed) → read_frame l ≡ some p → Rest l p.rest
unfolding read_frame
rest [] p e = none_some p e
rest (a ∷ r) p e = rest_after a r p (cond_some (ltb a 128) (read_after a r) e).1

-- ---- what the code was told

pub took : (l : List ℕ) (f : FrameBuilder) (m : ℕ) → gives (record { frame = f; len = m }) ≡ taken_from (length l) (read_frame l)
    → read_frame l ≡ parsed f (drop m l)
took l f m e = go (read_frame l) refl e where
  go : (o : Option Parsed) → read_frame l ≡ o → gives (record { frame = f; len = m }) ≡ taken_from (length l) o → read_frame l ≡ parsed f (drop m l)
  go none d e = cc
  go (some p) d e =
      let t : ◌≡◌ {A = Taken} (record { frame = f; len = m }) (record { frame = p.frame; len = length l - length p.rest }) = cc in
      let r : p.rest ≡ drop m l = sym (rest l p d).behind ∙ ap (λ (x : Taken). drop x.len l) (sym t) in
      d ∙ (λ i. parsed (sym t i).frame (r i))

-- ---- the frames one by one

-- what refuses has its number
pub left_error : (k : ℕ) (l : List ℕ) (e : Error) (r : List (Result FrameBuilder Error)) → frames_from k l ≡ Err e ∷ r → e ≡ NotAnImage
left_error zero [] e r d = absurd (omega (arith, ap length d))
left_error zero (b ∷ bs) e r d = cc
left_error (suc k) [] e r d = absurd (omega (arith, ap length d))
left_error (suc k) (b ∷ bs) e r d = go (read_frame (b ∷ bs)) d where
  go : (m : Option Parsed) → on_option m (Err NotAnImage ∷ []) (λ p. Ok p.frame ∷ frames_from k p.rest) ≡ Err e ∷ r → e ≡ NotAnImage
  go none d = cc
  go (some p) d = cc

-- ---- all of them

abbrev pub ok : Result FrameBuilder Error → Option FrameBuilder
ok (Ok f) = some f
ok (Err e) = none

pub every_ok : (k : ℕ) (l : List ℕ) → every ok (frames_from k l) ≡ read_frames k l
every_ok zero [] = refl
every_ok zero (b ∷ bs) = refl
every_ok (suc k) [] = refl
every_ok (suc k) (b ∷ bs) = go (every_ok k) (read_frame (b ∷ bs)) where
  go : ((l : List ℕ) → every ok (frames_from k l) ≡ read_frames k l) → (m : Option Parsed)
      → every ok (on_option m (Err NotAnImage ∷ []) (λ p. Ok p.frame ∷ frames_from k p.rest))
      ≡ and_then m (λ p. and_then (read_frames k p.rest) (λ fs. some (p.frame ∷ fs)))
  go ih none = refl
  go ih (some p) = ap (λ (m : Option (List FrameBuilder)). and_then m (λ fs. some (p.frame ∷ fs))) (ih p.rest)

-- added one by one
abbrev pub pushes : List (Result FrameBuilder Error) → Frames → Option Frames
pushes [] o = some o
pushes (Ok f ∷ fs) o = pushes fs (push_item o f)
pushes (Err e ∷ fs) o = none

pub run_pushes : (k : ℕ) (l : List ℕ) (o : Frames) → pushes (frames_from k l) o ≡ run_frames k l o
run_pushes zero [] o = refl
run_pushes zero (b ∷ bs) o = refl
run_pushes (suc k) [] o = refl
run_pushes (suc k) (b ∷ bs) o = go (run_pushes k) (read_frame (b ∷ bs)) where
  go : ((l : List ℕ) (o : Frames) → pushes (frames_from k l) o ≡ run_frames k l o) → (m : Option Parsed)
      → pushes (on_option m (Err NotAnImage ∷ []) (λ p. Ok p.frame ∷ frames_from k p.rest)) o ≡ and_then m (λ p. run_frames k p.rest (push_item o p.frame))
  go ih none = refl
  go ih (some p) = ih p.rest (push_item o p.frame)
