-- The steps of an upload: how many they are, and that they send what the memory shows, each byte to its own address. Assumes nothing.
use Prim.Native.Nat.{ℕ, suc, ◌+◌, ◌-◌, ◌%◌, ◌≤◌, min}
use native.Mathlib.Omega.{arith}
use native.Mathlib.Nat.{add-zero, sub-zero}
use native.Mathlib.Decide.{dec_le}
use mathlib.Core.Path.{◌≡◌, refl, sym, ◌∙◌, ap}
use mathlib.Core.Bool.{Bool, true, false, cond}
use mathlib.Core.List.{List, [], ◌∷◌, ◌++◌, append-nil, append_assoc}
use lib.Dec.{ltb, leb}
use lib.ListN.{length, take, drop, replicate, length-append, length-take, length-drop}
use lib.Seq.{take-add, take_at, drop-drop}
use borrow.Author.Tests.{ltb-false, le-leb}
use Rattle.laws.proofs.Lists.{take_shown}
use Rattle.laws.proofs.Tests.{choice}
use Rattle.registers.specs.Table.{address_of}
use Rattle.memory.specs.declared.WaveformMemory.{WaveformMemory}
use Rattle.da728x.specs.declared.DA728x.{DA728x}
use Rattle.exchange.specs.declared.Step.{Step}
use Rattle.exchange.specs.declared.Step.TheVariants.{Chunk}
use Rattle.exchange.specs.Steps.{chunk}
use Rattle.exchange.specs.Session.{exchanges_of}
use Rattle.sessions.specs.Sessions.{chunk_step, chunk_steps, lock_steps, send_steps}
use Rattle.driver.specs.Operations.{upload_steps}
use Rattle.driver.specs.Theorems.{addressed, payload}

-- ---- how many

one : (n offset : ℕ) → length (chunk_step n offset) ≤ 1
unfolding chunk_step
one n offset = choice (λ (xs : List Step). length xs ≤ 1) (ltb offset n) (Chunk offset (min 32 (n - offset)) ∷ []) [] (omega arith) (omega arith)

chunks : (n : ℕ) → length (chunk_steps n) ≤ 4
unfolding chunk_steps
chunks n = simp length-append (omega (arith, one n 0, one n 32, one n 64, one n 96))

locks : (lock_after : Bool) → length (lock_steps lock_after) ≤ 1
unfolding lock_steps
locks true = omega arith
locks false = omega arith

pub few : (m : WaveformMemory) (lock_after : Bool) → length (upload_steps m lock_after) ≤ 25
unfolding send_steps
few m lock_after = simp length-append (omega (arith, chunks (min m.len 100), locks lock_after))

-- ---- what they send

addressed_append : (xs ys : List ℕ) (a : ℕ) → addressed a (xs ++ ys) ≡ addressed a xs ++ addressed (a + length xs) ys
addressed_append [] ys a = ap (λ (i : ℕ). addressed i ys) (sym (add-zero a))
addressed_append (x ∷ xs) ys a =
    let k : suc a + length xs ≡ a + suc (length xs) = omega arith in
    ap (λ (l : List (ℕ × ℕ)). (a, x) ∷ l) (addressed_append xs ys (suc a) ∙ ap (λ (i : ℕ). addressed (suc a) xs ++ addressed i ys) k)

module _ (address : ℕ) (image bytes : List ℕ) where
  -- what steps that read nothing write
  abbrev writes : List Step → List (ℕ × ℕ)
  writes xs = payload (exchanges_of address 0 image xs bytes)

  -- n bytes from an offset on
  abbrev part : ℕ → ℕ → List (ℕ × ℕ)
  part offset n = addressed (132 + offset) (take n (drop offset image))

  -- a chunk goes to its own address
  sends_one : (n offset : ℕ) (xs : List Step) → offset ≤ 100 → writes (chunk_step n offset ++ xs) ≡ part offset (min 32 (n - offset)) ++ writes xs
  unfolding chunk_step
  sends_one n offset xs h = go (ltb offset n) refl where
    go : (b : Bool) → ltb offset n ≡ b → writes (cond b (Chunk offset (min 32 (n - offset)) ∷ []) [] ++ xs) ≡ part offset (min 32 (n - offset)) ++ writes xs
    go true e =
        let c = chunk image offset (min 32 (n - offset)) in
        let k : min (min 32 (n - offset)) 32 ≡ min 32 (n - offset) = omega arith in
        let a : (132 + offset) % 256 ≡ 132 + offset = omega arith in
        (λ i. cond (leb 132 (a i)) (addressed (a i) (take_at c (replicate (33 - suc (length c)) 0) (length c) refl i)) [] ++ writes xs)
        ∙ ap (λ (b : Bool). cond b (addressed (132 + offset) c) [] ++ writes xs) (le-leb 132 (132 + offset) (omega arith))
        ∙ ap (λ (i : ℕ). part offset i ++ writes xs) k
    go false e =
        let k : min 32 (n - offset) ≡ 0 = omega (arith, ltb-false offset n e) in
        ap (λ (i : ℕ). part offset i ++ writes xs) (sym k)

  -- a chunk, and those behind it
  sends_more : (n offset further : ℕ) (xs : List Step) → further ≡ offset + 32 → offset ≤ 100 → n ≤ length image → writes xs ≡ part further (n - further) →
      writes (chunk_step n offset ++ xs) ≡ part offset (n - offset)
  sends_more n offset further xs e h l w = sends_one n offset xs h ∙ ap (λ (r : List (ℕ × ℕ)). part offset (min 32 (n - offset)) ++ r) w ∙ go (dec_le further n) where
    go : Dec (further ≤ n) → part offset (min 32 (n - offset)) ++ part further (n - further) ≡ part offset (n - offset)
    go (yes g) =
        let rest = drop offset image in
        let a : min 32 (n - offset) ≡ 32 = omega arith in
        let b : 32 + (n - further) ≡ n - offset = omega arith in
        let d : drop further image ≡ drop 32 rest = ap (λ (i : ℕ). drop i image) e ∙ sym (drop-drop 32 offset image) in
        let f : 132 + further ≡ 132 + offset + length (take 32 rest) = omega (arith, length-take 32 rest, length-drop offset image) in
        (λ i. part offset (a i) ++ addressed (f i) (take (n - further) (d i)))
        ∙ sym (addressed_append (take 32 rest) (take (n - further) (drop 32 rest)) (132 + offset))
        ∙ ap (addressed (132 + offset)) (sym (take-add 32 (n - further) rest) ∙ ap (λ (i : ℕ). take i rest) b)
    go (no g) =
        let a : min 32 (n - offset) ≡ n - offset = omega arith in
        let b : n - further ≡ 0 = omega arith in
        (λ i. part offset (a i) ++ part further (b i)) ∙ append-nil (part offset (n - offset))

  sends_none : (lock_after : Bool) → writes (lock_steps lock_after) ≡ []
  unfolding lock_steps
  sends_none true = refl
  sends_none false = refl

-- what the memory shows
pub shown : (r : DA728x) (m : WaveformMemory) (lock_after : Bool) (bytes : List ℕ) → length m.«data» ≡ 100 →
    payload (exchanges_of r.address 0 m.«data» (upload_steps m lock_after) bytes) ≡ addressed (address_of "SNP_MEM_0") (take m.len m.«data»)
unfolding send_steps chunk_steps
shown r m lock_after bytes e =
    let image = m.«data» in
    let n = min m.len 100 in
    let l : n ≤ length image = omega arith in
    let k : n ≡ min m.len (length image) = omega arith in
    let z : n - 128 ≡ 0 = omega arith in
    let p : (chunk_step n 0 ++ (chunk_step n 32 ++ (chunk_step n 64 ++ chunk_step n 96))) ++ lock_steps lock_after
    ≡ chunk_step n 0 ++ (chunk_step n 32 ++ (chunk_step n 64 ++ (chunk_step n 96 ++ lock_steps lock_after))) = simp append_assoc in
    let more = sends_more r.address image bytes n in
    ap (writes r.address image bytes) p
    ∙ more 0 32 _ refl (omega arith) l
    (more 32 64 _ refl (omega arith) l
    (more 64 96 _ refl (omega arith) l
    (more 96 128 _ refl (omega arith) l (sends_none r.address image bytes lock_after ∙ ap (part r.address image bytes 128) (sym z)))))
    ∙ ap (addressed 132) (ap (λ (i : ℕ). take i image) (sub-zero n) ∙ take_shown image m.len n k)
