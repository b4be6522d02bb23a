-- The reader step by step, as the code goes: what the contracts of the private functions, of `scan` and of `ReadFrames` cite.
-- proofs/Whole.antt: with the lists that are kept it is `read_image`, laid out as `reading_of` says.
use Rattle.std.specs.Prelude.{ℕ, zero, suc, ◌+◌, ◌-◌, ◌≡◌, Result, Ok, Err, Bool, cond, ◌&&◌, List, [], ◌∷◌, ltb, leb, eqb, length, take, drop, get_or}
use Rattle.std.proofs.Math.Option.{Option, none, some}
use Rattle.errors.specs.declared.Error.{Error}
use Rattle.frame.specs.declared.FrameBuilder.{FrameBuilder}
use Rattle.frame.specs.Read.{read_frame}
use Rattle.content.specs.ReadImage.{on_option, and_then, all_zero, counts_fit}
use Rattle.reader.specs.declared.ReadFrames.{ReadFrames}
use Rattle.reader.specs.Reading.{Points, Frames}
use Rattle.reader.specs.Flat.{push_item, push_items, end_run}

-- ---- one item

-- at most k frames, up to the end of the bytes; a refusal in place of what is none, or is one more
abbrev pub frames_from : ℕ → List ℕ → List (Result FrameBuilder Error)
frames_from zero [] = []
frames_from zero (b ∷ bs) = Err Error.NotAnImage ∷ []
frames_from (suc k) [] = []
frames_from (suc k) (b ∷ bs) = on_option (read_frame (b ∷ bs)) (Err Error.NotAnImage ∷ []) (λ p. Ok p.frame ∷ frames_from k p.rest)

-- what an iterator over them has left
abbrev pub frames_left : ReadFrames → List (Result FrameBuilder Error)
frames_left r = frames_from r.left r.rest.now

-- the same frames, added
abbrev pub run_frames : ℕ → List ℕ → Frames → Option Frames
run_frames zero [] o = some o
run_frames zero (b ∷ bs) o = none
run_frames (suc k) [] o = some o
run_frames (suc k) (b ∷ bs) o = and_then (read_frame (b ∷ bs)) (λ p. run_frames k p.rest (push_item o p.frame))

-- 1 to 16 points, each a byte
abbrev pub snippet_fits : List ℕ → Bool
snippet_fits bs = leb 1 (length bs) && leb (length bs) 16

unfoldable pub push_snippet : List ℕ → Points → Option Points
push_snippet bs o = cond (snippet_fits bs) (some (end_run (push_items o bs))) none

unfoldable pub push_sequence : List ℕ → Frames → Option Frames
push_sequence bs o = cond (leb 1 (length bs)) (and_then (run_frames 32 bs o) (λ f. some (end_run f))) none

-- how the code answers: 18, or a value and what is left of what was made
abbrev pub Tells : {M V S : Type 0} → (M → V) → (M → S) → Option M → Result V Error → S → Type 0
Tells value after none answer state = answer ≡ Err Error.NotAnImage
Tells value after (some m) answer state = (answer ≡ Ok (value m)) × (state ≡ after m)

-- .. what a step made of the lists
abbrev pub Stepped : {S : Type 0} → Option S → Result Unit Error → S → Type 0
Stepped m answer state = Tells (λ s. tt) (λ s. s) m answer state

-- ---- the items that end at the pointers

pub record Walked (S : Type 0) : Type 0 where
  pub state : S
  pub last : ℕ

-- the bytes behind index p up to index e
abbrev pub item : List ℕ → ℕ → ℕ → List ℕ
item image p e = take (e - p) (drop (p + 1) image)

-- one item after the other, the first behind index p
module _ {S : Type 0} (step : List ℕ → S → Option S) (image : List ℕ) where
  abbrev pub walk : ℕ → List ℕ → S → Option (Walked S)
  walk p [] o = some (record { state = o; last = p })
  walk p (e ∷ es) o = cond (ltb p e) (cond (ltb e (length image)) (and_then (step (item image p e) o) (λ o'. walk e es o')) none) none

-- .. the state and the last index
abbrev pub Walks : {S : Type 0} → Option (Walked S) → Result ℕ Error → S → Type 0
Walks m answer state = Tells (λ w. w.last) (λ w. w.state) m answer state

-- ---- the image

pub record Scan (S Q : Type 0) : Type 0 where
  pub snippets : S
  pub sequences : Q

-- the snippets, then the sequences, from these states on
module _ {S Q : Type 0} (one : List ℕ → S → Option S) (many : List ℕ → Q → Option Q) (image : List ℕ) (no_snippets : S) (no_sequences : Q) where
  -- all bytes after index last are zero
  abbrev pub finished : S → Q → ℕ → Option (Scan S Q)
  finished s q last = cond (all_zero (drop (last + 1) image)) (some (record { snippets = s; sequences = q })) none

  abbrev pub sequences_then : S → Option (Walked Q) → Option (Scan S Q)
  sequences_then s m = and_then m (λ w. finished s w.state w.last)

  -- q sequences, whose pointers stand from index at on
  unfoldable pub after_snippets : ℕ → ℕ → Walked S → Option (Scan S Q)
  after_snippets at q w = sequences_then w.state (walk many image w.last (take q (drop at image)) no_sequences)

  abbrev pub snippets_then : ℕ → ℕ → Option (Walked S) → Option (Scan S Q)
  snippets_then s q m = and_then m (after_snippets (2 + s) q)

  -- s snippets, then q sequences
  unfoldable pub after_counts : ℕ → ℕ → Option (Scan S Q)
  after_counts s q = snippets_then s q (walk one image (1 + s + q) (take s (drop 2 image)) no_snippets)

  abbrev pub scan : Option (Scan S Q)
  scan =
      cond (eqb (length image) 100)
      (cond (counts_fit (get_or image 0 0) (get_or image 1 0)) (after_counts (get_or image 0 0) (get_or image 1 0)) none)
      none

-- .. the states and the image's counts
abbrev pub Scans : {S Q : Type 0} → List ℕ → Option (Scan S Q) → Result (ℕ × ℕ) Error → S → Q → Type 0
Scans image m answer snippets sequences =
    Tells (λ r. (get_or image 0 0, get_or image 1 0)) (λ r. r) m answer (record { snippets = snippets; sequences = sequences })
