-- The content that an image has: what the reader answers. Demand 3, "lists that the builders admit and whose image those bytes are";
-- document 01, 'The hundred bytes'. proofs/Images.antt: it is the one whose image the bytes are, if there is one.
use Rattle.std.specs.Prelude.{ℕ, zero, suc, ◌+◌, ◌-◌, Bool, true, cond, ◌&&◌, List, [], ◌∷◌, map, ltb, leb, eqb, length, take, drop}
use Rattle.std.proofs.Math.Option.{Option, none, some}
use Rattle.snippet.specs.Point.{ramp_in, timebases_in, amplitude_in}
use Rattle.frame.specs.declared.FrameBuilder.{FrameBuilder}
use Rattle.frame.specs.Read.{read_frame}
use Rattle.content.specs.Content.{Point, Content}

-- what is said where there is none, and where there is one
abbrev pub on_option {ℓ} : {A : Type 0} {B : Type ℓ} → Option A → B → (A → B) → B
on_option none absent given = absent
on_option (some a) absent given = given a

-- what follows where the first is there
abbrev pub and_then : {A B : Type 0} → Option A → (A → Option B) → Option B
and_then o f = on_option o none f

-- each of a list, if every one is there
abbrev pub every : {A B : Type 0} → (A → Option B) → List A → Option (List B)
every f [] = some []
every f (x ∷ xs) = and_then (f x) (λ y. and_then (every f xs) (λ ys. some (y ∷ ys)))

-- ---- an item's bytes

abbrev pub point_in : ℕ → Point
point_in b = record { ramp = ramp_in b; timebases = timebases_in b; amplitude = amplitude_in b }

-- 1 to 16 points, each a byte
unfoldable pub read_snippet : List ℕ → Option (List Point)
read_snippet bs = cond (leb 1 (length bs) && leb (length bs) 16) (some (map point_in bs)) none

-- at most k frames, up to the end of the bytes
abbrev pub read_frames : ℕ → List ℕ → Option (List FrameBuilder)
read_frames zero [] = some []
read_frames zero (b ∷ bs) = none
read_frames (suc k) [] = some []
read_frames (suc k) (b ∷ bs) = and_then (read_frame (b ∷ bs)) (λ p. and_then (read_frames k p.rest) (λ fs. some (p.frame ∷ fs)))

-- 1 to 32 frames
unfoldable pub read_sequence : List ℕ → Option (List FrameBuilder)
read_sequence bs = cond (leb 1 (length bs)) (read_frames 32 bs) none

-- ---- the items of an image

pub record Cut : Type 0 where
  pub items : List (List ℕ)
  pub left : List ℕ

-- the items that end at the pointers, each behind the one before and not empty, and what is left
abbrev pub cut : ℕ → List ℕ → List ℕ → Option Cut
cut before [] l = some (record { items = []; left = l })
cut before (e ∷ es) l =
    cond (ltb before e && leb (e - before) (length l))
    (and_then (cut e es (drop (e - before) l)) (λ c. some (record { items = take (e - before) l ∷ c.items; left = c.left }))) none

abbrev pub all_zero : List ℕ → Bool
all_zero [] = true
all_zero (x ∷ xs) = ltb x 1 && all_zero xs

pub record Items : Type 0 where
  pub snippets : List (List ℕ)
  pub sequences : List (List ℕ)

-- 1..15 snippets, 1..16 sequences
abbrev pub counts_fit : ℕ → ℕ → Bool
counts_fit s q = leb 1 s && leb s 15 && leb 1 q && leb q 16

abbrev pub items_from : ℕ → Cut → Option Items
items_from s c = cond (all_zero c.left) (some (record { snippets = take s c.items; sequences = drop s c.items })) none

unfoldable pub read_items : List ℕ → Option Items
read_items [] = none
read_items (s ∷ []) = none
read_items (s ∷ q ∷ l) =
    cond (eqb (length l) 98 && counts_fit s q) (and_then (cut (1 + s + q) (take (s + q) l) (drop (s + q) l)) (items_from s)) none

-- ---- the whole

abbrev pub content_in : Items → Option Content
content_in r =
    and_then (every read_snippet r.snippets) (λ s. and_then (every read_sequence r.sequences) (λ q. some (record { snippets = s; sequences = q })))

unfoldable pub read_image : List ℕ → Option Content
read_image l = and_then (read_items l) content_in
