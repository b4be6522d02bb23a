-- The content of a pattern, its image, which contents the builders admit, and when two are the same: document 01, 'The hundred
-- bytes', and demand 3.
use Rattle.std.specs.Prelude.{ℕ, ◌≤◌, ◌≡◌, Bool, List, [], ◌∷◌, map, length}
use Rattle.laws.specs.Bytes.{All}
use Rattle.laws.specs.Lists.{joined}
use Rattle.snippet.specs.Point.{point_byte, PointAdmitted}
use Rattle.frame.specs.declared.FrameBuilder.{FrameBuilder}
use Rattle.frame.specs.Frame.{bytes_of}
use Rattle.frame.specs.Agreement.{Agree, FrameAdmitted}
use Rattle.memory.specs.Image.{image_size, image_bytes}

-- "Points are the same when kind, length and amplitude are"
pub record Point : Type 0 where
  pub ramp : Bool
  pub timebases : ℕ
  pub amplitude : ℕ

-- a frame is told by its builder's fields
pub record Content : Type 0 where
  pub snippets : List (List Point)
  pub sequences : List (List FrameBuilder)

-- ---- the image

abbrev pub byte_of : Point → ℕ
byte_of p = point_byte p.ramp p.timebases p.amplitude

abbrev pub point_bytes : List Point → List ℕ
point_bytes ps = map byte_of ps

abbrev pub frames_bytes : List FrameBuilder → List ℕ
frames_bytes fs = joined (map bytes_of fs)

abbrev pub size_of : Content → ℕ
size_of c = image_size (map point_bytes c.snippets) (map frames_bytes c.sequences)

unfoldable pub image_of : Content → List ℕ
image_of c = image_bytes (map point_bytes c.snippets) (map frames_bytes c.sequences)

-- ---- what the builders admit

-- from 1 to so many, each of them good
pub record Within {A : Type 0} (most : ℕ) (Good : A → Type 0) (xs : List A) : Type 0 where
  pub nonempty : 1 ≤ length xs
  pub few : length xs ≤ most
  pub each : All Good xs

-- "1..15 snippets of 1..16 points, ramp or step, length 1..8, amplitude 0..15, and 1..16 sequences of 1..32 frames .. if the size is at
-- most 100"
pub record Admitted (c : Content) : Type 0 where
  pub snippets : Within 15 (Within 16 (λ (p : Point). PointAdmitted p.timebases p.amplitude)) c.snippets
  pub sequences : Within 16 (Within 32 FrameAdmitted) c.sequences
  pub fits : size_of c ≤ 100

-- ---- the same

-- equally many, and corresponding ones are related
abbrev pub Both : {A : Type 0} → (A → A → Type 0) → List A → List A → Type 0
Both R [] [] = Unit
Both R [] (y ∷ ys) = ⊥
Both R (x ∷ xs) [] = ⊥
Both R (x ∷ xs) (y ∷ ys) = R x y × Both R xs ys

-- "equally many snippets and equally many sequences, corresponding snippets hold the same points in order, and corresponding sequences
-- hold equally many frames that agree in order"
pub record Same (c d : Content) : Type 0 where
  pub points : c.snippets ≡ d.snippets
  pub frames : Both (Both Agree) c.sequences d.sequences
