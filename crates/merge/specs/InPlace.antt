-- What the private functions of `merge` make of items that stand in an image; only their contracts cite this.
use Rattle.std.specs.Prelude.{ℕ, ◌+◌, ◌≤◌, ◌≡◌, cond, List, ◌++◌, map, ltb, length}
use Rattle.frame.specs.declared.FrameBuilder.{FrameBuilder}
use Rattle.frame.specs.Agreement.{FrameAdmitted}
use Rattle.content.specs.Content.{frames_bytes}
use Rattle.readings.specs.InPlace.{frames_in}
use Rattle.pool.specs.declared.Pool.{Pool}
use Rattle.pool.specs.Kept.{kept}
use Rattle.merge.specs.Merged.{raised}

-- a frame has room for its number raised
pub record Raisable (count : ℕ) (f : FrameBuilder) : Type 0 where
  pub admitted : FrameAdmitted f
  pub room : f.snippet_id + count ≤ 15

-- the bytes of a sequence, its frames raised
abbrev pub raised_bytes : ℕ → List ℕ → List ℕ
raised_bytes count bytes = frames_bytes (map (raised count) (frames_in bytes))

-- items more behind the others of a pool, or the refusal `full` where there are too many
abbrev pub Keeps : (most full : ℕ) → List (List ℕ) → Pool most → ℕ → Pool most → Type 0
Keeps most full items p n p' =
    (before : List (List ℕ)) → length before ≤ most → p ≡ kept most before
    → (n ≡ cond (ltb most (length before + length items)) full 0)
    × (length before + length items ≤ most → p' ≡ kept most (before ++ items))
