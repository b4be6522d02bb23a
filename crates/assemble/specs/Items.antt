-- What a list of builder calls comes to, as bytes or as a refusal: the items under construction after the calls, and the image. How each of
-- them goes into a lent buffer is laws/specs/Whole.antt. `WholeItems`: each is all of what the accepted calls put there.
use Rattle.std.specs.Prelude.{ℕ, ◌≡◌, cond, List, ltb, length}
use Rattle.errors.specs.Told.{Told, gives, refuses, on_told, told_by, told_number}
use Rattle.laws.specs.Whole.{whole}
use Rattle.snippet.specs.Snippet.{snippet_bytes, built_snippet}
use Rattle.frame.specs.Frame.{bytes_of, frame_bytes, built_frame}
use Rattle.sequence.specs.Sequence.{sequence_bytes, built_sequence}
use Rattle.content.specs.Content.{point_bytes, frames_bytes}
use Rattle.pattern.specs.Calls.{points_from, begun_by, frame_from, frames_from}
use Rattle.calls.specs.Calls.{frame_begun}
use Rattle.assemble.specs.Lists.{groups_of, answers_of, builders_of, built_of, first_refused}

abbrev pub snippet_item : List ℕ → Told (List ℕ)
snippet_item calls = let r = built_snippet (builders_of calls).snippet in told_by r.number (snippet_bytes r.item)

abbrev pub frame_item : List ℕ → Told (List ℕ)
frame_item calls = on_told (frame_begun (builders_of calls).frame) (λ f. gives (frame_bytes (built_frame f))) refuses

abbrev pub sequence_item : List ℕ → Told (List ℕ)
sequence_item calls = let r = built_sequence (builders_of calls).sequence in told_by r.number (sequence_bytes r.item)

-- the image of what the accepted calls added
abbrev pub image_item : List ℕ → Told (List ℕ)
image_item calls = let r = built_of calls in told_by r.number r.item.«data»

-- the same, but the first call that is refused comes first; its number carries its place
abbrev pub strict_item : List ℕ → Told (List ℕ)
strict_item calls = let first = first_refused 0 (answers_of calls) in cond (ltb 0 first) (refuses first) (image_item calls)

-- what the two forms that make an image answer where this buffer is lent for it
abbrev pub leniently : List ℕ → List ℕ → ℕ
leniently buffer calls = told_number (whole buffer (image_item calls))

abbrev pub strictly : List ℕ → List ℕ → ℕ
strictly buffer calls = told_number (whole buffer (strict_item calls))

-- nothing of an item is left out: the points, the fields, the frames that the accepted calls gave it
pub record WholeItems (calls : List ℕ) : Type 0 where
  pub snippet : let ps = points_from (groups_of calls).snippet in snippet_item calls ≡ cond (ltb (length ps) 1) (refuses 9) (gives (point_bytes ps))
  pub frame : let m = (groups_of calls).frame in frame_item calls ≡ on_told (begun_by m.begin) (λ f. gives (bytes_of (frame_from m))) refuses
  pub sequence : let fs = frames_from (groups_of calls).sequence in
      sequence_item calls ≡ cond (ltb (length fs) 1) (refuses 10) (gives (frames_bytes fs))
