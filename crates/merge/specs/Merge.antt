-- What is claimed of two images merged: document 02, CR 7, "Each sequence must play the same points with the same gain, timebase, loop count
-- (absent equals 0) and frequency as before", and each refusal exactly under its condition. The request's rules are said a second time here, apart
-- from Merged.antt.
use Rattle.std.specs.Prelude.{ℕ, zero, suc, ◌+◌, ◌≤◌, ◌<◌, ◌≡◌, ◌↔◌, ◌⊎◌, cond, ◌&&◌, List, [], ◌∷◌, ◌++◌, ltb, leb, eqb, length, replicate, drop, Some, None}
use Rattle.std.specs.declared.option.Option as rust
use Rattle.std.proofs.Math.Option.{Option, none, some}
use Rattle.std.proofs.Math.ListN.{get_elem?}
use Rattle.errors.specs.Told.{gives, refuses}
use Rattle.laws.specs.Bytes.{All, Bytes}
use Rattle.laws.specs.Lists.{joined}
use Rattle.laws.specs.Whole.{whole, whole_out}
use Rattle.frame.specs.declared.Gain.{Gain}
use Rattle.frame.specs.declared.Timebase.{Timebase}
use Rattle.frame.specs.declared.FrameBuilder.{FrameBuilder}
use Rattle.frame.specs.Frame.{on_given, bytes_of}
use Rattle.content.specs.Content.{Point, Content, Both, frames_bytes, size_of, image_of, Admitted}
use Rattle.content.specs.ReadImage.{and_then, every, read_image}
use Rattle.merge.specs.Merged.{merged_item}

-- ---- what a sequence plays

-- what a frame plays; silence has no points
pub record Played : Type 0 where
  pub points : Option (List Point)
  pub gain : Gain
  pub timebase : Timebase
  pub loop_count : ℕ
  pub frequency : rust.Option ℕ

-- the points that a number names among the snippets, which count from 1; 0 is silence; none where the snippets lack it
abbrev pub points_named : List (List Point) → ℕ → Option (Option (List Point))
points_named snippets zero = some none
points_named snippets (suc n) = and_then (get_elem? snippets n) (λ points. some (some points))

-- "loop count (absent equals 0)"
abbrev pub played : List (List Point) → FrameBuilder → Option Played
played snippets f =
    and_then (points_named snippets f.snippet_id)
    (λ points. some (
    record { points = points; gain = f.gain; timebase = f.timebase; loop_count = on_given f.loop_count 0 (λ k. k); frequency = f.frequency }))

-- what sequence i plays, frame by frame; none where there is none, or where one of its frames names a missing snippet
abbrev pub plays : Content → ℕ → Option (List Played)
plays c i = and_then (get_elem? c.sequences i) (every (played c.snippets))

-- sequence i of c is played, and sequence j of k plays the same
abbrev pub PlaysAlike : Content → ℕ → Content → ℕ → Type 0
PlaysAlike c i k j = (all : List Played) × (plays c i ≡ some all) × (plays k j ≡ some all)

-- ---- what becomes of a frame

-- f stands in the second image and g in its place in the merged one, both as they are read; the first image has `count` snippets
pub record Kept (count : ℕ) (f g : FrameBuilder) : Type 0 where
  -- "Silence remains silence"
  pub silence : f.snippet_id ≡ 0 → g.snippet_id ≡ 0
  pub number : 1 ≤ f.snippet_id → g.snippet_id ≡ count + f.snippet_id
  -- "Apart from its number a frame keeps every field, a loop count's absence included where the form allows it": where one byte is still enough,
  -- since a frame that is read without loop count has one byte
  pub gain : g.gain ≡ f.gain
  pub timebase : g.timebase ≡ f.timebase
  pub loop_count : g.loop_count ≡ on_given f.loop_count (cond (ltb g.snippet_id 8) None (Some 0)) Some
  pub frequency : g.frequency ≡ f.frequency
  -- "A one-byte frame whose number reaches 8 grows to two bytes"; no other changes its length
  pub size : length (bytes_of g) ≡ length (bytes_of f) + cond (eqb (length (bytes_of f)) 1 && leb 8 g.snippet_id) 1 0

-- ---- the merged image

-- the image that c and d were merged to
pub record Merged (c d : Content) (image : List ℕ) : Type 0 where
  -- it is read back
  pub content : Content
  pub reads : read_image image ≡ some content
  pub bytes : Bytes image
  -- and nothing else is in it
  pub admitted : Admitted content
  pub laid : image ≡ image_of content
  -- a raised number is 15 at most, since the builders admit it, and no sequence grows above its 96 bytes: 8 is the image's size alone
  pub short_sequences : All (λ fs. length (frames_bytes fs) ≤ 96) content.sequences
  -- "the first's snippets and sequences, then the second's"; the first's are as they were
  pub snippets : content.snippets ≡ c.snippets ++ d.snippets
  pub others : List (List FrameBuilder)
  pub sequences : content.sequences ≡ c.sequences ++ others
  pub keeps : Both (Both (Kept (length c.snippets))) d.sequences others
  pub count : length content.sequences ≡ length c.sequences + length d.sequences
  -- "Each sequence must play the same .. as before"
  pub first : (i : ℕ) → i < length c.sequences → PlaysAlike c i content i
  pub second : (i : ℕ) → i < length d.sequences → PlaysAlike d i content (length c.sequences + i)
  -- a buffer with room gets the hundred bytes, and its other bytes stay; a shorter one stays as it was, and 24 is told
  pub hundred : length image ≡ 100
  pub given : (out : List ℕ) → 100 ≤ length out
      → (whole out (gives image) ≡ gives image) × (whole_out out (gives image) ≡ image ++ drop 100 out)
  pub short : (out : List ℕ) → length out < 100 → (whole out (gives image) ≡ refuses 24) × (whole_out out (gives image) ≡ out)

-- ---- the refusals

-- each frame names one of its own image's snippets, or silence
abbrev pub Named : Content → Type 0
Named c = All (All (λ (f : FrameBuilder). f.snippet_id ≤ length c.snippets)) c.sequences

abbrev pub snippets_of : Content → Content → ℕ
snippets_of c d = length c.snippets + length d.snippets

abbrev pub sequences_of : Content → Content → ℕ
sequences_of c d = length c.sequences + length d.sequences

-- how many frames of one byte have a number that reaches 8
abbrev pub growing : ℕ → List FrameBuilder → ℕ
growing count [] = 0
growing count (f ∷ fs) = cond (eqb (length (bytes_of f)) 1 && leb 1 f.snippet_id && leb 8 (count + f.snippet_id)) 1 0 + growing count fs

-- two more than the bytes that the merged image takes: both sizes have the two counts
abbrev pub sizes_of : Content → Content → ℕ
sizes_of c d = size_of c + size_of d + growing (length c.snippets) (joined d.sequences)

-- each number is told exactly where its own rule applies and no earlier one does
pub record Refused (c d : Content) : Type 0 where
  pub missing : (merged_item (some c) (some d) ≡ refuses 25) ↔ ¬ (Named c × Named d)
  pub snippets : (merged_item (some c) (some d) ≡ refuses 6) ↔ ((Named c × Named d) × (15 < snippets_of c d))
  pub sequences : (merged_item (some c) (some d) ≡ refuses 7) ↔ ((Named c × Named d) × (snippets_of c d ≤ 15) × (16 < sequences_of c d))
  pub size : (merged_item (some c) (some d) ≡ refuses 8)
      ↔ ((Named c × Named d) × (snippets_of c d ≤ 15) × (sequences_of c d ≤ 16) × (102 < sizes_of c d))
  -- and where none does, there is an image
  pub accepted : ((image : List ℕ) × (merged_item (some c) (some d) ≡ gives image))
      ↔ ((Named c × Named d) × (snippets_of c d ≤ 15) × (sequences_of c d ≤ 16) × (sizes_of c d ≤ 102))

-- ---- images as one reads them

-- bytes, and so many zeros
abbrev pub filled : List ℕ → ℕ → List ℕ
filled l zeros = l ++ replicate zeros 0

-- seven snippets of one point, and a sequence that plays the last
abbrev pub seven : List ℕ
seven = filled (0x07 ∷ 0x01 ∷ 0x0A ∷ 0x0B ∷ 0x0C ∷ 0x0D ∷ 0x0E ∷ 0x0F ∷ 0x10 ∷ 0x11 ∷ replicate 7 0xAA ++ 0x07 ∷ []) 82

-- the same with six
abbrev pub six : List ℕ
six = filled (0x06 ∷ 0x01 ∷ 0x09 ∷ 0x0A ∷ 0x0B ∷ 0x0C ∷ 0x0D ∷ 0x0E ∷ 0x0F ∷ replicate 6 0xAA ++ 0x06 ∷ []) 84

-- two snippets, and a sequence: the first snippet, silence at half gain and 87.04 ms, the second with loop count 0, the first with loop count 2
abbrev pub two : List ℕ
two = filled (0x02 ∷ 0x01 ∷ 0x05 ∷ 0x06 ∷ 0x0C ∷ 0x01 ∷ 0x02 ∷ 0x01 ∷ 0x38 ∷ 0x02 ∷ 0x80 ∷ 0x01 ∷ 0x90 ∷ []) 87

pub record Merge : Type 0 where
  -- "Either input unreadable gives 18"
  pub unread : (o p : Option Content) → (merged_item o p ≡ refuses 18) ↔ ((o ≡ none) ⊎ (p ≡ none))
  pub refused : (c d : Content) → Refused c d
  -- a refusal is told whatever the buffer, which stays
  pub untouched : (out : List ℕ) (n : ℕ) → (whole out (refuses n) ≡ refuses n) × (whole_out out (refuses n) ≡ out)
  pub merged : (l m : List ℕ) → Bytes l → Bytes m → (c d : Content) → read_image l ≡ some c → read_image m ≡ some d
      → (image : List ℕ) → merged_item (some c) (some d) ≡ gives image → Merged c d image
  -- behind seven snippets number 1 becomes 8, which takes a second byte where there was none, and 2 becomes 9; silence stays
  pub grown : merged_item (read_image seven) (read_image two) ≡ gives (filled (
      0x09 ∷ 0x02 ∷ 0x0D ∷ 0x0E ∷ 0x0F ∷ 0x10 ∷ 0x11 ∷ 0x12 ∷ 0x13 ∷ 0x14 ∷ 0x15 ∷ 0x16 ∷ 0x1D ∷ replicate 7 0xAA
      ++ 0x01 ∷ 0x02 ∷ 0x07 ∷ 0x00 ∷ 0x81 ∷ 0x38 ∷ 0x01 ∷ 0x81 ∷ 0x00 ∷ 0x91 ∷ []) 70)
  -- behind six number 1 becomes 7, still in one byte, or in two with the loop count that was given
  pub stays : merged_item (read_image six) (read_image two) ≡ gives (filled (
      0x08 ∷ 0x02 ∷ 0x0C ∷ 0x0D ∷ 0x0E ∷ 0x0F ∷ 0x10 ∷ 0x11 ∷ 0x12 ∷ 0x13 ∷ 0x14 ∷ 0x1A ∷ replicate 6 0xAA
      ++ 0x01 ∷ 0x02 ∷ 0x06 ∷ 0x07 ∷ 0x38 ∷ 0x00 ∷ 0x81 ∷ 0x07 ∷ 0x90 ∷ []) 73)
