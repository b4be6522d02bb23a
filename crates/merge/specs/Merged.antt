-- Two images into one: document 02, CR 7. An image stands here as the content that it is read to; what is claimed of the result is in Merge.antt.
use Rattle.std.specs.Prelude.{ℕ, zero, suc, ◌+◌, Bool, cond, ◌||◌, List, ◌++◌, map, ltb, length}
use Rattle.std.specs.List.{list_any}
use Rattle.std.proofs.Math.Option.{Option}
use Rattle.errors.specs.Told.{Told, refuses, told_by}
use Rattle.laws.specs.Lists.{joined}
use Rattle.frame.specs.declared.FrameBuilder.{FrameBuilder}
use Rattle.frame.specs.Builder.{frame_with}
use Rattle.content.specs.Content.{Content, size_of, image_of}
use Rattle.content.specs.ReadImage.{on_option}

-- "the second's snippet numbers raised by the first's count. Silence remains silence"
abbrev pub raised_number : ℕ → ℕ → ℕ
raised_number count zero = 0
raised_number count (suc n) = count + suc n

-- "Apart from its number a frame keeps every field"
abbrev pub raised : ℕ → FrameBuilder → FrameBuilder
raised count f = frame_with (raised_number count f.snippet_id) f.gain f.timebase f.loop_count f.frequency

-- "the first's snippets and sequences, then the second's"
abbrev pub merged : Content → Content → Content
merged c d =
    record {
      snippets = c.snippets ++ d.snippets;
      sequences = c.sequences ++ map (map (raised (length c.snippets))) d.sequences;
    }

-- ---- the refusals

-- "A frame .. naming a snippet its own image lacks"; number 0 is silence
abbrev pub lacks : Content → Bool
lacks c = list_any (λ (f : FrameBuilder). ltb (length c.snippets) f.snippet_id) (joined c.sequences)

-- a frame "of either input" gives 25, and "limits give 6, 7 or 8, tried in that order after the missing snippet"; 0 where nothing is refused. The
-- other limits stay out of reach: items keep their points and frames, and no sequence of 32 frames is above 96 bytes
abbrev pub merge_number : Content → Content → ℕ
merge_number c d =
    cond (lacks c || lacks d) 25
    (cond (ltb 15 (length c.snippets + length d.snippets)) 6
    (cond (ltb 16 (length c.sequences + length d.sequences)) 7
    (cond (ltb 100 (size_of (merged c d))) 8 0)))

-- the merged image, or a refusal: "Either input unreadable gives 18"
abbrev pub merged_item : Option Content → Option Content → Told (List ℕ)
merged_item o p = on_option o (refuses 18) (λ c. on_option p (refuses 18) (λ d. told_by (merge_number c d) (image_of (merged c d))))
