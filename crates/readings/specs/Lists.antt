-- All lists of an image in bytes, as `lists` hands them out: document 01, 'Which form goes where', "functions exported for C on numbers
-- and byte slices". Laid out as in reader/specs/Reading.antt: elements end to end, and behind each kind the index after each list's last.
use Rattle.std.specs.Prelude.{ℕ, List, ◌++◌, map}
use Rattle.std.proofs.Math.Option.{Option}
use Rattle.laws.specs.Whole.{whole}
use Rattle.laws.specs.Lists.{joined, low_bytes}
use Rattle.errors.specs.Told.{Told, gives, refuses, on_told}
use Rattle.frame.specs.declared.FrameBuilder.{FrameBuilder}
use Rattle.frame.specs.Word.{frame_word}
use Rattle.memory.specs.Image.{end_pointers}
use Rattle.content.specs.Content.{Content, point_bytes}
use Rattle.content.specs.ReadImage.{on_option}
use Rattle.reader.specs.Reading.{padded}
use Rattle.readings.specs.Readings.{counts_answer}

-- a frame in six bytes
unfoldable pub word_bytes : FrameBuilder → List ℕ
word_bytes f = low_bytes 6 (frame_word f)

-- frames end to end
abbrev pub words_bytes : List FrameBuilder → List ℕ
words_bytes fs = joined (map word_bytes fs)

-- 96 bytes of points, 15 ends of snippets, 96 frames in 576 bytes, 16 ends of sequences
unfoldable pub lists_of : Content → List ℕ
lists_of c =
    padded 96 0 (joined (map point_bytes c.snippets)) ++ padded 15 0 (end_pointers 0 (map point_bytes c.snippets))
    ++ padded 576 0 (words_bytes (joined c.sequences)) ++ padded 16 0 (end_pointers 0 c.sequences)

-- all lists of what was read, or NotAnImage
abbrev pub lists_item : Option Content → Told (List ℕ)
lists_item o = on_option o (refuses 18) (λ c. gives (lists_of c))

-- what is answered where this buffer is lent: the counts, if it has room for the lists, else the refusal
abbrev pub lists_answer : List ℕ → Option Content → Told ℕ
lists_answer buffer o = on_told (whole buffer (lists_item o)) (λ bytes. counts_answer o) refuses
