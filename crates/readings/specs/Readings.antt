-- What an image is read back to, as numbers for C: document 01, "functions exported for C on numbers and byte slices". Each of the three
-- is a value or the refusal 18, and crosses as one number by errors/specs/Packed.antt; specs/Telling.antt: no two are confused.
use Rattle.std.specs.Prelude.{ℕ, ◌+◌, ◌*◌, ◌^◌, length}
use Rattle.std.proofs.Math.Option.{Option}
use Rattle.errors.specs.Told.{Told, gives, refuses}
use Rattle.frame.specs.Word.{frame_word}
use Rattle.content.specs.Content.{Content, byte_of}
use Rattle.content.specs.ReadImage.{on_option}
use Rattle.reader.specs.Items.{element}

-- 256 times the number of snippets and the number of sequences
abbrev pub counts_answer : Option Content → Told ℕ
counts_answer o = on_option o (refuses 18) (λ c. gives (length c.snippets * 256 + length c.sequences))

-- the byte of the j-th point of the i-th snippet, or above every byte where there is none
abbrev pub point_answer : Option Content → ℕ → ℕ → Told ℕ
point_answer o i j = on_option o (refuses 18) (λ c. gives (on_option (element c.snippets i j) 256 byte_of))

-- the fields of the j-th frame of the i-th sequence as one number, or above every such number where there is none
abbrev pub frame_answer : Option Content → ℕ → ℕ → Told ℕ
frame_answer o i j = on_option o (refuses 18) (λ c. gives (on_option (element c.sequences i j) (2 ^ 48) frame_word))
