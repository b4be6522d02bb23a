-- No answer misleads: of every exported function of this crate whose answer is a value or a refusal in one number, the number gives back which
-- of the two it is, and the value or the refusal (demand 1, "refuses by one of the listed numbers"); and no part of an item is handed out.
use Rattle.std.specs.Prelude.{ℕ, ◌≡◌, Bool, List}
use Rattle.laws.specs.Bytes.{Bytes}
use Rattle.laws.specs.Whole.{whole, length_of, WholeOrNothing}
use Rattle.errors.specs.Told.{Told}
use Rattle.errors.specs.Packed.{packed}
use Rattle.snippet.specs.Point.{point}
use Rattle.content.specs.ReadImage.{read_image}
use Rattle.readings.specs.Readings.{counts_answer, point_answer, frame_answer}
use Rattle.readings.specs.Lists.{lists_answer}
use Rattle.readings.specs.Telling.{ReadingsTold}
use Rattle.page.specs.Lines.{page_item}
use Rattle.page.specs.Page.{Page}
use Rattle.merge.specs.Merge.{Merge}
use Rattle.assemble.specs.Items.{snippet_item, frame_item, sequence_item, WholeItems}
use Rattle.assemble.specs.Strict.{Assembled, Strict}

-- equal numbers are equal answers
abbrev pub Tells : {A : Type 0} → ℕ → (A → Told ℕ) → Type 0
Tells bits answer = (x y : _) → packed bits (answer x) ≡ packed bits (answer y) → answer x ≡ answer y

pub record Telling : Type 0 where
  -- da728x_point
  pub points : Tells 8 (λ (x : Bool × ℕ × ℕ). point x.0 x.1 x.2)
  -- da728x_snippet, da728x_frame and da728x_sequence with any buffer and any calls
  pub snippets : Tells 16 (λ (x : List ℕ × List ℕ). length_of (whole x.0 (snippet_item x.1)))
  pub frames : Tells 16 (λ (x : List ℕ × List ℕ). length_of (whole x.0 (frame_item x.1)))
  pub sequences : Tells 16 (λ (x : List ℕ × List ℕ). length_of (whole x.0 (sequence_item x.1)))
  -- da728x_read_counts, da728x_read_lists with any buffer, da728x_read_point, da728x_read_frame on slices of bytes
  pub counts : Tells 16 (λ (x : (l : List ℕ) × Bytes l). counts_answer (read_image x.0))
  pub lists : Tells 16 (λ (x : List ℕ × ((l : List ℕ) × Bytes l)). lists_answer x.0 (read_image x.1.0))
  pub image_points : (i j : ℕ) → Tells 16 (λ (x : (l : List ℕ) × Bytes l). point_answer (read_image x.0) i j)
  pub image_frames : (i j : ℕ) → Tells 56 (λ (x : (l : List ℕ) × Bytes l). frame_answer (read_image x.0) i j)
  -- da728x_page with any buffer on slices of bytes; images that print alike are equal
  pub pages : Tells 16 (λ (x : List ℕ × ((l : List ℕ) × Bytes l)). length_of (whole x.0 (page_item (read_image x.1.0))))
  pub printed : Page
  -- da728x_merge: a number alone; each refusal exactly under its condition, and each sequence plays what it played
  pub merged : Merge
  -- images that are answered alike are read alike
  pub images : ReadingsTold
  -- da728x_assemble: a number; da728x_assemble_strict: a number and a place
  pub assembled : (buffer calls : List ℕ) → Assembled buffer calls
  pub strict : (buffer calls : List ℕ) → Strict buffer calls
  -- every function that hands out an item, an image, all lists of an image or its page, whatever the buffer; and an item is all of it
  pub items : (calls : List ℕ) → WholeItems calls
  pub whole_or_nothing : (buffer : List ℕ) (item : Told (List ℕ)) → WholeOrNothing buffer item
