-- What was scanned is what the image says, and a refusal has its number.
use Rattle.std.proofs.Common.{◌≡◌, ◌∙◌, List, ℕ, Err, ap, refl, sym}
use Rattle.std.proofs.Math.Option.{Option, none, some}
use Rattle.errors.specs.Number.{answer_number}
use Rattle.content.specs.Content.{Content}
use Rattle.content.specs.ReadImage.{on_option, read_image}
use Rattle.laws.specs.Bytes.{Bytes}
use Rattle.laws.proofs.Lists.{bytes_of}
use Rattle.frame.specs.Builder.{silent_frame}
use Rattle.reader.specs.Reading.{Reading, Points, Frames, no_runs, reading_of}
use Rattle.reader.specs.Walk.{push_snippet, push_sequence, Scan, scan}
use Rattle.errors.proofs.Passed.{passed}
use Rattle.reader.proofs.Steps.{tells_ok, tells_err}
use Rattle.reader.proofs.Whole.{reading_from, whole}
use Rattle.reader.proofs.read.Goals as goal

numbered : (o : Option Content) → answer_number (reading_of o) ≡ on_option o 18 (λ _. 0)
numbered none = refl
numbered (some c) = refl

scanned_as : (image : List ℕ) → Bytes image → (a : Points) (b : Frames) → a ≡ no_runs 15 0 → b ≡ no_runs 16 silent_frame → (m : Option (Scan Points Frames))
    → scan push_snippet push_sequence image a b ≡ m → reading_from m ≡ reading_of (read_image image)
scanned_as image small a b ea eb m e =
    ap reading_from (sym e ∙ (λ i. scan push_snippet push_sequence image (ea i) (eb i))) ∙ (whole image small).1

pub returns-in_err-scan-clause-value : goal.returns-in_err-scan-clause-value
returns-in_err-scan-clause-value c =
    let image = c.args.image.now in
    let n = tells_err _ _ _ _ c.scan.ensures c.in_err-scan.was in
    passed _ c.from_residual.ensures.1 ∙ ap Err n.1
    ∙ scanned_as image (bytes_of image (λ i. (c.type_inv.image i).fits)) _ _ c.new-snippets.ensures (c.new-sequences.ensures ∙ ap (no_runs 16) c.silence.ensures) none n.0

pub returns-in_err-scan-clause-answer_value : goal.returns-in_err-scan-clause-answer_value
returns-in_err-scan-clause-answer_value c =
    ap (λ (r : Reading). answer_number r) (returns-in_err-scan-clause-value c) ∙ numbered (read_image c.args.image.now)

pub returns-clause-value : goal.returns-clause-value
returns-clause-value c =
    let image = c.args.image.now in
    let m = tells_ok _ _ _ c.scan.ensures c.in_ok-scan.was in
    scanned_as image (bytes_of image (λ i. (c.type_inv.image i).fits)) _ _ c.new-snippets.ensures (c.new-sequences.ensures ∙ ap (no_runs 16) c.silence.ensures) _
    (m.is ∙ ap some m.left)

pub returns-clause-answer_value : goal.returns-clause-answer_value
returns-clause-answer_value c = ap (λ (r : Reading). answer_number r) (returns-clause-value c) ∙ numbered (read_image c.args.image.now)
