-- What comes at the j-th place is that frame, if all are frames.
use Rattle.std.proofs.Common.{◌≡◌, ◌≤◌, ◌∙◌, Option, Result, Some, None, Ok, Err, List, ℕ, [], ◌∷◌, zero, suc, ap, refl, sym, length}
use Rattle.std.specs.Iterator.{YieldsFirst, YieldsThen}
use Rattle.std.specs.List.{slice_get}
use Rattle.std.specs.Option.{option_map, MatchOption}
use Rattle.std.specs.Result.{result_ok}
use Rattle.std.proofs.Math.Option.{some}
use Rattle.std.proofs.Math.ListN.{get_elem?}
use Rattle.std.proofs.lemmas.Iterator.Consumers.{YieldsList-from_first, nth_from_yields_List}
use Rattle.errors.specs.declared.Error.{Error}
use Rattle.frame.specs.declared.FrameBuilder.{FrameBuilder}
use Rattle.content.specs.ReadImage.{and_then, read_frames}
use Rattle.reader.specs.Items.{at_told}
use Rattle.reader.specs.declared.ReadFrames.{ReadFrames}
use Rattle.reader.specs.Walk.{frames_from, frames_left}
use Rattle.reader.proofs.Running.{ok, every_ok}
use Rattle.readings.proofs.Standing.{every_at}
use Rattle.readings.proofs.nth_frame.Goals as goal

looked : (l : List (Result FrameBuilder Error)) (j : ℕ) → at_told (slice_get l j) ≡ get_elem? l j
looked [] j = refl
looked (x ∷ l) zero = refl
looked (x ∷ l) (suc j) = looked l j

got : (l : List (Result FrameBuilder Error)) (j : ℕ) (r : Option (Result FrameBuilder Error)) → option_map (λ x. x) r ≡ slice_get l j → at_told r ≡ get_elem? l j
got l j None e = ap at_told e ∙ looked l j
got l j (Some x) e = ap at_told e ∙ looked l j

told_ok : (r : Result FrameBuilder Error) → at_told (result_ok r) ≡ ok r
told_ok (Ok f) = refl
told_ok (Err e) = refl

-- the call from s on, which left u
frame_at : (l : List ℕ) (fs : List FrameBuilder) (j : ℕ) (r : Option (Result FrameBuilder Error)) (s u : ReadFrames) → frames_left s ≡ frames_from 32 l
    → ((xs : List (Result FrameBuilder Error)) × YieldsThen (YieldsFirst frames_left) s xs r u × MatchOption r (length xs ≤ j) (λ _. length xs ≡ j))
    → read_frames 32 l ≡ some fs → and_then (at_told r) ok ≡ get_elem? fs j
frame_at l fs j r s u new ran e =
    let t = nth_from_yields_List r u j ran (YieldsList-from_first (λ x. x) frames_left (frames_from 32 l) new) in
    ap (λ o. and_then o ok) (got (frames_from 32 l) j r t) ∙ sym (every_at ok (frames_from 32 l) fs j (every_ok 32 l ∙ e))

pub returns-in_err-nth : goal.returns-in_err-nth
returns-in_err-nth c fs e =
    ap at_told c.from_residual.ensures ∙ ap (λ r. and_then (at_told r) ok) (sym c.in_err-nth.was)
    ∙ frame_at c.args.bytes.now fs c.args.j _ _ c.nth.new.self c.new.ensures c.nth.ensures.ran e

pub returns : goal.returns
returns c fs e =
    ap at_told c.ok.ensures.value ∙ told_ok c.in_ok-nth.field-0 ∙ ap (λ r. and_then (at_told r) ok) (sym c.in_ok-nth.was)
    ∙ frame_at c.args.bytes.now fs c.args.j _ _ c.nth.new.self c.new.ensures c.nth.ensures.ran e
