-- The items under construction hold what the accepted calls added. Assumes nothing.
use Rattle.std.specs.Prelude.{Some, None}
use Rattle.std.proofs.lemmas.List.{take-map}
use mathlib.Core.Path.{◌≡◌, refl, sym, ap, ◌∙◌}
use mathlib.Core.Bool.{Bool, true, false, cond}
use mathlib.Core.List.{List, [], ◌∷◌, map}
use Prim.Native.Nat.{ℕ, ◌<◌}
use native.Mathlib.Omega.{arith}
use borrow.Author.Tests.{lt-ltb, le-ltb}
use lib.Dec.{ltb}
use lib.ListN.{length, length-append}
use Rattle.errors.specs.Told.{Told, gives, refuses, on_told, told_by, built}
use Rattle.snippet.specs.Snippet.{pwl_byte, no_snippet, snippet_bytes}
use Rattle.sequence.specs.Sequence.{no_sequence, sequence_bytes}
use Rattle.frame.specs.declared.FrameBuilder.{FrameBuilder}
use Rattle.frame.specs.Frame.{bytes_of, frame_bytes, built_frame}
use Rattle.content.specs.Content.{byte_of, frames_bytes}
use Rattle.calls.specs.Calls.{frame_begun}
use Rattle.pattern.specs.Calls.{snippet_from, points_from, begun_by, FrameCalls, frame_from, sequence_from, frames_from}
use Rattle.pattern.proofs.Items.{frame_ran}
use Rattle.pattern.proofs.Snippets.{snippet_holds}
use Rattle.frame.proofs.Built.{built_bytes}
use Rattle.pattern.proofs.Frames.{FrameOutcome, frame_outcome}
use Rattle.pattern.proofs.Sequences.{sequence_holds}
use Rattle.assemble.specs.Lists.{groups_of}
use Rattle.assemble.specs.Items.{snippet_item, sequence_item, WholeItems}
use Rattle.assemble.proofs.Assembly.{Three, three}

-- what building tells
built_told : {I B : Type 0} (bytes : I → List ℕ) (n : ℕ) (none item : I) (b : B) (t : Bool) → 0 < n
    → let r = cond t (built n none b) (built 0 item b) in told_by r.number (bytes r.item) ≡ cond t (refuses n) (gives (bytes item))
built_told bytes n none item b true h = simp (lt-ltb 0 n h)
built_told bytes n none item b false h = refl

-- a sequence has bytes exactly if it has frames
frames_some : (fs : List FrameBuilder) (n : ℕ) → n ≡ length (frames_bytes fs) → ltb n 1 ≡ ltb (length fs) 1
frames_some [] n e = ap (λ (k : ℕ). ltb k 1) e
frames_some (f ∷ fs) n e = le-ltb n 1 (omega (arith, e, length-append (bytes_of f) (frames_bytes fs))) ∙ sym (le-ltb (length (f ∷ fs)) 1 (omega arith))

-- a frame that is begun is built of its fields
module _ (m : FrameCalls) where
  frame_told : (t : Told FrameBuilder) → FrameOutcome m t → Three t
      → on_told (frame_begun (on_told t (λ f. Some (frame_ran f m.calls)) (λ n. None))) (λ f. gives (frame_bytes (built_frame f))) refuses
      ≡ on_told t (λ f. gives (bytes_of (frame_from m))) refuses
  frame_told (gives f) w h = ap gives (built_bytes (frame_ran f m.calls) ∙ ap bytes_of w.0)
  frame_told (refuses n) w h = ap refuses (sym h)

module _ (calls : List ℕ) where
  whole_snippet : let ps = points_from (groups_of calls).snippet in snippet_item calls ≡ cond (ltb (length ps) 1) (refuses 9) (gives (map byte_of ps))
  whole_snippet =
      let b = snippet_from (groups_of calls).snippet in
      let h = (snippet_holds (groups_of calls).snippet).shows in
      let shown = take-map pwl_byte b.len b.points ∙ h.shown in
      built_told snippet_bytes 9 no_snippet (record { points = b.points; len = b.len }) b (ltb b.len 1) (omega arith) ∙ (λ i. cond (ltb (h.counted i) 1) (refuses 9) (gives (shown i)))

  whole_sequence : let fs = frames_from (groups_of calls).sequence in sequence_item calls ≡ cond (ltb (length fs) 1) (refuses 10) (gives (frames_bytes fs))
  whole_sequence =
      let b = sequence_from (groups_of calls).sequence in
      let h = sequence_holds (groups_of calls).sequence in
      let some = frames_some (frames_from (groups_of calls).sequence) b.len h.counted in
      built_told sequence_bytes 10 no_sequence (record { «data» = b.«data»; len = b.len }) b (ltb b.len 1) (omega arith) ∙ (λ i. cond (some i) (refuses 10) (gives (h.shown i)))

  pub whole_items : WholeItems calls
  whole_items =
      let m = (groups_of calls).frame in
      record {
        snippet = whole_snippet;
        frame = frame_told m (begun_by m.begin) (frame_outcome m.begin m.calls) (three m.begin);
        sequence = whole_sequence;
      }
