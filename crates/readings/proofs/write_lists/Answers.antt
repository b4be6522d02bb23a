-- By what the reader answers, and whether the lists have room.
use Rattle.std.specs.Prelude.{Ok, Err}
use mathlib.Core.Path.{◌≡◌, refl, ap, ◌∙◌}
use mathlib.Core.List.{List, ◌++◌, map}
use mathlib.Core.Option.{Option, none, some}
use Prim.Native.Nat.{ℕ, ◌+◌, ◌*◌, ◌-◌}
use mathlib.Core.Bool.{Bool, true, false, cond}
use lib.Dec.{ltb}
use lib.ListN.{length, replicate, length-map}
use lib.Seq.{take_at}
use Rattle.laws.specs.Whole.{whole, whole_out, length_of}
use Rattle.laws.specs.Lists.{joined}
use Rattle.errors.specs.Told.{Told, gives, refuses, on_told}
use Rattle.frame.specs.declared.FrameBuilder.{FrameBuilder}
use Rattle.frame.specs.Builder.{silent_frame}
use Rattle.memory.specs.Image.{end_pointers}
use Rattle.content.specs.Content.{Content, point_bytes}
use Rattle.reader.specs.declared.Lists.{Lists}
use Rattle.reader.specs.Reading.{Reading, padded, reading_of}
use Rattle.readings.specs.Readings.{counts_answer}
use Rattle.readings.specs.Lists.{words_bytes, lists_of, lists_item}
use Rattle.readings.specs.Laying.{laid_bytes}
use Rattle.errors.specs.Number.{told}
use Rattle.content.specs.ReadImage.{read_image}
use Rattle.errors.proofs.Passed.{passed}
use Rattle.readings.proofs.write_lists.Goals as goal

-- all lists and the counts of what was read
lists_done : (o : Option Content) (r : Lists) → Ok r ≡ reading_of o
    → (gives (laid_bytes r.snippets r.sequences) ≡ lists_item o) × (gives (r.snippets.count * 256 + r.sequences.count) ≡ counts_answer o)
unfolding lists_of
lists_done none r e = cc
lists_done (some c) r e =
    let x : List (List ℕ) = map point_bytes c.snippets in
    let fs : List FrameBuilder = joined c.sequences in
    let d = ap lists_in e in (
      ap (λ (x : Lists). gives (laid_bytes x.snippets x.sequences)) d
          ∙ ap (λ (y : List FrameBuilder). gives (padded 96 0 (joined x) ++ padded 15 0 (end_pointers 0 x) ++ padded 576 0 (words_bytes y) ++ padded 16 0 (end_pointers 0 c.sequences)))
          (take_at fs (replicate (96 - length fs) silent_frame) (length fs) refl),
      ap (λ (x : Lists). gives (x.snippets.count * 256 + x.sequences.count)) d
          ∙ ap (λ (n : ℕ). gives (n * 256 + length c.sequences)) (length-map c.snippets point_bytes),
    )
  where
    lists_in : Reading → Lists
    lists_in (Ok x) = x
    lists_in (Err y) = r

-- the bytes that were laid
laid_item : (o : Option Content) (r : Lists) (bytes : List ℕ) → bytes ≡ laid_bytes r.snippets r.sequences → Ok r ≡ reading_of o → gives bytes ≡ lists_item o
laid_item o r bytes b e = ap gives b ∙ (lists_done o r e).0

-- what is answered where they were lent to the copying
module _ (out bytes : List ℕ) (counts : Told ℕ) where
  abbrev answer : Told (List ℕ) → Told ℕ
  answer t = on_told t (λ b. counts) refuses

  no_room : (n : ℕ) → refuses n ≡ length_of (whole out (gives bytes)) → refuses n ≡ answer (whole out (gives bytes))
  no_room n e = go (ltb (length out) (length bytes)) e where
    go : (t : Bool) → let w = cond t (refuses 24) (gives bytes) in refuses n ≡ length_of w → refuses n ≡ answer w
    go true k = k
    go false k = cc

  in_room : (n : ℕ) → gives n ≡ length_of (whole out (gives bytes)) → counts ≡ answer (whole out (gives bytes))
  in_room n e = go (ltb (length out) (length bytes)) e where
    go : (t : Bool) → let w = cond t (refuses 24) (gives bytes) in gives n ≡ length_of w → counts ≡ answer w
    go true k = cc
    go false k = refl

pub returns-in_err-copy_whole-clause-answer : goal.returns-in_err-copy_whole-clause-answer
returns-in_err-copy_whole-clause-answer c =
    let o = read_image c.args.image.now in
    let out = c.args.out.now in
    ap told (passed _ c.from_residual-in_err-copy_whole.ensures.1)
    ∙ no_room out c.lay.result (counts_answer o) _ c.in_err-copy_whole.ensures.result_value
    ∙ ap (λ t. on_told (whole out t) (λ b. counts_answer o) refuses) (laid_item _ _ _ c.lay.ensures c.in_ok-lists.ensures.value)

pub returns-in_err-copy_whole-clause-buffer : goal.returns-in_err-copy_whole-clause-buffer
returns-in_err-copy_whole-clause-buffer c =
    c.copy_whole.ensures.buffer_after ∙ ap (whole_out c.args.out.now) (laid_item _ _ _ c.lay.ensures c.in_ok-lists.ensures.value)

pub returns-clause-answer : goal.returns-clause-answer
returns-clause-answer c =
    let o = read_image c.args.image.now in
    let out = c.args.out.now in
    ap gives c.both.ensures ∙ (lists_done o _ c.in_ok-lists.ensures.value).1
    ∙ in_room out c.lay.result (counts_answer o) _ c.in_ok-copy_whole.ensures.result_value
    ∙ ap (λ t. on_told (whole out t) (λ b. counts_answer o) refuses) (laid_item _ _ _ c.lay.ensures c.in_ok-lists.ensures.value)

pub returns-clause-buffer : goal.returns-clause-buffer
returns-clause-buffer c =
    c.copy_whole.ensures.buffer_after ∙ ap (whole_out c.args.out.now) (laid_item _ _ _ c.lay.ensures c.in_ok-lists.ensures.value)
