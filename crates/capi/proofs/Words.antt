-- Every item is short or a refusal, so its answer has room in a number. Assumes nothing.
use Rattle.std.specs.Prelude.{Option, Some, None}
use Rattle.frame.specs.declared.FrameBuilder.{FrameBuilder}
use mathlib.Core.Path.{◌≡◌, sym, subst}
use mathlib.Core.Bool.{Bool, true, false, cond}
use mathlib.Core.List.{List, ◌++◌}
use Prim.Native.Nat.{ℕ, ◌<◌, ◌≤◌}
use native.Mathlib.Nat.{min-le_left, min-le_right}
use native.Mathlib.Omega.{arith}
use lib.Dec.{ltb}
use lib.ListN.{length, take, get_or, replicate, length-take, length-map}
use Rattle.laws.specs.Whole.{whole, length_of}
use Rattle.errors.specs.Packed.{Room}
use Rattle.errors.specs.Told.{Told, gives, refuses, on_told}
use Rattle.frame.specs.Frame.{bytes_of, frame_bytes, built_frame}
use Rattle.content.specs.Content.{byte_of, point_bytes, frames_bytes}
use Rattle.laws.proofs.Lists.{bytes_of as bytes_of_list}
use Rattle.content.specs.ReadImage.{read_image}
use Rattle.page.specs.Lines.{page_item}
use Rattle.page.proofs.Long.{page_room}
use Rattle.pattern.specs.Calls.{points_from, frames_from}
use Rattle.pattern.proofs.Snippets.{snippet_holds}
use Rattle.pattern.proofs.Sequences.{sequence_holds}
use Rattle.calls.specs.Calls.{frame_begun}
use Rattle.assemble.specs.Lists.{groups_of, builders_of}
use Rattle.assemble.specs.Items.{snippet_item, frame_item, sequence_item}
use Rattle.assemble.proofs.Items.{whole_items}

-- the bytes of a frame under construction
abbrev frame_under_way : Option FrameBuilder → Told (List ℕ)
frame_under_way u = on_told (frame_begun u) (λ f. gives (frame_bytes (built_frame f))) refuses

-- an item of few bytes, whose length has room in a number, whatever the buffer
abbrev pub Few : Told (List ℕ) → Type 0
Few t = on_told t (λ bytes. length bytes ≤ 96) (λ n. 1 ≤ n)

pub item_room : (out : List ℕ) (t : Told (List ℕ)) → Few t → Room 16 (length_of (whole out t))
item_room out (refuses n) h = h
item_room out (gives bytes) h = go (ltb (length out) (length bytes)) where
  go : (t : Bool) → Room 16 (length_of (cond t (refuses 24) (gives bytes)))
  go true = omega arith
  go false = let k : length bytes < 65536 = omega arith in k

pub answer_room : (out : List ℕ) (t : Told (List ℕ)) (answer : Told ℕ) → Few t → answer ≡ length_of (whole out t) → Room 16 answer
answer_room out t answer h e = subst (Room 16) (sym e) (item_room out t h)

few_told : (t : Bool) (n : ℕ) (bytes : List ℕ) → 1 ≤ n → length bytes ≤ 96 → Few (cond t (refuses n) (gives bytes))
few_told true n bytes h k = h
few_told false n bytes h k = k

pub few_snippet : (calls : List ℕ) → Few (snippet_item calls)
few_snippet calls =
    let ps = points_from (groups_of calls).snippet in
    let h = (snippet_holds (groups_of calls).snippet).shows in
    subst Few (sym (whole_items calls).snippet) (few_told (ltb (length ps) 1) 9 (point_bytes ps) (omega arith) (omega (arith, length-map ps byte_of, h.counted, h.room)))

pub few_sequence : (calls : List ℕ) → Few (sequence_item calls)
few_sequence calls =
    let fs = frames_from (groups_of calls).sequence in
    let h = sequence_holds (groups_of calls).sequence in
    subst Few (sym (whole_items calls).sequence) (few_told (ltb (length fs) 1) 10 (frames_bytes fs) (omega arith) (omega (arith, h.counted, h.room)))

frame_few : (u : Option FrameBuilder) → Few (frame_under_way u)
frame_few None = omega arith
frame_few (Some f) =
    let l : List ℕ = bytes_of f ++ replicate 3 0 in
    let e = length-take (length (bytes_of f)) (take 3 l) in
    let d = length-take 3 l in
    omega (arith, e, d, min-le_right (length (bytes_of f)) (length (take 3 l)), min-le_left 3 (length l))

pub few_frame : (calls : List ℕ) → Few (frame_item calls)
few_frame calls = frame_few (builders_of calls).frame

-- the length of a page has room too
pub page_fits : (l out : List ℕ) (answer : Told ℕ) → ((i : ℕ) → get_or l i 0 < 256) → answer ≡ length_of (whole out (page_item (read_image l))) → Room 16 answer
page_fits l out answer h e = subst (Room 16) (sym e) (page_room out l (bytes_of_list l h))
