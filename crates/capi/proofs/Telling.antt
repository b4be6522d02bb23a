-- Every packed answer has room, so one law tells them apart. Assumes nothing.
use mathlib.Core.Path.{◌≡◌, refl}
use mathlib.Core.Bool.{Bool, true, false, cond}
use Prim.Native.Nat.{ℕ, ◌≤◌, ◌<◌}
use native.Mathlib.Omega.{arith}
use borrow.Author.Tests.{ltb-false}
use lib.Dec.{ltb}
use Rattle.errors.specs.Told.{Told, gives, refuses}
use Rattle.errors.specs.Packed.{Room}
use Rattle.errors.proofs.Packed.{packed_apart}
use Rattle.laws.proofs.Whole.{whole_or_nothing}
use Rattle.snippet.specs.Point.{point_byte, point}
use Rattle.readings.proofs.Telling.{readings_told}
use Rattle.page.proofs.Long.{page_room}
use Rattle.page.proofs.Printed.{page}
use Rattle.merge.proofs.Merging.{merge}
use Rattle.assemble.specs.Items.{snippet_item, frame_item, sequence_item}
use Rattle.assemble.proofs.Items.{whole_items}
use Rattle.assemble.proofs.Strict.{assembled, strict}
use Rattle.capi.proofs.Words.{item_room, few_snippet, few_frame, few_sequence}
use Rattle.capi.specs.Telling.{Tells, Telling}

tells : {A : Type 0} (bits : ℕ) (answer : A → Told ℕ) → ((x : A) → Room bits (answer x)) → Tells bits answer
tells bits answer room x y = packed_apart bits (answer x) (answer y) (room x) (room y)

point_room : (r : Bool) (t a : ℕ) → Room 8 (point r t a)
point_room r t a = go (ltb t 1) (ltb 8 t) (ltb 15 a) refl refl refl where
  byte : (b : Bool) → t ≤ 8 → a ≤ 15 → point_byte b t a < 256
  byte true h k = omega arith
  byte false h k = omega arith

  go : (u v w : Bool) → ltb t 1 ≡ u → ltb 8 t ≡ v → ltb 15 a ≡ w → Room 8 (cond u (refuses 1) (cond v (refuses 1) (cond w (refuses 2) (gives (point_byte r t a)))))
  go true v w e f g = omega arith
  go false true w e f g = omega arith
  go false false true e f g = omega arith
  go false false false e f g = byte r (ltb-false 8 t f) (ltb-false 15 a g)

pub telling : Telling
telling =
    record {
      points = tells 8 _ (λ x. point_room x.0 x.1 x.2);
      snippets = tells 16 _ (λ x. item_room x.0 (snippet_item x.1) (few_snippet x.1));
      frames = tells 16 _ (λ x. item_room x.0 (frame_item x.1) (few_frame x.1));
      sequences = tells 16 _ (λ x. item_room x.0 (sequence_item x.1) (few_sequence x.1));
      counts = tells 16 _ (λ x. readings_told.counts x.0 x.1);
      lists = tells 16 _ (λ x. readings_told.lists x.1.0 x.1.1 x.0);
      pages = tells 16 _ (λ x. page_room x.0 x.1.0 x.1.1);
      printed = page;
      merged = merge;
      image_points = λ i j. tells 16 _ (λ x. readings_told.point x.0 x.1 i j);
      image_frames = λ i j. tells 56 _ (λ x. readings_told.frame x.0 x.1 i j);
      images = readings_told;
      assembled = assembled;
      strict = strict;
      items = whole_items;
      whole_or_nothing = whole_or_nothing;
    }
