-- How many lines a page can have: no more than a hundred bytes have items and frames.
-- Assumes nothing.
use Rattle.std.proofs.Common.{◌≡◌, ◌+◌, ◌*◌, ◌≤◌, ◌<◌, ◌∙◌, ℕ, Bool, true, false, cond, List, [], ◌∷◌, map, length, refl, ap, arith}
use Rattle.std.proofs.Math.Option.{Option, none, some}
use lib.ListN.{length-append, length-map}
use Rattle.errors.specs.Told.{gives, refuses}
use Rattle.errors.specs.Packed.{Room}
use Rattle.laws.specs.Bytes.{All, Bytes}
use Rattle.laws.specs.Lists.{joined}
use Rattle.laws.specs.Whole.{whole, length_of}
use Rattle.laws.proofs.Lists.{joined_append, all_map}
use Rattle.frame.specs.declared.FrameBuilder.{FrameBuilder}
use Rattle.frame.specs.Frame.{bytes_of}
use Rattle.content.specs.Content.{Point, Content, byte_of, point_bytes, frames_bytes, Admitted}
use Rattle.content.specs.ReadImage.{read_image}
use Rattle.content.proofs.Admits.{SnippetAdmitted, SequenceAdmitted}
use Rattle.content.proofs.Images.{image_codec}
use Rattle.page.specs.Lines.{page_of, page_item}
use Rattle.page.proofs.Pages.{length_page}

-- of items that are not empty there are no more than their bytes
items_most : {A : Type 0} (xs : List (List A)) → All (λ x. 1 ≤ length x) xs → length xs ≤ length (joined xs)
items_most [] h = omega arith
items_most (x ∷ xs) h = omega (arith, h.0, items_most xs h.1, length-append x (joined xs))

-- nor are there more frames
frames_most : (fs : List FrameBuilder) → length fs ≤ length (frames_bytes fs)
frames_most [] = omega arith
frames_most (f ∷ fs) = omega (arith, frames_most fs, length-append (bytes_of f) (frames_bytes fs))

sequences_most : (qs : List (List FrameBuilder)) → length (joined qs) ≤ length (joined (map frames_bytes qs))
sequences_most [] = omega arith
sequences_most (q ∷ qs) = omega (arith, frames_most q, sequences_most qs, length-append q (joined qs), length-append (frames_bytes q) (joined (map frames_bytes qs)))

frames_fit : (qs : List (List FrameBuilder)) → All SequenceAdmitted qs → length (joined qs) ≤ 32 * length qs
frames_fit [] h = omega arith
frames_fit (q ∷ qs) h = omega (arith, h.0.few, frames_fit qs h.1, length-append q (joined qs))

snippet_some : (ss : List (List Point)) → All SnippetAdmitted ss → All (λ x. 1 ≤ length x) (map point_bytes ss)
snippet_some ss h = all_map (λ x. 1 ≤ length x) point_bytes (λ ps g. omega (arith, g.nonempty, length-map ps byte_of)) ss h

-- each sequence has a frame
abbrev pub Begun : List (List FrameBuilder) → Type 0
Begun qs = All (λ (fs : List FrameBuilder). 1 ≤ length fs) qs

pub begun : (qs : List (List FrameBuilder)) → All SequenceAdmitted qs → Begun qs
begun [] h = tt
begun (x ∷ xs) h = (h.0.nonempty, begun xs h.1)

-- 2 to 94 lines
few_lines : (c : Content) → Admitted c → (2 ≤ length c.snippets + length (joined c.sequences)) × (length c.snippets + length (joined c.sequences) ≤ 94)
few_lines c a =
    let s = map point_bytes c.snippets in
    let q = map frames_bytes c.sequences in
    let bytes = ap length (joined_append s q) ∙ length-append (joined s) (joined q) in (
      omega (arith, a.snippets.nonempty, a.sequences.nonempty, items_most c.sequences (begun c.sequences a.sequences.each)),
      omega (
        arith,
        a.fits,
        a.snippets.nonempty,
        bytes,
        items_most s (snippet_some c.snippets a.snippets.each),
        sequences_most c.sequences,
        frames_fit c.sequences a.sequences.each,
        length-map c.snippets point_bytes,
        length-map c.sequences frames_bytes,
      ),
    )

pub page_most : (c : Content) → Admitted c → (74 ≤ length (page_of c)) × (length (page_of c) ≤ 3478)
page_most c a = let f = few_lines c a in let l = length_page c a in (omega (arith, f.0, l), omega (arith, f.1, l))

-- so its length has room in a number, whatever the buffer
pub page_room : (out l : List ℕ) → Bytes l → Room 16 (length_of (whole out (page_item (read_image l))))
page_room out l h = go (read_image l) refl where
  told : (t : Bool) (bytes : List ℕ) → length bytes ≤ 3478 → Room 16 (length_of (cond t (refuses 24) (gives bytes)))
  told true bytes k = omega arith
  told false bytes k = let n : length bytes < 65536 = omega arith in n

  go : (o : Option Content) → read_image l ≡ o → Room 16 (length_of (whole out (page_item o)))
  go none e = omega arith
  go (some c) e = told _ (page_of c) (page_most c (image_codec.sound l c h e).0).1
