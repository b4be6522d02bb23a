-- An image read where it stands: `header` and `item`, and what private contracts cite, here, of `page` and of `merge`. proofs/Fitting.antt: what is
-- found to be an image is what `read_image` reads; proofs/Standing.antt and InPlace.antt: where its items stand.
use Rattle.std.specs.Prelude.{ℕ, Result, Ok, Err, zero, suc, ◌+◌, ◌≡◌, Bool, true, false, cond, ◌&&◌, List, [], ◌∷◌, leb, length, get_or}
use Rattle.std.specs.declared.option.Option as rust
use Rattle.std.proofs.Math.Option.{Option, none, some}
use Rattle.std.proofs.Math.ListN.{get_elem?}
use Rattle.errors.specs.declared.Error.{Error}
use Rattle.frame.specs.declared.FrameBuilder.{FrameBuilder}
use Rattle.content.specs.Content.{Content}
use Rattle.content.specs.ReadImage.{read_frames}
use Rattle.reader.specs.Walk.{item, frames_from}
use Rattle.reader.specs.Items.{at_told}

-- whether there is one
abbrev pub present : {A : Type 0} → Option A → Bool
present none = false
present (some a) = true

-- ---- whether bytes are an image

-- the bytes of a sequence
abbrev pub sequence_fits : List ℕ → Bool
sequence_fits bs = leb 1 (length bs) && present (read_frames 32 bs)

-- the same state, where an item fits
abbrev pub kept : {S : Type 0} → Bool → S → Option S
kept fits o = cond fits (some o) none

-- the numbers of snippets and sequences, or NotAnImage
abbrev pub header_of : Option Content → Result (ℕ × ℕ) Error
header_of none = Err Error.NotAnImage
header_of (some c) = Ok (length c.snippets, length c.sequences)

-- ---- where an image's items stand, snippets and sequences counted together

-- the index of the byte before the k-th item
abbrev pub before_item : List ℕ → ℕ → ℕ
before_item image zero = 1 + get_or image 0 0 + get_or image 1 0
before_item image (suc k) = get_or image (2 + k) 0

-- the bytes behind that index, up to the k-th pointer
unfoldable pub item_at : List ℕ → ℕ → List ℕ
item_at image k = item image (before_item image k) (get_or image (2 + k) 0)

-- the j-th frame, where the bytes are frames
abbrev pub NthFrame : List ℕ → ℕ → rust.Option FrameBuilder → Type 0
NthFrame bs j r = (fs : List FrameBuilder) → read_frames 32 bs ≡ some fs → at_told r ≡ get_elem? fs j

-- n items from the k-th on
abbrev pub items_at : List ℕ → ℕ → ℕ → List (List ℕ)
items_at image k zero = []
items_at image k (suc n) = item_at image k ∷ items_at image (suc k) n

-- those that were not refused
abbrev pub those : List (Result FrameBuilder Error) → List FrameBuilder
those [] = []
those (Ok f ∷ rs) = f ∷ those rs
those (Err e ∷ rs) = those rs

-- the frames that bytes are
abbrev pub frames_in : List ℕ → List FrameBuilder
frames_in bytes = those (frames_from 32 bytes)
