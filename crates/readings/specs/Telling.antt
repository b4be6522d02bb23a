-- No two answers of this crate are confused: an answer that is a value is not that of a refusal, and images that are answered alike are
-- read alike. Demand 3, "it returns lists that the builders admit and whose image those bytes are": they reach the caller.
use Rattle.std.specs.Prelude.{◌≡◌, ◌+◌, List, ◌++◌, map, ℕ, ◌<◌, ◌≤◌, length, drop}
use Rattle.std.proofs.Math.Option.{Option, none, some}
use Rattle.std.proofs.Math.ListN.{get_elem?}
use Rattle.laws.specs.Bytes.{Bytes}
use Rattle.laws.specs.Whole.{whole_out}
use Rattle.errors.specs.Packed.{packed, Room}
use Rattle.errors.specs.Told.{Told, refuses}
use Rattle.content.specs.Content.{Content, point_bytes, frames_bytes}
use Rattle.content.specs.ReadImage.{read_image}
use Rattle.readings.specs.InPlace.{item_at}
use Rattle.readings.specs.Readings.{counts_answer, point_answer, frame_answer}
use Rattle.readings.specs.Lists.{lists_of, lists_item, lists_answer}

-- what is answered of two slices is the same number
abbrev pub Alike : ℕ → (Option Content → Told ℕ) → List ℕ → List ℕ → Type 0
Alike bits answer l k = packed bits (answer (read_image l)) ≡ packed bits (answer (read_image k))

pub record ReadingsTold : Type 0 where
  -- each answer has room in its number, so that a refusal is told apart from every value (errors/proofs/Packed.antt)
  pub counts : (l : List ℕ) → Bytes l → Room 16 (counts_answer (read_image l))
  pub point : (l : List ℕ) → Bytes l → (i j : ℕ) → Room 16 (point_answer (read_image l) i j)
  pub frame : (l : List ℕ) → Bytes l → (i j : ℕ) → Room 56 (frame_answer (read_image l) i j)
  pub lists : (l : List ℕ) → Bytes l → (out : List ℕ) → Room 16 (lists_answer out (read_image l))
  -- item by item
  pub readings : (l k : List ℕ) → Bytes l → Bytes k → Alike 16 counts_answer l k → ((i j : ℕ) → Alike 16 (λ o. point_answer o i j) l k)
      → ((i j : ℕ) → Alike 56 (λ o. frame_answer o i j) l k) → read_image l ≡ read_image k
  -- all lists at once, into a buffer that is long enough
  pub listings : (l k out : List ℕ) → Bytes l → Bytes k → 703 ≤ length out → Alike 16 (lists_answer out) l k
      → whole_out out (lists_item (read_image l)) ≡ whole_out out (lists_item (read_image k)) → read_image l ≡ read_image k
  -- the buffer and the answer then, in a shorter one, and where there is no image
  pub listed : (l : List ℕ) → Bytes l → (out : List ℕ) (c : Content) → read_image l ≡ some c → 703 ≤ length out
      → (lists_answer out (some c) ≡ counts_answer (some c)) × (whole_out out (lists_item (some c)) ≡ lists_of c ++ drop 703 out)
  pub short : (l : List ℕ) → Bytes l → (out : List ℕ) (c : Content) → read_image l ≡ some c → length out < 703
      → (lists_answer out (some c) ≡ refuses 24) × (whole_out out (lists_item (some c)) ≡ out)
  pub unread : (out : List ℕ) → (lists_answer out none ≡ refuses 18) × (whole_out out (lists_item none) ≡ out)
  -- nor is anything else told of it
  pub refused : (counts_answer none ≡ refuses 18) × ((i j : ℕ) → (point_answer none i j ≡ refuses 18) × (frame_answer none i j ≡ refuses 18))
  -- the bytes of the k-th item are those of the k-th snippet, or of a sequence behind the snippets
  pub items : (l : List ℕ) → Bytes l → (c : Content) → read_image l ≡ some c → (k : ℕ) → k < length c.snippets + length c.sequences
      → get_elem? (map point_bytes c.snippets ++ map frames_bytes c.sequences) k ≡ some (item_at l k)
