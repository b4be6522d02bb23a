-- Demand 3 as one claim over all lists of builder calls and all slices of bytes: document 01, 'The hundred bytes', "Demand 3 is one claim
-- about all these lists of calls and all slices, not a claim for each call".
use Rattle.std.specs.Prelude.{ℕ, ◌≡◌, ◌↔◌, Bool, true, false, List, ◌++◌, map, length}
use Rattle.std.proofs.Math.Option.{none, some}
use Rattle.laws.specs.Bytes.{All, Bytes}
use Rattle.frame.specs.declared.FrameBuilder.{FrameBuilder}
use Rattle.frame.specs.Frame.{on_given, has_second}
use Rattle.memory.specs.Memory.{memory_of, built_memory}
use Rattle.content.specs.Content.{Content, point_bytes, frames_bytes, Admitted, image_of, Same}
use Rattle.content.specs.ReadImage.{read_image}
use Rattle.pattern.specs.Calls.{ran, MemoryCall, memory_step, content_from, built_from}

-- a pattern: an acceleration flag and the calls on a memory builder
pub record Pattern : Type 0 where
  pub acceleration : Bool
  pub calls : List MemoryCall

-- its image is built: `build` refuses nothing
abbrev pub IsBuilt : Pattern → Type 0
IsBuilt p = (built_from p.acceleration p.calls).number ≡ 0

abbrev pub image : Pattern → List ℕ
image p = (built_from p.acceleration p.calls).item.«data»

abbrev pub content : Pattern → Content
content p = content_from p.acceleration p.calls

-- lists that the builders admit and whose image those bytes are
abbrev pub ImageOf : List ℕ → Content → Type 0
ImageOf l c = Admitted c × (image_of c ≡ l)

-- "an absent loop count for a one-byte frame, a present one otherwise"
abbrev pub LoopAsRead : FrameBuilder → Type 0
LoopAsRead f = on_given f.loop_count false (λ _. true) ≡ has_second f

pub record Demand3 : Type 0 where
  -- the acceleration flag changes nothing: the refusal and the image are those without it
  pub flag : (a : Bool) (ks : List MemoryCall)
      → ((built_from a ks).number ≡ (built_from false ks).number) × ((built_from a ks).item ≡ (built_from false ks).item)
  -- a built image is a hundred bytes
  pub hundred : (p : Pattern) → IsBuilt p → length (image p) ≡ 100
  -- what its accepted calls added is admitted, and its image is laid out as document 01 says
  pub laid_out : (p : Pattern) → IsBuilt p → ImageOf (image p) (content p)
  -- the length and the counts beside the image are those of that content; an upload sends the first `len` bytes
  pub values : (p : Pattern) → IsBuilt p → let c = content p in
      (built_from p.acceleration p.calls).item ≡ memory_of (map point_bytes c.snippets) (map frames_bytes c.sequences)
  -- "The builders admit ..": what is admitted is what some calls build
  pub admits : (c : Content) → Admitted c → (p : Pattern) × IsBuilt p × (content p ≡ c)
  -- "Two images .. are equal exactly when .." their contents are the same
  pub apart : (p q : Pattern) → IsBuilt p → IsBuilt q → (image p ≡ image q) ↔ Same (content p) (content q)
  -- "it returns lists that the builders admit and whose image those bytes are"
  pub returned : (l : List ℕ) → Bytes l → (c : Content) → read_image l ≡ some c → ImageOf l c
  -- "and refuses exactly when there are no such lists"
  pub refusal : (l : List ℕ) → Bytes l → (read_image l ≡ none) ↔ ¬ ((c : Content) × ImageOf l c)
  -- "The reader returns an absent loop count for a one-byte frame, a present one otherwise"
  pub loops_read : (l : List ℕ) → Bytes l → (c : Content) → read_image l ≡ some c → All (All LoopAsRead) c.sequences
  -- a `build`, refused or not, hands back its builder as it came in: more calls on it add to what was added before
  pub goes_on : (a : Bool) (ks js : List MemoryCall)
      → built_memory (ran memory_step (built_from a ks).builder js) ≡ built_from a (ks ++ js)
  -- every built image is read back to the same content
  pub read_back : (p : Pattern) → IsBuilt p → (c : Content) × (read_image (image p) ≡ some c) × Same (content p) c
