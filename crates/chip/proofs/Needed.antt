-- A memory that is locked at the start: a run that unlocks it and is cut after five bytes, then one that does not unlock it, against one alone that does
-- not. Assumes nothing.
use Rattle.std.proofs.Common.{ℕ, ◌≡◌, ◌∙◌, inr, refl, sym, ap, true, false, List, [], ◌∷◌, replicate, get_or, arith}
use Rattle.config.specs.declared.Variant.TheVariants.{DA7280}
use Rattle.memory.specs.declared.WaveformMemory.{WaveformMemory}
use Rattle.da728x.specs.declared.DA728x.{DA728x}
use Rattle.driver.specs.Operations.{new_record}
use Rattle.chip.specs.declared.Chip.{Chip}
use Rattle.chip.specs.Runs.{AnyRun, running, after_run, after_runs}
use Rattle.chip.specs.Repeated.{Sized, CutTo}
use Rattle.chip.specs.General.{Needed}
use Rattle.chip.proofs.Stores.{front, at, length_front}
use Rattle.chip.proofs.One.{one}
use Rattle.chip.proofs.General.{Undisturbed, undisturbed}
use Rattle.chip.proofs.Reaches.{cut_front}

abbrev m : WaveformMemory
m = record { «data» = 1 ∷ replicate 99 1; len = 8; num_snippets = 0; num_sequences = 0 }

abbrev c : Chip
c = record { address = 0x4A; bytes = replicate 100 0; unlocked = false }

abbrev r : DA728x
r = new_record 0x4A DA7280

abbrev st : List ℕ
st = replicate 280 0

z : Sized m c
z = (refl, refl)

-- the run that does not unlock
abbrev bare : AnyRun
bare = record { unlocks = false; run = record { driver = r; session = st; attempts = []; last_tries = [] } }

whole : Undisturbed (running m false bare)
whole = undisturbed m false bare refl refl

abbrev last : AnyRun
last = record { unlocks = false; run = record { driver = r; session = st; attempts = whole.0; last_tries = [] } }

cut : CutTo (running m false (record { unlocks = true; run = record { driver = r; session = st; attempts = []; last_tries = [] } })) c (at c m.«data» 5)
cut = cut_front m false r st refl refl c refl refl 5 (omega arith)

abbrev cut_run : AnyRun
cut_run = record { unlocks = true; run = record { driver = r; session = st; attempts = cut.attempts; last_tries = cut.part ∷ [] } }

pub needed : Needed
needed claim =
    let d = at c m.«data» 5 in
    let e : (after_runs m false c (cut_run ∷ last ∷ [])).bytes ≡ front m.«data» d.bytes 8 =
    ap (λ (a : Chip). (after_run m false a last).bytes) cut.stopped
    ∙ ap (λ (a : Chip). a.bytes) ((one m false d last (refl, length_front m.«data» c.bytes refl refl 5 (omega arith))).whole refl whole.2 (inr refl)) in
    let f : (after_run m false c last).bytes ≡ c.bytes = ap (λ (a : Chip). a.bytes) ((one m false c last z).shut refl refl) in
    let g = sym e ∙ claim m false c (cut_run ∷ []) last last z (refl, whole.2) (refl, whole.2) refl refl ∙ f in
    absurd (omega (arith, ap (λ (l : List ℕ). get_or l 0 0) g))
