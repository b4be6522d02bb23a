-- What the code runs call by call answers and leaves what the calls, told apart by their builders, do: one call, then a list.
-- Assumes nothing.
use Rattle.std.specs.Prelude.{Option, Some, None}
use mathlib.Core.Path.{◌≡◌, refl, sym, ap, ap₂, ◌∙◌}
use mathlib.Core.Bool.{Bool, true, false, cond}
use mathlib.Core.List.{List, [], ◌∷◌, ◌++◌}
use Prim.Native.Nat.{ℕ}
use lib.Dec.{ltb}
use Rattle.errors.specs.Told.{Told, gives, refuses, on_told, Handed, handed, refused}
use Rattle.snippet.specs.declared.SnippetBuilder.{SnippetBuilder}
use Rattle.snippet.specs.Snippet.{new_snippet}
use Rattle.frame.specs.declared.FrameBuilder.{FrameBuilder}
use Rattle.frame.specs.Builder.{plain_frame}
use Rattle.frame.specs.Frame.{built_frame}
use Rattle.sequence.specs.declared.SequenceBuilder.{SequenceBuilder}
use Rattle.sequence.specs.Sequence.{new_sequence, with_frame}
use Rattle.calls.specs.Said.{Call}
use Rattle.calls.specs.Said as Call
use Rattle.calls.specs.declared.Builders.{Builders}
use Rattle.calls.specs.Calls.{calls_in, builders, frame_begun, uses}
use Rattle.memory.specs.declared.WaveformMemoryBuilder.{WaveformMemoryBuilder}
use Rattle.memory.specs.Memory.{new_memory}
use Rattle.pattern.specs.Calls.{ran, answers_to, snippet_step, snippet_from, FrameCall, frame_step, Begin, new, silence, begun_by, FrameCalls, sequence_step, sequence_from, MemoryCall, add_snippet, add_sequence, memory_step, memory_from}
use Rattle.pattern.proofs.Items.{frame_ran, answer_on, with_made_frame}
use Rattle.pattern.proofs.Runs.{ran_append}
use Rattle.assemble.specs.Lists.{Groups, no_frame, no_groups, left_by, grouped, groups_of, answers_of, builders_in, builders_of}
use Rattle.assemble.specs.Flat.{State, state, flat_called}
use Rattle.assemble.proofs.Flat.{nothing_yet, flat_after, flat_answers}

-- the frame under construction that calls make
abbrev pub under_way : List FrameCall → Told FrameBuilder → Option FrameBuilder
under_way ks t = on_told t (λ f. Some (frame_ran f ks)) (λ n. None)

abbrev frame_in : FrameCalls → Option FrameBuilder
frame_in m = under_way m.calls (begun_by m.begin)

-- the builders that the calls of each make
abbrev mirror : Groups → State
mirror g = state (builders_in g) (memory_from false g.memory)

abbrev mirrored : Handed Groups → Handed State
mirrored r = record { number = r.number; builder = mirror r.builder }

-- a `new` is refused with 3 only
abbrev pub Three : Told FrameBuilder → Type 0
Three (gives f) = Unit
Three (refuses n) = n ≡ 3

pub three : (b : Begin) → Three (begun_by b)
three silence = tt
three (new k) = go (ltb k 1) (ltb 15 k) where
  go : (t u : Bool) → Three (cond t (refuses 3) (cond u (refuses 3) (gives (plain_frame k))))
  go true u = refl
  go false true = refl
  go false false = tt

-- ---- one call

module _ (g : Groups) where
  abbrev b : Builders
  b = (mirror g).builders

  abbrev on_frame : ℕ → Option FrameBuilder → Handed Builders
  on_frame n f = handed n (builders b.snippet f b.sequence)

  -- a call on the frame
  abbrev sets : FrameCall → Option FrameBuilder → Handed Builders
  sets k u = on_told (frame_begun u) (λ f. on_frame (frame_step f k).number (Some (frame_step f k).builder)) (λ n. refused n b)

  set_call : (k : FrameCall) (ks : List FrameCall) (t : Told FrameBuilder) → Three t → b.frame ≡ under_way ks t
      → sets k (under_way ks t) ≡ on_frame (answer_on t ks k) (under_way (ks ++ (k ∷ [])) t)
  set_call k ks (gives f) h e = ap (λ (x : FrameBuilder). on_frame (frame_step (frame_ran f ks) k).number (Some x)) (ran_append frame_step f ks (k ∷ []))
  set_call k ks (refuses n) h e = ap₂ on_frame (sym h) e

  -- the frame added
  abbrev added : Handed SequenceBuilder → Option FrameBuilder → Handed Builders
  added r f = record { number = r.number; builder = record { snippet = b.snippet; frame = f; sequence = r.builder } }

  frame_left : (t : Bool) → cond t (frame_in g.frame) None ≡ frame_in (cond t g.frame no_frame)
  frame_left true = refl
  frame_left false = refl

  abbrev adds : Option FrameBuilder → Handed Builders
  adds u = on_told (frame_begun u) (λ f. uses b (with_frame b.sequence (built_frame f))) (λ n. refused n b)

  add_call : (t : Told FrameBuilder) → Three t → b.frame ≡ under_way g.frame.calls t
      → adds (under_way g.frame.calls t)
      ≡ added (with_made_frame b.sequence g.frame.calls t) (frame_in (left_by (with_made_frame b.sequence g.frame.calls t).number no_frame g.frame))
  add_call (gives f) h e =
      let r = with_frame b.sequence (built_frame (frame_ran f g.frame.calls)) in
      ap (added r) (frame_left (ltb 0 r.number))
  add_call (refuses n) h e = ap (λ (j : ℕ). added (record { number = j; builder = b.sequence }) (frame_in (left_by j no_frame g.frame))) (sym h)

  snippet_left : (t : Bool) → cond t (snippet_from g.snippet) new_snippet ≡ snippet_from (cond t g.snippet [])
  snippet_left true = refl
  snippet_left false = refl

  sequence_left : (t : Bool) → cond t (sequence_from g.sequence) new_sequence ≡ sequence_from (cond t g.sequence [])
  sequence_left true = refl
  sequence_left false = refl

  memory_more : (k : MemoryCall) → (memory_step (mirror g).memory k).builder ≡ memory_from false (g.memory ++ (k ∷ []))
  memory_more k = ran_append memory_step (new_memory false) g.memory (k ∷ [])

  abbrev over_memory : Handed Builders → Handed State
  over_memory r = handed r.number (state r.builder (mirror g).memory)

  one_call : (k : Call) → flat_called (mirror g) k ≡ mirrored (grouped g k)
  one_call (Call.builder Call.snippet_new) = refl
  one_call (Call.builder (Call.on_snippet k)) =
      ap (λ (s : SnippetBuilder). over_memory (handed (snippet_step b.snippet k).number (builders s b.frame b.sequence))) (ran_append snippet_step new_snippet g.snippet (k ∷ []))
  one_call (Call.builder (Call.begin_frame k)) = refl
  one_call (Call.builder (Call.on_frame k)) =
      ap over_memory (set_call k g.frame.calls (begun_by g.frame.begin) (three g.frame.begin) refl)
  one_call (Call.builder Call.sequence_new) = refl
  one_call (Call.builder Call.add_frame) =
      ap over_memory (add_call (begun_by g.frame.begin) (three g.frame.begin) refl)
      ∙ ap (λ (q : SequenceBuilder). mirrored_with q) (ran_append sequence_step new_sequence g.sequence (g.frame ∷ [])) where
        mirrored_with : SequenceBuilder → Handed State
        mirrored_with q =
            let r = grouped g (Call.builder Call.add_frame) in
            over_memory (handed r.number (builders b.snippet (frame_in r.builder.frame) q))
  one_call Call.add_snippet =
      let r = grouped g Call.add_snippet in
      ap₂ (λ (s : SnippetBuilder) (m : WaveformMemoryBuilder). record { number = r.number; builder = state (builders s b.frame b.sequence) m })
      (snippet_left (ltb 0 r.number)) (memory_more (add_snippet g.snippet))
  one_call Call.add_sequence =
      let r = grouped g Call.add_sequence in
      ap₂ (λ (q : SequenceBuilder) (m : WaveformMemoryBuilder). record { number = r.number; builder = state (builders b.snippet b.frame q) m })
      (sequence_left (ltb 0 r.number)) (memory_more (add_sequence g.sequence))
  one_call Call.unknown = refl

-- ---- a list of calls

all_after : (ks : List Call) (g : Groups) → flat_after (mirror g) ks ≡ mirror (ran grouped g ks)
unfolding flat_after
all_after [] g = refl
all_after (k ∷ ks) g = ap (λ (r : Handed State). flat_after r.builder ks) (one_call g k) ∙ all_after ks (grouped g k).builder

all_answers : (ks : List Call) (g : Groups) → flat_answers (mirror g) ks ≡ answers_to grouped g ks
unfolding flat_answers
all_answers [] g = refl
all_answers (k ∷ ks) g =
    ap (λ (r : Handed State). r.number ∷ flat_answers r.builder ks) (one_call g k)
    ∙ ap (λ (l : List ℕ). (grouped g k).number ∷ l) (all_answers ks (grouped g k).builder)

-- the run is what the definitions say
module _ (l : List ℕ) where
  pub answers_from : flat_answers nothing_yet (calls_in l) ≡ answers_of l
  unfolding answers_of
  answers_from = all_answers (calls_in l) no_groups

  pub builders_from : (flat_after nothing_yet (calls_in l)).builders ≡ builders_of l
  unfolding groups_of
  builders_from = ap (λ (s : State). s.builders) (all_after (calls_in l) no_groups)

  pub memory_from_lem : (flat_after nothing_yet (calls_in l)).memory ≡ memory_from false (groups_of l).memory
  unfolding groups_of
  memory_from_lem = ap (λ (s : State). s.memory) (all_after (calls_in l) no_groups)
