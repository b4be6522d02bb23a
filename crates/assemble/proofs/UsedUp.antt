-- What a call finds. Assumes nothing.
use Rattle.std.specs.Prelude.{Option, Some}
use mathlib.Core.Path.{◌≡◌, refl, sym, ap, ◌∙◌}
use mathlib.Core.Bool.{false}
use mathlib.Core.List.{List, [], ◌∷◌, ◌++◌}
use Prim.Native.Nat.{ℕ, ◌<◌}
use native.Mathlib.Omega.{arith}
use borrow.Author.Tests.{lt-ltb}
use Rattle.errors.specs.Told.{Told, gives, refuses, told_number}
use Rattle.snippet.specs.declared.SnippetBuilder.{SnippetBuilder}
use Rattle.snippet.specs.Snippet.{new_snippet, built_snippet}
use Rattle.frame.specs.declared.FrameBuilder.{FrameBuilder}
use Rattle.sequence.specs.Sequence.{new_sequence, built_sequence}
use Rattle.frame.specs.declared.Gain.TheVariants.{Full}
use Rattle.calls.specs.Said.{Call}
use Rattle.calls.specs.Said as Call
use Rattle.calls.specs.declared.Builders.{Builders}
use Rattle.memory.specs.Memory.{new_memory}
use Rattle.pattern.specs.Calls.{SnippetCall, snippet_step, snippet_from, FrameCall, gain, frame_step, Begin, begun_by, FrameCalls, sequence_step, sequence_from, MemoryCall, add_snippet, add_sequence, memory_step, memory_from}
use Rattle.pattern.proofs.Items.{frame_ran, answer_on, with_made_frame, with_built_snippet, with_built_sequence}
use Rattle.pattern.proofs.Runs.{ran_append}
use Rattle.assemble.specs.Lists.{Groups, no_frame, no_groups, left_by, grouped, builders_in}
use Rattle.assemble.specs.UsedUp.{NotBegun, Unchanged, UsedUp}
use Rattle.assemble.proofs.Assembly.{under_way, three}
use Rattle.assemble.proofs.Steps.{snippet_answers, frame_answers, sequence_answers, memory_answers}

-- ---- the builders after a refused call

-- a frame under construction, after a call on it that was refused
frame_left : (t : Told FrameBuilder) (ks : List FrameCall) (k : FrameCall) → 0 < answer_on t ks k → under_way (ks ++ (k ∷ [])) t ≡ under_way ks t
frame_left (gives f) ks k h = ap Some (sym (ran_append frame_step f ks (k ∷ [])) ∙ (frame_answers (frame_ran f ks) k).1 h)
frame_left (refuses n) ks k h = refl

-- an item that was refused stays
stays : {A : Type 0} (n : ℕ) (fresh item : A) → 0 < n → left_by n fresh item ≡ item
stays n fresh item h = simp (lt-ltb 0 n h)

module _ (g : Groups) where
  abbrev b : Builders
  b = builders_in g

  memory_left : (k : MemoryCall) → 0 < (memory_step (memory_from false g.memory) k).number → memory_from false (g.memory ++ (k ∷ [])) ≡ memory_from false g.memory
  memory_left k h = sym (ran_append memory_step (new_memory false) g.memory (k ∷ [])) ∙ (memory_answers (memory_from false g.memory) k).1 h

  left : (k : Call) → ((b : Begin) → ¬ (k ≡ Call.builder (Call.begin_frame b))) → 0 < (grouped g k).number → Unchanged g (grouped g k).builder
  left (Call.builder Call.snippet_new) d h = absurd (omega arith)
  left (Call.builder (Call.on_snippet k)) d h =
      let e = sym (ran_append snippet_step new_snippet g.snippet (k ∷ [])) ∙ (snippet_answers b.snippet k).1 h in
      record { builders = ap (λ (s : SnippetBuilder). record { snippet = s; frame = b.frame; sequence = b.sequence }) e; memory = refl }
  left (Call.builder (Call.begin_frame k)) d h = absurd (d k refl)
  left (Call.builder (Call.on_frame k)) d h =
      let e = frame_left (begun_by g.frame.begin) g.frame.calls k h in
      record { builders = ap (λ (f : Option FrameBuilder). record { snippet = b.snippet; frame = f; sequence = b.sequence }) e; memory = refl }
  left (Call.builder Call.sequence_new) d h = absurd (omega arith)
  left (Call.builder Call.add_frame) d h =
      let e = sym (ran_append sequence_step new_sequence g.sequence (g.frame ∷ [])) ∙ (sequence_answers b.sequence g.frame.calls (begun_by g.frame.begin) (three g.frame.begin)).1 h in
      let f = stays (grouped g (Call.builder Call.add_frame)).number no_frame g.frame h in
      record { builders = λ i. record { snippet = b.snippet; frame = under_way (f i).calls (begun_by (f i).begin); sequence = e i }; memory = refl }
  left Call.add_snippet d h =
      let s = stays (grouped g Call.add_snippet).number [] g.snippet h in
      record { builders = ap (λ (x : List SnippetCall). record { snippet = snippet_from x; frame = b.frame; sequence = b.sequence }) s; memory = memory_left (add_snippet g.snippet) h }
  left Call.add_sequence d h =
      let s = stays (grouped g Call.add_sequence).number [] g.sequence h in
      record { builders = ap (λ (x : List FrameCalls). record { snippet = b.snippet; frame = b.frame; sequence = sequence_from x }) s; memory = memory_left (add_sequence g.sequence) h }
  left Call.unknown d h = record { builders = refl; memory = refl }

-- ---- no frame is begun

none_begun : (g : Groups) → (n : ℕ) → begun_by g.frame.begin ≡ refuses n → NotBegun g
none_begun g n e =
    let h = three g.frame.begin in
    let k : n ≡ 3 = rw e at h in
    record {
      fields = λ j. ap (λ (t : Told FrameBuilder). answer_on t g.frame.calls j) e ∙ k;
      adding = ap (λ (t : Told FrameBuilder). (with_made_frame (sequence_from g.sequence) g.frame.calls t).number) e ∙ k;
    }

refused_new_lem : (g : Groups) (b : Begin) → 0 < told_number (begun_by b) → NotBegun (grouped g (Call.builder (Call.begin_frame b))).builder
refused_new_lem g b h = go (begun_by b) refl h where
  go : (t : Told FrameBuilder) → begun_by b ≡ t → 0 < told_number t → NotBegun (grouped g (Call.builder (Call.begin_frame b))).builder
  go (gives f) e k = absurd (omega arith)
  go (refuses m) e k = none_begun (grouped g (Call.builder (Call.begin_frame b))).builder m e

-- a frame that answers 3 to a call that sets its gain is not begun
abbrev Refused : Told FrameBuilder → Type 0
Refused (gives f) = ⊥
Refused (refuses n) = Unit

not_begun : (t : Told FrameBuilder) (ks : List FrameCall) → answer_on t ks (gain Full) ≡ 3 → Refused t
not_begun (gives f) ks e = let z : ◌≡◌ {A = ℕ} 0 3 = e in absurd (omega arith)
not_begun (refuses n) ks e = tt

still : (g h : Groups) → NotBegun g → h.frame.begin ≡ g.frame.begin → NotBegun h
still g h w e = go (begun_by g.frame.begin) refl (not_begun (begun_by g.frame.begin) g.frame.calls (w.fields (gain Full))) where
  go : (t : Told FrameBuilder) → begun_by g.frame.begin ≡ t → Refused t → NotBegun h
  go (gives f) d r = absurd r
  go (refuses n) d r = none_begun h n (ap begun_by e ∙ d)

stays_none : (g : Groups) (k : Call) → NotBegun g → ((b : Begin) → ¬ (k ≡ Call.builder (Call.begin_frame b))) → NotBegun (grouped g k).builder
stays_none g (Call.builder Call.snippet_new) w d = still g _ w refl
stays_none g (Call.builder (Call.on_snippet k)) w d = still g _ w refl
stays_none g (Call.builder (Call.begin_frame b)) w d = absurd (d b refl)
stays_none g (Call.builder (Call.on_frame k)) w d = still g _ w refl
stays_none g (Call.builder Call.sequence_new) w d = still g _ w refl
stays_none g (Call.builder Call.add_frame) w d = still g _ w (ap (λ (n : ℕ). (left_by n no_frame g.frame).begin) w.adding)
stays_none g Call.add_snippet w d = still g _ w refl
stays_none g Call.add_sequence w d = still g _ w refl
stays_none g Call.unknown w d = still g _ w refl

-- what was accepted is used up
used : {A : Type 0} (n : ℕ) (fresh item : A) → n ≡ 0 → left_by n fresh item ≡ fresh
used n fresh item e = simp e

used_frame : (g : Groups) → (grouped g (Call.builder Call.add_frame)).number ≡ 0 → NotBegun (grouped g (Call.builder Call.add_frame)).builder
used_frame g e =
    none_begun (grouped g (Call.builder Call.add_frame)).builder 3
    (ap (λ (m : FrameCalls). begun_by m.begin) (used (grouped g (Call.builder Call.add_frame)).number no_frame g.frame e))

pub used_up : UsedUp
used_up =
    record {
      begins = none_begun no_groups 3 refl;
      refused_new = refused_new_lem;
      stays = stays_none;
      frames = used_frame;
      snippets = λ g e.
          ap (λ (s : List SnippetCall). (with_built_snippet (memory_from false (g.memory ++ (add_snippet g.snippet ∷ []))) (built_snippet (snippet_from s))).number)
          (used (grouped g Call.add_snippet).number [] g.snippet e);
      sequences = λ g e.
          ap (λ (s : List FrameCalls). (with_built_sequence (memory_from false (g.memory ++ (add_sequence g.sequence ∷ []))) (built_sequence (sequence_from s))).number)
          (used (grouped g Call.add_sequence).number [] g.sequence e);
      refusals = left;
    }
