-- A list of builder calls on one builder of each kind, told apart by the builders that they go to: the lists of calls that demand 3 speaks
-- of (document 01, 'The hundred bytes', second paragraph). Every exported function that takes a list of calls is promised by this.
use Rattle.std.specs.Prelude.{ℕ, suc, ◌+◌, ◌*◌, min, false, cond, List, [], ◌∷◌, ◌++◌, ltb, Some, None}
use Rattle.errors.specs.Told.{on_told, told_number, Handed, handed, Built}
use Rattle.calls.specs.Said.{Call}
use Rattle.calls.specs.Said as Call
use Rattle.calls.specs.declared.Builders.{Builders}
use Rattle.calls.specs.Calls.{calls_in, builders}
use Rattle.memory.specs.declared.WaveformMemory.{WaveformMemory}
use Rattle.memory.specs.declared.WaveformMemoryBuilder.{WaveformMemoryBuilder}
use Rattle.pattern.specs.Calls.{ran, answers_to, SnippetCall, snippet_step, snippet_from, frame_step, new, begun_by, FrameCalls, frame_called, sequence_step, sequence_from, MemoryCall, add_snippet, add_sequence, memory_step, memory_from, built_from}

-- the calls that the snippet, the frame and the sequence under construction got since they were begun, and those that the memory got
pub record Groups : Type 0 where
  pub snippet : List SnippetCall
  pub frame : FrameCalls
  pub sequence : List FrameCalls
  pub memory : List MemoryCall

abbrev pub groups : List SnippetCall → FrameCalls → List FrameCalls → List MemoryCall → Groups
groups s f q m = record { snippet = s; frame = f; sequence = q; memory = m }

-- a frame that was not begun counts as `new` of number 0, which is refused with 3
abbrev pub no_frame : FrameCalls
no_frame = record { begin = new 0; calls = [] }

abbrev pub no_groups : Groups
no_groups = groups [] no_frame [] []

-- ---- one call

-- its number is what its builder answers; what says no call is refused with 14, NotSupported
abbrev pub number_in : Groups → Call → ℕ
number_in g (Call.builder Call.snippet_new) = 0
number_in g (Call.builder (Call.on_snippet k)) = (snippet_step (snippet_from g.snippet) k).number
number_in g (Call.builder (Call.begin_frame b)) = told_number (begun_by b)
number_in g (Call.builder (Call.on_frame k)) = frame_called g.frame k
number_in g (Call.builder Call.sequence_new) = 0
number_in g (Call.builder Call.add_frame) = (sequence_step (sequence_from g.sequence) g.frame).number
number_in g Call.add_snippet = (memory_step (memory_from false g.memory) (add_snippet g.snippet)).number
number_in g Call.add_sequence = (memory_step (memory_from false g.memory) (add_sequence g.sequence)).number
number_in g Call.unknown = 14

-- what is added to another builder: with number n, an accepted one is used up, a refused one stays
module _ {A : Type 0} (n : ℕ) (fresh : A) where
  abbrev pub left_by : A → A
  left_by item = cond (ltb 0 n) item fresh

-- with number n it joins its builder's calls, refused or not; `new`, refused or not, leaves nothing of what was begun before
abbrev pub joining : ℕ → Groups → Call → Groups
joining n g (Call.builder Call.snippet_new) = groups [] g.frame g.sequence g.memory
joining n g (Call.builder (Call.on_snippet k)) = groups (g.snippet ++ (k ∷ [])) g.frame g.sequence g.memory
joining n g (Call.builder (Call.begin_frame b)) = groups g.snippet (record { begin = b; calls = [] }) g.sequence g.memory
joining n g (Call.builder (Call.on_frame k)) =
    groups g.snippet (record { begin = g.frame.begin; calls = g.frame.calls ++ (k ∷ []) }) g.sequence g.memory
joining n g (Call.builder Call.sequence_new) = groups g.snippet g.frame [] g.memory
joining n g (Call.builder Call.add_frame) = groups g.snippet (left_by n no_frame g.frame) (g.sequence ++ (g.frame ∷ [])) g.memory
joining n g Call.add_snippet = groups (left_by n [] g.snippet) g.frame g.sequence (g.memory ++ (add_snippet g.snippet ∷ []))
joining n g Call.add_sequence = groups g.snippet g.frame (left_by n [] g.sequence) (g.memory ++ (add_sequence g.sequence ∷ []))
joining n g Call.unknown = g

abbrev pub grouped : Groups → Call → Handed Groups
grouped g k = handed (number_in g k) (joining (number_in g k) g k)

-- ---- a list of calls as bytes

unfoldable pub groups_of : List ℕ → Groups
groups_of bytes = ran grouped no_groups (calls_in bytes)

-- the answer to each call
unfoldable pub answers_of : List ℕ → List ℕ
answers_of bytes = answers_to grouped no_groups (calls_in bytes)

-- the snippet, the frame and the sequence under construction after the calls
abbrev pub builders_in : Groups → Builders
builders_in g =
    builders (snippet_from g.snippet) (on_told (begun_by g.frame.begin) (λ f. Some (ran frame_step f g.frame.calls)) (λ n. None))
    (sequence_from g.sequence)

abbrev pub builders_of : List ℕ → Builders
builders_of bytes = builders_in (groups_of bytes)

-- what building the memory answers after the calls
abbrev pub built_of : List ℕ → Built WaveformMemory WaveformMemoryBuilder
built_of bytes = built_from false (groups_of bytes).memory

-- ---- a list of calls that stops at the first refusal

-- the last place of a call that has room in an answer
abbrev pub last_place : ℕ
last_place = 16777215

-- the number of a refusal and 256 times its place, counted from 1, where so many calls came before; a later place counts as the last
abbrev pub with_place : ℕ → ℕ → ℕ
with_place number before = number + 256 * min (before + 1) last_place

-- the first answer that is a refusal, with its place, or 0 where there is none; so many answers came before these
abbrev pub first_refused : ℕ → List ℕ → ℕ
first_refused before [] = 0
first_refused before (n ∷ ns) = cond (ltb 0 n) (with_place n before) (first_refused (suc before) ns)
