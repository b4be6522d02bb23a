-- What a call finds: a frame is begun or not, an accepted add uses up what it added, a refused call leaves what was there. Told by the
-- answers of the calls that follow, whatever calls came before.
use Rattle.std.specs.Prelude.{◌<◌, ◌≡◌, false}
use Rattle.calls.specs.Said.{Call}
use Rattle.calls.specs.Said as Call
use Rattle.pattern.specs.Calls.{FrameCall, Begin, memory_from}
use Rattle.assemble.specs.Lists.{Groups, no_groups, number_in, grouped, builders_in}

-- no frame is begun: every call on it is refused with 3
pub record NotBegun (g : Groups) : Type 0 where
  pub fields : (k : FrameCall) → number_in g (Call.builder (Call.on_frame k)) ≡ 3
  pub adding : number_in g (Call.builder Call.add_frame) ≡ 3

-- the same snippet, frame, sequence and memory under construction
pub record Unchanged (g h : Groups) : Type 0 where
  pub builders : builders_in h ≡ builders_in g
  pub memory : memory_from false h.memory ≡ memory_from false g.memory

pub record UsedUp : Type 0 where
  -- a list begins with no frame
  pub begins : NotBegun no_groups
  -- a refused `new` leaves none
  pub refused_new : (g : Groups) (b : Begin) → let k = Call.builder (Call.begin_frame b) in 0 < number_in g k → NotBegun (grouped g k).builder
  -- and none is begun until a call begins one
  pub stays : (g : Groups) (k : Call) → NotBegun g → ((b : Begin) → ¬ (k ≡ Call.builder (Call.begin_frame b)))
      → NotBegun (grouped g k).builder
  -- a frame, a snippet, a sequence that was accepted is used up: the next has to be begun, or is empty
  pub frames : (g : Groups) → number_in g (Call.builder Call.add_frame) ≡ 0 → NotBegun (grouped g (Call.builder Call.add_frame)).builder
  pub snippets : (g : Groups) → number_in g Call.add_snippet ≡ 0 → number_in (grouped g Call.add_snippet).builder Call.add_snippet ≡ 9
  pub sequences : (g : Groups) → number_in g Call.add_sequence ≡ 0 → number_in (grouped g Call.add_sequence).builder Call.add_sequence ≡ 10
  -- any other refused call leaves everything
  pub refusals : (g : Groups) (k : Call) → ((b : Begin) → ¬ (k ≡ Call.builder (Call.begin_frame b))) → 0 < number_in g k
      → Unchanged g (grouped g k).builder
