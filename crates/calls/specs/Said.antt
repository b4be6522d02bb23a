-- The builder calls that a record of a list can say.
use Rattle.std.specs.Prelude.{ℕ}
use Rattle.pattern.specs.Calls.{SnippetCall, FrameCall, Begin}

-- on the snippet, the frame or the sequence under construction
pub data BuilderCall : Type 0 where
  snippet_new : BuilderCall
  on_snippet : SnippetCall → BuilderCall
  begin_frame : Begin → BuilderCall
  on_frame : FrameCall → BuilderCall
  sequence_new : BuilderCall
  add_frame : BuilderCall

-- one of these, one that adds to a memory, or none
pub data Call : Type 0 where
  builder : BuilderCall → Call
  add_snippet : Call
  add_sequence : Call
  unknown : Call

-- a record: a code and two arguments
pub record Record : Type 0 where
  pub code : ℕ
  pub a : ℕ
  pub b : ℕ
