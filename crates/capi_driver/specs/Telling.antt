-- No word misleads: of every exported function of this crate that answers with several numbers in one, the word gives each of them back.
-- The record that an answer writes is the changed one, and an upload is that of the bytes that were handed in.
use Rattle.std.specs.Prelude.{ℕ, ◌-◌, ◌^◌, ◌/◌, ◌%◌, ◌≤◌, ◌<◌, ◌≡◌, ◌↔◌, Bool, ◌⊎◌, List, [], ◌∷◌, ◌++◌, eqb, length, take, replicate, Option, Some, None}
use Rattle.laws.specs.Bytes.{Bytes}
use Rattle.laws.specs.Lists.{at}
use Rattle.config.specs.declared.DrivingMode.{DrivingMode}
use Rattle.config.specs.declared.Variant.TheVariants.{DA7280}
use Rattle.std.specs.Prelude.{None, is_some}
use Rattle.std.specs.Option.{unwrap_or}
use Rattle.field.specs.Field.{code_of}
use Rattle.memory.specs.Memory.{memory}
use Rattle.exchange.specs.declared.Reply.TheVariants.{Done, Byte, Failed}
use Rattle.exchange.specs.State.{left, none_left}
use Rattle.exchange.specs.Turn.{pending_of, report_of}
use Rattle.da728x.specs.declared.DA728x.{DA728x}
use Rattle.da728x.specs.Record.{record_at}
use Rattle.outcome.specs.declared.Change.{Change}
use Rattle.outcome.specs.declared.Change.TheVariants.{Sequences}
use Rattle.outcome.specs.Outcome.{outcome_of, record_by}
use Rattle.driver.specs.Operations.{declines, upload_waveform_memory}
use Rattle.ranges.specs.declared.Range.{Range}
use Rattle.ranges.specs.Search.{voltage_range, imax_range, period_range}
use Rattle.capi_driver.specs.Words.{exchange_word, reply_of, report_word, record_out, result_word, upload_of, range_word}

-- a range as a number: 0 exactly where there is none, else both its ends
abbrev pub RangeTold : Option Range → Type 0
RangeTold range =
    let word = range_word range in ((word ≡ 0) ↔ (range ≡ None)) × ((r : Range) → range ≡ Some r → (word % 65536 ≡ r.least) × (word / 65536 ≡ r.greatest))

pub record Telling : Type 0 where
  -- da728x_pending; its word is 0 exactly where no step is left
  pub exchanges : (st : List ℕ) → Bytes st → let e = pending_of st in let word = exchange_word e in
      (word % 256 ≡ e.len) × (word / 256 % 256 ≡ e.address) × (word / 65536 ≡ e.wanted)
  pub ended : (st : List ℕ) → eqb (exchange_word (pending_of st)) 0 ≡ none_left (left st)
  -- da728x_answer
  pub reports : (st : List ℕ) (kind byte n : ℕ) → Bytes st → byte < 256 → let t = report_of st (reply_of kind byte) n in let word = report_word t in
      (word % 256 ≡ t.number) × (word / 256 % 256 ≡ t.code) × (word / 65536 % 256 ≡ t.made) × (word / 2 ^ 24 ≡ code_of t.ended)
  -- what the bus answered: 0 done, 1 a byte, any other kind a failure with its code
  pub replies : (kind byte : ℕ) → (reply_of 0 byte ≡ Done) × (reply_of 1 byte ≡ Byte byte) × (2 ≤ kind → reply_of kind byte ≡ Failed byte)
  -- the record that it writes, as a start does: 38 bytes then hold what the change makes of the record in them; other lengths stay, and one that is left
  -- keeps its bytes; another count of sequences is in the last byte, and the other 37 stay, whatever they are
  pub records : (l : List ℕ) (c : Option Change) → length l ≡ 38 → record_at (record_out l c) ≡ record_by (record_at l) c
  pub spared : (l : List ℕ) (c : Option Change) → (¬ (length l ≡ 38)) ⊎ (c ≡ None) → record_out l c ≡ l
  pub counted : (l : List ℕ) (n : ℕ) → length l ≡ 38 → record_out l (Some (Sequences n)) ≡ take 37 l ++ (n ∷ [])
  -- bytes of another length are no record: no sequences, whatever they are
  pub none : (l : List ℕ) → ¬ (length l ≡ 38) → record_at l ≡ record { address = 0; variant = DA7280; settings = None; sequences = 0 }
  -- da728x_result
  pub results : (st : List ℕ) → Bytes st → let o = outcome_of st in let word = result_word o in
      (word % 2 ^ 24 ≡ unwrap_or o.value 0) × (word / 2 ^ 24 % 256 ≡ o.made) × (word / 2 ^ 32 ≡ code_of (is_some o.value))
  -- da728x_upload_waveform_memory: 8 for more than a hundred bytes; else the driver's upload of a memory that shows just these, with as many sequences as
  -- byte 1 says, 0 where there is none
  pub full : (r : DA728x) (image : List ℕ) (lock_after : Bool) → 100 < length image → upload_of r image lock_after ≡ declines 8
  pub uploads : (r : DA728x) (image : List ℕ) (lock_after : Bool) → length image ≤ 100 → let m = memory (image ++ replicate (100 - length image) 0) (length image) (at image 0) (at image 1) in
      (upload_of r image lock_after ≡ (upload_waveform_memory r m lock_after).start) × (take m.len m.«data» ≡ image) × (length m.«data» ≡ 100) × (m.num_sequences ≡ at image 1)
  -- da728x_voltage_settings, da728x_current_settings, da728x_frequency_settings
  pub voltages : (byte : ℕ) → RangeTold (voltage_range byte)
  pub currents : (value : ℕ) → RangeTold (imax_range value)
  pub frequencies : (mode : DrivingMode) (word : ℕ) → RangeTold (period_range mode word)
