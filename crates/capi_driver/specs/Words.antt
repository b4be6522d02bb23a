-- What the functions exported for C answer as one number, and how they take what the bus answered and the bytes to upload: document 01,
-- "functions exported for C on numbers and byte slices"; "The count of exchanges made stands in every session result"; "8 also for `from_bytes`";
-- document 02, CR 10 and CR 12.
use Rattle.std.specs.Prelude.{ℕ, ◌+◌, ◌-◌, ◌*◌, Bool, cond, List, [], ◌∷◌, ◌++◌, eqb, length, set, get_or, replicate, is_some, Option, Some, None}
use Rattle.std.specs.Option.{unwrap_or}
use Rattle.laws.specs.Lists.{at}
use Rattle.field.specs.Field.{code_of}
use Rattle.errors.specs.Told.{Handed}
use Rattle.memory.specs.declared.WaveformMemory.{WaveformMemory}
use Rattle.memory.specs.Memory.{loaded}
use Rattle.da728x.specs.declared.DA728x.{DA728x}
use Rattle.da728x.specs.Record.{record_bytes}
use Rattle.exchange.specs.declared.Exchange.{Exchange}
use Rattle.exchange.specs.declared.Reply.{Reply}
use Rattle.exchange.specs.declared.Reply.TheVariants.{Done, Byte, Failed}
use Rattle.exchange.specs.Turn.{Report}
use Rattle.outcome.specs.declared.Change.{Change}
use Rattle.outcome.specs.declared.Change.TheVariants.{To, Sequences}
use Rattle.outcome.specs.declared.Outcome.{Outcome}
use Rattle.driver.specs.Operations.{Start, unless, upload_waveform_memory}
use Rattle.ranges.specs.declared.Range.{Range}

-- the exchange to be made: how many bytes are sent, the chip's address, how many are wanted
abbrev pub exchange_word : Exchange → ℕ
exchange_word e = e.len + 256 * e.address + 65536 * e.wanted

-- what the bus answered: 0 done, 1 a byte, any other a failure with its code
abbrev pub reply_of : ℕ → ℕ → Reply
reply_of kind byte = get_or (Done ∷ Byte byte ∷ []) kind (Failed byte)

-- the number of the refusal, the bus's own code, the count, and whether the session has ended
unfoldable pub report_word : Report → ℕ
report_word t = t.number + 256 * t.code + 65536 * t.made + 16777216 * code_of t.ended

-- the caller's record afterwards: bytes of another length stay as they are, and another count of sequences moves no other byte
abbrev pub record_out : List ℕ → Option Change → List ℕ
record_out l None = l
record_out l (Some (To r)) = cond (eqb (length l) 38) (record_bytes r) l
record_out l (Some (Sequences n)) = cond (eqb (length l) 38) (set l 37 n) l

-- what the operation answers, the count, and whether every exchange was made
unfoldable pub result_word : Outcome → ℕ
result_word o = unwrap_or o.value 0 + 16777216 * o.made + 4294967296 * code_of (is_some o.value)

-- the memory of an image's bytes: refused as `from_bytes` refuses them, with 8 for more than a hundred; the numbers of snippets and of sequences are the
-- image's first two bytes, 0 where it has none
abbrev pub image_of : List ℕ → Handed WaveformMemory
image_of image = loaded (image ++ replicate (100 - length image) 0) (length image) (at image 0) (at image 1)

-- an upload of bytes
unfoldable pub upload_of : DA728x → List ℕ → Bool → Start
upload_of r image lock_after = let m = image_of image in unless m.number (upload_waveform_memory r m.builder lock_after).start

-- a range of settings: the least + 65536 × the greatest, 0 for none
abbrev pub range_word : Option Range → ℕ
range_word None = 0
range_word (Some r) = r.least + 65536 * r.greatest
