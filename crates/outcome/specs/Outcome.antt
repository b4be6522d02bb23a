-- What a session gives in the end, and what an answer makes of the record lent with it: document 01, 'Exchanges'; document 02, CR 10.
use Rattle.std.specs.Prelude.{ℕ, ◌+◌, ◌*◌, Bool, cond, ◌&&◌, List, [], ◌∷◌, eqb, get_or, Some, None, Option}
use Rattle.laws.specs.Lists.{at}
use Rattle.config.specs.Codes.{variant_code}
use Rattle.exchange.specs.State.{is_session, count_in, last_in, completed, read_count, purpose_in, record_in}
use Rattle.exchange.specs.Turn.{Report}
use Rattle.da728x.specs.declared.DA728x.{DA728x}
use Rattle.da728x.specs.Record.{record_at}
use Rattle.outcome.specs.declared.Change.{Change}
use Rattle.outcome.specs.declared.Change.TheVariants.{To, Sequences}
use Rattle.outcome.specs.declared.Outcome.{Outcome}
use Rattle.outcome.specs.declared.Purpose.{Purpose}
use Rattle.outcome.specs.declared.Purpose.TheVariants.{Command, New, Settings, Byte, ThreeBytes, Length, Upload}

-- What a session is for: 0 no record and no value, 1 the record of `new`, 2 the settings of `configure`,
-- 3 the byte read last, 4 the last three bytes, 5 how many bytes of memory were read, 6 an upload. The sessions of 1, 2 and 6 carry a record: the new one,
-- one with the settings, one with the address and the image's number of sequences.

abbrev pub purpose_code : Purpose → ℕ
purpose_code Command = 0
purpose_code New = 1
purpose_code Settings = 2
purpose_code Byte = 3
purpose_code ThreeBytes = 4
purpose_code Length = 5
purpose_code Upload = 6

-- a number that is none of them has neither record nor value, as a command
abbrev pub purpose_at : ℕ → Purpose
purpose_at code = get_or (Command ∷ New ∷ Settings ∷ Byte ∷ ThreeBytes ∷ Length ∷ Upload ∷ []) code Command

-- bytes as one number, the first highest
abbrev pub big_endian : ℕ → List ℕ → ℕ
big_endian n [] = n
big_endian n (b ∷ bytes) = big_endian (256 * n + b) bytes

-- settings go to a record of the chip that they were sent to, and change nothing else of it; that another record stays is ours, since the
-- Rust's `self` can be no other
abbrev pub is_chip_of : DA728x → DA728x → Bool
is_chip_of next r = eqb next.address r.address && eqb (variant_code next.variant) (variant_code r.variant)

abbrev pub settling : DA728x → DA728x → Option Change
settling next r = cond (is_chip_of next r) (Some (To (record { address = r.address; variant = r.variant; settings = next.settings; sequences = r.sequences }))) None

abbrev pub for_upload : ℕ
for_upload = 6

-- the start of an upload: "zero .. from the first exchange of any upload". From the start on is ours: of the calls that are lent the record it is the
-- last before that exchange is on the bus; where the lent bytes are no session, none will be made
abbrev pub zeroing : List ℕ → Option Change
zeroing st = cond (is_session st) (Some (Sequences 0)) None

-- as many sequences as are said, for a record of the address where the upload goes; that another record stays is ours
abbrev pub counting : DA728x → ℕ → DA728x → Option Change
counting next n r = cond (eqb next.address r.address) (Some (Sequences n)) None

-- the last success of a session, by what it is for; "Settings are stored only after the last"
abbrev pub change_for : ℕ → DA728x → DA728x → Option Change
change_for purpose next r = get_or (None ∷ Some (To next) ∷ settling next r ∷ None ∷ None ∷ None ∷ counting next next.sequences r ∷ []) purpose None

-- any other answer that is taken: "until its last succeeds, so an upload that ends in 17 leaves zero"
abbrev pub change_before : ℕ → DA728x → DA728x → Option Change
change_before purpose next r = cond (eqb purpose for_upload) (counting next 0 r) None

-- what an answer does to the record lent with it, where the session is `st` afterwards: one that is refused with 19 does nothing
unfoldable pub change_by : List ℕ → Report → DA728x → Option Change
change_by st t r =
    let next = record_at (record_in st) in
    cond (is_session st)
    (cond (t.ended && eqb t.number 0) (change_for (purpose_in st) next r) (cond (eqb t.number 19) None (change_before (purpose_in st) next r))) None

-- a record with so many sequences
abbrev pub with_sequences : DA728x → ℕ → DA728x
with_sequences r n = record { address = r.address; variant = r.variant; settings = r.settings; sequences = n }

abbrev pub record_by : DA728x → Option Change → DA728x
record_by r None = r
record_by r (Some (To next)) = next
record_by r (Some (Sequences n)) = with_sequences r n

-- what the operation answers
abbrev pub value_in : List ℕ → ℕ
value_in st = get_or (0 ∷ 0 ∷ 0 ∷ last_in st ∷ big_endian 0 (at st 5 ∷ at st 4 ∷ last_in st ∷ []) ∷ read_count st ∷ []) (purpose_in st) 0

-- "The count of exchanges made stands in every session result"; what the operation answers, once every exchange was made
unfoldable pub outcome_of : List ℕ → Outcome
outcome_of st = record { made = count_in st; value = cond (completed st) (Some (value_in st)) None }
