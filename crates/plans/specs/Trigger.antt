-- What `configure` writes of triggers, of any settings (driver/specs/Operations.antt has which of them it takes): document 02, CR 4, "The base writes
-- the GPI mode bit, bit 2 of the three GPI registers, as 1. From now on it is the trigger's own `mode`: 0 for SingleSequence, 1 for
-- MultiSequence." Numbers, codes and addresses are said again here, so that a wrong table or code is refused. That it is so: proofs/Trigger.antt.
use Rattle.std.specs.Prelude.{ℕ, ◌+◌, ◌*◌, ◌%◌, ◌≤◌, ◌≡◌, ◌↔◌, min, Bool, ◌&&◌, leb, List, [], ◌∷◌, ◌++◌, filter, replicate, Option, Some, None}
use Prim.Native.String.{String}
use Rattle.laws.specs.Bytes.{All}
use Rattle.laws.specs.Lists.{at}
use Rattle.config.specs.declared.ActuatorConfig.{ActuatorConfig}
use Rattle.config.specs.declared.DeviceConfig.{DeviceConfig}
use Rattle.config.specs.declared.OperationMode.{OperationMode}
use Rattle.config.specs.declared.OperationMode.TheVariants.{INACTIVE, ETWM_MODE}
use Rattle.config.specs.declared.TriggerConfig.{TriggerConfig}
use Rattle.config.specs.declared.TriggerMode.{TriggerMode}
use Rattle.config.specs.declared.TriggerMode.TheVariants.{SingleSequence, MultiSequence}
use Rattle.config.specs.declared.TriggerPolarity.{TriggerPolarity}
use Rattle.config.specs.declared.TriggerPolarity.TheVariants.{Rising, Falling, Both}
use Rattle.config.specs.Codes.{trigger_mode_at}
use Rattle.exchange.specs.declared.Step.{Step}
use Rattle.exchange.specs.declared.Step.TheVariants.{Write}
use Rattle.exchange.specs.Steps.{exchange_for}
use Rattle.plans.specs.Configure.{gpi_byte, configure_steps}

abbrev pub mode_bit : TriggerMode → ℕ
mode_bit SingleSequence = 0
mode_bit MultiSequence = 1

-- in config.rs's order
abbrev pub polarity_bits : TriggerPolarity → ℕ
polarity_bits Rising = 0
polarity_bits Falling = 1
polarity_bits Both = 2

-- of the GPI register with this digit in its names
pub record TriggerByte (digit : String) : Type 0 where
  -- the polarity in bits 0 and 1, the mode in bit 2, the sequence number's low four bits in bits 3 to 6
  pub bits : (t : TriggerConfig) → gpi_byte digit t ≡ polarity_bits t.polarity + 4 * mode_bit t.mode + 8 * (t.sequence_id % 16)
  -- so two triggers with numbers up to 15 give the same byte exactly when number, polarity and mode are equal
  pub same : (t u : TriggerConfig) → t.sequence_id ≤ 15 → u.sequence_id ≤ 15
      → (gpi_byte digit t ≡ gpi_byte digit u) ↔ ((t.sequence_id ≡ u.sequence_id) × (t.polarity ≡ u.polarity) × (t.mode ≡ u.mode))

-- the settings with no trigger, and not in ETWM mode
abbrev pub untriggered : DeviceConfig → DeviceConfig
untriggered d = record d { operation_mode = INACTIVE; gpi_trigger_0 = None; gpi_trigger_1 = None; gpi_trigger_2 = None }

-- steps of ETWM mode alone
abbrev pub in_etwm : OperationMode → List Step → List Step
in_etwm ETWM_MODE steps = steps
in_etwm other steps = []

-- a register's address gets the byte of a trigger that is given
abbrev pub gets : ℕ → String → Option TriggerConfig → List Step
gets address digit None = []
gets address digit (Some t) = Write address (gpi_byte digit t) ∷ []

-- whether what a step sends begins with the address of a GPI register
abbrev pub to_gpi : Step → Bool
to_gpi s = let register = at (exchange_for 0 0 [] s).bytes 0 in leb 0x29 register && leb register 0x2B

pub record Trigger : Type 0 where
  -- GPI_0_CTL, GPI_1_CTL and GPI_2_CTL
  pub bytes : All TriggerByte ("0" ∷ "1" ∷ "2" ∷ [])
  -- of a settings byte, all above 1 count as 1
  pub code : (byte : ℕ) → mode_bit (trigger_mode_at byte) ≡ min byte 1
  -- triggers and ETWM mode change none of the other steps; behind these, in ETWM mode alone, each trigger that is given has its byte written to its own register
  pub writes : (a : ActuatorConfig) (d : DeviceConfig) → configure_steps a d
      ≡ configure_steps a (untriggered d) ++ in_etwm d.operation_mode (gets 0x29 "0" d.gpi_trigger_0 ++ (gets 0x2A "1" d.gpi_trigger_1 ++ gets 0x2B "2" d.gpi_trigger_2))
  -- such a step sends the address and the byte, whatever was read
  pub sent : (chip last register byte : ℕ) (image : List ℕ)
      → exchange_for chip last image (Write register byte) ≡ record { address = chip; bytes = register ∷ byte ∷ replicate 31 0; len = 2; wanted = 0 }
  -- and no other step goes to the three registers
  pub only : (a : ActuatorConfig) (d : DeviceConfig) → filter to_gpi (configure_steps a (untriggered d)) ≡ []
