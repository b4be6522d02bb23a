-- Every field that the steps of `configure` name is in its register's row of the table, and the steps write the fields listed here: a misspelt
-- name would have no width, and its value would be missing. In a fresh byte a field that is given 0 changes nothing, however spelt.
-- Assumes nothing.
use Rattle.std.specs.Prelude.{Option, Some, None}
use Prim.Native.Nat.{ℕ}
use Prim.Native.String.{String}
use mathlib.Core.Path.{◌≡◌, refl}
use mathlib.Core.Bool.{Bool, true, false, ◌&&◌}
use mathlib.Core.List.{List, [], ◌∷◌}
use lib.Dec.{ltb, eqb}
use lib.ListN.{get_or}
use Rattle.field.specs.Field.{with_of}
use Rattle.field.specs.Layout.{width_of}
use Rattle.registers.specs.Table.{address_of, parts_of}
use Rattle.config.specs.declared.ActuatorConfig.{ActuatorConfig}
use Rattle.config.specs.declared.ActuatorType.TheVariants.{ERM}
use Rattle.config.specs.declared.DeviceConfig.{DeviceConfig}
use Rattle.config.specs.declared.DrivingMode.TheVariants.{FREQUENCY_TRACK}
use Rattle.config.specs.declared.OperationMode.TheVariants.{ETWM_MODE}
use Rattle.config.specs.declared.TriggerConfig.{TriggerConfig}
use Rattle.config.specs.declared.TriggerMode.TheVariants.{MultiSequence}
use Rattle.config.specs.declared.TriggerPolarity.TheVariants.{Both}
use Rattle.exchange.specs.declared.Step.{Step}
use Rattle.exchange.specs.declared.Step.TheVariants.{Write, Read, Update, Match, Chunk, Store}
use Rattle.plans.specs.Fields.{FieldValue, put, with_fields, fresh}
use Rattle.plans.specs.Configure.{feature_steps, limit_steps, frequency_steps, rapid_stop_steps, phase_steps, custom_steps, gpi_byte, gpi_steps}

-- ---- what is checked

-- a register, the fields that a step gives it, and the step
pub record Row : Type 0 where
  pub register : String
  pub fields : List FieldValue
  pub writes : Step

-- the i-th of some steps
abbrev pub row : String → List FieldValue → List Step → ℕ → Row
row register fields xs i = record { register = register; fields = fields; writes = get_or xs i (Read 0) }

-- whether every name is in the table
abbrev named : String → List FieldValue → Bool
named register [] = true
named register (put name value ∷ gs) = ltb 0 (width_of (parts_of register) name) && named register gs

-- whether a step writes these fields: a fresh byte, or the byte read last with them, be that 0 or 255
abbrev makes : String → List FieldValue → Step → Bool
makes name gs (Write register value) = eqb register (address_of name) && eqb (fresh name gs) value
makes name gs (Update register shift width value) =
    eqb register (address_of name) && eqb (fresh name gs) (with_of 0 shift width value)
    && eqb (with_fields (parts_of name) 255 gs) (with_of 255 shift width value)
makes name gs (Read register) = false
makes name gs (Match register value) = false
makes name gs (Chunk offset len) = false
makes name gs (Store index) = false

abbrev pub all_named : List Row → Bool
all_named [] = true
all_named (r ∷ rs) = named r.register r.fields && makes r.register r.fields r.writes && all_named rs

-- ---- settings that set the fields

abbrev pub actuator : ActuatorConfig
actuator =
    record {
      actuator_type = ERM;
      nominal_max_mV = 2000;
      absolute_max_mV = 2000;
      max_current_mA = 200;
      impedance_mOhm = 8000;
      inductance_uH = 100;
      frequency_Hz = 150;
      pid_Kp_Ki = None;
    }

abbrev gpi : Option TriggerConfig
gpi = Some (record { sequence_id = 15; polarity = Both; mode = MultiSequence })

abbrev pub device : Bool → DeviceConfig
device accelerates =
    record {
      operation_mode = ETWM_MODE;
      driving_mode = FREQUENCY_TRACK;
      gpi_trigger_0 = gpi;
      gpi_trigger_1 = gpi;
      gpi_trigger_2 = gpi;
      acceleration = accelerates;
      rapid_stop = true;
    }

-- ---- the names

rows : List Row
rows =
    row "TOP_CFG1" (
    put "ACTUATOR_TYPE" 1
    ∷ put "BEMF_SENSE_EN" 1
    ∷ put "FREQ_TRACK_EN" 1
    ∷ put "ACCELERATION_EN" 1
    ∷ put "RAPID_STOP_EN" 1
    ∷ put "AMP_PID_EN" 0
    ∷ put "EMBEDDED_MODE" 1
    ∷ []) (feature_steps actuator (device true)) 0
    ∷ row "TOP_CFG2" (put "MEM_DATA_SIGNED" 1 ∷ []) (feature_steps actuator (device false)) 2
    ∷ row "TOP_CFG5" (put "V2I_FACTOR_OFFSET_EN" 1 ∷ []) (feature_steps actuator (device true)) 3
    ∷ row "ACTUATOR3" (put "IMAX" 23 ∷ []) (limit_steps actuator) 2
    ∷ row "FRQ_LRA_PER_L" (put "LRA_PER_L" 8 ∷ []) (frequency_steps 150) 1
    ∷ row "TOP_INT_CFG8" (put "RAPID_STOP_LIM" 7 ∷ []) rapid_stop_steps 1
    ∷ row "FRQ_PHASE_L" (put "DELAY_SHIFT_L" 0 ∷ put "DELAY_FREEZE" 1 ∷ []) phase_steps 1
    ∷ row "SEQ_CTL1" (put "WAVEGEN_MODE" 1 ∷ []) custom_steps 0
    ∷ row "TOP_CFG4" (put "V2I_FACTOR_FREEZE" 1 ∷ []) custom_steps 1
    ∷ row "GPI_0_CTL" (put "GPI0_POLARITY" 2 ∷ put "GPI0_MODE" 1 ∷ put "GPI0_SEQUENCE_ID" 15 ∷ []) (gpi_steps "0" gpi) 0
    ∷ row "GPI_1_CTL" (put "GPI1_POLARITY" 2 ∷ put "GPI1_MODE" 1 ∷ put "GPI1_SEQUENCE_ID" 15 ∷ []) (gpi_steps "1" gpi) 0
    ∷ row "GPI_2_CTL" (put "GPI2_POLARITY" 2 ∷ put "GPI2_MODE" 1 ∷ put "GPI2_SEQUENCE_ID" 15 ∷ []) (gpi_steps "2" gpi) 0
    ∷ []

names : all_named rows ≡ true
unfolding rows with_of feature_steps limit_steps frequency_steps rapid_stop_steps phase_steps custom_steps gpi_byte gpi_steps
names = refl
