-- Which settings `configure` takes, and that their conversions lose nothing (PID words, which lose bit 15, apart): the ranges of document 01
-- (checks/specs/InRange.antt) are exactly what its checks pass; in them voltages, IMAX and the period word are their quotients, rounded down
-- and not cut, and IMAX, V2I and TRIM4's codes fit their fields. Which byte goes to which register: specs/Configure.antt, and worked out by
-- hand examples/specs/Wire.antt. That it is so: proofs/Accepted.antt.
use Rattle.std.specs.Prelude.{◌-◌, ◌*◌, ◌/◌, ◌<◌, ◌≡◌, ◌↔◌}
use Rattle.config.specs.declared.ActuatorConfig.{ActuatorConfig}
use Rattle.config.specs.declared.DeviceConfig.{DeviceConfig}
use Rattle.config.specs.declared.Variant.{Variant}
use Rattle.checks.specs.Checks.{configure_number}
use Rattle.checks.specs.InRange.{InRange}
use Rattle.convert.specs.Convert.{voltage_byte, imax_code, period_word, high_part}
use Rattle.convert.specs.Trim.{cap_code, resistance_code}
use Rattle.plans.specs.Configure.{v2i_for}

pub record Uncut (a : ActuatorConfig) : Type 0 where
  pub nominal : voltage_byte a.nominal_max_mV ≡ 1000 * a.nominal_max_mV / 23400
  pub absolute : voltage_byte a.absolute_max_mV ≡ 1000 * a.absolute_max_mV / 23400
  -- IMAX has five bits
  pub imax : (imax_code a.max_current_mA ≡ (1000 * a.max_current_mA - 28600) / 7200) × (imax_code a.max_current_mA < 32)
  pub v2i : v2i_for a < 65536
  -- both fields of TRIM4 have two bits
  pub trim4 : (cap_code a.inductance_uH < 4) × (resistance_code a.impedance_mOhm a.inductance_uH < 4)
  pub period : period_word a.frequency_Hz ≡ 100000000000 / (133332 * a.frequency_Hz)
  pub period_high : high_part (period_word a.frequency_Hz) ≡ period_word a.frequency_Hz / 128

pub record Accepted : Type 0 where
  pub exact : (v : Variant) (a : ActuatorConfig) (d : DeviceConfig) → (configure_number v a d ≡ 0) ↔ InRange v a d
  pub uncut : (v : Variant) (a : ActuatorConfig) (d : DeviceConfig) → InRange v a d → Uncut a
