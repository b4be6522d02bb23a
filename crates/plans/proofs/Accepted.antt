-- The checks pass what is in range, and that is written whole. Assumes nothing.
use Rattle.config.specs.declared.ActuatorConfig.{ActuatorConfig}
use Rattle.config.specs.declared.DeviceConfig.{DeviceConfig}
use Rattle.config.specs.declared.Variant.{Variant}
use Rattle.checks.specs.InRange.{InRange}
use Rattle.checks.proofs.Accepted as checked
use Rattle.convert.specs.Convert.{period_word}
use Rattle.convert.proofs.Whole as whole
use Rattle.plans.specs.Accepted.{Uncut, Accepted}

whole_in_range : (v : Variant) (a : ActuatorConfig) (d : DeviceConfig) → InRange v a d → Uncut a
whole_in_range v a d r =
    let most = r.current.1 in
    let hz = checked.at_least_25 v a d r in
    record {
      nominal = whole.voltage _ r.nominal;
      absolute = whole.voltage _ r.absolute;
      imax = (whole.current _ most, whole.current_bits _ most);
      v2i = whole.v2i_bits _ _ r.impedance.1 (whole.current_bits _ most);
      trim4 = (whole.cap_bits a.inductance_uH, whole.resistance_bits a.impedance_mOhm a.inductance_uH);
      period = whole.period_is _ hz;
      period_high = whole.high_is (period_word a.frequency_Hz) (whole.word_bits _ hz);
    }

pub accepted : Accepted
accepted = record { exact = checked.exact; uncut = whole_in_range }
