-- Document 01's examples marked P hold, and what was worked out by hand goes over the wire: each row by computation. Assumes nothing.
use mathlib.Core.Path.{refl}
use Rattle.memory.specs.Memory.{built_memory}
use Rattle.field.specs.Field.{with_of}
use Rattle.da728x.specs.Record.{record_bytes, record_at}
use Rattle.plans.specs.Configure.{feature_steps, limit_steps, calibration_steps, pid_steps, frequency_steps, rapid_stop_steps, phase_steps, custom_steps, driving_steps, gpi_byte, gpi_steps, given_steps, trigger_steps}
use Rattle.exchange.specs.State.{begun_in, left, completed}
use Rattle.exchange.specs.Turn.{fit_of, state_after, report_of}
use Rattle.exchange.specs.Session.{after_call}
use Rattle.outcome.specs.Outcome.{change_by, outcome_of}
use Rattle.driver.specs.Operations.{change_after}
use Rattle.sessions.specs.Sessions.{no_image, blank_record, enabled, seq_ctl2, mem_ctl2, chunk_step, chunk_steps, lock_steps, send_steps}
use Rattle.examples.specs.Rows.{Hold, checked_examples}
use Rattle.examples.specs.Wire.{wire_examples, Examples}

checked : Hold checked_examples
unfolding built_memory with_of
checked = (refl, (refl, (refl, (refl, (refl, (refl, (refl, (refl, (refl, (refl, (refl, (refl, (refl, (refl, (refl, (refl, (refl, (refl, (refl, (refl, (refl, (refl, (refl, (refl, (refl, tt)))))))))))))))))))))))))

wired : Hold wire_examples
unfolding with_of record_at feature_steps limit_steps calibration_steps pid_steps frequency_steps rapid_stop_steps phase_steps custom_steps driving_steps gpi_byte gpi_steps given_steps trigger_steps no_image blank_record record_bytes change_after change_by begun_in left completed fit_of state_after report_of after_call outcome_of enabled seq_ctl2 mem_ctl2 chunk_step chunk_steps lock_steps send_steps
wired = (refl, (refl, (refl, (refl, (refl, (refl, (refl, (refl, (refl, (refl, (refl, (refl, (refl, (refl, (refl, (refl, (refl, (refl, (refl, (refl, (refl, (refl, (refl, (refl, (refl, (refl, (refl, (refl, (refl, (refl, (refl, (refl, (refl, (refl, (refl, (refl, (refl, (refl, (refl, (refl, (refl, (refl, (refl, (refl, (refl, (refl, (refl, (refl, (refl, (refl, (refl, (refl, (refl, (refl, (refl, (refl, tt))))))))))))))))))))))))))))))))))))))))))))))))))))))))

pub examples : Examples
examples = record { checked = checked; wired = wired }
