use Rattle.std.proofs.Common.{◌<◌, ◌∙◌, Some, arith}
use borrow.Author.Tests.{lt-ltb}
use Rattle.laws.specs.Lists.{at}
use Rattle.da728x.specs.Record.{device_config_at}
use Rattle.da728x.proofs.settings_at.Goals as goal

pub returns-then-byte_at-gt1 : goal.returns-then-byte_at-gt1
returns-then-byte_at-gt1 c =
    let stored : 1 < at c.args.bytes.now 2 = omega (arith, c.byte_at.ensures) in
    let after = c.actuator.ensures in
    let device = c.device.ensures ∙ (λ i. device_config_at (after.bytes_after i) (after.at_after i)) in
    rw (lt-ltb 1 (at c.args.bytes.now 2) stored) (λ i. Some (after.value i, device i))
