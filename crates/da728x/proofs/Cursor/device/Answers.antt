-- Each part is at its place behind the first byte's.
use Rattle.std.proofs.Common.{◌≡◌, ◌+◌, arith}
use Rattle.da728x.proofs.Cursor.device.Goals as goal

pub returns : goal.returns
returns c =
    let i = c.args.self.now.at in
    let first : c.byte-2.new.self.at ≡ i + 2 = omega arith in
    let second : c.trigger.new.self.at ≡ i + 6 = omega arith in
    let third : c.trigger-2.new.self.at ≡ i + 10 = omega arith in
    let acceleration : c.trigger-3.new.self.at ≡ i + 14 = omega arith in
    let rapid_stop : c.flag.new.self.at ≡ i + 15 = omega arith in
    cc
