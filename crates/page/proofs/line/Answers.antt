-- A byte more, and the line.
use Rattle.std.proofs.Common.{◌∙◌, ap, arith, refl, sym, length}
use Rattle.laws.specs.Copied.{placed}
use Rattle.page.specs.Lines.{in_capitals}
use Rattle.page.proofs.Wide.{text_placed, length_capitals, byte_more, no_byte_more}
use Rattle.page.proofs.line.Goals as goal

pub loop-k-preserved : goal.loop-k-preserved
loop-k-preserved c =
    byte_more c.loop-k.line (length c.args.head.now) c.loop-k.k c.args.bytes.now c.two_capitals.result c.loop-k-test.true c.two_capitals.ensures
    ∙ c.loop-k.invariant

pub returns : goal.returns
returns c =
    sym (no_byte_more c.loop-k.line (length c.args.head.now) c.loop-k.k c.args.bytes.now c.loop-k-test.false)
    ∙ c.loop-k.invariant
    ∙ ap (λ l. placed l (length c.args.head.now) (in_capitals c.args.bytes.now)) c.copy_into.ensures.buffer_after
    ∙ text_placed _ c.args.head.now (in_capitals c.args.bytes.now) refl (omega (arith, c.requires, length_capitals c.args.bytes.now))
