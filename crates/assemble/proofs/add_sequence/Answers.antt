use Rattle.std.proofs.Common.{refl, subst}
use Rattle.errors.specs.Number.{answer_number}
use Rattle.errors.specs.Told.{Built, built}
use Rattle.sequence.specs.declared.Sequence.{Sequence}
use Rattle.sequence.specs.declared.SequenceBuilder.{SequenceBuilder}
use Rattle.pattern.proofs.Items.{with_built_sequence}
use Rattle.assemble.specs.Holding.{StepsSequences}
use Rattle.assemble.proofs.Holding.{sequences, put_in}
use Rattle.assemble.proofs.add_sequence.Goals as goal

pub returns : goal.returns
returns c =
    let a = c.args in
    subst (λ (r : Built Sequence SequenceBuilder). StepsSequences (λ m. with_built_sequence m r) a.pool.now (answer_number c.push.result) c.push.new.self) c.in_ok-sequence.ensures
    (put_in sequences (built 0 c.in_ok-sequence.sequence a.b) a.pool.now refl _ _ c.as_bytes.ensures c.push.ensures.pushed _ c.push.ensures.value)
