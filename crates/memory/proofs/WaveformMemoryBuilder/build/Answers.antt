use Rattle.std.proofs.Common.{rules}
use Rattle.memory.proofs.Built.{too_long, done}
use Rattle.memory.proofs.WaveformMemoryBuilder.build.Goals as goal

pub returns-then-size-gt-MAX_MEMORY_SIZE : goal.returns-then-size-gt-MAX_MEMORY_SIZE
returns-then-size-gt-MAX_MEMORY_SIZE c =
    too_long c.snippets-snippets.ensures.value c.sequences-sequences.ensures.value (search rules) (search rules)
    c.total.ensures.value c.total-2.ensures.value c.if-size-gt-MAX_MEMORY_SIZE.true

pub returns : goal.returns
returns c =
    done c.snippets-snippets.ensures.value c.sequences-sequences.ensures.value (search rules) (search rules)
    c.total.ensures.value c.total-2.ensures.value c.image_of-data.ensures c.if-size-gt-MAX_MEMORY_SIZE.false
