use Rattle.std.proofs.Common.{arith}
use Rattle.laws.proofs.Copies.{over_laid}
use Rattle.pool.proofs.Keeping.{laid_over}
use Rattle.pool.proofs.laid.Goals as goal

pub returns : goal.returns
returns c =
    laid_over c.args.snippet_lens.now c.args.sequence_lens.now c.args.snippets.now c.args.sequences.now c.requires.size
    _ _ _ _ _ c.pointers-last.ensures.value c.pointers-last.ensures.out_after c.pointers.ensures.out_after (over_laid _ _ _ c.lay.ensures (omega arith)) (over_laid _ _ _ c.lay-2.ensures (omega arith))
