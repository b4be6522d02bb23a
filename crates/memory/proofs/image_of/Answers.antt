-- What is put into zeros is the image.
use Rattle.std.proofs.Common.{map, arith}
use lib.ListN.{length-map}
use Rattle.snippet.specs.Snippet.{snippet_bytes}
use Rattle.sequence.specs.Sequence.{sequence_bytes}
use Rattle.memory.proofs.Images.{image_put}
use Rattle.memory.proofs.image_of.Goals as goal

pub returns : goal.returns
returns c =
    let a = c.args in
    let r = c.put-at.ensures in
    image_put (map snippet_bytes a.snippets.now) (map sequence_bytes a.sequences.now) _ _
    (length-map a.snippets.now snippet_bytes) (length-map a.sequences.now sequence_bytes)
    (omega (arith, c.requires.2, length-map a.snippets.now snippet_bytes, length-map a.sequences.now sequence_bytes))
    _ _ _ r.value r.image_after c.put.ensures.image_after
