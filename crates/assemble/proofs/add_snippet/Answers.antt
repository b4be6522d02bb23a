use Rattle.std.proofs.Common.{ap, refl, subst, ◌∙◌, map, take}
use Rattle.errors.specs.Number.{answer_number}
use Rattle.errors.specs.Told.{Built, built}
use Rattle.snippet.specs.declared.Snippet.{Snippet}
use Rattle.snippet.specs.declared.SnippetBuilder.{SnippetBuilder}
use Rattle.snippet.specs.Snippet.{pwl_byte}
use Rattle.laws.proofs.Lists.{shown_part}
use Rattle.pattern.proofs.Items.{with_built_snippet}
use Rattle.assemble.specs.Holding.{StepsSnippets}
use Rattle.assemble.proofs.Holding.{snippets, put_in}
use Rattle.assemble.proofs.add_snippet.Goals as goal

pub returns : goal.returns
returns c =
    let a = c.args in
    let s = c.in_ok-snippet.snippet in
    let n = c.byte_len in
    subst (λ (r : Built Snippet SnippetBuilder). StepsSnippets (λ m. with_built_snippet m r) a.pool.now (answer_number c.push.result) c.push.new.self) c.in_ok-snippet.ensures
    (put_in snippets (built 0 s a.b) a.pool.now refl _ _
    (ap (take n.result) c.bytes.ensures ∙ shown_part (map pwl_byte s.points) s.len n.result n.ensures.value) c.push.ensures.pushed _ c.push.ensures.value)
