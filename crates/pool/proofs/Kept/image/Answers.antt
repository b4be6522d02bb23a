use Rattle.std.proofs.Common.{◌≡◌, ◌∙◌, ℕ, Result, Ok, Err, ap, refl, arith, rules}
use Rattle.std.specs.Result.{result_map_both}
use Rattle.errors.specs.declared.Error.{Error}
use Rattle.errors.specs.Number.{answer_number, told}
use Rattle.errors.specs.Told.{told_number}
use Rattle.pool.proofs.Keeping.{no_snippets_lem, no_sequences_lem, too_large, built}
use Rattle.pool.proofs.Kept.image.Goals as goal

pub returns-then-is_empty : goal.returns-then-is_empty
returns-then-is_empty c =
    no_snippets_lem c.args.self.now c.args.buffer.now _ _ c.lens-snippets.ensures.value c.lens-sequences.ensures.value (search rules)

pub returns-then-is_empty-2 : goal.returns-then-is_empty-2
returns-then-is_empty-2 c =
    no_sequences_lem c.args.self.now c.args.buffer.now _ _ c.lens-snippets.ensures.value c.lens-sequences.ensures.value (search rules) (search rules)

pub returns-then-size-gt-MAX_MEMORY_SIZE : goal.returns-then-size-gt-MAX_MEMORY_SIZE
returns-then-size-gt-MAX_MEMORY_SIZE c =
    too_large c.args.self.now c.args.buffer.now _ _ c.lens-snippets.ensures.value c.lens-sequences.ensures.value (search rules) (search rules)
    _ _ c.total-a.ensures.value c.total-b.ensures.value (omega arith)

-- nothing is told of what was copied but the refusal
no_length : (r : Result ℕ Error) → answer_number (result_map_both (λ n. tt {0}) (λ e. e) r) ≡ told_number (told r)
no_length (Ok n) = refl
no_length (Err e) = refl

pub returns : goal.returns
returns c =
    let copied = c.copy_whole in
    let made : c.map.result ≡ result_map_both (λ n. tt {0}) (λ e. e) copied.result = search rules in
    built c.args.self.now c.args.buffer.now _ _ c.lens-snippets.ensures.value c.lens-sequences.ensures.value (search rules) (search rules)
    _ _ c.total-a.ensures.value c.total-b.ensures.value (omega arith)
    _ _ _ _ _ refl refl c.laid-out.ensures (ap answer_number made ∙ no_length copied.result ∙ ap told_number copied.ensures.result_value) copied.ensures.buffer_after
