-- The answer, by what the steps before it told.
use Rattle.std.proofs.Common.{◌∙◌, ap}
use Rattle.errors.specs.Number.{answer_number}
use Rattle.errors.proofs.Passed.{passed}
use Rattle.laws.proofs.Lists.{bytes_of}
use Rattle.pool.specs.declared.Kept.{Kept}
use Rattle.merge.proofs.Answered.{missing_first, missing_second, full_first, full_second, raisable_first, raisable_second, many_first, many_second, answered}
use Rattle.merge.proofs.merge.Goals as goal

pub returns-in_err-test_numbers-clause-answer : goal.returns-in_err-test_numbers-clause-answer
returns-in_err-test_numbers-clause-answer c = ap answer_number (passed _ c.from_residual-in_err-test_numbers.ensures.1) ∙ (missing_first c.args.first.now c.args.second.now (bytes_of _ (λ i. (c.type_inv.first i).fits)) (bytes_of _ (λ i. (c.type_inv.second i).fits)) _ _ _ _ c.in_ok-s.ensures c.in_ok-t.ensures c.args.image.now _ c.in_err-test_numbers.ensures).0

pub returns-in_err-test_numbers-clause-image : goal.returns-in_err-test_numbers-clause-image
returns-in_err-test_numbers-clause-image c = (missing_first c.args.first.now c.args.second.now (bytes_of _ (λ i. (c.type_inv.first i).fits)) (bytes_of _ (λ i. (c.type_inv.second i).fits)) _ _ _ _ c.in_ok-s.ensures c.in_ok-t.ensures c.args.image.now _ c.in_err-test_numbers.ensures).1

pub returns-in_err-test_numbers-2-clause-answer : goal.returns-in_err-test_numbers-2-clause-answer
returns-in_err-test_numbers-2-clause-answer c = ap answer_number (passed _ c.from_residual-in_err-test_numbers-2.ensures.1) ∙ (missing_second c.args.first.now c.args.second.now (bytes_of _ (λ i. (c.type_inv.first i).fits)) (bytes_of _ (λ i. (c.type_inv.second i).fits)) _ _ _ _ c.in_ok-s.ensures c.in_ok-t.ensures c.args.image.now c.in_ok-test_numbers.ensures _ c.in_err-test_numbers-2.ensures).0

pub returns-in_err-test_numbers-2-clause-image : goal.returns-in_err-test_numbers-2-clause-image
returns-in_err-test_numbers-2-clause-image c = (missing_second c.args.first.now c.args.second.now (bytes_of _ (λ i. (c.type_inv.first i).fits)) (bytes_of _ (λ i. (c.type_inv.second i).fits)) _ _ _ _ c.in_ok-s.ensures c.in_ok-t.ensures c.args.image.now c.in_ok-test_numbers.ensures _ c.in_err-test_numbers-2.ensures).1

pub returns-in_err-keep_snippets-clause-answer : goal.returns-in_err-keep_snippets-clause-answer
returns-in_err-keep_snippets-clause-answer c = ap answer_number (passed _ c.from_residual-in_err-keep_snippets.ensures.1) ∙ (full_first c.args.first.now c.args.second.now (bytes_of _ (λ i. (c.type_inv.first i).fits)) (bytes_of _ (λ i. (c.type_inv.second i).fits)) _ _ _ _ c.in_ok-s.ensures c.in_ok-t.ensures c.args.image.now c.in_ok-test_numbers.ensures c.in_ok-test_numbers-2.ensures _ (ap (λ (k : Kept). k.snippets) c.new-kept.ensures) _ _ c.in_err-keep_snippets.ensures).0

pub returns-in_err-keep_snippets-clause-image : goal.returns-in_err-keep_snippets-clause-image
returns-in_err-keep_snippets-clause-image c = (full_first c.args.first.now c.args.second.now (bytes_of _ (λ i. (c.type_inv.first i).fits)) (bytes_of _ (λ i. (c.type_inv.second i).fits)) _ _ _ _ c.in_ok-s.ensures c.in_ok-t.ensures c.args.image.now c.in_ok-test_numbers.ensures c.in_ok-test_numbers-2.ensures _ (ap (λ (k : Kept). k.snippets) c.new-kept.ensures) _ _ c.in_err-keep_snippets.ensures).1

pub returns-in_err-keep_snippets-2-clause-answer : goal.returns-in_err-keep_snippets-2-clause-answer
returns-in_err-keep_snippets-2-clause-answer c = ap answer_number (passed _ c.from_residual-in_err-keep_snippets-2.ensures.1) ∙ (full_second c.args.first.now c.args.second.now (bytes_of _ (λ i. (c.type_inv.first i).fits)) (bytes_of _ (λ i. (c.type_inv.second i).fits)) _ _ _ _ c.in_ok-s.ensures c.in_ok-t.ensures c.args.image.now c.in_ok-test_numbers.ensures c.in_ok-test_numbers-2.ensures _ (ap (λ (k : Kept). k.snippets) c.new-kept.ensures) _ c.in_ok-keep_snippets.ensures _ _ c.in_err-keep_snippets-2.ensures).0

pub returns-in_err-keep_snippets-2-clause-image : goal.returns-in_err-keep_snippets-2-clause-image
returns-in_err-keep_snippets-2-clause-image c = (full_second c.args.first.now c.args.second.now (bytes_of _ (λ i. (c.type_inv.first i).fits)) (bytes_of _ (λ i. (c.type_inv.second i).fits)) _ _ _ _ c.in_ok-s.ensures c.in_ok-t.ensures c.args.image.now c.in_ok-test_numbers.ensures c.in_ok-test_numbers-2.ensures _ (ap (λ (k : Kept). k.snippets) c.new-kept.ensures) _ c.in_ok-keep_snippets.ensures _ _ c.in_err-keep_snippets-2.ensures).1

pub returns-in_err-keep_sequences-clause-answer : goal.returns-in_err-keep_sequences-clause-answer
returns-in_err-keep_sequences-clause-answer c = ap answer_number (passed _ c.from_residual-in_err-keep_sequences.ensures.1) ∙ (many_first c.args.first.now c.args.second.now (bytes_of _ (λ i. (c.type_inv.first i).fits)) (bytes_of _ (λ i. (c.type_inv.second i).fits)) _ _ _ _ c.in_ok-s.ensures c.in_ok-t.ensures c.args.image.now c.in_ok-test_numbers.ensures c.in_ok-test_numbers-2.ensures _ (ap (λ (k : Kept). k.snippets) c.new-kept.ensures) _ c.in_ok-keep_snippets.ensures _ c.in_ok-keep_snippets-2.ensures _ (ap (λ (k : Kept). k.sequences) c.new-kept.ensures) _ _ c.in_err-keep_sequences.ensures).0

pub returns-in_err-keep_sequences-clause-image : goal.returns-in_err-keep_sequences-clause-image
returns-in_err-keep_sequences-clause-image c = (many_first c.args.first.now c.args.second.now (bytes_of _ (λ i. (c.type_inv.first i).fits)) (bytes_of _ (λ i. (c.type_inv.second i).fits)) _ _ _ _ c.in_ok-s.ensures c.in_ok-t.ensures c.args.image.now c.in_ok-test_numbers.ensures c.in_ok-test_numbers-2.ensures _ (ap (λ (k : Kept). k.snippets) c.new-kept.ensures) _ c.in_ok-keep_snippets.ensures _ c.in_ok-keep_snippets-2.ensures _ (ap (λ (k : Kept). k.sequences) c.new-kept.ensures) _ _ c.in_err-keep_sequences.ensures).1

pub returns-in_err-keep_sequences-2-clause-answer : goal.returns-in_err-keep_sequences-2-clause-answer
returns-in_err-keep_sequences-2-clause-answer c = ap answer_number (passed _ c.from_residual-in_err-keep_sequences-2.ensures.1) ∙ (many_second c.args.first.now c.args.second.now (bytes_of _ (λ i. (c.type_inv.first i).fits)) (bytes_of _ (λ i. (c.type_inv.second i).fits)) _ _ _ _ c.in_ok-s.ensures c.in_ok-t.ensures c.args.image.now c.in_ok-test_numbers.ensures c.in_ok-test_numbers-2.ensures _ (ap (λ (k : Kept). k.snippets) c.new-kept.ensures) _ c.in_ok-keep_snippets.ensures _ c.in_ok-keep_snippets-2.ensures _ (ap (λ (k : Kept). k.sequences) c.new-kept.ensures) _ c.in_ok-keep_sequences.ensures _ _ c.in_err-keep_sequences-2.ensures).0

pub returns-in_err-keep_sequences-2-clause-image : goal.returns-in_err-keep_sequences-2-clause-image
returns-in_err-keep_sequences-2-clause-image c = (many_second c.args.first.now c.args.second.now (bytes_of _ (λ i. (c.type_inv.first i).fits)) (bytes_of _ (λ i. (c.type_inv.second i).fits)) _ _ _ _ c.in_ok-s.ensures c.in_ok-t.ensures c.args.image.now c.in_ok-test_numbers.ensures c.in_ok-test_numbers-2.ensures _ (ap (λ (k : Kept). k.snippets) c.new-kept.ensures) _ c.in_ok-keep_snippets.ensures _ c.in_ok-keep_snippets-2.ensures _ (ap (λ (k : Kept). k.sequences) c.new-kept.ensures) _ c.in_ok-keep_sequences.ensures _ _ c.in_err-keep_sequences-2.ensures).1

pub keep_sequences-requires : goal.keep_sequences-requires
keep_sequences-requires c = raisable_first c.args.first.now c.args.second.now (bytes_of _ (λ i. (c.type_inv.first i).fits)) (bytes_of _ (λ i. (c.type_inv.second i).fits)) _ _ _ _ c.in_ok-s.ensures c.in_ok-t.ensures c.args.image.now c.in_ok-test_numbers.ensures c.in_ok-test_numbers-2.ensures _ (ap (λ (k : Kept). k.snippets) c.new-kept.ensures) _ c.in_ok-keep_snippets.ensures _ c.in_ok-keep_snippets-2.ensures

pub keep_sequences-requires-2 : goal.keep_sequences-requires-2
keep_sequences-requires-2 c = raisable_second c.args.first.now c.args.second.now (bytes_of _ (λ i. (c.type_inv.first i).fits)) (bytes_of _ (λ i. (c.type_inv.second i).fits)) _ _ _ _ c.in_ok-s.ensures c.in_ok-t.ensures c.args.image.now c.in_ok-test_numbers.ensures c.in_ok-test_numbers-2.ensures _ (ap (λ (k : Kept). k.snippets) c.new-kept.ensures) _ c.in_ok-keep_snippets.ensures _ c.in_ok-keep_snippets-2.ensures

pub returns-clause-answer : goal.returns-clause-answer
returns-clause-answer c = (answered c.args.first.now c.args.second.now (bytes_of _ (λ i. (c.type_inv.first i).fits)) (bytes_of _ (λ i. (c.type_inv.second i).fits)) _ _ _ _ c.in_ok-s.ensures c.in_ok-t.ensures c.args.image.now c.in_ok-test_numbers.ensures c.in_ok-test_numbers-2.ensures _ (ap (λ (k : Kept). k.snippets) c.new-kept.ensures) _ c.in_ok-keep_snippets.ensures _ c.in_ok-keep_snippets-2.ensures _ (ap (λ (k : Kept). k.sequences) c.new-kept.ensures) _ c.in_ok-keep_sequences.ensures _ c.in_ok-keep_sequences-2.ensures _ _ c.image.ensures).0

pub returns-clause-image : goal.returns-clause-image
returns-clause-image c = (answered c.args.first.now c.args.second.now (bytes_of _ (λ i. (c.type_inv.first i).fits)) (bytes_of _ (λ i. (c.type_inv.second i).fits)) _ _ _ _ c.in_ok-s.ensures c.in_ok-t.ensures c.args.image.now c.in_ok-test_numbers.ensures c.in_ok-test_numbers-2.ensures _ (ap (λ (k : Kept). k.snippets) c.new-kept.ensures) _ c.in_ok-keep_snippets.ensures _ c.in_ok-keep_snippets-2.ensures _ (ap (λ (k : Kept). k.sequences) c.new-kept.ensures) _ c.in_ok-keep_sequences.ensures _ c.in_ok-keep_sequences-2.ensures _ _ c.image.ensures).1
