use Rattle.std.proofs.Common.{◌≡◌, ◌+◌, ◌∙◌, ℕ, refl, ap, arith, rules, length, min, set}
use Rattle.std.specs.Option.{option_map}
use Rattle.errors.specs.declared.Error.{Error}
use Rattle.laws.specs.Copied.{copied}
use Rattle.assemble.specs.Lists.{first_refused}
use Rattle.assemble.proofs.Assembly.{answers_from, builders_from, memory_from_lem}
use Rattle.assemble.proofs.Running.{begun, turn, refused_at, first_or, calls_count, left_builders, left_memory, left_answers, left_told}
use Rattle.assemble.proofs.run.Goals as goal

pub loop-i-init : goal.loop-i-init
loop-i-init c = record {
  four = search rules;
  count = refl;
  runs =
      rw (c.into_iter-i-iterator.ensures.into_iter_gives, c.enumerate-i-items.ensures.source, c.enumerate-i-items.ensures.count, c.chunks-records.ensures.rest)
      (begun c.args.calls.now c.args.answers.now c.new.ensures c.new-2.ensures);
}

pub loop-i-preserved : goal.loop-i-preserved
loop-i-preserved c =
    let l = c.loop-i in
    let next = c.in-Some.ensures.steps in
    let rest = l.i-iterator.iter.rest.now in
    let four : length c.in-Some.record.now ≡ min 4 (length rest) = next.0.1.1 ∙ ap (λ (n : ℕ). min n (length rest)) l.invariant.four in
    let made : c.map.result ≡ option_map (λ (e : Error). refused_at e (c.in-Some.i + 1)) c.err.result = search rules in
    let told = first_or l.ran.first c.step-answer.result c.in-Some.i _ _ _ c.or-ran.ensures made c.err.ensures.value in
    record {
      four = search rules;
      count = l.invariant.count;
      runs =
          turn l.invariant.runs _ _ _ _ _ _ _ _ _ _ _ next.0.1.2 next.0.1.0 four next.1 next.2 refl c.step-answer.ensures refl refl
          (c.store.ensures ∙ ap (set l.answers c.in-Some.i) c.number.ensures) told;
    }

pub returns-clause-builders : goal.returns-clause-builders
returns-clause-builders c = left_builders c.loop-i.invariant.runs (omega (arith, c.in-None.ensures.steps.0.1.0)) ∙ builders_from c.args.calls.now

pub returns-clause-count : goal.returns-clause-count
returns-clause-count c = let h = calls_count c.args.calls.now in omega (arith, h.0, h.1, c.loop-i.invariant.count, c.len.ensures.value, c.chunks-records.ensures.size, ap length c.chunks-records.ensures.rest)

pub returns-clause-told : goal.returns-clause-told
returns-clause-told c = left_told c.loop-i.invariant.runs (omega (arith, c.in-None.ensures.steps.0.1.0)) ∙ ap (first_refused 0) (answers_from c.args.calls.now)

pub returns-clause-answers : goal.returns-clause-answers
returns-clause-answers c = left_answers c.loop-i.invariant.runs (omega (arith, c.in-None.ensures.steps.0.1.0)) ∙ ap (copied c.args.answers.now) (answers_from c.args.calls.now)

pub returns-clause-memory : goal.returns-clause-memory
returns-clause-memory c = left_memory c.loop-i.invariant.runs (omega (arith, c.in-None.ensures.steps.0.1.0)) _ (memory_from_lem c.args.calls.now)
