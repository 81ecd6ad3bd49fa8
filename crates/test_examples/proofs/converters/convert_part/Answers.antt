use Rattle.std.proofs.Common.{List, ℕ, arith, drop, subst, sym}
use Rattle.std.proofs.lemmas.List.{take_rest}
use Rattle.std.proofs.lemmas.Grind.{common_steps}
use Rattle.recode.specs.calls.ConverterView.{converter_view}
use Rattle.test_examples.specs.Calls.{PassesOn}
use Rattle.test_examples.proofs.CallsLemmas.{passes_none, passes_on, passes_to_end, turn_all}
use Rattle.test_examples.proofs.converters.convert_part.Goals as goal

pub turns-init : goal.turns-init
turns-init c = record {
  passed = passes_none (converter_view c.args.converter.now) c.args.last c.args.src.now c.args.output.now.items c.args.log.now.items c.requires.ended;
  over = c.requires.over;
}

pub returns-in-InputEmpty-clause-law : goal.returns-in-InputEmpty-clause-law
returns-in-InputEmpty-clause-law c =
    let turn = c.in_ok-result in
    let new = c.convert_once.new in
    let none = turn_all turn.result (converter_view c.turns.converter) (converter_view new.converter) c.args.last c.turns.rest.now (drop turn.read c.turns.rest.now) c.in-InputEmpty.is turn.ensures.ends in
    passes_to_end (converter_view c.args.converter.now) (converter_view c.turns.converter) (converter_view new.converter) c.args.last c.args.src.now c.turns.rest.now (drop turn.read c.turns.rest.now)
    c.args.output.now.items c.turns.output.items new.output.items c.args.log.now.items c.turns.log.items new.log.items none c.turns.invariant.passed turn.ensures.law

pub turns-preserved : goal.turns-preserved
turns-preserved c =
    let turn = c.in_ok-result in
    let new = c.convert_once.new in
    record {
      passed = subst (λ (rest : List ℕ). PassesOn (converter_view c.args.converter.now) (converter_view new.converter) c.args.last c.args.src.now rest c.args.output.now.items new.output.items c.args.log.now.items new.log.items)
          (sym (take_rest c.turns.rest.now turn.read))
          (passes_on (converter_view c.args.converter.now) (converter_view c.turns.converter) (converter_view new.converter) c.args.last c.args.src.now c.turns.rest.now (drop turn.read c.turns.rest.now)
          c.args.output.now.items c.turns.output.items new.output.items c.args.log.now.items c.turns.log.items new.log.items c.turns.invariant.passed turn.ensures.law);
      over = grind (arith, common_steps);
    }
