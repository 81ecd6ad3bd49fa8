use Rattle.std.proofs.Common.{arith, drop, take}
use Rattle.recode.specs.Policy.{reference_form}
use Rattle.recode.specs.calls.ConverterView.{converter_view}
use Rattle.test_examples.proofs.CallsLemmas.{found_is_valid, passes_once, room_ends}
use Rattle.test_examples.proofs.converters.convert_once.Goals as goal

pub append_found-requires : goal.append_found-requires
append_found-requires c = found_is_valid c.convert-result.result.0 _ _ _ _ c.convert-result.ensures.ends

pub returns-clause-law : goal.returns-clause-law
returns-clause-law c =
    let call = c.convert-result in
    passes_once (converter_view c.args.converter.now) (converter_view call.new.self) c.args.last c.args.src.now (drop call.result.1 c.args.src.now) (take call.result.2 call.new.dst)
    c.args.output.now.items c.extend_from_slice.new.self.items c.append_found.new.output.items c.args.log.now.items c.append_found.new.log.items
    (reference_form (converter_view c.args.converter.now).job.policy) c.args.form call.result.0
    c.requires.form call.ensures.law c.in_ok-extend_from_slice.ensures.items c.in_ok-append_found.ensures

pub returns-clause-ends : goal.returns-clause-ends
returns-clause-ends c =
    let call = c.convert-result in
    room_ends call.result.0 (reference_form (converter_view c.args.converter.now).job.policy) (converter_view c.args.converter.now) (converter_view call.new.self) c.args.last c.args.src.now
    (drop call.result.1 c.args.src.now) call.new.dst call.result.2 call.ensures.law call.ensures.ends call.ensures.wrote.room (omega (arith, call.auto.dst))
