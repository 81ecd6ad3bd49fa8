use Rattle.std.proofs.Common.{◌++◌, ◌∙◌, ap}
use Rattle.test_examples.proofs.CallsLemmas.{gains_of_bad, gains_of_lost, on_ok}
use Rattle.test_examples.proofs.converters.append_found.Goals as goal

pub returns-in-Bad : goal.returns-in-Bad
returns-in-Bad c =
    let lines = c.in_ok-extend_from_slice.ensures.items ∙ ap (λ l. c.args.log.now.items ++ l) c.write_into-len.ensures.line in
    rw (c.in-Found.is, c.in-Bad.is) (gains_of_bad c.args.form c.in-Bad.offset c.in-Bad.length c.args.output.now.items c.args.log.now.items c.extend_from_slice.new.self.items (rw c.in-Bad.is at lines))

pub returns-in-Lost : goal.returns-in-Lost
returns-in-Lost c =
    let lines = c.in_ok-extend_from_slice.ensures.items ∙ ap (λ l. c.args.log.now.items ++ l) c.write_into-len.ensures.line in
    on_ok c.append_reference.result (λ is. rw (c.in-Found.is, c.in-Lost.is) (gains_of_lost c.args.form c.in-Lost.index c.in-Lost.scalar c.args.output.now.items c.append_reference.new.output.items c.args.log.now.items c.extend_from_slice.new.self.items is (rw c.in-Lost.is at lines))) c.append_reference.ensures
