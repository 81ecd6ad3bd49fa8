use Rattle.std.proofs.Common.{arith}
use Rattle.test_examples.proofs.OwnTextsLemmas.{malformed_counted, whole_counted}
use Rattle.test_examples.proofs.own_texts.count_characters.Goals as goal

pub returns-in-InputEmpty : goal.returns-in-InputEmpty
returns-in-InputEmpty c =
    let call = c.decode_into-result in
    let whole = whole_counted _ _ c.args.bytes.now call.result.1 0 call.new.sink.characters _ c.new.ensures.fresh (rw c.in-InputEmpty.is at call.ensures.call) in
    (whole.0, omega (arith, whole.1))

pub returns-in-Malformed : goal.returns-in-Malformed
returns-in-Malformed c =
    let call = c.decode_into-result in
    malformed_counted _ _ c.args.bytes.now call.result.1 0 call.new.sink.characters _ _ _ c.new.ensures.fresh (rw c.in-Malformed.is at call.ensures.call)
