use Rattle.std.proofs.Common.{◌∙◌, true, take, map, arith}
use Rattle.std.specs.Char.{to_ascii_uppercase}
use Rattle.test_examples.proofs.OwnTextsLemmas.{all_put, capitals_encoded}
use Rattle.test_examples.proofs.own_texts.put_capitals.Goals as goal

pub returns : goal.returns
returns c =
    let call = c.encode_from-written in
    all_put true call.result.0 _ _ (map to_ascii_uppercase c.args.ascii.now) (take call.result.1 call.new.dst) _ _ c.new.ensures.coding call.ensures.call (call.ensures.enough (omega (arith, c.requires.room)))
    ∙ capitals_encoded c.args.ascii.now c.requires.ascii
