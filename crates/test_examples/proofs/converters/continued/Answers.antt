use Rattle.std.proofs.Common.{sym, ◌∙◌}
use Rattle.recode.specs.calls.ConverterView.{converter_view}
use Rattle.test_examples.proofs.converters.continued.Goals as goal

pub resumed-requires : goal.resumed-requires
resumed-requires c = ∣ (converter_view c.args.converter.now, c.requires, c.saved.ensures) ∣₁

pub returns : goal.returns
returns c = c.resumed_converters_go_on.ensures c.saved.result.0 c.saved.result.1.now (converter_view c.resumed.result) (converter_view c.args.converter.now) (c.resumed.ensures.lists ∙ sym c.requires) c.resumed.ensures.saves c.saved.ensures
