use Rattle.std.proofs.Common.{◌≡◌, false, length}
use Rattle.recode.specs.Converter.{owes}
use Rattle.recode.specs.calls.ConverterView.{converter_view}
use Rattle.test_examples.specs.Calls.{PassesOn}
use Rattle.test_examples.proofs.converters.convert_part.Given as goal

abbrev pub invariant-turns : goal.invariant-turns
invariant-turns l = record {
  passed : PassesOn (converter_view l.initial.converter) (converter_view l.converter) l.last l.initial.rest l.rest l.initial.output.items l.output.items l.initial.log.items l.log.items;
  over : (converter_view l.converter).over ≡ false;
}

abbrev pub decreases-turns : goal.decreases-turns
decreases-turns l = length (owes (converter_view l.converter) l.rest)
