use Rattle.std.proofs.Common.{◌≡◌, false, [], take}
use Rattle.recode.specs.calls.ConverterView.{converter_view}
use Rattle.test_examples.specs.Calls.{PassesOn}
use Rattle.test_examples.proofs.converters.convert_singly.Given as goal

abbrev pub invariant-bytes : goal.invariant-bytes
invariant-bytes l = record {
  passed : PassesOn (converter_view l.initial.converter) (converter_view l.converter) false (take l.byte-index l.input) [] l.initial.output.items l.output.items l.initial.log.items l.log.items;
  over : (converter_view l.converter).over ≡ false;
  ended : (converter_view l.converter).ended ≡ false;
}
