use Rattle.std.proofs.Common.{◌≡◌, map, drop}
use Rattle.std.specs.Char.{to_ascii_lowercase}
use Rattle.encoding_labels.specs.Labels.{label_number_in}
use Rattle.encoding_labels.specs.laws.ByLength.{entries}
use Rattle.encoding_labels.proofs.label.find.Given as goal

abbrev pub invariant-loop-label : goal.invariant-loop-label
invariant-loop-label l =
    label_number_in (entries (drop l.label-index l.rows)) (map to_ascii_lowercase l.text)
    ≡ label_number_in (entries l.rows) (map to_ascii_lowercase l.text)
