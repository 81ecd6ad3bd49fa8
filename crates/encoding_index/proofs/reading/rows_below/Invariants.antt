use Rattle.encoding_index.specs.IndexText.{lines_in}
use Rattle.encoding_index.specs.laws.Outcomes.{outcomes}
use Rattle.encoding_index.specs.laws.RowsLeft.{outcomes_left}
use Rattle.encoding_index.proofs.RowLemmas.{IsGathering}
use Rattle.encoding_index.proofs.reading.rows_below.Given as goal

abbrev pub invariant-loop-row : goal.invariant-loop-row
invariant-loop-row l = IsGathering (outcomes l.fn.size 0 0 (lines_in l.fn.text)) l.rows.items (outcomes_left l.row-iterator)
