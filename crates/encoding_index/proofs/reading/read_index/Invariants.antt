use Rattle.encoding_tables.specs.Kinds.{index_size}
use Rattle.encoding_index.specs.IndexText.{lines_in}
use Rattle.encoding_index.specs.laws.Outcomes.{outcomes}
use Rattle.encoding_index.specs.laws.RowsLeft.{outcomes_left}
use Rattle.encoding_index.proofs.RowLemmas.{IsFilling}
use Rattle.encoding_index.proofs.reading.read_index.Given as goal

abbrev pub invariant-loop-row : goal.invariant-loop-row
invariant-loop-row l = IsFilling (index_size l.fn.kind) (outcomes (index_size l.fn.kind) 0 0 (lines_in l.fn.text)) l.list.items (outcomes_left l.row-iterator)
