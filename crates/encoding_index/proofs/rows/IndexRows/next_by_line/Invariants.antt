use Rattle.std.proofs.Common.{◌≡◌, length}
use Rattle.encoding_index.specs.laws.RowsLeft.{outcomes_left}
use Rattle.encoding_index.proofs.rows.IndexRows.next_by_line.Given as goal

abbrev pub invariant-loop-line : goal.invariant-loop-line
invariant-loop-line l = outcomes_left l.self ≡ outcomes_left l.fn.self

abbrev pub decreases-loop-line : goal.decreases-loop-line
decreases-loop-line l = length l.self.rest.now
