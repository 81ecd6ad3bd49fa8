use Rattle.std.proofs.Common.{ℕ, ◌+◌, ◌<◌}
use Rattle.encoding_tables.specs.calls.SortedRows.{row_at}
use Rattle.encoding_tables.proofs.packed_index.greatest_entry.Given as goal

abbrev pub invariant-loop-entry : goal.invariant-loop-entry
invariant-loop-entry l = (k : ℕ) → k < l.entry-index → (row_at l.rows k).1 < l.greatest + 1
