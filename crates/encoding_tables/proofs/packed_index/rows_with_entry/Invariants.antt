use Rattle.std.proofs.Common.{◌≡◌, ◌++◌, drop}
use Rattle.encoding_tables.specs.PackedRows.{mapped_rows}
use Rattle.encoding_tables.proofs.packed_index.rows_with_entry.Given as goal

abbrev pub invariant-loop-row : goal.invariant-loop-row
invariant-loop-row l = l.mapped.items ++ mapped_rows (drop l.row-index l.rows) ≡ mapped_rows l.rows
