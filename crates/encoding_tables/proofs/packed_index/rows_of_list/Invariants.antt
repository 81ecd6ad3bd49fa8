use Rattle.std.proofs.Common.{◌≡◌, ◌++◌, drop}
use Rattle.encoding_tables.specs.PackedRows.{listed_rows}
use Rattle.encoding_tables.proofs.packed_index.rows_of_list.Given as goal

abbrev pub invariant-loop-pointer : goal.invariant-loop-pointer
invariant-loop-pointer l = l.rows.items ++ listed_rows l.pointer (drop l.pointer l.list) ≡ listed_rows 0 l.list
