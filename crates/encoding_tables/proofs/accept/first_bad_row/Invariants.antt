use Rattle.std.proofs.Common.{ℕ, ◌≡◌, ◌<◌, true}
use Rattle.encoding_tables.specs.calls.SortedRows.{row_at}
use Rattle.encoding_tables.specs.TableFaults.{is_entry_of}
use Rattle.encoding_tables.proofs.accept.first_bad_row.Given as goal

abbrev pub invariant-loop-pointer : goal.invariant-loop-pointer
invariant-loop-pointer l = (j : ℕ) → j < l.pointer-index → is_entry_of l.kind (row_at l.rows j).1 ≡ true
