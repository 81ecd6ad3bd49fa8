use Rattle.std.proofs.Common.{ℕ, ◌≢◌, ◌<◌, ◌≤◌}
use Rattle.encoding_tables.specs.calls.SortedRows.{row_at}
use Rattle.encoding_tables.proofs.accept.first_reserved_row.Given as goal

abbrev pub invariant-loop-pointer : goal.invariant-loop-pointer
invariant-loop-pointer l = (j : ℕ) → j < l.pointer-index → (row_at l.rows j).1 ≢ 0 → 8836 ≤ (row_at l.rows j).0 → 10716 ≤ (row_at l.rows j).0
