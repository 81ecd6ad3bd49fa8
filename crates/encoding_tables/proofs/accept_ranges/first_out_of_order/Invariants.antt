use Rattle.std.proofs.Common.{◌≡◌, drop}
use Rattle.encoding_tables.specs.RangeFaults.{first_out_of_order}
use Rattle.encoding_tables.proofs.accept_ranges.first_out_of_order.Given as goal

abbrev pub invariant-loop-row : goal.invariant-loop-row
invariant-loop-row l = first_out_of_order l.row l.from (drop l.row l.rows) ≡ first_out_of_order 0 0 l.rows
