use Rattle.std.proofs.Common.{◌≡◌, drop}
use Rattle.encoding_tables.specs.RangeFaults.{first_bad_value}
use Rattle.encoding_tables.proofs.accept_ranges.first_bad_value.Given as goal

abbrev pub invariant-loop-row : goal.invariant-loop-row
invariant-loop-row l = first_bad_value l.row l.least (drop l.row l.rows) ≡ first_bad_value 0 0x80 l.rows
