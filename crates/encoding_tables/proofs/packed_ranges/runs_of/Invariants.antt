use Rattle.std.proofs.Common.{◌≡◌, ◌++◌, drop}
use Rattle.encoding_tables.specs.laws.RangeRuns.{runs_of}
use Rattle.encoding_tables.proofs.packed_ranges.runs_of.Given as goal

abbrev pub invariant-loop-index : goal.invariant-loop-index
invariant-loop-index l = l.runs.items ++ runs_of (drop l.index l.rows) ≡ runs_of l.rows
