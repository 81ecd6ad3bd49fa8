use Rattle.std.proofs.Common.{◌-◌, ◌+◌, length}
use Rattle.encoding_tables.proofs.SearchLemmas.{IsBuilding}
use Rattle.encoding_tables.proofs.pointer_rows.directory.Given as goal

abbrev pub invariant-numbers : goal.invariant-numbers
invariant-numbers l = IsBuilding l.rows l.begins.items l.offset

abbrev pub decreases-numbers : goal.decreases-numbers
decreases-numbers l = l.first + 1 - length l.begins.items

abbrev pub invariant-rows : goal.invariant-rows
invariant-rows l = IsBuilding l.rows l.begins.items l.offset
