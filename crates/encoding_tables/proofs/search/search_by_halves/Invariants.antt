use Rattle.std.proofs.Common.{◌-◌}
use Rattle.encoding_tables.proofs.SearchLemmas.{IsNarrowed}
use Rattle.encoding_tables.proofs.search.search_by_halves.Given as goal

abbrev pub invariant-halves : goal.invariant-halves
invariant-halves l = IsNarrowed l.rows l.key l.low l.high l.compared

abbrev pub decreases-halves : goal.decreases-halves
decreases-halves l = l.high - l.low
