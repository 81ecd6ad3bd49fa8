use Rattle.std.proofs.Common.{◌≡◌, length}
use Rattle.encoding_tables.proofs.CountLemmas.{AreAdded}
use Rattle.encoding_tables.proofs.packed_index.ends.Given as goal

abbrev pub invariant-entries : goal.invariant-entries
invariant-entries l = AreAdded l.rows l.entry l.sum l.ends.items × (length l.ends.items ≡ length l.initial.ends.items)
