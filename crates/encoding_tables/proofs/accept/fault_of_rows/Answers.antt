use Rattle.std.proofs.Common.{◌∙◌, sym}
use Rattle.encoding_tables.proofs.RowFaultLemmas.{fault_of_flat_list}
use Rattle.encoding_tables.proofs.accept.fault_of_rows.Goals as goal

pub returns-else-present : goal.returns-else-present
returns-else-present c = rw c.if-present.false (c.fault_of_entries.ensures ∙ sym (fault_of_flat_list c.args.kind c.args.rows.now))
