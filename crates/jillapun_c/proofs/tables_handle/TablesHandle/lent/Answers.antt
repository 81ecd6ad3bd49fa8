use Rattle.std.proofs.Common.{ap, ◌∙◌}
use Rattle.jillapun_c.specs.HeldTables.{held_lists}
use Rattle.jillapun_c.specs.declared.tables_handle.TablesHandle.{TablesHandle}
use Rattle.jillapun_c.proofs.TablesLemmas.{lists_lent}
use Rattle.jillapun_c.proofs.tables_handle.TablesHandle.lent.Goals as goal

pub returns-clause-lists : goal.returns-clause-lists
returns-clause-lists c = lists_lent c.get.result c.copied.result.tables c.get.ensures ∙ ap (λ (h : TablesHandle). held_lists h.tables) c.copied.ensures
