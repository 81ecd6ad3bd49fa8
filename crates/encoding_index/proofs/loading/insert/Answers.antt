use Rattle.std.proofs.Common.{◌≡◌, ◌⊎◌, Ok, Err, sym, subst, ◌∙◌}
use Rattle.std.specs.Option.{MatchOption}
use Rattle.encoding_tables.specs.declared.table_fault.TableFault.TheVariants.{Memory}
use Rattle.encoding_index.proofs.LoadLemmas.{listed_fault}
use Rattle.encoding_index.proofs.loading.insert.Goals as goal

pub returns-else-is_ranges-clause-fault : goal.returns-else-is_ranges-clause-fault
returns-else-is_ranges-clause-fault c =
    let listed = listed_fault c.args.tables.now c.args.kind c.args.rows.now (sym c.is_ranges.ensures ∙ c.if-is_ranges.false) in
    subst (λ fault. MatchOption fault ((c.insert_rows.result ≡ Ok tt) ⊎ (c.insert_rows.result ≡ Err Memory)) (λ f. c.insert_rows.result ≡ Err f)) (sym listed) c.insert_rows.ensures.fault
