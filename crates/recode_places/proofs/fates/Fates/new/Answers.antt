use Rattle.std.proofs.Common.{sym}
use Rattle.recode_places.proofs.FateLemmas.{starts_kept}
use Rattle.recode_places.proofs.fates.Fates.new.Goals as goal

pub invariant_of-result-clause-known : goal.invariant_of-result-clause-known
invariant_of-result-clause-known c = sym (starts_kept c.args.tables.now c.args.to)
