use Rattle.encoding_mem.specs.laws.Verdict.{keeps_agreed, keeps_lost, keeps_false, verdict_at_end}
use Rattle.encoding_mem.proofs.laws.verdicts_are_kept.Goals as goal

pub returns-clause-agreed : goal.returns-clause-agreed
returns-clause-agreed c = keeps_agreed

pub returns-clause-lost : goal.returns-clause-lost
returns-clause-lost c = keeps_lost

pub returns-clause-stays : goal.returns-clause-stays
returns-clause-stays c = keeps_false

pub returns-clause-end : goal.returns-clause-end
returns-clause-end c ref need e coding = verdict_at_end ref e coding
