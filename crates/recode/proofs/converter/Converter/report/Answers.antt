use Rattle.recode.proofs.converter.Converter.report.Goals as goal

pub returns-then-self-clause-tells : goal.returns-then-self-clause-tells
returns-then-self-clause-tells c = c.report.ensures c.args.self.now.job.policy
