use Rattle.recode.proofs.session.Session.report.Goals as goal

pub returns-in-Done-clause-tells : goal.returns-in-Done-clause-tells
returns-in-Done-clause-tells c = c.report.ensures c.args.self.now.job.policy
