use Rattle.test_examples.proofs.OwnTextsLemmas.{next_capital}
use Rattle.test_examples.proofs.own_texts.CapitalsSource.advance.Goals as goal

pub returns-clause-next : goal.returns-clause-next
returns-clause-next c = next_capital c.args.self.now.ascii.now c.args.self.now.offset c.args.self.now.is_ascii c.requires
