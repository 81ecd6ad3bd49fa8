use Rattle.std.proofs.Common.{◌∙◌, refl}
use Rattle.recode_log.proofs.JournalLemmas.{reader_by_writer, log_by_writer, writer_is, writer_made}
use Rattle.recode_log.proofs.ports.Ports.deliver.Goals as goal

pub invariant_of-self : goal.invariant_of-self
invariant_of-self g c =
    let p = c.args.self.now in
    let made = c.history.ensures ∙ c.deliver-delivered.ensures.offers.writes.made in
    let caught = c.and_writer-self.ensures in
    let grew = writer_made _ _ _ _ _ made p.of_writer caught in
    record { of_writer = writer_is _ _ _ _ _ made p.of_writer caught ∙ c.history.ensures; of_reader = reader_by_writer _ _ _ _ p.of_reader grew; of_log = log_by_writer _ _ _ _ p.of_log grew }

pub returns-clause-journal : goal.returns-clause-journal
returns-clause-journal g c = record { calls = _; made = writer_made _ _ _ _ _ (c.history.ensures ∙ c.deliver-delivered.ensures.offers.writes.made) c.args.self.now.of_writer c.and_writer-self.ensures; same = record { reader = refl; writer = refl; log = refl }; reader = refl; log = refl }
