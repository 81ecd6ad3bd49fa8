use Rattle.std.proofs.Common.{◌∙◌, refl}
use Rattle.recode_log.proofs.JournalLemmas.{reader_by_log, writer_by_log, log_is, log_made}
use Rattle.recode_log.proofs.ports.Ports.tell_log.Goals as goal

pub invariant_of-self : goal.invariant_of-self
invariant_of-self g c =
    let p = c.args.self.now in
    let made = c.history.ensures ∙ c.tell.ensures.tells.offers.writes.made in
    let caught = c.and_log-self.ensures in
    let grew = log_made _ _ _ _ _ made p.of_log caught in
    record { of_log = log_is _ _ _ _ _ made p.of_log caught ∙ c.history.ensures; of_reader = reader_by_log _ _ _ _ p.of_reader grew; of_writer = writer_by_log _ _ _ _ p.of_writer grew }

pub returns-clause-journal : goal.returns-clause-journal
returns-clause-journal g c = record { calls = _; made = log_made _ _ _ _ _ (c.history.ensures ∙ c.tell.ensures.tells.offers.writes.made) c.args.self.now.of_log c.and_log-self.ensures; same = record { reader = refl; writer = refl; log = refl }; reader = refl; writer = refl }
