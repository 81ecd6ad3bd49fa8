use Rattle.std.proofs.Common.{[], ◌∷◌, ◌∙◌, refl}
use Rattle.recode_log.specs.Call.{call_of}
use Rattle.recode_log.proofs.JournalLemmas.{writer_by_reader, log_by_reader, reader_is, reader_made}
use Rattle.recode_log.proofs.ports.Ports.read.Goals as goal

pub invariant_of-self : goal.invariant_of-self
invariant_of-self g c =
    let p = c.args.self.now in
    let made = c.history.ensures ∙ c.read-given.ensures.call in
    let caught = c.and_reader-self.ensures in
    let grew = reader_made _ _ _ _ (call_of c.read-given.result c.read-given.new.buf ∷ []) made p.of_reader caught in
    record { of_reader = reader_is _ _ _ _ (call_of c.read-given.result c.read-given.new.buf ∷ []) made p.of_reader caught ∙ c.history.ensures; of_writer = writer_by_reader _ _ _ (call_of c.read-given.result c.read-given.new.buf ∷ []) p.of_writer grew; of_log = log_by_reader _ _ _ (call_of c.read-given.result c.read-given.new.buf ∷ []) p.of_log grew }

pub returns-clause-journal : goal.returns-clause-journal
returns-clause-journal g c = record { calls = (call_of c.read-given.result c.read-given.new.buf ∷ []); made = reader_made _ _ _ _ (call_of c.read-given.result c.read-given.new.buf ∷ []) (c.history.ensures ∙ c.read-given.ensures.call) c.args.self.now.of_reader c.and_reader-self.ensures; same = record { reader = refl; writer = refl; log = refl }; writer = refl; log = refl }
