use Rattle.std.proofs.Common.{sym, subst, ap, ◌∙◌}
use Rattle.encoding_mem.specs.calls.Resuming.{HoldsFew, saved_pending}
use Rattle.encoding_tables.specs.contracts.utf16_decoder.OrderedSinkDecoder.TheImpl.{resumed-value}
use Rattle.encoding_tables.specs.declared.utf16_decoder.Ordered.{Ordered}
use Rattle.encoding_tables.proofs.utf16_decoder.OrderedSinkDecoder.resume.Goals as goal

pub resume-requires : goal.resume-requires
resume-requires c = subst (λ (o : Ordered). HoldsFew ((resumed-value).it o c.args.saved.mode (saved_pending c.args.saved))) c.in-Big.is c.requires

pub resume-requires-in-Little : goal.resume-requires-in-Little
resume-requires-in-Little c = subst (λ (o : Ordered). HoldsFew ((resumed-value).it o c.args.saved.mode (saved_pending c.args.saved))) c.in-Little.is c.requires

pub returns-in-Big-clause-same : goal.returns-in-Big-clause-same
returns-in-Big-clause-same c = c.resume.ensures.same ∙ ap (λ (o : Ordered). (resumed-value).it o c.args.saved.mode (saved_pending c.args.saved)) (sym c.in-Big.is)

pub returns-in-Little-clause-same : goal.returns-in-Little-clause-same
returns-in-Little-clause-same c = c.resume-in-Little.ensures.same ∙ ap (λ (o : Ordered). (resumed-value).it o c.args.saved.mode (saved_pending c.args.saved)) (sym c.in-Little.is)
