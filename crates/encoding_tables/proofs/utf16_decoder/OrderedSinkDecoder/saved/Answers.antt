use Rattle.std.proofs.Common.{◌≡◌, length, sym, subst}
use Rattle.encoding_mem.specs.calls.Resuming.{reading_of, saved_pending}
use Rattle.encoding_tables.specs.contracts.utf16_decoder.OrderedSinkDecoder.TheImpl.{resumed-value, state-value}
use Rattle.encoding_tables.specs.declared.utf16_decoder.Ordered.{Ordered}
use Rattle.encoding_tables.proofs.utf16_decoder.OrderedSinkDecoder.saved.Goals as goal

pub returns-in-Big-clause-same : goal.returns-in-Big-clause-same
returns-in-Big-clause-same c = subst (λ (o : Ordered). (resumed-value).it o c.saved.result.mode (saved_pending c.saved.result) ≡ reading_of ((state-value).it o)) (sym c.in-Big.is) c.saved.ensures.same

pub returns-in-Little-clause-same : goal.returns-in-Little-clause-same
returns-in-Little-clause-same c = subst (λ (o : Ordered). (resumed-value).it o c.saved-in-Little.result.mode (saved_pending c.saved-in-Little.result) ≡ reading_of ((state-value).it o)) (sym c.in-Little.is) c.saved-in-Little.ensures.same

pub returns-in-Big-clause-pending : goal.returns-in-Big-clause-pending
returns-in-Big-clause-pending c = subst (λ (o : Ordered). length (saved_pending c.saved.result) ≡ ((state-value).it o).pending) (sym c.in-Big.is) c.saved.ensures.pending

pub returns-in-Little-clause-pending : goal.returns-in-Little-clause-pending
returns-in-Little-clause-pending c = subst (λ (o : Ordered). length (saved_pending c.saved-in-Little.result) ≡ ((state-value).it o).pending) (sym c.in-Little.is) c.saved-in-Little.ensures.pending
