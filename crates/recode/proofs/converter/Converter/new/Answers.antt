use Rattle.encoding_front.specs.contracts.decoder.DecoderStreamDecoder.TheImpl.{view-value}
use Rattle.encoding_front.specs.contracts.variant_encoder.VariantEncoderSourceEncoder.TheImpl.{parts-value}
use Rattle.recode.specs.calls.EngineView.{over_text, standing}
use Rattle.recode.specs.declared.job.Policy.{Policy}
use Rattle.recode.proofs.ShellLemmas.{new_rests, none_between}
use Rattle.recode.proofs.converter.Converter.new.Goals as goal

pub invariant_of-result-clause-holds : goal.invariant_of-result-clause-holds
invariant_of-result-clause-holds c = (none_between _ c.new.result.from c.new.result.to c.new.ensures.from c.new.ensures.to).1

pub invariant_of-result-clause-rests : goal.invariant_of-result-clause-rests
invariant_of-result-clause-rests c = λ _.
    new_rests (standing view-value.it parts-value.it Policy.Decimal c.new.result (over_text _)) c.new.ensures.none (none_between (over_text _) c.new.result.from c.new.result.to c.new.ensures.from c.new.ensures.to).0
    (record { open_ = c.new.ensures.ready.open_; sound = record { index = c.new.ensures.ready.sound.index; bad = c.new.ensures.ready.sound.bad; lost = c.new.ensures.ready.sound.lost }; tells = c.new.ensures.ready.tells })
