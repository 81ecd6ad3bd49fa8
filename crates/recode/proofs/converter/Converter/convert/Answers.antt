use Rattle.std.proofs.Common.{◌-◌, ◌*◌, ◌++◌, length, drop, take, map, arith, subst}
use Rattle.encoding_front.specs.contracts.decoder.DecoderStreamDecoder.TheImpl.{view-value}
use Rattle.encoding_front.specs.contracts.variant_encoder.VariantEncoderSourceEncoder.TheImpl.{parts-value}
use Rattle.encoding_mem.specs.Items.{Byte}
use Rattle.recode.specs.Converter.{found_items}
use Rattle.recode.specs.Policy.{reference_form}
use Rattle.recode.specs.calls.EngineView.{over_text, standing}
use Rattle.recode.specs.calls.Turns.{ConvertEndsWith, TakesTurns, end_count}
use Rattle.recode.specs.declared.job.Policy.{Policy}
use Rattle.recode.proofs.SavedLemmas.{answered_codecs}
use Rattle.recode.proofs.ShellLemmas.{can_go_on, ends_of, holds_kept, part_of, rests_of, standing_kept}
use Rattle.recode.proofs.converter.Converter.convert.Goals as goal

pub convert-result-requires-clause-ready : goal.convert-result-requires-clause-ready
convert-result-requires-clause-ready c = can_go_on _ c.args.self.now.ended c.args.src.now c.args.last (c.args.self.now.rests c.requires.over) c.requires.ended (omega (arith, c.requires.limit, c.args.self.now.small))

pub returns-clause-law : goal.returns-clause-law
returns-clause-law c =
    let k = c.convert-result in
    let j = c.args.self.now.job in
    let c0 = standing view-value.it parts-value.it j.policy c.args.self.now.engine (over_text c.args.self.now.text) in
    let c1 = standing view-value.it parts-value.it j.policy k.new.self (over_text c.keep_text.new.text) in
    let kept = standing_kept view-value.it parts-value.it j.policy k.new.self k.new.pivot c.keep_text.new.text k.ensures.lent.pivot.kind c.keep_text.ensures in
    rw (c.settle-self.ensures.same) (
    part_of j c0 c1 _ _ _ _ c.args.last c.args.src.now _ _ (3 * end_count k.result.0) (2 * end_count k.result.0) _ k.result.0
    (subst (λ z. TakesTurns c0 z c.args.last c.args.src.now (drop k.result.1 c.args.src.now) (map Byte (take k.result.2 k.new.dst) ++ found_items (reference_form j.policy) k.result.0) (3 * end_count k.result.0) (2 * end_count k.result.0)) kept (k.ensures.law j.policy))
    (subst (λ z. ConvertEndsWith z (drop k.result.1 c.args.src.now) c.args.last (length k.new.dst - k.result.2) k.result.0) kept (k.ensures.ends j.policy))
    c.settle-self.ensures.ends)

pub returns-clause-ends : goal.returns-clause-ends
returns-clause-ends c =
    let k = c.convert-result in
    let j = c.args.self.now.job in
    let kept = standing_kept view-value.it parts-value.it j.policy k.new.self k.new.pivot c.keep_text.new.text k.ensures.lent.pivot.kind c.keep_text.ensures in
    rw (c.settle-self.ensures.same) (
    ends_of j (standing view-value.it parts-value.it j.policy k.new.self (over_text c.keep_text.new.text)) _ c.args.last _ k.result.0 _ _
    (subst (λ z. ConvertEndsWith z (drop k.result.1 c.args.src.now) c.args.last (length k.new.dst - k.result.2) k.result.0) kept (k.ensures.ends j.policy))
    c.settle-self.ensures.ends c.ends-self.ensures)

pub invariant_of-self-clause-holds : goal.invariant_of-self-clause-holds
invariant_of-self-clause-holds c =
    let k = c.convert-result in
    rw (c.settle-self.ensures.same) (holds_kept k.new.pivot c.keep_text.new.text k.new.self.from k.new.self.to k.ensures.lent.pivot.kind c.keep_text.ensures k.ensures.holds)

pub invariant_of-self-clause-within : goal.invariant_of-self-clause-within
invariant_of-self-clause-within c =
    let k = c.convert-result in
    rw (c.settle-self.ensures.same) (omega (arith, c.requires.limit, (k.ensures.law Policy.Decimal).counted))

pub invariant_of-self-clause-rests : goal.invariant_of-self-clause-rests
invariant_of-self-clause-rests c = λ open_.
    let k = c.convert-result in
    let kept = standing_kept view-value.it parts-value.it Policy.Decimal k.new.self k.new.pivot c.keep_text.new.text k.ensures.lent.pivot.kind c.keep_text.ensures in
    rw (c.settle-self.ensures.same) (
    rests_of (standing view-value.it parts-value.it Policy.Decimal k.new.self (over_text c.keep_text.new.text)) _ c.args.last _ k.result.0 _ _
    (omega (arith, c.requires.limit, (k.ensures.law Policy.Decimal).counted, c.args.self.now.small))
    (subst (λ z. ConvertEndsWith z (drop k.result.1 c.args.src.now) c.args.last (length k.new.dst - k.result.2) k.result.0) kept (k.ensures.ends Policy.Decimal))
    c.settle-self.ensures.ends c.ends-self.ensures open_)

pub invariant_of-self-clause-codecs : goal.invariant_of-self-clause-codecs
invariant_of-self-clause-codecs c =
    let own = c.args.self.now in
    rw (c.settle-self.ensures.same) (answered_codecs view-value.it parts-value.it own.job c.convert-result.new.self _ (c.convert-result.ensures.codecs own.job own.codecs))
