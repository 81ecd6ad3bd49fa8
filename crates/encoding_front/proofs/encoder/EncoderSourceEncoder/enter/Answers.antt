use Rattle.std.proofs.Common.{◌≡◌, sym, subst}
use Rattle.encoding_mem.specs.calls.EncoderRule.{EncoderParts, Moves}
use Rattle.encoding_front.specs.calls.Encoder.{EncoderState, coding_in}
use Rattle.encoding_front.specs.contracts.variant_encoder.VariantEncoderSourceEncoder.TheImpl.{parts-value}
use Rattle.encoding_front.proofs.encoder.EncoderSourceEncoder.enter.Goals as goal

pub returns-clause-set : goal.returns-clause-set
returns-clause-set c = subst (λ (x : EncoderState). Moves (coding_in x) x.set c.args.next → ((parts-value).it c.enter.new.self).set ≡ c.args.next) c.self.view_is (λ moves. c.enter.ensures.set
    (subst (λ (p : EncoderParts). Moves p.coding ((parts-value).it c.self.inside.variant).set c.args.next) (sym c.self.invariant) moves))
