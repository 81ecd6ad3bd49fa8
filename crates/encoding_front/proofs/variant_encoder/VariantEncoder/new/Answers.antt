use Rattle.std.proofs.Common.{subst, sym}
use Rattle.encoding_mem.specs.calls.EncoderRule.{IsFreshEncoder}
use Rattle.encoding_front.specs.Encodings.{coding_of, lists_of, no_lists}
use Rattle.encoding_front.specs.calls.CodecBounds.{encoded_length_of, need_of}
use Rattle.encoding_front.specs.contracts.variant_encoder.VariantEncoderSourceEncoder.TheImpl.{parts-value}
use Rattle.encoding_front.proofs.variant_encoder.VariantEncoder.new.Goals as goal

pub returns-in-None : goal.returns-in-None
returns-in-None c =
    let e = c.args.encoding in
    subst (λ o. IsFreshEncoder ((parts-value).it c.without_tables.result) (need_of e) (coding_of (lists_of o) e) (encoded_length_of e)) (sym c.in-None.is) (c.without_tables.ensures no_lists)
