use Rattle.std.proofs.Common.{subst, sym}
use Rattle.encoding_front.specs.Encodings.{lists_of, no_lists}
use Rattle.encoding_front.specs.calls.VariantDecoders.{IsNewIn}
use Rattle.encoding_front.proofs.variant_decoder.VariantDecoder.new.Goals as goal

pub returns-in-None : goal.returns-in-None
returns-in-None c = subst (λ o. IsNewIn (lists_of o) c.args.encoding c.without_tables.result) (sym c.in-None.is) (c.without_tables.ensures no_lists)
