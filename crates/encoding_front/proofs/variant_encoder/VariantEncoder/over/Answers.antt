use Rattle.encoding_front.proofs.variant_encoder.VariantEncoder.over.Goals as goal

pub returns-in-Utf8 : goal.returns-in-Utf8
returns-in-Utf8 c = c.without_tables.ensures c.args.tables.now
