use Rattle.std.specs.Prelude.{[]}
use Rattle.std.specs.Option.{unwrap_or}
use Rattle.std.proofs.Common.{ap, sym, ◌∙◌}
use Rattle.encoding_tables.specs.IndexLists.{index_entries}
use Rattle.encoding_tables.specs.declared.index_kind.IndexKind.TheVariants.{Gb18030}
use Rattle.encoding_codecs.specs.Gb18030.{pieces_gb18030}
use Rattle.encoding_mem.specs.calls.DecodedLength.{decoded_length_multibyte}
use Rattle.encoding_mem.specs.calls.Resuming.{resumed_plain}
use Rattle.encoding_codecs.proofs.gb18030_decoder.CodecDecoder+LeadByteDecoderRule+Gb18030Rule.new.Goals as goal

pub returns-clause-fresh : goal.returns-clause-fresh
returns-clause-fresh c = record {
  pending = c.of_rule.ensures.fresh.pending;
  pieces = c.of_rule.ensures.fresh.pieces ∙ ap (λ e. pieces_gb18030 e.index e.ranges) c.new.ensures
      ∙ ap (λ o. pieces_gb18030 (unwrap_or o []) c.ranges-2.result) (sym c.flat.ensures.entries)
      ∙ ap (λ rows. pieces_gb18030 (index_entries c.args.tables.now Gb18030) rows) (sym c.ranges-2.ensures.rows);
  room = c.of_rule.ensures.fresh.room;
}

pub returns-clause-resumed : goal.returns-clause-resumed
returns-clause-resumed c = c.of_rule.ensures.resumed ∙ ap (λ P. resumed_plain P decoded_length_multibyte) (ap (λ e. pieces_gb18030 e.index e.ranges) c.new.ensures ∙ ap (λ o. pieces_gb18030 (unwrap_or o []) c.ranges-2.result) (sym c.flat.ensures.entries) ∙ ap (λ rows. pieces_gb18030 (index_entries c.args.tables.now Gb18030) rows) (sym c.ranges-2.ensures.rows))
