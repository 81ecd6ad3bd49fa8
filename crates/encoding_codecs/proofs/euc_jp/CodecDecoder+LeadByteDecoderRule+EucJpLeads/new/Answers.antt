use Rattle.std.specs.Prelude.{[]}
use Rattle.std.specs.Option.{unwrap_or}
use Rattle.std.proofs.Common.{ap, sym, ◌∙◌}
use Rattle.encoding_tables.specs.IndexLists.{index_entries}
use Rattle.encoding_tables.specs.declared.index_kind.IndexKind.TheVariants.{Jis0208}
use Rattle.encoding_codecs.specs.EucJp.{pieces_euc_jp}
use Rattle.encoding_mem.specs.calls.DecodedLength.{decoded_length_multibyte}
use Rattle.encoding_mem.specs.calls.Resuming.{resumed_plain}
use Rattle.encoding_codecs.proofs.euc_jp.CodecDecoder+LeadByteDecoderRule+EucJpLeads.new.Goals as goal

pub returns-clause-fresh : goal.returns-clause-fresh
returns-clause-fresh c = record {
  pending = c.of_rule.ensures.fresh.pending;
  pieces = c.of_rule.ensures.fresh.pieces ∙ ap (λ e. pieces_euc_jp e.jis0208 e.jis0212) c.new.ensures
      ∙ ap (λ o. pieces_euc_jp (unwrap_or o []) c.flat-2.result) (sym c.flat.ensures.entries)
      ∙ ap (λ o. pieces_euc_jp (index_entries c.args.tables.now Jis0208) (unwrap_or o [])) (sym c.flat-2.ensures.entries);
  room = c.of_rule.ensures.fresh.room;
}

pub returns-clause-resumed : goal.returns-clause-resumed
returns-clause-resumed c = c.of_rule.ensures.resumed ∙ ap (λ P. resumed_plain P decoded_length_multibyte) (ap (λ e. pieces_euc_jp e.jis0208 e.jis0212) c.new.ensures ∙ ap (λ o. pieces_euc_jp (unwrap_or o []) c.flat-2.result) (sym c.flat.ensures.entries) ∙ ap (λ o. pieces_euc_jp (index_entries c.args.tables.now Jis0208) (unwrap_or o [])) (sym c.flat-2.ensures.entries))
