use Rattle.std.specs.Prelude.{[]}
use Rattle.std.specs.Option.{unwrap_or}
use Rattle.std.proofs.Common.{ap, sym, ◌∙◌}
use Rattle.encoding_codecs.specs.EucKr.{pieces_euc_kr}
use Rattle.encoding_mem.specs.calls.DecodedLength.{decoded_length_multibyte}
use Rattle.encoding_mem.specs.calls.Resuming.{resumed_plain}
use Rattle.encoding_codecs.proofs.euc_kr.CodecDecoder+LeadByteDecoderRule+EucKr.new.Goals as goal

pub returns-clause-fresh : goal.returns-clause-fresh
returns-clause-fresh c = record {
  pending = c.of_rule.ensures.fresh.pending;
  pieces = c.of_rule.ensures.fresh.pieces ∙ ap (λ e. pieces_euc_kr e.flat) c.new.ensures ∙ ap (λ o. pieces_euc_kr (unwrap_or o [])) (sym c.flat.ensures.entries);
  room = c.of_rule.ensures.fresh.room;
}

pub returns-clause-resumed : goal.returns-clause-resumed
returns-clause-resumed c = c.of_rule.ensures.resumed ∙ ap (λ P. resumed_plain P decoded_length_multibyte) (ap (λ e. pieces_euc_kr e.flat) c.new.ensures ∙ ap (λ o. pieces_euc_kr (unwrap_or o [])) (sym c.flat.ensures.entries))
