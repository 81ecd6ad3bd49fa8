use Rattle.std.proofs.Common.{ap, sym, ◌∙◌}
use Rattle.std.specs.Option.{unwrap_or}
use Rattle.std.specs.Prelude.{[]}
use Rattle.encoding_tables.specs.SingleByte.{pieces_single_byte}
use Rattle.encoding_mem.specs.calls.DecodedLength.{decoded_length_single_byte}
use Rattle.encoding_mem.specs.calls.Resuming.{resumed_plain, with_none_pending}
use Rattle.encoding_tables.proofs.single_byte_decoder.EachByteDecoder+SingleByteRule.new.Goals as goal

pub returns-clause-fresh : goal.returns-clause-fresh
returns-clause-fresh c = record {
  pending = c.of_rule.ensures.fresh.pending;
  pieces = c.of_rule.ensures.fresh.pieces ∙ ap (λ o. pieces_single_byte (unwrap_or o [])) (sym c.single_byte.ensures.entries);
  room = c.of_rule.ensures.fresh.room;
}

pub returns-clause-resumed : goal.returns-clause-resumed
returns-clause-resumed c = c.of_rule.ensures.resumed ∙ ap (λ P. with_none_pending (resumed_plain P decoded_length_single_byte)) (ap (λ o. pieces_single_byte (unwrap_or o [])) (sym c.single_byte.ensures.entries))
