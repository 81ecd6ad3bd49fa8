use Rattle.std.specs.Prelude.{[]}
use Rattle.std.specs.Option.{unwrap_or}
use Rattle.std.proofs.Common.{ap, sym, ◌∙◌}
use Rattle.encoding_codecs.specs.ShiftJis.{pieces_shift_jis}
use Rattle.encoding_mem.specs.calls.DecodedLength.{decoded_length_multibyte}
use Rattle.encoding_mem.specs.calls.Resuming.{resumed_plain}
use Rattle.encoding_codecs.proofs.shift_jis.CodecDecoder+LeadByteDecoderRule+ShiftJis.new.Goals as goal

pub returns-clause-fresh : goal.returns-clause-fresh
returns-clause-fresh c = record {
  pending = c.of_rule.ensures.fresh.pending;
  pieces = c.of_rule.ensures.fresh.pieces ∙ ap (λ e. pieces_shift_jis e.jis0208) c.new.ensures ∙ ap (λ o. pieces_shift_jis (unwrap_or o [])) (sym c.flat.ensures.entries);
  room = c.of_rule.ensures.fresh.room;
}

pub returns-clause-resumed : goal.returns-clause-resumed
returns-clause-resumed c = c.of_rule.ensures.resumed ∙ ap (λ P. resumed_plain P decoded_length_multibyte) (ap (λ e. pieces_shift_jis e.jis0208) c.new.ensures ∙ ap (λ o. pieces_shift_jis (unwrap_or o [])) (sym c.flat.ensures.entries))
