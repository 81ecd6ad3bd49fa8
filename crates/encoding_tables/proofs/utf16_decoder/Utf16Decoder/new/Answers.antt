use Rattle.std.proofs.Common.{Bool, sym, ap, ◌∙◌}
use Rattle.encoding_mem.specs.calls.Resuming.{resumed_plain}
use Rattle.encoding_mem.specs.calls.DecodedLength.{decoded_length_utf16}
use Rattle.encoding_tables.specs.Utf16.{pieces_utf16}
use Rattle.encoding_tables.specs.contracts.utf16_decoder.OrderedSinkDecoder.TheImpl.{resumed-value}
use Rattle.encoding_tables.specs.declared.utf16_decoder.Ordered.{Ordered}
use Rattle.encoding_tables.proofs.utf16_decoder.Utf16Decoder.new.Goals as goal
use Rattle.encoding_tables.proofs.utf16_decoder.Utf16Decoder.new.Goals.{then-big_endian, else-big_endian}

pub returns-clause-resumed : goal.returns-clause-resumed
returns-clause-resumed c = elim c.if-big_endian.branch [
  | then-big_endian w ↦ ap (λ (o : Ordered). (resumed-value).it o) w.inner-is ∙ w.new.ensures.resumed ∙ ap (λ (b : Bool). resumed_plain (pieces_utf16 b) decoded_length_utf16) (sym w.if-big_endian.true)
  | else-big_endian w ↦ ap (λ (o : Ordered). (resumed-value).it o) w.inner-is ∙ w.new-else-big_endian.ensures.resumed ∙ ap (λ (b : Bool). resumed_plain (pieces_utf16 b) decoded_length_utf16) (sym w.if-big_endian.false)
]
