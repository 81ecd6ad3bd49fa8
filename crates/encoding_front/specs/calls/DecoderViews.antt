-- The word for what `Decoder` is to its callers.
use Rattle.encoding_front.specs.calls.Stream.{DecoderView}
use Rattle.encoding_front.specs.contracts.decoder.DecoderStreamDecoder.TheImpl.{view-value}
use Rattle.encoding_front.specs.declared.decoder.Decoder.{Decoder}

-- what contracts say of a `Decoder`: its pieces, the input's encoding, the room, whether it ended
abbrev pub decoder_view : Decoder → DecoderView
decoder_view d = (view-value).it d
