-- What was saved of an encoder.
use Rattle.encoding_front.specs.calls.Encoder.{EncoderState}
use Rattle.encoding_front.specs.declared.encoder.saved_encoder.SavedEncoder.{SavedEncoder}

-- the output encoding of an encoder, and the set in force
abbrev pub saved_of : EncoderState → SavedEncoder
saved_of x = record { encoding = x.encoding; set = x.set }
