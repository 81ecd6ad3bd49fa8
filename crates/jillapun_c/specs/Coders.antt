-- What the handle of an encoder holds.
use Rattle.std.specs.Prelude.{Option}
use Rattle.encoding_front.specs.calls.Encoder.{EncoderState}
use Rattle.jillapun_c.specs.EncoderWords.{encoder_of}
use Rattle.jillapun_c.specs.declared.encoder.handle.EncoderHandle.{EncoderHandle}

-- the encoder that a handle holds, if it holds one
abbrev pub encoder_in : EncoderHandle → Option EncoderState
encoder_in h = encoder_of h.tables.tables h.words
