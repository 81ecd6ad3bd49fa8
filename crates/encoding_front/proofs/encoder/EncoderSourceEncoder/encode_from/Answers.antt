use Rattle.encoding_front.proofs.encoder.EncoderSourceEncoder.encode_from.Goals as goal

pub returns-clause-call : goal.returns-clause-call
returns-clause-call g c = c.encode_source.ensures.call.codec
