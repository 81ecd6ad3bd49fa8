use Rattle.encoding_front.proofs.EncoderCallLemmas.{encoded}
use Rattle.encoding_front.proofs.encoder.Encoder.encode_source.Goals as goal

pub returns-clause-call : goal.returns-clause-call
returns-clause-call g c =
    rw (← c.self.view_is) (encoded _ _ _ _ c.self.invariant _ _ _ _ _ _ c.encode_from.ensures.call)
