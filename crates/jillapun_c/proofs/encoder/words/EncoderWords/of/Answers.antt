use Rattle.std.proofs.Common.{refl}
use Rattle.jillapun_c.proofs.EncoderHandleLemmas.{saved_is}
use Rattle.jillapun_c.proofs.encoder.words.EncoderWords.of.Goals as goal

pub returns : goal.returns
returns c = saved_is _ c.args.saved refl c.number_of.ensures.number c.number_of_set.ensures
