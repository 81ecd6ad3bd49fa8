use Rattle.std.proofs.Common.{refl}
use Rattle.jillapun_c.proofs.EncodingNumberLemmas.{found_at}
use Rattle.jillapun_c.proofs.decoder.words.DecoderWords.of.Goals as goal

pub returns : goal.returns
returns c = rw c.number_of.ensures.number (rw (found_at c.args.saved.encoding) refl)
