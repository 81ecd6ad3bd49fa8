use Rattle.encoding_front.specs.laws.Encodings.{reads_back_exactly}
use Rattle.encoding_front.proofs.laws.texts_read_back.Goals as goal

pub returns : goal.returns
returns c = reads_back_exactly
