use Rattle.encoding_front.specs.laws.Encodings.{reads_by_step, set_pieces_at_start}
use Rattle.encoding_front.proofs.laws.characters_read_back.Goals as goal

pub returns-clause-steps : goal.returns-clause-steps
returns-clause-steps c = reads_by_step

pub returns-clause-start : goal.returns-clause-start
returns-clause-start c = set_pieces_at_start
