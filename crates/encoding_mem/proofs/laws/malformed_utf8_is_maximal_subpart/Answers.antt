use Rattle.encoding_mem.proofs.Utf8PieceLemmas.{pieces_are_maximal}
use Rattle.encoding_mem.proofs.laws.malformed_utf8_is_maximal_subpart.Goals as goal

pub returns : goal.returns
returns c = pieces_are_maximal
