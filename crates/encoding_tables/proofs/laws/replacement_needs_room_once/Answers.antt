use Rattle.encoding_tables.proofs.ReplacementLengthLemmas.{needs_room_once}
use Rattle.encoding_tables.proofs.laws.replacement_needs_room_once.Goals as goal

pub returns : goal.returns
returns c = needs_room_once
