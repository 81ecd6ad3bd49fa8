use Rattle.encoding_mem.specs.calls.DecodedLength.{is_units}
use Rattle.encoding_tables.specs.laws.Replacement.{replacement_left, replacement_needs}
use Rattle.encoding_tables.proofs.ReplacementLemmas.{no_pieces, no_room}
use Rattle.encoding_tables.proofs.replacement_decoder.ReplacementRuleDecoderRule.text_at.Goals as goal

pub returns-clause-pieces : goal.returns-clause-pieces
returns-clause-pieces c r = no_pieces (replacement_left c.args.self.now.error_returned) r

pub returns-clause-room : goal.returns-clause-room
returns-clause-room c k m = no_room (is_units k) (replacement_needs c.args.self.now.error_returned k) m
