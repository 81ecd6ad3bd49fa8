use Rattle.encoding_mem.specs.calls.DecodedLength.{is_units, decoded_length, decoded_length_utf16}
use Rattle.encoding_tables.specs.Utf16.{pieces_utf16}
use Rattle.encoding_tables.proofs.ReplacementLemmas.{no_pieces, no_room}
use Rattle.encoding_tables.proofs.utf16_decoder.Utf16RuleDecoderRule.text_at.Goals as goal

pub returns-clause-pieces : goal.returns-clause-pieces
returns-clause-pieces g c r = no_pieces (pieces_utf16 g.E.ByteOrder.big_endian) r

pub returns-clause-room : goal.returns-clause-room
returns-clause-room g c k m = no_room (is_units k) (decoded_length decoded_length_utf16 k) m
