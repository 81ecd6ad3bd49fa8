use Rattle.encoding_mem.specs.laws.TextRun.{pieces_by-ascii}
use Rattle.encoding_mem.specs.laws.DecodedLength.{text_needs_single_byte}
use Rattle.encoding_tables.specs.laws.SingleByte.{cuts_single_byte, ascii_is_itself, first_piece_single_byte}
use Rattle.encoding_tables.proofs.single_byte_decoder.SingleByteRuleDecoderRule.text_at.Goals as goal

pub returns-clause-pieces : goal.returns-clause-pieces
returns-clause-pieces c r =
    let rule = c.args.self.now in
    pieces_by-ascii (first_piece_single_byte rule.flat) (cuts_single_byte rule.flat rule.scalars) (ascii_is_itself rule.flat) c.longer_ascii_prefix.result.now r c.longer_ascii_prefix.ensures.ascii

pub returns-clause-room : goal.returns-clause-room
returns-clause-room c k m = text_needs_single_byte c.longer_ascii_prefix.result.now c.longer_ascii_prefix.utf8 k m
