use Rattle.encoding_mem.specs.laws.TextRun.{pieces_by-ascii}
use Rattle.encoding_mem.specs.laws.DecodedLength.{text_needs_single_byte}
use Rattle.encoding_tables.specs.laws.UserDefined.{cuts_user_defined, ascii_user_defined, first_piece_user_defined}
use Rattle.encoding_tables.proofs.user_defined_decoder.UserDefinedRuleDecoderRule.text_at.Goals as goal

pub returns-clause-pieces : goal.returns-clause-pieces
returns-clause-pieces c r = pieces_by-ascii first_piece_user_defined cuts_user_defined ascii_user_defined c.longer_ascii_prefix.result.now r c.longer_ascii_prefix.ensures.ascii

pub returns-clause-room : goal.returns-clause-room
returns-clause-room c k m = text_needs_single_byte c.longer_ascii_prefix.result.now c.longer_ascii_prefix.utf8 k m
