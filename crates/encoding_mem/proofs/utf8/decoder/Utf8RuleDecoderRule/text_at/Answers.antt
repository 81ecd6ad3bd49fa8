use Rattle.encoding_mem.specs.laws.Utf8.{pieces_utf8-text}
use Rattle.encoding_mem.specs.laws.DecodedLength.{text_needs}
use Rattle.encoding_mem.proofs.utf8.decoder.Utf8RuleDecoderRule.text_at.Goals as goal

pub returns-clause-pieces : goal.returns-clause-pieces
returns-clause-pieces c r = pieces_utf8-text c.text_at_start.result.now r c.text_at_start.utf8

pub returns-clause-room : goal.returns-clause-room
returns-clause-room c k m = text_needs c.text_at_start.result.now c.text_at_start.utf8 k m
