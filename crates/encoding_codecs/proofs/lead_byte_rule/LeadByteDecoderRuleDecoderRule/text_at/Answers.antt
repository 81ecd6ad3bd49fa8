use Rattle.encoding_mem.specs.laws.TextRun.{pieces_by-ascii}
use Rattle.encoding_mem.specs.laws.DecodedLength.{text_needs_multibyte}
use Rattle.encoding_codecs.specs.TwoByte.{first_piece_by_lead}
use Rattle.encoding_codecs.specs.laws.TwoByte.{cuts_rule, lead_ascii}
use Rattle.encoding_codecs.proofs.lead_byte_rule.LeadByteDecoderRuleDecoderRule.text_at.Goals as goal

pub returns-clause-pieces : goal.returns-clause-pieces
returns-clause-pieces g c r =
    let s = c.args.self.now.encoding in
    let first = (g.T.LeadByteRule.rule s).first in
    let after = (g.T.LeadByteRule.rule s).after in
    pieces_by-ascii (first_piece_by_lead first after) (cuts_rule first after (g.T.LeadByteRule.rule s).decide (g.T.LeadByteRule.laws s)) (lead_ascii first after)
    c.longer_ascii_prefix.result.now r c.longer_ascii_prefix.ensures.ascii

pub returns-clause-room : goal.returns-clause-room
returns-clause-room g c k m = text_needs_multibyte c.longer_ascii_prefix.result.now c.longer_ascii_prefix.utf8 k m
