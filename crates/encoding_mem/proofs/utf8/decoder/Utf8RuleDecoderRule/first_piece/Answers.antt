use Rattle.std.proofs.Common.{length}
use Rattle.encoding_mem.specs.Utf8.{first_piece_utf8}
use Rattle.encoding_mem.specs.laws.Utf8Decide.{decide_utf8}
use Rattle.encoding_mem.specs.laws.Utf8.{cuts_utf8}
use Rattle.encoding_mem.specs.laws.Shows.{shows_first_piece}
use Rattle.encoding_mem.specs.laws.DecodedLength.{roomy_short}
use Rattle.encoding_mem.proofs.Utf8PieceLemmas.{shows_utf8}
use Rattle.encoding_mem.proofs.utf8.decoder.Utf8RuleDecoderRule.first_piece.Goals as goal

pub returns-clause-piece : goal.returns-clause-piece
returns-clause-piece c = rw c.decide.ensures.value (shows_first_piece first_piece_utf8 cuts_utf8 c.args.bytes.now c.args.last (decide_utf8 c.args.bytes.now c.args.last) c.requires (shows_utf8 c.args.bytes.now c.args.last c.requires))

pub returns-clause-room : goal.returns-clause-room
returns-clause-room c = roomy_short (length c.args.bytes.now) c.args.last c.decide.result c.decide.ensures.short
