use Rattle.std.proofs.Common.{true, length, subst}
use Rattle.encoding_mem.specs.calls.DecoderRule.{TellsFirstPiece, HasRoomFor}
use Rattle.encoding_tables.specs.laws.Replacement.{replacement_left, decide_replacement, replacement_first_piece, replacement_needs, replacement_roomy}
use Rattle.encoding_tables.proofs.replacement_decoder.ReplacementRuleDecoderRule.first_piece.Goals as goal

pub returns-then-self-clause-piece : goal.returns-then-self-clause-piece
returns-then-self-clause-piece c =
    let e = c.args.self.now.error_returned in
    subst (λ t. TellsFirstPiece (replacement_left e) (replacement_left true) c.args._bytes.now c.args._last (decide_replacement t)) c.if-self.true (replacement_first_piece e c.args._bytes.now c.args._last c.requires)

pub returns-else-self-clause-piece : goal.returns-else-self-clause-piece
returns-else-self-clause-piece c =
    let e = c.args.self.now.error_returned in
    subst (λ t. TellsFirstPiece (replacement_left e) (replacement_left true) c.args._bytes.now c.args._last (decide_replacement t)) c.if-self.false (replacement_first_piece e c.args._bytes.now c.args._last c.requires)

pub returns-then-self-clause-room : goal.returns-then-self-clause-room
returns-then-self-clause-room c =
    let e = c.args.self.now.error_returned in
    subst (λ t. HasRoomFor (replacement_needs e) (replacement_needs true) (length c.args._bytes.now) c.args._last (decide_replacement t)) c.if-self.true (replacement_roomy e (length c.args._bytes.now) c.args._last)

pub returns-else-self-clause-room : goal.returns-else-self-clause-room
returns-else-self-clause-room c =
    let e = c.args.self.now.error_returned in
    subst (λ t. HasRoomFor (replacement_needs e) (replacement_needs true) (length c.args._bytes.now) c.args._last (decide_replacement t)) c.if-self.false (replacement_roomy e (length c.args._bytes.now) c.args._last)
