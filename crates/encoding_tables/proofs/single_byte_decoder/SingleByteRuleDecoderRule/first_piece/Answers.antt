use Rattle.encoding_tables.specs.laws.SingleByte.{single_byte_first_piece}
use Rattle.encoding_tables.proofs.single_byte_decoder.SingleByteRuleDecoderRule.first_piece.Goals as goal

pub returns-clause-piece : goal.returns-clause-piece
returns-clause-piece c =
    rw (c.prefix_of.ensures, c.char_of.ensures)
    (single_byte_first_piece c.args.self.now.flat c.args.self.now.scalars c.args.bytes.now c.args._last c.requires)
