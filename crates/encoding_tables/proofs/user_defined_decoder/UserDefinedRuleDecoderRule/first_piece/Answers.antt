use Rattle.std.proofs.Common.{subst, length, lit<}
use Rattle.encoding_mem.specs.calls.DecoderRule.{TellsFirstPiece}
use Rattle.encoding_mem.specs.laws.DecodedLength.{roomy_basic}
use Rattle.encoding_mem.specs.declared.codec.first_piece.FirstPiece.TheVariants.{One}
use Rattle.encoding_tables.specs.laws.EachByte.{first_piece_of_byte, first_piece_by_first}
use Rattle.encoding_tables.specs.UserDefined.{user_char_of_byte, pieces_user_defined}
use Rattle.encoding_tables.specs.laws.UserDefined.{scalars_user_defined}
use Rattle.encoding_tables.proofs.user_defined_decoder.UserDefinedRuleDecoderRule.first_piece.Goals as goal

pub returns-clause-piece : goal.returns-clause-piece
returns-clause-piece c =
    subst (λ o. TellsFirstPiece pieces_user_defined pieces_user_defined c.args.bytes.now c.args._last (first_piece_of_byte o)) c.char_of.ensures.value
    (first_piece_by_first user_char_of_byte scalars_user_defined c.args.bytes.now c.args._last c.requires)

pub returns-clause-room : goal.returns-clause-room
returns-clause-room c = roomy_basic (length c.args.bytes.now) c.args._last (One c.char_of.result 1) (c.char_of.ensures.basic, lit< tt)
