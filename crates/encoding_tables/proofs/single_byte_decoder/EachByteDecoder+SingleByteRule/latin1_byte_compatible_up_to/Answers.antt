use Rattle.std.proofs.Common.{ℕ, List, subst, sym}
use Rattle.encoding_mem.specs.Piece.{Piece}
use Rattle.encoding_tables.specs.SingleByte.{IsLatin1UpTo}
use Rattle.encoding_tables.proofs.single_byte_decoder.EachByteDecoder+SingleByteRule.latin1_byte_compatible_up_to.Goals as goal

pub returns : goal.returns
returns c = subst (λ (pieces : List ℕ → List Piece). IsLatin1UpTo pieces c.args.bytes.now c.latin1_len.result) (sym c.rule.ensures) c.latin1_len.ensures
