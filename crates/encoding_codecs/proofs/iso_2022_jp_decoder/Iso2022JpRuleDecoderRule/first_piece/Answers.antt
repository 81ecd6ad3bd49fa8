use Rattle.std.proofs.Common.{length}
use Rattle.encoding_mem.specs.laws.DecodedLength.{roomy_modest}
use Rattle.encoding_codecs.proofs.Iso2022JpPieceLemmas.{iso_2022_jp_first_piece, iso_2022_jp_modest}
use Rattle.encoding_codecs.proofs.iso_2022_jp_decoder.Iso2022JpRuleDecoderRule.first_piece.Goals as goal

pub returns-clause-piece : goal.returns-clause-piece
returns-clause-piece c =
    let s = c.args.self.now in
    rw c.decide.ensures (iso_2022_jp_first_piece s.jis0208.flat s.jis0208.scalars s.mode c.args.bytes.now c.args.last c.requires)

pub returns-clause-room : goal.returns-clause-room
returns-clause-room c =
    let s = c.args.self.now in
    rw c.decide.ensures
    (roomy_modest (length c.args.bytes.now) c.args.last _ (iso_2022_jp_modest s.jis0208.flat s.jis0208.scalars s.mode c.args.bytes.now c.args.last c.requires))
