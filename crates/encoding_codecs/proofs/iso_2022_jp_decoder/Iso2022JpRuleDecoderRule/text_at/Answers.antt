use Rattle.std.proofs.Common.{refl, arith}
use Rattle.encoding_mem.specs.laws.DecodedLength.{text_needs_multibyte}
use Rattle.encoding_codecs.proofs.Iso2022JpPieceLemmas.{plain_pieces, no_pieces, no_room}
use Rattle.encoding_codecs.proofs.iso_2022_jp_decoder.Iso2022JpRuleDecoderRule.text_at.Goals as goal

pub returns-in-Ascii-clause-pieces : goal.returns-in-Ascii-clause-pieces
returns-in-Ascii-clause-pieces c r =
    let s = c.args.self.now in
    rw c.in-Ascii.is (plain_pieces s.jis0208.flat s.jis0208.scalars c.plain_text.result.now r c.plain_text.ensures.plain)

pub returns-in-Ascii-clause-room : goal.returns-in-Ascii-clause-room
returns-in-Ascii-clause-room c k m = text_needs_multibyte c.plain_text.result.now c.plain_text.utf8 k m

pub returns-in_default : goal.returns-in_default
returns-in_default c =
    let s = c.args.self.now in
    record { prefix = refl; few = omega arith; pieces = λ r. no_pieces s.jis0208.flat s.mode r; room = no_room }
