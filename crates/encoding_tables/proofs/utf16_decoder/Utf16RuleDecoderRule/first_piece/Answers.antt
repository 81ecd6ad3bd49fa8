use Rattle.std.proofs.Common.{subst, sym, arith}
use Rattle.encoding_mem.specs.laws.Shows.{shows_first_piece}
use Rattle.encoding_tables.specs.Utf16.{first_piece_utf16}
use Rattle.encoding_tables.specs.laws.Utf16Decide.{decide_utf16}
use Rattle.encoding_tables.specs.laws.Utf16.{cuts_utf16}
use Rattle.encoding_tables.proofs.Utf16Lemmas.{shows_utf16, IsUtf16Prefix, of_utf16, roomy_utf16}
use Rattle.encoding_tables.proofs.utf16_decoder.Utf16RuleDecoderRule.first_piece.Goals as goal

pub returns-clause-piece : goal.returns-clause-piece
returns-clause-piece g c =
    let big_endian = g.E.ByteOrder.big_endian in
    rw c.decide.ensures (shows_first_piece (first_piece_utf16 big_endian) (cuts_utf16 big_endian) c.args.bytes.now c.args.last (decide_utf16 big_endian c.args.bytes.now c.args.last) c.requires (shows_utf16 big_endian c.args.bytes.now c.args.last c.requires))

pub returns-clause-room : goal.returns-clause-room
returns-clause-room g c =
    roomy_utf16 c.args.bytes.now c.args.last c.decide.result
    (subst (IsUtf16Prefix c.args.bytes.now c.args.last) (sym c.decide.ensures) (of_utf16 g.E.ByteOrder.big_endian c.args.bytes.now c.args.last (λ k. omega (arith, c.type_inv.bytes k))))
