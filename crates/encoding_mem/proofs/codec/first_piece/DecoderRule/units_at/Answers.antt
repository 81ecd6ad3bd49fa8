use Rattle.std.proofs.Common.{◌≡◌, ◌+◌, ℕ, [], true, false, length, refl, ap, arith}
use Rattle.std.proofs.lemmas.Str.{chars-encodes}
use Rattle.encoding_mem.specs.calls.TextRun.{text_len}
use Rattle.encoding_mem.specs.calls.Writing.{encode_utf16_all}
use Rattle.encoding_mem.specs.declared.codec.room.OutputUnit.TheVariants.{Units, Bytes, Replaced}
use Rattle.encoding_mem.proofs.codec.first_piece.DecoderRule.units_at.Goals as goal

pub returns-clause-room : goal.returns-clause-room
returns-clause-room g c =
    let units : text_len true [] ≡ 0 = ap (λ cs. length (encode_utf16_all cs)) (chars-encodes [] refl) in
    let bytes : text_len false [] ≡ 0 = refl in
    let none : (m : ℕ) → 0 + m ≡ m = λ m. omega arith in
    elim [
      | Units ↦ λ m. omega (arith, units, ap (g.Self.DecoderRule.needs c.args.self.now Units) (none m))
      | Bytes ↦ λ m. omega (arith, bytes, ap (g.Self.DecoderRule.needs c.args.self.now Bytes) (none m))
      | Replaced ↦ λ m. omega (arith, bytes, ap (g.Self.DecoderRule.needs c.args.self.now Replaced) (none m))
    ]
