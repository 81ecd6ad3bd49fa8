use Rattle.std.proofs.Common.{◌≡◌, ◌∙◌, ℕ, List, refl, sym, ap}
use Rattle.std.specs.Str.{chars, IsUtf8}
use Rattle.std.proofs.lemmas.Str.{encodes-chars, scalars-chars}
use Rattle.encoding_mem.specs.Piece.{text}
use Rattle.encoding_mem.specs.Utf8.{pieces_utf8}
use Rattle.encoding_mem.specs.calls.Writing.{encode_utf16_all}
use Rattle.encoding_mem.specs.laws.ReadBack.{text_pieces-text}
use Rattle.encoding_mem.specs.laws.Utf8.{utf8_reads_back}
use Rattle.encoding_mem.proofs.mem.utf8_conversions.convert_utf8_to_utf16.Goals as goal

-- the pieces of a text give its characters
text_of_utf8 : (bs : List ℕ) → IsUtf8 bs → text (pieces_utf8 bs) ≡ chars bs
text_of_utf8 bs utf8 =
    ap (λ l. text (pieces_utf8 l)) (sym (encodes-chars bs utf8)) ∙ ap text (utf8_reads_back (chars bs) (scalars-chars bs utf8)) ∙ text_pieces-text (chars bs)

pub from_utf8_unchecked-requires : goal.from_utf8_unchecked-requires
from_utf8_unchecked-requires c = let latin1 = c.if-is_latin1_text.ensures refl in latin1.0

pub returns-then-is_latin1_text-clause-units : goal.returns-then-is_latin1_text-clause-units
returns-then-is_latin1_text-clause-units c =
    let latin1 = c.if-is_latin1_text.ensures refl in
    c.convert_str_to_utf16.ensures.units ∙ ap (λ l. encode_utf16_all (chars l)) c.from_utf8_unchecked.ensures ∙ ap encode_utf16_all (sym (text_of_utf8 c.args.src.now latin1.0))

pub returns-in-Ok-clause-units : goal.returns-in-Ok-clause-units
returns-in-Ok-clause-units c =
    let cases = c.in-Ok.ensures.cases in
    c.convert_str_to_utf16-in-Ok.ensures.units ∙ ap (λ l. encode_utf16_all (chars l)) cases.0 ∙ ap encode_utf16_all (sym (text_of_utf8 c.args.src.now cases.1))
