use Rattle.std.proofs.Common.{◌∙◌, ap, arith, sym}
use Rattle.encoding_front.specs.Encodings.{pieces_of}
use Rattle.encoding_front.specs.calls.DecoderViews.{decoder_view}
use Rattle.recode_places.specs.Fates.{only_one, read_alone}
use Rattle.recode_places.proofs.CallLemmas.{call_chars, call_is_utf8}
use Rattle.recode_places.proofs.FateLemmas.{read_if_not, read_if_whole}
use Rattle.recode_places.proofs.fates.Fates.read.Goals as goal

pub from_utf8_unchecked-requires : goal.from_utf8_unchecked-requires
from_utf8_unchecked-requires c =
    let call = c.decode_to_utf8_without_replacement-result in
    call_is_utf8 (decoder_view c.new_decoder_without_bom_handling-decoder.result).state (decoder_view call.new.self).state _ _ _ _ _ _ _ call.ensures.call.law

pub returns-in_default : goal.returns-in_default
returns-in_default c =
    let call = c.decode_to_utf8_without_replacement-result in
    let begins = c.new_decoder_without_bom_handling-decoder.ensures.begins in
    let same = begins.pieces c.args.bytes.now ∙ ap (λ e. pieces_of c.args.self.now.tables.now e c.args.bytes.now) c.output_encoding.ensures in
    sym (ap read_alone (sym same) ∙ read_if_not (decoder_view c.new_decoder_without_bom_handling-decoder.result) (decoder_view call.new.self) c.args.bytes.now _ _ _ _ call.result.0 call.ensures.call (omega arith) c.in_default.not-InputEmpty)

pub returns : goal.returns
returns c =
    let call = c.decode_to_utf8_without_replacement-result in
    let begins = c.new_decoder_without_bom_handling-decoder.ensures.begins in
    let same = begins.pieces c.args.bytes.now ∙ ap (λ e. pieces_of c.args.self.now.tables.now e c.args.bytes.now) c.output_encoding.ensures in
    c.only_char.ensures
    ∙ ap only_one (call_chars (decoder_view c.new_decoder_without_bom_handling-decoder.result).state (decoder_view call.new.self).state _ _ _ _ _ _ _ call.ensures.call.law _ c.from_utf8_unchecked.ensures)
    ∙ sym (read_if_whole (decoder_view c.new_decoder_without_bom_handling-decoder.result) (decoder_view call.new.self) c.args.bytes.now _ _ _ _ call.result.0 call.ensures.call c.in-InputEmpty.is)
    ∙ ap read_alone same
