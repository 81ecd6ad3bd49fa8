use Rattle.std.proofs.Common.{◌∙◌, sym, ap, length, refl}
use Rattle.std.proofs.lemmas.List.{take_rest}
use Rattle.std.proofs.lemmas.Slice.{between_from_start}
use Rattle.encoding_mem.specs.declared.codec.reference.Reference.TheVariants.{Decimal}
use Rattle.encoding_mem.specs.laws.EncoderCalls.{encoded_items}
use Rattle.recode.specs.calls.PivotText.{pivot_chars}
use Rattle.recode.proofs.CodecCallLemmas.{bytes_parts, bytes_passed, units_parts, units_passed}
use Rattle.recode.proofs.codec_calls.encode_from_pivot.Goals as goal

pub returns-in-Utf8-clause-passed : goal.returns-in-Utf8-clause-passed
returns-in-Utf8-clause-passed g c =
    bytes_passed c.in-Utf8.text.now c.range-front.result.now c.range_from.result.now c.encode_from_utf8_raw-answer.result.1 _ c.range-front.utf8 c.count_characters.ensures
    (c.range-front.ensures.value ∙ between_from_start _ _) c.range_from.ensures.value
    ∙ ap (λ t. length (pivot_chars t)) (sym c.in-Utf8.is)

pub returns-in-Utf16-clause-passed : goal.returns-in-Utf16-clause-passed
returns-in-Utf16-clause-passed g c =
    let k = encoded_items Decimal _ _ _ _ _ _ _ _ (g.met.E.RawEncoder.laws c.args.encoder.now) c.encode_from_utf16_raw-answer.ensures.call.law in
    units_passed c.in-Utf16.units.now k.prefix c.encode_from_utf16_raw-answer.result.1 _ k.split c.count_in_units.ensures
    ∙ ap (λ t. length (pivot_chars t)) (sym c.in-Utf16.is)

pub returns-in-Utf8-clause-parts : goal.returns-in-Utf8-clause-parts
returns-in-Utf8-clause-parts g c given =
    let text = rw c.in-Utf8.is at given in
    let k = bytes_parts c.in-Utf8.text.now c.range-front.result.now c.range_from.result.now c.encode_from_utf8_raw-answer.result.1 c.range-front.utf8 text.scalars text.whole (c.range-front.ensures.value ∙ between_from_start _ _) c.range_from.ensures.value in
    rw c.in-Utf8.is (record { parts = k.0; read_text = record { scalars = k.1.0; whole = k.1.1 }; rest_text = record { scalars = k.2.0; whole = k.2.1 }; read_form = refl; rest_form = refl })

pub returns-in-Utf16-clause-parts : goal.returns-in-Utf16-clause-parts
returns-in-Utf16-clause-parts g c given =
    let text = rw c.in-Utf16.is at given in
    let law = encoded_items Decimal _ _ _ _ _ _ _ _ (g.met.E.RawEncoder.laws c.args.encoder.now) c.encode_from_utf16_raw-answer.ensures.call.law in
    let k = units_parts c.in-Utf16.units.now law.prefix _ c.encode_from_utf16_raw-answer.result.1 text.scalars text.whole law.split (take_rest c.in-Utf16.units.now c.encode_from_utf16_raw-answer.result.1) in
    rw c.in-Utf16.is (record { parts = k.0; read_text = record { scalars = k.1.0; whole = k.1.1 }; rest_text = record { scalars = k.2.0; whole = k.2.1 }; read_form = refl; rest_form = refl })

pub returns-in-Utf8-clause-call : goal.returns-in-Utf8-clause-call
returns-in-Utf8-clause-call g c = rw (c.in-Utf8.is, c.range_from.ensures.value) c.encode_from_utf8_raw-answer.ensures.call

pub returns-in-Utf16-clause-call : goal.returns-in-Utf16-clause-call
returns-in-Utf16-clause-call g c = rw (c.in-Utf16.is, take_rest c.in-Utf16.units.now c.encode_from_utf16_raw-answer.result.1) c.encode_from_utf16_raw-answer.ensures.call
