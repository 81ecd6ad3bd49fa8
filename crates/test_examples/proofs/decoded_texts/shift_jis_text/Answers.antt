use Rattle.encoding_front.specs.laws.Calls.{wrote_text}
use Rattle.test_examples.proofs.decoded_texts.shift_jis_text.Goals as goal

pub returns-2 : goal.returns-2
returns-2 c =
    let begun = c.new_decoder_without_bom_handling-decoder.ensures.begins in
    let wrote = wrote_text _ _ c.args.bytes.now _ _ _ _ _ c.decode_to_string-result.ensures.call c.in-InputEmpty.is in
    record { text = (c.load.new.tables, c.in_ok-load.ensures.loaded, rw (c.in_ok-text.ensures.bytes, begun.pieces c.args.bytes.now) at wrote.0) }
