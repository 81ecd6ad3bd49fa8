use Rattle.std.proofs.Common.{◌≤◌, length, sym, ◌∙◌, ap, subst, arith, refl, Global, Vec, ℕ}
use Rattle.std.specs.Str.{IsUtf8}
use Rattle.encoding_front.specs.contracts.decoder.DecoderStreamDecoder.TheImpl as decoder
use Rattle.encoding_front.specs.declared.mark.Mark.TheVariants.{Keep}
use Rattle.encoding_front.proofs.DecoderCallLemmas.{malformed_call, well_formed_call, kept}
use Rattle.encoding_front.proofs.encoding.Encoding.decode_without_bom_handling_and_without_replacement.Goals as goal

pub returns-in-Malformed-clause-malformed : goal.returns-in-Malformed-clause-malformed
returns-in-Malformed-clause-malformed c =
    let some = malformed_call (decoder.ghosts.view c.new_decoder_without_bom_handling-decoder.result) (decoder.ghosts.view c.decode_to_utf8_without_replacement-outcome.new.self) c.args.tables.now Keep c.args.self c.args.bytes.now
    c.decode_to_utf8_without_replacement-outcome.result.0 _ _ c.decode_to_utf8_without_replacement-outcome.result.1 _ c.new_decoder_without_bom_handling-decoder.ensures.begins c.in-Malformed.is c.decode_to_utf8_without_replacement-outcome.ensures.call.law in
    (λ _. some, λ _. refl)

pub from_utf8_unchecked-requires : goal.from_utf8_unchecked-requires
from_utf8_unchecked-requires c =
    let e = c.decode_to_utf8_without_replacement-outcome.ensures in
    let new = c.decode_to_utf8_without_replacement-outcome.new.dst in
    let fits : length c.in_ok-text.text.items ≤ length c.deref_mut.result.now = omega (arith, ap length c.deref_mut.ensures.value) in
    let asked = sym c.max_utf8_buffer_length_without_replacement-room.ensures ∙ c.in_ok-text.ensures.len in
    let k = well_formed_call (decoder.ghosts.view c.new_decoder_without_bom_handling-decoder.result) (decoder.ghosts.view c.decode_to_utf8_without_replacement-outcome.new.self) c.args.tables.now Keep c.args.self c.args.bytes.now
    c.deref_mut.result.now new c.decode_to_utf8_without_replacement-outcome.result.0 c.decode_to_utf8_without_replacement-outcome.result.1 c.decode_to_utf8_without_replacement-outcome.result.2 _ c.new_decoder_without_bom_handling-decoder.ensures.begins (e.enough _ asked fits) c.in_default.not-Malformed e.call in
    let within : c.decode_to_utf8_without_replacement-outcome.result.2 ≤ length new = omega (arith, e.call.law.writes.within, c.decode_to_utf8_without_replacement-outcome.auto.dst) in
    let wrote = c.truncate.ensures.items ∙ kept new _ c.in_ok-text.text.len c.decode_to_utf8_without_replacement-outcome.result.2 within (c.decode_to_utf8_without_replacement-outcome.auto.dst ∙ c.deref_mut.ensures.len) in
    subst IsUtf8 (sym wrote) k.utf8

pub returns-clause-text : goal.returns-clause-text
returns-clause-text c =
    let e = c.decode_to_utf8_without_replacement-outcome.ensures in
    let new = c.decode_to_utf8_without_replacement-outcome.new.dst in
    let fits : length c.in_ok-text.text.items ≤ length c.deref_mut.result.now = omega (arith, ap length c.deref_mut.ensures.value) in
    let asked = sym c.max_utf8_buffer_length_without_replacement-room.ensures ∙ c.in_ok-text.ensures.len in
    let k = well_formed_call (decoder.ghosts.view c.new_decoder_without_bom_handling-decoder.result) (decoder.ghosts.view c.decode_to_utf8_without_replacement-outcome.new.self) c.args.tables.now Keep c.args.self c.args.bytes.now
    c.deref_mut.result.now new c.decode_to_utf8_without_replacement-outcome.result.0 c.decode_to_utf8_without_replacement-outcome.result.1 c.decode_to_utf8_without_replacement-outcome.result.2 _ c.new_decoder_without_bom_handling-decoder.ensures.begins (e.enough _ asked fits) c.in_default.not-Malformed e.call in
    let within : c.decode_to_utf8_without_replacement-outcome.result.2 ≤ length new = omega (arith, e.call.law.writes.within, c.decode_to_utf8_without_replacement-outcome.auto.dst) in
    let wrote = c.truncate.ensures.items ∙ kept new _ c.in_ok-text.text.len c.decode_to_utf8_without_replacement-outcome.result.2 within (c.decode_to_utf8_without_replacement-outcome.auto.dst ∙ c.deref_mut.ensures.len) in
    ap (λ (v : Vec ℕ Global). v.items) c.from_utf8_unchecked.ensures.value ∙ wrote ∙ k.decoded.bytes

pub returns-clause-malformed : goal.returns-clause-malformed
returns-clause-malformed c =
    let e = c.decode_to_utf8_without_replacement-outcome.ensures in
    let new = c.decode_to_utf8_without_replacement-outcome.new.dst in
    let fits : length c.in_ok-text.text.items ≤ length c.deref_mut.result.now = omega (arith, ap length c.deref_mut.ensures.value) in
    let asked = sym c.max_utf8_buffer_length_without_replacement-room.ensures ∙ c.in_ok-text.ensures.len in
    let k = well_formed_call (decoder.ghosts.view c.new_decoder_without_bom_handling-decoder.result) (decoder.ghosts.view c.decode_to_utf8_without_replacement-outcome.new.self) c.args.tables.now Keep c.args.self c.args.bytes.now
    c.deref_mut.result.now new c.decode_to_utf8_without_replacement-outcome.result.0 c.decode_to_utf8_without_replacement-outcome.result.1 c.decode_to_utf8_without_replacement-outcome.result.2 _ c.new_decoder_without_bom_handling-decoder.ensures.begins (e.enough _ asked fits) c.in_default.not-Malformed e.call in
    (λ h. absurd (cc), λ some. absurd (cc (k.decoded.malformed_.1 some)))
