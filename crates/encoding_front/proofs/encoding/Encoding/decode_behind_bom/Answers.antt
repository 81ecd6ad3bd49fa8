use Rattle.std.proofs.Common.{◌≤◌, length, sym, ◌∙◌, ap, subst, arith, Global, Vec, ℕ}
use Rattle.std.specs.Str.{IsUtf8}
use Rattle.encoding_front.specs.contracts.decoder.DecoderStreamDecoder.TheImpl as decoder
use Rattle.encoding_front.proofs.DecoderCallLemmas.{kept, whole_call}
use Rattle.encoding_front.proofs.encoding.Encoding.decode_behind_bom.Goals as goal

pub from_utf8_unchecked-text-requires : goal.from_utf8_unchecked-text-requires
from_utf8_unchecked-text-requires c =
    let e = c.decode_to_utf8-written.ensures in
    let new = c.decode_to_utf8-written.new.dst in
    let fits : length c.in_ok-text.text.items ≤ length c.deref_mut.result.now = omega (arith, ap length c.deref_mut.ensures.value) in
    let asked = sym c.max_utf8_buffer_length-room.ensures ∙ c.in_ok-text.ensures.len in
    let k = whole_call (decoder.ghosts.view c.new-decoder.result) (decoder.ghosts.view c.decode_to_utf8-written.new.self) c.args.tables.now c.args.mark c.args.self c.args.bytes.now
    c.deref_mut.result.now new c.decode_to_utf8-written.result.0 c.decode_to_utf8-written.result.1 c.decode_to_utf8-written.result.2 _ c.decode_to_utf8-written.result.3 c.new-decoder.ensures.begins (e.enough _ asked fits) e.call in
    let within : c.decode_to_utf8-written.result.2 ≤ length new = omega (arith, e.call.law.writes.within, c.decode_to_utf8-written.auto.dst) in
    let wrote = c.truncate.ensures.items ∙ kept new _ c.in_ok-text.text.len c.decode_to_utf8-written.result.2 within (c.decode_to_utf8-written.auto.dst ∙ c.deref_mut.ensures.len) in
    subst IsUtf8 (sym wrote) k.utf8

pub returns-clause-text : goal.returns-clause-text
returns-clause-text c =
    let e = c.decode_to_utf8-written.ensures in
    let new = c.decode_to_utf8-written.new.dst in
    let fits : length c.in_ok-text.text.items ≤ length c.deref_mut.result.now = omega (arith, ap length c.deref_mut.ensures.value) in
    let asked = sym c.max_utf8_buffer_length-room.ensures ∙ c.in_ok-text.ensures.len in
    let k = whole_call (decoder.ghosts.view c.new-decoder.result) (decoder.ghosts.view c.decode_to_utf8-written.new.self) c.args.tables.now c.args.mark c.args.self c.args.bytes.now
    c.deref_mut.result.now new c.decode_to_utf8-written.result.0 c.decode_to_utf8-written.result.1 c.decode_to_utf8-written.result.2 _ c.decode_to_utf8-written.result.3 c.new-decoder.ensures.begins (e.enough _ asked fits) e.call in
    let within : c.decode_to_utf8-written.result.2 ≤ length new = omega (arith, e.call.law.writes.within, c.decode_to_utf8-written.auto.dst) in
    let wrote = c.truncate.ensures.items ∙ kept new _ c.in_ok-text.text.len c.decode_to_utf8-written.result.2 within (c.decode_to_utf8-written.auto.dst ∙ c.deref_mut.ensures.len) in
    record {
      bytes = ap (λ (v : Vec ℕ Global). v.items) c.from_utf8_unchecked-text.ensures.value ∙ wrote ∙ k.decoded.bytes;
      malformed_ = k.decoded.malformed_;
    }
