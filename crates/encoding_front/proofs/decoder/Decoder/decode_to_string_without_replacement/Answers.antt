use Rattle.std.proofs.Common.{◌≤◌, ap, sym, length, take, ◌++◌, ◌∙◌, arith, length-drop, encode_utf8_all}
use Rattle.encoding_mem.specs.Piece.{scalars}
use Rattle.encoding_front.specs.calls.DecoderViews.{decoder_view}
use Rattle.encoding_front.proofs.DestinationLemmas.{scalars_are, scalars_into, added, utf8_behind, spare, vec_written}
use Rattle.encoding_front.proofs.decoder.Decoder.decode_to_string_without_replacement.Goals as goal

pub put_bytes-requires-clause-utf8 : goal.put_bytes-requires-clause-utf8
put_bytes-requires-clause-utf8 c =
    let call = c.decode_to_utf8_without_replacement-outcome in
    let law = call.ensures.call.law in
    let old = c.take_bytes-bytes.result.items in
    let xs = c.deref_mut.result.now in
    let ys = call.new.dst in
    let f = c.fill_spare-len.ensures in
    let within : c.fill_spare-len.result ≤ length xs = omega (arith, f.within, ap length c.deref_mut.ensures.value) in
    utf8_behind old _ (scalars law.taken) c.take_bytes-bytes.ensures.utf8 (scalars_are _ (decoder_view c.args.self.now).state _ _ _ _ _ _ _ law)
    (vec_written old xs ys _ c.fill_spare-len.result call.result.2 _ within (omega (arith, law.writes.within, call.auto.dst)) call.auto.dst (sym c.deref_mut.ensures.len) (ap (take c.fill_spare-len.result) c.deref_mut.ensures.value ∙ f.items)
    ∙ ap (λ l. old ++ l) (added _ _ _ _ law.writes))

pub returns-clause-call : goal.returns-clause-call
returns-clause-call c =
    let call = c.decode_to_utf8_without_replacement-outcome in
    let old = c.take_bytes-bytes.result.items in
    let xs = c.deref_mut.result.now in
    let ys = call.new.dst in
    let f = c.fill_spare-len.ensures in
    let within : c.fill_spare-len.result ≤ length xs = omega (arith, f.within, ap length c.deref_mut.ensures.value) in
    let room = spare _ ys _ _ within call.auto.dst (ap length c.deref_mut.ensures.value ∙ f.full) in
    scalars_into _ _ _ _ _ _ _ _ _ _ _ (λ t h. c.put_bytes.ensures.bytes
    ∙ vec_written old xs ys _ c.fill_spare-len.result call.result.2 _ within (omega (arith, h.within, call.auto.dst)) call.auto.dst (sym c.deref_mut.ensures.len) (ap (take c.fill_spare-len.result) c.deref_mut.ensures.value ∙ f.items)
    ∙ ap (λ l. old ++ l) (added _ _ _ _ h) ∙ ap (λ l. l ++ encode_utf8_all t) c.take_bytes-bytes.ensures.bytes)
    (omega (arith, length-drop call.result.2 ys, room, c.put_bytes.ensures.len, c.put_bytes.ensures.capacity, c.take_bytes-bytes.ensures.capacity, f.capacity)) call.ensures.call

pub returns-clause-enough : goal.returns-clause-enough
returns-clause-enough c =
    let call = c.decode_to_utf8_without_replacement-outcome in
    let f = c.fill_spare-len.ensures in
    let within : c.fill_spare-len.result ≤ length c.deref_mut.result.now = omega (arith, f.within, ap length c.deref_mut.ensures.value) in
    let room = spare _ call.new.dst _ _ within call.auto.dst (ap length c.deref_mut.ensures.value ∙ f.full) in
    λ n asked fits. call.ensures.enough n asked (omega (arith, room, call.auto.dst, f.len, c.take_bytes-bytes.ensures.len, c.take_bytes-bytes.ensures.capacity, fits))
