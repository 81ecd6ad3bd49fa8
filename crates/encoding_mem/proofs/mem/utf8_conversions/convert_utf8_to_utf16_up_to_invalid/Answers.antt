use Rattle.std.proofs.Common.{length, ap, arith}
use Rattle.encoding_mem.specs.laws.Writing.{adds-length}
use Rattle.encoding_mem.proofs.Utf8TextLemmas.{fits_longest}
use Rattle.encoding_mem.proofs.mem.utf8_conversions.convert_utf8_to_utf16_up_to_invalid.Goals as goal

pub returns-clause-longest : goal.returns-clause-longest
returns-clause-longest c =
    let t = c.text_prefix in
    let p = c.put_prefix-read in
    let w = p.ensures.writes.1 in
    let size = adds-length _ _ _ _ _ w in
    let start = c.new-sink.ensures.written in
    let room = ap length c.new-sink.ensures.units in
    fits_longest c.args.src.now t.result.now p.result (length c.args.dst.now) t.ensures.prefix t.ensures.longest t.utf8 p.ensures.boundary
    (omega (arith, w.counted, w.within, start, room)) (λ d rest at. omega (arith, p.ensures.next d rest at, w.counted, w.within, size, start, room))
