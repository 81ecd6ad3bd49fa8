use Rattle.std.proofs.Common.{◌∙◌, ap, arith, refl, encode_utf8_all}
use Rattle.encoding_mem.specs.laws.Writing.{adds-length}
use Rattle.encoding_mem.proofs.UnitRunLemmas.{adds_into, units_spell}
use Rattle.encoding_mem.proofs.codec.utf8_sink.Utf8SinkSink.put_units.Goals as goal

pub returns-clause-free : goal.returns-clause-free
returns-clause-free c =
    let done = c.put_plain_units.ensures in
    let s = c.args.self.now in
    let us = c.args.units.now in
    let is = ap encode_utf8_all (units_spell us c.requires.plain) in
    let adds = adds_into s.bytes.now c.put_plain_units.new.dst (encode_utf8_all us) s.written c.put_plain_units.result s.within done.fits (done.text ∙ is) done.behind (omega (arith, c.put_plain_units.auto.dst)) in
    omega (arith, adds-length _ _ _ _ _ adds, adds.counted, adds.within)

pub returns-clause-writes : goal.returns-clause-writes
returns-clause-writes c =
    let done = c.put_plain_units.ensures in
    let s = c.args.self.now in
    let us = c.args.units.now in
    let is = ap encode_utf8_all (units_spell us c.requires.plain) in
    (refl, adds_into s.bytes.now c.put_plain_units.new.dst (encode_utf8_all us) s.written c.put_plain_units.result s.within done.fits (done.text ∙ is) done.behind (omega (arith, c.put_plain_units.auto.dst)))
