use Rattle.std.proofs.Common.{ap, arith, length}
use Rattle.std.proofs.lemmas.Str.{chars-encodes}
use Rattle.encoding_mem.specs.calls.Writing.{encode_utf16_all}
use Rattle.encoding_mem.specs.laws.Writing.{adds-length}
use Rattle.encoding_mem.specs.laws.UnitRun.{plain_scalars, units_alone}
use Rattle.encoding_mem.proofs.codec.utf16_sink.Utf16SinkSink.put_units.Goals as goal

pub returns-clause-free : goal.returns-clause-free
returns-clause-free c =
    let adds = c.put_all.ensures.adds in
    let alone = units_alone c.args.units.now (λ k. omega (arith, c.requires.plain k)) in
    omega (arith, adds-length _ _ _ _ _ adds, adds.counted, adds.within, ap (λ cs. length (encode_utf16_all cs)) (chars-encodes c.args.units.now (plain_scalars c.args.units.now c.requires.plain)), ap length alone)

pub returns-clause-writes : goal.returns-clause-writes
returns-clause-writes c =
    let alone = units_alone c.args.units.now (λ k. omega (arith, c.requires.plain k)) in
    (c.put_all.ensures.same_reference, rw alone c.put_all.ensures.adds)
