use Rattle.std.proofs.Common.{◌-◌, length, ap, arith}
use Rattle.encoding_mem.specs.declared.codec.room.OutputUnit.TheVariants.{Units}
use Rattle.encoding_mem.proofs.DecoderCallLemmas.{never_full}
use Rattle.encoding_mem.proofs.codec.sink_decoder.AnyRawDecoder.decode_to_utf16_raw.Goals as goal

pub returns-clause-enough : goal.returns-clause-enough
returns-clause-enough g c h =
    let s = g.D.SinkDecoder.state in
    let sink = c.new-sink.result in
    let d = c.decode_into-outcome.new in
    never_full (s c.args.self.now) (s d.self) Units c.args.last (length c.args.src.now) _ (length sink.units.now - sink.written) (length d.sink.units.now - d.sink.written) c.decode_into-outcome.result.0 c.decode_into-outcome.ensures.call.enough (omega (arith, h, c.new-sink.ensures.written, ap length c.new-sink.ensures.units))
