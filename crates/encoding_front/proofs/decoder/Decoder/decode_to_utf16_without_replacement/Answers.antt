use Rattle.std.proofs.Common.{◌-◌, length, ap, arith}
use Rattle.encoding_mem.specs.declared.codec.room.OutputUnit.TheVariants.{Units}
use Rattle.encoding_front.specs.calls.Seeking.{sought_needs}
use Rattle.encoding_front.specs.calls.VariantDecoders.{state_of}
use Rattle.encoding_front.proofs.DecodedLengthLemmas.{asked_covers, asked_never_full}
use Rattle.encoding_front.proofs.BomLemmas.{few_of}
use Rattle.encoding_front.proofs.decoder.Decoder.decode_to_utf16_without_replacement.Goals as goal

pub returns-clause-enough : goal.returns-clause-enough
returns-clause-enough c =
    let d = c.args.self.now in
    let own = state_of d.inner in
    let call = c.decode_into-outcome in
    let now = call.new.self in
    λ n asked fits. asked_never_full (sought_needs d.sought own.needs d.held) (sought_needs now.sought (state_of now.inner).needs now.held) Units c.args.last (length c.args.src.now) (length c.args.src.now - call.result.1) (length c.new-sink.result.units.now - c.new-sink.result.written) (length call.new.sink.units.now - call.new.sink.written) call.result.0 call.ensures.enough n
    (asked_covers d.sought own d.held Units (length c.args.src.now) n (few_of (length d.held) own.pending d.few) asked)
    (omega (arith, ap length c.new-sink.ensures.units, c.new-sink.ensures.written, fits))
