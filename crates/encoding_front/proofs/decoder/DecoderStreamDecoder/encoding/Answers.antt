use Rattle.std.proofs.Common.{sym}
use Rattle.encoding_front.specs.laws.Stream.{in_force}
use Rattle.encoding_front.proofs.decoder.DecoderStreamDecoder.encoding.Goals as goal

pub returns : goal.returns
returns c =
    let d = c.args.self.now in
    sym (in_force d.sought d.encoding d.held d.prefix)
