use Rattle.std.proofs.Common.{◌∙◌, ap}
use Rattle.encoding_front.specs.laws.Encoder.{output_twice}
use Rattle.encoding_front.specs.EncodingTable.{codec_kind_of}
use Rattle.encoding_front.specs.Encodings.{coding_of, lists_of}
use Rattle.encoding_front.specs.declared.encoding.Encoding.{Encoding}
use Rattle.encoding_front.proofs.encoder.Encoder.new.Goals as goal
use Rattle.encoding_front.specs.Codecs.{codec_of}

pub returns-clause-coding : goal.returns-clause-coding
returns-clause-coding c =
    let t = lists_of c.args.tables in
    ap (coding_of t) c.output_encoding-encoding.ensures ∙ ap (λ (e : Encoding). (codec_of t (codec_kind_of e)).coding) (output_twice c.args.encoding)
