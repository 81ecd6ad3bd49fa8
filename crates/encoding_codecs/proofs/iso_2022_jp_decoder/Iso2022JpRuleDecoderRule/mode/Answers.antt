use Rattle.std.proofs.Common.{ap}
use Rattle.encoding_codecs.specs.declared.iso_2022_jp_decoder.Mode.{Mode}
use Rattle.encoding_codecs.proofs.iso_2022_jp_decoder.Iso2022JpRuleDecoderRule.mode.Goals as goal

pub returns : goal.returns
returns c = ap (λ (m : Mode). record c.args.self.now { mode = m }) c.mode_number.ensures
