use Rattle.encoding_codecs.specs.laws.Iso2022JpSteps.{iso_2022_jp_steps}
use Rattle.encoding_codecs.proofs.laws.iso_2022_jp_steps.Goals as goal

pub returns : goal.returns
returns c = iso_2022_jp_steps
