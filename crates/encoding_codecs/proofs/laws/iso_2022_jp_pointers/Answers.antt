use Rattle.encoding_codecs.proofs.JisPointerLemmas.{iso_2022_jp_pointer_is_least}
use Rattle.encoding_codecs.proofs.laws.iso_2022_jp_pointers.Goals as goal

pub returns : goal.returns
returns c = iso_2022_jp_pointer_is_least
