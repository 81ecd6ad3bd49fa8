use Rattle.encoding_codecs.proofs.JisPointerLemmas.{euc_jp_pointer_is_least}
use Rattle.encoding_codecs.proofs.laws.euc_jp_pointers.Goals as goal

pub returns : goal.returns
returns c = euc_jp_pointer_is_least
