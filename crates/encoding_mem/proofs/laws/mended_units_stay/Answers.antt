use Rattle.encoding_mem.proofs.Utf16Lemmas.{mended_utf16, mended_again}
use Rattle.encoding_mem.proofs.laws.mended_units_stay.Goals as goal

pub returns : goal.returns
returns c = λ units once twice first second. mended_again once twice (mended_utf16 units once first) second
