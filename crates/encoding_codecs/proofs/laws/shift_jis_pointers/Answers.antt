use Rattle.encoding_codecs.specs.laws.ShiftJisPointers.{pointer_is_least_used}
use Rattle.encoding_codecs.proofs.laws.shift_jis_pointers.Goals as goal

pub returns : goal.returns
returns c = pointer_is_least_used
