use Rattle.std.proofs.Common.{subst}
use Rattle.encoding_mem.specs.Latin1.{IsLatin1Text}
use Rattle.encoding_mem.specs.LongestPrefix.{IsLongestPrefix}
use Rattle.encoding_mem.proofs.Latin1Lemmas.{str_up_to}
use Rattle.encoding_mem.proofs.mem.latin1.str_latin1_up_to.Goals as goal

pub returns : goal.returns
returns c = subst (λ l. IsLongestPrefix IsLatin1Text l c.first_byte_from.result) c.as_bytes.ensures.value (str_up_to c.as_bytes.result.now c.first_byte_from.result c.as_bytes.ensures.utf8 c.first_byte_from.ensures.within c.first_byte_from.ensures.below c.first_byte_from.ensures.ends)
