use Rattle.test_encoding_mem.proofs.Latin1Lemmas.{three_are_latin1}
use Rattle.test_encoding_mem.proofs.conversions.text_is_narrowed.Goals as goal

pub convert_utf8_to_latin1_lossy-requires-clause-latin1 : goal.convert_utf8_to_latin1_lossy-requires-clause-latin1
convert_utf8_to_latin1_lossy-requires-clause-latin1 g c = three_are_latin1
