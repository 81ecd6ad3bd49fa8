use Rattle.test_encoding_mem.proofs.Latin1Lemmas.{a_is_latin1, e_is_latin1}
use Rattle.test_encoding_mem.proofs.conversions.latin1_becomes_text_and_back.Goals as goal

pub encode_latin1_lossy-requires : goal.encode_latin1_lossy-requires
encode_latin1_lossy-requires g c = e_is_latin1

pub encode_latin1_lossy-requires-2 : goal.encode_latin1_lossy-requires-2
encode_latin1_lossy-requires-2 g c = a_is_latin1
