use Rattle.encoding_mem.proofs.BidiLemmas.{str_agrees, utf8_agrees, utf16_agrees}
use Rattle.encoding_mem.proofs.laws.bidi_checks_agree.Goals as goal

pub returns-clause-str : goal.returns-clause-str
returns-clause-str c = str_agrees

pub returns-clause-utf8 : goal.returns-clause-utf8
returns-clause-utf8 c = utf8_agrees

pub returns-clause-utf16 : goal.returns-clause-utf16
returns-clause-utf16 c = utf16_agrees
