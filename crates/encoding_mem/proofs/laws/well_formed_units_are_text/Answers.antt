use Rattle.encoding_mem.proofs.Utf16Lemmas.{text_is_utf16, utf16_is_text}
use Rattle.encoding_mem.proofs.laws.well_formed_units_are_text.Goals as goal

pub returns-clause-text : goal.returns-clause-text
returns-clause-text c = text_is_utf16

pub returns-clause-units : goal.returns-clause-units
returns-clause-units c = utf16_is_text
