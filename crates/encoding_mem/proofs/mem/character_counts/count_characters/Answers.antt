use Rattle.std.proofs.Common.{◌∙◌, ap}
use Rattle.std.specs.List.{count_by}
use Rattle.encoding_mem.specs.Characters.{begins_character}
use Rattle.encoding_mem.proofs.CharacterLemmas.{characters_begin}
use Rattle.encoding_mem.proofs.mem.character_counts.count_characters.Goals as goal

pub returns : goal.returns
returns c = c.count_beginnings.ensures ∙ ap (count_by begins_character) c.as_bytes.ensures.value ∙ characters_begin _ c.utf8.text
