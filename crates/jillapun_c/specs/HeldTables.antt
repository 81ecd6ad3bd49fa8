-- The indexes that a handle of tables holds.
use Rattle.std.specs.Prelude.{Option, None, Some}
use Rattle.encoding_tables.specs.IndexLists.{IndexLists}
use Rattle.encoding_front.specs.Encodings.{no_lists}

-- those of tables, or none if there are no tables
abbrev pub held_lists : Option IndexLists → IndexLists
held_lists None = no_lists
held_lists (Some lists) = lists
