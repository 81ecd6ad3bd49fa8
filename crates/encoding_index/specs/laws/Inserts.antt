-- What tables make of the rows that were read of a text.
use Rattle.std.specs.Prelude.{◌≡◌, ℕ, is_some, if◌then◌else◌, List, Option, Some}
use Rattle.std.specs.Bool.{MatchBool}
use Rattle.encoding_tables.specs.Kinds.{index_size, is_ranges}
use Rattle.encoding_tables.specs.IndexLists.{IndexLists, has}
use Rattle.encoding_tables.specs.PackedRows.{flat_list}
use Rattle.encoding_tables.specs.TableFaults.{flat_fault, range_fault}
use Rattle.encoding_tables.specs.declared.index_kind.IndexKind.{IndexKind}
use Rattle.encoding_tables.specs.declared.table_fault.TableFault.{TableFault}

-- why tables do not take the rows
abbrev pub rows_fault : IndexLists → IndexKind → List (ℕ × ℕ) → Option TableFault
rows_fault tables kind rows =
    if is_ranges kind then range_fault (is_some tables.rows) rows else flat_fault (has tables kind) kind (flat_list (index_size kind) rows)

-- the tables have what the rows stand for
abbrev pub HaveRows : IndexLists → IndexKind → List (ℕ × ℕ) → Type 0
HaveRows tables kind rows = MatchBool (is_ranges kind) (tables.rows ≡ Some rows) (tables.flats kind ≡ Some (flat_list (index_size kind) rows))
