-- What tables hold, as their callers see it.
use Rattle.std.specs.Prelude.{◌≡◌, ℕ, Bool, false, List, [], is_some, if◌then◌else◌, Option, None, IfSome}
use Rattle.std.specs.Option.{unwrap_or}
use Rattle.encoding_tables.specs.Kinds.{is_ranges}
use Rattle.encoding_tables.specs.RangeFaults.{bad_row}
use Rattle.encoding_tables.specs.TableFaults.{flat_fault}
use Rattle.encoding_tables.specs.declared.index_kind.IndexKind.{IndexKind}

-- what tables hold: the list of each kind of index, which has at each pointer its scalar, or 0, if
-- it is there, and the rows of index gb18030 ranges, if they are there
pub record IndexLists : Type 0 where
  pub flats : IndexKind → Option (List ℕ)
  pub rows : Option (List (ℕ × ℕ))

-- whether tables have the index of a kind: its list, or, of gb18030 ranges, its rows
abbrev pub has : IndexLists → IndexKind → Bool
has tables kind = if is_ranges kind then is_some tables.rows else is_some (tables.flats kind)

-- the entries of the list of a kind, one for each pointer: none if the list is not there
abbrev pub index_entries : IndexLists → IndexKind → List ℕ
index_entries tables kind = unwrap_or (tables.flats kind) []

-- the rows of index gb18030 ranges: none if the index is not there
abbrev pub range_rows : IndexLists → List (ℕ × ℕ)
range_rows tables = unwrap_or tables.rows []

-- tables hold no index with a fault, neither a list nor the rows of gb18030 ranges
abbrev pub AreAcceptedTables : IndexLists → Type 0
AreAcceptedTables tables = ((kind : IndexKind) → IfSome (tables.flats kind) (λ flat. flat_fault false kind flat ≡ None))
    × IfSome tables.rows (λ rows. bad_row rows ≡ None)
