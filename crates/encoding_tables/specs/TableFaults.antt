-- Which lists are taken as indexes, and what is wrong with the others.
use Rattle.std.specs.Prelude.{ℕ, ◌+◌, Bool, List, length, ◌&&◌, ◌||◌, ◌==◌, nat_lt, not, if◌then◌else◌, Option, None, Some, slice_range}
use Rattle.std.specs.List.{position}
use Rattle.std.specs.Option.{option_map, option_or}
use Rattle.encoding_tables.specs.Kinds.{index_size, is_big5}
use Rattle.encoding_tables.specs.RangeFaults.{bad_row}
use Rattle.encoding_tables.specs.declared.index_kind.IndexKind.{IndexKind}
use Rattle.encoding_tables.specs.declared.index_kind.IndexKind.TheVariants.{Jis0208}
use Rattle.encoding_tables.specs.declared.table_fault.TableFault.{TableFault}
use Rattle.encoding_tables.specs.declared.table_fault.TableFault.TheVariants.{Present, Size, Entry, Reserved, Ranges}

-- whether a list of a kind may have a given entry: 0, a scalar from U+0080 to U+FFFF, or, in Big5,
-- one of plane 2
abbrev pub is_entry_of : IndexKind → ℕ → Bool
is_entry_of kind v = v == 0 || (not (nat_lt v 0x80) && nat_lt v 0xD800) || (not (nat_lt v 0xE000) && nat_lt v 0x10000)
    || ((is_big5 kind && not (nat_lt v 0x20000)) && nat_lt v 0x30000)

-- the pointer of the first entry that a list of the kind may not have, if there is one
abbrev pub first_bad_entry : IndexKind → List ℕ → Option ℕ
first_bad_entry kind flat = position (λ v. not (is_entry_of kind v)) flat

-- the first mapped pointer from 8836 to 10715, where Shift_JIS has end-user-defined characters
abbrev pub first_reserved : List ℕ → Option ℕ
first_reserved flat = option_map (λ k. 8836 + k) (position (λ v. not (v == 0)) (slice_range flat 8836 10716))

-- the fault of a list of JIS X 0208, if it maps a pointer from 8836 to 10715, where Shift_JIS has
-- end-user-defined characters: it names the first such pointer
abbrev pub reserved_fault : IndexKind → List ℕ → Option TableFault
reserved_fault Jis0208 flat = option_map Reserved (first_reserved flat)
reserved_fault _ flat = None

-- what is wrong with a list's entries, if anything: the first that the kind may not have, or else
-- the first that JIS X 0208 maps where it is reserved
abbrev pub entry_fault : IndexKind → List ℕ → Option TableFault
entry_fault kind flat = option_or (option_map Entry (first_bad_entry kind flat)) (reserved_fault kind flat)

-- why a list is not taken as the index of a kind, in this order: the kind is there, its size is
-- another, an entry may not be in it, a reserved pointer is mapped; none if it is taken
abbrev pub flat_fault : Bool → IndexKind → List ℕ → Option TableFault
flat_fault there kind flat = if there then Some Present
    else if not (length flat == index_size kind) then Some Size
    else entry_fault kind flat

-- why rows are not taken as gb18030 ranges: they are there, or else a bad row (`bad_row`); none if
-- taken
abbrev pub range_fault : Bool → List (ℕ × ℕ) → Option TableFault
range_fault there rows = if there then Some Present else option_map Ranges (bad_row rows)
