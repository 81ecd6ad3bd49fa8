-- A whole index text (the Encoding Standard, section 5, "Indexes"): its lines, its rows, its first fault, and the list that it stands for.
use Rattle.std.specs.Prelude.{ℕ, ◌+◌, ◌-◌, nat_eq, nat_lt, if◌then◌else◌, List, [], ◌∷◌, ◌++◌, length, take, drop, Option, Some, None}
use Rattle.std.specs.List.{starts_with, filter_map, last_or}
use Rattle.std.specs.Option.{option_map_or}
use Rattle.std.specs.Str.Lines.{lines}
use Rattle.encoding_tables.specs.PackedRows.{flat_list}
use Rattle.encoding_index.specs.IndexLine.{is_skipped, row_in}
use Rattle.encoding_index.specs.declared.fault.IndexFault.{IndexFault}
use Rattle.encoding_index.specs.declared.fault.IndexFaultKind.{IndexFaultKind}
use Rattle.encoding_index.specs.declared.fault.IndexFaultKind.TheVariants.{Row, Order, Pointer, Memory}

-- one more than the greatest pointer of index gb18030 ranges, which is 1237575
abbrev pub range_pointer_end : ℕ
range_pointer_end = 1237576

-- the byte order mark of UTF-8: EF BB BF
abbrev pub mark : List ℕ
mark = 0xEF ∷ 0xBB ∷ 0xBF ∷ []

-- a text without the byte order mark EF BB BF, if it begins with one
abbrev pub without_mark : List ℕ → List ℕ
without_mark text = if starts_with nat_eq text mark then drop 3 text else text

-- the lines of a text, without a byte order mark EF BB BF at its start: each ends at LF, at CR and
-- LF, or at the text's end
abbrev pub lines_in : List ℕ → List (List ℕ)
lines_in text = lines (without_mark text)

-- the rows among lines of an index text, in their order, each as its pointer and its code point
abbrev pub rows_in : List (List ℕ) → List (ℕ × ℕ)
rows_in lines = filter_map row_in lines

-- the least pointer above that of the last of some rows, or 0 if there are none
abbrev pub least_above : List (ℕ × ℕ) → ℕ
least_above rows = option_map_or (λ row. row.0 + 1) (last_or None rows) 0

-- the fault of a row, if it has one: its pointer is below `least`, so out of order, or is not
-- below `size`, so none of the index
unfoldable pub row_fault : ℕ → ℕ → ℕ × ℕ → Option IndexFaultKind
row_fault size least row = if nat_lt row.0 least then Some Order else if nat_lt row.0 size then None else Some Pointer

-- the fault of a line of an index text, if it has one: it is neither skipped nor a row, or its
-- row's pointer is below `least`, or is not below `size`
abbrev pub line_fault : ℕ → ℕ → List ℕ → Option IndexFaultKind
line_fault size least line = if is_skipped line then None else elim (row_in line) [ None ↦ Some Row | Some row ↦ row_fault size least row ]

-- the first fault of lines that follow others, if any, with its line's number, the others counted:
-- a row's pointer must be above that of the row before and below `size`
abbrev pub first_fault_behind : ℕ → List (List ℕ) → List (List ℕ) → Option IndexFault
first_fault_behind size before [] = None
first_fault_behind size before (line ∷ after) =
    elim (line_fault size (least_above (rows_in before)) line) [
      | None ↦ first_fault_behind size (before ++ line ∷ []) after
      | Some kind ↦ Some (record { line = length before + 1; kind = kind })
    ]

-- the first fault of an index text, if any, with its line's number from 1: a line neither skipped
-- nor a row, a pointer not above that of the row before, or one not below `size`
abbrev pub first_fault : ℕ → List ℕ → Option IndexFault
first_fault size text = first_fault_behind size [] (lines_in text)

-- all rows of an index text, in their order, each as its pointer and its code point
abbrev pub text_rows : List ℕ → List (ℕ × ℕ)
text_rows text = rows_in (lines_in text)

-- the lines of an index text before the first faulty one, or all of them if none is faulty
abbrev pub lines_before_fault : ℕ → List ℕ → List (List ℕ)
lines_before_fault size text =
    elim (first_fault size text) [ None ↦ lines_in text | Some fault ↦ take (fault.line - 1) (lines_in text) ]

-- The rows of an index text before its first faulty line, or all of them if none is faulty. It is
-- no abbreviation, so that the proofs of callers show its name and do not read the text.
unfoldable pub rows_before_fault : ℕ → List ℕ → List (ℕ × ℕ)
rows_before_fault size text = rows_in (lines_before_fault size text)

-- the list that an index text stands for: for each pointer below `size` the code point of its row,
-- or 0 if it has none
abbrev pub text_list : ℕ → List ℕ → List ℕ
text_list size text = flat_list size (text_rows text)

-- the fault of an index text that was not read since memory was refused: it names line 0
abbrev pub memory_fault : IndexFault
memory_fault = record { line = 0; kind = Memory }
