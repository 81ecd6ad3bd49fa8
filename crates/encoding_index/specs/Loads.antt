-- What it is to load an index text into tables.
use Rattle.std.specs.Prelude.{◌≡◌, ◌≢◌, ◌⊎◌, ℕ, false, is_some, if◌then◌else◌, List, Option, Some, Result, Err}
use Rattle.std.specs.Bool.{MatchBool}
use Rattle.std.specs.Option.{option_map, option_or}
use Rattle.encoding_tables.specs.Kinds.{index_size, is_ranges}
use Rattle.encoding_tables.specs.IndexLists.{IndexLists, has}
use Rattle.encoding_tables.specs.TableFaults.{flat_fault, range_fault}
use Rattle.encoding_tables.specs.declared.index_kind.IndexKind.{IndexKind}
use Rattle.encoding_tables.specs.declared.table_fault.TableFault.{TableFault}
use Rattle.encoding_tables.specs.declared.table_fault.TableFault.TheVariants.{Memory}
use Rattle.encoding_index.specs.IndexText.{range_pointer_end, first_fault, text_list, text_rows, memory_fault}
use Rattle.encoding_index.specs.declared.fault.IndexFault.{IndexFault}
use Rattle.encoding_index.specs.declared.fault.LoadFault.{LoadFault}
use Rattle.encoding_index.specs.declared.fault.LoadFault.TheVariants.{Text, Table}

-- one more than the greatest pointer that an index text of the kind may have
abbrev pub pointers_of : IndexKind → ℕ
pointers_of kind = if is_ranges kind then range_pointer_end else index_size kind

-- the first fault of an index text as one of the kind, if any, and the number of its line from 1
abbrev pub text_fault : IndexKind → List ℕ → Option IndexFault
text_fault kind text = first_fault (pointers_of kind) text

-- the fault, if any, for which tables do not take what an index text stands for as the kind: its
-- rows for gb18030 ranges, else its list
abbrev pub table_fault : IndexLists → IndexKind → List ℕ → Option TableFault
table_fault tables kind text =
    if is_ranges kind then range_fault (is_some tables.rows) (text_rows text)
    else flat_fault (has tables kind) kind (text_list (index_size kind) text)

-- The first fault of loading an index text: the text's, else that of the tables. It is no
-- abbreviation, so that the proofs of callers show its name and do not read the text.
unfoldable pub load_fault : IndexLists → IndexKind → List ℕ → Option LoadFault
load_fault tables kind text = option_or (option_map Text (text_fault kind text)) (option_map Table (table_fault tables kind text))

-- the tables hold what the index text stands for as the index of the kind: its rows for gb18030
-- ranges, else its list
abbrev pub Loads : IndexLists → IndexKind → List ℕ → Type 0
Loads tables kind text =
    MatchBool (is_ranges kind) (tables.rows ≡ Some (text_rows text)) (tables.flats kind ≡ Some (text_list (index_size kind) text))

-- tables before and after a call differ at most in the index of the kind
abbrev pub KeepsOtherKinds : IndexLists → IndexLists → IndexKind → Type 0
KeepsOtherKinds old new kind =
    ((other : IndexKind) → other ≢ kind → new.flats other ≡ old.flats other) × (is_ranges kind ≡ false → new.rows ≡ old.rows)

-- a load failed since memory was refused, either to read the index text or to the tables
abbrev pub WantsMemory : {T : Type 0} → Result T LoadFault → Type 0
WantsMemory result = (result ≡ Err (Text memory_fault)) ⊎ (result ≡ Err (Table Memory))
