-- Single-byte encodings over tables.
use Rattle.std.proofs.Common.{◌≡◌, ℕ, false, List, [], Option, None, Some, refl}
use Rattle.std.specs.Prelude.{IfSome}
use Rattle.std.specs.Option.{unwrap_or}
use Rattle.encoding_mem.specs.Piece.{ArePieces}
use Rattle.encoding_mem.specs.ReadBack.{ReadsBackExactly}
use Rattle.encoding_tables.specs.IndexLists.{IndexLists, index_entries, AreAcceptedTables}
use Rattle.encoding_tables.specs.Lookups.{AreEntries}
use Rattle.encoding_tables.specs.TableFaults.{flat_fault}
use Rattle.encoding_tables.specs.laws.TableFaults.{is_index, entries_are_scalars}
use Rattle.encoding_tables.specs.SingleByte.{pieces_single_byte, single_byte_coding}
use Rattle.encoding_tables.specs.laws.SingleByteReadBack.{single_byte_exact, single_byte_are_pieces}
use Rattle.encoding_tables.specs.declared.index_kind.IndexKind.{IndexKind}

-- What is there was accepted, and what is not there has no entries.
scalars_of : (kind : IndexKind) (o : Option (List ℕ)) → IfSome o (λ flat. flat_fault false kind flat ≡ None) → AreEntries (unwrap_or o [])
scalars_of kind None h = λ p mapped. absurd (mapped refl)
scalars_of kind (Some flat) h = entries_are_scalars kind flat (is_index kind flat h)

pub entries_scalars : (t : IndexLists) (kind : IndexKind) → AreAcceptedTables t → AreEntries (index_entries t kind)
entries_scalars t kind h = scalars_of kind (t.flats kind) (h.0 kind)

-- its pieces are pieces
pub tables_are_pieces : (t : IndexLists) (kind : IndexKind) → AreAcceptedTables t → (x : List ℕ) → ArePieces (pieces_single_byte (index_entries t kind) x)
tables_are_pieces t kind h x = single_byte_are_pieces (index_entries t kind) (entries_scalars t kind h) x

-- what is written reads back exactly when each character has a byte
pub tables_exact : (t : IndexLists) (kind : IndexKind) → AreAcceptedTables t → ReadsBackExactly (pieces_single_byte (index_entries t kind)) (single_byte_coding (index_entries t kind))
tables_exact t kind h = single_byte_exact (index_entries t kind) (entries_scalars t kind h)
