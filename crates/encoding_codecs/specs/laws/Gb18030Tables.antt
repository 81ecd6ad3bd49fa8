-- gb18030 over tables.
use Rattle.std.proofs.Common.{◌≡◌, ℕ, List, [], Option, None, Some, refl}
use Rattle.std.specs.Prelude.{IfSome}
use Rattle.std.specs.Option.{unwrap_or}
use Rattle.encoding_mem.specs.Piece.{ArePieces}
use Rattle.encoding_mem.specs.laws.Pieces.{pieces_by-are_pieces}
use Rattle.encoding_tables.specs.IndexLists.{IndexLists, index_entries, range_rows, AreAcceptedTables}
use Rattle.encoding_tables.specs.RangeFaults.{bad_row}
use Rattle.encoding_tables.specs.laws.Ranges.{have_scalars}
use Rattle.encoding_tables.specs.Ranges.{HaveScalars}
use Rattle.encoding_tables.specs.laws.SingleByteTables.{entries_scalars}
use Rattle.encoding_tables.specs.declared.index_kind.IndexKind.TheVariants.{Gb18030}
use Rattle.encoding_codecs.specs.Gb18030.{pieces_gb18030}
use Rattle.encoding_codecs.specs.laws.Gb18030.{AreGbTables, cuts_gb18030}
use Rattle.encoding_codecs.specs.laws.FirstPieces.{first_piece_gb18030}

-- What is there was accepted, and what is not there has no rows.
scalars_of : (o : Option (List (ℕ × ℕ))) → IfSome o (λ rows. bad_row rows ≡ None) → HaveScalars (unwrap_or o [])
scalars_of None h = have_scalars [] refl
scalars_of (Some rows) h = have_scalars rows h

pub gb18030_tables : (t : IndexLists) → AreAcceptedTables t → AreGbTables (index_entries t Gb18030) (range_rows t)
gb18030_tables t h = record { entries = entries_scalars t Gb18030 h; values = scalars_of t.rows h.1 }

-- its pieces are pieces
pub gb18030_are_pieces : (t : IndexLists) → AreAcceptedTables t → (x : List ℕ) → ArePieces (pieces_gb18030 (index_entries t Gb18030) (range_rows t) x)
gb18030_are_pieces t h x = pieces_by-are_pieces (first_piece_gb18030 (index_entries t Gb18030) (range_rows t)) (cuts_gb18030 (index_entries t Gb18030) (range_rows t) (gb18030_tables t h)) x
