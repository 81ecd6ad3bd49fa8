-- The codecs over tables: every list that was accepted.
use Rattle.std.proofs.Common.{ℕ, List}
use Rattle.encoding_mem.specs.Piece.{ArePieces}
use Rattle.encoding_mem.specs.laws.Pieces.{pieces_by-are_pieces}
use Rattle.encoding_mem.specs.ReadBack.{ReadsBackExactly}
use Rattle.encoding_mem.specs.Stateless.{stateless}
use Rattle.encoding_tables.specs.IndexLists.{IndexLists, index_entries, AreAcceptedTables}
use Rattle.encoding_tables.specs.laws.SingleByteTables.{entries_scalars}
use Rattle.encoding_tables.specs.declared.index_kind.IndexKind.TheVariants.{Big5, EucKr, Jis0208, Jis0212}
use Rattle.encoding_codecs.specs.laws.TwoByte.{cuts_two_byte, cuts_rule}
use Rattle.encoding_codecs.specs.Big5.{pieces_big5, big5_form}
use Rattle.encoding_codecs.specs.laws.Big5.{big5_is_two_byte, big5_exact}
use Rattle.encoding_codecs.specs.EucJp.{pieces_euc_jp}
use Rattle.encoding_codecs.specs.laws.EucJp.{euc_jp_is_lead_rule}
use Rattle.encoding_codecs.specs.Iso2022Jp.{pieces_iso_2022_jp, ascii_mode}
use Rattle.encoding_codecs.specs.laws.Iso2022Jp.{iso_2022_jp_are_pieces}
use Rattle.encoding_codecs.specs.ShiftJis.{pieces_shift_jis}
use Rattle.encoding_codecs.specs.laws.ShiftJis.{shift_jis_is_two_byte}
use Rattle.encoding_codecs.specs.EucKr.{pieces_euc_kr, euc_kr_form}
use Rattle.encoding_codecs.specs.laws.EucKr.{euc_kr_is_two_byte, euc_kr_exact}
use Rattle.encoding_codecs.specs.calls.TwoByteRule.{euc_kr_rule, big5_rule, shift_jis_rule}
use Rattle.encoding_codecs.specs.laws.FirstPieces.{first_piece_big5, first_piece_euc_kr, first_piece_shift_jis, first_piece_euc_jp}

-- their pieces are pieces
pub euc_kr_are_pieces : (t : IndexLists) → AreAcceptedTables t → (x : List ℕ) → ArePieces (pieces_euc_kr (index_entries t EucKr) x)
euc_kr_are_pieces t h =
    let flat = index_entries t EucKr in
    pieces_by-are_pieces (first_piece_euc_kr flat) (cuts_two_byte (euc_kr_rule flat) (euc_kr_is_two_byte flat (entries_scalars t EucKr h)))

pub big5_are_pieces : (t : IndexLists) → AreAcceptedTables t → (x : List ℕ) → ArePieces (pieces_big5 (index_entries t Big5) x)
big5_are_pieces t h =
    let flat = index_entries t Big5 in
    pieces_by-are_pieces (first_piece_big5 flat) (cuts_two_byte (big5_rule flat) (big5_is_two_byte flat (entries_scalars t Big5 h)))

pub shift_jis_are_pieces : (t : IndexLists) → AreAcceptedTables t → (x : List ℕ) → ArePieces (pieces_shift_jis (index_entries t Jis0208) x)
shift_jis_are_pieces t h =
    let flat = index_entries t Jis0208 in
    pieces_by-are_pieces (first_piece_shift_jis flat) (cuts_two_byte (shift_jis_rule flat) (shift_jis_is_two_byte flat (entries_scalars t Jis0208 h)))

pub euc_jp_are_pieces : (t : IndexLists) → AreAcceptedTables t → (x : List ℕ) → ArePieces (pieces_euc_jp (index_entries t Jis0208) (index_entries t Jis0212) x)
euc_jp_are_pieces t h =
    let jis0208 = index_entries t Jis0208 in
    let jis0212 = index_entries t Jis0212 in
    pieces_by-are_pieces (first_piece_euc_jp jis0208 jis0212) (cuts_rule _ _ _ (euc_jp_is_lead_rule jis0208 jis0212 (entries_scalars t Jis0208 h) (entries_scalars t Jis0212 h)))

pub iso_2022_jp_tables_are_pieces : (t : IndexLists) → AreAcceptedTables t → (x : List ℕ) → ArePieces (pieces_iso_2022_jp (index_entries t Jis0208) x)
iso_2022_jp_tables_are_pieces t h = iso_2022_jp_are_pieces (index_entries t Jis0208) (entries_scalars t Jis0208 h) ascii_mode

-- what is written reads back exactly when each character has a pointer
pub euc_kr_tables_exact : (t : IndexLists) → AreAcceptedTables t → ReadsBackExactly (pieces_euc_kr (index_entries t EucKr)) (stateless (euc_kr_form (index_entries t EucKr)))
euc_kr_tables_exact t h = euc_kr_exact (index_entries t EucKr) (entries_scalars t EucKr h)

pub big5_tables_exact : (t : IndexLists) → AreAcceptedTables t → ReadsBackExactly (pieces_big5 (index_entries t Big5)) (stateless (big5_form (index_entries t Big5)))
big5_tables_exact t h = big5_exact (index_entries t Big5) (entries_scalars t Big5 h)
