-- Names for the first pieces of the encodings of two and more bytes.
use Rattle.std.specs.Prelude.{ℕ, List}
use Rattle.encoding_mem.specs.Piece.{Piece}
use Rattle.encoding_codecs.specs.TwoByte.{first_piece_by_lead, first_piece_two_byte}
use Rattle.encoding_codecs.specs.Big5.{big5_first, big5_pair}
use Rattle.encoding_codecs.specs.EucKr.{euc_kr_first, euc_kr_pair}
use Rattle.encoding_codecs.specs.ShiftJis.{shift_jis_first, shift_jis_pair}
use Rattle.encoding_codecs.specs.EucJp.{euc_jp_first, euc_jp_after}
use Rattle.encoding_codecs.specs.Gb18030.{gb18030_first, gb18030_after_lead}

-- the first piece in Big5, by the list of its index
abbrev pub first_piece_big5 : List ℕ → List ℕ → Piece
first_piece_big5 flat = first_piece_two_byte big5_first (big5_pair flat)

-- the first piece in EUC-KR, by the list of its index
abbrev pub first_piece_euc_kr : List ℕ → List ℕ → Piece
first_piece_euc_kr flat = first_piece_two_byte euc_kr_first (euc_kr_pair flat)

-- the first piece in Shift_JIS, by the list of index jis0208
abbrev pub first_piece_shift_jis : List ℕ → List ℕ → Piece
first_piece_shift_jis jis0208 = first_piece_two_byte shift_jis_first (shift_jis_pair jis0208)

-- the first piece in EUC-JP, by the lists of the indexes jis0208 and jis0212
abbrev pub first_piece_euc_jp : (jis0208 jis0212 : List ℕ) → List ℕ → Piece
first_piece_euc_jp jis0208 jis0212 = first_piece_by_lead euc_jp_first (euc_jp_after jis0208 jis0212)

-- the first piece in gb18030 and GBK, by the list of the index and the rows of the ranges
abbrev pub first_piece_gb18030 : List ℕ → List (ℕ × ℕ) → List ℕ → Piece
first_piece_gb18030 flat rows = first_piece_by_lead gb18030_first (gb18030_after_lead flat rows)
