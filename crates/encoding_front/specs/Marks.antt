-- Byte order marks: which one is taken from the start of an input, in which encoding what follows it is then, and the
-- pieces of both (the Encoding Standard, section 6, "decode", "UTF-8 decode" and "UTF-8 decode without BOM").
use Rattle.std.specs.Prelude.{ℕ, zero, suc, ◌==◌, Bool, true, false, List, [], ◌∷◌, ◌++◌, drop, filter}
use Rattle.std.specs.Option.{unwrap_or}
use Rattle.encoding_mem.specs.Piece.{Piece, well_formed, text}
use Rattle.encoding_tables.specs.IndexLists.{IndexLists}
use Rattle.encoding_front.specs.EncodingTable.{number_of}
use Rattle.encoding_front.specs.Encodings.{byte_order_marks, first_mark, pieces_of}
use Rattle.encoding_front.specs.declared.encoding.Encoding.{Encoding}
use Rattle.encoding_front.specs.declared.mark.Mark.{Mark}
use Rattle.encoding_front.specs.declared.mark.Mark.TheVariants.{Sniff, Remove, Keep}

-- whether a mark of f is taken from an input said to be in e: under `Sniff` each is, under
-- `Remove` that of e alone, under `Keep` none
abbrev pub takes_mark_of : Mark → (e f : Encoding) → Bool
takes_mark_of Sniff e f = true
takes_mark_of Remove e f = number_of e == number_of f
takes_mark_of Keep e f = false

-- the marks that would be taken from an input said to be in e, each with its encoding and its
-- bytes
abbrev pub marks_taken : Mark → Encoding → List (Encoding × List ℕ)
marks_taken mark e = filter (λ m. takes_mark_of mark e m.0) byte_order_marks

-- the encoding of an input said to be in e, which a mark that is taken decides, and how many bytes
-- the mark has, or 0 if none is taken
abbrev pub source_of : Mark → Encoding → List ℕ → Encoding × ℕ
source_of mark e x = unwrap_or (first_mark (marks_taken mark e) x) (e, 0)

-- the piece of a mark of n bytes, which has no text, or no piece if n is 0
abbrev pub mark_piece : ℕ → List Piece
mark_piece zero = []
mark_piece (suc n) = well_formed (suc n) [] ∷ []

-- the pieces of a whole input, by its encoding and the length of its mark, 0 if none is taken
abbrev pub pieces_from : IndexLists → Encoding × ℕ → List ℕ → List Piece
pieces_from t s x = mark_piece s.1 ++ pieces_of t s.0 (drop s.1 x)

-- the pieces of a whole input said to be in e; a mark that is taken is a piece without text
abbrev pub marked_pieces : IndexLists → Mark → Encoding → List ℕ → List Piece
marked_pieces t mark e x = pieces_from t (source_of mark e x) x

-- the text of a whole input said to be in e, without a mark that is taken
abbrev pub marked_text : IndexLists → Mark → Encoding → List ℕ → List ℕ
marked_text t mark e x = text (marked_pieces t mark e x)
