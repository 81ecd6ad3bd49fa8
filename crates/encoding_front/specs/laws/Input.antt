-- What holds of the pieces of a whole input.
use Rattle.std.proofs.Common.{◌≡◌, ℕ, zero, suc, ◌+◌, ◌*◌, ◌≤◌, ◌&&◌, ◌∙◌, Bool, true, false, cond, Option, Some, List, [], ◌∷◌, ◌++◌, length, drop, take, refl, ap, arith, length-append, length-drop, encode_utf8_all}
use Rattle.std.specs.Prelude.{eqb}
use Rattle.std.specs.List.{starts_with}
use Rattle.std.specs.Str.{all_scalars, chars}
use Rattle.std.proofs.lemmas.Str.{chars-encodes}
use Rattle.std.proofs.lemmas.List.{length-take}
use lib.Pointwise.{pointwise_long}
use lib.Utf8.{scalar}
use Rattle.encoding_mem.specs.declared.codec.reference.Reference.{Reference}
use Rattle.encoding_mem.specs.declared.codec.reference.Reference.TheVariants.{Decimal}
use Rattle.encoding_mem.specs.Coding.{output}
use Rattle.encoding_mem.specs.Piece.{Piece, well_formed, malformed, text, piece_text, sizes, ArePieces}
use Rattle.encoding_mem.specs.laws.Piece.{sizes-append, ArePieces-append}
use Rattle.encoding_mem.specs.laws.Pieces.{pieces_by-whole}
use Rattle.encoding_mem.specs.Utf8.{first_piece_utf8}
use Rattle.encoding_mem.specs.laws.Utf8.{cuts_utf8}
use Rattle.std.proofs.lemmas.Bool.{and_parts}
use Rattle.std.specs.Option.{unwrap_or}
use Rattle.encoding_tables.specs.IndexLists.{IndexLists, AreAcceptedTables, index_entries, range_rows}
use Rattle.encoding_tables.specs.laws.Replacement.{replacement_whole}
use Rattle.encoding_tables.specs.laws.SingleByte.{cuts_single_byte, first_piece_single_byte}
use Rattle.encoding_tables.specs.laws.SingleByteTables.{entries_scalars}
use Rattle.encoding_tables.specs.laws.UserDefined.{cuts_user_defined, first_piece_user_defined}
use Rattle.encoding_tables.specs.Utf16.{first_piece_utf16}
use Rattle.encoding_tables.specs.laws.Utf16.{cuts_utf16}
use Rattle.encoding_tables.specs.declared.index_kind.IndexKind.{IndexKind}
use Rattle.encoding_codecs.specs.laws.Big5.{big5_is_two_byte}
use Rattle.encoding_codecs.specs.laws.EucJp.{euc_jp_is_lead_rule}
use Rattle.encoding_codecs.specs.laws.EucKr.{euc_kr_is_two_byte}
use Rattle.encoding_codecs.specs.laws.Gb18030.{cuts_gb18030}
use Rattle.encoding_codecs.specs.laws.Gb18030Tables.{gb18030_tables}
use Rattle.encoding_codecs.specs.Iso2022Jp.{ascii_mode}
use Rattle.encoding_codecs.specs.laws.Iso2022Jp.{iso_2022_jp_whole}
use Rattle.encoding_codecs.specs.laws.ShiftJis.{shift_jis_is_two_byte}
use Rattle.encoding_codecs.specs.laws.TwoByte.{cuts_rule, cuts_two_byte}
use Rattle.encoding_codecs.specs.calls.TwoByteRule.{euc_kr_rule, big5_rule, shift_jis_rule}
use Rattle.encoding_codecs.specs.laws.FirstPieces.{first_piece_big5, first_piece_euc_kr, first_piece_shift_jis, first_piece_euc_jp, first_piece_gb18030}
use Rattle.encoding_front.specs.laws.ReportedCharacter.{short_output}
use Rattle.encoding_front.specs.Encodings.{coding_of, first_mark, pieces_of}
use Rattle.encoding_front.specs.EncodingTable.{codec_kind_of}
use Rattle.encoding_front.specs.laws.Encodings.{are_pieces_of}
use Rattle.encoding_front.specs.Marks.{mark_piece, marked_pieces, marked_text, marks_taken, source_of}
use Rattle.encoding_front.specs.declared.encoding.Encoding.{Encoding}
use Rattle.encoding_front.specs.declared.mark.Mark.{Mark}
use Rattle.encoding_front.specs.declared.codec_kind.CodecKind.{CodecKind}
use Rattle.encoding_front.specs.Codecs.{codec_of}

-- the pieces of bytes, joined, are the bytes
whole_in : (t : IndexLists) (s : CodecKind) → AreAcceptedTables t → (x : List ℕ) → sizes ((codec_of t s).pieces x) ≡ length x
whole_in t CodecKind.Utf8 taken x = pieces_by-whole first_piece_utf8 cuts_utf8 x
whole_in t (CodecKind.SingleByte kind) taken x =
    let flat = index_entries t kind in
    pieces_by-whole (first_piece_single_byte flat) (cuts_single_byte flat (entries_scalars t kind taken)) x
whole_in t CodecKind.Big5 taken x =
    let flat = index_entries t IndexKind.Big5 in
    pieces_by-whole (first_piece_big5 flat) (cuts_two_byte (big5_rule flat) (big5_is_two_byte flat (entries_scalars t IndexKind.Big5 taken))) x
whole_in t CodecKind.EucKr taken x =
    let flat = index_entries t IndexKind.EucKr in
    pieces_by-whole (first_piece_euc_kr flat) (cuts_two_byte (euc_kr_rule flat) (euc_kr_is_two_byte flat (entries_scalars t IndexKind.EucKr taken))) x
whole_in t CodecKind.EucJp taken x =
    let jis0208 = index_entries t IndexKind.Jis0208 in
    let jis0212 = index_entries t IndexKind.Jis0212 in
    pieces_by-whole (first_piece_euc_jp jis0208 jis0212) (cuts_rule _ _ _ (euc_jp_is_lead_rule jis0208 jis0212 (entries_scalars t IndexKind.Jis0208 taken) (entries_scalars t IndexKind.Jis0212 taken))) x
whole_in t CodecKind.ShiftJis taken x =
    let flat = index_entries t IndexKind.Jis0208 in
    pieces_by-whole (first_piece_shift_jis flat) (cuts_two_byte (shift_jis_rule flat) (shift_jis_is_two_byte flat (entries_scalars t IndexKind.Jis0208 taken))) x
whole_in t (CodecKind.Gb18030 extended) taken x =
    let flat = index_entries t IndexKind.Gb18030 in
    pieces_by-whole (first_piece_gb18030 flat (range_rows t)) (cuts_gb18030 flat (range_rows t) (gb18030_tables t taken)) x
whole_in t CodecKind.Iso2022Jp taken x = iso_2022_jp_whole (index_entries t IndexKind.Jis0208) (entries_scalars t IndexKind.Jis0208 taken) ascii_mode x
whole_in t CodecKind.UserDefined taken x = pieces_by-whole first_piece_user_defined cuts_user_defined x
whole_in t (CodecKind.Utf16 big_endian) taken x = pieces_by-whole (first_piece_utf16 big_endian) (cuts_utf16 big_endian) x
whole_in t CodecKind.Replacement taken x = replacement_whole x

pub whole_of : (t : IndexLists) (e : Encoding) → AreAcceptedTables t → (x : List ℕ) → sizes (pieces_of t e x) ≡ length x
whole_of t e taken x = whole_in t (codec_kind_of e) taken x

-- a mark that is taken stands in the bytes
mark_fits : (x m : List ℕ) → starts_with eqb x m ≡ true → length m ≤ length x
mark_fits x m h = omega (arith, pointwise_long eqb m (take (length m) x) h, length-take (length m) x)

fits_if : (b : Bool) (f e : Encoding) (n k : ℕ) (o : Option (Encoding × ℕ)) → (b ≡ true → n ≤ k) → (unwrap_or o (e, 0)).1 ≤ k → (unwrap_or (cond b (Some (f, n)) o) (e, 0)).1 ≤ k
fits_if true f e n k o h j = h refl
fits_if false f e n k o h j = j

first_fits : (marks : List (Encoding × List ℕ)) (e : Encoding) (x : List ℕ) → (unwrap_or (first_mark marks x) (e, 0)).1 ≤ length x
first_fits [] e x = omega arith
first_fits (m ∷ marks) e x = fits_if (starts_with eqb x m.1) m.0 e (length m.1) (length x) (first_mark marks x) (mark_fits x m.1) (first_fits marks e x)

pub source_fits : (mark : Mark) (e : Encoding) (x : List ℕ) → (source_of mark e x).1 ≤ length x
source_fits mark e x = first_fits (marks_taken mark e) e x

mark_size : (n : ℕ) → sizes (mark_piece n) ≡ n
mark_size zero = refl
mark_size (suc n) = omega arith

mark_is : (n : ℕ) → ArePieces (mark_piece n)
mark_is zero = tt
mark_is (suc n) = (record { some = omega arith; few = omega arith; at_most_two = omega arith; are_scalars = refl }, tt)

-- with the mark
pub marked_are_pieces : (t : IndexLists) (mark : Mark) (e : Encoding) (x : List ℕ) → AreAcceptedTables t → ArePieces (marked_pieces t mark e x)
marked_are_pieces t mark e x taken =
    let s = source_of mark e x in
    ArePieces-append (mark_piece s.1) (pieces_of t s.0 (drop s.1 x)) (mark_is s.1) (are_pieces_of t s.0 taken (drop s.1 x))

pub marked_whole : (t : IndexLists) (mark : Mark) (e : Encoding) (x : List ℕ) → AreAcceptedTables t → sizes (marked_pieces t mark e x) ≡ length x
marked_whole t mark e x taken =
    let s = source_of mark e x in
    omega (arith, sizes-append (mark_piece s.1) (pieces_of t s.0 (drop s.1 x)), mark_size s.1, whole_of t s.0 taken (drop s.1 x), length-drop s.1 x, source_fits mark e x)

-- pieces have no more text than bytes, and it is of scalars
pub few_text : (ps : List Piece) → ArePieces ps → length (text ps) ≤ sizes ps
few_text [] h = omega arith
few_text (p ∷ ps) h = omega (arith, h.0.few, few_text ps h.1, length-append (piece_text p) (text ps))

all_scalars-append : (a b : List ℕ) → all_scalars a ≡ true → all_scalars b ≡ true → all_scalars (a ++ b) ≡ true
all_scalars-append [] b h k = k
all_scalars-append (c ∷ a) b h k =
    let parts = and_parts (scalar c) (all_scalars a) h in
    ap (λ y. y && all_scalars (a ++ b)) parts.0 ∙ all_scalars-append a b parts.1 k

pub text_scalars : (ps : List Piece) → ArePieces ps → all_scalars (text ps) ≡ true
text_scalars [] h = refl
text_scalars (well_formed n cs ∷ ps) h = all_scalars-append cs (text ps) h.0.are_scalars (text_scalars ps h.1)
text_scalars (malformed n ∷ ps) h = text_scalars ps h.1

pub marked_few : (t : IndexLists) (mark : Mark) (e : Encoding) (x : List ℕ) → AreAcceptedTables t → length (marked_text t mark e x) ≤ length x
marked_few t mark e x taken = omega (arith, few_text (marked_pieces t mark e x) (marked_are_pieces t mark e x taken), marked_whole t mark e x taken)

pub marked_scalars : (t : IndexLists) (mark : Mark) (e : Encoding) (x : List ℕ) → AreAcceptedTables t → all_scalars (marked_text t mark e x) ≡ true
marked_scalars t mark e x taken = text_scalars (marked_pieces t mark e x) (marked_are_pieces t mark e x taken)

-- what an input is recoded to
pub short_recoded : (ref : Reference) (t : IndexLists) (mark : Mark) (from to : Encoding) (x : List ℕ) → AreAcceptedTables t → length (output ref (coding_of t to) (marked_text t mark from x)) ≤ 13 * length x + 3
short_recoded ref t mark from to x taken = omega (arith, short_output ref t to (marked_text t mark from x) (marked_scalars t mark from x taken), marked_few t mark from x taken)

-- both at once
pub recoded_at_once : (t : IndexLists) (mark : Mark) (from to : Encoding) (x decoded : List ℕ) → AreAcceptedTables t → decoded ≡ encode_utf8_all (marked_text t mark from x)
    → output Decimal (coding_of t to) (chars decoded) ≡ output Decimal (coding_of t to) (marked_text t mark from x)
recoded_at_once t mark from to x decoded taken is =
    ap (output Decimal (coding_of t to)) (ap chars is ∙ chars-encodes (marked_text t mark from x) (marked_scalars t mark from x taken))
