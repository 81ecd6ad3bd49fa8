-- What holds of the pieces, and of the room, of an input that may begin with a mark.
use Rattle.std.proofs.Common.{◌≡◌, ℕ, suc, ◌+◌, ◌-◌, ◌≤◌, ◌==◌, ◌&&◌, Bool, true, false, cond, IsTrue, List, [], ◌∷◌, ◌++◌, length, drop, refl, ◌∙◌, length-append, length-drop, arith}
use Rattle.encoding_mem.specs.Piece.{sizes, ArePieces}
use Rattle.encoding_mem.specs.laws.Pieces.{pieces_by-are_pieces, pieces_by-whole}
use Rattle.encoding_mem.specs.calls.Decoding.{DecoderState}
use Rattle.encoding_mem.specs.calls.DecodedLength.{decoded_length, decoded_length_utf8, decoded_length_utf16, decoded_length_single_byte, decoded_length_multibyte, decoded_length_replacement}
use Rattle.encoding_mem.specs.Utf8.{first_piece_utf8}
use Rattle.encoding_mem.specs.laws.Utf8.{cuts_utf8}
use Rattle.encoding_mem.specs.declared.codec.room.OutputUnit.{OutputUnit}
use Rattle.encoding_mem.specs.declared.codec.room.OutputUnit.TheVariants.{Units, Bytes, Replaced}
use Rattle.encoding_tables.specs.Utf16.{first_piece_utf16}
use Rattle.encoding_tables.specs.laws.Utf16.{cuts_utf16}
use Rattle.encoding_front.specs.EncodingTable.{codec_kind_of}
use Rattle.encoding_front.specs.calls.CodecBounds.{decoded_length_of, decoded_length_of_codec_kind}
use Rattle.encoding_front.specs.declared.encoding.Encoding.{Encoding}
use Rattle.encoding_front.specs.declared.codec_kind.CodecKind.{CodecKind}
use Rattle.encoding_front.specs.calls.Seeking.{mark_len, encoding_of_mark, pieces_after_mark, is_sought, find_mark, find_second, find_end, pieces_seen, sought_pieces, can_be, sought_needs, room_widest}
use Rattle.encoding_front.specs.declared.seeking.ByteOrderMark.{ByteOrderMark}
use Rattle.encoding_front.specs.declared.seeking.ByteOrderMark.TheVariants.{Utf8, Utf16Be, Utf16Le}
use Rattle.encoding_front.specs.declared.seeking.BomSet.{BomSet}
use Rattle.encoding_front.specs.declared.seeking.BomMatch.{BomMatch}
use Rattle.encoding_front.specs.declared.seeking.BomMatch.TheVariants.{Prefix, Whole, Other}

-- what follows a mark
pub whole_after : (m : ByteOrderMark) (x : List ℕ) → sizes (pieces_after_mark m x) ≡ length x
whole_after Utf8 x = pieces_by-whole first_piece_utf8 cuts_utf8 x
whole_after Utf16Be x = pieces_by-whole (first_piece_utf16 true) (cuts_utf16 true) x
whole_after Utf16Le x = pieces_by-whole (first_piece_utf16 false) (cuts_utf16 false) x

pub are_pieces_after : (m : ByteOrderMark) (x : List ℕ) → ArePieces (pieces_after_mark m x)
are_pieces_after Utf8 x = pieces_by-are_pieces first_piece_utf8 cuts_utf8 x
are_pieces_after Utf16Be x = pieces_by-are_pieces (first_piece_utf16 true) (cuts_utf16 true) x
are_pieces_after Utf16Le x = pieces_by-are_pieces (first_piece_utf16 false) (cuts_utf16 false) x

-- a whole mark stands in n bytes
abbrev IsPositionWithin : ℕ → BomMatch → Type 0
IsPositionWithin n Prefix = Unit {0}
IsPositionWithin n (Whole m) = mark_len m ≤ n
IsPositionWithin n Other = Unit {0}

within_cond : (t : Bool) (n : ℕ) (F G : BomMatch) → IsPositionWithin n F → IsPositionWithin n G → IsPositionWithin n (cond t F G)
within_cond true n F G h k = h
within_cond false n F G h k = k

within_more : (F : BomMatch) (n m : ℕ) → n ≤ m → IsPositionWithin n F → IsPositionWithin m F
within_more Prefix n m e h = tt
within_more (Whole mark) n m e h = omega (arith, e, h)
within_more Other n m e h = tt

within_end : (byte : ℕ) (mark : ByteOrderMark) (k : ℕ) (x : List ℕ) → mark_len mark ≡ suc k → IsPositionWithin (k + length x) (find_end byte mark x)
within_end byte mark k [] e = tt
within_end byte mark k (c ∷ x) e = within_cond (c == byte) _ (Whole mark) Other (omega (arith, e)) tt

within_second : (x : List ℕ) → IsPositionWithin (1 + length x) (find_second x)
within_second [] = tt
within_second (b ∷ x) = within_cond (b == 0xBB) _ (find_end 0xBF Utf8 x) Other (within_more (find_end 0xBF Utf8 x) _ _ (let e : 2 + length x ≤ 1 + length (b ∷ x) = omega arith in e) (within_end 0xBF Utf8 2 x refl)) tt

within_mark : (s : BomSet) (x : List ℕ) → IsPositionWithin (length x) (find_mark s x)
within_mark s [] = tt
within_mark s (a ∷ x) =
    let e : 1 + length x ≤ length (a ∷ x) = omega arith in
    within_more (find_mark s (a ∷ x)) _ _ e
    (within_cond ((a == 0xEF) && s.utf8) _ (find_second x) _ (within_second x)
    (within_cond ((a == 0xFE) && s.utf16_be) _ (find_end 0xFF Utf16Be x) _ (within_end 0xFF Utf16Be 1 x refl)
    (within_cond ((a == 0xFF) && s.utf16_le) _ (find_end 0xFE Utf16Le x) Other (within_end 0xFE Utf16Le 1 x refl) tt)))

whole_seen : (own : DecoderState) (x : List ℕ) (F : BomMatch) → own.pending ≡ 0 → IsPositionWithin (length x) F → sizes (pieces_seen own.pieces x F) ≡ own.pending + length x
whole_seen own x Prefix e h = own.whole x
whole_seen own x (Whole m) e h = omega (arith, e, h, whole_after m (drop (mark_len m) x), length-drop (mark_len m) x)
whole_seen own x Other e h = own.whole x

whole_at : (t : Bool) (own : DecoderState) (x : List ℕ) (F : BomMatch) → (IsTrue t → own.pending ≡ 0) → IsPositionWithin (length x) F → sizes (cond t (pieces_seen own.pieces x F) (own.pieces x)) ≡ own.pending + length x
whole_at true own x F fresh h = whole_seen own x F (fresh refl) h
whole_at false own x F fresh h = own.whole x

-- the pieces, joined, are the input
pub sought_whole : (s : BomSet) (own : DecoderState) (held : List ℕ) → (IsTrue (is_sought s) → own.pending ≡ 0) → (x : List ℕ) → sizes (sought_pieces s own.pieces (held ++ x)) ≡ (own.pending + length held) + length x
sought_whole s own held fresh x =
    whole_at (is_sought s) own (held ++ x) (find_mark s (held ++ x)) fresh (within_mark s (held ++ x)) ∙ omega (arith, length-append held x)

pieces_of_mark : (m : ByteOrderMark) (x : List ℕ) → ArePieces (pieces_seen (λ _. []) x (Whole m))
pieces_of_mark Utf8 x = (record { some = omega arith; few = omega arith; at_most_two = omega arith; are_scalars = refl }, are_pieces_after Utf8 (drop 3 x))
pieces_of_mark Utf16Be x = (record { some = omega arith; few = omega arith; at_most_two = omega arith; are_scalars = refl }, are_pieces_after Utf16Be (drop 2 x))
pieces_of_mark Utf16Le x = (record { some = omega arith; few = omega arith; at_most_two = omega arith; are_scalars = refl }, are_pieces_after Utf16Le (drop 2 x))

pieces_seen_are : (own : DecoderState) (x : List ℕ) (F : BomMatch) → ArePieces (pieces_seen own.pieces x F)
pieces_seen_are own x Prefix = own.are_pieces x
pieces_seen_are own x (Whole m) = pieces_of_mark m x
pieces_seen_are own x Other = own.are_pieces x

are_at : (t : Bool) (own : DecoderState) (x : List ℕ) (F : BomMatch) → ArePieces (cond t (pieces_seen own.pieces x F) (own.pieces x))
are_at true own x F = pieces_seen_are own x F
are_at false own x F = own.are_pieces x

-- each is a piece
pub sought_are_pieces : (s : BomSet) (own : DecoderState) (held x : List ℕ) → ArePieces (sought_pieces s own.pieces (held ++ x))
sought_are_pieces s own held x = are_at (is_sought s) own (held ++ x) (find_mark s (held ++ x))

-- the widest room is enough for what follows a mark
pub widest_utf8 : (k : OutputUnit) (n : ℕ) → decoded_length decoded_length_utf8 k n ≤ decoded_length room_widest k n
widest_utf8 Units n = omega arith
widest_utf8 Bytes n = omega arith
widest_utf8 Replaced n = omega arith

pub widest_utf16 : (k : OutputUnit) (n : ℕ) → decoded_length decoded_length_utf16 k n ≤ decoded_length room_widest k n
widest_utf16 Units n = omega arith
widest_utf16 Bytes n = omega arith
widest_utf16 Replaced n = omega arith

pub widest_after : (m : ByteOrderMark) (k : OutputUnit) (n : ℕ) → decoded_length (decoded_length_of (encoding_of_mark m)) k n ≤ decoded_length room_widest k n
widest_after Utf8 k n = widest_utf8 k n
widest_after Utf16Be k n = widest_utf16 k n
widest_after Utf16Le k n = widest_utf16 k n

widest_rises : (k : OutputUnit) (m n : ℕ) → m ≤ n → decoded_length room_widest k m ≤ decoded_length room_widest k n
widest_rises Units m n h = omega (arith, h)
widest_rises Bytes m n h = omega (arith, h)
widest_rises Replaced m n h = omega (arith, h)

widest_cond : (t : Bool) (m : ByteOrderMark) (k : OutputUnit) (j n : ℕ) → j ≤ n → cond t (decoded_length (decoded_length_of (encoding_of_mark m)) k j) 0 ≤ decoded_length room_widest k n
widest_cond true m k j n h = omega (arith, widest_after m k j, widest_rises k j n h)
widest_cond false m k j n h = omega arith

-- it is enough for a decoder that looks for a mark, if it is for its own
pub sought_covers : (s : BomSet) (own : DecoderState) (held : List ℕ) → ((k : OutputUnit) (n : ℕ) → decoded_length own.room k n ≤ decoded_length room_widest k n)
    → (k : OutputUnit) (n : ℕ) → sought_needs s own.needs held k n ≤ decoded_length room_widest k ((own.pending + length held) + n)
sought_covers s own held bounded k n =
    let all : ℕ = (own.pending + length held) + n in
    let same : own.pending + (length held + n) ≡ all = omega arith in
    let mine : own.needs k (length held + n) ≤ decoded_length room_widest k (own.pending + (length held + n)) = omega (arith, own.covers k (length held + n), bounded k (own.pending + (length held + n))) in
    omega (
      arith,
      mine,
      widest_rises k (own.pending + (length held + n)) all (omega (arith, same)),
      widest_cond (can_be s held Utf8) Utf8 k ((length held + n) - 3) all (omega arith),
      widest_cond (can_be s held Utf16Be) Utf16Be k ((length held + n) - 2) all (omega arith),
      widest_cond (can_be s held Utf16Le) Utf16Le k ((length held + n) - 2) all (omega arith),
    )

-- and in every encoding
widest_single_byte : (k : OutputUnit) (n : ℕ) → decoded_length decoded_length_single_byte k n ≤ decoded_length room_widest k n
widest_single_byte Units n = omega arith
widest_single_byte Bytes n = omega arith
widest_single_byte Replaced n = omega arith

widest_multibyte : (k : OutputUnit) (n : ℕ) → decoded_length decoded_length_multibyte k n ≤ decoded_length room_widest k n
widest_multibyte Units n = omega arith
widest_multibyte Bytes n = omega arith
widest_multibyte Replaced n = omega arith

widest_replacement : (k : OutputUnit) (n : ℕ) → decoded_length decoded_length_replacement k n ≤ decoded_length room_widest k n
widest_replacement Units n = omega arith
widest_replacement Bytes n = omega arith
widest_replacement Replaced n = omega arith

widest_codec_kind : (s : CodecKind) (k : OutputUnit) (n : ℕ) → decoded_length (decoded_length_of_codec_kind s) k n ≤ decoded_length room_widest k n
widest_codec_kind CodecKind.Utf8 k n = widest_utf8 k n
widest_codec_kind (CodecKind.SingleByte kind) k n = widest_single_byte k n
widest_codec_kind CodecKind.UserDefined k n = widest_single_byte k n
widest_codec_kind (CodecKind.Utf16 big_endian) k n = widest_utf16 k n
widest_codec_kind CodecKind.Replacement k n = widest_replacement k n
widest_codec_kind _ k n = widest_multibyte k n

pub widest_encoding : (e : Encoding) (k : OutputUnit) (n : ℕ) → decoded_length (decoded_length_of e) k n ≤ decoded_length room_widest k n
widest_encoding e k n = widest_codec_kind (codec_kind_of e) k n
