-- A look for a byte order mark, and the state of a decoder that looks for one.
use Rattle.std.specs.Prelude.{ℕ, ◌+◌, ◌-◌, ◌==◌, ◌&&◌, ◌||◌, Bool, true, false, List, [], ◌∷◌, length, drop, if◌then◌else◌, max}
use Rattle.encoding_mem.specs.Piece.{Piece, well_formed}
use Rattle.encoding_mem.specs.calls.DecodedLength.{decoded_length, of_bytes, linear_bound}
use Rattle.encoding_mem.specs.Utf8.{pieces_utf8}
use Rattle.encoding_mem.specs.declared.codec.room.OutputUnit.{OutputUnit}
use Rattle.encoding_mem.specs.declared.codec.room.DecodedLength.{DecodedLength}
use Rattle.encoding_tables.specs.Utf16.{pieces_utf16}
use Rattle.encoding_front.specs.Marks.{takes_mark_of}
use Rattle.encoding_front.specs.calls.CodecBounds.{decoded_length_of}
use Rattle.encoding_front.specs.declared.encoding.Encoding.{Encoding}
use Rattle.encoding_front.specs.declared.mark.Mark.{Mark}
use Rattle.encoding_front.specs.declared.seeking.ByteOrderMark.{ByteOrderMark}
use Rattle.encoding_front.specs.declared.seeking.ByteOrderMark.TheVariants.{Utf8, Utf16Be, Utf16Le}
use Rattle.encoding_front.specs.declared.seeking.BomSet.{BomSet}
use Rattle.encoding_front.specs.declared.seeking.BomMatch.{BomMatch}
use Rattle.encoding_front.specs.declared.seeking.BomMatch.TheVariants.{Prefix, Whole, Other}

-- the encoding that a byte order mark stands for: UTF-8, UTF-16BE or UTF-16LE
abbrev pub encoding_of_mark : ByteOrderMark → Encoding
encoding_of_mark Utf8 = Encoding.Utf8
encoding_of_mark Utf16Be = Encoding.Utf16Be
encoding_of_mark Utf16Le = Encoding.Utf16Le

-- how many bytes a byte order mark has: 3 in UTF-8, 2 in UTF-16
abbrev pub mark_len : ByteOrderMark → ℕ
mark_len Utf8 = 3
mark_len Utf16Be = 2
mark_len Utf16Le = 2

-- the first byte of a byte order mark: EF in UTF-8, FE in UTF-16BE, FF in UTF-16LE
abbrev pub mark_head : ByteOrderMark → ℕ
mark_head Utf8 = 0xEF
mark_head Utf16Be = 0xFE
mark_head Utf16Le = 0xFF

-- the pieces of what follows a byte order mark, in the mark's encoding, without mark handling
abbrev pub pieces_after_mark : ByteOrderMark → List ℕ → List Piece
pieces_after_mark Utf8 = pieces_utf8
pieces_after_mark Utf16Be = pieces_utf16 true
pieces_after_mark Utf16Le = pieces_utf16 false

-- the marks that would be taken
abbrev pub sought_by : Mark → Encoding → BomSet
sought_by mark e = record {
  utf8 = takes_mark_of mark e Encoding.Utf8;
  utf16_be = takes_mark_of mark e Encoding.Utf16Be;
  utf16_le = takes_mark_of mark e Encoding.Utf16Le;
}

-- the set of byte order marks that has none: none is looked for
abbrev pub nothing_sought : BomSet
nothing_sought = record { utf8 = false; utf16_be = false; utf16_le = false }

-- whether any byte order mark is looked for
abbrev pub is_sought : BomSet → Bool
is_sought s = (s.utf8 || s.utf16_be) || s.utf16_le

-- whether a given byte order mark is among those that are looked for
abbrev pub seeks : BomSet → ByteOrderMark → Bool
seeks s Utf8 = s.utf8
seeks s Utf16Be = s.utf16_be
seeks s Utf16Le = s.utf16_le

-- what bytes show at a mark's last byte: the whole mark, no mark, or a prefix if there are none
abbrev pub find_end : (byte : ℕ) → ByteOrderMark → List ℕ → BomMatch
find_end byte mark [] = Prefix
find_end byte mark (c ∷ x) = if c == byte then Whole mark else Other

-- what the bytes after EF show of UTF-8's mark (EF BB BF): the whole mark, a prefix, or no mark
abbrev pub find_second : List ℕ → BomMatch
find_second [] = Prefix
find_second (b ∷ x) = if b == 0xBB then find_end 0xBF Utf8 x else Other

-- what first bytes show: a whole mark that is sought, a prefix of one (so do no bytes), or neither
abbrev pub find_mark : BomSet → List ℕ → BomMatch
find_mark s [] = Prefix
find_mark s (a ∷ x) = if (a == 0xEF) && s.utf8 then find_second x
    else (if (a == 0xFE) && s.utf16_be then find_end 0xFF Utf16Be x
    else (if (a == 0xFF) && s.utf16_le then find_end 0xFE Utf16Le x else Other))

-- The pieces of an input, by what its first bytes show. A whole mark is a piece without text, and
-- what follows is in the mark's encoding. Without a whole mark they are own's.
abbrev pub pieces_seen : (own : List ℕ → List Piece) → List ℕ → BomMatch → List Piece
pieces_seen own x Prefix = own x
pieces_seen own x (Whole m) = well_formed (mark_len m) [] ∷ pieces_after_mark m (drop (mark_len m) x)
pieces_seen own x Other = own x

-- the pieces of an input by the sought mark that it begins with, or own's if it begins with none
abbrev pub sought_pieces : BomSet → (own : List ℕ → List Piece) → List ℕ → List Piece
sought_pieces s own x = if is_sought s then pieces_seen own x (find_mark s x) else own x

-- the encoding of an input by what its first bytes show: that of a whole mark, else e
abbrev pub encoding_seen : Encoding → BomMatch → Encoding
encoding_seen e Prefix = e
encoding_seen e (Whole m) = encoding_of_mark m
encoding_seen e Other = e

-- the encoding of an input by the sought mark that it begins with, or e if it begins with none
abbrev pub sought_encoding : BomSet → Encoding → List ℕ → Encoding
sought_encoding s e x = if is_sought s then encoding_seen e (find_mark s x) else e

-- whether the mark is sought, and the first of the held bytes, if there is one, is the mark's
-- first
abbrev pub can_be : BomSet → (held : List ℕ) → ByteOrderMark → Bool
can_be s [] m = seeks s m
can_be s (b ∷ held) m = (b == mark_head m) && seeks s m

-- the room for what follows a mark in held bytes and n more, or 0 if the held can't begin the mark
abbrev pub mark_needs : BomSet → (held : List ℕ) → OutputUnit → ℕ → ByteOrderMark → ℕ
mark_needs s held k n m = if can_be s held m then decoded_length (decoded_length_of (encoding_of_mark m)) k ((length held + n) - mark_len m) else 0

-- the most room that a call needs free for held bytes and n more, by the decoder or after a mark
abbrev pub sought_needs : BomSet → (own : OutputUnit → ℕ → ℕ) (held : List ℕ) → OutputUnit → ℕ → ℕ
sought_needs s own held k n = max (own k (length held + n)) (max (mark_needs s held k n Utf8) (max (mark_needs s held k n Utf16Be) (mark_needs s held k n Utf16Le)))

-- room that is enough for the text of any input in any encoding
abbrev pub room_widest : DecodedLength
room_widest = of_bytes (linear_bound 1 1) (linear_bound 3 3) (linear_bound 3 3)
