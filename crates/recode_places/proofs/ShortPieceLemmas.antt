-- A malformed sequence has at most four bytes, in each encoding.
use Rattle.std.proofs.Common.{ℕ, zero, suc, map, ◌≤◌, ◌==◌, ◌||◌, ◌&&◌, Bool, true, false, cond, List, [], ◌∷◌, ◌++◌, Option, Some, None, nat_lt, nat_le, drop, length, arith}
use Rattle.std.specs.Int.{is_in_range}
use Rattle.std.specs.Option.{unwrap_or}
use Rattle.std.specs.Char.Utf16.{is_high_surrogate, is_low_surrogate}
use Rattle.std.proofs.Math.Utf8.{scalar}
use Rattle.encoding_mem.specs.Piece.{Piece, well_formed, malformed, piece_len, piece_of_scalar}
use Rattle.encoding_mem.specs.Pieces.{pieces_within, pieces_in, pieces_by}
use Rattle.encoding_mem.specs.Utf8.{first_piece_utf8, second_max, second_min, utf8_after_lead, utf8_after_three, utf8_after_two}
use Rattle.encoding_tables.specs.EachByte.{first_piece_by_byte}
use Rattle.encoding_tables.specs.IndexLists.{IndexLists, index_entries, range_rows}
use Rattle.encoding_tables.specs.Lookups.{value_of}
use Rattle.encoding_tables.specs.Ranges.{range_value}
use Rattle.encoding_tables.specs.Replacement.{pieces_replacement}
use Rattle.encoding_tables.specs.Utf16.{after_high_surrogate, first_piece_utf16, unit_of}
use Rattle.encoding_tables.specs.declared.index_kind.IndexKind.{IndexKind}
use Rattle.encoding_codecs.specs.Big5.{big5_first, big5_pair}
use Rattle.encoding_codecs.specs.EucJp.{euc_jp_after, euc_jp_after_8f, euc_jp_first, euc_jp_pair, euc_pair, is_pointer_byte}
use Rattle.encoding_codecs.specs.EucKr.{euc_kr_first, euc_kr_pair}
use Rattle.encoding_codecs.specs.Gb18030.{gb18030_after_lead, gb18030_after_three, gb18030_after_two, gb18030_first, gb18030_four_pointer, gb18030_pair}
use Rattle.encoding_codecs.specs.Iso2022Jp.{ascii_piece, begin_with_escape, cut_at_escapes, escape_at, first_text_piece, jis_pair_pointer, pair_piece, pieces_in_mode, pieces_of_part, pieces_of_parts, roman_piece}
use Rattle.encoding_codecs.specs.ShiftJis.{shift_jis_first, shift_jis_pair}
use Rattle.encoding_codecs.specs.TwoByte.{after_bytes, first_piece_by_lead, piece_of_first, piece_of_trail}
use Rattle.encoding_codecs.specs.declared.iso_2022_jp_decoder.Mode.{Mode}
use Rattle.encoding_codecs.specs.declared.iso_2022_jp_decoder.Mode.TheVariants.{Ascii, Roman, Katakana, Jis}
use Rattle.encoding_codecs.specs.declared.lead_byte_rule.FirstByte.{FirstByte}
use Rattle.encoding_codecs.specs.declared.lead_byte_rule.FirstByte.TheVariants.{Alone, Lead, Unused}
use Rattle.encoding_codecs.specs.declared.two_byte.PairValue.{PairValue}
use Rattle.encoding_codecs.specs.declared.two_byte.PairValue.TheVariants.{NoChar, OneChar, TwoChars}
use Rattle.encoding_front.specs.Encodings.{pieces_of}
use Rattle.encoding_front.specs.Marks.{mark_piece, marked_pieces, source_of}
use Rattle.encoding_front.specs.declared.encoding.Encoding.{Encoding}
use Rattle.encoding_front.specs.declared.mark.Mark.{Mark}

-- a piece is short, if it is malformed
abbrev pub IsShort : Piece → Type 0
IsShort (well_formed n cs) = Unit {0}
IsShort (malformed n) = n ≤ 4

abbrev pub AreShort : List Piece → Type 0
AreShort [] = Unit {0}
AreShort (p ∷ ps) = IsShort p × AreShort ps

short_append : (ps qs : List Piece) → AreShort ps → AreShort qs → AreShort (ps ++ qs)
short_append [] qs h k = k
short_append (p ∷ ps) qs h k = (h.0, short_append ps qs h.1 k)

short_within : {M : Type 0} (first_piece : M → List ℕ → Piece) (after : M → List ℕ → M) → ((m : M) (x : List ℕ) → IsShort (first_piece m x)) → (n : ℕ) (m : M) (x : List ℕ) → AreShort (pieces_within first_piece after n m x)
short_within first_piece after h n m [] = tt
short_within first_piece after h zero m (b ∷ x) = tt
short_within first_piece after h (suc n) m (b ∷ x) =
    (h m (b ∷ x), short_within first_piece after h n (after m (b ∷ x)) (drop (piece_len (first_piece m (b ∷ x))) (b ∷ x)))

short_in : {M : Type 0} (first_piece : M → List ℕ → Piece) (after : M → List ℕ → M) → ((m : M) (x : List ℕ) → IsShort (first_piece m x)) → (m : M) (x : List ℕ) → AreShort (pieces_in first_piece after m x)
unfolding pieces_in
short_in first_piece after h m x = short_within first_piece after h (length x) m x

short_by : (first_piece : List ℕ → Piece) → ((x : List ℕ) → IsShort (first_piece x)) → (x : List ℕ) → AreShort (pieces_by first_piece x)
short_by first_piece h x = short_in {M = Unit {0}} (λ _. first_piece) (λ m _. m) (λ _. h) tt x

short_if : (t : Bool) (p q : Piece) → IsShort p → IsShort q → IsShort (cond t p q)
short_if true p q h k = h
short_if false p q h k = k

short_one : (n : ℕ) (o : Option ℕ) → n ≤ 4 → IsShort (piece_of_scalar n o)
short_one n None h = h
short_one n (Some c) h = tt

-- ---- UTF-8, UTF-16, replacement and the single-byte encodings

short_three : (b c d : ℕ) (x : List ℕ) → IsShort (utf8_after_three b c d x)
short_three b c d [] = omega arith
short_three b c d (e ∷ x) = short_if (is_in_range 0x80 0xBF e) _ _ tt (omega arith)

short_two : (b c : ℕ) (x : List ℕ) → IsShort (utf8_after_two b c x)
short_two b c [] = omega arith
short_two b c (d ∷ x) = short_if (is_in_range 0x80 0xBF d) _ _ (short_if (nat_lt b 0xF0) _ _ tt (short_three b c d x)) (omega arith)

short_lead : (b : ℕ) (x : List ℕ) → IsShort (utf8_after_lead b x)
short_lead b [] = omega arith
short_lead b (c ∷ x) = short_if (is_in_range (second_min b) (second_max b) c) _ _ (short_if (nat_lt b 0xE0) _ _ tt (short_two b c x)) (omega arith)

short_utf8 : (x : List ℕ) → IsShort (first_piece_utf8 x)
short_utf8 [] = omega arith
short_utf8 (b ∷ x) = short_if (nat_lt b 0x80) _ _ tt (short_if (is_in_range 0xC2 0xF4 b) _ _ (short_lead b x) (omega arith))

short_high : (big_endian : Bool) (u : ℕ) (x : List ℕ) → IsShort (after_high_surrogate big_endian u x)
short_high big_endian u [] = omega arith
short_high big_endian u (c ∷ []) = omega arith
short_high big_endian u (c ∷ d ∷ x) = short_if (is_low_surrogate (unit_of big_endian c d)) _ _ tt (omega arith)

short_utf16 : (big_endian : Bool) (x : List ℕ) → IsShort (first_piece_utf16 big_endian x)
short_utf16 big_endian [] = omega arith
short_utf16 big_endian (a ∷ []) = omega arith
short_utf16 big_endian (a ∷ b ∷ x) =
    let u = unit_of big_endian a b in
    short_if (is_high_surrogate u) _ _ (short_high big_endian u x) (short_if (scalar u) _ _ tt (omega arith))

short_ignored : (x : List ℕ) → AreShort (map (λ _. well_formed 1 []) x)
short_ignored [] = tt
short_ignored (b ∷ x) = (tt, short_ignored x)

short_replacement : (x : List ℕ) → AreShort (pieces_replacement x)
short_replacement [] = tt
short_replacement (b ∷ x) = (omega arith, short_ignored x)

short_byte : (char_of : ℕ → Option ℕ) (x : List ℕ) → IsShort (first_piece_by_byte char_of x)
short_byte char_of [] = omega arith
short_byte char_of (b ∷ x) = short_one 1 (char_of b) (omega arith)

-- ---- the encodings with leads

short_trail : (n : ℕ) (v : PairValue) (b : ℕ) → n ≤ 3 → IsShort (piece_of_trail n v b)
short_trail n NoChar b h = short_if (nat_lt b 0x80) _ _ (omega (arith, h)) (omega (arith, h))
short_trail n (OneChar c) b h = tt
short_trail n (TwoChars c d) b h = tt

short_after : (n : ℕ) (value : ℕ → PairValue) (x : List ℕ) → n ≤ 3 → IsShort (after_bytes n value x)
short_after n value [] h = omega (arith, h)
short_after n value (b ∷ x) h = short_trail n (value b) b h

short_first : (f : FirstByte) (p : Piece) → IsShort p → IsShort (piece_of_first f p)
short_first (Alone c) p h = tt
short_first Lead p h = h
short_first Unused p h = omega arith

short_by_lead : (first : ℕ → FirstByte) (after : ℕ → List ℕ → Piece) → ((a : ℕ) (x : List ℕ) → IsShort (after a x)) → (x : List ℕ) → IsShort (first_piece_by_lead first after x)
short_by_lead first after h [] = omega arith
short_by_lead first after h (a ∷ x) = short_if (nat_lt a 0x80) _ _ tt (short_first (first a) (after a x) (h a x))

short_two_byte : (first : ℕ → FirstByte) (pair : ℕ → ℕ → PairValue) (x : List ℕ) → AreShort (pieces_by (first_piece_by_lead first (λ a. after_bytes 1 (pair a))) x)
short_two_byte first pair x = short_by _ (short_by_lead first (λ a. after_bytes 1 (pair a)) (λ a y. short_after 1 (pair a) y (omega arith))) x

short_8f : (jis0212 x : List ℕ) → IsShort (euc_jp_after_8f jis0212 x)
short_8f jis0212 [] = omega arith
short_8f jis0212 (b ∷ x) = short_if (is_pointer_byte b) _ _ (short_after 2 (euc_pair jis0212 b) x (omega arith)) (short_trail 1 NoChar b (omega arith))

short_euc_jp : (jis0208 jis0212 : List ℕ) (a : ℕ) (x : List ℕ) → IsShort (euc_jp_after jis0208 jis0212 a x)
short_euc_jp jis0208 jis0212 a x = short_if (a == 0x8F) _ _ (short_8f jis0212 x) (short_after 1 (euc_jp_pair jis0208 a) x (omega arith))

short_gb_three : (rows : List (ℕ × ℕ)) (a b c : ℕ) (x : List ℕ) → IsShort (gb18030_after_three rows a b c x)
short_gb_three rows a b c [] = omega arith
short_gb_three rows a b c (d ∷ x) = short_if (is_in_range 0x30 0x39 d) _ _ (short_one 4 (range_value rows (gb18030_four_pointer a b c d)) (omega arith)) (omega arith)

short_gb_two : (rows : List (ℕ × ℕ)) (a b : ℕ) (x : List ℕ) → IsShort (gb18030_after_two rows a b x)
short_gb_two rows a b [] = omega arith
short_gb_two rows a b (c ∷ x) = short_if (is_in_range 0x81 0xFE c) _ _ (short_gb_three rows a b c x) (omega arith)

short_gb : (flat : List ℕ) (rows : List (ℕ × ℕ)) (a : ℕ) (x : List ℕ) → IsShort (gb18030_after_lead flat rows a x)
short_gb flat rows a [] = omega arith
short_gb flat rows a (b ∷ x) = short_if (is_in_range 0x30 0x39 b) _ _ (short_gb_two rows a b x) (short_trail 1 (gb18030_pair flat a b) b (omega arith))

-- ---- ISO-2022-JP

short_ascii : (b : ℕ) → IsShort (ascii_piece b)
short_ascii b = short_if (nat_le 0x80 b || b == 0x0E || b == 0x0F || b == 0x1B) _ _ (omega arith) tt

short_roman : (b : ℕ) → IsShort (roman_piece b)
short_roman b = short_if (b == 0x5C) _ _ tt (short_if (b == 0x7E) _ _ tt (short_ascii b))

short_pair : (jis0208 : List ℕ) (b : ℕ) (x : List ℕ) → IsShort (pair_piece jis0208 b x)
short_pair jis0208 b [] = omega arith
short_pair jis0208 b (c ∷ x) = short_if (is_in_range 0x21 0x7E c) _ _ (short_one 2 (value_of jis0208 (jis_pair_pointer b c)) (omega arith)) (omega arith)

short_text : (jis0208 : List ℕ) (m : Mode) (x : List ℕ) → IsShort (first_text_piece jis0208 m x)
short_text jis0208 m [] = omega arith
short_text jis0208 Ascii (b ∷ x) = short_ascii b
short_text jis0208 Roman (b ∷ x) = short_roman b
short_text jis0208 Katakana (b ∷ x) = short_if (is_in_range 0x21 0x5F b) _ _ tt (omega arith)
short_text jis0208 Jis (b ∷ x) = short_if (is_in_range 0x21 0x7E b) _ _ (short_pair jis0208 b x) (omega arith)

short_part : (jis0208 : List ℕ) (m : Mode) (own : Option Mode) (part : List ℕ) (next : List (List ℕ)) → AreShort (pieces_of_part jis0208 m own part next)
short_part jis0208 m None part next = short_by _ (short_text jis0208 m) part
short_part jis0208 m (Some own) part next =
    (short_if (length part == 3 && begin_with_escape next) _ _ (omega arith) tt, short_by _ (short_text jis0208 own) (drop 3 part))

short_parts : (jis0208 : List ℕ) (m : Mode) (parts : List (List ℕ)) → AreShort (pieces_of_parts jis0208 m parts)
short_parts jis0208 m [] = tt
short_parts jis0208 m (part ∷ next) =
    short_append (pieces_of_part jis0208 m (escape_at part) part next) _ (short_part jis0208 m (escape_at part) part next) (short_parts jis0208 (unwrap_or (escape_at part) m) next)

short_mode : (jis0208 : List ℕ) (m : Mode) (x : List ℕ) → AreShort (pieces_in_mode jis0208 m x)
unfolding pieces_in_mode
short_mode jis0208 m x = short_parts jis0208 m (cut_at_escapes x)

-- ---- all

short_of : (t : IndexLists) (e : Encoding) (x : List ℕ) → AreShort (pieces_of t e x)
short_of t Encoding.Utf8 x = short_by _ short_utf8 x
short_of t Encoding.Big5 x = short_two_byte big5_first (big5_pair (index_entries t IndexKind.Big5)) x
short_of t Encoding.EucKr x = short_two_byte euc_kr_first (euc_kr_pair (index_entries t IndexKind.EucKr)) x
short_of t Encoding.EucJp x =
    short_by _ (short_by_lead euc_jp_first (euc_jp_after (index_entries t IndexKind.Jis0208) (index_entries t IndexKind.Jis0212)) (short_euc_jp (index_entries t IndexKind.Jis0208) (index_entries t IndexKind.Jis0212))) x
short_of t Encoding.ShiftJis x = short_two_byte shift_jis_first (shift_jis_pair (index_entries t IndexKind.Jis0208)) x
short_of t Encoding.Gb18030 x =
    short_by _ (short_by_lead gb18030_first (gb18030_after_lead (index_entries t IndexKind.Gb18030) (range_rows t)) (short_gb (index_entries t IndexKind.Gb18030) (range_rows t))) x
short_of t Encoding.Gbk x =
    short_by _ (short_by_lead gb18030_first (gb18030_after_lead (index_entries t IndexKind.Gb18030) (range_rows t)) (short_gb (index_entries t IndexKind.Gb18030) (range_rows t))) x
short_of t Encoding.Iso2022Jp x = short_mode (index_entries t IndexKind.Jis0208) Ascii x
short_of t Encoding.Utf16Be x = short_by _ (short_utf16 true) x
short_of t Encoding.Utf16Le x = short_by _ (short_utf16 false) x
short_of t Encoding.Replacement x = short_replacement x
short_of t _ x = short_by _ (short_byte _) x

short_mark : (n : ℕ) → AreShort (mark_piece n)
short_mark zero = tt
short_mark (suc n) = (tt, tt)

pub short_pieces : (t : IndexLists) (mark : Mark) (e : Encoding) (x : List ℕ) → AreShort (marked_pieces t mark e x)
short_pieces t mark e x =
    let s = source_of mark e x in
    short_append (mark_piece s.1) _ (short_mark s.1) (short_of t s.0 (drop s.1 x))
