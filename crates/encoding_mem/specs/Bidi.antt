-- Text that may have to be laid out from right to left: characters of the bidirectional classes R and AL of
-- Unicode, and the controls that begin a run from right to left. By blocks, so some characters in
-- between count that have another class.
use Rattle.std.specs.Prelude.{ℕ, Bool, ◌||◌, ◌⊎◌, IsTrue, List, slice_index}
use Rattle.std.specs.Int.{is_in_range}
use Rattle.std.specs.Str.{IsUtf8, chars}

-- whether a number is one of the right-to-left ranges of the basic plane: U+0590 to U+08FF, U+FB1D
-- to U+FDFF, U+FE70 to U+FEFE, and the controls RLM, RLE, RLO and RLI
abbrev pub is_bidi_bmp : ℕ → Bool
is_bidi_bmp c = is_in_range 0x590 0x8FF c || is_in_range 0x200F 0x200F c || is_in_range 0x202B 0x202B c || is_in_range 0x202E 0x202E c
    || is_in_range 0x2067 0x2067 c || is_in_range 0xFB1D 0xFDFF c || is_in_range 0xFE70 0xFEFE c

-- whether a character may have to be laid out from right to left: one of `is_bidi_bmp`, or of
-- U+10800 to U+10FFF or U+1E800 to U+1EFFF
abbrev pub is_bidi_char : ℕ → Bool
is_bidi_char c = is_bidi_bmp c || is_in_range 0x1_0800 0x1_0FFF c || is_in_range 0x1_E800 0x1_EFFF c

-- whether a unit of UTF-16 may belong to text from right to left: one of `is_bidi_bmp`, or a high
-- surrogate of U+10800 to U+10FFF (D802, D803) or of U+1E800 to U+1EFFF (D83A, D83B)
abbrev pub is_bidi_unit : ℕ → Bool
is_bidi_unit u = is_bidi_bmp u || is_in_range 0xD802 0xD803 u || is_in_range 0xD83A 0xD83B u

-- a text has a character that may have to be laid out from right to left, by `is_bidi_char`
abbrev pub HasBidi : List ℕ → Type 0
HasBidi cs = (i : ℕ) × IsTrue (is_bidi_char (slice_index cs i))

-- units of UTF-16 include one that may belong to text from right to left, by `is_bidi_unit`
abbrev pub HasBidiUnit : List ℕ → Type 0
HasBidiUnit units = (i : ℕ) × IsTrue (is_bidi_unit (slice_index units i))

-- bytes are not UTF-8, or have a character that may have to be laid out from right to left
abbrev pub IsBidiBytes : List ℕ → Type 0
IsBidiBytes bytes = (¬ IsUtf8 bytes) ⊎ HasBidi (chars bytes)
