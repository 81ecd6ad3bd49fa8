-- Examples of the checks and the conversions of texts, worked by hand.
use Rattle.std.proofs.Common.{◌≡◌, ℕ, zero, suc, ◌+◌, ◌<◌, ◌≤◌, true, false, inl, inr, List, [], ◌∷◌, length, take, refl, subst, arith}
use Rattle.std.specs.Prelude.{slice_index}
use Rattle.std.specs.Char.{encode_utf8}
use Rattle.std.specs.Char.Utf16.{utf16_chars}
use Rattle.std.specs.Str.{chars, is_utf8, IsAscii, IsUtf8}
use Rattle.std.specs.Str.Lossy.{utf8_valid_len}
use Rattle.std.proofs.lemmas.Str.{utf8_valid_len-IsUtf8}
use Rattle.encoding_mem.specs.Bidi.{is_bidi_char, is_bidi_unit}
use Rattle.encoding_mem.specs.Conversions.{IsLongest, IsUnitBoundary, low_bytes, units_in_utf8, text_in_utf16}
use Rattle.encoding_mem.specs.LongestPrefix.{IsLongestPrefix}
use Rattle.encoding_mem.specs.Piece.{text}
use Rattle.encoding_mem.specs.Pieces.{pieces_in}
use Rattle.encoding_mem.specs.Surrogates.{IsHighSurrogate, IsLoneSurrogate, IsMended}
use Rattle.encoding_mem.specs.calls.TextDestination.{cleared}
use Rattle.encoding_mem.specs.Utf8.{pieces_utf8}
use Rattle.encoding_mem.specs.calls.Writing.{encode_utf16_all}

-- the edges of a block, and the character before the first one
pub hebrew_block_begins : is_bidi_char 0x590 ≡ true
hebrew_block_begins = refl

pub armenian_is_none : is_bidi_char 0x58F ≡ false
armenian_is_none = refl

pub mark_is_one : is_bidi_char 0x200F ≡ true
mark_is_one = refl

pub byte_order_mark_is_none : is_bidi_char 0xFEFF ≡ false
byte_order_mark_is_none = refl

-- U+1E800 is D83A DC00
pub high_surrogate_is_one : is_bidi_unit 0xD83A ≡ true
high_surrogate_is_one = refl

pub low_surrogate_is_none : is_bidi_unit 0xDC00 ≡ false
low_surrogate_is_none = refl

-- U+00FF is the last character of two bytes that begin with C3
pub last_of_latin1 : chars (0xC3 ∷ 0xBF ∷ []) ≡ 0xFF ∷ []
unfolding chars
last_of_latin1 = refl

pub first_above_latin1 : chars (0xC4 ∷ 0x80 ∷ []) ≡ 0x100 ∷ []
unfolding chars
first_above_latin1 = refl

-- Of a text destination, what is after the written part: the rest of `é`, and a letter that stays.
pub rest_is_cleared : cleared (0xA9 ∷ 0x42 ∷ []) ≡ 0 ∷ 0x42 ∷ []
rest_is_cleared = refl

pub letter_stays : cleared (0x42 ∷ 0xC3 ∷ 0xA9 ∷ []) ≡ 0x42 ∷ 0xC3 ∷ 0xA9 ∷ []
letter_stays = refl

-- the low eight bits of U+0141 are those of `A`
pub high_bits_are_lost : low_bytes (0x141 ∷ 0xE9 ∷ []) ≡ 0x41 ∷ 0xE9 ∷ []
high_bits_are_lost = refl

-- a surrogate in no pair is U+FFFD, and a pair is one character
pub units_as_bytes : units_in_utf8 (0x41 ∷ 0xDCA9 ∷ 0xD83D ∷ 0xDCA9 ∷ 0xD83D ∷ [])
    ≡ 0x41 ∷ 0xEF ∷ 0xBF ∷ 0xBD ∷ 0xF0 ∷ 0x9F ∷ 0x92 ∷ 0xA9 ∷ 0xEF ∷ 0xBF ∷ 0xBD ∷ []
unfolding utf16_chars encode_utf8
units_as_bytes = refl

pub text_as_units : text_in_utf16 (0x41 ∷ 0xE2 ∷ 0x82 ∷ 0xAC ∷ 0xF0 ∷ 0x9F ∷ 0x92 ∷ 0xA9 ∷ []) ≡ 0x41 ∷ 0x20AC ∷ 0xD83D ∷ 0xDCA9 ∷ []
unfolding chars
text_as_units = refl

-- the three bytes of a surrogate's form between two letters are three malformed sequences
pub broken_text_as_units : encode_utf16_all (text (pieces_utf8 (0x61 ∷ 0xED ∷ 0xA0 ∷ 0x80 ∷ 0x5A ∷ []))) ≡ 0x61 ∷ 0xFFFD ∷ 0xFFFD ∷ 0xFFFD ∷ 0x5A ∷ []
unfolding pieces_in
broken_text_as_units = refl

three_or_four : 3 < 4
three_or_four = omega arith

abbrev bytes_before : List ℕ → ℕ → ℕ
bytes_before units i = length (units_in_utf8 (take i units))

-- `A€` into three bytes: the three of the euro sign do not fit after the letter.
abbrev letter_and_euro : List ℕ
letter_and_euro = 0x41 ∷ 0x20AC ∷ []

euro_is_the_rest : (i : ℕ) → 1 < i → i ≤ 2 → 2 ≡ i
euro_is_the_rest i more le = omega arith

pub letter_fits_alone : IsLongest (IsUnitBoundary letter_and_euro) (bytes_before letter_and_euro) 2 3 1
unfolding utf16_chars encode_utf8
letter_fits_alone = record {
  within = omega arith;
  whole = λ k e p. absurd (omega (arith, p.1));
  fits = omega arith;
  longest = λ i more le _. subst (λ n. 3 < bytes_before letter_and_euro n) (euro_is_the_rest i more le) three_or_four;
}

-- into four bytes both fit
pub letter_and_euro_fit : IsLongest (IsUnitBoundary letter_and_euro) (bytes_before letter_and_euro) 2 4 2
unfolding utf16_chars encode_utf8
letter_and_euro_fit = record {
  within = omega arith;
  whole = λ k e p. absurd (omega (arith, p.1));
  fits = omega arith;
  longest = λ i more le _. absurd (omega arith);
}

-- The two units of U+1F4A9 into three bytes: it needs four, and the pair is not parted.
abbrev pair : List ℕ
pair = 0xD83D ∷ 0xDCA9 ∷ []

longer_than_none : (i : ℕ) → 0 < i → i ≤ 2 → IsUnitBoundary pair i → 3 < bytes_before pair i
unfolding utf16_chars encode_utf8
longer_than_none zero more le whole = absurd (omega arith)
longer_than_none (suc zero) more le whole = absurd (whole 0 refl ((omega arith, omega arith), (omega arith, omega arith)))
longer_than_none (suc (suc zero)) more le whole = three_or_four
longer_than_none (suc (suc (suc i))) more le whole = absurd (omega arith)

pub pair_is_not_parted : IsLongest (IsUnitBoundary pair) (bytes_before pair) 2 3 0
unfolding utf16_chars
pair_is_not_parted = record {
  within = omega arith;
  whole = λ k e. absurd (omega arith);
  fits = omega arith;
  longest = longer_than_none;
}

-- The ASCII at the start of `Aé`.
abbrev letter_and_accent : List ℕ
letter_and_accent = 0x41 ∷ 0xC3 ∷ 0xA9 ∷ []

all_of_letter : (i : ℕ) → slice_index (0x41 ∷ []) i < 0x80
all_of_letter zero = omega arith
all_of_letter (suc i) = omega arith

accent_is_none : (m : ℕ) → 1 < m → m ≤ 3 → ¬ (IsAscii (take m letter_and_accent))
accent_is_none zero more le ascii = absurd (omega arith)
accent_is_none (suc zero) more le ascii = absurd (omega arith)
accent_is_none (suc (suc m)) more le ascii = let first = ascii 1 in absurd (omega arith)

pub ascii_ends_before_the_accent : IsLongestPrefix IsAscii letter_and_accent 1
ascii_ends_before_the_accent = record { within = omega arith; well_formed = all_of_letter; longest = accent_is_none }

-- a prefix is not the longest if the next byte is ASCII too
all_of_letters : (i : ℕ) → slice_index (0x41 ∷ 0x42 ∷ []) i < 0x80
all_of_letters zero = omega arith
all_of_letters (suc zero) = omega arith
all_of_letters (suc (suc i)) = omega arith

pub ascii_goes_on : ¬ (IsLongestPrefix IsAscii (0x41 ∷ 0x42 ∷ []) 1)
ascii_goes_on prefix = prefix.longest 2 (omega arith) (omega arith) all_of_letters

-- The text at the start of a letter and a cut sequence.
abbrev letter_and_cut : List ℕ
letter_and_cut = 0x41 ∷ 0xE2 ∷ 0x82 ∷ []

text_in_cut : utf8_valid_len (0x41 ∷ 0xE2 ∷ []) ≡ 1
unfolding utf8_valid_len is_utf8 chars encode_utf8
text_in_cut = refl

text_in_longer_cut : utf8_valid_len letter_and_cut ≡ 1
unfolding utf8_valid_len is_utf8 chars encode_utf8
text_in_longer_cut = refl

cut_is_none : (m : ℕ) → 1 < m → m ≤ 3 → ¬ (IsUtf8 (take m letter_and_cut))
cut_is_none zero more le utf8 = absurd (omega arith)
cut_is_none (suc zero) more le utf8 = absurd (omega arith)
cut_is_none (suc (suc zero)) more le utf8 = absurd (omega (arith, text_in_cut, utf8_valid_len-IsUtf8 (0x41 ∷ 0xE2 ∷ []) utf8))
cut_is_none (suc (suc (suc zero))) more le utf8 = absurd (omega (arith, text_in_longer_cut, utf8_valid_len-IsUtf8 letter_and_cut utf8))
cut_is_none (suc (suc (suc (suc m)))) more le utf8 = absurd (omega arith)

pub text_ends_before_the_cut : IsLongestPrefix IsUtf8 letter_and_cut 1
unfolding encode_utf8
text_ends_before_the_cut = record { within = omega arith; well_formed = (0x41 ∷ [], (refl, refl)); longest = cut_is_none }

-- Each surrogate of a high one, a letter and a low one is alone.
abbrev parted : List ℕ
parted = 0xD83D ∷ 0x41 ∷ 0xDCA9 ∷ []

abbrev mended : List ℕ
mended = 0xFFFD ∷ 0x41 ∷ 0xFFFD ∷ []

mended_where_alone : (i : ℕ) → IsLoneSurrogate parted i → slice_index mended i ≡ 0xFFFD
mended_where_alone zero alone = refl
mended_where_alone (suc zero) alone = elim alone [ inl high ↦ absurd (omega (arith, high.0)) | inr low ↦ absurd (omega (arith, low.0)) ]
mended_where_alone (suc (suc zero)) alone = refl
mended_where_alone (suc (suc (suc i))) alone = elim alone [ inl high ↦ absurd (omega (arith, high.0)) | inr low ↦ absurd (omega (arith, low.0)) ]

others_stay : (i : ℕ) → ¬ (IsLoneSurrogate parted i) → slice_index mended i ≡ slice_index parted i
others_stay zero paired = absurd (paired (inl ((omega arith, omega arith), λ low. absurd (omega (arith, low)))))
others_stay (suc zero) paired = refl
others_stay (suc (suc zero)) paired = absurd (paired (inr ((omega arith, omega arith), behind_the_letter)))
  where
    behind_the_letter : (k : ℕ) → k + 1 ≡ 2 → ¬ (IsHighSurrogate (slice_index parted k))
    behind_the_letter zero e high = absurd (omega arith)
    behind_the_letter (suc zero) e high = absurd (omega (arith, high))
    behind_the_letter (suc (suc k)) e high = absurd (omega arith)
others_stay (suc (suc (suc i))) paired = refl

pub both_are_mended : IsMended parted mended
both_are_mended = record { same_length = refl; lone = mended_where_alone; others = others_stay }

-- A conversion of a part takes all that fits, and parts no surrogate pair: `A` alone of `A€` into four bytes is refuted,
-- and half of U+1F4A9.
pub fitting_euro_is_taken : ¬ (IsLongest (IsUnitBoundary letter_and_euro) (bytes_before letter_and_euro) 2 4 1)
unfolding utf16_chars encode_utf8
fitting_euro_is_taken longest = omega (arith, longest.longest 2 (omega arith) (omega arith) (λ k e p. absurd (omega (arith, p.1))))

pub half_a_pair_is_not_taken : ¬ (IsLongest (IsUnitBoundary pair) (bytes_before pair) 2 3 1)
half_a_pair_is_not_taken longest = longest.whole 0 refl ((omega arith, omega arith), (omega arith, omega arith))

-- A cut sequence is not well-formed: a prefix that has it is refuted.
pub cut_is_not_text : ¬ (IsLongestPrefix IsUtf8 letter_and_cut 3)
cut_is_not_text prefix = omega (arith, text_in_longer_cut, utf8_valid_len-IsUtf8 letter_and_cut prefix.well_formed)

-- A surrogate pair is no lone surrogate: U+FFFD in its place is refuted.
pub pair_is_not_mended : ¬ (IsMended pair (0xFFFD ∷ 0xFFFD ∷ []))
pair_is_not_mended mend = omega (arith, mend.others 0 paired)
  where
    paired : ¬ (IsLoneSurrogate pair 0)
    paired (inl alone) = alone.1 (omega arith, omega arith)
    paired (inr low) = omega (arith, low.0)
