-- Text from right to left by its bytes in UTF-8: where a character of `is_bidi_char` begins, its first three bytes
-- are a number of these ranges, and no other three bytes in a text are. A character of two bytes has the next
-- character's first byte as its third.
use Rattle.std.specs.Prelude.{ℕ, ◌+◌, ◌*◌, Bool, ◌||◌, List, slice_index}
use Rattle.std.specs.Int.{is_in_range}

-- whether a character of `is_bidi_char` begins at three bytes of a text in UTF-8, which are given
-- as one big-endian number
abbrev pub is_bidi_number : ℕ → Bool
is_bidi_number v = (is_in_range 0xD6_9000 0xE0_A3FF v || is_in_range 0xE2_808F 0xE2_808F v || is_in_range 0xE2_80AB 0xE2_80AB v || is_in_range 0xE2_80AE 0xE2_80AE v
    || is_in_range 0xE2_81A7 0xE2_81A7 v || is_in_range 0xEF_AC9D 0xEF_B7BF v || is_in_range 0xEF_B9B0 0xEF_BBBE v) || is_in_range 0xF0_90A0 0xF0_90BF v || is_in_range 0xF0_9EA0 0xF0_9EBF v

-- whether a character of `is_bidi_char` begins at three bytes of a text in UTF-8
abbrev pub is_bidi_bytes : ℕ → ℕ → ℕ → Bool
is_bidi_bytes b n m = is_bidi_number (b * 0x1_0000 + n * 0x100 + m)

-- whether a character of `is_bidi_char` begins at an offset of a text in UTF-8, 00 past its end
abbrev pub is_bidi_at : List ℕ → ℕ → Bool
is_bidi_at bytes i = is_bidi_bytes (slice_index bytes i) (slice_index bytes (i + 1)) (slice_index bytes (i + 2))

-- whether a byte may begin a character of `is_bidi_char` in UTF-8: D6 to E0, E2, EF or F0
abbrev pub is_bidi_lead : ℕ → Bool
is_bidi_lead b = is_in_range 0xD6 0xE0 b || is_in_range 0xE2 0xE2 b || is_in_range 0xEF 0xF0 b
