-- What is known of the first piece of UTF-16 if more bytes may come: each definition follows the one of
-- specs/Utf16.antt that begins with as many bytes.
use Rattle.std.specs.Prelude.{ℕ, Bool, List, [], ◌∷◌, if◌then◌else◌}
use Rattle.std.specs.Char.Utf16.{is_high_surrogate, is_low_surrogate, surrogate_pair_char}
use Rattle.std.proofs.Math.Utf8.{scalar}
use Rattle.encoding_mem.specs.declared.codec.first_piece.FirstPiece.{FirstPiece}
use Rattle.encoding_mem.specs.declared.codec.first_piece.FirstPiece.TheVariants.{More, One, Malformed}
use Rattle.encoding_mem.specs.calls.DecoderRule.{cut_short}
use Rattle.encoding_tables.specs.Utf16.{unit_of}

-- what is known of a piece of UTF-16 after its high surrogate, by the bytes that follow
abbrev pub decide_pair : (big_endian : Bool) → ℕ → List ℕ → Bool → FirstPiece
decide_pair big_endian u [] last = cut_short 2 last
decide_pair big_endian u (c ∷ []) last = cut_short 3 last
decide_pair big_endian u (c ∷ d ∷ x) last = if is_low_surrogate (unit_of big_endian c d)
    then One (surrogate_pair_char u (unit_of big_endian c d)) 4
    else Malformed 2

-- what is known of a piece of UTF-16 after its first unit, by the bytes that follow
abbrev pub decide_unit : (big_endian : Bool) → ℕ → List ℕ → Bool → FirstPiece
decide_unit big_endian u x last = if is_high_surrogate u
    then decide_pair big_endian u x last
    else (if scalar u then One u 2 else Malformed 2)

-- what is known of the first piece of some bytes of UTF-16, of which more may come unless they are
-- the last
abbrev pub decide_utf16 : (big_endian : Bool) → List ℕ → Bool → FirstPiece
decide_utf16 big_endian [] last = More
decide_utf16 big_endian (a ∷ []) last = cut_short 1 last
decide_utf16 big_endian (a ∷ b ∷ x) last = decide_unit big_endian (unit_of big_endian a b) x last
