-- What is known of the first piece of UTF-8 if more bytes may come, in the order of the bytes: each definition
-- follows the one of specs/Utf8.antt that begins with as many bytes.
use Rattle.std.specs.Prelude.{ℕ, Bool, List, [], ◌∷◌, nat_lt, if◌then◌else◌}
use Rattle.std.specs.Int.{is_in_range}
use Rattle.encoding_mem.specs.Utf8.{second_min, second_max, scalar_of_two, scalar_of_three, scalar_of_four}
use Rattle.encoding_mem.specs.declared.codec.first_piece.FirstPiece.{FirstPiece}
use Rattle.encoding_mem.specs.declared.codec.first_piece.FirstPiece.TheVariants.{More, One, Malformed}
use Rattle.encoding_mem.specs.calls.DecoderRule.{cut_short}

-- what is known of a piece of UTF-8 after its lead and two more bytes, by what follows
abbrev pub utf8_decide_three : ℕ → ℕ → ℕ → List ℕ → Bool → FirstPiece
utf8_decide_three b c d [] last = cut_short 3 last
utf8_decide_three b c d (e ∷ x) last = if is_in_range 0x80 0xBF e then One (scalar_of_four b c d e) 4 else Malformed 3

-- what is known of a piece of UTF-8 after its lead and one more byte, by what follows
abbrev pub utf8_decide_two : ℕ → ℕ → List ℕ → Bool → FirstPiece
utf8_decide_two b c [] last = cut_short 2 last
utf8_decide_two b c (d ∷ x) last = if is_in_range 0x80 0xBF d
    then (if nat_lt b 0xF0 then One (scalar_of_three b c d) 3 else utf8_decide_three b c d x last)
    else Malformed 2

-- what is known of a piece of UTF-8 after its lead, by what follows
abbrev pub utf8_decide_lead : ℕ → List ℕ → Bool → FirstPiece
utf8_decide_lead b [] last = cut_short 1 last
utf8_decide_lead b (c ∷ x) last = if is_in_range (second_min b) (second_max b) c
    then (if nat_lt b 0xE0 then One (scalar_of_two b c) 2 else utf8_decide_two b c x last)
    else Malformed 1

-- what is known of the first piece of some bytes of UTF-8, of which more may come unless they are
-- the last
abbrev pub decide_utf8 : List ℕ → Bool → FirstPiece
decide_utf8 [] last = More
decide_utf8 (b ∷ x) last = if nat_lt b 0x80
    then One b 1
    else (if is_in_range 0xC2 0xF4 b then utf8_decide_lead b x last else Malformed 1)
