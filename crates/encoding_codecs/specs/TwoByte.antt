-- The rule of the encodings with characters of two bytes (the Encoding Standard, section 10.2.1, "gb18030 decoder",
-- section 11.1.1, "Big5 decoder", sections 12.1.1 and 12.3.1, "EUC-JP decoder" and "Shift_JIS decoder", and section
-- 13.1.1, "EUC-KR decoder", in what they share). 00 to 7F give themselves. A lead needs a trail: at the end it is
-- malformed alone. A trail with which it gives nothing is left unread if it is ASCII, and is malformed with the lead
-- otherwise.
use Rattle.std.specs.Prelude.{ℕ, ◌+◌, List, [], ◌∷◌, nat_lt, if◌then◌else◌}
use Rattle.encoding_mem.specs.Piece.{Piece, well_formed, malformed}
use Rattle.encoding_codecs.specs.declared.lead_byte_rule.FirstByte.{FirstByte}
use Rattle.encoding_codecs.specs.declared.lead_byte_rule.FirstByte.TheVariants.{Alone, Lead, Unused}
use Rattle.encoding_codecs.specs.declared.two_byte.PairValue.{PairValue}
use Rattle.encoding_codecs.specs.declared.two_byte.PairValue.TheVariants.{NoChar, OneChar, TwoChars}

-- the first piece of bytes that begin with one from 80 on: that byte with its character if it is
-- one alone, that byte malformed if it is unused, or a given piece if it is a lead
abbrev pub piece_of_first : FirstByte → Piece → Piece
piece_of_first (Alone c) piece = well_formed 1 (c ∷ [])
piece_of_first Lead piece = piece
piece_of_first Unused piece = malformed 1

-- The first piece of one or more bytes, by what a first byte from 80 on is, and by the piece that
-- a lead begins with the bytes after it. ASCII gives itself.
abbrev pub first_piece_by_lead : (ℕ → FirstByte) → (ℕ → List ℕ → Piece) → List ℕ → Piece
first_piece_by_lead first after [] = malformed 1
first_piece_by_lead first after (a ∷ x) = if nat_lt a 0x80 then well_formed 1 (a ∷ []) else piece_of_first (first a) (after a x)

-- The piece of n bytes that need a trail, and of b, the next byte: it gives their one or two characters. If they
-- have none, it is malformed, with b in it unless b is ASCII.
abbrev pub piece_of_trail : ℕ → PairValue → ℕ → Piece
piece_of_trail n NoChar b = if nat_lt b 0x80 then malformed n else malformed (n + 1)
piece_of_trail n (OneChar c) b = well_formed (n + 1) (c ∷ [])
piece_of_trail n (TwoChars c d) b = well_formed (n + 1) (c ∷ d ∷ [])

-- the piece that n bytes begin which need a trail: malformed if no byte follows, else by what the next byte gives
-- with them
abbrev pub after_bytes : ℕ → (ℕ → PairValue) → List ℕ → Piece
after_bytes n value [] = malformed n
after_bytes n value (b ∷ x) = piece_of_trail n (value b) b

-- the first piece of one or more bytes in an encoding of one and two bytes, by what a first byte
-- from 80 on is, and by what a lead and the byte after it give: ASCII gives itself
abbrev pub first_piece_two_byte : (ℕ → FirstByte) → (ℕ → ℕ → PairValue) → List ℕ → Piece
first_piece_two_byte first pair = first_piece_by_lead first (λ a. after_bytes 1 (pair a))
