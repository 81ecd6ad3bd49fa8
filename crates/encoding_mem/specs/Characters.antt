-- Where the characters of a text begin (RFC 3629, section 3: a byte 10xxxxxx begins none).
use Rattle.std.specs.Prelude.{ℕ, Bool, ◌||◌, nat_lt, nat_le}

-- whether a byte of UTF-8 begins a character: it is none of 80 to BF (RFC 3629, section 3)
abbrev pub begins_character : ℕ → Bool
begins_character b = nat_lt b 0x80 || nat_le 0xC0 b
