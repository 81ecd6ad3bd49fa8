-- How bytes stand side by side in a text of the characters U+0000 to U+00FF, in UTF-8: C2 and C3, which begin
-- U+0080 to U+00FF, stand before a continuation byte, and no other byte does.
use Rattle.std.specs.Prelude.{ℕ, Bool, ◌&&◌, ◌||◌, not, nat_lt}
use Rattle.std.specs.Int.{is_in_range}

-- whether two bytes in a row fit in UTF-8 of U+0000 to U+00FF: C2 or C3 and then 80 to BF, or
-- below C0 and then none of 80 to BF
abbrev pub is_latin1_pair : ℕ → ℕ → Bool
is_latin1_pair b next = is_in_range 0xC2 0xC3 b && is_in_range 0x80 0xBF next || nat_lt b 0xC0 && not (is_in_range 0x80 0xBF next)
