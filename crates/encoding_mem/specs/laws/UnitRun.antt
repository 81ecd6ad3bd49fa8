-- Units of UTF-16 below D800 hex: their encodings and how long these are.
use Rattle.std.proofs.Common.{◌≡◌, ℕ, suc, ◌*◌, ◌<◌, ◌≤◌, Bool, true, false, cond, List, [], ◌∷◌, ◌++◌, length, get_or, refl, ◌∙◌, ap, arith, encode_utf8_all, length-append}
use Rattle.std.specs.Char.{encode_utf8, len_utf8}
use Rattle.std.specs.Char.Escape.{encode_utf16}
use Rattle.std.specs.Str.{all_scalars}
use Rattle.std.proofs.lemmas.Bool.{lt-ltb}
use Rattle.std.proofs.lemmas.Bool.Decides.{nat_tests}
use Rattle.std.proofs.lemmas.Str.{chars-encodes, length-encode}
use Rattle.encoding_mem.specs.calls.TextRun.{text_len}
use Rattle.encoding_mem.specs.calls.Writing.{encode_utf16_all}

-- in UTF-16 each is its own encoding
one_unit : (c : ℕ) → c < 0x1_0000 → encode_utf16 c ≡ c ∷ []
one_unit c small = rw (lt-ltb c 0x1_0000 small) refl

pub units_alone : (us : List ℕ) → ((k : ℕ) → get_or us k 0 < 0x1_0000) → encode_utf16_all us ≡ us
units_alone [] small = refl
units_alone (u ∷ us) small = ap (λ l. l ++ encode_utf16_all us) (one_unit u (small 0)) ∙ ap (λ l. u ∷ l) (units_alone us (λ k. small (suc k)))

-- in UTF-8 each has three bytes at most
pub three_bytes : (c : ℕ) → c < 0xD800 → len_utf8 c ≤ 3
three_bytes c small = grind (arith, nat_tests)

unit_bytes : (us : List ℕ) → ((k : ℕ) → get_or us k 0 < 0xD800) → length (encode_utf8_all us) ≤ 3 * length us
unit_bytes [] small = omega arith
unit_bytes (u ∷ us) small = omega (arith, length-append (encode_utf8 u) (encode_utf8_all us), length-encode u, three_bytes u (small 0), unit_bytes us (λ k. small (suc k)))

pub plain_scalars : (us : List ℕ) → ((k : ℕ) → get_or us k 0 < 0xD800) → all_scalars us ≡ true
plain_scalars [] plain = refl
plain_scalars (u ∷ us) plain = rw (lt-ltb u 0xD800 (plain 0), plain_scalars us (λ k. plain (suc k))) refl

pub unit_text_len : (is_units : Bool) (us : List ℕ) → ((k : ℕ) → get_or us k 0 < 0xD800)
    → text_len is_units (encode_utf8_all us) ≤ cond is_units (length us) (3 * length us)
unit_text_len true us plain = omega (arith, ap (λ cs. length (encode_utf16_all cs)) (chars-encodes us (plain_scalars us plain)), ap length (units_alone us (λ k. omega (arith, plain k))))
unit_text_len false us plain = unit_bytes us plain
