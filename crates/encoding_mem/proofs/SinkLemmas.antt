-- What a text, or a run of units below D800 hex, takes in a sink that is written to character by character.
use Rattle.std.proofs.Common.{◌≡◌, ℕ, ◌+◌, ◌≤◌, ◌<◌, Bool, true, false, List, [], ◌∷◌, ◌++◌, length, take, drop, get_or, inl, inr, ◌∙◌, ap, subst, arith, length-append, length-take, encode_utf8_all, refl}
use Rattle.std.proofs.lemmas.List.{get_or-take, get_or_past, take_more}
use Rattle.std.proofs.lemmas.Bool.{cases_lt}
use Rattle.std.specs.Char.{len_utf8, encode_utf8}
use Rattle.std.specs.Str.{chars, IsUtf8, IsCharBoundary, all_scalars}
use Rattle.std.proofs.lemmas.Str.{IsUtf8-drop, drop_past_char, encodes-chars, encodes-append, chars-encodes, chars-nil, length-encode}
use Rattle.encoding_mem.specs.calls.DecodedLength.{cost_in}
use Rattle.encoding_mem.specs.calls.TextRun.{text_len}
use Rattle.encoding_mem.specs.calls.Writing.{encode_utf16_all}
use Rattle.encoding_mem.specs.laws.Writing.{encode_utf16_all-append, length-encode_utf16, len_utf16_le}
use Rattle.encoding_mem.specs.laws.UnitRun.{plain_scalars, three_bytes}
use Rattle.std.specs.Char.Escape.{encode_utf16}

pub cost_le : (b : Bool) (c : ℕ) → cost_in b c ≤ len_utf8 c
cost_le true c = len_utf16_le c
cost_le false c = omega arith

pub text_len_first : (b : Bool) (rest more : List ℕ) (c : ℕ) → chars rest ≡ c ∷ chars more → rest ≡ encode_utf8 c ++ more → text_len b rest ≡ cost_in b c + text_len b more
text_len_first true rest more c cs bytes =
    ap (λ l. length (encode_utf16_all l)) cs ∙ omega (arith, length-append (encode_utf16 c) (encode_utf16_all (chars more)), length-encode_utf16 c)
text_len_first false rest more c cs bytes = ap length bytes ∙ omega (arith, length-append (encode_utf8 c) more, length-encode c)

pub text_len_none : (b : Bool) (rest : List ℕ) → IsUtf8 rest → chars rest ≡ [] → text_len b rest ≡ 0
text_len_none true rest utf8 none = ap (λ l. length (encode_utf16_all l)) none
text_len_none false rest utf8 none = omega (arith, ap length (encodes-chars rest utf8), ap (λ l. length (encode_utf8_all l)) none)

pub rest_utf8 : (rest more : List ℕ) (c : ℕ) → IsUtf8 rest → rest ≡ encode_utf8 c ++ more → IsCharBoundary rest (len_utf8 c) → IsUtf8 more
rest_utf8 rest more c utf8 is at =
    let none : len_utf8 c ≡ 0 + len_utf8 c = omega arith in
    subst IsUtf8 (ap (λ n. drop n rest) none ∙ drop_past_char rest more 0 c is) (IsUtf8-drop rest (len_utf8 c) utf8 at)

-- of units below D800 hex each is its own scalar
pub unit_cost : (b : Bool) (c : ℕ) → c < 0xD800 → cost_in b c ≤ 3
unit_cost b c plain = omega (arith, cost_le b c, three_bytes c plain)

count_more : (b : Bool) (us : List ℕ) (c : ℕ) → all_scalars us ≡ true → all_scalars (us ++ (c ∷ [])) ≡ true → text_len b (encode_utf8_all (us ++ (c ∷ []))) ≡ text_len b (encode_utf8_all us) + cost_in b c
count_more true us c some more =
    ap (λ cs. length (encode_utf16_all cs)) (chars-encodes (us ++ (c ∷ [])) more) ∙ ap length (encode_utf16_all-append us (c ∷ []))
    ∙ omega (arith, length-append (encode_utf16_all us) (encode_utf16 c ++ []), length-append (encode_utf16 c) [], length-encode_utf16 c, ap (λ cs. length (encode_utf16_all cs)) (chars-encodes us some))
count_more false us c some more = ap length (encodes-append us (c ∷ [])) ∙ omega (arith, length-append (encode_utf8_all us) (encode_utf8 c ++ []), length-append (encode_utf8 c) [], length-encode c)

plain_take : (us : List ℕ) (n : ℕ) → ((k : ℕ) → get_or us k 0 < 0xD800) → (k : ℕ) → get_or (take n us) k 0 < 0xD800
plain_take us n plain k = elim (cases_lt k n) [
  | inl low ↦ rw (get_or-take n us k 0 low) (plain k)
  | inr high ↦ rw (get_or_past (take n us) k 0 (omega (arith, high, length-take n us))) (omega arith)
]

pub units_more : (b : Bool) (us : List ℕ) (n : ℕ) → ((k : ℕ) → get_or us k 0 < 0xD800) → n < length us → text_len b (encode_utf8_all (take (n + 1) us)) ≡ text_len b (encode_utf8_all (take n us)) + cost_in b (get_or us n 0)
units_more b us n plain some =
    let next = take_more us n 0 some in
    ap (λ l. text_len b (encode_utf8_all l)) next
    ∙ count_more b (take n us) (get_or us n 0) (plain_scalars (take n us) (plain_take us n plain)) (rw (← next) (plain_scalars (take (n + 1) us) (plain_take us (n + 1) plain)))

pub no_units : (b : Bool) → text_len b [] ≡ 0
no_units b = text_len_none b [] ([], (refl, refl)) chars-nil
