-- The characters of a text, by their first bytes, and their units.
use Rattle.std.proofs.Common.{rules, ◌≡◌, ℕ, ◌+◌, ◌*◌, ◌-◌, ◌/◌, ◌%◌, ◌<◌, ◌≤◌, List, [], ◌∷◌, ◌++◌, length, take, drop, set, get_or, inl, inr, refl, sym, ◌∙◌, ap, subst, arith, length-drop, length-append, encode_utf8_all}
use Rattle.std.proofs.lemmas.Bool.{cases_lt, lt-ltb}
use Rattle.std.proofs.lemmas.Bool.Decides.{nat_tests}
use Rattle.std.proofs.lemmas.List.{get_or-drop, take_more_set, append-nil, take_rest, take_all, take-take, length-take-le}
use borrow.Rule.Slice.PartMut.{put_mid}
use Rattle.std.proofs.lemmas.Str.{IsUtf8-drop, IsCharBoundary-start, chars-nil, IsCharBoundary-from_take, IsCharBoundary-past_char, IsUtf8-from_ascii, chars_past_char, encode_ascii, length-encode, len_utf8_bounds}
use Rattle.std.specs.Char.{encode_utf8, len_utf8}
use Rattle.std.specs.Char.Escape.{encode_utf16}
use Rattle.std.specs.Str.{chars, IsAscii, IsUtf8, IsCharBoundary}
use Rattle.encoding_mem.specs.Conversions.{text_in_utf16}
use Rattle.encoding_mem.specs.calls.TextUnits.{IsInUnits, size_from_lead}
use Rattle.encoding_mem.specs.calls.Writing.{len_utf16, encode_utf16_all}
use Rattle.encoding_mem.specs.laws.Writing.{encode_utf16_all-append, len_utf16_le}
use Rattle.encoding_mem.proofs.AsciiLemmas.{ascii_take}
use Rattle.encoding_mem.proofs.DestinationLemmas.{take_into, drop_into}
use Rattle.encoding_mem.proofs.LongestPrefixLemmas.{length_put}
use Rattle.encoding_mem.proofs.UnitCopyLemmas.{further}
use Rattle.encoding_mem.proofs.Utf8TextLemmas.{of_two, of_three, of_four, part_boundary, first_alone, chars_part, ascii_in_utf16}

-- a character begins at an offset before the end
pub record CharAt (text : List ℕ) (i : ℕ) : Type 0 where
  pub char : ℕ
  pub rest : List ℕ
  pub bytes : drop i text ≡ encode_utf8 char ++ rest

first_char : (text : List ℕ) → IsUtf8 text → 0 < length text → CharAt text 0
first_char text utf8 some = of_list utf8.0 utf8.1.1
  where
    of_list : (cs : List ℕ) → encode_utf8_all cs ≡ text → CharAt text 0
    of_list [] is = let l : 0 ≡ length text = ap length is in absurd (omega arith)
    of_list (c ∷ cs) is = record { char = c; rest = encode_utf8_all cs; bytes = sym is }

pub char_at : (text : List ℕ) (i : ℕ) → IsUtf8 text → IsCharBoundary text i → i < length text → CharAt text i
char_at text i utf8 b inside =
    let first = first_char (drop i text) (IsUtf8-drop text i utf8 b) (omega (arith, length-drop i text)) in
    record { char = first.char; rest = first.rest; bytes = first.bytes }

-- so the text does not end there
pub goes_on : (text : List ℕ) (i : ℕ) → IsUtf8 text → IsCharBoundary text i → i < length text → chars (drop i text) ≡ [] → ⊥
goes_on text i utf8 b inside none =
    let first = char_at text i utf8 b inside in
    let same : first.char ∷ chars first.rest ≡ [] = sym (chars_past_char (drop i text) first.rest first.char (IsUtf8-drop text i utf8 b) first.bytes) ∙ none in
    cc

-- its bytes
byte_of : (text : List ℕ) (i k : ℕ) (bytes : List ℕ) → drop i text ≡ bytes → get_or text (i + k) 0 ≡ get_or bytes k 0
byte_of text i k bytes is = sym (get_or-drop i text k 0) ∙ ap (λ l. get_or l k 0) is

lead_of : (text : List ℕ) (i : ℕ) (bytes : List ℕ) → drop i text ≡ bytes → get_or text i 0 ≡ get_or bytes 0 0
lead_of text i bytes is = ap (λ k. get_or text k 0) {x = i} {y = i + 0} (omega arith) ∙ byte_of text i 0 bytes is

-- its size, by the first of them
of_size : (c lead : ℕ) (bytes rest : List ℕ) → encode_utf8 c ≡ bytes → lead ≡ get_or (encode_utf8 c ++ rest) 0 0 → lead ≡ get_or (bytes ++ rest) 0 0
of_size c lead bytes rest is at = at ∙ ap (λ l. get_or (l ++ rest) 0 0) is

pub lead_size : (text : List ℕ) (i c : ℕ) (rest : List ℕ) → drop i text ≡ encode_utf8 c ++ rest → size_from_lead (get_or text i 0) ≡ len_utf8 c
lead_size text i c rest is =
    let at = lead_of text i (encode_utf8 c ++ rest) is in
    elim (cases_lt c 0x80) [
      | inl one ↦ (let l : get_or text i 0 ≡ c = of_size c _ _ rest (encode_ascii c one) at in grind (arith, nat_tests, l))
      | inr wide ↦ elim (cases_lt c 0x800) [
        | inl two ↦ (let l : get_or text i 0 ≡ 0xC0 + c / 0x40 = of_size c _ _ rest (of_two c wide two) at in grind (arith, nat_tests, l))
        | inr wider ↦ elim (cases_lt c 0x1_0000) [
          | inl three ↦ (let l : get_or text i 0 ≡ 0xE0 + c / 0x1000 = of_size c _ _ rest (of_three c wider three) at in grind (arith, nat_tests, l))
          | inr four ↦ (let l : get_or text i 0 ≡ 0xF0 + c / 0x4_0000 = of_size c _ _ rest (of_four c four) at in grind (arith, nat_tests, l))
        ]
      ]
    ]

-- so many bytes are there
pub char_within : (text : List ℕ) (i c : ℕ) (rest : List ℕ) → drop i text ≡ encode_utf8 c ++ rest → i < length text → i + len_utf8 c ≤ length text
char_within text i c rest is inside = omega (arith, ap length is, length-append (encode_utf8 c) rest, length-encode c, length-drop i text)

-- a size gives the range of the character
pub one_range : (c : ℕ) → len_utf8 c ≡ 1 → c < 0x80
one_range c size = grind (arith, nat_tests)

pub two_range : (c : ℕ) → len_utf8 c ≡ 2 → (0x80 ≤ c) × (c < 0x800)
two_range c size = grind (arith, nat_tests)

pub three_range : (c : ℕ) → len_utf8 c ≡ 3 → (0x800 ≤ c) × (c < 0x1_0000)
three_range c size = grind (arith, nat_tests)

pub unit_range : (c : ℕ) → len_utf8 c < 4 → c < 0x1_0000
unit_range c size = grind (arith, nat_tests)

-- its unit is the character
pub one_unit : (text : List ℕ) (i c : ℕ) (rest : List ℕ) → drop i text ≡ encode_utf8 c ++ rest → len_utf8 c ≡ 1 → get_or text i 0 ≡ c
one_unit text i c rest is size = lead_of text i _ (is ∙ ap (λ l. l ++ rest) (encode_ascii c (one_range c size)))

pub two_unit : (text : List ℕ) (i c : ℕ) (rest : List ℕ) → drop i text ≡ encode_utf8 c ++ rest → len_utf8 c ≡ 2 → get_or text i 0 % 32 * 64 + get_or text (i + 1) 0 % 64 ≡ c
two_unit text i c rest is size =
    let range = two_range c size in
    let bytes = is ∙ ap (λ l. l ++ rest) (of_two c range.0 range.1) in
    let first : get_or text i 0 ≡ 0xC0 + c / 0x40 = lead_of text i _ bytes in
    let second : get_or text (i + 1) 0 ≡ 0x80 + c % 0x40 = byte_of text i 1 _ bytes in
    omega (arith, first, second, range.1)

pub three_unit : (text : List ℕ) (i c : ℕ) (rest : List ℕ) → drop i text ≡ encode_utf8 c ++ rest → len_utf8 c ≡ 3
    → get_or text i 0 % 16 * 4096 + get_or text (i + 1) 0 % 64 * 64 + get_or text (i + 2) 0 % 64 ≡ c
three_unit text i c rest is size =
    let range = three_range c size in
    let bytes = is ∙ ap (λ l. l ++ rest) (of_three c range.0 range.1) in
    let first : get_or text i 0 ≡ 0xE0 + c / 0x1000 = lead_of text i _ bytes in
    let second : get_or text (i + 1) 0 ≡ 0x80 + c / 0x40 % 0x40 = byte_of text i 1 _ bytes in
    let third : get_or text (i + 2) 0 ≡ 0x80 + c % 0x40 = byte_of text i 2 _ bytes in
    omega (arith, first, second, third, range.1)

-- nothing yet
pub none_in_units : (text units : List ℕ) → IsUtf8 text → length text ≤ length units → IsInUnits text 0 units 0
none_in_units text units utf8 room = record {
  boundary = IsCharBoundary-start text utf8;
  room = omega (arith, room);
  prefix = sym (ap encode_utf16_all chars-nil);
}

-- all of it, if nothing is left
pub all_in_units : (text : List ℕ) (read : ℕ) (units : List ℕ) (written : ℕ) → IsInUnits text read units written → length text ≤ read → take written units ≡ text_in_utf16 text
all_in_units text read units written so_far end = so_far.prefix ∙ ap text_in_utf16 (take_all read text end)

-- What is after stays, when more is put before it: a unit for three bytes that are left may have changed.
pub loosely_behind : (text : List ℕ) (read more written end : ℕ) (new mid old : List ℕ) → read < more → more ≤ length text → more + 3 * written ≤ read + 3 * end
    → drop (end + (length text - more) / 3) new ≡ drop (end + (length text - more) / 3) mid
    → drop (written + (length text - read) / 3) mid ≡ drop (written + (length text - read) / 3) old
    → drop (end + (length text - more) / 3) new ≡ drop (end + (length text - more) / 3) old
loosely_behind text read more written end new mid old later within dense h k =
    h ∙ further mid old (written + (length text - read) / 3) (end + (length text - more) / 3) (omega arith) k

pub still_behind : (text : List ℕ) (read more written end : ℕ) (new mid old : List ℕ) → read < more → more ≤ length text → more + 3 * written ≤ read + 3 * end
    → drop end new ≡ drop end mid → drop (written + (length text - read) / 3) mid ≡ drop (written + (length text - read) / 3) old
    → drop (end + (length text - more) / 3) new ≡ drop (end + (length text - more) / 3) old
still_behind text read more written end new mid old later within dense h k =
    loosely_behind text read more written end new mid old later within dense (further new mid end (end + (length text - more) / 3) (omega arith) h) k

-- a part more of a text is in units
pub part_in_units : (text : List ℕ) (read : ℕ) (units : List ℕ) (written : ℕ) (new : List ℕ) (n k : ℕ) → IsUtf8 text → IsInUnits text read units written
    → IsCharBoundary text (read + n) → take (written + k) new ≡ take written units ++ text_in_utf16 (take n (drop read text)) → k ≤ n → length new ≡ length units
    → IsInUnits text (read + n) new (written + k)
part_in_units text read units written new n k utf8 so_far b is few size =
    let cs : List ℕ = chars (take read text) in
    let more : List ℕ = chars (take n (drop read text)) in
    record {
      boundary = b;
      room = omega (arith, so_far.room, few, size);
      prefix = is ∙ ap (λ l. l ++ encode_utf16_all more) so_far.prefix ∙ sym (encode_utf16_all-append cs more) ∙ ap encode_utf16_all (sym (chars_part text (drop read text) read n utf8 so_far.boundary refl));
    }

-- a character more
pub char_in_units : (text : List ℕ) (read : ℕ) (units : List ℕ) (written c : ℕ) (rest new : List ℕ) (k : ℕ) → IsUtf8 text → IsInUnits text read units written
    → drop read text ≡ encode_utf8 c ++ rest → take (written + k) new ≡ take written units ++ encode_utf16_all (c ∷ []) → k ≤ len_utf8 c → length new ≡ length units
    → IsInUnits text (read + len_utf8 c) new (written + k)
char_in_units text read units written c rest new k utf8 so_far at is few size =
    let here = IsUtf8-drop text read utf8 so_far.boundary in
    let b : IsCharBoundary (drop read text) (len_utf8 c) = subst (IsCharBoundary (drop read text)) {x = 0 + len_utf8 c} {y = len_utf8 c} (omega arith) (IsCharBoundary-past_char (drop read text) rest 0 c (omega arith) here at) in
    let alone = first_alone (drop read text) rest c (len_utf8 c) here at refl b in
    part_in_units text read units written new (len_utf8 c) k utf8 so_far (part_boundary text (drop read text) read (len_utf8 c) so_far.boundary refl b)
    (is ∙ ap (λ l. take written units ++ encode_utf16_all l) (sym alone)) few size

pub unit_in_units : (text : List ℕ) (read : ℕ) (units : List ℕ) (written c : ℕ) (rest : List ℕ) → IsUtf8 text → IsInUnits text read units written
    → drop read text ≡ encode_utf8 c ++ rest → read < length text → c < 0x1_0000 → IsInUnits text (read + len_utf8 c) (set units written c) (written + 1)
unit_in_units text read units written c rest utf8 so_far at inside plain =
    let bounds = len_utf8_bounds c in
    let room : written < length units = omega (arith, so_far.room, inside) in
    let one : encode_utf16_all (c ∷ []) ≡ c ∷ [] = rw (lt-ltb c 0x1_0000 plain) refl in
    char_in_units text read units written c rest (set units written c) 1 utf8 so_far at
    (take_more_set units written c room ∙ ap (λ l. take written units ++ l) (sym one)) bounds.0 (search rules)

-- any character more
pub next_in_units : (text : List ℕ) (read : ℕ) (units : List ℕ) (written c : ℕ) (rest new : List ℕ) (size end : ℕ) → IsUtf8 text → IsInUnits text read units written
    → drop read text ≡ encode_utf8 c ++ rest → size ≡ len_utf8 c → end ≡ written + len_utf16 c → take end new ≡ take written units ++ encode_utf16 c → length new ≡ length units
    → IsInUnits text (read + size) new end
next_in_units text read units written c rest new size end utf8 so_far at len is prefix same =
    rw (len, is) (char_in_units text read units written c rest new (len_utf16 c) utf8 so_far at
    (subst (λ n. take n new ≡ take written units ++ encode_utf16 c) is prefix ∙ ap (λ l. take written units ++ l) (sym (append-nil (encode_utf16 c)))) (len_utf16_le c) same)

-- a run of ASCII more
pub ascii_in_units : (text : List ℕ) (read : ℕ) (units : List ℕ) (written : ℕ) (new : List ℕ) (n : ℕ) → IsUtf8 text → IsInUnits text read units written
    → n ≤ length (drop read text) → IsAscii (take n (drop read text)) → take (written + n) new ≡ take written units ++ take n (drop read text) → length new ≡ length units
    → IsInUnits text (read + n) new (written + n)
ascii_in_units text read units written new n utf8 so_far within low is size =
    let run : List ℕ = take n (drop read text) in
    let b = IsCharBoundary-from_take (drop read text) n (IsUtf8-drop text read utf8 so_far.boundary) within (IsUtf8-from_ascii run low) in
    part_in_units text read units written new n n utf8 so_far (part_boundary text (drop read text) read n so_far.boundary refl b)
    (is ∙ ap (λ l. take written units ++ l) (sym (ascii_in_utf16 run low))) (omega arith) size

-- a run that is copied from bytes of the text to units
pub run_in_units : (text bytes : List ℕ) (at n to : ℕ) (xs ys : List ℕ) → IsUtf8 text → IsInUnits text at xs to → bytes ≡ text
    → n ≤ length (take (length bytes - at) (drop at bytes)) → ((k : ℕ) → k < n → get_or (take (length bytes - at) (drop at bytes)) k 0 < 0x80)
    → length ys ≡ length (take (length xs - to) (drop to xs))
    → take (length (take (at + n - at) (drop at bytes))) ys ≡ take (at + n - at) (drop at bytes)
    → drop (length (take (at + n - at) (drop at bytes))) ys ≡ drop (length (take (at + n - at) (drop at bytes))) (take (length xs - to) (drop to xs))
    → IsInUnits text (at + n) (put_mid to (length xs - to) xs ys) (to + n) × (drop (to + n) (put_mid to (length xs - to) xs ys) ≡ drop (to + n) xs)
run_in_units text bytes at n to xs ys utf8 so_far same within low size wrote behind =
    let all : take (length bytes - at) (drop at bytes) ≡ drop at text = take_rest bytes at ∙ ap (drop at) same in
    let fits : n ≤ length (drop at text) = omega (arith, within, ap length all) in
    let ascii = ascii_take (drop at text) n fits (λ k h. omega (arith, low k h, ap (λ l. get_or l k 0) all)) in
    let part : take (at + n - at) (drop at bytes) ≡ take n (drop at text) = ap (λ k. take k (drop at bytes)) {x = at + n - at} {y = n} (omega arith) ∙ ap (λ l. take n (drop at l)) same in
    let len : length (take (at + n - at) (drop at bytes)) ≡ n = ap length part ∙ length-take-le n (drop at text) fits in
    let copied : take n ys ≡ take n (drop at text) = ap (λ k. take k ys) (sym len) ∙ wrote ∙ part in
    let left : drop n ys ≡ drop n (take (length xs - to) (drop to xs)) = subst (λ k. drop k ys ≡ drop k (take (length xs - to) (drop to xs))) len behind in
    let inside : to ≤ length xs = omega (arith, so_far.room, so_far.boundary.0) in
    let room : length ys ≡ length xs - to = size ∙ ap length (take_rest xs to) ∙ length-drop to xs in
    let more : n ≤ length ys = omega (arith, room, so_far.room, so_far.boundary.0, fits, length-drop at text) in
    let put : take (to + n) (put_mid to (length xs - to) xs ys) ≡ take to xs ++ take n (drop at text) = take_into to _ n xs ys inside more ∙ ap (λ l. take to xs ++ l) copied in (
      ascii_in_units text at xs to (put_mid to (length xs - to) xs ys) n utf8 so_far fits ascii put (length_put to (length xs - to) xs ys inside refl room),
      drop_into to _ n xs ys inside refl more left,
    )

-- a vector of the text is copied to units, of which those are the text that are ASCII: the others are no more than the units of what is left
pub vector_in_units : (text bytes : List ℕ) (at n to : ℕ) (xs ys : List ℕ) → IsUtf8 text → IsInUnits text at xs to → bytes ≡ text → at + 48 ≤ length bytes → n ≤ 16
    → ((k : ℕ) → k < n → get_or (take (length bytes - at) (drop at bytes)) k 0 < 0x80) → length ys ≡ length (take (length xs - to) (drop to xs))
    → take 16 ys ≡ take 16 (take (length bytes - at) (drop at bytes)) → drop 16 ys ≡ drop 16 (take (length xs - to) (drop to xs))
    → IsInUnits text (at + n) (put_mid to (length xs - to) xs ys) (to + n)
    × (drop (to + n + (length text - (at + n)) / 3) (put_mid to (length xs - to) xs ys) ≡ drop (to + n + (length text - (at + n)) / 3) xs)
vector_in_units text bytes at n to xs ys utf8 so_far same many few low size wrote behind =
    let all : take (length bytes - at) (drop at bytes) ≡ drop at text = take_rest bytes at ∙ ap (drop at) same in
    let whole : at + 48 ≤ length text = omega (arith, many, ap length same) in
    let fits : n ≤ length (drop at text) = omega (arith, whole, length-drop at text) in
    let ascii = ascii_take (drop at text) n fits (λ k h. omega (arith, low k h, ap (λ l. get_or l k 0) all)) in
    let copied : take n ys ≡ take n (drop at text) = sym (take-take n 16 ys few) ∙ ap (take n) (wrote ∙ ap (take 16) all) ∙ take-take n 16 (drop at text) few in
    let inside : to ≤ length xs = omega (arith, so_far.room, so_far.boundary.0) in
    let room : length ys ≡ length xs - to = size ∙ ap length (take_rest xs to) ∙ length-drop to xs in
    let more : 16 ≤ length ys = omega (arith, room, so_far.room, whole) in
    let put : take (to + n) (put_mid to (length xs - to) xs ys) ≡ take to xs ++ take n (drop at text) = take_into to _ n xs ys inside (omega arith) ∙ ap (λ l. take to xs ++ l) copied in (
      ascii_in_units text at xs to (put_mid to (length xs - to) xs ys) n utf8 so_far fits ascii put (length_put to (length xs - to) xs ys inside refl room),
      further (put_mid to (length xs - to) xs ys) xs (to + 16) (to + n + (length text - (at + n)) / 3) (omega arith) (drop_into to _ 16 xs ys inside refl more behind),
    )

-- a unit stands for three bytes at most
pub dense_char : (c : ℕ) → len_utf8 c ≤ 3 * len_utf16 c
dense_char c = grind (arith, nat_tests)
