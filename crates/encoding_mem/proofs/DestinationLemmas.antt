-- Text whose start was overwritten, and the bytes after it cleared, is text. What a call wrote into the part of a
-- slice from an offset on. Bytes that move to the start.
use Rattle.std.proofs.Common.{◌≡◌, ℕ, zero, suc, ◌+◌, ◌-◌, ◌/◌, ◌%◌, ◌<◌, ◌≤◌, ◌⊎◌, inl, inr, true, false, cond, List, [], ◌∷◌, ◌++◌, length, take, drop, get_or, refl, sym, ◌∙◌, ap, subst, arith, append_assoc, encode_utf8_all, length-append, length-drop}
use Rattle.std.specs.Int.{is_in_range}
use Rattle.std.specs.Char.{encode_utf8}
use Rattle.std.specs.Char.Utf16.{utf16_lossy_chars, surrogate_pair_char}
use Rattle.std.specs.Str.{IsUtf8, IsAscii, all_scalars}
use Rattle.std.proofs.Math.Utf8.{scalar, low_scalar}
use Rattle.std.proofs.lemmas.Bool.{cases_lt, le-leb, lt-leb, and_parts}
use Rattle.std.proofs.lemmas.List.{take-append-drop, append-nil, take_at, drop_at, drop-drop, drop_all, take_all, take_rest, length-take-le, take_more_set, at_drop_more, drop-append-le, take-append-le}
use Rattle.std.proofs.Math.ListN.{set}
use Rattle.std.proofs.str.Utf16.{lone_unit_char_low, lone_unit_char_high, lone_unit_char_surrogate}
use Rattle.std.specs.Option.{unwrap_or}
use Rattle.std.proofs.lemmas.Str.{IsUtf8-append, IsUtf8-from_ascii, IsUtf8-nil, encode_ascii}
use borrow.Rule.Slice.PartMut.{put_mid, post_of}
use Rattle.encoding_mem.specs.calls.TextDestination.{cleared}
use Rattle.encoding_mem.specs.laws.Utf8.{scalar_from}
use Rattle.encoding_mem.proofs.UnitPrefixLemmas.{char_of, one, two, pair_or_not}
use Rattle.encoding_mem.proofs.Utf16Lemmas.{no_units}
use Rattle.encoding_mem.proofs.Utf8TextLemmas.{of_two, of_three, of_four}
use Rattle.std.proofs.Math.Seq.{take-append-add, drop-append-add}
use Rattle.std.proofs.lemmas.Slice.{between_is}
use Rattle.std.specs.List.{copy_within}

abbrev AllContinue : List ℕ → Type 0
AllContinue [] = Unit {0}
AllContinue (b ∷ bs) = (is_in_range 0x80 0xBF b ≡ true) × AllContinue bs

-- the bytes of a character: one that begins it, and those that go on
record Shape (bytes : List ℕ) : Type 0 where
  lead : ℕ
  rest : List ℕ
  is : bytes ≡ lead ∷ rest
  begins : is_in_range 0x80 0xBF lead ≡ false
  go_on : AllContinue rest

continues : (b : ℕ) → 0x80 ≤ b → b ≤ 0xBF → is_in_range 0x80 0xBF b ≡ true
continues b h k = rw (le-leb 0x80 b h, le-leb b 0xBF k) refl

is_lead : (b : ℕ) → 0xC0 ≤ b → is_in_range 0x80 0xBF b ≡ false
is_lead b h = let a : 0x80 ≤ b = omega arith in let d : 0xBF < b = omega arith in rw (le-leb 0x80 b a, lt-leb b 0xBF d) refl

shape_two : (c : ℕ) → 0x80 ≤ c → c < 0x800 → Shape (encode_utf8 c)
shape_two c a b = record {
  lead = 0xc0 + c / 0x40;
  rest = (0x80 + c % 0x40) ∷ [];
  is = of_two c a b;
  begins = is_lead (0xc0 + c / 0x40) (omega arith);
  go_on = (continues (0x80 + c % 0x40) (omega arith) (omega arith), tt);
}

shape_three : (c : ℕ) → 0x800 ≤ c → c < 0x1_0000 → Shape (encode_utf8 c)
shape_three c a b = record {
  lead = 0xe0 + c / 0x1000;
  rest = (0x80 + c / 0x40 % 0x40) ∷ (0x80 + c % 0x40) ∷ [];
  is = of_three c a b;
  begins = is_lead (0xe0 + c / 0x1000) (omega arith);
  go_on = (continues (0x80 + c / 0x40 % 0x40) (omega arith) (omega arith), (continues (0x80 + c % 0x40) (omega arith) (omega arith), tt));
}

shape_four : (c : ℕ) → 0x1_0000 ≤ c → Shape (encode_utf8 c)
shape_four c a = record {
  lead = 0xf0 + c / 0x4_0000;
  rest = (0x80 + c / 0x1000 % 0x40) ∷ (0x80 + c / 0x40 % 0x40) ∷ (0x80 + c % 0x40) ∷ [];
  is = of_four c a;
  begins = is_lead (0xf0 + c / 0x4_0000) (omega arith);
  go_on = (
    continues (0x80 + c / 0x1000 % 0x40) (omega arith) (omega arith),
    (continues (0x80 + c / 0x40 % 0x40) (omega arith) (omega arith), (continues (0x80 + c % 0x40) (omega arith) (omega arith), tt)),
  );
}

shape : (c : ℕ) → Shape (encode_utf8 c)
shape c = elim (cases_lt c 0x80) [
  | inl a ↦ record { lead = c; rest = []; is = encode_ascii c a; begins = rw (lt-leb 0x80 c a) refl; go_on = tt }
  | inr a ↦ elim (cases_lt c 0x800) [
    | inl b ↦ shape_two c a b
    | inr b ↦ elim (cases_lt c 0x1_0000) [ inl d ↦ shape_three c b d | inr d ↦ shape_four c d ]
  ]
]

zero_byte : (bytes : List ℕ) → IsUtf8 bytes → IsUtf8 (0 ∷ bytes)
zero_byte bytes h = IsUtf8-append (0 ∷ []) bytes (IsUtf8-from_ascii (0 ∷ []) low) h
  where
    low : IsAscii (0 ∷ [])
    low zero = omega arith
    low (suc i) = omega arith

drop_nothing : (n : ℕ) → IsUtf8 (cleared (drop n []))
drop_nothing zero = IsUtf8-nil
drop_nothing (suc n) = IsUtf8-nil

cut_inside : (rest more : List ℕ) (n : ℕ) → AllContinue rest → ((m : ℕ) → IsUtf8 (cleared (drop m more))) → IsUtf8 (cleared (drop n (rest ++ more)))
cut_inside [] more n h k = k n
cut_inside (b ∷ rest) more zero h k =
    subst IsUtf8 (sym (ap (λ t. cond t (0 ∷ cleared (rest ++ more)) (b ∷ (rest ++ more))) h.0)) (zero_byte (cleared (rest ++ more)) (cut_inside rest more 0 h.1 k))
cut_inside (b ∷ rest) more (suc n) h k = cut_inside rest more n h.1 k

begun : (c : ℕ) (cs : List ℕ) → encode_utf8_all (c ∷ cs) ≡ (shape c).lead ∷ ((shape c).rest ++ encode_utf8_all cs)
begun c cs = ap (λ l. l ++ encode_utf8_all cs) (shape c).is

cut_at : (c : ℕ) (cs : List ℕ) (n : ℕ) → all_scalars (c ∷ cs) ≡ true → ((m : ℕ) → IsUtf8 (cleared (drop m (encode_utf8_all cs)))) → IsUtf8 (cleared (drop n (encode_utf8_all (c ∷ cs))))
cut_at c cs zero h k =
    let rest : List ℕ = (shape c).rest ++ encode_utf8_all cs in
    let stays : cleared ((shape c).lead ∷ rest) ≡ (shape c).lead ∷ rest = ap (λ t. cond t (0 ∷ cleared rest) ((shape c).lead ∷ rest)) (shape c).begins in
    subst IsUtf8 (begun c cs ∙ sym stays ∙ ap cleared (sym (begun c cs))) (c ∷ cs, (h, refl))
cut_at c cs (suc n) h k =
    subst (λ l. IsUtf8 (cleared (drop (suc n) l))) (sym (begun c cs)) (cut_inside (shape c).rest (encode_utf8_all cs) n (shape c).go_on k)

cut_text : (cs : List ℕ) (n : ℕ) → all_scalars cs ≡ true → IsUtf8 (cleared (drop n (encode_utf8_all cs)))
cut_text [] n h = drop_nothing n
cut_text (c ∷ cs) n h = cut_at c cs n h (λ m. cut_text cs m (and_parts (scalar c) (all_scalars cs) h).1)

pub cleared_text : (old : List ℕ) (n : ℕ) → IsUtf8 old → IsUtf8 (cleared (drop n old))
cleared_text old n h = subst (λ l. IsUtf8 (cleared (drop n l))) h.1.1 (cut_text h.0 n h.1.0)

-- Text that was written over a text, with what is after it cleared.
pub text_stays : (cs old new : List ℕ) (n : ℕ) → all_scalars cs ≡ true → IsUtf8 old → take n new ≡ encode_utf8_all cs → drop n new ≡ cleared (drop n old) → IsUtf8 new
text_stays cs old new n are h prefix behind =
    subst IsUtf8 (take-append-drop n new)
    (IsUtf8-append (take n new) (drop n new) (subst IsUtf8 (sym prefix) (cs, (are, refl))) (subst IsUtf8 (sym behind) (cleared_text old n h)))

-- bytes are scalars
pub bytes_are_scalars : (cs : List ℕ) → ((k : ℕ) → get_or cs k 0 < 256) → all_scalars cs ≡ true
bytes_are_scalars [] low = refl
bytes_are_scalars (c ∷ cs) low = rw (low_scalar c (omega (arith, low 0)), bytes_are_scalars cs (λ k. low (suc k))) refl

-- so are the characters of units
char_is_scalar : (u : ℕ) → u < 0x1_0000 → scalar (char_of u) ≡ true
char_is_scalar u h = elim (cases_lt u 0xD800) [
  | inl low ↦ subst (λ o. scalar (unwrap_or o 0xFFFD) ≡ true) (sym (lone_unit_char_low u low)) (low_scalar u low)
  | inr from ↦ elim (cases_lt u 0xE000) [
    | inl below ↦ subst (λ o. scalar (unwrap_or o 0xFFFD) ≡ true) (sym (lone_unit_char_surrogate u from below)) refl
    | inr high ↦ subst (λ o. scalar (unwrap_or o 0xFFFD) ≡ true) (sym (lone_unit_char_high u high)) (scalar_from u (inr (high, omega arith)))
  ]
]

pub units_are_scalars : (us : List ℕ) → ((k : ℕ) → get_or us k 0 < 0x1_0000) → all_scalars (utf16_lossy_chars us) ≡ true
units_are_scalars [] low = ap all_scalars (no_units [] refl)
units_are_scalars (u ∷ []) low =
    ap all_scalars (one u [] (λ p. absurd (omega arith)) ∙ ap (λ l. char_of u ∷ l) (no_units [] refl)) ∙ rw (char_is_scalar u (low 0)) refl
units_are_scalars (u ∷ v ∷ us) low = elim (pair_or_not u v) [
  | inl p ↦ (let c : ℕ = surrogate_pair_char u v in let is : scalar c ≡ true = scalar_from c (inr (omega arith, omega arith)) in
      ap all_scalars (two u v us p) ∙ rw (is, units_are_scalars us (λ k. low (suc (suc k)))) refl)
  | inr apart ↦ (ap all_scalars (one u (v ∷ us) apart) ∙ rw (char_is_scalar u (low 0), units_are_scalars (v ∷ us) (λ k. low (suc k))) refl)
]

-- numbers of a prefix are numbers of the list
pub take_low : (m n : ℕ) (xs : List ℕ) → 0 < m → ((k : ℕ) → get_or xs k 0 < m) → (k : ℕ) → get_or (take n xs) k 0 < m
take_low m zero xs some low k = some
take_low m (suc n) [] some low k = some
take_low m (suc n) (x ∷ xs) some low zero = low 0
take_low m (suc n) (x ∷ xs) some low (suc k) = take_low m n xs some (λ j. low (suc j)) k

-- The part after an offset, changed.
pub put_prefix : (n : ℕ) (xs ys : List ℕ) → n ≤ length xs → take n (put_mid n (length xs - n) xs ys) ≡ take n xs
put_prefix n xs ys h = take_at (take n xs) (ys ++ post_of n (length xs - n) xs) n (length-take-le n xs h)

pub put_behind : (n : ℕ) (xs ys : List ℕ) → n ≤ length xs → drop n (put_mid n (length xs - n) xs ys) ≡ ys
put_behind n xs ys h =
    drop_at (take n xs) (ys ++ post_of n (length xs - n) xs) n (length-take-le n xs h)
    ∙ ap (λ l. ys ++ l) (drop-drop (length xs - n) n xs ∙ drop_all (n + (length xs - n)) xs (omega arith)) ∙ append-nil ys

pub cleared_behind : (n : ℕ) (xs ys old : List ℕ) → n ≤ length xs → ys ≡ cleared (take (length xs - n) (drop n xs)) → drop n xs ≡ drop n old → drop n (put_mid n (length xs - n) xs ys) ≡ cleared (drop n old)
cleared_behind n xs ys old h is same = put_behind n xs ys h ∙ is ∙ ap cleared (take_rest xs n ∙ same)

drop_one : (xs : List ℕ) (n : ℕ) → n < length xs → drop n xs ≡ get_or xs n 0 ∷ drop (n + 1) xs
drop_one xs n h = at_drop_more (λ l. l) xs n 0 h

past_set : (xs : List ℕ) (n y : ℕ) → drop (suc n) (set xs n y) ≡ drop (suc n) xs
past_set [] zero y = refl
past_set [] (suc n) y = refl
past_set (x ∷ xs) zero y = refl
past_set (x ∷ xs) (suc n) y = past_set xs n y

pub drop_past_set : (xs : List ℕ) (n y : ℕ) → drop (n + 1) (set xs n y) ≡ drop (n + 1) xs
drop_past_set xs n y = let e : suc n ≡ n + 1 = omega arith in subst (λ m. drop m (set xs n y) ≡ drop m xs) e (past_set xs n y)

stops : (b : ℕ) → (b < 0x80) ⊎ (0xBF < b) → is_in_range 0x80 0xBF b ≡ false
stops b (inl low) = rw (lt-leb 0x80 b low) refl
stops b (inr high) = is_lead b (omega arith)

-- A step that clears a byte, and the end.
pub clears_more : (bytes old : List ℕ) (n : ℕ) → n < length bytes → 0x80 ≤ get_or bytes n 0 → get_or bytes n 0 ≤ 0xBF → cleared old ≡ take n bytes ++ cleared (drop n bytes)
    → cleared old ≡ take (n + 1) (set bytes n 0) ++ cleared (drop (n + 1) (set bytes n 0))
clears_more bytes old n h low high is =
    let at : cleared (drop n bytes) ≡ 0 ∷ cleared (drop (n + 1) bytes) =
    ap cleared (drop_one bytes n h) ∙ ap (λ t. cond t (0 ∷ cleared (drop (n + 1) bytes)) (get_or bytes n 0 ∷ drop (n + 1) bytes)) (continues (get_or bytes n 0) low high) in
    is ∙ ap (λ l. take n bytes ++ l) at ∙ sym (append_assoc (take n bytes) (0 ∷ []) (cleared (drop (n + 1) bytes)))
    ∙ ap (λ l. l ++ cleared (drop (n + 1) bytes)) (sym (take_more_set bytes n 0 h)) ∙ ap (λ l. take (n + 1) (set bytes n 0) ++ cleared l) (sym (drop_past_set bytes n 0))

pub clears_all : (bytes old : List ℕ) (n : ℕ) → length bytes ≤ n → cleared old ≡ take n bytes ++ cleared (drop n bytes) → bytes ≡ cleared old
clears_all bytes old n h is = sym (is ∙ ap (λ l. take n bytes ++ cleared l) (drop_all n bytes h) ∙ append-nil (take n bytes) ∙ take_all n bytes h)

pub clears_to : (bytes old : List ℕ) (n : ℕ) → n < length bytes → (get_or bytes n 0 < 0x80) ⊎ (0xBF < get_or bytes n 0) → cleared old ≡ take n bytes ++ cleared (drop n bytes) → bytes ≡ cleared old
clears_to bytes old n h ends is =
    let stays : cleared (drop n bytes) ≡ drop n bytes =
    ap cleared (drop_one bytes n h) ∙ ap (λ t. cond t (0 ∷ cleared (drop (n + 1) bytes)) (get_or bytes n 0 ∷ drop (n + 1) bytes)) (stops (get_or bytes n 0) ends) ∙ sym (drop_one bytes n h) in
    sym (is ∙ ap (λ l. take n bytes ++ l) stays ∙ take-append-drop n bytes)

-- What a call wrote into the part of a slice from an offset on.

pub take_into : (a k n : ℕ) (xs ys : List ℕ) → a ≤ length xs → n ≤ length ys → take (a + n) (put_mid a k xs ys) ≡ take a xs ++ take n ys
take_into a k n xs ys within fits =
    ap (λ m. take (m + n) (put_mid a k xs ys)) (sym (length-take-le a xs within)) ∙ take-append-add (take a xs) (ys ++ post_of a k xs) n
    ∙ ap (λ l. take a xs ++ l) (take-append-le n ys (post_of a k xs) fits)

none_after : (a k : ℕ) (xs : List ℕ) → length xs ≤ a + k → post_of a k xs ≡ []
none_after a k xs past = drop-drop k a xs ∙ drop_all (a + k) xs past

pub drop_into : (a k n : ℕ) (xs ys : List ℕ) → a ≤ length xs → k ≡ length xs - a → n ≤ length ys → drop n ys ≡ drop n (take k (drop a xs)) → drop (a + n) (put_mid a k xs ys) ≡ drop (a + n) xs
drop_into a k n xs ys within size fits behind =
    ap (λ m. drop (m + n) (put_mid a k xs ys)) (sym (length-take-le a xs within)) ∙ drop-append-add (take a xs) (ys ++ post_of a k xs) n
    ∙ drop-append-le n ys (post_of a k xs) fits ∙ ap (λ l. drop n ys ++ l) (none_after a k xs (omega (arith, size))) ∙ append-nil (drop n ys)
    ∙ behind ∙ ap (λ m. drop n (take m (drop a xs))) size ∙ ap (drop n) (take_rest xs a) ∙ drop-drop n a xs

pub length_into : (a k n : ℕ) (xs ys : List ℕ) → a ≤ length xs → n ≤ length ys → a + n ≤ length (put_mid a k xs ys)
length_into a k n xs ys within fits = omega (arith, length-append (take a xs) (ys ++ post_of a k xs), length-append ys (post_of a k xs), length-take-le a xs within)

-- Bytes that move to the start.

pub shifted : (xs : List ℕ) (n len : ℕ) → n ≤ len → len ≤ length xs → take (len - n) (copy_within xs n len 0) ≡ drop n (take len xs)
shifted xs n len h k =
    let size : length (take (len - n) (drop n xs)) ≡ len - n = length-take-le (len - n) (drop n xs) (omega (arith, length-drop n xs)) in
    take_at (take (len - n) (drop n xs)) (drop (0 + (len - n)) xs) (len - n) size ∙ between_is xs n len
