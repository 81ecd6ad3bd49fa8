-- Characters and units from right to left in a text. The characters of a text, its UTF-8 and its UTF-16 agree on
-- what is from right to left.
use Rattle.std.proofs.Common.{◌≡◌, ℕ, zero, suc, ◌<◌, ◌≤◌, List, [], ◌∷◌, ◌++◌, ◌||◌, ◌↔◌, Bool, true, false, IsTrue, length, take, drop, get_or, sym, ◌∙◌, ap, refl, arith, ◌+◌, ◌-◌, ◌/◌, ◌%◌, ◌⊎◌, inl, inr, encode_utf8_all}
use Rattle.std.specs.List.{list_any}
use Rattle.std.specs.Str.{chars, IsAscii, IsUtf8, IsCharBoundary, all_scalars}
use Rattle.std.proofs.lemmas.Bool.Decides.{nat_tests}
use Rattle.std.proofs.lemmas.List.{append-nil, take-append-drop, take-take, take_rest}
use Rattle.std.proofs.lemmas.List.Folds.{list_any-append}
use Rattle.std.proofs.Math.Bool.{or-true}
use Rattle.encoding_mem.proofs.LongestPrefixLemmas.{take_sum}
use Rattle.std.proofs.lemmas.Str.{chars-append, IsUtf8-take, chars-encodes}
use Rattle.encoding_mem.specs.Latin1.{AllLatin1, IsLatin1Text}
use Rattle.encoding_mem.specs.Bidi.{is_bidi_char, is_bidi_unit, HasBidi, HasBidiUnit, is_bidi_bmp, IsBidiBytes}
use Rattle.encoding_mem.proofs.PrefixLemmas.{each_of_prefix}
use Rattle.encoding_mem.proofs.Latin1Lemmas.{latin1_from_ascii, low_text}
use Rattle.std.specs.Char.Escape.{encode_utf16}
use Rattle.std.specs.Int.{is_in_range}
use Rattle.std.proofs.Math.Utf8.{scalar, scalar_cases}
use Rattle.std.proofs.lemmas.Bool.{cases_lt, le-leb, lt-leb, lt-ltb, le-ltb, and_parts}
use Rattle.encoding_mem.specs.calls.Writing.{encode_utf16_all}

-- Some element of a list passes.
here_or_later : (p : ℕ → Bool) (x : ℕ) (xs : List ℕ) (b : Bool) → p x ≡ b → IsTrue (b || list_any p xs)
    → (IsTrue (list_any p xs) → (i : ℕ) × IsTrue (p (get_or xs i 0))) → (i : ℕ) × IsTrue (p (get_or (x ∷ xs) i 0))
here_or_later p x xs true here any later = (0, here)
here_or_later p x xs false here any later = let found = later any in (suc found.0, found.1)

pub some_from_any : (p : ℕ → Bool) (xs : List ℕ) → IsTrue (list_any p xs) → (i : ℕ) × IsTrue (p (get_or xs i 0))
some_from_any p [] any = absurd (cc)
some_from_any p (x ∷ xs) any = here_or_later p x xs (p x) refl any (λ later. some_from_any p xs later)

or_true : (b c : Bool) → IsTrue c → IsTrue (b || c)
or_true true c h = refl
or_true false c h = h

pub any_from_some : (p : ℕ → Bool) → p 0 ≡ false → (xs : List ℕ) (i : ℕ) → IsTrue (p (get_or xs i 0)) → IsTrue (list_any p xs)
any_from_some p none [] i some = absurd (cc)
any_from_some p none (x ∷ xs) zero some = rw some refl
any_from_some p none (x ∷ xs) (suc i) some = or_true (p x) (list_any p xs) (any_from_some p none xs i some)

any_behind : (p : ℕ → Bool) (xs ys : List ℕ) → ((i : ℕ) → p (get_or xs i 0) ≡ false) → list_any p (xs ++ ys) ≡ list_any p ys
any_behind p [] ys none = refl
any_behind p (x ∷ xs) ys none = rw (none 0) (any_behind p xs ys (λ i. none (suc i)))

-- By blocks.
any_split : (p : ℕ → Bool) (xs : List ℕ) (at : ℕ) → list_any p xs ≡ (list_any p (take at xs) || list_any p (drop at xs))
any_split p xs at = ap (list_any p) (sym (take-append-drop at xs)) ∙ list_any-append p (take at xs) (drop at xs)

pub any_in_block : (p : ℕ → Bool) (xs : List ℕ) (at k : ℕ) → true ≡ list_any p (take k (drop at xs)) → true ≡ list_any p xs
any_in_block p xs at k found =
    let rest : list_any p (drop at xs) ≡ true = any_split p (drop at xs) k ∙ ap (λ b. b || list_any p (drop k (drop at xs))) (sym found) in
    sym (any_split p xs at ∙ ap (λ b. list_any p (take at xs) || b) rest ∙ or-true (list_any p (take at xs)))

pub none_in_block : (p : ℕ → Bool) (xs : List ℕ) (at size : ℕ) → at ≤ length xs → list_any p (take at xs) ≡ false
    → false ≡ list_any p (take ((at + size) - at) (drop at xs)) → list_any p (take (at + size) xs) ≡ false
none_in_block p xs at size within before here =
    let len : (at + size) - at ≡ size = omega arith in
    ap (list_any p) (take_sum at size xs within) ∙ list_any-append p (take at xs) (take size (drop at xs))
    ∙ ap (λ b. b || list_any p (take size (drop at xs))) before ∙ ap (λ n. list_any p (take n (drop at xs))) (sym len) ∙ sym here

pub any_in_rest : (p : ℕ → Bool) (xs : List ℕ) (at : ℕ) (r : Bool) → list_any p (take at xs) ≡ false → r ≡ list_any p (take (length xs - at) (drop at xs)) → r ≡ list_any p xs
any_in_rest p xs at r before rest =
    rest ∙ ap (list_any p) (take_rest xs at) ∙ sym (any_split p xs at ∙ ap (λ b. b || list_any p (drop at xs)) before)

or_false : (b c : Bool) → (b || c) ≡ false → b ≡ false
or_false true c h = absurd (cc)
or_false false c h = refl

pub none_before : (p : ℕ → Bool) (xs : List ℕ) (a b : ℕ) → a ≤ b → list_any p (take b xs) ≡ false → list_any p (take a xs) ≡ false
none_before p xs a b le none =
    or_false (list_any p (take a xs)) (list_any p (drop a (take b xs)))
    (ap (λ l. list_any p l || list_any p (drop a (take b xs))) (sym (take-take a b xs le)) ∙ sym (any_split p (take b xs) a) ∙ none)

-- What is below the Hebrew block is none.
pub low_char : (c : ℕ) → c < 0x590 → is_bidi_char c ≡ false
low_char c low = grind (arith, nat_tests)

pub low_unit : (u : ℕ) → u < 0x590 → is_bidi_unit u ≡ false
low_unit u low = grind (arith, nat_tests)

pub latin1_has_none : (cs : List ℕ) → AllLatin1 cs → ¬ HasBidi cs
latin1_has_none cs low some = let none = low_char (get_or cs some.0 0) (let l = low some.0 in omega arith) in absurd (cc (none, some.1))

pub latin1_units_none : (us : List ℕ) → AllLatin1 us → ¬ HasBidiUnit us
latin1_units_none us low some = let none = low_unit (get_or us some.0 0) (let l = low some.0 in omega arith) in absurd (cc (none, some.1))

pub latin1_bytes_none : (bs : List ℕ) → IsLatin1Text bs → ¬ IsBidiBytes bs
latin1_bytes_none bs latin1 bidi = elim bidi [ inl broken ↦ broken latin1.0 | inr some ↦ latin1_has_none (chars bs) latin1.1 some ]

pub ascii_has_none : (bs : List ℕ) → IsAscii bs → ¬ IsBidiBytes bs
ascii_has_none bs low bidi = latin1_bytes_none bs (latin1_from_ascii bs low) bidi

-- so a prefix of low bytes, or of low units, decides nothing
chars_behind : (text : List ℕ) (at : ℕ) → IsUtf8 text → IsCharBoundary text at → ((k : ℕ) → k < at → get_or text k 0 < 0xD6)
    → list_any is_bidi_char (chars text) ≡ list_any is_bidi_char (chars (drop at text))
chars_behind text at utf8 boundary low =
    let cut : IsUtf8 (take at text) = IsUtf8-take text at utf8 boundary in
    let below = low_text 22 (omega arith) (omega arith) (take at text) cut (each_of_prefix (λ b. b < 0xD6) text at (omega arith) low) in
    ap (λ l. list_any is_bidi_char (chars l)) (sym (take-append-drop at text)) ∙ ap (list_any is_bidi_char) (chars-append (take at text) (drop at text) cut)
    ∙ any_behind is_bidi_char (chars (take at text)) (chars (drop at text)) (λ i. low_char (get_or (chars (take at text)) i 0) (omega (arith, below i)))

pub text_bidi : (text rest : List ℕ) (at : ℕ) (r : Bool) → IsUtf8 text → at ≤ length text → ((k : ℕ) → k < at → get_or text k 0 < 0xD6)
    → (at < length text → 0xD6 ≤ get_or text at 0) → rest ≡ drop at text → r ≡ list_any is_bidi_char (chars rest) → IsTrue r ↔ HasBidi (chars text)
text_bidi text rest at r utf8 within low ends is any =
    let same : r ≡ list_any is_bidi_char (chars text) = any ∙ ap (λ l. list_any is_bidi_char (chars l)) is ∙ sym (chars_behind text at utf8 (within, λ more _. let high = ends more in omega arith) low) in
    (λ yes. some_from_any is_bidi_char (chars text) (sym same ∙ yes), λ some. same ∙ any_from_some is_bidi_char refl (chars text) some.0 some.1)

pub low_start : (units : List ℕ) (at : ℕ) → ((k : ℕ) → k < at → get_or units k 0 < 0x590) → list_any is_bidi_unit (take at units) ≡ false
low_start units at low =
    ap (list_any is_bidi_unit) (sym (append-nil (take at units)))
    ∙ any_behind is_bidi_unit (take at units) [] (each_of_prefix (λ u. is_bidi_unit u ≡ false) units at refl (λ k early. low_unit (get_or units k 0) (low k early)))

pub units_bidi : (units rest : List ℕ) (at : ℕ) (r : Bool) → ((k : ℕ) → k < at → get_or units k 0 < 0x590)
    → rest ≡ drop at units → r ≡ list_any is_bidi_unit rest → IsTrue r ↔ HasBidiUnit units
units_bidi units rest at r low is any =
    let below = each_of_prefix (λ u. is_bidi_unit u ≡ false) units at refl (λ k early. low_unit (get_or units k 0) (low k early)) in
    let same : r ≡ list_any is_bidi_unit units = any ∙ ap (list_any is_bidi_unit) is ∙ sym (ap (list_any is_bidi_unit) (sym (take-append-drop at units)) ∙ any_behind is_bidi_unit (take at units) (drop at units) below) in
    (λ yes. some_from_any is_bidi_unit units (sym same ∙ yes), λ some. same ∙ any_from_some is_bidi_unit refl units some.0 some.1)

-- The characters of a text, its UTF-8 and its UTF-16 agree on what is from right to left.

-- Tests of ranges.
pub below_range : (lo hi c : ℕ) → c < lo → is_in_range lo hi c ≡ false
below_range lo hi c low = rw (lt-leb lo c low) refl

within_range : (lo hi c : ℕ) → lo ≤ c → c ≤ hi → is_in_range lo hi c ≡ true
within_range lo hi c low high = rw (le-leb lo c low, le-leb c hi high) refl

above_range : (lo hi c : ℕ) → hi < c → is_in_range lo hi c ≡ false
above_range lo hi c high = elim (cases_lt c lo) [
  | inl low ↦ below_range lo hi c low
  | inr from ↦ rw (le-leb lo c from, lt-leb c hi high) refl
]

cases_range : (lo hi c : ℕ) → ((lo ≤ c) × (c ≤ hi)) ⊎ (is_in_range lo hi c ≡ false)
cases_range lo hi c = elim (cases_lt c lo) [
  | inl low ↦ inr (below_range lo hi c low)
  | inr from ↦ elim (cases_lt hi c) [ inl over ↦ inr (above_range lo hi c over) | inr to ↦ inl (from, to) ]
]

pub out_of_range : (lo hi c : ℕ) → (lo ≤ c → c ≤ hi → ⊥) → is_in_range lo hi c ≡ false
out_of_range lo hi c out = elim (cases_range lo hi c) [ inl inside ↦ absurd (out inside.0 inside.1) | inr outside ↦ outside ]

pub not_in_range : (lo hi c : ℕ) → is_in_range lo hi c ≡ false → lo ≤ c → c ≤ hi → ⊥
not_in_range lo hi c outside low high = let wrong : true ≡ false = sym (within_range lo hi c low high) ∙ outside in cc

pub same_range : (lo hi a lo2 hi2 b : ℕ) → (lo ≤ a → a ≤ hi → (lo2 ≤ b) × (b ≤ hi2)) → (lo2 ≤ b → b ≤ hi2 → (lo ≤ a) × (a ≤ hi))
    → is_in_range lo hi a ≡ is_in_range lo2 hi2 b
same_range lo hi a lo2 hi2 b there back = elim (cases_range lo hi a) [
  | inl inside ↦ let other = there inside.0 inside.1 in within_range lo hi a inside.0 inside.1 ∙ sym (within_range lo2 hi2 b other.0 other.1)
  | inr out ↦ elim (cases_range lo2 hi2 b) [
    | inl inside ↦ let other = back inside.0 inside.1 in within_range lo hi a other.0 other.1 ∙ sym (within_range lo2 hi2 b inside.0 inside.1)
    | inr out2 ↦ out ∙ sym out2
  ]
]

-- Neither surrogates nor what is above the first plane are in the common blocks.
surrogate_bmp : (u : ℕ) → 0xD800 ≤ u → u < 0xE000 → is_bidi_bmp u ≡ false
surrogate_bmp u from below = rw (
  above_range 0x590 0x8FF u (omega arith),
  above_range 0x200F 0x200F u (omega arith),
  above_range 0x202B 0x202B u (omega arith),
  above_range 0x202E 0x202E u (omega arith),
  above_range 0x2067 0x2067 u (omega arith),
  below_range 0xFB1D 0xFDFF u (omega arith),
  below_range 0xFE70 0xFEFE u (omega arith),
) refl

pub supplementary_bmp : (c : ℕ) → 0x1_0000 ≤ c → is_bidi_bmp c ≡ false
supplementary_bmp c from = rw (
  above_range 0x590 0x8FF c (omega arith),
  above_range 0x200F 0x200F c (omega arith),
  above_range 0x202B 0x202B c (omega arith),
  above_range 0x202E 0x202E c (omega arith),
  above_range 0x2067 0x2067 c (omega arith),
  above_range 0xFB1D 0xFDFF c (omega arith),
  above_range 0xFE70 0xFEFE c (omega arith),
) refl

-- A unit that is a character.
no_surrogate : (u lo hi : ℕ) → 0xD800 ≤ lo → hi < 0xE000 → (u < 0xD800) ⊎ (0xE000 ≤ u) → is_in_range lo hi u ≡ false
no_surrogate u lo hi from to out = elim out [
  | inl low ↦ below_range lo hi u (omega arith)
  | inr high ↦ above_range lo hi u (omega arith)
]

unit_is_char : (u : ℕ) → u < 0x1_0000 → (u < 0xD800) ⊎ (0xE000 ≤ u) → is_bidi_unit u ≡ is_bidi_char u
unit_is_char u bmp out =
    ap (λ b. is_bidi_bmp u || b || is_in_range 0xD83A 0xD83B u) (no_surrogate u 0xD802 0xD803 (omega arith) (omega arith) out ∙ sym (below_range 0x1_0800 0x1_0FFF u (omega arith)))
    ∙ ap (λ b. is_bidi_bmp u || is_in_range 0x1_0800 0x1_0FFF u || b) (no_surrogate u 0xD83A 0xD83B (omega arith) (omega arith) out ∙ sym (below_range 0x1_E800 0x1_EFFF u (omega arith)))

-- A pair is as its first unit.
second_unit : (u : ℕ) → 0xDC00 ≤ u → u < 0xE000 → is_bidi_unit u ≡ false
second_unit u from below = ap (λ b. b || is_in_range 0xD802 0xD803 u || is_in_range 0xD83A 0xD83B u) (surrogate_bmp u (omega arith) below)
    ∙ rw (above_range 0xD802 0xD803 u (omega arith), above_range 0xD83A 0xD83B u (omega arith)) refl

first_unit : (c : ℕ) → 0x1_0000 ≤ c → c < 0x11_0000 → is_bidi_unit (0xD800 + (c - 0x1_0000) / 0x400) ≡ is_bidi_char c
first_unit c from below =
    let u = 0xD800 + (c - 0x1_0000) / 0x400 in
    ap (λ b. b || is_in_range 0xD802 0xD803 u || is_in_range 0xD83A 0xD83B u) (surrogate_bmp u (omega arith) (omega arith) ∙ sym (supplementary_bmp c from))
    ∙ ap (λ b. is_bidi_bmp c || b || is_in_range 0xD83A 0xD83B u) (same_range 0xD802 0xD803 u 0x1_0800 0x1_0FFF c (λ low high. (omega arith, omega arith)) (λ low high. (omega arith, omega arith)))
    ∙ ap (λ b. is_bidi_bmp c || is_in_range 0x1_0800 0x1_0FFF c || b) (same_range 0xD83A 0xD83B u 0x1_E800 0x1_EFFF c (λ low high. (omega arith, omega arith)) (λ low high. (omega arith, omega arith)))

units_of_char : (c : ℕ) (rest : List ℕ) → scalar c ≡ true → list_any is_bidi_unit (encode_utf16 c ++ rest) ≡ is_bidi_char c || list_any is_bidi_unit rest
units_of_char c rest is = elim (cases_lt c 0x1_0000) [
  | inl bmp ↦ rw (lt-ltb c 0x1_0000 bmp) (ap (λ b. b || list_any is_bidi_unit rest) (unit_is_char c bmp (elim (scalar_cases c is) [ inl low ↦ inl low | inr high ↦ inr high.0 ])))
  | inr more ↦
      let top : c < 0x11_0000 = elim (scalar_cases c is) [ inl low ↦ omega arith | inr high ↦ high.1 ] in
      let hi = 0xD800 + (c - 0x1_0000) / 0x400 in
      let lo = 0xDC00 + (c - 0x1_0000) % 0x400 in
      rw (le-ltb c 0x1_0000 more) (ap (λ b. is_bidi_unit hi || (b || list_any is_bidi_unit rest)) (second_unit lo (omega arith) (omega arith))
      ∙ ap (λ b. b || list_any is_bidi_unit rest) (first_unit c more top))
]

units_of_text : (cs : List ℕ) → all_scalars cs ≡ true → list_any is_bidi_unit (encode_utf16_all cs) ≡ list_any is_bidi_char cs
units_of_text [] are = refl
units_of_text (c ∷ cs) are =
    let parts = and_parts (scalar c) (all_scalars cs) are in
    units_of_char c (encode_utf16_all cs) parts.0 ∙ ap (λ b. is_bidi_char c || b) (units_of_text cs parts.1)

pub utf16_agrees : (cs : List ℕ) → all_scalars cs ≡ true → HasBidiUnit (encode_utf16_all cs) ↔ HasBidi cs
utf16_agrees cs are = (
  λ some. some_from_any is_bidi_char cs (sym (units_of_text cs are) ∙ any_from_some is_bidi_unit refl (encode_utf16_all cs) some.0 some.1),
  λ some. some_from_any is_bidi_unit (encode_utf16_all cs) (units_of_text cs are ∙ any_from_some is_bidi_char refl cs some.0 some.1),
)

pub str_agrees : (cs : List ℕ) → all_scalars cs ≡ true → HasBidi (chars (encode_utf8_all cs)) ↔ HasBidi cs
str_agrees cs are = rw (chars-encodes cs are) (λ some. some, λ some. some)

pub utf8_agrees : (cs : List ℕ) → all_scalars cs ≡ true → IsBidiBytes (encode_utf8_all cs) ↔ HasBidi cs
utf8_agrees cs are = (
  λ bidi. elim bidi [ inl broken ↦ absurd (broken (cs, (are, refl))) | inr some ↦ (str_agrees cs are).0 some ],
  λ some. inr ((str_agrees cs are).1 some),
)
