-- A text whose start was overwritten, and the rest of the character that was cut is cleared. The text of units.
use Rattle.std.proofs.Common.{◌≡◌, ℕ, zero, suc, ◌+◌, ◌-◌, ◌<◌, ◌≤◌, ◌⊎◌, inl, inr, true, false, cond, List, [], ◌∷◌, ◌++◌, length, take, drop, get_or, map, min, refl, sym, ◌∙◌, ap, subst, arith, encode_utf8_all, length-append, length-drop}
use Rattle.std.specs.Int.{is_in_range}
use Rattle.std.specs.Option.{unwrap_or}
use Rattle.std.specs.Str.{IsUtf8, IsAscii, IsCharBoundary, all_scalars}
use Rattle.std.specs.Char.{encode_utf8}
use Rattle.std.specs.Char.Utf16.{utf16_lossy_chars, lone_unit_char, surrogate_pair_char}
use Rattle.std.proofs.lemmas.Bool.{cases_lt, and_parts, le-leb, lt-leb}
use Rattle.std.proofs.Math.Utf8.{scalar, low_scalar}
use Rattle.std.proofs.lemmas.List.{append-nil, take-append-drop, drop_at, drop_all, drop-drop, length-take-le, take_all, take_at, take_rest}
use Rattle.std.proofs.Math.Seq.{get_or-drop}
use Rattle.std.proofs.str.Utf16.{lone_unit_char_low, lone_unit_char_high, lone_unit_char_surrogate}
use Rattle.std.proofs.lemmas.Str.{IsUtf8-append, IsUtf8-nil, IsUtf8-drop, IsUtf8-from_ascii, IsCharBoundary-start, IsCharBoundary-from_rest, IsCharBoundary-at_seam, length-encode, len_utf8_bounds, utf16_chars-nil, utf16_chars_lone, utf16_chars_pair}
use borrow.Rule.Slice.PartMut.{put_mid, post_of}
use Rattle.encoding_mem.specs.calls.TextDestination.{cleared}
use Rattle.encoding_mem.specs.Surrogates.{IsSurrogatePair}
use Rattle.encoding_mem.specs.laws.Utf8.{scalar_from}
use Rattle.jillapun_c.specs.Room.{TextIsPut, rest_cleared}

-- ---- what follows a cut

-- from each place of a text a character begins within three bytes, or the text ends there
near : (cs : List ℕ) (n : ℕ) → all_scalars cs ≡ true → n ≤ length (encode_utf8_all cs) → (d : ℕ) × (d ≤ 3) × IsCharBoundary (encode_utf8_all cs) (n + d)
near cs zero are within = (0, omega arith, IsCharBoundary-start (encode_utf8_all cs) (cs, (are, refl)))
near [] (suc n) are within = absurd (omega (arith, within))
near (c ∷ cs) (suc n) are within =
    let size = length-encode c in
    let few = len_utf8_bounds c in
    let parts = and_parts (scalar c) (all_scalars cs) are in
    elim (cases_lt (length (encode_utf8 c)) (suc n)) [
      | inr inside ↦ (let at : length (encode_utf8 c) ≡ suc n + (length (encode_utf8 c) - suc n) = omega (arith, inside) in (
        length (encode_utf8 c) - suc n,
        omega (arith, size, few.1),
        subst (IsCharBoundary (encode_utf8_all (c ∷ cs))) at (IsCharBoundary-at_seam (encode_utf8_all (c ∷ cs)) (encode_utf8 c) (encode_utf8_all cs) refl (cs, (parts.1, refl))),
      ))
      | inl behind ↦ (let later = near cs (suc n - length (encode_utf8 c)) parts.1 (omega (arith, within, behind, length-append (encode_utf8 c) (encode_utf8_all cs))) in
          let at : length (encode_utf8 c) + ((suc n - length (encode_utf8 c)) + later.0) ≡ suc n + later.0 = omega (arith, behind) in
          let rest : drop (length (encode_utf8 c)) (encode_utf8_all (c ∷ cs)) ≡ encode_utf8_all cs = drop_at (encode_utf8 c) (encode_utf8_all cs) (length (encode_utf8 c)) refl in (
            later.0,
            later.1,
            subst (IsCharBoundary (encode_utf8_all (c ∷ cs))) at
                (IsCharBoundary-from_rest (encode_utf8_all (c ∷ cs)) (length (encode_utf8 c)) ((suc n - length (encode_utf8 c)) + later.0)
                (omega (arith, length-append (encode_utf8 c) (encode_utf8_all cs)))
                (subst (λ l. IsCharBoundary l ((suc n - length (encode_utf8 c)) + later.0)) (sym rest) later.2)),
          ))
    ]

zero_byte : (bytes : List ℕ) → IsUtf8 bytes → IsUtf8 (0 ∷ bytes)
zero_byte bytes h = IsUtf8-append (0 ∷ []) bytes (IsUtf8-from_ascii (0 ∷ []) low) h
  where
    low : IsAscii (0 ∷ [])
    low zero = omega arith
    low (suc i) = omega arith

-- bytes of which the first begins a character stay
stays : (k b : ℕ) (bytes : List ℕ) → (b < 0x80) ⊎ (0xBF < b) → cleared (take k (b ∷ bytes)) ++ drop k (b ∷ bytes) ≡ b ∷ bytes
stays zero b bytes h = refl
stays (suc k) b bytes h = ap (λ t. cond t (0 ∷ cleared (take k bytes)) (b ∷ take k bytes) ++ drop k bytes) (other h) ∙ ap (λ l. b ∷ l) (take-append-drop k bytes)
  where
    other : (b < 0x80) ⊎ (0xBF < b) → is_in_range 0x80 0xBF b ≡ false
    other (inl low) = rw (lt-leb 0x80 b low) refl
    other (inr high) = let a : 0x80 ≤ b = omega (arith, high) in rw (le-leb 0x80 b a, lt-leb b 0xBF high) refl

goes_on : (k b : ℕ) (bytes : List ℕ) → 0x80 ≤ b → b ≤ 0xBF → cleared (take (suc k) (b ∷ bytes)) ++ drop (suc k) (b ∷ bytes) ≡ 0 ∷ (cleared (take k bytes) ++ drop k bytes)
goes_on k b bytes low high =
    let is : is_in_range 0x80 0xBF b ≡ true = rw (le-leb 0x80 b low, le-leb b 0xBF high) refl in
    ap (λ t. cond t (0 ∷ cleared (take k bytes)) (b ∷ take k bytes) ++ drop k bytes) is

-- a byte goes on with a character, or does not
cases_rest : (b : ℕ) → ((0x80 ≤ b) × (b ≤ 0xBF)) ⊎ ((b < 0x80) ⊎ (0xBF < b))
cases_rest b = elim (cases_lt b 0x80) [
  | inl low ↦ inr (inl low)
  | inr from ↦ elim (cases_lt 0xBF b) [ inl high ↦ inr (inr high) | inr to ↦ inl (from, to) ]
]

begins_at : (b : ℕ) (bytes : List ℕ) → (b < 0x80) ⊎ (0xBF < b) → IsCharBoundary (b ∷ bytes) 0
begins_at b bytes (inl low) = (omega arith, λ less high. absurd (omega (arith, low, high)))
begins_at b bytes (inr high) = (omega arith, λ less _. omega (arith, high))

-- what follows a cut, by how many bytes the next character begins after it
cleared_is_text : (bytes : List ℕ) (d k : ℕ) → d ≤ k → ((j : ℕ) → IsCharBoundary bytes j → IsUtf8 (drop j bytes)) → IsCharBoundary bytes d
    → IsUtf8 (cleared (take k bytes) ++ drop k bytes)
cleared_is_text [] d zero few text begins = IsUtf8-nil
cleared_is_text [] d (suc k) few text begins = IsUtf8-nil
cleared_is_text (b ∷ bytes) zero k few text begins = elim (cases_rest b) [
  | inl inside ↦ absurd (omega (arith, inside.0, inside.1, begins.1 (omega arith) inside.0))
  | inr other ↦ subst IsUtf8 (sym (stays k b bytes other)) (text 0 begins)
]
cleared_is_text (b ∷ bytes) (suc d) zero few text begins = absurd (omega (arith, few))
cleared_is_text (b ∷ bytes) (suc d) (suc k) few text begins = elim (cases_rest b) [
  | inr other ↦ subst IsUtf8 (sym (stays (suc k) b bytes other)) (text 0 (begins_at b bytes other))
  | inl inside ↦ subst IsUtf8 (sym (goes_on k b bytes inside.0 inside.1)) (zero_byte (cleared (take k bytes) ++ drop k bytes)
      (cleared_is_text bytes d k (omega (arith, few)) (λ j at. text (suc j) (omega (arith, at.0), λ less high. at.1 (omega (arith, less)) high))
      (omega (arith, begins.0), λ less high. begins.1 (omega (arith, less)) high)))
]

rest_within : (old : List ℕ) (n : ℕ) → IsUtf8 old → n ≤ length old → IsUtf8 (rest_cleared (drop n old))
rest_within old n u within =
    let next = near u.0 n u.1.0 (omega (arith, within, ap length u.1.1)) in
    let at : IsCharBoundary old (n + next.0) = subst (λ l. IsCharBoundary l (n + next.0)) u.1.1 next.2 in
    cleared_is_text (drop n old) next.0 3 next.1
    (λ j begins. subst IsUtf8 (sym (drop-drop j n old)) (IsUtf8-drop old (n + j) u (IsCharBoundary-from_rest old n j within begins))) (
      omega (arith, at.0, length-drop n old),
      λ less high.
          let same = get_or-drop n old next.0 0 in
          omega (arith, same, at.1 (omega (arith, less, length-drop n old)) (omega (arith, high, same))),
    )

rest_is_text : (old : List ℕ) (n : ℕ) → IsUtf8 old → IsUtf8 (rest_cleared (drop n old))
rest_is_text old n u = elim (cases_lt (length old) n) [
  | inl over ↦ subst IsUtf8 (ap rest_cleared (sym (drop_all n old (omega (arith, over))))) IsUtf8-nil
  | inr within ↦ rest_within old n u within
]

-- a text was put over the start of another, and the rest of the character that was cut is cleared
pub text_is_put : (cs old new : List ℕ) (n : ℕ) → all_scalars cs ≡ true → n ≤ length new → take n new ≡ encode_utf8_all cs → drop n new ≡ rest_cleared (drop n old)
    → TextIsPut old (encode_utf8_all cs) new n
text_is_put cs old new n are fits is behind = record {
  fits = fits;
  is = is;
  behind = behind;
  utf8 = λ u. subst IsUtf8 (take-append-drop n new)
      (IsUtf8-append (take n new) (drop n new) (subst IsUtf8 (sym is) (cs, (are, refl))) (subst IsUtf8 (sym behind) (rest_is_text old n u)));
}

-- ---- what a call wrote into a part of a slice

pub start_cleared : (xs ys : List ℕ) (few : ℕ) → few ≡ min (length xs) 3 → ys ≡ cleared (take few xs) → put_mid 0 few xs ys ≡ rest_cleared xs
start_cleared xs ys few is clear = elim (cases_lt (length xs) 3) [
  | inl short ↦ (let all : few ≡ length xs = omega (arith, is, short) in
      ap (λ l. l ++ drop few xs) (clear ∙ ap cleared (take_all few xs (omega (arith, all)) ∙ sym (take_all 3 xs (omega (arith, short)))))
      ∙ ap (λ l. cleared (take 3 xs) ++ l) (drop_all few xs (omega (arith, all)) ∙ sym (drop_all 3 xs (omega (arith, short)))))
  | inr long ↦ (let three : few ≡ 3 = omega (arith, is, long) in
      ap (λ l. l ++ drop few xs) clear ∙ ap (λ n. cleared (take n xs) ++ drop n xs) three)
]

pub put_prefix : (n : ℕ) (xs ys : List ℕ) → n ≤ length xs → take n (put_mid n (length xs - n) xs ys) ≡ take n xs
put_prefix n xs ys h = take_at (take n xs) (ys ++ post_of n (length xs - n) xs) n (length-take-le n xs h)

pub put_fits : (n : ℕ) (xs ys : List ℕ) → n ≤ length xs → n ≤ length (put_mid n (length xs - n) xs ys)
put_fits n xs ys h = omega (arith, length-append (take n xs) (ys ++ post_of n (length xs - n) xs), length-take-le n xs h)

pub put_cleared : (n : ℕ) (xs ys : List ℕ) → n ≤ length xs → ys ≡ rest_cleared (take (length xs - n) (drop n xs)) → drop n (put_mid n (length xs - n) xs ys) ≡ rest_cleared (drop n xs)
put_cleared n xs ys h is =
    drop_at (take n xs) (ys ++ post_of n (length xs - n) xs) n (length-take-le n xs h)
    ∙ ap (λ l. ys ++ l) (drop-drop (length xs - n) n xs ∙ drop_all (n + (length xs - n)) xs (omega arith)) ∙ append-nil ys
    ∙ is ∙ ap rest_cleared (take_rest xs n)

-- ---- scalars

-- bytes are scalars
pub bytes_are_scalars : (cs : List ℕ) → ((k : ℕ) → get_or cs k 0 < 256) → all_scalars cs ≡ true
bytes_are_scalars [] low = refl
bytes_are_scalars (c ∷ cs) low = rw (low_scalar c (omega (arith, low 0)), bytes_are_scalars cs (λ k. low (suc k))) refl

-- the character that a unit in no pair stands for
abbrev char_of : ℕ → ℕ
char_of u = unwrap_or (lone_unit_char u) 0xFFFD

char_is_scalar : (u : ℕ) → u < 0x1_0000 → scalar (char_of u) ≡ true
char_is_scalar u h = elim (cases_lt u 0xD800) [
  | inl low ↦ subst (λ o. scalar (unwrap_or o 0xFFFD) ≡ true) (sym (lone_unit_char_low u low)) (low_scalar u low)
  | inr from ↦ elim (cases_lt u 0xE000) [
    | inl below ↦ subst (λ o. scalar (unwrap_or o 0xFFFD) ≡ true) (sym (lone_unit_char_surrogate u from below)) refl
    | inr high ↦ subst (λ o. scalar (unwrap_or o 0xFFFD) ≡ true) (sym (lone_unit_char_high u high)) (scalar_from u (inr (high, omega arith)))
  ]
]

in_range_or_not : (low high u : ℕ) → ((low ≤ u) × (u ≤ high)) ⊎ (¬ ((low ≤ u) × (u ≤ high)))
in_range_or_not low high u = elim (cases_lt u low) [
  | inl below ↦ inr (λ p. absurd (omega (arith, below, p.0)))
  | inr from ↦ elim (cases_lt high u) [ inl over ↦ inr (λ p. absurd (omega (arith, over, p.1))) | inr to ↦ inl (from, to) ]
]

pair_or_not : (u v : ℕ) → IsSurrogatePair u v ⊎ (¬ (IsSurrogatePair u v))
pair_or_not u v = elim (in_range_or_not 0xD800 0xDBFF u) [
  | inl high ↦ elim (in_range_or_not 0xDC00 0xDFFF v) [ inl low ↦ inl (high, low) | inr other ↦ inr (λ p. other p.1) ]
  | inr other ↦ inr (λ p. other p.0)
]

one : (u : ℕ) (us : List ℕ) → ¬ (IsSurrogatePair u (get_or us 0 0)) → utf16_lossy_chars (u ∷ us) ≡ char_of u ∷ utf16_lossy_chars us
one u us apart = ap (map (λ o. unwrap_or o 0xFFFD)) (utf16_chars_lone u us (λ p. apart ((p.0, omega arith), (p.2, omega arith))))

two : (u v : ℕ) (us : List ℕ) → IsSurrogatePair u v → utf16_lossy_chars (u ∷ v ∷ us) ≡ surrogate_pair_char u v ∷ utf16_lossy_chars us
two u v us p = ap (map (λ o. unwrap_or o 0xFFFD)) (utf16_chars_pair u v us (p.0.0, omega arith, p.1.0, omega arith))

-- the characters of units are scalars
pub units_are_scalars : (us : List ℕ) → ((k : ℕ) → get_or us k 0 < 0x1_0000) → all_scalars (utf16_lossy_chars us) ≡ true
units_are_scalars [] low = ap (λ l. all_scalars (map (λ o. unwrap_or o 0xFFFD) l)) utf16_chars-nil
units_are_scalars (u ∷ []) low =
    ap all_scalars (one u [] (λ p. absurd (omega (arith, p.1.0)))) ∙ rw (char_is_scalar u (low 0)) (units_are_scalars [] (λ k. low (suc k)))
units_are_scalars (u ∷ v ∷ us) low = elim (pair_or_not u v) [
  | inl p ↦ (let c : ℕ = surrogate_pair_char u v in let is : scalar c ≡ true = scalar_from c (inr (omega arith, omega arith)) in
      ap all_scalars (two u v us p) ∙ rw (is, units_are_scalars us (λ k. low (suc (suc k)))) refl)
  | inr apart ↦ (ap all_scalars (one u (v ∷ us) apart) ∙ rw (char_is_scalar u (low 0), units_are_scalars (v ∷ us) (λ k. low (suc k))) refl)
]

-- numbers of a prefix are numbers of the list
pub take_low : (m n : ℕ) (xs : List ℕ) → 0 < m → ((k : ℕ) → get_or xs k 0 < m) → (k : ℕ) → get_or (take n xs) k 0 < m
take_low m zero xs some low k = some
take_low m (suc n) [] some low k = some
take_low m (suc n) (x ∷ xs) some low zero = low 0
take_low m (suc n) (x ∷ xs) some low (suc k) = take_low m n xs some (λ j. low (suc j)) k
