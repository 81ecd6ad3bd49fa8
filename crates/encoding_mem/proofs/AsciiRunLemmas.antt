-- Runs of ASCII at the start of a text.
use Rattle.std.proofs.Common.{◌≡◌, ℕ, zero, suc, min, length-take, length-drop, ◌+◌, ◌<◌, ◌≤◌, List, [], ◌∷◌, ◌++◌, length, get_or, take, drop, sym, ◌∙◌, ap, subst, refl, arith, inl, inr, encode_utf8_all, add-zero}
use Rattle.std.specs.Char.Utf16.{utf16_lossy_chars}
use Rattle.std.specs.Str.{chars, IsAscii, IsUtf8, IsCharBoundary}
use Rattle.std.proofs.lemmas.Bool.{cases_lt}
use Rattle.std.proofs.lemmas.List.{take-take, drop-drop, get_or-take, get_or-drop}
use Rattle.std.proofs.Math.Seq.{drop-append_seam}
use Rattle.std.proofs.lemmas.Str.{chars-append, chars-IsAscii, encode_ascii, encodes-chars, IsUtf8-from_ascii, IsCharBoundary-from_take, IsCharBoundary-from_rest}
use Rattle.encoding_mem.proofs.Utf16Lemmas.{no_units, plain_unit, lone_unit, pair_of_units, no_second}

-- In UTF-8. The window is the prefix of the text that is looked at.
pub run_is : (text bytes run : List ℕ) (m : ℕ) → bytes ≡ text → m ≤ length text → run ≡ take (length run) (take m bytes) → run ≡ take (length run) text
run_is text bytes run m same within is =
    let len : length run ≡ min (length run) (length (take m text)) = ap length is ∙ length-take (length run) (take m bytes) ∙ ap (λ l. min (length run) (length (take m l))) same in
    let short : length run ≤ m = omega (arith, len, length-take m text) in
    is ∙ ap (λ l. take (length run) (take m l)) same ∙ take-take (length run) m text short

pub run_boundary : (text run : List ℕ) (n : ℕ) → IsUtf8 text → n ≤ length text → run ≡ take n text → IsAscii run → IsCharBoundary text n
run_boundary text run n utf8 within is low = IsCharBoundary-from_take text n utf8 within (subst IsUtf8 is (IsUtf8-from_ascii run low))

pub run_chars : (text run rest : List ℕ) → text ≡ run ++ rest → IsAscii run → chars text ≡ run ++ chars rest
run_chars text run rest is low = ap chars is ∙ chars-append run rest (IsUtf8-from_ascii run low) ∙ ap (λ l. l ++ chars rest) (chars-IsAscii run low)

-- a text that begins with an ASCII character begins with its byte
first_byte : (text : List ℕ) (c : ℕ) (rest : List ℕ) → IsUtf8 text → chars text ≡ c ∷ rest → c < 0x80 → text ≡ c ∷ encode_utf8_all rest
first_byte text c rest utf8 at low = sym (encodes-chars text utf8) ∙ ap encode_utf8_all at ∙ ap (λ l. l ++ encode_utf8_all rest) (encode_ascii c low)

-- so the run there is not empty
first_of : (m c : ℕ) (text more : List ℕ) → text ≡ c ∷ more → 0 < m → get_or (take m text) 0 0 ≡ c
first_of zero c text more at some = absurd (omega arith)
first_of (suc k) c text more at some = rw at refl

pub run_some : (text bytes : List ℕ) (most m n c : ℕ) (rest : List ℕ) → IsUtf8 text → bytes ≡ text → m ≡ min (length text) most → 0 < most
    → (n < length (take m bytes) → 0x80 ≤ get_or (take m bytes) n 0) → chars text ≡ c ∷ rest → c < 0x80 → 0 < n
run_some text bytes most m n c rest utf8 same is some longest at low = elim (cases_lt 0 n) [
  | inl more ↦ more
  | inr none ↦
      let zero : n ≡ 0 = omega arith in
      let begins : text ≡ c ∷ encode_utf8_all rest = first_byte text c rest utf8 at low in
      let bytes_are : bytes ≡ c ∷ encode_utf8_all rest = same ∙ begins in
      let wide : 0 < m = omega (arith, is, ap length begins) in
      let high : 0x80 ≤ get_or (take m bytes) 0 0 = rw zero at longest (omega (arith, wide, ap length bytes_are, length-take m bytes)) in
      absurd (omega (arith, high, low, first_of m c bytes (encode_utf8_all rest) bytes_are wide))
]

-- and what stands after a run that ended before the room did is not ASCII
pub run_longest : (text bytes rest : List ℕ) (most m n c : ℕ) (more : List ℕ) → IsUtf8 rest → bytes ≡ text → m ≡ min (length text) most → n < most → rest ≡ drop n text
    → (n < length (take m bytes) → 0x80 ≤ get_or (take m bytes) n 0) → chars rest ≡ c ∷ more → 0x80 ≤ c
run_longest text bytes rest most m n c more utf8 same is short at longest begins = elim (cases_lt c 0x80) [
  | inl low ↦
      let byte : rest ≡ c ∷ encode_utf8_all more = first_byte rest c more utf8 begins low in
      let within : n < length text = omega (arith, ap length byte, ap length at, length-drop n text) in
      let fits : n < m = omega (arith, is, within, short) in
      let high : 0x80 ≤ get_or (take m bytes) n 0 = longest (omega (arith, length-take m bytes, ap length same, fits, within)) in
      let there : get_or (take m bytes) n 0 ≡ c = get_or-take m bytes n 0 fits ∙ ap (λ l. get_or l n 0) same ∙ ap (λ k. get_or text k 0) (sym (add-zero n)) ∙ sym (get_or-drop n text 0 0) ∙ ap (λ l. get_or l 0 0) (sym at ∙ byte) in
      absurd (omega (arith, high, low, there))
  | inr high ↦ high
]

-- In UTF-16.
pub ascii_unit : (us : List ℕ) → 0 < length us → get_or us 0 0 < 0x80 → utf16_lossy_chars us ≡ get_or us 0 0 ∷ utf16_lossy_chars (drop 1 us)
ascii_unit us some low = plain_unit us some (inl (omega arith))

-- a run of ASCII is itself
pub run_units : (n : ℕ) (us : List ℕ) → n ≤ length us → IsAscii (take n us) → utf16_lossy_chars us ≡ take n us ++ utf16_lossy_chars (drop n us)
run_units zero us within low = refl
run_units (suc n) [] within low = absurd (omega arith)
run_units (suc n) (u ∷ us) within low = ascii_unit (u ∷ us) (omega arith) (low 0) ∙ ap (λ l. u ∷ l) (run_units n us (omega arith) (λ i. low (suc i)))

-- a unit that is not ASCII begins no ASCII character
same_head : (a b : ℕ) (x y t : List ℕ) → t ≡ a ∷ x → t ≡ b ∷ y → a ≡ b
same_head a b x y t p q = let e : a ∷ x ≡ b ∷ y = sym p ∙ q in cc

high_surrogate : (us : List ℕ) (c : ℕ) (rest : List ℕ) → 0 < length us → 0xD800 ≤ get_or us 0 0 → get_or us 0 0 < 0xE000 → utf16_lossy_chars us ≡ c ∷ rest → 0x80 ≤ c
high_surrogate us c rest some from below at = elim (cases_lt (get_or us 0 0) 0xDC00) [
  | inl first ↦ elim (cases_lt (get_or us 1 0) 0xDC00) [
    | inl low ↦ let e = same_head _ _ _ _ _ (lone_unit us some from below (λ p. absurd (omega arith))) at in omega arith
    | inr second ↦ elim (cases_lt (get_or us 1 0) 0xE000) [
      | inl over ↦ elim (cases_lt 1 (length us)) [
        | inl two ↦ let e = same_head _ _ _ _ _ (pair_of_units us two (omega arith, omega arith, omega arith, omega arith)) at in omega arith
        | inr one ↦ let z = no_second us (omega arith) in absurd (omega arith)
      ]
      | inr over ↦ let e = same_head _ _ _ _ _ (lone_unit us some from below (λ p. absurd (omega arith))) at in omega arith
    ]
  ]
  | inr second ↦ let e = same_head _ _ _ _ _ (lone_unit us some from below (λ p. absurd (omega arith))) at in omega arith
]

pub high_unit : (us : List ℕ) (c : ℕ) (rest : List ℕ) → 0 < length us → 0x80 ≤ get_or us 0 0 → utf16_lossy_chars us ≡ c ∷ rest → 0x80 ≤ c
high_unit us c rest some high at = elim (cases_lt (get_or us 0 0) 0xD800) [
  | inl low ↦ let e = same_head _ _ _ _ _ (plain_unit us some (inl low)) at in omega arith
  | inr from ↦ elim (cases_lt (get_or us 0 0) 0xE000) [
    | inl below ↦ high_surrogate us c rest some from below at
    | inr over ↦ let e = same_head _ _ _ _ _ (plain_unit us some (inr over)) at in omega arith
  ]
]

-- so the run there is not empty
pub units_some : (us : List ℕ) (n size c : ℕ) (rest : List ℕ) → (n < length us → n < size → 0x80 ≤ get_or us n 0) → utf16_lossy_chars us ≡ c ∷ rest → c < 0x80 → 0 < size → 0 < n
units_some [] n size c rest longest at low some = let none = sym (no_units [] refl) ∙ at in absurd (cc)
units_some (u ∷ us) n size c rest longest at low some = elim (cases_lt 0 n) [
  | inl more ↦ more
  | inr none ↦
      let zero : n ≡ 0 = omega arith in
      let high : 0x80 ≤ get_or (u ∷ us) 0 0 = rw zero at longest (omega arith) some in
      absurd (omega (arith, low, high_unit (u ∷ us) c rest (omega arith) high at))
]

-- Past a run.
pub past_run : (text here run more : List ℕ) (i : ℕ) → here ≡ drop i text → here ≡ run ++ more → more ≡ drop (i + length run) text
past_run text here run more i at is = sym (drop-append_seam run more) ∙ ap (drop (length run)) (sym is ∙ at) ∙ drop-drop (length run) i text

pub past_boundary : (text here : List ℕ) (i n : ℕ) → i ≤ length text → here ≡ drop i text → IsCharBoundary here n → IsCharBoundary text (i + n)
past_boundary text here i n within at b = IsCharBoundary-from_rest text i n within (subst (λ l. IsCharBoundary l n) at b)

pub past_units : (units here out : List ℕ) (i n : ℕ) → here ≡ drop i units → n ≤ length here → out ≡ take n here → IsAscii (take n here) → utf16_lossy_chars (drop i units) ≡ out ++ utf16_lossy_chars (drop (i + n) units)
past_units units here out i n at within copied low =
    ap utf16_lossy_chars (sym at) ∙ run_units n here within low ∙ ap (λ l. l ++ utf16_lossy_chars (drop n here)) (sym copied)
    ∙ ap (λ l. out ++ utf16_lossy_chars l) (ap (drop n) at ∙ drop-drop n i units)

pub units_longest : (units here : List ℕ) (i n size c : ℕ) (rest : List ℕ) → here ≡ drop i units → n < size → (n < length here → n < size → 0x80 ≤ get_or here n 0)
    → utf16_lossy_chars (drop (i + n) units) ≡ c ∷ rest → 0x80 ≤ c
units_longest units here i n size c rest at short longest begins =
    let left : drop n here ≡ drop (i + n) units = ap (drop n) at ∙ drop-drop n i units in
    behind (drop n here) (ap utf16_lossy_chars left ∙ begins) (λ some. get_or_at (longest (omega (arith, some, length-drop n here)) short))
  where
    get_or_at : 0x80 ≤ get_or here n 0 → 0x80 ≤ get_or (drop n here) 0 0
    get_or_at h = subst (λ v. 0x80 ≤ v) (ap (λ k. get_or here k 0) (sym (add-zero n)) ∙ sym (get_or-drop n here 0 0)) h

    behind : (us : List ℕ) → utf16_lossy_chars us ≡ c ∷ rest → (0 < length us → 0x80 ≤ get_or us 0 0) → 0x80 ≤ c
    behind [] e h = let none = sym (no_units [] refl) ∙ e in absurd (cc)
    behind (u ∷ us) e h = high_unit (u ∷ us) c rest (omega arith) (h (omega arith)) e
