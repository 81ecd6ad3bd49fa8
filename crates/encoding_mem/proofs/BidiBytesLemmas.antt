-- The bytes of a text and its characters agree on what is from right to left.
use Rattle.std.proofs.Common.{◌≡◌, ℕ, zero, suc, ◌+◌, ◌-◌, ◌*◌, ◌/◌, ◌%◌, ◌<◌, ◌≤◌, inl, inr, List, [], ◌∷◌, ◌++◌, ◌||◌, Bool, true, false, IsTrue, length, take, drop, get_or, refl, sym, ◌∙◌, ap, subst, arith, encode_utf8_all}
use Rattle.std.specs.Char.{encode_utf8}
use Rattle.std.specs.List.{list_any}
use Rattle.std.specs.Str.{chars, IsUtf8, all_scalars}
use Rattle.std.proofs.Math.Utf8.{scalar}
use Rattle.std.proofs.lemmas.Bool.{cases_lt, and_parts}
use Rattle.std.proofs.lemmas.List.{get_or-drop, get_or-take, length-take-le, take_rest}
use Rattle.std.proofs.lemmas.List.Folds.{list_any_at}
use Rattle.std.specs.Int.{is_in_range}
use Rattle.std.proofs.lemmas.Str.{encode_ascii, encodes-chars, scalars-chars}
use Rattle.encoding_mem.specs.Bidi.{is_bidi_char}
use Rattle.encoding_mem.specs.BidiBytes.{is_bidi_number, is_bidi_bytes, is_bidi_at, is_bidi_lead}
use Rattle.encoding_mem.proofs.BidiLemmas.{below_range, same_range, out_of_range, not_in_range, low_char}
use Rattle.encoding_mem.proofs.Latin1BytesLemmas.{one_more}
use Rattle.encoding_mem.proofs.Latin1Lemmas.{each_back}
use Rattle.encoding_mem.proofs.Utf8TextLemmas.{of_two, of_three, of_four}

-- The ranges, one by one.
each_range : {a1 a2 a3 a4 a5 a6 a7 a8 a9 b1 b2 b3 b4 b5 b6 b7 b8 b9 : Bool}
    → a1 ≡ b1 → a2 ≡ b2 → a3 ≡ b3 → a4 ≡ b4 → a5 ≡ b5 → a6 ≡ b6 → a7 ≡ b7 → a8 ≡ b8 → a9 ≡ b9
    → ((a1 || a2 || a3 || a4 || a5 || a6 || a7) || a8 || a9) ≡ ((b1 || b2 || b3 || b4 || b5 || b6 || b7) || b8 || b9)
each_range e1 e2 e3 e4 e5 e6 e7 e8 e9 = cc

low_number : (v : ℕ) → v < 0xD6_9000 → is_bidi_number v ≡ false
low_number v low = each_range
    (below_range 0xD6_9000 0xE0_A3FF v low)
    (below_range 0xE2_808F 0xE2_808F v (omega arith))
    (below_range 0xE2_80AB 0xE2_80AB v (omega arith))
    (below_range 0xE2_80AE 0xE2_80AE v (omega arith))
    (below_range 0xE2_81A7 0xE2_81A7 v (omega arith))
    (below_range 0xEF_AC9D 0xEF_B7BF v (omega arith))
    (below_range 0xEF_B9B0 0xEF_BBBE v (omega arith))
    (below_range 0xF0_90A0 0xF0_90BF v (omega arith))
    (below_range 0xF0_9EA0 0xF0_9EBF v (omega arith))

-- a byte of ASCII, or one that continues a character, begins none
low_byte : (b n m : ℕ) → b < 0xC0 → n < 256 → m < 256 → is_bidi_bytes b n m ≡ false
low_byte b n m low next after = low_number (b * 0x1_0000 + n * 0x100 + m) (omega arith)

two_bytes : (c b n m v : ℕ) → c + 0x3080 ≡ b * 0x40 + n → 0xC0 ≤ b → b < 0xE0 → 0x80 ≤ n → n < 0xC0 → m < 256 → v ≡ b * 0x1_0000 + n * 0x100 + m
    → is_bidi_number v ≡ is_bidi_char c
two_bytes c b n m v is from to low high after at = each_range
    (same_range 0xD6_9000 0xE0_A3FF v 0x590 0x8FF c (λ l h. (omega arith, omega arith)) (λ l h. (omega arith, omega arith)))
    (same_range 0xE2_808F 0xE2_808F v 0x200F 0x200F c (λ l h. (omega arith, omega arith)) (λ l h. (omega arith, omega arith)))
    (same_range 0xE2_80AB 0xE2_80AB v 0x202B 0x202B c (λ l h. (omega arith, omega arith)) (λ l h. (omega arith, omega arith)))
    (same_range 0xE2_80AE 0xE2_80AE v 0x202E 0x202E c (λ l h. (omega arith, omega arith)) (λ l h. (omega arith, omega arith)))
    (same_range 0xE2_81A7 0xE2_81A7 v 0x2067 0x2067 c (λ l h. (omega arith, omega arith)) (λ l h. (omega arith, omega arith)))
    (same_range 0xEF_AC9D 0xEF_B7BF v 0xFB1D 0xFDFF c (λ l h. (omega arith, omega arith)) (λ l h. (omega arith, omega arith)))
    (same_range 0xEF_B9B0 0xEF_BBBE v 0xFE70 0xFEFE c (λ l h. (omega arith, omega arith)) (λ l h. (omega arith, omega arith)))
    (same_range 0xF0_90A0 0xF0_90BF v 0x1_0800 0x1_0FFF c (λ l h. (omega arith, omega arith)) (λ l h. (omega arith, omega arith)))
    (same_range 0xF0_9EA0 0xF0_9EBF v 0x1_E800 0x1_EFFF c (λ l h. (omega arith, omega arith)) (λ l h. (omega arith, omega arith)))

three_bytes : (c b n m v : ℕ) → c + 0xE_2080 ≡ b * 0x1000 + n * 0x40 + m → 0x800 ≤ c → 0xE0 ≤ b → b < 0xF0 → 0x80 ≤ n → n < 0xC0 → 0x80 ≤ m → m < 0xC0
    → v ≡ b * 0x1_0000 + n * 0x100 + m → is_bidi_number v ≡ is_bidi_char c
three_bytes c b n m v is some from to low high low2 high2 at = each_range
    (same_range 0xD6_9000 0xE0_A3FF v 0x590 0x8FF c (λ l h. (omega arith, omega arith)) (λ l h. (omega arith, omega arith)))
    (same_range 0xE2_808F 0xE2_808F v 0x200F 0x200F c (λ l h. (omega arith, omega arith)) (λ l h. (omega arith, omega arith)))
    (same_range 0xE2_80AB 0xE2_80AB v 0x202B 0x202B c (λ l h. (omega arith, omega arith)) (λ l h. (omega arith, omega arith)))
    (same_range 0xE2_80AE 0xE2_80AE v 0x202E 0x202E c (λ l h. (omega arith, omega arith)) (λ l h. (omega arith, omega arith)))
    (same_range 0xE2_81A7 0xE2_81A7 v 0x2067 0x2067 c (λ l h. (omega arith, omega arith)) (λ l h. (omega arith, omega arith)))
    (same_range 0xEF_AC9D 0xEF_B7BF v 0xFB1D 0xFDFF c (λ l h. (omega arith, omega arith)) (λ l h. (omega arith, omega arith)))
    (same_range 0xEF_B9B0 0xEF_BBBE v 0xFE70 0xFEFE c (λ l h. (omega arith, omega arith)) (λ l h. (omega arith, omega arith)))
    (same_range 0xF0_90A0 0xF0_90BF v 0x1_0800 0x1_0FFF c (λ l h. (omega arith, omega arith)) (λ l h. (omega arith, omega arith)))
    (same_range 0xF0_9EA0 0xF0_9EBF v 0x1_E800 0x1_EFFF c (λ l h. (omega arith, omega arith)) (λ l h. (omega arith, omega arith)))

four_bytes : (c b n m o v : ℕ) → c + 0x3C8_2080 ≡ b * 0x4_0000 + n * 0x1000 + m * 0x40 + o → 0x1_0000 ≤ c → 0xF0 ≤ b → 0x80 ≤ n → n < 0xC0 → 0x80 ≤ m → m < 0xC0 → 0x80 ≤ o → o < 0xC0
    → v ≡ b * 0x1_0000 + n * 0x100 + m → is_bidi_number v ≡ is_bidi_char c
four_bytes c b n m o v is some from low high low2 high2 low3 high3 at = each_range
    (same_range 0xD6_9000 0xE0_A3FF v 0x590 0x8FF c (λ l h. (omega arith, omega arith)) (λ l h. (omega arith, omega arith)))
    (same_range 0xE2_808F 0xE2_808F v 0x200F 0x200F c (λ l h. (omega arith, omega arith)) (λ l h. (omega arith, omega arith)))
    (same_range 0xE2_80AB 0xE2_80AB v 0x202B 0x202B c (λ l h. (omega arith, omega arith)) (λ l h. (omega arith, omega arith)))
    (same_range 0xE2_80AE 0xE2_80AE v 0x202E 0x202E c (λ l h. (omega arith, omega arith)) (λ l h. (omega arith, omega arith)))
    (same_range 0xE2_81A7 0xE2_81A7 v 0x2067 0x2067 c (λ l h. (omega arith, omega arith)) (λ l h. (omega arith, omega arith)))
    (same_range 0xEF_AC9D 0xEF_B7BF v 0xFB1D 0xFDFF c (λ l h. (omega arith, omega arith)) (λ l h. (omega arith, omega arith)))
    (same_range 0xEF_B9B0 0xEF_BBBE v 0xFE70 0xFEFE c (λ l h. (omega arith, omega arith)) (λ l h. (omega arith, omega arith)))
    (same_range 0xF0_90A0 0xF0_90BF v 0x1_0800 0x1_0FFF c (λ l h. (omega arith, omega arith)) (λ l h. (omega arith, omega arith)))
    (same_range 0xF0_9EA0 0xF0_9EBF v 0x1_E800 0x1_EFFF c (λ l h. (omega arith, omega arith)) (λ l h. (omega arith, omega arith)))

-- At each byte of a list.
abbrev any_bytes : List ℕ → Bool
any_bytes [] = false
any_bytes (b ∷ bs) = is_bidi_bytes b (get_or bs 0 0) (get_or bs 1 0) || any_bytes bs

of_char : (c : ℕ) (rest : List ℕ) → scalar c ≡ true → ((i : ℕ) → get_or (encode_utf8 c ++ rest) i 0 < 256)
    → any_bytes (encode_utf8 c ++ rest) ≡ (is_bidi_char c || any_bytes rest)
of_char c rest is low = elim (cases_lt c 0x80) [
  | inl ascii ↦
      let bytes = rw (encode_ascii c ascii) at low in
      rw (encode_ascii c ascii) (ap (λ b. b || any_bytes rest) (low_byte c (get_or rest 0 0) (get_or rest 1 0) (omega arith) (bytes 1) (bytes 2) ∙ sym (low_char c (omega arith))))
  | inr from ↦ elim (cases_lt c 0x800) [
    | inl two ↦
        let bytes = rw (of_two c from two) at low in
        let b : ℕ = 0xC0 + c / 0x40 in
        let n : ℕ = 0x80 + c % 0x40 in
        let m : ℕ = get_or rest 0 0 in
        rw (of_two c from two) (
        ap (λ x. x || (is_bidi_bytes n m (get_or rest 1 0) || any_bytes rest)) (two_bytes c b n m (b * 0x1_0000 + n * 0x100 + m) (omega arith) (omega arith) (omega arith) (omega arith) (omega arith) (bytes 2) refl)
        ∙ ap (λ x. is_bidi_char c || (x || any_bytes rest)) (low_byte n m (get_or rest 1 0) (omega arith) (bytes 2) (bytes 3))
        )
    | inr more ↦ elim (cases_lt c 0x1_0000) [
      | inl three ↦
          let bytes = rw (of_three c more three) at low in
          let b : ℕ = 0xE0 + c / 0x1000 in
          let n : ℕ = 0x80 + c / 0x40 % 0x40 in
          let m : ℕ = 0x80 + c % 0x40 in
          let x0 : ℕ = get_or rest 0 0 in
          rw (of_three c more three) (
          ap (λ x. x || (is_bidi_bytes n m x0 || (is_bidi_bytes m x0 (get_or rest 1 0) || any_bytes rest))) (three_bytes c b n m (b * 0x1_0000 + n * 0x100 + m) (omega arith) more (omega arith) (omega arith) (omega arith) (omega arith) (omega arith) (omega arith) refl)
          ∙ ap (λ x. is_bidi_char c || (x || (is_bidi_bytes m x0 (get_or rest 1 0) || any_bytes rest))) (low_byte n m x0 (omega arith) (omega arith) (bytes 3))
          ∙ ap (λ x. is_bidi_char c || (x || any_bytes rest)) (low_byte m x0 (get_or rest 1 0) (omega arith) (bytes 3) (bytes 4))
          )
      | inr four ↦
          let bytes = rw (of_four c four) at low in
          let b : ℕ = 0xF0 + c / 0x4_0000 in
          let n : ℕ = 0x80 + c / 0x1000 % 0x40 in
          let m : ℕ = 0x80 + c / 0x40 % 0x40 in
          let o : ℕ = 0x80 + c % 0x40 in
          let x0 : ℕ = get_or rest 0 0 in
          let x1 : ℕ = get_or rest 1 0 in
          rw (of_four c four) (
          ap (λ x. x || (is_bidi_bytes n m o || (is_bidi_bytes m o x0 || (is_bidi_bytes o x0 x1 || any_bytes rest)))) (four_bytes c b n m o (b * 0x1_0000 + n * 0x100 + m) (omega arith) four (omega arith) (omega arith) (omega arith) (omega arith) (omega arith) (omega arith) (omega arith) refl)
          ∙ ap (λ x. is_bidi_char c || (x || (is_bidi_bytes m o x0 || (is_bidi_bytes o x0 x1 || any_bytes rest)))) (low_byte n m o (omega arith) (omega arith) (omega arith))
          ∙ ap (λ x. is_bidi_char c || (x || (is_bidi_bytes o x0 x1 || any_bytes rest))) (low_byte m o x0 (omega arith) (omega arith) (bytes 4))
          ∙ ap (λ x. is_bidi_char c || (x || any_bytes rest)) (low_byte o x0 x1 (omega arith) (bytes 4) (bytes 5))
          )
    ]
  ]
]

of_chars : (cs : List ℕ) → all_scalars cs ≡ true → ((i : ℕ) → get_or (encode_utf8_all cs) i 0 < 256) → any_bytes (encode_utf8_all cs) ≡ list_any is_bidi_char cs
of_chars [] are low = refl
of_chars (c ∷ cs) are low =
    let parts = and_parts (scalar c) (all_scalars cs) are in
    of_char c (encode_utf8_all cs) parts.0 low ∙ ap (λ b. is_bidi_char c || b) (of_chars cs parts.1 (each_back (λ b. b < 256) (encode_utf8 c) (encode_utf8_all cs) low))

of_text : (text : List ℕ) → IsUtf8 text → ((i : ℕ) → get_or text i 0 < 256) → any_bytes text ≡ list_any is_bidi_char (chars text)
of_text text utf8 low =
    let is = encodes-chars text utf8 in
    ap any_bytes (sym is) ∙ of_chars (chars text) (scalars-chars text utf8) (subst (λ l. (i : ℕ) → get_or l i 0 < 256) (sym is) low)

-- and by offsets
later : (b : ℕ) (bs : List ℕ) (k : ℕ) → is_bidi_at (b ∷ bs) (suc k) ≡ is_bidi_at bs k
later b bs k =
    let e1 : suc k + 1 ≡ suc (k + 1) = omega arith in
    let e2 : suc k + 2 ≡ suc (k + 2) = omega arith in
    ap (λ j. is_bidi_bytes (get_or bs k 0) (get_or (b ∷ bs) j 0) (get_or (b ∷ bs) (suc k + 2) 0)) e1 ∙ ap (λ j. is_bidi_bytes (get_or bs k 0) (get_or bs (k + 1) 0) (get_or (b ∷ bs) j 0)) e2

none_of : (bs : List ℕ) → ((k : ℕ) → k < length bs → is_bidi_at bs k ≡ false) → any_bytes bs ≡ false
none_of [] none = refl
none_of (b ∷ bs) none =
    ap (λ x. x || any_bytes bs) (none 0 (omega arith)) ∙ none_of bs (λ k less. sym (later b bs k) ∙ none (suc k) (omega arith))

here_or : (a b : Bool) → IsTrue a → IsTrue (a || b)
here_or true b h = refl
here_or false b h = absurd (cc)

later_or : (a b : Bool) → IsTrue b → IsTrue (a || b)
later_or true b h = refl
later_or false b h = h

some_of : (bs : List ℕ) (k : ℕ) → IsTrue (is_bidi_at bs k) → IsTrue (any_bytes bs)
some_of [] k some = absurd (cc (some, low_byte 0 0 0 (omega arith) (omega arith) (omega arith)))
some_of (b ∷ bs) zero some = here_or (is_bidi_bytes b (get_or bs 0 0) (get_or bs 1 0)) (any_bytes bs) some
some_of (b ∷ bs) (suc k) some = later_or (is_bidi_bytes b (get_or bs 0 0) (get_or bs 1 0)) (any_bytes bs) (some_of bs k (sym (later b bs k) ∙ some))

pub agree : (text : List ℕ) (r : Bool) → IsUtf8 text → ((i : ℕ) → get_or text i 0 < 256) → (r ≡ false → (k : ℕ) → k < length text → is_bidi_at text k ≡ false)
    → (IsTrue r → (k : ℕ) × IsTrue (is_bidi_at text k)) → r ≡ list_any is_bidi_char (chars text)
agree text true utf8 low none some = let found = some refl in sym (some_of text found.0 found.1) ∙ of_text text utf8 low
agree text false utf8 low none some = sym (none_of text (none refl)) ∙ of_text text utf8 low

-- By blocks.
moved : (xs : List ℕ) (at k : ℕ) → is_bidi_at (take (length xs - at) (drop at xs)) k ≡ is_bidi_at xs (at + k)
moved xs at k =
    let ys : List ℕ = take (length xs - at) (drop at xs) in
    let one = λ (j : ℕ). ap (λ l. get_or l j 0) (take_rest xs at) ∙ get_or-drop at xs j 0 in
    let e1 : at + (k + 1) ≡ (at + k) + 1 = omega arith in
    let e2 : at + (k + 2) ≡ (at + k) + 2 = omega arith in
    ap (λ x. is_bidi_bytes x (get_or ys (k + 1) 0) (get_or ys (k + 2) 0)) (one k)
    ∙ ap (λ x. is_bidi_bytes (get_or xs (at + k) 0) x (get_or ys (k + 2) 0)) (one (k + 1) ∙ ap (λ j. get_or xs j 0) e1)
    ∙ ap (λ x. is_bidi_bytes (get_or xs (at + k) 0) (get_or xs ((at + k) + 1) 0) x) (one (k + 2) ∙ ap (λ j. get_or xs j 0) e2)

pub block_none : (xs : List ℕ) (at size : ℕ) → ((k : ℕ) → k < at → is_bidi_at xs k ≡ false)
    → ((k : ℕ) → k < size → is_bidi_at (take (length xs - at) (drop at xs)) k ≡ false) → (k : ℕ) → k < at + size → is_bidi_at xs k ≡ false
block_none xs at size before here k inside = elim (cases_lt k at) [
  | inl early ↦ before k early
  | inr from ↦ (let same : at + (k - at) ≡ k = omega arith in
      subst (λ j. is_bidi_at xs j ≡ false) same (sym (moved xs at (k - at)) ∙ here (k - at) (omega arith)))
]

pub block_some : (xs : List ℕ) (at : ℕ) → (k : ℕ) × IsTrue (is_bidi_at (take (length xs - at) (drop at xs)) k) → (k : ℕ) × IsTrue (is_bidi_at xs k)
block_some xs at some = (at + some.0, sym (moved xs at some.0) ∙ some.1)

-- one test more
or_none : (a b : Bool) → (a || b) ≡ false → (a ≡ false) × (b ≡ false)
or_none true b h = absurd (cc)
or_none false b h = (refl, h)

pub test_none : (xs : List ℕ) (n : ℕ) (a b : Bool) → (a || b) ≡ false → b ≡ is_bidi_at xs n → (a ≡ false → (k : ℕ) → k < n → is_bidi_at xs k ≡ false)
    → (k : ℕ) → k < n + 1 → is_bidi_at xs k ≡ false
test_none xs n a b none is before =
    let parts = or_none a b none in
    one_more (λ k. is_bidi_at xs k ≡ false) n (before parts.0) (sym is ∙ parts.1)

pub test_some : (xs : List ℕ) (n : ℕ) (a b : Bool) → IsTrue (a || b) → b ≡ is_bidi_at xs n → (IsTrue a → (k : ℕ) × IsTrue (is_bidi_at xs k))
    → (k : ℕ) × IsTrue (is_bidi_at xs k)
test_some xs n true b some is before = before refl
test_some xs n false b some is before = (n, sym is ∙ some)

-- a test that no element of a list passes, at one of them
not_found : (p : ℕ → Bool) (xs : List ℕ) (k : ℕ) → k < length xs → list_any p xs ≡ false → p (get_or xs k 0) ≡ false
not_found p xs k inside none = no_true (p (get_or xs k 0)) (λ yes. let some = list_any_at p xs k 0 inside yes in let wrong : true ≡ false = sym some ∙ none in cc)
  where
    no_true : (a : Bool) → (a ≡ true → ⊥) → a ≡ false
    no_true true never = absurd (never refl)
    no_true false never = refl

-- if no such character begins with a byte, none begins there
no_lead : (b n m v : ℕ) → n < 256 → m < 256 → v ≡ b * 0x1_0000 + n * 0x100 + m → (0xD6 ≤ b → b ≤ 0xE0 → ⊥) → (0xE2 ≤ b → b ≤ 0xE2 → ⊥) → (0xEF ≤ b → b ≤ 0xF0 → ⊥)
    → is_bidi_number v ≡ false
no_lead b n m v next after at first second third = each_range
    (out_of_range 0xD6_9000 0xE0_A3FF v (λ l h. first (omega arith) (omega arith)))
    (out_of_range 0xE2_808F 0xE2_808F v (λ l h. second (omega arith) (omega arith)))
    (out_of_range 0xE2_80AB 0xE2_80AB v (λ l h. second (omega arith) (omega arith)))
    (out_of_range 0xE2_80AE 0xE2_80AE v (λ l h. second (omega arith) (omega arith)))
    (out_of_range 0xE2_81A7 0xE2_81A7 v (λ l h. second (omega arith) (omega arith)))
    (out_of_range 0xEF_AC9D 0xEF_B7BF v (λ l h. third (omega arith) (omega arith)))
    (out_of_range 0xEF_B9B0 0xEF_BBBE v (λ l h. third (omega arith) (omega arith)))
    (out_of_range 0xF0_90A0 0xF0_90BF v (λ l h. third (omega arith) (omega arith)))
    (out_of_range 0xF0_9EA0 0xF0_9EBF v (λ l h. third (omega arith) (omega arith)))

lead_ranges : (b n m : ℕ) → n < 256 → m < 256 → is_bidi_lead b ≡ false → is_bidi_bytes b n m ≡ false
lead_ranges b n m next after none =
    let last = or_none (is_in_range 0xD6 0xE0 b || is_in_range 0xE2 0xE2 b) (is_in_range 0xEF 0xF0 b) none in
    let first = or_none (is_in_range 0xD6 0xE0 b) (is_in_range 0xE2 0xE2 b) last.0 in
    no_lead b n m (b * 0x1_0000 + n * 0x100 + m) next after refl (not_in_range 0xD6 0xE0 b first.0) (not_in_range 0xE2 0xE2 b first.1) (not_in_range 0xEF 0xF0 b last.1)

-- so none begins in bytes of which no byte is such
pub no_leads : (bytes : List ℕ) (n : ℕ) → ((k : ℕ) → get_or bytes k 0 < 256) → n ≤ length bytes → list_any is_bidi_lead (take n bytes) ≡ false
    → (k : ℕ) → k < n → is_bidi_at bytes k ≡ false
no_leads bytes n small fits none k inside =
    let at = get_or-take n bytes k 0 inside in
    let here : is_bidi_lead (get_or bytes k 0) ≡ false =
    ap is_bidi_lead (sym at) ∙ not_found (is_bidi_lead) (take n bytes) k (omega (arith, inside, length-take-le n bytes fits)) none in
    lead_ranges (get_or bytes k 0) (get_or bytes (k + 1) 0) (get_or bytes (k + 2) 0) (small (k + 1)) (small (k + 2)) here
