-- The bytes of a character, by its size. Prefixes of bytes that are text. What UTF-8 makes of a text: its own
-- bytes.
use Rattle.std.proofs.Common.{◌≡◌, ℕ, ◌+◌, ◌/◌, ◌%◌, ◌<◌, ◌≤◌, [], ◌∷◌, refl, arith, suc, ◌-◌, inl, inr, List, ◌++◌, length, take, drop, sym, ◌∙◌, ap, subst, append_assoc, length-drop, encode_utf8_all}
use Rattle.std.proofs.lemmas.Bool.{lt-ltb, le-ltb, cases_lt}
use Rattle.std.specs.Char.{encode_utf8, len_utf8}
use Rattle.std.specs.Str.{chars, IsAscii, IsUtf8, IsCharBoundary}
use Rattle.std.proofs.Math.Seq.{take-add}
use Rattle.std.proofs.lemmas.List.{append_cancel_left, append_cancel_right, take-append-drop, take-take, take_at, append-nil, get_or-take, length-take-le}
use Rattle.std.proofs.lemmas.Str.{chars-append, chars-nil, chars-IsAscii, chars_past_char, length-encode, IsUtf8-take, IsUtf8-drop, IsCharBoundary-from_take, IsCharBoundary-from_rest, IsCharBoundary-past_char, len_utf8_bounds, utf8_valid_len_le}
use Rattle.std.specs.Str.Lossy.{utf8_valid_len}
use Rattle.encoding_mem.specs.Conversions.{IsLongest, text_in_utf16, text_prefix}
use Rattle.encoding_mem.specs.calls.Writing.{Adds, len_utf16, encode_utf16_all}
use Rattle.encoding_mem.specs.laws.Writing.{adds_none, adds_encoded16}
use Rattle.encoding_mem.proofs.LongestPrefixLemmas.{over16}

pub of_two : (c : ℕ) → 0x80 ≤ c → c < 0x800 → encode_utf8 c ≡ (0xc0 + c / 0x40) ∷ (0x80 + c % 0x40) ∷ []
unfolding encode_utf8
of_two c low high = rw (le-ltb c 0x80 low, lt-ltb c 0x800 high) refl

pub of_three : (c : ℕ) → 0x800 ≤ c → c < 0x1_0000 → encode_utf8 c ≡ (0xe0 + c / 0x1000) ∷ (0x80 + c / 0x40 % 0x40) ∷ (0x80 + c % 0x40) ∷ []
unfolding encode_utf8
of_three c low high = let lower : 0x80 ≤ c = omega arith in rw (le-ltb c 0x80 lower, le-ltb c 0x800 low, lt-ltb c 0x1_0000 high) refl

pub of_four : (c : ℕ) → 0x1_0000 ≤ c → encode_utf8 c ≡ (0xf0 + c / 0x4_0000) ∷ (0x80 + c / 0x1000 % 0x40) ∷ (0x80 + c / 0x40 % 0x40) ∷ (0x80 + c % 0x40) ∷ []
unfolding encode_utf8
of_four c low = let lower : 0x80 ≤ c = omega arith in let lower2 : 0x800 ≤ c = omega arith in rw (le-ltb c 0x80 lower, le-ltb c 0x800 lower2, le-ltb c 0x1_0000 low) refl

-- Prefixes of bytes that are text.

pub chars_at : (text : List ℕ) (n : ℕ) → IsUtf8 text → IsCharBoundary text n → chars text ≡ chars (take n text) ++ chars (drop n text)
chars_at text n utf8 b = ap chars (sym (take-append-drop n text)) ∙ chars-append (take n text) (drop n text) (IsUtf8-take text n utf8 b)

-- one character further
pub chars_step : (text : List ℕ) (n m c d : ℕ) (rest : List ℕ) → IsUtf8 text → IsCharBoundary text n → IsCharBoundary text m
    → chars (drop n text) ≡ c ∷ rest → chars (drop n text) ≡ d ∷ chars (drop m text) → chars (take m text) ≡ chars (take n text) ++ (c ∷ [])
chars_step text n m c d rest utf8 b e at next =
    let same : d ≡ c = (let h : d ∷ chars (drop m text) ≡ c ∷ rest = sym next ∙ at in cc) in
    let all : chars (take m text) ++ chars (drop m text) ≡ (chars (take n text) ++ (c ∷ [])) ++ chars (drop m text) =
    sym (chars_at text m utf8 e) ∙ chars_at text n utf8 b ∙ ap (λ l. chars (take n text) ++ l) (next ∙ ap (λ x. x ∷ chars (drop m text)) same)
    ∙ sym (append_assoc (chars (take n text)) (c ∷ []) (chars (drop m text))) in
    append_cancel_right (chars (take m text)) (chars (take n text) ++ (c ∷ [])) (chars (drop m text)) all

-- A part further, of what follows the prefix.
pub part_boundary : (text rest : List ℕ) (i n : ℕ) → IsCharBoundary text i → rest ≡ drop i text → IsCharBoundary rest n → IsCharBoundary text (i + n)
part_boundary text rest i n b at d = IsCharBoundary-from_rest text i n b.0 (subst (λ r. IsCharBoundary r n) at d)

pub chars_part : (text rest : List ℕ) (i n : ℕ) → IsUtf8 text → IsCharBoundary text i → rest ≡ drop i text → chars (take (i + n) text) ≡ chars (take i text) ++ chars (take n rest)
chars_part text rest i n utf8 b at =
    ap chars (take-add i n text ∙ ap (λ l. take i text ++ take n l) (sym at)) ∙ chars-append (take i text) (take n rest) (IsUtf8-take text i utf8 b)

-- the first character alone
pub first_alone : (rest more : List ℕ) (c n : ℕ) → IsUtf8 rest → rest ≡ encode_utf8 c ++ more → n ≡ len_utf8 c → IsCharBoundary rest n → chars (take n rest) ≡ c ∷ []
first_alone rest more c n utf8 is len b =
    let prefix : take n rest ≡ encode_utf8 c ++ [] = ap (take n) is ∙ take_at (encode_utf8 c) more n (length-encode c ∙ sym len) ∙ sym (append-nil (encode_utf8 c)) in
    chars_past_char (take n rest) [] c (IsUtf8-take rest n utf8 b) prefix ∙ ap (λ l. c ∷ l) chars-nil

-- a run of ASCII is its own units
pub in_utf16 : (run : List ℕ) → IsAscii run → encode_utf16_all run ≡ run
in_utf16 [] low = refl
in_utf16 (b ∷ run) low = let small : b < 0x1_0000 = omega (arith, low 0) in rw (lt-ltb b 0x1_0000 small) (ap (λ l. b ∷ l) (in_utf16 run (λ k. low (suc k))))

pub ascii_in_utf16 : (run : List ℕ) → IsAscii run → text_in_utf16 run ≡ run
ascii_in_utf16 run low = ap encode_utf16_all (chars-IsAscii run low) ∙ in_utf16 run low

-- what is written of a text in UTF-16: nothing yet, and a part further
pub adds_start : (text old : List ℕ) (count : ℕ) → count ≤ length old → Adds old count (text_in_utf16 (take 0 text)) old count
adds_start text old count within = subst (λ cs. Adds old count (encode_utf16_all cs) old count) (sym chars-nil) (adds_none old count within)

pub adds_part : (text rest old : List ℕ) (count : ℕ) (mid : List ℕ) (m : ℕ) (new : List ℕ) (k i n : ℕ) → IsUtf8 text → IsCharBoundary text i → rest ≡ drop i text
    → Adds old count (text_in_utf16 (take i text)) mid m → Adds mid m (text_in_utf16 (take n rest)) new k → Adds old count (text_in_utf16 (take (i + n) text)) new k
adds_part text rest old count mid m new k i n utf8 b at h j =
    subst (λ cs. Adds old count (encode_utf16_all cs) new k) (sym (chars_part text rest i n utf8 b at))
    (adds_encoded16 old count (chars (take i text)) (chars (take n rest)) mid m new k h j)

-- and all of it, if nothing is left
pub all_read : (text rest : List ℕ) (i : ℕ) → IsUtf8 text → IsCharBoundary text i → rest ≡ drop i text → chars rest ≡ [] → chars (take i text) ≡ chars text
all_read text rest i utf8 b at none =
    sym (append-nil (chars (take i text))) ∙ ap (λ l. chars (take i text) ++ l) (sym none ∙ ap chars at) ∙ sym (chars_at text i utf8 b)

-- the last offset between characters in four bytes or more is after the first character or later
pub some_cut : (text : List ℕ) (n most : ℕ) → IsUtf8 text → 0 < length text → 4 ≤ most → ((i : ℕ) → n < i → i ≤ most → ¬ (IsCharBoundary text i)) → 0 < n
some_cut text n most utf8 some wide nearest = of_list utf8.0 utf8.1.1
  where
    of_list : (cs : List ℕ) → encode_utf8_all cs ≡ text → 0 < n
    of_list [] is = let l : 0 ≡ length text = ap length is in absurd (omega arith)
    of_list (c ∷ cs) is = elim (cases_lt 0 n) [
      | inl more ↦ more
      | inr none ↦
          let size = len_utf8_bounds c in
          let next = IsCharBoundary-past_char text (encode_utf8_all cs) 0 c (omega arith) utf8 (sym is) in
          absurd (nearest (0 + len_utf8 c) (omega (arith, size.0)) (omega (arith, size.1)) next)
    ]

-- text begins with a character
begins : (text : List ℕ) → IsUtf8 text → 0 < length text → (c : ℕ) × (more : List ℕ) × (chars text ≡ c ∷ chars more)
begins text utf8 some = of_list utf8.0 utf8.1.1
  where
    of_list : (cs : List ℕ) → encode_utf8_all cs ≡ text → (c : ℕ) × (more : List ℕ) × (chars text ≡ c ∷ chars more)
    of_list [] is = let l : 0 ≡ length text = ap length is in absurd (omega arith)
    of_list (c ∷ cs) is = (c, encode_utf8_all cs, chars_past_char text (encode_utf8_all cs) c utf8 (sym is))

boundary_in : (text : List ℕ) (n i : ℕ) → n < i → i ≤ length text → IsCharBoundary text n → IsCharBoundary (take i text) n
boundary_in text n i more le b =
    let at = get_or-take i text n 0 more in
    let size = length-take-le i text le in
    (omega arith, λ h high. let r = b.1 (omega arith) (omega arith) in omega arith)

-- a longer text goes on with the next character
pub longer : (text : List ℕ) (n i : ℕ) → IsUtf8 text → n < i → i ≤ length text → IsCharBoundary text n → IsUtf8 (take i text)
    → (c : ℕ) × (more : List ℕ) × (rest : List ℕ) × (chars (take i text) ≡ chars (take n text) ++ (c ∷ more)) × (chars (drop n text) ≡ c ∷ rest)
longer text n i utf8 more le b whole =
    let part : List ℕ = drop n (take i text) in
    let inner = boundary_in text n i more le b in
    let len : 0 < length part = omega (arith, length-drop n (take i text), length-take-le i text le) in
    let f = begins part (IsUtf8-drop (take i text) n whole inner) len in
    let first_piece_is : chars (take i text) ≡ chars (take n text) ++ chars part =
    chars_at (take i text) n whole inner ∙ ap (λ l. chars l ++ chars part) (take-take n i text (omega arith)) in
    let all : chars (take n text) ++ chars (drop n text) ≡ chars (take n text) ++ (chars part ++ chars (drop i text)) =
    sym (chars_at text n utf8 b) ∙ chars_at text i utf8 (IsCharBoundary-from_take text i utf8 le whole) ∙ ap (λ l. l ++ chars (drop i text)) first_piece_is
    ∙ append_assoc (chars (take n text)) (chars part) (chars (drop i text)) in
    let behind = append_cancel_left (chars (take n text)) (chars (drop n text)) (chars part ++ chars (drop i text)) all in
    (f.0, chars f.1, chars f.1 ++ chars (drop i text), first_piece_is ∙ ap (λ l. chars (take n text) ++ l) f.2, behind ∙ ap (λ l. l ++ chars (drop i text)) f.2)

pub text_over : (text : List ℕ) (n room c : ℕ) (rest : List ℕ) → IsUtf8 text → IsCharBoundary text n → chars (drop n text) ≡ c ∷ rest
    → room < length (text_in_utf16 (take n text)) + len_utf16 c
    → (i : ℕ) → n < i → i ≤ length text → IsUtf8 (take i text) → room < length (text_in_utf16 (take i text))
text_over text n room c rest utf8 b at tight i more le whole =
    let r = longer text n i utf8 more le b whole in
    let same : r.0 ≡ c = (let h : r.0 ∷ r.2 ≡ c ∷ rest = sym r.4 ∙ at in cc) in
    subst (λ l. room < length (encode_utf16_all l)) (sym r.3) (over16 (chars (take n text)) r.1 r.0 room (subst (λ x. room < length (text_in_utf16 (take n text)) + len_utf16 x) (sym same) tight))

-- the longest text whose units fit, in bytes of which it is the longest prefix that is text
pub fits_longest : (src text : List ℕ) (n room : ℕ) → text ≡ text_prefix src → ((i : ℕ) → utf8_valid_len src < i → i ≤ length src → ¬ (IsUtf8 (take i src)))
    → IsUtf8 text → IsCharBoundary text n → length (text_in_utf16 (take n text)) ≤ room
    → ((c : ℕ) (rest : List ℕ) → chars (drop n text) ≡ c ∷ rest → room - length (text_in_utf16 (take n text)) < len_utf16 c)
    → IsLongest (λ i. IsUtf8 (take i src)) (λ i. length (text_in_utf16 (take i src))) (length src) room n
fits_longest src text n room is longest utf8 b fits next =
    let v = utf8_valid_len_le src in
    let len : length text ≡ utf8_valid_len src = ap length is ∙ length-take-le (utf8_valid_len src) src v in
    let within = b.0 in
    let prefix : (i : ℕ) → i ≤ utf8_valid_len src → take i text ≡ take i src = λ i h. ap (take i) is ∙ take-take i (utf8_valid_len src) src h in
    let same = prefix n (omega arith) in
    record {
      within = omega arith;
      whole = subst IsUtf8 same (IsUtf8-take text n utf8 b);
      fits = subst (λ l. length (text_in_utf16 l) ≤ room) same fits;
      longest = λ i more le whole. elim (cases_lt (utf8_valid_len src) i) [
        | inl past ↦ absurd (longest i past le whole)
        | inr here ↦ (let at = prefix i here in
            let some : 0 < length (drop n text) = omega (arith, length-drop n text) in
            let f = begins (drop n text) (IsUtf8-drop text n utf8 b) some in
            subst (λ l. room < length (text_in_utf16 l)) at (text_over text n room f.0 (chars f.1) utf8 b f.2 (let t = next f.0 (chars f.1) f.2 in omega arith) i more (omega arith) (subst IsUtf8 (sym at) whole)))
      ];
    }
