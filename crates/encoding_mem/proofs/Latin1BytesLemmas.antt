-- Latin1 by which bytes stand side by side.
use Rattle.std.proofs.Common.{◌≡◌, ◌⊎◌, ℕ, zero, suc, ◌+◌, ◌-◌, ◌*◌, ◌/◌, ◌%◌, ◌<◌, ◌≤◌, inl, inr, List, [], ◌∷◌, ◌++◌, Bool, false, IsTrue, length, take, drop, get_or, refl, sym, ◌∙◌, ap, subst, arith}
use Rattle.std.specs.Char.{encode_utf8}
use Rattle.std.specs.Str.{chars, IsUtf8}
use Rattle.std.proofs.lemmas.Bool.{cases_lt}
use Rattle.std.proofs.lemmas.Bool.Decides.{nat_tests}
use Rattle.std.proofs.lemmas.List.{get_or-drop, get_or_past, take_rest, append-nil}
use Rattle.std.proofs.lemmas.Str.{IsUtf8-append, encode_ascii, chars_past_char}
use Rattle.encoding_mem.specs.Latin1.{AllLatin1, IsLatin1Text}
use Rattle.encoding_mem.specs.Latin1Bytes.{is_latin1_pair}
use Rattle.encoding_mem.proofs.DestinationLemmas.{bytes_are_scalars}
use Rattle.encoding_mem.proofs.Latin1Lemmas.{latin1_from_ascii}
use Rattle.encoding_mem.proofs.Utf8TextLemmas.{of_two}

-- No bytes.
pub none_latin1 : (text : List ℕ) → length text ≡ 0 → IsLatin1Text text
none_latin1 text none = latin1_from_ascii text (λ i. omega (arith, get_or_past text i 0 (omega (arith, none))))

-- One character more.
one_low : (c : ℕ) → c ≤ 0xFF → (k : ℕ) → get_or (c ∷ []) k 0 < 256
one_low c low zero = omega arith
one_low c low (suc k) = omega arith

one_utf8 : (c : ℕ) → c ≤ 0xFF → IsUtf8 (encode_utf8 c)
one_utf8 c low = (c ∷ [], (bytes_are_scalars (c ∷ []) (one_low c low), append-nil (encode_utf8 c)))

first_and_rest : (c : ℕ) (cs : List ℕ) → c ≤ 0xFF → AllLatin1 cs → AllLatin1 (c ∷ cs)
first_and_rest c cs low rest zero = low
first_and_rest c cs low rest (suc i) = rest i

latin1_more : (c : ℕ) (text : List ℕ) → c ≤ 0xFF → IsLatin1Text text → IsLatin1Text (encode_utf8 c ++ text)
latin1_more c text low latin1 =
    let utf8 : IsUtf8 (encode_utf8 c ++ text) = IsUtf8-append (encode_utf8 c) text (one_utf8 c low) latin1.0 in
    let is : chars (encode_utf8 c ++ text) ≡ c ∷ chars text = chars_past_char (encode_utf8 c ++ text) text c utf8 refl in
    (utf8, subst AllLatin1 (sym is) (first_and_rest c (chars text) low latin1.1))

ascii_more : (b : ℕ) (text : List ℕ) → b < 0x80 → IsLatin1Text text → IsLatin1Text (b ∷ text)
ascii_more b text low latin1 = subst (λ l. IsLatin1Text (l ++ text)) (encode_ascii b low) (latin1_more b text (omega arith) latin1)

pair_more : (b n : ℕ) (text : List ℕ) → 0xC2 ≤ b → b ≤ 0xC3 → 0x80 ≤ n → n ≤ 0xBF → IsLatin1Text text → IsLatin1Text (b ∷ n ∷ text)
pair_more b n text from to low high latin1 =
    let c : ℕ = (b - 0xC0) * 0x40 + (n - 0x80) in
    let first : 0xC0 + c / 0x40 ≡ b = omega arith in
    let second : 0x80 + c % 0x40 ≡ n = omega arith in
    let is : encode_utf8 c ≡ b ∷ n ∷ [] = of_two c (omega arith) (omega arith) ∙ ap (λ x. x ∷ (0x80 + c % 0x40) ∷ []) first ∙ ap (λ x. b ∷ x ∷ []) second in
    subst (λ l. IsLatin1Text (l ++ text)) is (latin1_more c text (omega arith) latin1)

-- What stands side by side.
not_before : (b n : ℕ) → b < 0xC0 → 0x80 ≤ n → n < 0xC0 → is_latin1_pair b n ≡ false
not_before b n low from to = grind (arith, nat_tests)

too_low : (b n : ℕ) → 0xC0 ≤ b → b < 0xC2 → is_latin1_pair b n ≡ false
too_low b n from low = grind (arith, nat_tests)

too_high : (b n : ℕ) → 0xC3 < b → is_latin1_pair b n ≡ false
too_high b n high = grind (arith, nat_tests)

not_behind_low : (b n : ℕ) → 0xC0 ≤ b → n < 0x80 → is_latin1_pair b n ≡ false
not_behind_low b n from low = grind (arith, nat_tests)

not_behind_high : (b n : ℕ) → 0xC0 ≤ b → 0xC0 ≤ n → is_latin1_pair b n ≡ false
not_behind_high b n from high = grind (arith, nat_tests)

pub next_head : (b n : ℕ) → IsTrue (is_latin1_pair b n) → b < 0xC0 → (n < 0x80) ⊎ (0xC0 ≤ n)
next_head b n pair low = elim (cases_lt n 0x80) [
  | inl ascii ↦ inl ascii
  | inr from ↦ elim (cases_lt n 0xC0) [
    | inl within ↦ (let no = not_before b n low from within in absurd (cc (pair, no)))
    | inr above ↦ inr above
  ]
]

lead_of : (b n : ℕ) → IsTrue (is_latin1_pair b n) → 0xC0 ≤ b → (0xC2 ≤ b) × (b ≤ 0xC3) × (0x80 ≤ n) × (n ≤ 0xBF)
lead_of b n pair from = elim (cases_lt b 0xC2) [
  | inl low ↦ (let no = too_low b n from low in absurd (cc (pair, no)))
  | inr lead ↦ elim (cases_lt 0xC3 b) [
    | inl high ↦ (let no = too_high b n high in absurd (cc (pair, no)))
    | inr to ↦ elim (cases_lt n 0x80) [
      | inl low ↦ (let no = not_behind_low b n from low in absurd (cc (pair, no)))
      | inr above ↦ elim (cases_lt n 0xC0) [
        | inl within ↦ (lead, to, above, omega arith)
        | inr over ↦ (let no = not_behind_high b n from over in absurd (cc (pair, no)))
      ]
    ]
  ]
]

abbrev pub Pairs : List ℕ → Type 0
Pairs bs = (k : ℕ) → k < length bs → IsTrue (is_latin1_pair (get_or bs k 0) (get_or bs (k + 1) 0))

tail_pairs : (b : ℕ) (bs : List ℕ) → Pairs (b ∷ bs) → Pairs bs
tail_pairs b bs pairs k less =
    let e : suc k + 1 ≡ suc (k + 1) = omega arith in
    subst (λ j. IsTrue (is_latin1_pair (get_or bs k 0) (get_or (b ∷ bs) j 0))) e (pairs (suc k) (omega arith))

-- A text of Latin1, if each byte and the next stand so, and the first continues none.
pub text_of_pairs : (bs : List ℕ) → Pairs bs → (get_or bs 0 0 < 0x80) ⊎ (0xC0 ≤ get_or bs 0 0) → IsLatin1Text bs
text_of_pairs [] pairs head = latin1_from_ascii [] (λ i. omega arith)
text_of_pairs (b ∷ []) pairs head = elim head [
  | inl ascii ↦ ascii_more b [] ascii (latin1_from_ascii [] (λ i. omega arith))
  | inr lead ↦ (let l = lead_of b 0 (pairs 0 (omega arith)) lead in absurd (omega (arith, l.2)))
]
text_of_pairs (b ∷ n ∷ bs) pairs head = elim head [
  | inl ascii ↦ ascii_more b (n ∷ bs) ascii (text_of_pairs (n ∷ bs) (tail_pairs b (n ∷ bs) pairs) (next_head b n (pairs 0 (omega arith)) (omega arith)))
  | inr lead ↦ (let l = lead_of b n (pairs 0 (omega arith)) lead in
      let more = tail_pairs b (n ∷ bs) pairs in
      pair_more b n bs l.0 l.1 l.2 l.3 (text_of_pairs bs (tail_pairs n bs more) (next_head n (get_or bs 0 0) (more 0 (omega arith)) (omega (arith, l.3)))))
]

-- By blocks: of what each element and the next pass.
pub next_block : (p : ℕ → ℕ → Bool) (xs : List ℕ) (at size : ℕ) → ((k : ℕ) → k < at → IsTrue (p (get_or xs k 0) (get_or xs (k + 1) 0)))
    → ((k : ℕ) → k < size → IsTrue (p (get_or (take (length xs - at) (drop at xs)) k 0) (get_or (take (length xs - at) (drop at xs)) (k + 1) 0)))
    → (k : ℕ) → k < at + size → IsTrue (p (get_or xs k 0) (get_or xs (k + 1) 0))
next_block p xs at size before here k inside = elim (cases_lt k at) [
  | inl early ↦ before k early
  | inr from ↦
      let ys : List ℕ = take (length xs - at) (drop at xs) in
      let is : get_or ys (k - at) 0 ≡ get_or xs k 0 = ap (λ l. get_or l (k - at) 0) (take_rest xs at) ∙ get_or-drop at xs (k - at) 0 ∙ ap (λ j. get_or xs j 0) {x = at + (k - at)} {y = k} (omega arith) in
      let next : get_or ys ((k - at) + 1) 0 ≡ get_or xs (k + 1) 0 =
      ap (λ l. get_or l ((k - at) + 1) 0) (take_rest xs at) ∙ get_or-drop at xs ((k - at) + 1) 0 ∙ ap (λ j. get_or xs j 0) {x = at + ((k - at) + 1)} {y = k + 1} (omega arith) in
      subst (λ v. IsTrue (p v (get_or xs (k + 1) 0))) is (subst (λ v. IsTrue (p (get_or ys (k - at) 0) v)) next (here (k - at) (omega arith)))
]

pub one_more : (P : ℕ → Type 0) (n : ℕ) → ((k : ℕ) → k < n → P k) → P n → (k : ℕ) → k < n + 1 → P k
one_more P n before here k inside = elim (cases_lt k n) [
  | inl early ↦ before k early
  | inr from ↦ (let same : n ≡ k = omega arith in subst P same here)
]

-- after the last stands nothing
pub whole_pairs : (xs : List ℕ) (last : ℕ) → length xs ≡ last + 1 → ((k : ℕ) → k < last → IsTrue (is_latin1_pair (get_or xs k 0) (get_or xs (k + 1) 0)))
    → IsTrue (is_latin1_pair (get_or xs last 0) 0) → Pairs xs
whole_pairs xs last size before end k less =
    let past : get_or xs (last + 1) 0 ≡ 0 = get_or_past xs (last + 1) 0 (omega arith) in
    one_more (λ j. IsTrue (is_latin1_pair (get_or xs j 0) (get_or xs (j + 1) 0))) last before (subst (λ v. IsTrue (is_latin1_pair (get_or xs last 0) v)) (sym past) end) k (omega arith)
