-- Which bytes a text of low characters has in UTF-8.
use Rattle.std.proofs.Common.{◌≡◌, ℕ, zero, suc, ◌+◌, ◌*◌, ◌/◌, ◌%◌, ◌<◌, ◌≤◌, inl, inr, List, [], ◌∷◌, ◌++◌, length, take, get_or, sym, ◌∙◌, ap, subst, arith, encode_utf8_all}
use Rattle.std.specs.Char.{encode_utf8}
use Rattle.std.specs.Str.{chars, IsAscii, IsUtf8}
use Rattle.std.proofs.lemmas.Bool.{cases_lt}
use Rattle.std.proofs.lemmas.List.{get_or-take, take-take}
use Rattle.std.proofs.lemmas.Str.{encode_ascii, encodes-chars, chars-IsAscii, IsUtf8-take, IsUtf8-from_ascii}
use Rattle.encoding_mem.specs.Latin1.{AllLatin1, IsLatin1Text}
use Rattle.encoding_mem.specs.LongestPrefix.{IsLongestPrefix}
use Rattle.encoding_mem.proofs.Utf8TextLemmas.{of_two, of_three, of_four}
use Rattle.encoding_mem.proofs.PrefixLemmas.{each_of_prefix}

-- What holds of each element of two lists holds of each of both together, and the other way round.
pub each_append : (P : ℕ → Type 0) (xs ys : List ℕ) → ((i : ℕ) → P (get_or xs i 0)) → ((i : ℕ) → P (get_or ys i 0)) → (i : ℕ) → P (get_or (xs ++ ys) i 0)
each_append P [] ys prefix back i = back i
each_append P (x ∷ xs) ys prefix back zero = prefix 0
each_append P (x ∷ xs) ys prefix back (suc i) = each_append P xs ys (λ j. prefix (suc j)) back i

pub each_prefix : (P : ℕ → Type 0) (xs ys : List ℕ) → P 0 → ((i : ℕ) → P (get_or (xs ++ ys) i 0)) → (i : ℕ) → P (get_or xs i 0)
each_prefix P [] ys zero_passes both i = zero_passes
each_prefix P (x ∷ xs) ys zero_passes both zero = both 0
each_prefix P (x ∷ xs) ys zero_passes both (suc i) = each_prefix P xs ys zero_passes (λ j. both (suc j)) i

pub each_back : (P : ℕ → Type 0) (xs ys : List ℕ) → ((i : ℕ) → P (get_or (xs ++ ys) i 0)) → (i : ℕ) → P (get_or ys i 0)
each_back P [] ys both i = both i
each_back P (x ∷ xs) ys both i = each_back P xs ys (λ j. both (suc j)) i

each_of_two : (P : ℕ → Type 0) (a b : ℕ) → P a → P b → P 0 → (i : ℕ) → P (get_or (a ∷ b ∷ []) i 0)
each_of_two P a b first second behind zero = first
each_of_two P a b first second behind (suc zero) = second
each_of_two P a b first second behind (suc (suc i)) = behind

each_of_one : (P : ℕ → Type 0) (a : ℕ) → P a → P 0 → (i : ℕ) → P (get_or (a ∷ []) i 0)
each_of_one P a first behind zero = first
each_of_one P a first behind (suc i) = behind

-- A character below U+0100 is written with bytes below C4.
latin1_char : (c : ℕ) → c ≤ 0xFF → (i : ℕ) → get_or (encode_utf8 c) i 0 < 0xC4
latin1_char c low = elim (cases_lt c 0x80) [
  | inl ascii ↦ rw (encode_ascii c ascii) (each_of_one (λ b. b < 0xC4) c (omega arith) (omega arith))
  | inr above ↦ rw (of_two c above (omega arith)) (each_of_two (λ b. b < 0xC4) (0xC0 + c / 0x40) (0x80 + c % 0x40) (omega arith) (omega arith) (omega arith))
]

latin1_chars : (cs : List ℕ) → AllLatin1 cs → (i : ℕ) → get_or (encode_utf8_all cs) i 0 < 0xC4
latin1_chars [] low i = omega arith
latin1_chars (c ∷ cs) low i = each_append (λ b. b < 0xC4) (encode_utf8 c) (encode_utf8_all cs) (latin1_char c (low 0)) (latin1_chars cs (λ j. low (suc j))) i

-- A character from k * 40 on begins with C0 + k or a greater byte.
lead_from : (c k : ℕ) → 1 < k → k < 0x20 → k * 0x40 ≤ c → 0xC0 + k ≤ get_or (encode_utf8 c) 0 0
lead_from c k some few from = elim (cases_lt c 0x800) [
  | inl two ↦ rw (of_two c (omega arith) two) (omega arith)
  | inr more ↦ elim (cases_lt c 0x1_0000) [
    | inl three ↦ rw (of_three c more three) (omega arith)
    | inr four ↦ rw (of_four c four) (omega arith)
  ]
]

-- so characters that are written with bytes below C0 + k are below k * 40
low_chars : (k : ℕ) → 1 < k → k < 0x20 → (cs : List ℕ) → ((i : ℕ) → get_or (encode_utf8_all cs) i 0 < 0xC0 + k) → (i : ℕ) → get_or cs i 0 < k * 0x40
low_chars k some few [] low i = omega arith
low_chars k some few (c ∷ cs) low zero = elim (cases_lt c (k * 0x40)) [
  | inl below ↦ below
  | inr from ↦
      let high = lead_from c k some few from in
      let first = each_prefix (λ b. b < 0xC0 + k) (encode_utf8 c) (encode_utf8_all cs) (omega arith) low 0 in
      absurd (omega (arith, high, first))
]
low_chars k some few (c ∷ cs) low (suc i) = low_chars k some few cs (each_back (λ b. b < 0xC0 + k) (encode_utf8 c) (encode_utf8_all cs) low) i

pub low_text : (k : ℕ) → 1 < k → k < 0x20 → (bs : List ℕ) → IsUtf8 bs → ((i : ℕ) → get_or bs i 0 < 0xC0 + k) → (i : ℕ) → get_or (chars bs) i 0 < k * 0x40
low_text k some few bs utf8 low = low_chars k some few (chars bs) (rw (encodes-chars bs utf8) low)

-- ASCII is Latin1
pub latin1_from_ascii : (bs : List ℕ) → IsAscii bs → IsLatin1Text bs
latin1_from_ascii bs low = (IsUtf8-from_ascii bs low, rw (chars-IsAscii bs low) (λ i. omega (arith, low i)))

-- Latin1 text, by its bytes.
pub latin1_from_bytes : (bs : List ℕ) → IsUtf8 bs → ((i : ℕ) → get_or bs i 0 < 0xC4) → AllLatin1 (chars bs)
latin1_from_bytes bs utf8 low i = let below = low_text 4 (omega arith) (omega arith) bs utf8 low i in omega (arith, below)

pub bytes_of_latin1 : (bs : List ℕ) → IsUtf8 bs → AllLatin1 (chars bs) → (i : ℕ) → get_or bs i 0 < 0xC4
bytes_of_latin1 bs utf8 low = rw (encodes-chars bs utf8) at (latin1_chars (chars bs) low)

not_beyond : (bs : List ℕ) (n m : ℕ) → n < m → 0xC4 ≤ get_or bs n 0 → ¬ IsLatin1Text (take m bs)
not_beyond bs n m more high text =
    let below = bytes_of_latin1 (take m bs) text.0 text.1 n in
    absurd (omega (arith, below, high, get_or-take m bs n 0 more))

-- up to the first greater byte
pub str_up_to : (bs : List ℕ) (n : ℕ) → IsUtf8 bs → n ≤ length bs → ((k : ℕ) → k < n → get_or bs k 0 < 0xC4) → (n < length bs → 0xC4 ≤ get_or bs n 0)
    → IsLongestPrefix IsLatin1Text bs n
str_up_to bs n utf8 within below ends =
    let cut : IsUtf8 (take n bs) = IsUtf8-take bs n utf8 (within, λ more _. let high = ends more in omega arith) in
    record {
      within = within;
      well_formed = (cut, latin1_from_bytes (take n bs) cut (each_of_prefix (λ b. b < 0xC4) bs n (omega arith) below));
      longest = λ m more some. not_beyond bs n m more (ends (omega arith));
    }

-- the longest UTF-8 before the first greater byte
pub bytes_up_to : (bs window : List ℕ) (low n : ℕ) → window ≡ take low bs → low ≤ length bs → length window ≡ low → ((k : ℕ) → k < low → get_or bs k 0 < 0xC4)
    → (low < length bs → 0xC4 ≤ get_or bs low 0) → IsLongestPrefix IsUtf8 window n → IsLongestPrefix IsLatin1Text bs n
bytes_up_to bs window low n is within long below ends prefix =
    let inside : n ≤ low = omega (arith, prefix.within) in
    let same : take n window ≡ take n bs = ap (take n) is ∙ take-take n low bs inside in
    let cut : IsUtf8 (take n bs) = subst IsUtf8 same prefix.well_formed in
    record {
      within = omega arith;
      well_formed = (cut, latin1_from_bytes (take n bs) cut (each_of_prefix (λ b. b < 0xC4) bs n (omega arith) (λ k early. below k (omega arith))));
      longest = λ m more some text. elim (cases_lt low m) [
        | inl beyond ↦ not_beyond bs low m beyond (ends (omega arith)) text
        | inr early ↦ prefix.longest m more (omega arith) (subst IsUtf8 (sym (ap (take m) is ∙ take-take m low bs early)) text.0)
      ];
    }

-- all of it
pub whole_latin1 : (bs : List ℕ) → IsLongestPrefix IsLatin1Text bs (length bs) → IsLatin1Text (take (length bs) bs)
whole_latin1 bs prefix = prefix.well_formed
