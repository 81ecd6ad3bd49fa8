-- How many characters begin in some bytes of UTF-8, one by one and by vectors.
use Rattle.std.proofs.Common.{◌≡◌, ℕ, ◌+◌, ◌-◌, ◌≤◌, ◌<◌, ◌/◌, ◌%◌, ◌∙◌, true, false, cond, List, [], ◌∷◌, length, drop, take, refl, sym, ap, arith, inl, inr, length-drop, take-add}
use Rattle.std.proofs.lemmas.Bool.{cases_lt, lt-ltb, le-ltb, le-leb, lt-leb}
use Rattle.std.proofs.lemmas.List.{length-take-le, take-append-drop, take_all}
use Rattle.std.proofs.lemmas.List.Sums.{sum_by-append, sum_by-cons, count_by-le-length}
use Rattle.std.proofs.lemmas.Str.{encodes-chars}
use Rattle.std.specs.Char.{encode_utf8}
use Rattle.std.specs.List.{count_by}
use Rattle.std.specs.Prelude.{nat_le}
use Rattle.std.specs.Str.{IsUtf8, chars, encode_utf8_all}
use Rattle.encoding_mem.specs.Characters.{begins_character}

begins_low : (b : ℕ) → b < 0x80 → begins_character b ≡ true
begins_low b h = rw (lt-ltb b 0x80 h) refl

begins_lead : (b : ℕ) → 0xC0 ≤ b → begins_character b ≡ true
begins_lead b h = rw (le-ltb b 0x80 (omega arith)) (rw (le-leb 0xC0 b h) refl)

begins_none : (b : ℕ) → 0x80 ≤ b → b < 0xC0 → begins_character b ≡ false
begins_none b h k = rw (le-ltb b 0x80 h) (rw (lt-leb 0xC0 b k) refl)

one_begins : (c : ℕ) → count_by begins_character (encode_utf8 c) ≡ 1
unfolding encode_utf8
one_begins c = elim (cases_lt c 0x80) [
  | inl low ↦ rw (lt-ltb c 0x80 low) (rw (begins_low c low) refl)
  | inr high ↦ rw (le-ltb c 0x80 high) (elim (cases_lt c 0x800) [
    | inl low ↦ rw (lt-ltb c 0x800 low) (rw (begins_lead (192 + c / 64) (omega arith), begins_none (128 + c % 64) (omega arith) (omega arith)) refl)
    | inr higher ↦ rw (le-ltb c 0x800 higher) (elim (cases_lt c 0x10000) [
      | inl low ↦ rw (lt-ltb c 0x10000 low) (rw (begins_lead (224 + c / 4096) (omega arith), begins_none (128 + c / 64 % 64) (omega arith) (omega arith), begins_none (128 + c % 64) (omega arith) (omega arith)) refl)
      | inr highest ↦ rw (le-ltb c 0x10000 highest) (rw (begins_lead (240 + c / 262144) (omega arith), begins_none (128 + c / 4096 % 64) (omega arith) (omega arith), begins_none (128 + c / 64 % 64) (omega arith) (omega arith), begins_none (128 + c % 64) (omega arith) (omega arith)) refl)
    ])
  ])
]

encoded_begins : (cs : List ℕ) → count_by begins_character (encode_utf8_all cs) ≡ length cs
encoded_begins [] = refl
encoded_begins (c ∷ cs) = omega (arith, sum_by-append (λ b. cond (begins_character b) 1 0) (encode_utf8 c) (encode_utf8_all cs), one_begins c, encoded_begins cs)

pub characters_begin : (text : List ℕ) → IsUtf8 text → count_by begins_character text ≡ length (chars text)
characters_begin text u = ap (count_by begins_character) (sym (encodes-chars text u)) ∙ encoded_begins (chars text)

-- How many characters begin in some bytes, by vectors.

-- A byte that is not ASCII begins a character if it is a lead.
one_by_lead : (b : ℕ) → cond (begins_character b) 1 0 + cond (nat_le 0x80 b) 1 0 ≡ 1 + cond (nat_le 0xC0 b) 1 0
one_by_lead b = elim (cases_lt b 0x80) [
  | inl low ↦ rw (lt-ltb b 0x80 low, lt-leb 0x80 b low, lt-leb 0xC0 b (omega arith)) refl
  | inr high ↦ rw (le-ltb b 0x80 high, le-leb 0x80 b high) (omega arith)
]

pub counted_by_leads : (xs : List ℕ) → count_by begins_character xs + count_by (nat_le 0x80) xs ≡ length xs + count_by (nat_le 0xC0) xs
counted_by_leads [] = refl
counted_by_leads (b ∷ xs) = omega (arith, sum_by-cons (λ y. cond (begins_character y) 1 0) b xs, sum_by-cons (λ y. cond (nat_le 0x80 y) 1 0) b xs, sum_by-cons (λ y. cond (nat_le 0xC0 y) 1 0) b xs, one_by_lead b, counted_by_leads xs)

lead_is_other : (b : ℕ) → cond (nat_le 0xC0 b) 1 0 ≤ cond (nat_le 0x80 b) 1 0
lead_is_other b = elim (cases_lt b 0xC0) [
  | inl low ↦ rw (lt-leb 0xC0 b low) (omega arith)
  | inr high ↦ rw (le-leb 0xC0 b high, le-leb 0x80 b (omega arith)) (omega arith)
]

pub leads_are_others : (xs : List ℕ) → count_by (nat_le 0xC0) xs ≤ count_by (nat_le 0x80) xs
leads_are_others [] = omega arith
leads_are_others (b ∷ xs) = omega (arith, sum_by-cons (λ y. cond (nat_le 0x80 y) 1 0) b xs, sum_by-cons (λ y. cond (nat_le 0xC0 y) 1 0) b xs, lead_is_other b, leads_are_others xs)

-- n bytes more
pub more_counted : (xs : List ℕ) (at n : ℕ) → count_by begins_character (take (at + n) xs) ≡ count_by begins_character (take at xs) + count_by begins_character (take n (drop at xs))
more_counted xs at n = ap (count_by begins_character) (take-add at n xs) ∙ sum_by-append (λ b. cond (begins_character b) 1 0) (take at xs) (take n (drop at xs))

pub counted_few : (xs : List ℕ) (at n count more : ℕ) → at + n ≤ length xs → count ≡ count_by begins_character (take at xs) → more ≡ count_by begins_character (take n (drop at xs)) → count + more ≤ length xs
counted_few xs at n count more fits e f = omega (arith, e, f, more_counted xs at n, count_by-le-length begins_character (take (at + n) xs), length-take-le (at + n) xs)

-- with what is after an offset, as a slice of the list
pub all_counted : (xs : List ℕ) (at : ℕ) → count_by begins_character (take at xs) + count_by begins_character (take (length xs - at) (drop at xs)) ≡ count_by begins_character xs
all_counted xs at =
    ap (λ l. count_by begins_character (take at xs) + count_by begins_character l) (take_all (length xs - at) (drop at xs) (omega (arith, length-drop at xs)))
    ∙ sym (sum_by-append (λ b. cond (begins_character b) 1 0) (take at xs) (drop at xs)) ∙ ap (count_by begins_character) (take-append-drop at xs)
