-- The first character of units. Surrogates with no partner. The UTF-16 of a text is well-formed, and well-formed
-- units are the UTF-16 of their text.
use Rattle.std.proofs.Common.{◌≡◌, ℕ, ◌<◌, ◌≤◌, List, [], ◌∷◌, length, get_or, drop, ◌∙◌, ap, refl, arith, map, Some, None, Option, ◌⊎◌, inl, inr, ◌≢◌, set, get_or-set_other, get_or-set_same, zero, suc, ◌+◌, take, sym, subst, ◌-◌, ◌*◌, ◌/◌, ◌%◌, true, add-zero}
use Rattle.std.specs.Option.{unwrap_or}
use Rattle.std.specs.Char.Utf16.{utf16_lossy_chars, lone_unit_char, surrogate_pair_char}
use Rattle.std.proofs.str.Utf16.{IsPair}
use Rattle.std.proofs.lemmas.Str.{utf16_chars_lone, utf16_chars_pair, utf16_chars-nil}
use Rattle.std.proofs.lemmas.Bool.{le-leb, lt-leb, lt-ltb, le-ltb, cases_lt, and_parts}
use Rattle.std.proofs.lemmas.List.{get_or-take, get_or-drop, get_or_past, ext_get_or}
use Rattle.encoding_mem.specs.Conversions.{IsUnitBoundary}
use Rattle.encoding_mem.specs.LongestPrefix.{IsLongestPrefix}
use Rattle.encoding_mem.specs.Surrogates.{IsHighSurrogate, IsLowSurrogate, IsSurrogatePair, IsLoneSurrogate, IsUtf16, IsMended}
use Rattle.encoding_mem.proofs.PrefixLemmas.{read_behind}
use Rattle.std.specs.Str.{IsAscii, all_scalars}
use Rattle.std.proofs.Math.Utf8.{scalar, scalar_cases}
use Rattle.std.specs.Prelude.{IfSome}
use Rattle.encoding_mem.specs.calls.Writing.{encode_utf16_all, len_utf16}

none : (us : List ℕ) → length us ≡ 0 → utf16_lossy_chars us ≡ []
none [] e = rw utf16_chars-nil refl
none (u ∷ us) e = absurd (omega arith)

pub no_units : (us : List ℕ) → length us ≡ 0 → utf16_lossy_chars us ≡ []
no_units us e = none us e

lone : (us : List ℕ) → 0 < length us → ¬ (IsPair (get_or us 0 0) (get_or us 1 0)) → utf16_lossy_chars us ≡ unwrap_or (lone_unit_char (get_or us 0 0)) 0xFFFD ∷ utf16_lossy_chars (drop 1 us)
lone [] h apart = absurd (omega arith)
lone (u ∷ []) h apart = ap (map (λ o. unwrap_or o 0xFFFD)) (utf16_chars_lone u [] apart)
lone (u ∷ v ∷ us) h apart = ap (map (λ o. unwrap_or o 0xFFFD)) (utf16_chars_lone u (v ∷ us) apart)

pub plain_unit : (us : List ℕ) → 0 < length us → (get_or us 0 0 < 0xD800) ⊎ (0xE000 ≤ get_or us 0 0) → utf16_lossy_chars us ≡ get_or us 0 0 ∷ utf16_lossy_chars (drop 1 us)
plain_unit us h out = lone us h (λ p. elim out [ inl low ↦ absurd (omega arith) | inr high ↦ absurd (omega arith) ]) ∙ ap (λ o. unwrap_or o 0xFFFD ∷ utf16_lossy_chars (drop 1 us)) (plain out)
  where
    plain : (get_or us 0 0 < 0xD800) ⊎ (0xE000 ≤ get_or us 0 0) → lone_unit_char (get_or us 0 0) ≡ Some (get_or us 0 0)
    plain (inl low) = rw (lt-leb 0xD800 (get_or us 0 0) low) refl
    plain (inr high) = let over : 0xD800 ≤ get_or us 0 0 = omega arith in rw (le-leb 0xD800 (get_or us 0 0) over, le-ltb (get_or us 0 0) 0xE000 high) refl

pub lone_unit : (us : List ℕ) → 0 < length us → 0xD800 ≤ get_or us 0 0 → get_or us 0 0 < 0xE000 → ¬ (IsPair (get_or us 0 0) (get_or us 1 0)) → utf16_lossy_chars us ≡ 0xFFFD ∷ utf16_lossy_chars (drop 1 us)
lone_unit us h low high apart = lone us h apart ∙ rw (le-leb 0xD800 (get_or us 0 0) low, lt-ltb (get_or us 0 0) 0xE000 high) refl

pub pair_of_units : (us : List ℕ) → 1 < length us → IsPair (get_or us 0 0) (get_or us 1 0) → utf16_lossy_chars us ≡ surrogate_pair_char (get_or us 0 0) (get_or us 1 0) ∷ utf16_lossy_chars (drop 2 us)
pair_of_units [] h p = absurd (omega arith)
pair_of_units (u ∷ []) h p = absurd (omega arith)
pair_of_units (u ∷ v ∷ us) h p = ap (map (λ o. unwrap_or o 0xFFFD)) (utf16_chars_pair u v us p)

pub no_second : (us : List ℕ) → length us ≤ 1 → get_or us 1 0 ≡ 0
no_second [] h = refl
no_second (u ∷ []) h = refl
no_second (u ∷ v ∷ us) h = absurd (omega arith)

-- Surrogates with no partner.

high_here : (us : List ℕ) (i : ℕ) → IsHighSurrogate (get_or us i 0) → i < length us
high_here us i high = elim (cases_lt i (length us)) [ inl inside ↦ inside | inr past ↦ let z = get_or_past us i 0 past in absurd (omega arith) ]

low_here : (us : List ℕ) (i : ℕ) → IsLowSurrogate (get_or us i 0) → i < length us
low_here us i low = elim (cases_lt i (length us)) [ inl inside ↦ inside | inr past ↦ let z = get_or_past us i 0 past in absurd (omega arith) ]

-- a first surrogate at the end of the prefix would be the partner of the next one, which is then no lone one
prefix_ends : (us : List ℕ) (n : ℕ) → n ≤ length us → ((i : ℕ) → i < n → ¬ IsLoneSurrogate us i) → (n < length us → IsLoneSurrogate us n)
    → (i : ℕ) → i + 1 ≡ n → ¬ IsHighSurrogate (get_or us i 0)
prefix_ends us n within none ends i last high = elim (cases_lt n (length us)) [
  | inl more ↦ elim (ends more) [
    | inl first ↦ none i (omega arith) (inl (high, λ low. let e = first.0 in let l : IsLowSurrogate (get_or us n 0) = subst (λ j. IsLowSurrogate (get_or us j 0)) last low in absurd (omega arith)))
    | inr second ↦ second.1 i last high
  ]
  | inr whole ↦ none i (omega arith) (inl (high, λ low. let here = low_here us (i + 1) low in absurd (omega arith)))
]

first_piece_well_formed : (us : List ℕ) (n : ℕ) → n ≤ length us → ((i : ℕ) → i < n → ¬ IsLoneSurrogate us i) → (n < length us → IsLoneSurrogate us n)
    → IsUtf16 (take n us)
first_piece_well_formed us n within none ends i lone = elim (cases_lt i n) [
  | inr past ↦ let z = read_behind us n i past in elim lone [ inl first ↦ absurd (omega arith) | inr second ↦ absurd (omega arith) ]
  | inl inside ↦ elim lone [
    | inl first ↦
        let high : IsHighSurrogate (get_or us i 0) = rw (get_or-take n us i 0 inside) at first.0 in
        elim (cases_lt (i + 1) n) [
          | inl more ↦ none i inside (inl (high, rw (get_or-take n us (i + 1) 0 more) at first.1))
          | inr over ↦ prefix_ends us n within none ends i (omega arith) high
        ]
    | inr second ↦
        let low : IsLowSurrogate (get_or us i 0) = rw (get_or-take n us i 0 inside) at second.0 in
        none i inside (inr (low, λ k before high. second.1 k before (rw (get_or-take n us k 0 (omega arith)) high)))
  ]
]

prefix_longest : (us : List ℕ) (n m : ℕ) → n < m → IsLoneSurrogate us n → ¬ (IsUtf16 (take m us))
prefix_longest us n m more lone well_formed = elim lone [
  | inl first ↦ well_formed n (inl (
    rw (get_or-take m us n 0 more) first.0,
    λ low. elim (cases_lt (n + 1) m) [
      | inl inside ↦ first.1 (rw (get_or-take m us (n + 1) 0 inside) at low)
      | inr past ↦ let z = read_behind us m (n + 1) past in absurd (omega arith)
    ],
  ))
  | inr second ↦ well_formed n (inr (
    rw (get_or-take m us n 0 more) second.0,
    λ k before high. second.1 k before (let inside : k < m = omega arith in rw (get_or-take m us k 0 inside) at high),
  ))
]

-- up to the first lone surrogate
pub up_to_lone : (us : List ℕ) (n : ℕ) → n ≤ length us → ((i : ℕ) → i < n → ¬ IsLoneSurrogate us i) → (n < length us → IsLoneSurrogate us n)
    → IsLongestPrefix IsUtf16 us n
up_to_lone us n within none ends = record {
  within = within;
  well_formed = first_piece_well_formed us n within none ends;
  longest = λ m more some. prefix_longest us n m more (ends (omega arith));
}

-- a unit that is no surrogate is no lone one
pub plain_not_lone : (us : List ℕ) (i : ℕ) → get_or us i 0 < 0xD800 → ¬ IsLoneSurrogate us i
plain_not_lone us i low lone = elim lone [ inl first ↦ absurd (omega arith) | inr second ↦ absurd (omega arith) ]

pub cases_high : (u : ℕ) → IsHighSurrogate u ⊎ (¬ IsHighSurrogate u)
cases_high u = elim (cases_lt u 0xD800) [
  | inl below ↦ inr (λ high. absurd (omega arith))
  | inr from ↦ elim (cases_lt u 0xDC00) [ inl within ↦ inl (omega arith, omega arith) | inr over ↦ inr (λ high. absurd (omega arith)) ]
]

pub cases_low : (u : ℕ) → IsLowSurrogate u ⊎ (¬ IsLowSurrogate u)
cases_low u = elim (cases_lt u 0xDC00) [
  | inl below ↦ inr (λ low. absurd (omega arith))
  | inr from ↦ elim (cases_lt u 0xE000) [ inl within ↦ inl (omega arith, omega arith) | inr over ↦ inr (λ low. absurd (omega arith)) ]
]

pub low_at : (us : List ℕ) (i j : ℕ) → i ≡ j → IsLowSurrogate (get_or us i 0) → IsLowSurrogate (get_or us j 0)
low_at us i j e low = subst (λ k. IsLowSurrogate (get_or us k 0)) e low

high_at : (us : List ℕ) (i j : ℕ) → i ≡ j → IsHighSurrogate (get_or us i 0) → IsHighSurrogate (get_or us j 0)
high_at us i j e high = subst (λ k. IsHighSurrogate (get_or us k 0)) e high

-- Boundaries: after one unit, after a pair, and past some units that are next.
pub behind_unit : (us : List ℕ) → ¬ IsSurrogatePair (get_or us 0 0) (get_or us 1 0) → IsUnitBoundary us 1
behind_unit us apart k next pair = let first : k ≡ 0 = omega arith in apart (high_at us k 0 first pair.0, pair.1)

pub behind_pair : (us : List ℕ) → IsLowSurrogate (get_or us 1 0) → IsUnitBoundary us 2
behind_pair us low k next pair =
    let second : k ≡ 1 = omega arith in
    let high = high_at us k 1 second pair.0 in
    absurd (omega (arith, high.1, low.0))

past_whole : (us here : List ℕ) (o n : ℕ) → here ≡ drop o us → 0 < n → IsUnitBoundary here n → IsUnitBoundary us (o + n)
past_whole us here o n at some whole k next pair =
    let last : k ≡ o + (n - 1) = omega arith in
    let one = ap (λ l. get_or l (n - 1) 0) at ∙ get_or-drop o us (n - 1) 0 in
    let other = ap (λ l. get_or l n 0) at ∙ get_or-drop o us n 0 in
    whole (n - 1) (omega arith) (subst IsHighSurrogate (sym one) (high_at us k (o + (n - 1)) last pair.0), subst IsLowSurrogate (sym other) pair.1)

pub past_ascii : (us here : List ℕ) (o n : ℕ) → here ≡ drop o us → IsAscii (take n here) → IsUnitBoundary us o → IsUnitBoundary us (o + n)
past_ascii us here o zero at low whole = subst (λ i. IsUnitBoundary us i) (sym (add-zero o)) whole
past_ascii us here o (suc n) at low whole = λ k next pair.
    let last : k ≡ o + n = omega arith in
    let high = high_at us k (o + n) last pair.0 in
    let same = ap (λ l. get_or l n 0) at ∙ get_or-drop o us n 0 in
    absurd (omega (arith, high.0, low n, get_or-take (suc n) here n 0 (omega arith), same))

one_at_least : (c : ℕ) → 0 < len_utf16 c
one_at_least c = elim (cases_lt c 0x1_0000) [
  | inl low ↦ rw (lt-ltb c 0x1_0000 low) (omega arith)
  | inr high ↦ rw (le-ltb c 0x1_0000 high) (omega arith)
]

pub past_first : (us here : List ℕ) (o n c : ℕ) → here ≡ drop o us → n ≡ len_utf16 c → IsUnitBoundary here n → IsUnitBoundary us (o + n)
past_first us here o n c at size whole = past_whole us here o n at (omega (arith, size, one_at_least c)) whole

pub past_next : (us here : List ℕ) (o : ℕ) (next : Option (ℕ × ℕ)) → here ≡ drop o us → IfSome next (λ p. p.1 ≡ len_utf16 p.0)
    → IfSome next (λ p. IsUnitBoundary here p.1) → IfSome next (λ p. IsUnitBoundary us (o + p.1))
past_next us here o None at size whole = tt
past_next us here o (Some p) at size whole = past_first us here o p.1 p.0 at size whole

before : (i : ℕ) → (i ≡ 0) ⊎ ((k : ℕ) × (k + 1 ≡ i))
before zero = inl refl
before (suc k) = inr (k, omega arith)

-- neither unit of a pair is alone
pub pair_high : (us : List ℕ) (i j : ℕ) → i + 1 ≡ j → IsHighSurrogate (get_or us i 0) → IsLowSurrogate (get_or us j 0) → ¬ IsLoneSurrogate us i
pair_high us i j next high low lone = elim lone [
  | inl first ↦ first.1 (low_at us j (i + 1) (sym next) low)
  | inr second ↦ absurd (omega arith)
]

pub pair_low : (us : List ℕ) (i j : ℕ) → i + 1 ≡ j → IsHighSurrogate (get_or us i 0) → IsLowSurrogate (get_or us j 0) → ¬ IsLoneSurrogate us j
pair_low us i j next high low lone = elim lone [
  | inl first ↦ absurd (omega arith)
  | inr second ↦ second.1 i next high
]

-- a first unit that is not alone has its partner
pub partner_of_high : (us : List ℕ) (i : ℕ) → IsHighSurrogate (get_or us i 0) → ¬ IsLoneSurrogate us i → IsLowSurrogate (get_or us (i + 1) 0)
partner_of_high us i high paired = elim (cases_low (get_or us (i + 1) 0)) [
  | inl low ↦ low
  | inr other ↦ absurd (paired (inl (high, other)))
]

-- and so has a second one
partner_of_low : (us : List ℕ) (i : ℕ) → IsLowSurrogate (get_or us i 0) → ¬ IsLoneSurrogate us i → (k : ℕ) × (k + 1 ≡ i) × IsHighSurrogate (get_or us k 0)
partner_of_low us i low paired = elim (before i) [
  | inl start ↦ absurd (paired (inr (low, λ k at _. absurd (omega arith))))
  | inr some ↦ elim (cases_high (get_or us some.0 0)) [
    | inl high ↦ (some.0, some.1, high)
    | inr other ↦ absurd (paired (inr (low, λ k at high. let same : k ≡ some.0 = omega (arith, some.1) in other (high_at us k some.0 same high))))
  ]
]

pub cases_lone : (us : List ℕ) (i : ℕ) → IsLoneSurrogate us i ⊎ (¬ IsLoneSurrogate us i)
cases_lone us i = elim (cases_high (get_or us i 0)) [
  | inl high ↦ elim (cases_low (get_or us (i + 1) 0)) [
    | inl low ↦ inr (pair_high us i (i + 1) refl high low)
    | inr other ↦ inl (inl (high, other))
  ]
  | inr not_high ↦ elim (cases_low (get_or us i 0)) [
    | inr not_low ↦ inr (λ lone. elim lone [ inl first ↦ not_high first.0 | inr second ↦ not_low second.0 ])
    | inl low ↦ elim (before i) [
      | inl start ↦ inl (inr (low, λ k at _. absurd (omega arith)))
      | inr some ↦ elim (cases_high (get_or us some.0 0)) [
        | inl high ↦ inr (pair_low us some.0 i some.1 high low)
        | inr other ↦ inl (inr (low, λ k at high. let same : k ≡ some.0 = omega (arith, some.1) in other (high_at us k some.0 same high)))
      ]
    ]
  ]
]

-- what is mended is well-formed
pub mended_utf16 : (old new : List ℕ) → IsMended old new → IsUtf16 new
mended_utf16 old new mended i lone = elim (cases_lone old i) [
  | inl alone ↦ let e = mended.lone i alone in elim lone [ inl first ↦ absurd (omega arith) | inr second ↦ absurd (omega arith) ]
  | inr paired ↦
      let e = mended.others i paired in
      elim lone [
        | inl first ↦
            let high : IsHighSurrogate (get_or old i 0) = rw e at first.0 in
            let low = partner_of_high old i high paired in
            first.1 (rw (mended.others (i + 1) (pair_low old i (i + 1) refl high low)) low)
        | inr second ↦
            let low : IsLowSurrogate (get_or old i 0) = rw e at second.0 in
            let found = partner_of_low old i low paired in
            second.1 found.0 found.1 (rw (mended.others found.0 (pair_high old found.0 i found.1 found.2 low)) found.2)
      ]
]

-- and is mended no more
pub mended_again : (old new : List ℕ) → IsUtf16 old → IsMended old new → new ≡ old
mended_again old new well_formed mended = ext_get_or 0 new old mended.same_length (λ i _. mended.others i (well_formed i))

-- The units before an offset are mended, the others are as they were.
pub record MendedBelow (old new : List ℕ) (at : ℕ) : Type 0 where
  pub lone : (i : ℕ) → i < at → IsLoneSurrogate old i → get_or new i 0 ≡ 0xFFFD
  pub others : (i : ℕ) → i < at → ¬ (IsLoneSurrogate old i) → get_or new i 0 ≡ get_or old i 0
  pub rest : (i : ℕ) → at ≤ i → get_or new i 0 ≡ get_or old i 0

-- a lone surrogate there was one before
pub was_lone : (old new : List ℕ) (at : ℕ) → MendedBelow old new at → IsLoneSurrogate new at → IsLoneSurrogate old at
was_lone old new at mended lone = elim lone [
  | inl first ↦ inl (rw (mended.rest at (omega arith)) at first.0, λ low. first.1 (rw (mended.rest (at + 1) (omega arith)) low))
  | inr second ↦
      let low : IsLowSurrogate (get_or old at 0) = rw (mended.rest at (omega arith)) at second.0 in
      inr (low, λ k next high. second.1 k next (rw (mended.others k (omega arith) (pair_high old k at next high low)) high))
]

pub still_lone : (old new : List ℕ) (at : ℕ) → MendedBelow old new at → IsLoneSurrogate old at → IsLoneSurrogate new at
still_lone old new at mended lone = elim lone [
  | inl first ↦ inl (rw (mended.rest at (omega arith)) first.0, λ low. first.1 (rw (mended.rest (at + 1) (omega arith)) at low))
  | inr second ↦ inr (
    rw (mended.rest at (omega arith)) second.0,
    λ k next high. elim (cases_lone old k) [
      | inl alone ↦ let e = mended.lone k (omega arith) alone in absurd (omega arith)
      | inr paired ↦ second.1 k next (rw (mended.others k (omega arith) paired) at high)
    ],
  )
]

pub none_mended : (us : List ℕ) (n : ℕ) → IsLongestPrefix IsUtf16 us n → MendedBelow us us n
none_mended us n prefix = record {
  lone = λ i inside alone. absurd (prefix_longest us i n inside alone prefix.well_formed);
  others = λ i inside paired. refl;
  rest = λ i behind. refl;
}

pub mend_one : (old new : List ℕ) (at : ℕ) → at < length new → MendedBelow old new at → IsLoneSurrogate new at → MendedBelow old (set new at 0xFFFD) (at + 1)
mend_one old new at within mended alone = record {
  lone = λ i inside was. elim (cases_lt i at) [
    | inl earlier ↦ let other : i ≢ at = omega arith in rw (get_or-set_other new at i 0xFFFD 0 other) (mended.lone i earlier was)
    | inr here ↦ let same : i ≡ at = omega arith in rw same (get_or-set_same new at 0xFFFD 0 within)
  ];
  others = λ i inside was. elim (cases_lt i at) [
    | inl earlier ↦ let other : i ≢ at = omega arith in rw (get_or-set_other new at i 0xFFFD 0 other) (mended.others i earlier was)
    | inr here ↦ let same : i ≡ at = omega arith in absurd (was (rw same (was_lone old new at mended alone)))
  ];
  rest = λ i behind. let other : i ≢ at = omega arith in rw (get_or-set_other new at i 0xFFFD 0 other) (mended.rest i (omega arith));
}

pub leave_one : (old new : List ℕ) (at : ℕ) → MendedBelow old new at → ¬ (IsLoneSurrogate new at) → MendedBelow old new (at + 1)
leave_one old new at mended paired = record {
  lone = λ i inside was. elim (cases_lt i at) [
    | inl earlier ↦ mended.lone i earlier was
    | inr here ↦ let same : i ≡ at = omega arith in absurd (paired (still_lone old new at mended (rw same at was)))
  ];
  others = λ i inside was. elim (cases_lt i at) [
    | inl earlier ↦ mended.others i earlier was
    | inr here ↦ mended.rest i here
  ];
  rest = λ i behind. mended.rest i (omega arith);
}

pub all_mended : (old new : List ℕ) (at : ℕ) → length new ≡ length old → length old ≤ at → MendedBelow old new at → IsMended old new
all_mended old new at same whole mended = record {
  same_length = same;
  lone = λ i was. mended.lone i (let here = lone_here old i was in omega arith) was;
  others = λ i was. elim (cases_lt i at) [ inl inside ↦ mended.others i inside was | inr behind ↦ mended.rest i behind ];
}
  where
    lone_here : (us : List ℕ) (i : ℕ) → IsLoneSurrogate us i → i < length us
    lone_here us i lone = elim lone [ inl first ↦ high_here us i first.0 | inr second ↦ low_here us i second.0 ]

-- The UTF-16 of a text is well-formed, and well-formed units are the UTF-16 of their text.

-- A unit more before them.
lone_behind : (u : ℕ) (us : List ℕ) (i : ℕ) → IsLoneSurrogate (u ∷ us) (suc i) → IsLoneSurrogate us i
lone_behind u us i lone = elim lone [
  | inl first ↦ inl (first.0, λ low. first.1 (low_at (u ∷ us) (suc (i + 1)) (suc i + 1) (omega arith) low))
  | inr second ↦ inr (second.0, λ k next high. second.1 (suc k) (omega arith) high)
]

no_high_before : (u : ℕ) (us : List ℕ) (i : ℕ) → (i ≡ 0 → ¬ IsHighSurrogate u) → ((k : ℕ) → k + 1 ≡ i → ¬ IsHighSurrogate (get_or us k 0))
    → (k : ℕ) → k + 1 ≡ suc i → ¬ IsHighSurrogate (get_or (u ∷ us) k 0)
no_high_before u us i prefix none zero next high = prefix (omega arith) high
no_high_before u us i prefix none (suc k) next high = none k (omega arith) high

lone_ahead : (u : ℕ) (us : List ℕ) (i : ℕ) → (i ≡ 0 → ¬ IsHighSurrogate u) → IsLoneSurrogate us i → IsLoneSurrogate (u ∷ us) (suc i)
lone_ahead u us i prefix lone = elim lone [
  | inl first ↦ inl (first.0, λ low. first.1 (low_at (u ∷ us) (suc i + 1) (suc (i + 1)) (omega arith) low))
  | inr second ↦ inr (second.0, no_high_before u us i prefix second.1)
]

-- From characters to units.
well_formed_plain : (u : ℕ) (us : List ℕ) → (u < 0xD800) ⊎ (0xE000 ≤ u) → IsUtf16 us → IsUtf16 (u ∷ us)
well_formed_plain u us out well_formed zero lone = elim out [
  | inl below ↦ elim lone [ inl first ↦ absurd (omega arith) | inr second ↦ absurd (omega arith) ]
  | inr above ↦ elim lone [ inl first ↦ absurd (omega arith) | inr second ↦ absurd (omega arith) ]
]
well_formed_plain u us out well_formed (suc i) lone = well_formed i (lone_behind u us i lone)

well_formed_pair : (u v : ℕ) (us : List ℕ) → IsHighSurrogate u → IsLowSurrogate v → IsUtf16 us → IsUtf16 (u ∷ v ∷ us)
well_formed_pair u v us high low well_formed zero lone = pair_high (u ∷ v ∷ us) 0 1 refl high low lone
well_formed_pair u v us high low well_formed (suc zero) lone = pair_low (u ∷ v ∷ us) 0 1 refl high low lone
well_formed_pair u v us high low well_formed (suc (suc i)) lone = well_formed i (lone_behind v us i (lone_behind u (v ∷ us) (suc i) lone))

none_of_nothing : IsUtf16 []
none_of_nothing i lone = elim lone [ inl first ↦ absurd (omega arith) | inr second ↦ absurd (omega arith) ]

pub text_is_utf16 : (t : List ℕ) → all_scalars t ≡ true → IsUtf16 (encode_utf16_all t)
text_is_utf16 [] are = none_of_nothing
text_is_utf16 (c ∷ t) are =
    let parts = and_parts (scalar c) (all_scalars t) are in
    elim (cases_lt c 0x1_0000) [
      | inl bmp ↦ rw (lt-ltb c 0x1_0000 bmp) (well_formed_plain c (encode_utf16_all t) (elim (scalar_cases c parts.0) [ inl low ↦ inl low | inr high ↦ inr high.0 ]) (text_is_utf16 t parts.1))
      | inr more ↦
          let top : c < 0x11_0000 = elim (scalar_cases c parts.0) [ inl low ↦ omega arith | inr high ↦ high.1 ] in
          rw (le-ltb c 0x1_0000 more) (well_formed_pair (0xD800 + (c - 0x1_0000) / 0x400) (0xDC00 + (c - 0x1_0000) % 0x400) (encode_utf16_all t) (omega arith, omega arith) (omega arith, omega arith) (text_is_utf16 t parts.1))
    ]

-- From units to characters.
outside : (u : ℕ) → ¬ IsHighSurrogate u → ¬ IsLowSurrogate u → (u < 0xD800) ⊎ (0xE000 ≤ u)
outside u no_high no_low = elim (cases_lt u 0xD800) [
  | inl below ↦ inl below
  | inr from ↦ elim (cases_lt u 0xDC00) [
    | inl first ↦ absurd (no_high (omega arith, omega arith))
    | inr second ↦ elim (cases_lt u 0xE000) [ inl inside ↦ absurd (no_low (omega arith, omega arith)) | inr above ↦ inr above ]
  ]
]

pair_again : (u v : ℕ) (rest : List ℕ) → IsHighSurrogate u → IsLowSurrogate v → encode_utf16_all (surrogate_pair_char u v ∷ rest) ≡ u ∷ v ∷ encode_utf16_all rest
pair_again u v rest high low =
    let c = 0x1_0000 + (u - 0xD800) * 0x400 + (v - 0xDC00) in
    let above : 0x1_0000 ≤ c = omega arith in
    let first : 0xD800 + (c - 0x1_0000) / 0x400 ≡ u = omega arith in
    let second : 0xDC00 + (c - 0x1_0000) % 0x400 ≡ v = omega arith in
    rw (le-ltb c 0x1_0000 above) (ap (λ a. a ∷ (0xDC00 + (c - 0x1_0000) % 0x400) ∷ encode_utf16_all rest) first ∙ ap (λ b. u ∷ b ∷ encode_utf16_all rest) second)

plain_again : (u : ℕ) (rest : List ℕ) → u < 0x1_0000 → encode_utf16_all (u ∷ rest) ≡ u ∷ encode_utf16_all rest
plain_again u rest small = rw (lt-ltb u 0x1_0000 small) refl

plain_then : (n u : ℕ) (us : List ℕ) → length us ≤ n → ((i : ℕ) → get_or (u ∷ us) i 0 < 0x1_0000) → IsUtf16 (u ∷ us) → ¬ IsHighSurrogate u
    → encode_utf16_all (utf16_lossy_chars us) ≡ us → encode_utf16_all (utf16_lossy_chars (u ∷ us)) ≡ u ∷ us
plain_then n u us fits small well_formed no_high rest = elim (cases_low u) [
  | inl low ↦ absurd (well_formed 0 (inr (low, λ k next _. absurd (omega arith))))
  | inr no_low ↦ ap encode_utf16_all (plain_unit (u ∷ us) (omega arith) (outside u no_high no_low)) ∙ plain_again u (utf16_lossy_chars us) (small 0) ∙ ap (λ l. u ∷ l) rest
]

pair_then : (u v : ℕ) (us : List ℕ) → IsHighSurrogate u → IsLowSurrogate v → encode_utf16_all (utf16_lossy_chars us) ≡ us
    → encode_utf16_all (utf16_lossy_chars (u ∷ v ∷ us)) ≡ u ∷ v ∷ us
pair_then u v us high low rest =
    ap encode_utf16_all (pair_of_units (u ∷ v ∷ us) (omega arith) (omega arith, omega arith, omega arith, omega arith))
    ∙ pair_again u v (utf16_lossy_chars us) high low ∙ ap (λ l. u ∷ v ∷ l) rest

units_again : (n : ℕ) (us : List ℕ) → length us ≤ n → ((i : ℕ) → get_or us i 0 < 0x1_0000) → IsUtf16 us → encode_utf16_all (utf16_lossy_chars us) ≡ us
units_again n [] fits small well_formed = ap encode_utf16_all (no_units [] refl)
units_again zero (u ∷ us) fits small well_formed = absurd (omega arith)
units_again (suc n) (u ∷ []) fits small well_formed = elim (cases_high u) [
  | inl high ↦ let low = partner_of_high (u ∷ []) 0 high (well_formed 0) in absurd (omega arith)
  | inr no_high ↦ plain_then n u [] (omega arith) small well_formed no_high (units_again n [] (omega arith) (λ i. small (suc i)) none_of_nothing)
]
units_again (suc n) (u ∷ v ∷ us) fits small well_formed = elim (cases_high u) [
  | inl high ↦
      let low : IsLowSurrogate v = partner_of_high (u ∷ v ∷ us) 0 high (well_formed 0) in
      pair_then u v us high low (units_again n us (omega arith) (λ i. small (suc (suc i)))
      (λ i lone. well_formed (suc (suc i)) (lone_ahead u (v ∷ us) (suc i) (λ e. absurd (omega arith)) (lone_ahead v us i (λ e other. absurd (omega arith)) lone))))
  | inr no_high ↦ plain_then n u (v ∷ us) (omega arith) small well_formed no_high
      (units_again n (v ∷ us) (omega arith) (λ i. small (suc i)) (λ i lone. well_formed (suc i) (lone_ahead u (v ∷ us) i (λ e. no_high) lone)))
]

pub utf16_is_text : (us : List ℕ) → ((i : ℕ) → get_or us i 0 < 0x1_0000) → IsUtf16 us → encode_utf16_all (utf16_lossy_chars us) ≡ us
utf16_is_text us small well_formed = units_again (length us) us (omega arith) small well_formed
