-- The two passes find the row that is named.
use Rattle.std.proofs.Common.{◌≡◌, ℕ, ◌+◌, ◌-◌, ◌<◌, ◌≤◌, ◌⊎◌, inl, inr, zero, suc, List, [], ◌∷◌, sym, ◌∙◌, refl, arith, Option, None, Some, nat_lt, true, false}
use Rattle.std.specs.Prelude.{not, ◌||◌, ◌&&◌, min, max, MatchOption}
use Rattle.std.specs.Char.{InScalarRange}
use Rattle.std.specs.Option.{option_or}
use Rattle.std.proofs.lemmas.Bool.{cases_lt, lt-ltb, le-ltb, ltb-true, ltb-false, or_cases, and_cases, not-false, cases_Bool}
use Rattle.encoding_tables.specs.Ranges.{is_valid_pointer, end_by}
use Rattle.encoding_tables.specs.RangeFaults.{first_out_of_order, are_scalars, above_values, above_row, first_bad_value}
use Rattle.encoding_tables.specs.NamedRows.{IsOutOfOrder, IsValue, Gives, IsScalarFrom, IsReached, HasBadValue, IsLeastWith, IsNamed, NamesAreExact}
use Rattle.encoding_tables.specs.laws.OptionCases.{and_then_some, if_none, if_some_none, and_then_none, no_stop}
use Rattle.encoding_tables.specs.laws.Ranges.{or_false, row_between, row_more, some_pointers, no_pointers}

valid_low : (q : ℕ) → q < 39420 → is_valid_pointer q ≡ true
valid_low q low = rw (lt-ltb q 39420 low) refl

valid_high : (q : ℕ) → 189000 ≤ q → q < 1237576 → is_valid_pointer q ≡ true
valid_high q from below = rw (le-ltb q 39420 (omega arith), le-ltb q 189000 from, lt-ltb q 1237576 below) refl

-- ---- order

-- where rows in order begin
ends : (row from : ℕ) (rows : List (ℕ × ℕ)) → first_out_of_order row from rows ≡ None → end_by rows ≤ 1237576
ends row from [] e = omega arith
ends row from (r ∷ rows) e =
    let a = if_none (nat_lt r.0 from || nat_lt 1237575 r.0) row (first_out_of_order (row + 1) (r.0 + 1) rows) e in
    omega (arith, ltb-false 1237575 r.0 (or_false (nat_lt r.0 from) (nat_lt 1237575 r.0) a.0).1)

order_none : (row from : ℕ) (rows : List (ℕ × ℕ)) → first_out_of_order row from rows ≡ None → (k : ℕ) → ¬ (IsOutOfOrder from rows k)
order_none row from [] e k h = h
order_none row from (r ∷ rows) e zero h =
    let a = if_none (nat_lt r.0 from || nat_lt 1237575 r.0) row (first_out_of_order (row + 1) (r.0 + 1) rows) e in
    let t = or_false (nat_lt r.0 from) (nat_lt 1237575 r.0) a.0 in
    elim h [ inl low ↦ omega (arith, ltb-false r.0 from t.0) | inr high ↦ omega (arith, ltb-false 1237575 r.0 t.1) ]
order_none row from (r ∷ rows) e (suc k) h =
    let a = if_none (nat_lt r.0 from || nat_lt 1237575 r.0) row (first_out_of_order (row + 1) (r.0 + 1) rows) e in
    order_none (row + 1) (r.0 + 1) rows a.1 k h

order_some : (row from n : ℕ) (rows : List (ℕ × ℕ)) → first_out_of_order row from rows ≡ Some n → (k : ℕ) × (row + k ≡ n) × IsLeastWith (IsOutOfOrder from rows) k
order_some row from n [] e = absurd (cc)
order_some row from n (r ∷ rows) e = elim (cases_Bool (nat_lt r.0 from || nat_lt 1237575 r.0)) [
  | inl out ↦
      let is = rw out at e in
      let same : row ≡ n = cc in (
        zero,
        omega arith,
        (
          elim (or_cases (nat_lt r.0 from) (nat_lt 1237575 r.0) out) [ inl low ↦ inl (ltb-true r.0 from low) | inr high ↦ inr (ltb-true 1237575 r.0 high) ],
          λ j less. absurd (omega arith),
        ),
      )
  | inr inside ↦
      let h = order_some (row + 1) (r.0 + 1) n rows (rw inside at e) in
      let t = or_false (nat_lt r.0 from) (nat_lt 1237575 r.0) inside in
      (suc h.0, omega (arith, h.1), (h.2.0, fits_before from r rows h.0 (ltb-false r.0 from t.0) (ltb-false 1237575 r.0 t.1) h.2.1))
]
  where
    fits_before : (from : ℕ) (r : ℕ × ℕ) (rows : List (ℕ × ℕ)) (k : ℕ) → from ≤ r.0 → r.0 ≤ 1237575 → ((j : ℕ) → j < k → ¬ (IsOutOfOrder (r.0 + 1) rows j))
        → (j : ℕ) → j < suc k → ¬ (IsOutOfOrder from (r ∷ rows) j)
    fits_before from r rows k low high rest zero less h = elim h [ inl a ↦ omega arith | inr b ↦ omega arith ]
    fits_before from r rows k low high rest (suc j) less h = rest j (omega arith) h

-- ---- values

well_formed_head : (least above : ℕ) (r : ℕ × ℕ) (rows : List (ℕ × ℕ)) → above_row r (end_by rows) least ≡ Some above → ¬ (HasBadValue least (r ∷ rows) zero)
well_formed_head least above r rows e h =
    let g : IsValue r (end_by rows) h.pointer h.value = h.gives in
    let b = row_between r (end_by rows) least above e h.pointer g.valid g.from g.before in
    elim h.bad [
      | inl malformed ↦ malformed (rw (← g.value) (record { high = b.from; scalar = b.scalar }))
      | inr reached ↦ let no : reached.row < zero = reached.earlier in omega arith
    ]

-- a bad value after the first row
behind : (least above k : ℕ) (r : ℕ × ℕ) (rows : List (ℕ × ℕ)) → above_row r (end_by rows) least ≡ Some above → HasBadValue least (r ∷ rows) (suc k) → HasBadValue above rows k
behind least above k r rows e h = record {
  pointer = h.pointer;
  value = h.value;
  gives = h.gives;
  bad = elim h.bad [
    | inl malformed ↦ inl (λ s. malformed (record { high = omega (arith, s.high, row_more r (end_by rows) least above e); scalar = s.scalar }))
    | inr reached ↦ reach reached.row reached.pointer reached.value reached.earlier reached.gives reached.above
  ];
}
  where
    reach : (row q w : ℕ) → row < suc k → Gives (r ∷ rows) row q w → h.value ≤ w → (¬ (IsScalarFrom above h.value)) ⊎ IsReached rows k h.value
    reach zero q w less gives over =
        let b = row_between r (end_by rows) least above e q gives.valid gives.from gives.before in
        inl (λ s. omega (arith, s.high, b.below, gives.value))
    reach (suc row) q w less gives over = inr (record { row = row; pointer = q; value = w; earlier = omega arith; gives = gives; above = over })

-- what the check of a part of a row says
values_cases : (r : ℕ × ℕ) (from to least above : ℕ) → above_values r from to least ≡ Some above → (above ≡ least) ⊎ ((from < to) × (above ≡ r.1 + (to - r.0)))
values_cases r from to least above e = elim (cases_lt from to) [
  | inl more ↦ inr (more, sym (some_pointers r from to least above more e).1)
  | inr none ↦ inl (sym (no_pointers r from to least above none e))
]

values_refused : (r : ℕ × ℕ) (from to least : ℕ) → above_values r from to least ≡ None → (from < to) × (are_scalars least (r.1 + (from - r.0)) (r.1 + (to - r.0)) ≡ false)
values_refused r from to least e = elim (cases_lt from to) [
  | inl more ↦ (more, if_some_none (are_scalars least (r.1 + (from - r.0)) (r.1 + (to - r.0))) (r.1 + (to - r.0)) (rw (lt-ltb from to more) at e))
  | inr none ↦ absurd (let no = rw (le-ltb from to none) at e in cc)
]

-- the highest value of a row
top : (r : ℕ × ℕ) (end least above : ℕ) → end ≤ 1237576 → above_row r end least ≡ Some above → (above ≡ least) ⊎ ((q : ℕ) × IsValue r end q (above - 1))
top r end least above low e =
    let mid = and_then_some (above_values r (max r.0 189000) end) (above_values r r.0 (min end 39420) least) above e in
    elim (values_cases r (max r.0 189000) end mid.0 above mid.2) [
      | inr high ↦
          let from : max r.0 189000 < end = high.0 in
          let is : above ≡ r.1 + (end - r.0) = high.1 in
          inr (end - 1, record { valid = valid_high (end - 1) (omega arith) (omega arith); from = omega arith; before = omega arith; value = omega arith })
      | inl same ↦ elim (values_cases r r.0 (min end 39420) least mid.0 mid.1) [
        | inl again ↦ inl (same ∙ again)
        | inr below ↦
            let from : r.0 < min end 39420 = below.0 in
            let is : above ≡ r.1 + (min end 39420 - r.0) = same ∙ below.1 in
            inr (min end 39420 - 1, record { valid = valid_low (min end 39420 - 1) (omega arith); from = omega arith; before = omega arith; value = omega arith })
      ]
    ]

in_prefix : (least above k : ℕ) (r : ℕ × ℕ) (rows : List (ℕ × ℕ)) → end_by rows ≤ 1237576 → above_row r (end_by rows) least ≡ Some above → HasBadValue above rows k → HasBadValue least (r ∷ rows) (suc k)
in_prefix least above k r rows low e h = record {
  pointer = h.pointer;
  value = h.value;
  gives = h.gives;
  bad = elim h.bad [
    | inr reached ↦ inr (record { row = suc reached.row; pointer = reached.pointer; value = reached.value; earlier = omega (arith, reached.earlier); gives = reached.gives; above = reached.above })
    | inl malformed ↦ elim (cases_lt h.value least) [
      | inl under ↦ inl (λ s. omega (arith, s.high))
      | inr from ↦ elim (cases_lt h.value above) [
        | inr over ↦ inl (λ s. malformed (record { high = over; scalar = s.scalar }))
        | inl below ↦ elim (top r (end_by rows) least above low e) [
          | inl same ↦ inl (λ s. omega arith)
          | inr found ↦ inr (record { row = zero; pointer = found.0; value = above - 1; earlier = omega arith; gives = found.1; above = omega arith })
        ]
      ]
    ]
  ];
}

-- numbers that are no scalars from `least`
bad_number : (least first end : ℕ) → first < end → are_scalars least first end ≡ false → (v : ℕ) × (first ≤ v) × (v < end) × ((v < least) ⊎ (¬ (InScalarRange v)))
bad_number least first end more e = elim (and_cases (not (nat_lt first least)) (not (nat_lt 0xD800 end) || (not (nat_lt first 0xE000) && not (nat_lt 0x110000 end))) e) [
  | inl low ↦ (first, omega arith, more, inl (ltb-true first least (not-false (nat_lt first least) low)))
  | inr other ↦
      let parts = or_false (not (nat_lt 0xD800 end)) (not (nat_lt first 0xE000) && not (nat_lt 0x110000 end)) other in
      let over : 0xD800 < end = ltb-true 0xD800 end (not-false (nat_lt 0xD800 end) parts.0) in
      elim (and_cases (not (nat_lt first 0xE000)) (not (nat_lt 0x110000 end)) parts.1) [
        | inl a ↦
            let under : first < 0xE000 = ltb-true first 0xE000 (not-false (nat_lt first 0xE000) a) in
            (max first 0xD800, omega arith, omega arith, inr (λ s. elim s [ inl x ↦ omega (arith, x) | inr y ↦ omega (arith, y.0) ]))
        | inr b ↦
            let past : 0x110000 < end = ltb-true 0x110000 end (not-false (nat_lt 0x110000 end) b) in
            (end - 1, omega arith, omega arith, inr (λ s. elim s [ inl x ↦ omega (arith, x) | inr y ↦ omega (arith, y.1) ]))
      ]
]

malformed_head : (least : ℕ) (r : ℕ × ℕ) (rows : List (ℕ × ℕ)) → end_by rows ≤ 1237576 → above_row r (end_by rows) least ≡ None → HasBadValue least (r ∷ rows) zero
malformed_head least r rows low e = elim (and_then_none (above_values r (max r.0 189000) (end_by rows)) (above_values r r.0 (min (end_by rows) 39420) least) e) [
  | inl first ↦
      let t = values_refused r r.0 (min (end_by rows) 39420) least first in
      let more : r.0 < min (end_by rows) 39420 = t.0 in
      let b = bad_number least (r.1 + (r.0 - r.0)) (r.1 + (min (end_by rows) 39420 - r.0)) (omega arith) t.1 in
      let from : r.1 + (r.0 - r.0) ≤ b.0 = b.1 in
      let before : b.0 < r.1 + (min (end_by rows) 39420 - r.0) = b.2 in
      record {
        pointer = r.0 + (b.0 - r.1);
        value = b.0;
        gives = record { valid = valid_low (r.0 + (b.0 - r.1)) (omega arith); from = omega arith; before = omega arith; value = omega arith };
        bad = inl (λ s. elim b.3 [ inl under ↦ omega (arith, s.high) | inr wrong ↦ wrong s.scalar ]);
      }
  | inr second ↦
      let t = values_refused r (max r.0 189000) (end_by rows) second.0 second.2 in
      let more : max r.0 189000 < end_by rows = t.0 in
      let b = bad_number second.0 (r.1 + (max r.0 189000 - r.0)) (r.1 + (end_by rows - r.0)) (omega arith) t.1 in
      let from : r.1 + (max r.0 189000 - r.0) ≤ b.0 = b.1 in
      let before : b.0 < r.1 + (end_by rows - r.0) = b.2 in
      record {
        pointer = r.0 + (b.0 - r.1);
        value = b.0;
        gives = record { valid = valid_high (r.0 + (b.0 - r.1)) (omega arith) (omega arith); from = omega arith; before = omega arith; value = omega arith };
        bad = inl (λ s. elim b.3 [
          | inr wrong ↦ wrong s.scalar
          | inl under ↦ elim (values_cases r r.0 (min (end_by rows) 39420) least second.0 second.1) [
            | inl same ↦ omega (arith, s.high)
            | inr part ↦ omega (arith, part.0, part.1)
          ]
        ]);
      }
]

values_none : (row least : ℕ) (rows : List (ℕ × ℕ)) → first_bad_value row least rows ≡ None → (k : ℕ) → ¬ (HasBadValue least rows k)
values_none row least [] e k h = h.gives
values_none row least (r ∷ rows) e zero h =
    let b = no_stop (above_row r (end_by rows) least) row (λ above. first_bad_value (row + 1) above rows) e in
    well_formed_head least b.0 r rows b.1 h
values_none row least (r ∷ rows) e (suc k) h =
    let b = no_stop (above_row r (end_by rows) least) row (λ above. first_bad_value (row + 1) above rows) e in
    values_none (row + 1) b.0 rows b.2 k (behind least b.0 k r rows b.1 h)

well_formed_before : (least above k : ℕ) (r : ℕ × ℕ) (rows : List (ℕ × ℕ)) → above_row r (end_by rows) least ≡ Some above → ((j : ℕ) → j < k → ¬ (HasBadValue above rows j))
    → (j : ℕ) → j < suc k → ¬ (HasBadValue least (r ∷ rows) j)
well_formed_before least above k r rows e rest zero less h = well_formed_head least above r rows e h
well_formed_before least above k r rows e rest (suc j) less h = rest j (omega arith) (behind least above j r rows e h)

values_some : (row from least n : ℕ) (rows : List (ℕ × ℕ)) → first_out_of_order row from rows ≡ None → first_bad_value row least rows ≡ Some n → (k : ℕ) × (row + k ≡ n) × IsLeastWith (HasBadValue least rows) k
values_some row from least n [] order e = absurd (cc)
values_some row from least n (r ∷ rows) order e =
    let a = if_none (nat_lt r.0 from || nat_lt 1237575 r.0) row (first_out_of_order (row + 1) (r.0 + 1) rows) order in
    go (ends (row + 1) (r.0 + 1) rows a.1) (λ above. values_some (row + 1) (r.0 + 1) above n rows a.1) (above_row r (end_by rows) least) refl e
  where
    go : end_by rows ≤ 1237576 → ((above : ℕ) → first_bad_value (row + 1) above rows ≡ Some n → (k : ℕ) × (row + 1 + k ≡ n) × IsLeastWith (HasBadValue above rows) k)
        → (o : Option ℕ) → above_row r (end_by rows) least ≡ o → elim o as (λ _. Option ℕ) [ None ↦ Some row | Some above ↦ first_bad_value (row + 1) above rows ] ≡ Some n
        → (k : ℕ) × (row + k ≡ n) × IsLeastWith (HasBadValue least (r ∷ rows)) k
    go low again None is f = let same : row ≡ n = cc in (zero, omega arith, (malformed_head least r rows low is, λ j less. absurd (omega arith)))
    go low again (Some above) is f =
        let h = again above f in
        (suc h.0, omega (arith, h.1), (in_prefix least above h.0 r rows low is h.2.0, well_formed_before least above h.0 r rows is h.2.1))

pub names_are_exact : NamesAreExact
names_are_exact rows = go (first_out_of_order 0 0 rows) refl
  where
    values : first_out_of_order 0 0 rows ≡ None → (o : Option ℕ) → first_bad_value 0 0x80 rows ≡ o → MatchOption o ((k : ℕ) → ¬ (IsNamed rows k)) (IsNamed rows)
    values fits None e = λ k named. elim named [ inl out ↦ order_none 0 0 rows fits k out.0 | inr malformed ↦ values_none 0 0x80 rows e k malformed.1.0 ]
    values fits (Some n) e = let h = values_some 0 0 0x80 n rows fits e in let same : h.0 ≡ n = omega (arith, h.1) in rw (← same) (inr (order_none 0 0 rows fits, h.2))

    go : (o : Option ℕ) → first_out_of_order 0 0 rows ≡ o → MatchOption (option_or o (first_bad_value 0 0x80 rows)) ((k : ℕ) → ¬ (IsNamed rows k)) (IsNamed rows)
    go None e = values e (first_bad_value 0 0x80 rows) refl
    go (Some n) e = let h = order_some 0 0 n rows e in let same : h.0 ≡ n = omega (arith, h.1) in rw (← same) (inl h.2)
