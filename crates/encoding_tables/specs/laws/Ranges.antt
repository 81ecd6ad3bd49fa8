-- The values of rows that are taken, by what each row was checked for.
use Rattle.std.proofs.Common.{◌≡◌, ◌≢◌, ℕ, ◌+◌, ◌-◌, ◌<◌, ◌≤◌, ◌⊎◌, inl, inr, List, [], ◌∷◌, ◌∙◌, ap, refl, arith, Option, None, Some, nat_lt, Bool, true, false, cond}
use Rattle.std.specs.Prelude.{not, ◌||◌, ◌&&◌, ◌==◌, min, max, IfSome}
use Rattle.std.specs.Char.{InScalarRange, IsScalar}
use Rattle.std.proofs.lemmas.Bool.Decides.{nat_tests}
use Rattle.std.proofs.lemmas.Bool.{cases_lt, cases_eq, lt-ltb, le-ltb, ltb-true, ltb-false, eq-eqb, ne_eqb, eqb-false, and_parts, or_cases, not-true, cases_Bool}
use Rattle.std.proofs.lemmas.Option.{cond_some}
use Rattle.encoding_tables.specs.Ranges.{is_valid_pointer, last_row, value_in, row_value, HasRowValue, end_by, is_in_row, row_pointer, range_pointer, HaveScalars}
use Rattle.encoding_tables.specs.RangeFaults.{first_out_of_order, are_scalars, above_values, above_row, first_bad_value, bad_row}
use Rattle.encoding_tables.specs.RangeLaws.{ValuesAreScalars, ValuesRise, PointersAreExact, PointersReadBack}
use Rattle.encoding_tables.specs.laws.OptionCases.{option_or_some, option_or_none, and_then_some, map_some, if_none, no_stop}

-- a scalar from `least` to below `above`
pub record IsValueBetween (least above v : ℕ) : Type 0 where
  pub from : least ≤ v
  pub below : v < above
  pub scalar : InScalarRange v

pub valid_cases : (q : ℕ) → is_valid_pointer q ≡ true → (q < 39420) ⊎ ((189000 ≤ q) × (q < 1237576))
valid_cases q e = elim (or_cases _ _ e) [
  | inl low ↦ inl (ltb-true q 39420 low)
  | inr high ↦ let parts = and_parts _ _ high in inr (ltb-false q 189000 (not-true _ parts.0), ltb-true q 1237576 parts.1)
]

pub are_scalars_parts : (least first end : ℕ) → are_scalars least first end ≡ true → (least ≤ first) × ((end ≤ 0xD800) ⊎ ((0xE000 ≤ first) × (end ≤ 0x110000)))
are_scalars_parts least first end e =
    let parts = and_parts _ _ e in (
      ltb-false first least (not-true _ parts.0),
      elim (or_cases _ _ parts.1) [
        | inl low ↦ inl (ltb-false 0xD800 end (not-true _ low))
        | inr high ↦ let both = and_parts _ _ high in inr (ltb-false first 0xE000 (not-true _ both.0), ltb-false 0x110000 end (not-true _ both.1))
      ],
    )

pub or_false : (a b : Bool) → (a || b) ≡ false → (a ≡ false) × (b ≡ false)
or_false true b e = absurd (cc)
or_false false b e = (refl, e)

-- ---- a row

pub some_pointers : (r : ℕ × ℕ) (from to least above : ℕ) → from < to → above_values r from to least ≡ Some above
    → (are_scalars least (r.1 + (from - r.0)) (r.1 + (to - r.0)) ≡ true) × (r.1 + (to - r.0) ≡ above)
some_pointers r from to least above more e = cond_some _ _ _ (rw (lt-ltb from to more) at e)

pub no_pointers : (r : ℕ × ℕ) (from to least above : ℕ) → to ≤ from → above_values r from to least ≡ Some above → least ≡ above
no_pointers r from to least above none e = let same = rw (le-ltb from to none) at e in cc

pub values_between : (r : ℕ × ℕ) (from to least above : ℕ) → r.0 ≤ from → above_values r from to least ≡ Some above
    → (q : ℕ) → from ≤ q → q < to → IsValueBetween least above (value_in q r)
values_between r from to least above start e q low high =
    let both = some_pointers r from to least above (omega arith) e in
    let parts = are_scalars_parts _ _ _ both.0 in
    let is : r.1 + (to - r.0) ≡ above = both.1 in
    let first : least ≤ r.1 + (from - r.0) = parts.0 in
    record {
      from = omega arith;
      below = omega arith;
      scalar = elim parts.1 [ inl under ↦ inl (omega arith) | inr over ↦ inr (omega arith, omega arith) ];
    }

pub values_more : (r : ℕ × ℕ) (from to least above : ℕ) → above_values r from to least ≡ Some above → least ≤ above
values_more r from to least above e = elim (cases_lt from to) [
  | inr none ↦ omega (arith, no_pointers r from to least above none e)
  | inl more ↦
      let both = some_pointers r from to least above more e in
      let parts = are_scalars_parts least (r.1 + (from - r.0)) (r.1 + (to - r.0)) both.0 in
      omega (arith, both.1, parts.0)
]

pub row_more : (r : ℕ × ℕ) (end least above : ℕ) → above_row r end least ≡ Some above → least ≤ above
row_more r end least above e =
    let mid = and_then_some (above_values r (max r.0 189000) end) (above_values r r.0 (min end 39420) least) above e in
    omega (arith, values_more r r.0 (min end 39420) least mid.0 mid.1, values_more r (max r.0 189000) end mid.0 above mid.2)

pub row_between : (r : ℕ × ℕ) (end least above : ℕ) → above_row r end least ≡ Some above
    → (q : ℕ) → is_valid_pointer q ≡ true → r.0 ≤ q → q < end → IsValueBetween least above (value_in q r)
row_between r end least above e q valid start under =
    let mid = and_then_some _ _ _ e in
    let more : mid.0 ≤ above = values_more _ _ _ _ _ mid.2 in
    let lower : least ≤ mid.0 = values_more _ _ _ _ _ mid.1 in
    elim (valid_cases q valid) [
      | inl low ↦
          let b = values_between r r.0 (min end 39420) least mid.0 (omega arith) mid.1 q start (omega arith) in
          record { from = b.from; below = omega (arith, b.below); scalar = b.scalar }
      | inr high ↦
          let b = values_between r (max r.0 189000) end mid.0 above (omega arith) mid.2 q (omega arith) under in
          record { from = omega (arith, b.from); below = b.below; scalar = b.scalar }
    ]

-- ---- rows

-- what the two passes say of the first row, and of the rows after it
pub record IsTaken (row from least : ℕ) (r : ℕ × ℕ) (rows : List (ℕ × ℕ)) (above : ℕ) : Type 0 where
  pub start : from ≤ r.0
  pub last : r.0 ≤ 1237575
  pub values : above_row r (end_by rows) least ≡ Some above
  pub order : first_out_of_order (row + 1) (r.0 + 1) rows ≡ None
  pub rest : first_bad_value (row + 1) above rows ≡ None

pub taken : (row from least : ℕ) (r : ℕ × ℕ) (rows : List (ℕ × ℕ)) → first_out_of_order row from (r ∷ rows) ≡ None → first_bad_value row least (r ∷ rows) ≡ None
    → (above : ℕ) × IsTaken row from least r rows above
taken row from least r rows order values =
    let a = if_none _ _ _ order in
    let b = no_stop (above_row r (end_by rows) least) row (λ above. first_bad_value (row + 1) above rows) values in
    let tests = or_false (nat_lt r.0 from) (nat_lt 1237575 r.0) a.0 in
    (b.0, record { start = ltb-false r.0 from tests.0; last = ltb-false 1237575 r.0 tests.1; values = b.1; order = a.1; rest = b.2 })

-- the last row of a list that a row is put before
pub row_in_prefix : (q : ℕ) (r : ℕ × ℕ) (rows : List (ℕ × ℕ)) (s : ℕ × ℕ) → last_row q (r ∷ rows) ≡ Some s
    → (last_row q rows ≡ Some s) ⊎ ((last_row q rows ≡ None) × (r.0 ≤ q) × (r ≡ s))
row_in_prefix q r rows s e = elim (option_or_some (last_row q rows) (cond (nat_lt q r.0) None (Some r)) s e) [
  | inl later ↦ inl later
  | inr here ↦ elim (cases_lt q r.0) [
    | inl above ↦ absurd (let no = rw (lt-ltb q r.0 above) at here.1 in cc)
    | inr from ↦ let is = rw (le-ltb q r.0 from) at here.1 in inr (here.0, from, cc)
  ]
]

-- a pointer without a row is before the rows
pub before_rows : (q : ℕ) (rows : List (ℕ × ℕ)) → is_valid_pointer q ≡ true → last_row q rows ≡ None → q < end_by rows
before_rows q [] valid e = elim (valid_cases q valid) [ inl low ↦ omega arith | inr high ↦ high.1 ]
before_rows q (r ∷ rows) valid e = elim (cases_lt q r.0) [
  | inl before ↦ before
  | inr from ↦ absurd (let no = rw (le-ltb q r.0 from) at (option_or_none (last_row q rows) (cond (nat_lt q r.0) None (Some r)) e).1 in cc)
]

-- and a pointer before the rows has none
no_row : (q row from : ℕ) (rows : List (ℕ × ℕ)) → first_out_of_order row from rows ≡ None → q < from → last_row q rows ≡ None
no_row q row from [] order before = refl
no_row q row from (r ∷ rows) order before =
    let a = if_none (nat_lt r.0 from || nat_lt 1237575 r.0) row (first_out_of_order (row + 1) (r.0 + 1) rows) order in
    let start : from ≤ r.0 = ltb-false r.0 from (or_false (nat_lt r.0 from) (nat_lt 1237575 r.0) a.0).0 in
    rw (no_row q (row + 1) (r.0 + 1) rows a.1 (omega arith), lt-ltb q r.0 (omega arith)) refl

below_end : (q row from : ℕ) (rows : List (ℕ × ℕ)) → first_out_of_order row from rows ≡ None → q < end_by rows → last_row q rows ≡ None
below_end q row from [] order before = refl
below_end q row from (r ∷ rows) order before =
    let a = if_none (nat_lt r.0 from || nat_lt 1237575 r.0) row (first_out_of_order (row + 1) (r.0 + 1) rows) order in
    rw (no_row q (row + 1) (r.0 + 1) rows a.1 (omega arith), lt-ltb q r.0 before) refl

-- if a pointer has no row, a lower one has none, either
no_row_left : (q s : ℕ) (rows : List (ℕ × ℕ)) → q < s → last_row s rows ≡ None → last_row q rows ≡ None
no_row_left q s [] less e = refl
no_row_left q s (r ∷ rows) less e =
    let parts = option_or_none (last_row s rows) (cond (nat_lt s r.0) None (Some r)) e in
    elim (cases_lt s r.0) [
      | inl before ↦ rw (no_row_left q s rows less parts.0, lt-ltb q r.0 (omega arith)) refl
      | inr from ↦ absurd (let no = rw (le-ltb s r.0 from) at parts.1 in cc)
    ]

-- what a row that a pointer finds gives it
pub record IsFound (least q : ℕ) (r : ℕ × ℕ) : Type 0 where
  pub from : r.0 ≤ q
  pub high : least ≤ value_in q r
  pub scalar : InScalarRange (value_in q r)

pub found : (row from least q : ℕ) (rows : List (ℕ × ℕ)) (s : ℕ × ℕ) → first_out_of_order row from rows ≡ None → first_bad_value row least rows ≡ None
    → is_valid_pointer q ≡ true → last_row q rows ≡ Some s → IsFound least q s
found row from least q [] s order values valid e = absurd (cc)
found row from least q (r ∷ rows) s order values valid e =
    let t = taken row from least r rows order values in
    elim (row_in_prefix q r rows s e) [
      | inl later ↦
          let f = found (row + 1) (r.0 + 1) t.0 q rows s t.1.order t.1.rest valid later in
          record { from = f.from; high = omega (arith, f.high, row_more r (end_by rows) least t.0 t.1.values); scalar = f.scalar }
      | inr here ↦
          let b = row_between r (end_by rows) least t.0 t.1.values q valid here.1 (before_rows q rows valid here.0) in
          rw (← here.2) (record { from = here.1; high = b.from; scalar = b.scalar })
    ]

pub rise : (row from least q p : ℕ) (rows : List (ℕ × ℕ)) (r s : ℕ × ℕ) → first_out_of_order row from rows ≡ None → first_bad_value row least rows ≡ None
    → is_valid_pointer q ≡ true → is_valid_pointer p ≡ true → q < p → last_row q rows ≡ Some r → last_row p rows ≡ Some s → value_in q r < value_in p s
rise row from least q p [] r s order values valid valid_p less e f = absurd (cc)
rise row from least q p (first ∷ rows) r s order values valid valid_p less e f =
    let t = taken row from least first rows order values in
    elim (row_in_prefix p first rows s f) [
      | inl later ↦ elim (row_in_prefix q first rows r e) [
        | inl both ↦ rise (row + 1) (first.0 + 1) t.0 q p rows r s t.1.order t.1.rest valid valid_p less both later
        | inr here ↦
            let b = row_between first (end_by rows) least t.0 t.1.values q valid here.1 (before_rows q rows valid here.0) in
            let g = found (row + 1) (first.0 + 1) t.0 p rows s t.1.order t.1.rest valid_p later in
            rw (← here.2) (omega (arith, b.below, g.high))
      ]
      | inr last ↦ elim (row_in_prefix q first rows r e) [
        | inl early ↦ absurd (let no = no_row_left q p rows less last.0 in cc)
        | inr here ↦ rw (← here.2, ← last.2) (omega (arith, here.1))
      ]
    ]

-- ---- pointers

is_in_row_parts : (r : ℕ × ℕ) (end c : ℕ) → is_in_row r end c ≡ true
    → (r.1 ≤ c) × (r.0 + (c - r.1) < end) × (is_valid_pointer (r.0 + (c - r.1)) ≡ true) × (r.0 + (c - r.1) ≢ 7457)
is_in_row_parts r end c e =
    let a = and_parts (not (nat_lt c r.1)) (nat_lt (r.0 + (c - r.1)) end && (is_valid_pointer (r.0 + (c - r.1)) && not (r.0 + (c - r.1) == 7457))) e in
    let b = and_parts (nat_lt (r.0 + (c - r.1)) end) (is_valid_pointer (r.0 + (c - r.1)) && not (r.0 + (c - r.1) == 7457)) a.1 in
    let d = and_parts (is_valid_pointer (r.0 + (c - r.1))) (not (r.0 + (c - r.1) == 7457)) b.1 in
    (ltb-false c r.1 (not-true _ a.0), ltb-true (r.0 + (c - r.1)) end b.0, d.0, eqb-false (r.0 + (c - r.1)) 7457 (not-true _ d.1))

is_in_row_from : (r : ℕ × ℕ) (end c q : ℕ) → r.0 + (c - r.1) ≡ q → r.1 ≤ c → q < end → is_valid_pointer q ≡ true → q ≢ 7457 → is_in_row r end c ≡ true
is_in_row_from r end c q same low under valid other = rw (same, le-ltb c r.1 low, lt-ltb q end under, valid, ne_eqb q 7457 other) refl

-- a value of the later rows is one of all the rows
value_behind : (q c : ℕ) (r : ℕ × ℕ) (rows : List (ℕ × ℕ)) → row_value rows q ≡ Some c → row_value (r ∷ rows) q ≡ Some c
value_behind q c r rows e =
    let s = map_some (value_in q) (last_row q rows) c e in
    rw s.1 (ap Some s.2)

-- a value of the first row, at a pointer before the later rows
value_here : (q : ℕ) (r : ℕ × ℕ) (rows : List (ℕ × ℕ)) → last_row q rows ≡ None → r.0 ≤ q → row_value (r ∷ rows) q ≡ Some (value_in q r)
value_here q r rows none from = rw (none, le-ltb q r.0 from) refl

pub pointer_gives : (row from c q : ℕ) (rows : List (ℕ × ℕ)) → first_out_of_order row from rows ≡ None → row_pointer c rows ≡ Some q → HasRowValue rows q c
pointer_gives row from c q [] order e = absurd (cc)
pointer_gives row from c q (r ∷ rows) order e =
    let a = if_none (nat_lt r.0 from || nat_lt 1237575 r.0) row (first_out_of_order (row + 1) (r.0 + 1) rows) order in
    elim (cases_Bool (is_in_row r (end_by rows) c)) [
      | inl here ↦
          let parts = is_in_row_parts r (end_by rows) c here in
          let same : r.0 + (c - r.1) ≡ q = (let is = rw here at e in cc) in
          let none : last_row q rows ≡ None = below_end q (row + 1) (r.0 + 1) rows a.1 (omega (arith, parts.1)) in
          let is : value_in q r ≡ c = omega (arith, parts.0) in
          record {
            valid = rw (← same) parts.2;
            other = λ no. parts.3 (same ∙ no);
            gives = value_here q r rows none (omega arith) ∙ ap Some is;
          }
      | inr behind ↦
          let h = pointer_gives (row + 1) (r.0 + 1) c q rows a.1 (rw behind at e) in
          record { valid = h.valid; other = h.other; gives = value_behind q c r rows h.gives }
    ]

pub pointer_found : (row from least c q : ℕ) (rows : List (ℕ × ℕ)) → first_out_of_order row from rows ≡ None → first_bad_value row least rows ≡ None
    → HasRowValue rows q c → row_pointer c rows ≡ Some q
pointer_found row from least c q [] order values h = absurd (let e = h.gives in cc)
pointer_found row from least c q (r ∷ rows) order values h =
    let t = taken row from least r rows order values in
    let s = map_some (value_in q) (last_row q (r ∷ rows)) c h.gives in
    elim (row_in_prefix q r rows s.0 s.1) [
      | inr here ↦
          let is : value_in q r ≡ c = rw here.2 s.2 in
          let low : r.1 ≤ c = omega (arith, is) in
          let same : r.0 + (c - r.1) ≡ q = omega (arith, is, here.1) in
          let inside : is_in_row r (end_by rows) c ≡ true = is_in_row_from r (end_by rows) c q same low (before_rows q rows h.valid here.0) h.valid h.other in
          rw inside (ap Some same)
      | inl behind ↦ elim (cases_Bool (is_in_row r (end_by rows) c)) [
        | inl inside ↦
            let parts = is_in_row_parts r (end_by rows) c inside in
            let b = row_between r (end_by rows) least t.0 t.1.values (r.0 + (c - r.1)) parts.2 (omega arith) parts.1 in
            let f = found (row + 1) (r.0 + 1) t.0 q rows s.0 t.1.order t.1.rest h.valid behind in
            absurd (omega (arith, b.below, f.high, s.2, parts.0))
        | inr outside ↦ rw outside (pointer_found (row + 1) (r.0 + 1) t.0 c q rows t.1.order t.1.rest (record { valid = h.valid; other = h.other; gives = rw behind (ap Some s.2) }))
      ]
    ]

-- the row that a valid pointer finds, and what it gives
pub row_is_scalar : (rows : List (ℕ × ℕ)) (q : ℕ) (r : ℕ × ℕ) → bad_row rows ≡ None → is_valid_pointer q ≡ true → last_row q rows ≡ Some r
    → (r.0 ≤ q) × InScalarRange (r.1 + (q - r.0))
row_is_scalar rows q r taken valid e =
    let passes = option_or_none (first_out_of_order 0 0 rows) (first_bad_value 0 0x80 rows) taken in
    let f = found 0 0 0x80 q rows r passes.0 passes.1 valid e in
    (f.from, f.scalar)

pub values_are_scalars : ValuesAreScalars
values_are_scalars rows taken q v valid gives =
    let passes = option_or_none (first_out_of_order 0 0 rows) (first_bad_value 0 0x80 rows) taken in
    let s = map_some (value_in q) (last_row q rows) v gives in
    let f = found 0 0 0x80 q rows s.0 passes.0 passes.1 valid s.1 in
    rw (← s.2) (f.high, f.scalar)

pub values_rise : ValuesRise
values_rise rows taken q p v w valid valid_p less gives gives_p =
    let passes = option_or_none (first_out_of_order 0 0 rows) (first_bad_value 0 0x80 rows) taken in
    let r = map_some (value_in q) (last_row q rows) v gives in
    let s = map_some (value_in p) (last_row p rows) w gives_p in
    rw (← r.2, ← s.2) (rise 0 0 0x80 q p rows r.0 s.0 passes.0 passes.1 valid valid_p less r.1 s.1)

pub pointers_are_exact : PointersAreExact
pointers_are_exact rows taken c q =
    let passes = option_or_none (first_out_of_order 0 0 rows) (first_bad_value 0 0x80 rows) taken in
    (λ e. pointer_gives 0 0 c q rows passes.0 e, λ h. pointer_found 0 0 0x80 c q rows passes.0 passes.1 h)

pub pointers_read_back : PointersReadBack
pointers_read_back rows taken c q e = elim (cases_eq c 0xE7C7) [
  | inl fixed ↦ (let is = rw (eq-eqb c 0xE7C7 fixed) at e in let q_is : 7457 ≡ q = cc in rw (← q_is, fixed) refl)
  | inr other ↦
      let passes = option_or_none (first_out_of_order 0 0 rows) (first_bad_value 0 0x80 rows) taken in
      let h = pointer_gives 0 0 c q rows passes.0 (rw (ne_eqb c 0xE7C7 other) at e) in
      rw (h.valid, ne_eqb q 7457 h.other) h.gives
]

-- ---- what a look-up returns

scalar_of_range : (v : ℕ) → InScalarRange v → IsScalar v
scalar_of_range v h = grind (arith, nat_tests)

-- the values of rows that are taken are scalars
pub have_scalars : (rows : List (ℕ × ℕ)) → bad_row rows ≡ None → HaveScalars rows
have_scalars rows taken q c e = elim (cases_Bool (is_valid_pointer q)) [
  | inr gap ↦ absurd (let no = rw gap at e in cc)
  | inl valid ↦ elim (cases_eq q 7457) [
    | inl fixed ↦
        let is = rw (valid, eq-eqb q 7457 fixed) at e in
        let same : 0xE7C7 ≡ c = cc in
        rw (← same) (scalar_of_range 0xE7C7 (inr (omega arith, omega arith)))
    | inr other ↦ scalar_of_range c (values_are_scalars rows taken q c valid (rw (valid, ne_eqb q 7457 other) at e)).1
  ]
]

if_in : (t : Bool) (p : ℕ) (o : Option ℕ) → (t ≡ true → p < 1237576) → IfSome o (λ q. q < 1237576) → IfSome (cond t (Some p) o) (λ q. q < 1237576)
if_in true p o here rest = here refl
if_in false p o here rest = rest

row_pointer-before : (c : ℕ) (rows : List (ℕ × ℕ)) → IfSome (row_pointer c rows) (λ q. q < 1237576)
row_pointer-before c [] = tt
row_pointer-before c (r ∷ rows) = if_in (is_in_row r (end_by rows) c) (r.0 + (c - r.1)) (row_pointer c rows) within (row_pointer-before c rows)
  where
    within : is_in_row r (end_by rows) c ≡ true → r.0 + (c - r.1) < 1237576
    within h =
        let parts = is_in_row_parts r (end_by rows) c h in
        elim (valid_cases (r.0 + (c - r.1)) parts.2) [ inl low ↦ omega (arith, low) | inr high ↦ high.1 ]

-- a range pointer is not above the last valid one
pub range_pointer-before : (rows : List (ℕ × ℕ)) (c : ℕ) → IfSome (range_pointer rows c) (λ q. q < 1237576)
range_pointer-before rows c = if_in (c == 0xE7C7) 7457 (row_pointer c rows) (λ _. omega arith) (row_pointer-before c rows)
