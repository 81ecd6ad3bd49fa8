-- The runs of rows that are taken, and what the last run at or below a value says of the pointer that has it.
use Rattle.std.proofs.Common.{◌≡◌, ◌≢◌, ℕ, ◌+◌, ◌-◌, ◌<◌, ◌≤◌, ◌^◌, inl, inr, zero, suc, List, [], ◌∷◌, length, drop, arith, refl, sym, Option, None, Some, true}
use Rattle.std.specs.Prelude.{max, min}
use Rattle.std.proofs.lemmas.Bool.{lt-ltb, le-ltb, eq-eqb, ne_eqb, cases_lt, cases_eq, cases_Bool}
use Rattle.encoding_tables.specs.laws.OptionCases.{and_then_some, option_or_none, map_some}
use Rattle.encoding_tables.specs.RangeFaults.{first_out_of_order, first_bad_value, above_values, bad_row}
use Rattle.encoding_tables.specs.laws.Ranges.{taken, IsTaken, row_in_prefix, before_rows, values_more, values_between, row_between, valid_cases, pointers_are_exact}
use Rattle.encoding_tables.specs.laws.RangeRuns.{with_low, with_high, runs_of, ArePacked}
use Rattle.encoding_tables.specs.Ranges.{is_valid_pointer, last_row, value_in, range_value, HasRowValue, end_by, range_pointer}
use Rattle.encoding_tables.specs.calls.SortedRows.{row_at, AreRising}
use Rattle.encoding_tables.proofs.SearchLemmas.{AreFrom, from_less, rising, none_from}

-- ---- the rows and the runs rise

order_from : (row from : ℕ) (rows : List (ℕ × ℕ)) → first_out_of_order row from rows ≡ None → (least : ℕ) → first_bad_value row least rows ≡ None → AreFrom from rows
order_from row from [] order least values = tt
order_from row from (r ∷ rows) order least values =
    let t = taken row from least r rows order values in
    (t.1.start, order_from (row + 1) (r.0 + 1) rows t.1.order t.0 t.1.rest)

pub rows_rise : (rows : List (ℕ × ℕ)) → bad_row rows ≡ None → AreRising rows
rows_rise rows none =
    let passes = option_or_none (first_out_of_order 0 0 rows) (first_bad_value 0 0x80 rows) none in
    rising 0 rows (order_from 0 0 rows passes.0 0x80 passes.1)

-- a row ends after its pointer
before_end : (p row : ℕ) (rows : List (ℕ × ℕ)) (least : ℕ) → p ≤ 1237575 → first_out_of_order row (p + 1) rows ≡ None → first_bad_value row least rows ≡ None → p < end_by rows
before_end p row [] least last order values = omega arith
before_end p row (r ∷ rows) least last order values = let t = taken row (p + 1) least r rows order values in omega (arith, t.1.start)

low_from : (r : ℕ × ℕ) (end least mid : ℕ) (runs : List (ℕ × ℕ)) → r.0 < end → above_values r r.0 (min end 39420) least ≡ Some mid → AreFrom mid runs → AreFrom least (with_low r runs)
low_from r end least mid runs some values from = elim (cases_lt r.0 39420) [
  | inl low ↦
      let b = values_between r r.0 (min end 39420) least mid (omega arith) values r.0 (omega arith) (omega arith) in
      let first : r.1 + (r.0 - r.0) ≡ r.1 = omega arith in
      rw (lt-ltb r.0 39420 low) (omega (arith, b.from, first), from_less (r.1 + 1) mid runs (omega (arith, b.below, first)) from)
  | inr high ↦ rw (le-ltb r.0 39420 high) (from_less least mid runs (values_more r r.0 (min end 39420) least mid values) from)
]

high_from : (r : ℕ × ℕ) (end mid above : ℕ) (runs : List (ℕ × ℕ)) → r.0 < end → above_values r (max r.0 189000) end mid ≡ Some above → AreFrom above runs → AreFrom mid (with_high r end runs)
high_from r end mid above runs some values from = elim (cases_lt 189000 end) [
  | inl high ↦
      let b = values_between r (max r.0 189000) end mid above (omega arith) values (max r.0 189000) (omega arith) (omega arith) in
      rw (lt-ltb 189000 end high) (b.from, from_less (value_in (max r.0 189000) r + 1) above runs (omega (arith, b.below)) from)
  | inr low ↦ rw (le-ltb 189000 end low) (from_less mid above runs (values_more r (max r.0 189000) end mid above values) from)
]

runs_from : (row from least : ℕ) (rows : List (ℕ × ℕ)) → first_out_of_order row from rows ≡ None → first_bad_value row least rows ≡ None → AreFrom least (runs_of rows)
runs_from row from least [] order values = tt
runs_from row from least (r ∷ rows) order values =
    let t = taken row from least r rows order values in
    let some : r.0 < end_by rows = before_end r.0 (row + 1) rows t.0 t.1.last t.1.order t.1.rest in
    let mid = and_then_some (above_values r (max r.0 189000) (end_by rows)) (above_values r r.0 (min (end_by rows) 39420) least) t.0 t.1.values in
    low_from r (end_by rows) least mid.0 (with_high r (end_by rows) (runs_of rows)) some mid.1
    (high_from r (end_by rows) mid.0 t.0 (runs_of rows) some mid.2 (runs_from (row + 1) (r.0 + 1) t.0 rows t.1.order t.1.rest))

pub runs_rise : (rows by_value : List (ℕ × ℕ)) → ArePacked rows by_value → AreRising by_value
runs_rise rows by_value packed =
    let passes = option_or_none (first_out_of_order 0 0 rows) (first_bad_value 0 0x80 rows) packed.taken in
    rw packed.runs (rising 0x80 (runs_of rows) (runs_from 0 0 0x80 rows passes.0 passes.1))

-- ---- a value's run

-- the run of a value is the one that holds its pointer
pub record IsRunOf (q c : ℕ) (runs : List (ℕ × ℕ)) (run : ℕ × ℕ) : Type 0 where
  pub last : last_row c runs ≡ Some run
  pub from : run.1 ≤ q
  pub same : run.0 + (q - run.1) ≡ c

behind_low : (c : ℕ) (r : ℕ × ℕ) (runs : List (ℕ × ℕ)) (run : ℕ × ℕ) → last_row c runs ≡ Some run → last_row c (with_low r runs) ≡ Some run
behind_low c r runs run e = elim (cases_lt r.0 39420) [
  | inl low ↦ rw (lt-ltb r.0 39420 low, e) refl
  | inr high ↦ rw (le-ltb r.0 39420 high) e
]

behind_high : (c : ℕ) (r : ℕ × ℕ) (end : ℕ) (runs : List (ℕ × ℕ)) (run : ℕ × ℕ) → last_row c runs ≡ Some run → last_row c (with_high r end runs) ≡ Some run
behind_high c r end runs run e = elim (cases_lt 189000 end) [
  | inl high ↦ rw (lt-ltb 189000 end high, e) refl
  | inr low ↦ rw (le-ltb 189000 end low) e
]

at_low : (c : ℕ) (r : ℕ × ℕ) (runs : List (ℕ × ℕ)) → r.0 < 39420 → last_row c runs ≡ None → r.1 ≤ c → last_row c (with_low r runs) ≡ Some (r.1, r.0)
at_low c r runs low none from = rw (lt-ltb r.0 39420 low, none, le-ltb c r.1 from) refl

at_high : (c : ℕ) (r : ℕ × ℕ) (end : ℕ) (runs : List (ℕ × ℕ)) → 189000 < end → last_row c runs ≡ None → value_in (max r.0 189000) r ≤ c
    → last_row c (with_high r end runs) ≡ Some (value_in (max r.0 189000) r, max r.0 189000)
at_high c r end runs high none from = rw (lt-ltb 189000 end high, none, le-ltb c (value_in (max r.0 189000) r) from) refl

-- the run of a pointer of the first row
run_here : (row from least q : ℕ) (r : ℕ × ℕ) (rows : List (ℕ × ℕ)) (above : ℕ) → IsTaken row from least r rows above → is_valid_pointer q ≡ true → r.0 ≤ q → last_row q rows ≡ None
    → (run : ℕ × ℕ) × IsRunOf q (value_in q r) (runs_of (r ∷ rows)) run
run_here row from least q r rows above t valid start none =
    let before : q < end_by rows = before_rows q rows valid none in
    let b = row_between r (end_by rows) least above t.values q valid start before in
    let rest : last_row (value_in q r) (runs_of rows) ≡ None = none_from (value_in q r) above (runs_of rows) (runs_from (row + 1) (r.0 + 1) above rows t.order t.rest) b.below in
    elim (cases_lt q 39420) [
      | inl low ↦
          let some : r.0 < end_by rows = omega arith in
          let mid = and_then_some (above_values r (max r.0 189000) (end_by rows)) (above_values r r.0 (min (end_by rows) 39420) least) above t.values in
          let inside = values_between r r.0 (min (end_by rows) 39420) least mid.0 (omega arith) mid.1 q start (omega arith) in
          let high : last_row (value_in q r) (with_high r (end_by rows) (runs_of rows)) ≡ None =
          none_from (value_in q r) mid.0 (with_high r (end_by rows) (runs_of rows))
          (high_from r (end_by rows) mid.0 above (runs_of rows) some mid.2 (runs_from (row + 1) (r.0 + 1) above rows t.order t.rest)) inside.below in
          ((r.1, r.0), record { last = at_low (value_in q r) r (with_high r (end_by rows) (runs_of rows)) (omega arith) high (omega arith); from = start; same = refl })
      | inr past ↦
          let high : 189000 ≤ q = elim (valid_cases q valid) [ inl less ↦ omega arith | inr parts ↦ parts.0 ] in (
            (value_in (max r.0 189000) r, max r.0 189000),
            record {
              last = behind_low (value_in q r) r (with_high r (end_by rows) (runs_of rows)) (value_in (max r.0 189000) r, max r.0 189000)
                  (at_high (value_in q r) r (end_by rows) (runs_of rows) (omega arith) rest (omega arith));
              from = omega arith;
              same = omega arith;
            },
          )
    ]

run_of : (row from least q : ℕ) (rows : List (ℕ × ℕ)) (s : ℕ × ℕ) → first_out_of_order row from rows ≡ None → first_bad_value row least rows ≡ None
    → is_valid_pointer q ≡ true → last_row q rows ≡ Some s → (run : ℕ × ℕ) × IsRunOf q (value_in q s) (runs_of rows) run
run_of row from least q [] s order values valid e = absurd (cc)
run_of row from least q (r ∷ rows) s order values valid e =
    let t = taken row from least r rows order values in
    elim (row_in_prefix q r rows s e) [
      | inr here ↦ rw (← here.2) (run_here row from least q r rows t.0 t.1 valid here.1 here.0)
      | inl later ↦
          let found = run_of (row + 1) (r.0 + 1) t.0 q rows s t.1.order t.1.rest valid later in (
            found.0,
            record {
              last = behind_low (value_in q s) r (with_high r (end_by rows) (runs_of rows)) found.0 (behind_high (value_in q s) r (end_by rows) (runs_of rows) found.0 found.1.last);
              from = found.1.from;
              same = found.1.same;
            },
          )
    ]

-- the pointers of runs are valid ones
abbrev AreBefore : List (ℕ × ℕ) → Type 0
AreBefore [] = Unit {0}
AreBefore (run ∷ runs) = (run.1 < 1237576) × AreBefore runs

low_before : (r : ℕ × ℕ) (runs : List (ℕ × ℕ)) → AreBefore runs → AreBefore (with_low r runs)
low_before r runs rest = elim (cases_lt r.0 39420) [
  | inl low ↦ rw (lt-ltb r.0 39420 low) (omega arith, rest)
  | inr high ↦ rw (le-ltb r.0 39420 high) rest
]

high_before : (r : ℕ × ℕ) (end : ℕ) (runs : List (ℕ × ℕ)) → r.0 ≤ 1237575 → AreBefore runs → AreBefore (with_high r end runs)
high_before r end runs last rest = elim (cases_lt 189000 end) [
  | inl high ↦ rw (lt-ltb 189000 end high) (omega arith, rest)
  | inr low ↦ rw (le-ltb 189000 end low) rest
]

runs_before : (row from least : ℕ) (rows : List (ℕ × ℕ)) → first_out_of_order row from rows ≡ None → first_bad_value row least rows ≡ None → AreBefore (runs_of rows)
runs_before row from least [] order values = tt
runs_before row from least (r ∷ rows) order values =
    let t = taken row from least r rows order values in
    low_before r (with_high r (end_by rows) (runs_of rows)) (high_before r (end_by rows) (runs_of rows) t.1.last (runs_before (row + 1) (r.0 + 1) t.0 rows t.1.order t.1.rest))

last_within : (n : ℕ) (runs : List (ℕ × ℕ)) (s : ℕ × ℕ) → AreBefore runs → last_row n runs ≡ Some s → (s.0 ≤ n) × (s.1 < 1237576)
last_within n [] s all e = absurd (cc)
last_within n (r ∷ runs) s all e = elim (row_in_prefix n r runs s e) [
  | inl later ↦ last_within n runs s all.1 later
  | inr here ↦ rw (← here.2) (here.1, all.0)
]

-- ---- the values of runs are small

first_small : (r : ℕ × ℕ) (end mid above : ℕ) → r.0 < end → 189000 < end → above_values r (max r.0 189000) end mid ≡ Some above → value_in (max r.0 189000) r < 2 ^ 32
first_small r end mid above some high values =
    let b = values_between r (max r.0 189000) end mid above (omega arith) values (max r.0 189000) (omega arith) (omega arith) in
    elim b.scalar [ inl low ↦ omega arith | inr other ↦ omega (arith, other.1) ]

each_small : (row from least : ℕ) (rows : List (ℕ × ℕ)) → first_out_of_order row from rows ≡ None → first_bad_value row least rows ≡ None
    → (k : ℕ) → k < length rows → 189000 < end_by (drop (suc k) rows) → value_in (max (row_at rows k).0 189000) (row_at rows k) < 2 ^ 32
each_small row from least [] order values k within high = absurd (omega arith)
each_small row from least (r ∷ rows) order values zero within high =
    let t = taken row from least r rows order values in
    let mid = and_then_some (above_values r (max r.0 189000) (end_by rows)) (above_values r r.0 (min (end_by rows) 39420) least) t.0 t.1.values in
    first_small r (end_by rows) mid.0 t.0 (before_end r.0 (row + 1) rows t.0 t.1.last t.1.order t.1.rest) high mid.2
each_small row from least (r ∷ rows) order values (suc k) within high =
    let t = taken row from least r rows order values in
    each_small (row + 1) (r.0 + 1) t.0 rows t.1.order t.1.rest k (omega arith) high

pub run_small : (rows : List (ℕ × ℕ)) → bad_row rows ≡ None → (k : ℕ) → k < length rows → 189000 < end_by (drop (k + 1) rows) → value_in (max (row_at rows k).0 189000) (row_at rows k) < 2 ^ 32
run_small rows none k within high =
    let passes = option_or_none (first_out_of_order 0 0 rows) (first_bad_value 0 0x80 rows) none in
    let next : k + 1 ≡ suc k = omega arith in
    each_small 0 0 0x80 rows passes.0 passes.1 k within (rw next at high)

-- ---- what a search among the runs returns

pub run_within : (rows by_value : List (ℕ × ℕ)) → ArePacked rows by_value → (c : ℕ) (run : ℕ × ℕ) → last_row c by_value ≡ Some run → (run.0 ≤ c) × (run.1 < 1237576)
run_within rows by_value packed c run e =
    let passes = option_or_none (first_out_of_order 0 0 rows) (first_bad_value 0 0x80 rows) packed.taken in
    last_within c (runs_of rows) run (runs_before 0 0 0x80 rows passes.0 passes.1) (rw packed.runs at e)

-- the pointer of a character other than U+E7C7 has it as its value, and stands in the last run at or below it
has_pointer : (rows : List (ℕ × ℕ)) → bad_row rows ≡ None → (c q : ℕ) → c ≢ 0xE7C7 → range_pointer rows c ≡ Some q → (range_value rows q ≡ Some c) × ((run : ℕ × ℕ) × IsRunOf q c (runs_of rows) run)
has_pointer rows none c q other e =
    let passes = option_or_none (first_out_of_order 0 0 rows) (first_bad_value 0 0x80 rows) none in
    let h = (pointers_are_exact rows none c q).0 (rw (ne_eqb c 0xE7C7 other) at e) in
    let s = map_some (value_in q) (last_row q rows) c h.gives in
    (rw (h.valid, ne_eqb q 7457 h.other) h.gives, rw (← s.2) (run_of 0 0 0x80 q rows s.0 passes.0 passes.1 h.valid s.1))

none_if : (o : Option ℕ) → ((q : ℕ) → o ≡ Some q → ⊥) → o ≡ None
none_if None wrong = refl
none_if (Some q) wrong = absurd (wrong q refl)

pub no_pointer : (rows by_value : List (ℕ × ℕ)) → ArePacked rows by_value → (c : ℕ) → c ≢ 0xE7C7 → last_row c by_value ≡ None → range_pointer rows c ≡ None
no_pointer rows by_value packed c other none = none_if (range_pointer rows c) (λ q e.
    let found = has_pointer rows packed.taken c q other e in
    let last = found.1.1.last in
    let none_of_runs = rw packed.runs at none in
    absurd (cc))

pub another_pointer : (rows by_value : List (ℕ × ℕ)) → ArePacked rows by_value → (c : ℕ) (run : ℕ × ℕ) → c ≢ 0xE7C7 → last_row c by_value ≡ Some run
    → range_value rows (run.1 + (c - run.0)) ≢ Some c → range_pointer rows c ≡ None
another_pointer rows by_value packed c run other e wrong = none_if (range_pointer rows c) (λ q is.
    let found = has_pointer rows packed.taken c q other is in
    let last = found.1.1.last in
    let of_runs = rw packed.runs at e in
    let same : found.1.0 ≡ run = cc in
    let in_run : run.1 ≤ q = rw same at found.1.1.from in
    let value : run.0 + (q - run.1) ≡ c = rw same at found.1.1.same in
    let offset : run.1 + (c - run.0) ≡ q = omega arith in
    wrong (rw offset found.0))

has_row_value : (rows : List (ℕ × ℕ)) (q c : ℕ) → c ≢ 0xE7C7 → range_value rows q ≡ Some c → HasRowValue rows q c
has_row_value rows q c other e = elim (cases_Bool (is_valid_pointer q)) [
  | inr gap ↦ absurd (let no = rw gap at e in cc)
  | inl valid ↦ elim (cases_eq q 7457) [
    | inl fixed ↦ absurd (let is = rw (valid, eq-eqb q 7457 fixed) at e in let same : 0xE7C7 ≡ c = cc in other (sym same))
    | inr apart ↦ record { valid = valid; other = apart; gives = rw (valid, ne_eqb q 7457 apart) at e }
  ]
]

pub one_pointer : (rows : List (ℕ × ℕ)) → bad_row rows ≡ None → (c q : ℕ) → c ≢ 0xE7C7 → range_value rows q ≡ Some c → range_pointer rows c ≡ Some q
one_pointer rows none c q other e = rw (ne_eqb c 0xE7C7 other) ((pointers_are_exact rows none c q).1 (has_row_value rows q c other e))
