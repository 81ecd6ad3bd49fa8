-- The first fault of the list that rows stand for, by the rows.
use Rattle.std.proofs.Common.{◌≡◌, ◌≢◌, ℕ, ◌+◌, ◌-◌, ◌<◌, ◌≤◌, Bool, true, false, cond, List, length, get_or, inl, inr, refl, ◌∙◌, ap, arith, Option, None, Some, drop, length-drop, length-take}
use Rattle.std.specs.Prelude.{not, ◌==◌, slice_range, min}
use Rattle.std.specs.List.{position}
use Rattle.std.specs.Option.{option_map, option_or}
use Rattle.std.proofs.lemmas.Bool.{cases_lt, cases_eq, lt-ltb, le-ltb, eq-eqb, ne_eqb}
use Rattle.std.proofs.lemmas.List.Edits.{get_or-between}
use Rattle.std.proofs.lemmas.List.Sums.{position_or_len_is}
use Rattle.encoding_tables.specs.calls.SortedRows.{row_at}
use Rattle.encoding_tables.specs.PackedRows.{flat_list, packed_entry, PointersRise, PointersAreBelow}
use Rattle.encoding_tables.specs.Kinds.{index_size}
use Rattle.encoding_tables.specs.TableFaults.{first_bad_entry, reserved_fault, first_reserved, flat_fault, entry_fault}
use Rattle.encoding_tables.specs.declared.table_fault.TableFault.{TableFault}
use Rattle.encoding_tables.specs.declared.table_fault.TableFault.TheVariants.{Present, Size, Entry, Memory, Reserved}
use Rattle.encoding_tables.specs.declared.index_kind.IndexKind.TheVariants.{Jis0208}
use Rattle.encoding_tables.specs.declared.index_kind.IndexKind.{IndexKind}
use Rattle.encoding_tables.proofs.RowLemmas.{length-flat_list, entry_within, entry_past, entry_at_row, row_of_entry, pointers_far}

pub position_is : (test : ℕ → Bool) (xs : List ℕ) (p : ℕ) → p < length xs → test (get_or xs p 0) ≡ true → ((q : ℕ) → q < p → test (get_or xs q 0) ≡ false) → position test xs ≡ Some p
position_is test xs p within here before =
    let offset = position_or_len_is test xs p 0 (omega arith) before (λ _. here) in
    rw (offset, lt-ltb p (length xs) within) refl

pub position_none : (test : ℕ → Bool) (xs : List ℕ) → ((q : ℕ) → q < length xs → test (get_or xs q 0) ≡ false) → position test xs ≡ None
position_none test xs fails =
    let offset = position_or_len_is test xs (length xs) 0 (omega arith) fails (λ less. absurd (omega arith)) in
    rw (offset, le-ltb (length xs) (length xs) (omega arith)) refl

-- the entry at a row's pointer
entry_of : (size : ℕ) (rows : List (ℕ × ℕ)) (k : ℕ) → PointersRise rows → PointersAreBelow size rows → k < length rows → get_or (flat_list size rows) (row_at rows k).0 0 ≡ (row_at rows k).1
entry_of size rows k rise below within =
    entry_within size rows (row_at rows k).0 (below k within)
    ∙ entry_at_row (row_at rows k).0 rows k within refl (λ j less same. omega (arith, pointers_far rows rise j k less within))

-- a test that 0 fails, and the entries of the rows before a pointer, fails before it
fails_before : (test : ℕ → Bool) (size : ℕ) (rows : List (ℕ × ℕ)) (q : ℕ) → test 0 ≡ false → ((k : ℕ) → k < length rows → (row_at rows k).0 ≡ q → test (row_at rows k).1 ≡ false)
    → test (get_or (flat_list size rows) q 0) ≡ false
fails_before test size rows q zero fails = elim (cases_lt q size) [
  | inr past ↦ rw (entry_past size rows q past) zero
  | inl within ↦ elim (cases_eq (packed_entry rows q) 0) [
    | inl none ↦ rw (entry_within size rows q within, none) zero
    | inr some ↦
        let row = row_of_entry q rows some in
        let same : (row_at rows row.0).1 ≡ packed_entry rows q = ap (λ r. r.1) row.2 in
        rw (entry_within size rows q within, ← same) (fails row.0 row.1 (ap (λ r. r.0) row.2))
  ]
]

pub first_row : (test : ℕ → Bool) (size : ℕ) (rows : List (ℕ × ℕ)) (k : ℕ) → PointersRise rows → PointersAreBelow size rows → test 0 ≡ false → k < length rows
    → test (row_at rows k).1 ≡ true → ((j : ℕ) → j < k → test (row_at rows j).1 ≡ false) → position test (flat_list size rows) ≡ Some (row_at rows k).0
first_row test size rows k rise below zero within here before =
    position_is test (flat_list size rows) (row_at rows k).0 (omega (arith, below k within, length-flat_list size rows)) (rw (entry_of size rows k rise below within) here)
    (λ q less. fails_before test size rows q zero (λ j in_rows is. elim (cases_lt j k) [
      | inl early ↦ before j early
      | inr late ↦ absurd (elim (cases_eq j k) [
        | inl same ↦ omega (arith, is, less, ap (λ i. (row_at rows i).0) same)
        | inr apart ↦ omega (arith, is, less, pointers_far rows rise k j (omega arith) in_rows)
      ])
    ]))

pub no_row : (test : ℕ → Bool) (size : ℕ) (rows : List (ℕ × ℕ)) → test 0 ≡ false → ((j : ℕ) → j < length rows → test (row_at rows j).1 ≡ false) → position test (flat_list size rows) ≡ None
no_row test size rows zero fails = position_none test (flat_list size rows) (λ q within. fails_before test size rows q zero (λ j in_rows is. fails j in_rows))

-- ---- the reserved pointers

part_entry : (flat : List ℕ) (k : ℕ) → k < 1880 → get_or (slice_range flat 8836 10716) k 0 ≡ get_or flat (8836 + k) 0
part_entry flat k few = get_or-between flat 8836 10716 k 0 (omega arith)

part_length : (flat : List ℕ) → length (slice_range flat 8836 10716) ≡ min 1880 (length flat - 8836)
part_length flat = length-take 1880 (drop 8836 flat) ∙ ap (λ n. min 1880 n) (length-drop 8836 flat)

-- what is not among the rows is 0
mapped_nowhere : (size : ℕ) (rows : List (ℕ × ℕ)) (q : ℕ) → ((k : ℕ) → k < length rows → (row_at rows k).0 ≡ q → (row_at rows k).1 ≡ 0) → not (get_or (flat_list size rows) q 0 == 0) ≡ false
mapped_nowhere size rows q none = fails_before (λ v. not (v == 0)) size rows q refl (λ k within is. rw (none k within is) refl)

pub reserved_row : (size : ℕ) (rows : List (ℕ × ℕ)) (k : ℕ) → PointersRise rows → PointersAreBelow size rows → k < length rows → (row_at rows k).1 ≢ 0 → 8836 ≤ (row_at rows k).0 → (row_at rows k).0 < 10716
    → ((j : ℕ) → j < k → (row_at rows j).1 ≢ 0 → 8836 ≤ (row_at rows j).0 → 10716 ≤ (row_at rows j).0) → first_reserved (flat_list size rows) ≡ Some (row_at rows k).0
reserved_row size rows k rise below within some low high before =
    let flat = flat_list size rows in
    let offset = (row_at rows k).0 - 8836 in
    let back : 8836 + offset ≡ (row_at rows k).0 = omega arith in
    let here : not (get_or (slice_range flat 8836 10716) offset 0 == 0) ≡ true =
    rw (part_entry flat offset (omega arith), back, entry_of size rows k rise below within, ne_eqb (row_at rows k).1 0 some) refl in
    let found = position_is (λ v. not (v == 0)) (slice_range flat 8836 10716) offset (omega (arith, part_length flat, length-flat_list size rows, below k within)) here
    (λ q less. rw (part_entry flat q (omega arith)) (mapped_nowhere size rows (8836 + q) (λ j in_rows is. elim (cases_eq (row_at rows j).1 0) [
      | inl none ↦ none
      | inr mapped ↦ absurd (elim (cases_lt j k) [
        | inl early ↦ omega (arith, before j early mapped (omega (arith, is)), is, less)
        | inr late ↦ elim (cases_eq j k) [
          | inl same ↦ omega (arith, is, less, ap (λ i. (row_at rows i).0) same)
          | inr apart ↦ omega (arith, is, less, pointers_far rows rise k j (omega arith) in_rows)
        ]
      ])
    ]))) in
    ap (option_map (λ n. 8836 + n)) found ∙ ap Some back

pub no_reserved_row : (size : ℕ) (rows : List (ℕ × ℕ)) → ((j : ℕ) → j < length rows → (row_at rows j).1 ≢ 0 → 8836 ≤ (row_at rows j).0 → 10716 ≤ (row_at rows j).0) → first_reserved (flat_list size rows) ≡ None
no_reserved_row size rows none =
    let flat = flat_list size rows in
    ap (option_map (λ n. 8836 + n)) (position_none (λ v. not (v == 0)) (slice_range flat 8836 10716) (λ q within.
    let few : q < 1880 = omega (arith, part_length flat) in
    rw (part_entry flat q few) (mapped_nowhere size rows (8836 + q) (λ j in_rows is. elim (cases_eq (row_at rows j).1 0) [
      | inl nothing ↦ nothing
      | inr mapped ↦ absurd (omega (arith, none j in_rows mapped (omega (arith, is)), is, few))
    ]))))

-- ---- a fault

-- the size of the list is the kind's
pub fault_of_flat_list : (kind : IndexKind) (rows : List (ℕ × ℕ)) → flat_fault false kind (flat_list (index_size kind) rows) ≡ entry_fault kind (flat_list (index_size kind) rows)
fault_of_flat_list kind rows = rw (eq-eqb (length (flat_list (index_size kind) rows)) (index_size kind) (length-flat_list (index_size kind) rows)) refl

-- ---- memory is no fault of a list

-- a fault, if there is one, is another than `Memory`
abbrev IsOther : Option TableFault → Type 0
IsOther o = o ≢ Some Memory

of_entry : (o : Option ℕ) → IsOther (option_map Entry o)
of_entry None = λ e. absurd (cc)
of_entry (Some p) = λ e. absurd (cc)

of_reserved : (o : Option ℕ) → IsOther (option_map Reserved o)
of_reserved None = λ e. absurd (cc)
of_reserved (Some p) = λ e. absurd (cc)

of_either : (t : Bool) (a b : Option TableFault) → IsOther a → IsOther b → IsOther (cond t a b)
of_either true a b h k = h
of_either false a b h k = k

of_first : (a b : Option TableFault) → IsOther a → IsOther b → IsOther (option_or a b)
of_first None b h k = k
of_first (Some f) b h k = h

of_kind : (kind : IndexKind) (flat : List ℕ) → IsOther (reserved_fault kind flat)
of_kind Jis0208 flat = of_reserved (first_reserved flat)
of_kind _ flat = λ e. absurd (cc)

pub memory_is_no_fault : (there : Bool) (kind : IndexKind) (flat : List ℕ) → flat_fault there kind flat ≢ Some Memory
memory_is_no_fault there kind flat =
    of_either there (Some Present) _ (λ e. absurd (cc)) (
    of_either (not (length flat == index_size kind)) (Some Size) _ (λ e. absurd (cc)) (
    of_first (option_map Entry (first_bad_entry kind flat)) _ (of_entry (first_bad_entry kind flat))
    (of_kind kind flat)))
