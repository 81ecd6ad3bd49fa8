-- The entries of the list that rows stand for. The mapped rows of a list, and of rows: they are in order, and stand
-- for the same list. Rows the other way round, sorted: they rise, and are the same rows. The least and the greatest
-- pointer with an entry, by the pairs of an entry and its pointer.
use Rattle.std.proofs.Common.{◌≡◌, ◌≢◌, ℕ, zero, suc, ◌+◌, ◌-◌, ◌<◌, ◌≤◌, List, [], ◌∷◌, length, get_or, inl, inr, refl, sym, ◌∙◌, ap, arith, None, Some, map, ◌==◌, Option, subst, take, drop, length-drop}
use Rattle.std.specs.Prelude.{slice_range, slice_index, if◌then◌else◌, MatchOption, not, true}
use Rattle.std.specs.List.{list_all}
use Rattle.std.proofs.Math.ListN.{get_or-eq_default}
use Rattle.std.proofs.lemmas.Bool.{and_parts, cases_lt, cases_eq, eq-eqb, ne_eqb}
use Rattle.std.proofs.lemmas.List.{get_or_default, get_or-map, length-map, get_or-take, get_or-drop, length-take-le}
use Rattle.std.proofs.lemmas.List.FromFn.{get_or-map-range_with_len, length-map-range_with_len, fill_by_all}
use Rattle.encoding_tables.specs.Lookups.{value_of, first_pointer, last_pointer}
use Rattle.encoding_tables.specs.calls.SortedRows.{row_at, AreRising, IsRank, IsBelow, AreSorted, IsSpan}
use Rattle.encoding_tables.specs.PackedRows.{packed_entry, flat_list, PointersRise, listed_rows, mapped_rows, PointersAreBelow, swapped}
use Rattle.encoding_tables.specs.calls.PackedLists.{HasRow, IsSecond, AreIndexRows, IsReversed, IsPacked}
use Rattle.encoding_tables.proofs.SearchLemmas.{below_cases, below_first, below_second, below_at_most, rises, rank_in_span, row_of_part, part_length, row_in_span, row_past_span, row_before_span}
use Rattle.std.specs.List as holes
use Rattle.std.specs.List.{Contains}
use Rattle.std.specs.List.Sorted.{IsPermutation}
use Rattle.std.proofs.lemmas.List.Edits.{swapped_from_swap, length-swap}
use Rattle.std.proofs.lemmas.List.Sorted.{IsPermutation-keeps, IsPermutation-sym, Contains-permutation, length_permutation}
use Rattle.encoding_tables.specs.LookupLaws.{IsPointer}
use Rattle.encoding_tables.specs.laws.Pointers.{value_some, first_is_least, last_is_greatest}

pub length-flat_list : (size : ℕ) (rows : List (ℕ × ℕ)) → length (flat_list size rows) ≡ size
length-flat_list size rows = length-map-range_with_len (packed_entry rows) 0 size

pub entry_within : (size : ℕ) (rows : List (ℕ × ℕ)) (p : ℕ) → p < size → get_or (flat_list size rows) p 0 ≡ packed_entry rows p
entry_within size rows p below = get_or-map-range_with_len (packed_entry rows) 0 size p p 0 below (omega arith)

pub entry_past : (size : ℕ) (rows : List (ℕ × ℕ)) (p : ℕ) → size ≤ p → get_or (flat_list size rows) p 0 ≡ 0
entry_past size rows p past = get_or-eq_default (flat_list size rows) 0 (omega (arith, length-flat_list size rows))

-- ---- a row and its entry

pub pointers_rise : (rows : List (ℕ × ℕ)) → PointersRise rows → AreRising rows
pointers_rise rows rise k within = below_first (row_at rows k) (row_at rows (k + 1)) (rise k within)

far_pointers : (rows : List (ℕ × ℕ)) → PointersRise rows → (i n : ℕ) → i + suc n < length rows → (row_at rows i).0 < (row_at rows (i + suc n)).0
far_pointers rows rise i zero within =
    let next : i + 1 ≡ i + suc zero = omega arith in
    rw (← next) (rise i (omega arith))
far_pointers rows rise i (suc n) within =
    let next : i + suc n + 1 ≡ i + suc (suc n) = omega arith in
    let here = rise (i + suc n) (omega arith) in
    let before = far_pointers rows rise i n (omega arith) in
    rw (← next) (omega (arith, here, before))

pub pointers_far : (rows : List (ℕ × ℕ)) → PointersRise rows → (i j : ℕ) → i < j → j < length rows → (row_at rows i).0 < (row_at rows j).0
pointers_far rows rise i j less within =
    let same : i + suc (j - i - 1) ≡ j = omega arith in
    rw (← same) (far_pointers rows rise i (j - i - 1) (omega arith))

-- row k has the pointer, and no row before it
pub entry_at_row : (p : ℕ) (rows : List (ℕ × ℕ)) (k : ℕ) → k < length rows → (row_at rows k).0 ≡ p → ((j : ℕ) → j < k → (row_at rows j).0 ≢ p) → packed_entry rows p ≡ (row_at rows k).1
entry_at_row p [] k within is apart = absurd (omega arith)
entry_at_row p (r ∷ rows) zero within is apart = rw (eq-eqb r.0 p is) refl
entry_at_row p (r ∷ rows) (suc k) within is apart =
    let here : r.0 ≢ p = apart zero (omega arith) in
    rw (ne_eqb r.0 p here) (entry_at_row p rows k (omega arith) is (λ j less. apart (suc j) (omega arith)))

-- an entry that is not 0 has a row
pub row_of_entry : (p : ℕ) (rows : List (ℕ × ℕ)) → packed_entry rows p ≢ 0 → HasRow rows (p, packed_entry rows p)
row_of_entry p [] some = absurd (some refl)
row_of_entry p (r ∷ rows) some = elim (cases_eq r.0 p) [
  | inl same ↦ (zero, omega arith, rw (eq-eqb r.0 p same) (ap (λ q. (q, r.1)) same))
  | inr other ↦
      let rest : packed_entry rows p ≢ 0 = rw (ne_eqb r.0 p other) at some in
      let found = row_of_entry p rows rest in
      (suc found.0, omega (arith, found.1), rw (ne_eqb r.0 p other) found.2)
]

pub entry_of_row : (size : ℕ) (rows : List (ℕ × ℕ)) (k : ℕ) → AreIndexRows size rows → k < length rows → slice_index (flat_list size rows) (row_at rows k).0 ≡ (row_at rows k).1
entry_of_row size rows k index within =
    entry_within size rows (row_at rows k).0 (index.below k within)
    ∙ entry_at_row (row_at rows k).0 rows k within refl (λ j less same. omega (arith, pointers_far rows index.rise j k less within))

pub row_with_pointer : (size : ℕ) (rows : List (ℕ × ℕ)) (p : ℕ) → slice_index (flat_list size rows) p ≢ 0 → HasRow rows (p, slice_index (flat_list size rows) p)
row_with_pointer size rows p some = elim (cases_lt p size) [
  | inl within ↦
      let same = entry_within size rows p within in
      let found = row_of_entry p rows (λ none. some (same ∙ none)) in
      (found.0, found.1, found.2 ∙ ap (λ v. (p, v)) (sym same))
  | inr past ↦ absurd (some (entry_past size rows p past))
]

-- ---- the look-up of a value

pub value_here : (size : ℕ) (rows : List (ℕ × ℕ)) (p k : ℕ) → AreIndexRows size rows → k < length rows → (row_at rows k).0 ≡ p → value_of (flat_list size rows) p ≡ Some (row_at rows k).1
value_here size rows p k index within is =
    let e : slice_index (flat_list size rows) p ≡ (row_at rows k).1 = ap (λ q. slice_index (flat_list size rows) q) (sym is) ∙ entry_of_row size rows k index within in
    rw (e, ne_eqb (row_at rows k).1 0 (index.mapped k within)) refl

-- the entry of a pointer is what is found at it among the rows
pub value_found : (size : ℕ) (rows : List (ℕ × ℕ)) (p : ℕ) (found : Option ℕ) → AreIndexRows size rows → IsSecond rows p found → value_of (flat_list size rows) p ≡ found
value_found size rows p None index none = elim (cases_eq (slice_index (flat_list size rows) p) 0) [
  | inl empty ↦ rw (eq-eqb (slice_index (flat_list size rows) p) 0 empty) refl
  | inr some ↦ let row = row_with_pointer size rows p some in absurd (none row.0 row.1 (ap (λ r. r.0) row.2))
]
value_found size rows p (Some entry) index row =
    value_here size rows p row.0 index row.1 (ap (λ r. r.0) row.2) ∙ ap (λ r. Some r.1) row.2

-- The mapped rows of a list, and of rows: they are in order, and stand for the same list.

-- mapped rows in order, from one pointer to below another
abbrev pub AreFrom : ℕ → ℕ → List (ℕ × ℕ) → Type 0
AreFrom least end [] = Unit {0}
AreFrom least end (row ∷ rows) = (least ≤ row.0) × (row.0 < end) × (row.1 ≢ 0) × AreFrom (row.0 + 1) end rows

from_less : (least more end : ℕ) (rows : List (ℕ × ℕ)) → least ≤ more → AreFrom more end rows → AreFrom least end rows
from_less least more end [] less h = tt
from_less least more end (row ∷ rows) less h = (omega (arith, h.0), h.1, h.2, h.3)

from_rise : (least end : ℕ) (rows : List (ℕ × ℕ)) → AreFrom least end rows → PointersRise rows
from_rise least end [] h k within = absurd (omega arith)
from_rise least end (row ∷ []) h k within = absurd (omega arith)
from_rise least end (row ∷ next ∷ rows) h zero within = omega (arith, h.3.0)
from_rise least end (row ∷ next ∷ rows) h (suc k) within =
    let same : suc k + 1 ≡ suc (k + 1) = omega arith in
    rw same (from_rise (row.0 + 1) end (next ∷ rows) h.3 k (omega arith))

from_below : (least end : ℕ) (rows : List (ℕ × ℕ)) → AreFrom least end rows → PointersAreBelow end rows
from_below least end [] h k within = absurd (omega arith)
from_below least end (row ∷ rows) h zero within = h.1
from_below least end (row ∷ rows) h (suc k) within = from_below (row.0 + 1) end rows h.3 k (omega arith)

from_mapped : (least end : ℕ) (rows : List (ℕ × ℕ)) → AreFrom least end rows → (k : ℕ) → k < length rows → (row_at rows k).1 ≢ 0
from_mapped least end [] h k within = absurd (omega arith)
from_mapped least end (row ∷ rows) h zero within = h.2
from_mapped least end (row ∷ rows) h (suc k) within = from_mapped (row.0 + 1) end rows h.3 k (omega arith)

index_rows : (least end : ℕ) (rows : List (ℕ × ℕ)) → AreFrom least end rows → AreIndexRows end rows
index_rows least end rows h = record { rise = from_rise least end rows h; below = from_below least end rows h; mapped = from_mapped least end rows h }

pub rows_from : (least end : ℕ) (rows : List (ℕ × ℕ)) → AreIndexRows end rows → (0 < length rows → least ≤ (row_at rows 0).0) → AreFrom least end rows
rows_from least end [] index from = tt
rows_from least end (row ∷ rows) index from = (
  from (omega arith),
  index.below 0 (omega arith),
  index.mapped 0 (omega arith),
  rows_from (row.0 + 1) end rows
      (record { rise = λ k within. (let same : suc k + 1 ≡ suc (k + 1) = omega arith in rw same at (index.rise (suc k) (omega arith))); below = λ k within. index.below (suc k) (omega arith); mapped = λ k within. index.mapped (suc k) (omega arith) })
      (λ some. let less = index.rise 0 (omega arith) in omega (arith, less)),
)

-- there is no entry before them
pub entry_before : (least end : ℕ) (rows : List (ℕ × ℕ)) (p : ℕ) → AreFrom least end rows → p < least → packed_entry rows p ≡ 0
entry_before least end [] p h less = refl
entry_before least end (row ∷ rows) p h less =
    let low : least ≤ row.0 = h.0 in
    let other : row.0 ≢ p = λ same. omega (arith, same, low) in
    rw (ne_eqb row.0 p other) (entry_before (row.0 + 1) end rows p h.3 (omega arith))

-- ---- the rows of a list

listed_from : (p end : ℕ) (list : List ℕ) → p + length list ≡ end → AreFrom p end (listed_rows p list)
listed_from p end [] is = tt
listed_from p end (v ∷ vs) is = elim (cases_eq v 0) [
  | inl none ↦ rw (eq-eqb v 0 none) (from_less p (p + 1) end (listed_rows (p + 1) vs) (omega arith) (listed_from (p + 1) end vs (omega arith)))
  | inr some ↦ rw (ne_eqb v 0 some) (omega arith, omega arith, some, listed_from (p + 1) end vs (omega arith))
]

listed_entry : (p : ℕ) (list : List ℕ) (k : ℕ) → packed_entry (listed_rows p list) (p + k) ≡ get_or list k 0
listed_entry p [] k = refl
listed_entry p (v ∷ vs) zero = elim (cases_eq v 0) [
  | inl none ↦ rw (eq-eqb v 0 none) (entry_before (p + 1) (p + 1 + length vs) (listed_rows (p + 1) vs) (p + zero) (listed_from (p + 1) (p + 1 + length vs) vs refl) (omega arith) ∙ sym none)
  | inr some ↦ let here : p ≡ p + zero = omega arith in rw (ne_eqb v 0 some, eq-eqb p (p + zero) here) refl
]
listed_entry p (v ∷ vs) (suc k) =
    let next : p + 1 + k ≡ p + suc k = omega arith in
    let rest : packed_entry (listed_rows (p + 1) vs) (p + suc k) ≡ get_or vs k 0 = rw (← next) (listed_entry (p + 1) vs k) in
    elim (cases_eq v 0) [
      | inl none ↦ rw (eq-eqb v 0 none) rest
      | inr some ↦ let other : p ≢ p + suc k = λ same. omega (arith, same) in rw (ne_eqb v 0 some, ne_eqb p (p + suc k) other) rest
    ]

pub listed_are_rows : (list : List ℕ) → AreIndexRows (length list) (listed_rows 0 list)
listed_are_rows list = index_rows 0 (length list) (listed_rows 0 list) (listed_from 0 (length list) list (omega arith))

pub flat_of_listed : (list : List ℕ) → flat_list (length list) (listed_rows 0 list) ≡ list
flat_of_listed list = sym (fill_by_all (packed_entry (listed_rows 0 list)) list (length list) 0 refl (λ k below. let here : 0 + k ≡ k = omega arith in sym (ap (packed_entry (listed_rows 0 list)) (sym here) ∙ listed_entry 0 list k)))

-- ---- the mapped ones among rows

rise_behind : (row : ℕ × ℕ) (rows : List (ℕ × ℕ)) → PointersRise (row ∷ rows) → PointersRise rows
rise_behind row rows rise k within =
    let same : suc k + 1 ≡ suc (k + 1) = omega arith in
    rw same at (rise (suc k) (omega arith))

mapped_from : (least end : ℕ) (rows : List (ℕ × ℕ)) → PointersRise rows → PointersAreBelow end rows → (0 < length rows → least ≤ (row_at rows 0).0) → AreFrom least end (mapped_rows rows)
mapped_from least end [] rise below from = tt
mapped_from least end (row ∷ rows) rise below from =
    let low : least ≤ row.0 = from (omega arith) in
    let next : 0 < length rows → row.0 + 1 ≤ (row_at rows 0).0 = λ some. (let less = rise 0 (omega arith) in omega (arith, less)) in
    let rest = mapped_from (row.0 + 1) end rows (rise_behind row rows rise) (λ k within. below (suc k) (omega arith)) next in
    elim (cases_eq row.1 0) [
      | inl none ↦ rw (eq-eqb row.1 0 none) (from_less least (row.0 + 1) end (mapped_rows rows) (omega arith) rest)
      | inr some ↦ rw (ne_eqb row.1 0 some) (low, below 0 (omega arith), some, rest)
    ]

mapped_entry : (end : ℕ) (rows : List (ℕ × ℕ)) (p : ℕ) → PointersRise rows → PointersAreBelow end rows → packed_entry (mapped_rows rows) p ≡ packed_entry rows p
mapped_entry end [] p rise below = refl
mapped_entry end (row ∷ rows) p rise below =
    let next : 0 < length rows → row.0 + 1 ≤ (row_at rows 0).0 = λ some. (let less = rise 0 (omega arith) in omega (arith, less)) in
    let tail_below : PointersAreBelow end rows = λ k within. below (suc k) (omega arith) in
    let rest = mapped_entry end rows p (rise_behind row rows rise) tail_below in
    elim (cases_eq row.1 0) [
      | inl none ↦ elim (cases_eq row.0 p) [
        | inl here ↦ rw (eq-eqb row.1 0 none, eq-eqb row.0 p here)
            (entry_before (row.0 + 1) end (mapped_rows rows) p (mapped_from (row.0 + 1) end rows (rise_behind row rows rise) tail_below next) (omega (arith, here)) ∙ sym none)
        | inr other ↦ rw (eq-eqb row.1 0 none, ne_eqb row.0 p other) rest
      ]
      | inr some ↦ elim (cases_eq row.0 p) [
        | inl here ↦ rw (ne_eqb row.1 0 some, eq-eqb row.0 p here) refl
        | inr other ↦ rw (ne_eqb row.1 0 some, ne_eqb row.0 p other) rest
      ]
    ]

pub mapped_are_rows : (size : ℕ) (rows : List (ℕ × ℕ)) → PointersRise rows → PointersAreBelow size rows → AreIndexRows size (mapped_rows rows)
mapped_are_rows size rows rise below = index_rows 0 size (mapped_rows rows) (mapped_from 0 size rows rise below (λ some. omega arith))

pub flat_of_mapped : (size : ℕ) (rows : List (ℕ × ℕ)) → PointersRise rows → PointersAreBelow size rows → flat_list size (mapped_rows rows) ≡ flat_list size rows
flat_of_mapped size rows rise below =
    fill_by_all (packed_entry rows) (flat_list size (mapped_rows rows)) size 0 (length-flat_list size (mapped_rows rows)) (λ k within.
    entry_within size (mapped_rows rows) k within ∙ mapped_entry size rows k rise below)

-- rows without the entry 0 are all mapped
pub all_mapped : (rows : List (ℕ × ℕ)) → list_all (λ row. not (row.1 == 0)) rows ≡ true → mapped_rows rows ≡ rows
all_mapped [] all = refl
all_mapped (row ∷ rows) all =
    let parts = and_parts (not (row.1 == 0)) (list_all (λ row. not (row.1 == 0)) rows) all in
    rw (parts.0, all_mapped rows parts.1) refl

pub mapped_are_all : (size : ℕ) (rows : List (ℕ × ℕ)) → PointersRise rows → PointersAreBelow size rows → list_all (λ row. not (row.1 == 0)) rows ≡ true → AreIndexRows size rows
mapped_are_all size rows rise below all = subst (AreIndexRows size) (all_mapped rows all) (mapped_are_rows size rows rise below)

-- ---- how many there are

pointer_from : (rows : List (ℕ × ℕ)) (k : ℕ) → PointersRise rows → k < length rows → k ≤ (row_at rows k).0
pointer_from rows zero rise within = omega arith
pointer_from rows (suc k) rise within =
    let before = pointer_from rows k rise (omega arith) in
    let next = pointers_far rows rise k (suc k) (omega arith) within in
    omega (arith, before, next)

pub at_most_the_size : (size : ℕ) (rows : List (ℕ × ℕ)) → AreIndexRows size rows → length rows ≤ size
at_most_the_size size rows index = elim (cases_lt 0 (length rows)) [
  | inl some ↦
      let last = pointer_from rows (length rows - 1) index.rise (omega arith) in
      let below = index.below (length rows - 1) (omega arith) in
      omega (arith, last, below)
  | inr none ↦ omega arith
]

-- Rows the other way round, sorted: they rise, and are the same rows.

-- no row stands twice
record AreDistinct (rows : List (ℕ × ℕ)) : Type 0 where
  pub same : (i j : ℕ) → i < length rows → j < length rows → row_at rows i ≡ row_at rows j → i ≡ j

-- where a row stood before two were exchanged
abbrev origin : ℕ → ℕ → ℕ → ℕ
origin a b i = if i == a then b else if i == b then a else i

origin_within : (a b i n : ℕ) → a < n → b < n → i < n → origin a b i < n
origin_within a b i n in_a in_b within = elim (cases_eq i a) [
  | inl first ↦ rw (eq-eqb i a first) in_b
  | inr other ↦ elim (cases_eq i b) [
    | inl second ↦ rw (ne_eqb i a other, eq-eqb i b second) in_a
    | inr third ↦ rw (ne_eqb i a other, ne_eqb i b third) within
  ]
]

origin_back : (a b i : ℕ) → origin a b (origin a b i) ≡ i
origin_back a b i = elim (cases_eq i a) [
  | inl first ↦ elim (cases_eq b a) [
    | inl same ↦ rw (eq-eqb i a first, eq-eqb b a same) (same ∙ sym first)
    | inr apart ↦ rw (eq-eqb i a first, ne_eqb b a apart, eq-eqb b b refl) (sym first)
  ]
  | inr other ↦ elim (cases_eq i b) [
    | inl second ↦ rw (ne_eqb i a other, eq-eqb i b second, eq-eqb a a refl) (sym second)
    | inr third ↦ rw (ne_eqb i a other, ne_eqb i b third, ne_eqb i a other, ne_eqb i b third) refl
  ]
]

row_of_swap : (rows : List (ℕ × ℕ)) (a b i : ℕ) → a < length rows → b < length rows → row_at (holes.swap rows a b) i ≡ row_at rows (origin a b i)
row_of_swap rows a b i in_a in_b =
    let moved = swapped_from_swap rows (holes.swap rows a b) a b (0, 0) in_a in_b refl in
    elim (cases_eq i a) [
      | inl first ↦ rw (eq-eqb i a first, first) (moved.0)
      | inr other ↦ elim (cases_eq i b) [
        | inl second ↦ rw (ne_eqb i a other, eq-eqb i b second) (ap (λ k. row_at (holes.swap rows a b) k) second ∙ moved.1)
        | inr third ↦ rw (ne_eqb i a other, ne_eqb i b third) (moved.2 i other third)
      ]
    ]

distinct_swap : (rows : List (ℕ × ℕ)) (a b : ℕ) → a < length rows → b < length rows → AreDistinct rows → AreDistinct (holes.swap rows a b)
distinct_swap rows a b in_a in_b distinct = record {
  same = λ i j in_i in_j is.
      let len = length-swap rows a b in
      let one = distinct.same (origin a b i) (origin a b j) (origin_within a b i (length rows) in_a in_b (omega (arith, len))) (origin_within a b j (length rows) in_a in_b (omega (arith, len)))
      (sym (row_of_swap rows a b i in_a in_b) ∙ is ∙ row_of_swap rows a b j in_a in_b) in
      sym (origin_back a b i) ∙ ap (origin a b) one ∙ origin_back a b j;
}

pub row_of_map : (rows : List (ℕ × ℕ)) (k : ℕ) → k < length rows → row_at (map swapped rows) k ≡ swapped (row_at rows k)
row_of_map rows k within = get_or-map swapped rows k (0, 0) (0, 0) within

rising_are_distinct : (rows : List (ℕ × ℕ)) → PointersRise rows → AreDistinct (map swapped rows)
rising_are_distinct rows rise = record {
  same = λ i j in_i in_j is.
      let len = length-map rows swapped in
      let inside_i : i < length rows = omega (arith, len) in
      let inside_j : j < length rows = omega (arith, len) in
      let e : (row_at rows i).0 ≡ (row_at rows j).0 = ap (λ r. r.1) (sym (row_of_map rows i inside_i) ∙ is ∙ row_of_map rows j inside_j) in
      elim (cases_lt i j) [
        | inl less ↦ absurd (omega (arith, e, pointers_far rows rise i j less inside_j))
        | inr from ↦ elim (cases_eq i j) [
          | inl same ↦ same
          | inr apart ↦ absurd (omega (arith, e, pointers_far rows rise j i (omega arith) inside_i))
        ]
      ];
}

-- of two rows one is below the other
above_or_same : (x y : ℕ × ℕ) → ¬ (IsBelow y x) → x ≢ y → IsBelow x y
above_or_same x y above other = elim (cases_lt x.0 y.0) [
  | inl less ↦ below_first x y less
  | inr from ↦ elim (cases_eq y.0 x.0) [
    | inr apart ↦ absurd (above (below_first y x (omega arith)))
    | inl same ↦ elim (cases_lt x.1 y.1) [
      | inl less ↦ below_second x y (sym same) less
      | inr more ↦ elim (cases_eq y.1 x.1) [
        | inl both ↦ absurd (other (ap (λ v. (v, x.1)) (sym same) ∙ ap (λ v. (y.0, v)) (sym both)))
        | inr apart ↦ absurd (above (below_second y x same (omega arith)))
      ]
    ]
  ]
]

sorted_rise : (rows : List (ℕ × ℕ)) → AreSorted rows → AreDistinct rows → AreRising rows
sorted_rise rows sorted distinct k within =
    above_or_same (row_at rows k) (row_at rows (k + 1)) (sorted k within)
    (λ is. let same = distinct.same k (k + 1) (omega arith) within is in omega (arith, same))

has_row : (rows : List (ℕ × ℕ)) (row : ℕ × ℕ) → Contains rows row → HasRow rows row
has_row rows row h = (h.0, h.1, get_or_default rows h.0 (0, 0) row h.1 ∙ h.2)

contains_row : (rows : List (ℕ × ℕ)) (k : ℕ) → k < length rows → Contains rows (row_at rows k)
contains_row rows k within = (k, within, get_or_default rows k (row_at rows k) (0, 0) within)

pub sorted_is_reversed : (rows before pairs : List (ℕ × ℕ)) → PointersRise rows → before ≡ map swapped rows → IsPermutation before pairs → AreSorted pairs → IsReversed rows pairs
sorted_is_reversed rows before pairs rise is permutation sorted =
    let len : length before ≡ length rows = ap length is ∙ length-map rows swapped in
    let other = IsPermutation-sym before pairs permutation in
    record {
      rise = sorted_rise pairs sorted (IsPermutation-keeps before AreDistinct (rw is (rising_are_distinct rows rise)) distinct_swap pairs permutation);
      all = λ k within.
          let here : row_at before k ≡ swapped (row_at rows k) = ap (λ l. row_at l k) is ∙ row_of_map rows k within in
          let found = has_row pairs (row_at before k) (Contains-permutation before pairs (row_at before k) permutation (contains_row before k (omega (arith, len)))) in
          (found.0, found.1, found.2 ∙ here);
      only = λ k within.
          let found = has_row before (row_at pairs k) (Contains-permutation pairs before (row_at pairs k) other (contains_row pairs k within)) in
          let inside : found.0 < length rows = omega (arith, found.1, len) in
          let here : row_at before found.0 ≡ swapped (row_at rows found.0) = ap (λ l. row_at l found.0) is ∙ row_of_map rows found.0 inside in
          (found.0, inside, ap swapped (sym here ∙ found.2));
      same = length_permutation before pairs permutation ∙ len;
    }

-- The least and the greatest pointer with an entry, by the pairs of an entry and its pointer.

-- ---- what the laws say of a result

first_by_law : (flat : List ℕ) (c from to p : ℕ) (o : Option ℕ)
    → MatchOption o ((q : ℕ) → ¬ (IsPointer flat c from to q)) (λ q. IsPointer flat c from to q × ((r : ℕ) → IsPointer flat c from to r → q ≤ r))
    → IsPointer flat c from to p → ((q : ℕ) → IsPointer flat c from to q → p ≤ q) → o ≡ Some p
first_by_law flat c from to p None law is least = absurd (law p is)
first_by_law flat c from to p (Some q) law is least =
    let one = law.1 p is in
    let other = least q law.0 in
    let same : q ≡ p = omega arith in
    ap Some same

last_by_law : (flat : List ℕ) (c from to p : ℕ) (o : Option ℕ)
    → MatchOption o ((q : ℕ) → ¬ (IsPointer flat c from to q)) (λ q. IsPointer flat c from to q × ((r : ℕ) → IsPointer flat c from to r → r ≤ q))
    → IsPointer flat c from to p → ((q : ℕ) → IsPointer flat c from to q → q ≤ p) → o ≡ Some p
last_by_law flat c from to p None law is greatest = absurd (law p is)
last_by_law flat c from to p (Some q) law is greatest =
    let one = law.1 p is in
    let other = greatest q law.0 in
    let same : q ≡ p = omega arith in
    ap Some same

none_by_law : (flat : List ℕ) (c from to : ℕ) (R : ℕ → Type 0) (o : Option ℕ)
    → MatchOption o ((q : ℕ) → ¬ (IsPointer flat c from to q)) (λ q. IsPointer flat c from to q × R q) → ((q : ℕ) → ¬ (IsPointer flat c from to q)) → o ≡ None
none_by_law flat c from to R None law none = refl
none_by_law flat c from to R (Some q) law none = absurd (none q law.0)

-- ---- pairs and pointers

pair_is_pointer : (size : ℕ) (rows pairs : List (ℕ × ℕ)) (c from to p k : ℕ) → IsPacked size rows pairs → k < length pairs → row_at pairs k ≡ (c, p) → from ≤ p → p < to
    → IsPointer (flat_list size rows) c from to p
pair_is_pointer size rows pairs c from to p k packed within is low high =
    let row = packed.reverse.only k within in
    let same : row_at rows row.0 ≡ (p, c) = row.2 ∙ ap swapped is in
    record {
      after = low;
      before = high;
      entry = value_here size rows p row.0 packed.index row.1 (ap (λ r. r.0) same) ∙ ap (λ r. Some r.1) same;
    }

pair_of_pointer : (size : ℕ) (rows pairs : List (ℕ × ℕ)) (c from to p : ℕ) → IsPacked size rows pairs → IsPointer (flat_list size rows) c from to p → HasRow pairs (c, p)
pair_of_pointer size rows pairs c from to p packed is =
    let some = value_some (flat_list size rows) p c is.entry in
    let row = row_with_pointer size rows p (λ none. some.1 (sym some.0 ∙ none)) in
    let same : row_at rows row.0 ≡ (p, c) = row.2 ∙ ap (λ v. (p, v)) some.0 in
    let pair = packed.reverse.all row.0 row.1 in
    (pair.0, pair.1, pair.2 ∙ ap swapped same)

-- ---- the least

-- a pointer from `from` on is not among the pairs below
late : (pairs : List (ℕ × ℕ)) (c from n q h : ℕ) → IsRank pairs (c, from) n → row_at pairs h ≡ (c, q) → from ≤ q → n ≤ h
late pairs c from n q h rank is low = elim (cases_lt h n) [
  | inr after ↦ after
  | inl early ↦ absurd (elim (below_cases (c, q) (c, from) (rw is at (rank.below h early))) [ inl less ↦ omega (arith, less) | inr same ↦ omega (arith, same.1) ])
]

pub first_here : (size : ℕ) (rows pairs : List (ℕ × ℕ)) (c from to p n : ℕ) → IsPacked size rows pairs → IsRank pairs (c, from) n → n < length pairs
    → row_at pairs n ≡ (c, p) → p < to → first_pointer (flat_list size rows) c from to ≡ Some p
first_here size rows pairs c from to p n packed rank within is high =
    let low : from ≤ p = elim (cases_lt p from) [
      | inr after ↦ after
      | inl less ↦ absurd (rank.others n (omega arith) within (rw is (below_second (c, p) (c, from) refl less)))
    ] in
    first_by_law (flat_list size rows) c from to p (first_pointer (flat_list size rows) c from to) (first_is_least (flat_list size rows) c from to)
    (pair_is_pointer size rows pairs c from to p n packed within is low high)
    (λ q h.
    let pair = pair_of_pointer size rows pairs c from to q packed h in
    let after = late pairs c from n q pair.0 rank pair.2 h.after in
    elim (cases_eq n pair.0) [
      | inl here ↦ let same : p ≡ q = ap (λ r. r.1) (sym is ∙ rw (← here) at pair.2) in omega (arith, same)
      | inr later ↦ elim (below_cases (c, p) (c, q) (rw (is, pair.2) at (rises pairs packed.reverse.rise n pair.0 (omega arith) pair.1))) [ inl less ↦ absurd (omega (arith, less)) | inr same ↦ omega (arith, same.1) ]
    ])

pub first_nowhere : (size : ℕ) (rows pairs : List (ℕ × ℕ)) (c from to n : ℕ) → IsPacked size rows pairs → IsRank pairs (c, from) n
    → (n < length pairs → (row_at pairs n).0 ≡ c → to ≤ (row_at pairs n).1) → first_pointer (flat_list size rows) c from to ≡ None
first_nowhere size rows pairs c from to n packed rank past =
    none_by_law (flat_list size rows) c from to (λ q. (r : ℕ) → IsPointer (flat_list size rows) c from to r → q ≤ r) (first_pointer (flat_list size rows) c from to) (first_is_least (flat_list size rows) c from to)
    (λ q h.
    let pair = pair_of_pointer size rows pairs c from to q packed h in
    let after = late pairs c from n q pair.0 rank pair.2 h.after in
    elim (cases_eq n pair.0) [
      | inl here ↦
          let is : row_at pairs n ≡ (c, q) = rw (← here) at pair.2 in
          let second : (row_at pairs n).1 ≡ q = ap (λ r. r.1) is in
          let high = past (omega (arith, pair.1)) (ap (λ r. r.0) is) in
          omega (arith, high, second, h.before)
      | inr later ↦
          let inside : n < length pairs = omega (arith, pair.1) in
          elim (below_cases (row_at pairs n) (c, q) (rw (pair.2) at (rises pairs packed.reverse.rise n pair.0 (omega arith) pair.1))) [
            | inl less ↦ rank.others n (omega arith) inside (below_first (row_at pairs n) (c, from) less)
            | inr same ↦ let high = past inside same.0 in omega (arith, high, same.1, h.before)
          ]
    ])

-- ---- the greatest

early : (pairs : List (ℕ × ℕ)) (c to n q h : ℕ) → IsRank pairs (c, to) n → h < length pairs → row_at pairs h ≡ (c, q) → q < to → h < n
early pairs c to n q h rank within is high = elim (cases_lt h n) [
  | inl before ↦ before
  | inr after ↦ absurd (rank.others h after within (rw is (below_second (c, q) (c, to) refl high)))
]

pub last_here : (size : ℕ) (rows pairs : List (ℕ × ℕ)) (c from to p n : ℕ) → IsPacked size rows pairs → IsRank pairs (c, to) n → n ≢ 0
    → row_at pairs (n - 1) ≡ (c, p) → from ≤ p → last_pointer (flat_list size rows) c from to ≡ Some p
last_here size rows pairs c from to p n packed rank some is low =
    let high : p < to = elim (below_cases (c, p) (c, to) (rw is at (rank.below (n - 1) (omega arith)))) [ inl less ↦ absurd (omega (arith, less)) | inr same ↦ same.1 ] in
    last_by_law (flat_list size rows) c from to p (last_pointer (flat_list size rows) c from to) (last_is_greatest (flat_list size rows) c from to)
    (pair_is_pointer size rows pairs c from to p (n - 1) packed (omega (arith, rank.within)) is low high)
    (λ q h.
    let pair = pair_of_pointer size rows pairs c from to q packed h in
    let before = early pairs c to n q pair.0 rank pair.1 pair.2 h.before in
    elim (cases_eq (n - 1) pair.0) [
      | inl here ↦ let same : p ≡ q = ap (λ r. r.1) (sym is ∙ rw (← here) at pair.2) in omega (arith, same)
      | inr other ↦ elim (below_cases (c, q) (c, p) (rw (pair.2, is) at (rises pairs packed.reverse.rise pair.0 (n - 1) (omega arith) (omega (arith, rank.within))))) [ inl less ↦ absurd (omega (arith, less)) | inr same ↦ omega (arith, same.1) ]
    ])

pub last_nowhere : (size : ℕ) (rows pairs : List (ℕ × ℕ)) (c from to n : ℕ) → IsPacked size rows pairs → IsRank pairs (c, to) n
    → (n ≢ 0 → (row_at pairs (n - 1)).0 ≡ c → (row_at pairs (n - 1)).1 < from) → last_pointer (flat_list size rows) c from to ≡ None
last_nowhere size rows pairs c from to n packed rank past =
    none_by_law (flat_list size rows) c from to (λ q. (r : ℕ) → IsPointer (flat_list size rows) c from to r → r ≤ q) (last_pointer (flat_list size rows) c from to) (last_is_greatest (flat_list size rows) c from to)
    (λ q h.
    let pair = pair_of_pointer size rows pairs c from to q packed h in
    let before = early pairs c to n q pair.0 rank pair.1 pair.2 h.before in
    elim (cases_eq (n - 1) pair.0) [
      | inl here ↦
          let is : row_at pairs (n - 1) ≡ (c, q) = rw (← here) at pair.2 in
          let second : (row_at pairs (n - 1)).1 ≡ q = ap (λ r. r.1) is in
          let low = past (omega arith) (ap (λ r. r.0) is) in
          omega (arith, low, second, h.after)
      | inr other ↦
          let top = below_at_most (row_at pairs (n - 1)) (c, to) (rank.below (n - 1) (omega arith)) in
          elim (below_cases (c, q) (row_at pairs (n - 1)) (rw (pair.2) at (rises pairs packed.reverse.rise pair.0 (n - 1) (omega arith) (omega (arith, rank.within))))) [
            | inl less ↦ omega (arith, less, top)
            | inr same ↦ let low = past (omega arith) (sym same.0) in omega (arith, low, same.1, h.after)
          ]
    ])

-- ---- among the pairs of one entry

-- the pairs of an entry, among all
abbrev pub ArePairsOf : List (ℕ × ℕ) → ℕ → List (ℕ × ℕ) → Type 0
ArePairsOf pairs c part = (start : ℕ) × (end : ℕ) × IsSpan pairs c start end × (part ≡ slice_range pairs start end)

-- where the part ends, among all
part_size : (pairs part : List (ℕ × ℕ)) (c : ℕ) → (of : ArePairsOf pairs c part) → of.0 + length part ≡ of.1
part_size pairs part c of = ap (λ l. of.0 + length l) of.3 ∙ ap (λ n. of.0 + n) (part_length pairs of.0 of.1) ∙ omega (arith, of.2.ordered, of.2.inside)

-- the row at a position of the part, among all
pair_at : (pairs part : List (ℕ × ℕ)) (c n : ℕ) → (of : ArePairsOf pairs c part) → n < length part → row_at pairs (of.0 + n) ≡ (c, (row_at part n).1)
pair_at pairs part c n of within =
    let size = part_size pairs part c of in
    let same : row_at part n ≡ row_at pairs (of.0 + n) = ap (λ l. row_at l n) of.3 ∙ row_of_part pairs of.0 of.1 n (omega (arith, size, within)) in
    let first = row_in_span pairs c of.0 of.1 (of.0 + n) of.2 (omega arith) (omega (arith, size, within)) in
    ap (λ q. (q, (row_at pairs (of.0 + n)).1)) first ∙ ap (λ (r : ℕ × ℕ). (c, r.1)) (sym same)

-- a rank among the part, as one among all
rank_among : (pairs part : List (ℕ × ℕ)) (c key n : ℕ) → (of : ArePairsOf pairs c part) → IsRank part (c, key) n → IsRank pairs (c, key) (of.0 + n)
rank_among pairs part c key n of rank = rank_in_span pairs (c, key) of.0 of.1 n of.2 (rw of.3 at rank)

-- what stands from a position of the part on begins with the row there
first_of_rest : (part rest : List (ℕ × ℕ)) (n : ℕ) → rest ≡ drop n part → row_at rest 0 ≡ row_at part n
first_of_rest part rest n is = ap (λ l. row_at l 0) is ∙ get_or-drop n part 0 (0, 0) ∙ ap (λ k. row_at part k) (omega arith)

pub first_found : (size : ℕ) (rows pairs part rest : List (ℕ × ℕ)) (c from to n : ℕ) (flat : List ℕ) → IsPacked size rows pairs → ArePairsOf pairs c part → IsRank part (c, from) n → rest ≡ drop n part
    → 1 ≤ length rest → (row_at rest 0).1 < to → flat_list size rows ≡ flat → Some (row_at rest 0).1 ≡ first_pointer flat c from to
first_found size rows pairs part rest c from to n flat packed of rank is some high view =
    let within : n < length part = omega (arith, ap length is, length-drop n part, some) in
    let here = ap (λ (r : ℕ × ℕ). r.1) (first_of_rest part rest n is) in
    subst (λ list. Some (row_at rest 0).1 ≡ first_pointer list c from to) view (sym (rw here (first_here size rows pairs c from to (row_at part n).1 (of.0 + n) packed (rank_among pairs part c from n of rank) (omega (arith, part_size pairs part c of, of.2.inside)) (pair_at pairs part c n of within) (omega (arith, here, high)))))

pub first_missed : (size : ℕ) (rows pairs part rest : List (ℕ × ℕ)) (c from to n : ℕ) (flat : List ℕ) → IsPacked size rows pairs → ArePairsOf pairs c part → IsRank part (c, from) n → rest ≡ drop n part
    → (1 ≤ length rest → to ≤ (row_at rest 0).1) → flat_list size rows ≡ flat → None ≡ first_pointer flat c from to
first_missed size rows pairs part rest c from to n flat packed of rank is high view =
    let here = ap (λ (r : ℕ × ℕ). r.1) (first_of_rest part rest n is) in
    subst (λ list. None ≡ first_pointer list c from to) view (sym (first_nowhere size rows pairs c from to (of.0 + n) packed (rank_among pairs part c from n of rank) (λ inside same. elim (cases_lt n (length part)) [
      | inl within ↦ omega (arith, high (omega (arith, ap length is, length-drop n part)), here, ap (λ (r : ℕ × ℕ). r.1) (pair_at pairs part c n of within))
      | inr past ↦
          let end : of.0 + n ≡ of.1 = omega (arith, part_size pairs part c of, rank.within) in
          absurd (row_past_span pairs c of.0 of.1 of.2 (omega (arith, end, inside)) (ap (λ k. (row_at pairs k).0) (sym end) ∙ same))
    ])))

pub last_found : (size : ℕ) (rows pairs part : List (ℕ × ℕ)) (c from to n : ℕ) (flat : List ℕ) → IsPacked size rows pairs → ArePairsOf pairs c part → IsRank part (c, to) n
    → 1 ≤ length (take n part) → from ≤ (row_at (take n part) (length (take n part) - 1)).1 → flat_list size rows ≡ flat → Some (row_at (take n part) (length (take n part) - 1)).1 ≡ last_pointer flat c from to
last_found size rows pairs part c from to n flat packed of rank some low view =
    let size_is : length (take n part) ≡ n = length-take-le n part rank.within in
    let here : (row_at (take n part) (length (take n part) - 1)).1 ≡ (row_at part (n - 1)).1 = ap (λ k. (row_at (take n part) (k - 1)).1) size_is ∙ ap (λ (r : ℕ × ℕ). r.1) (get_or-take n part (n - 1) (0, 0) (omega (arith, size_is, some))) in
    let place : of.0 + n - 1 ≡ of.0 + (n - 1) = omega (arith, size_is, some) in
    subst (λ list. Some (row_at (take n part) (length (take n part) - 1)).1 ≡ last_pointer list c from to) view (sym (rw here (last_here size rows pairs c from to (row_at part (n - 1)).1 (of.0 + n) packed (rank_among pairs part c to n of rank) (omega (arith, size_is, some)) (ap (λ k. row_at pairs k) place ∙ pair_at pairs part c (n - 1) of (omega (arith, size_is, some, rank.within))) (omega (arith, here, low)))))

pub last_missed : (size : ℕ) (rows pairs part : List (ℕ × ℕ)) (c from to n : ℕ) (flat : List ℕ) → IsPacked size rows pairs → ArePairsOf pairs c part → IsRank part (c, to) n
    → (1 ≤ length (take n part) → (row_at (take n part) (length (take n part) - 1)).1 < from) → flat_list size rows ≡ flat → None ≡ last_pointer flat c from to
last_missed size rows pairs part c from to n flat packed of rank low view =
    let size_is : length (take n part) ≡ n = length-take-le n part rank.within in
    subst (λ list. None ≡ last_pointer list c from to) view (sym (last_nowhere size rows pairs c from to (of.0 + n) packed (rank_among pairs part c to n of rank) (λ some is. elim (cases_eq n 0) [
      | inl none ↦ absurd (row_before_span pairs c of.0 of.1 (of.0 + n - 1) of.2 (omega (arith, some, none)) is)
      | inr more ↦
          let here : (row_at (take n part) (length (take n part) - 1)).1 ≡ (row_at part (n - 1)).1 = ap (λ k. (row_at (take n part) (k - 1)).1) size_is ∙ ap (λ (r : ℕ × ℕ). r.1) (get_or-take n part (n - 1) (0, 0) (omega (arith, more))) in
          let place : of.0 + n - 1 ≡ of.0 + (n - 1) = omega (arith, more) in
          let pair = ap (λ k. row_at pairs k) place ∙ pair_at pairs part c (n - 1) of (omega (arith, more, rank.within)) in
          omega (arith, low (omega (arith, size_is, more)), here, ap (λ (r : ℕ × ℕ). r.1) pair)
    ])))
