-- How the rows of an index are counted by their entries, and put in order by what was counted.
use Rattle.std.proofs.Common.{arith, ◌≡◌, ◌≢◌, ◌<◌, ◌≤◌, ◌+◌, ◌-◌, ℕ, zero, suc, Bool, true, false, List, [], ◌∷◌, ◌++◌, inl, inr, get_or, length, take, length-append, map, drop, refl, sym, ◌∙◌, ap, subst, append-nil, append_assoc}
use Rattle.std.specs.Prelude.{cond, nat_lt, not, slice_index, slice_set, ◌==◌}
use Rattle.std.specs.List.{All, AllPairs, filter}
use Rattle.std.specs.List.Sorted.{IsPermutation}
use Rattle.std.proofs.lemmas.Bool.Decides.{nat_tests}
use Rattle.std.proofs.lemmas.Grind.{get_or-set_at}
use Rattle.std.proofs.lemmas.List.Sorted.{IsPermutation-append_left, IsPermutation-filter_both, IsPermutation-refl, IsPermutation-trans, length_permutation}
use Rattle.std.proofs.lemmas.Bool.{cases_lt, cases_eq, eq-eqb, ne_eqb, eqb-true}
use Rattle.std.proofs.lemmas.List.Elements.{All-append, filter_passes, filter-append}
use Rattle.std.proofs.lemmas.List.Kept.{AllPairs-filter}
use Rattle.std.proofs.lemmas.List.{drop_more, ext_get_or, get_or-append_right, get_or-set_other, get_or_append_left, get_or_default, length-map, length-set, map-append, take_more, take-append-drop}
use Rattle.std.proofs.Math.Seq.{take-length}
use Rattle.encoding_tables.specs.PackedRows.{PointersRise, swapped}
use Rattle.encoding_tables.specs.calls.PackedLists.{IsReversed}
use Rattle.encoding_tables.specs.calls.SortedRows.{IsBelow, IsDirectory, IsRank, row_at}
use Rattle.encoding_tables.specs.calls.EntryCounts.{HaveEntriesBelow, HaveNumbers, pairs_below, rows_of_entry}
use Rattle.encoding_tables.proofs.RowLemmas.{pointers_far, row_of_map, sorted_is_reversed}
use Rattle.encoding_tables.specs.calls.EntryCounts.{AreEnds}
use Rattle.std.proofs.lemmas.List.{length-take}

-- All rows the other way round, entry by entry, are all of them, in order.
abbrev is_under : ℕ → ℕ × ℕ → Bool
is_under limit pair = nat_lt pair.0 limit

abbrev is_over : ℕ → ℕ × ℕ → Bool
is_over limit pair = not (nat_lt pair.0 limit)

abbrev has_entry : ℕ → ℕ × ℕ → Bool
has_entry entry pair = pair.0 == entry

none_under_by : (pair : ℕ × ℕ) (under : Bool) → nat_lt pair.0 0 ≡ under → cond under (pair ∷ []) [] ≡ []
none_under_by pair true under = absurd (grind (arith, nat_tests))
none_under_by pair false under = refl

none_under : (pairs : List (ℕ × ℕ)) → filter (is_under 0) pairs ≡ []
none_under [] = refl
none_under (pair ∷ pairs) = rw (none_under pairs) (none_under_by pair (nat_lt pair.0 0) refl)

under_by : (m : ℕ) (pair : ℕ × ℕ) (pairs : List (ℕ × ℕ)) (more less : Bool) → nat_lt pair.0 (suc m) ≡ more → nat_lt pair.0 m ≡ less → filter (is_under m) (filter (is_under (suc m)) pairs) ≡ filter (is_under m) pairs
    → filter (is_under m) (cond more (pair ∷ filter (is_under (suc m)) pairs) (filter (is_under (suc m)) pairs)) ≡ cond less (pair ∷ filter (is_under m) pairs) (filter (is_under m) pairs)
under_by m pair pairs true true more less rest = rw (less, rest) refl
under_by m pair pairs true false more less rest = rw (less, rest) refl
under_by m pair pairs false true more less rest = absurd (grind (arith, nat_tests))
under_by m pair pairs false false more less rest = rest

under_again : (m : ℕ) (pairs : List (ℕ × ℕ)) → filter (is_under m) (filter (is_under (suc m)) pairs) ≡ filter (is_under m) pairs
under_again m [] = refl
under_again m (pair ∷ pairs) = under_by m pair pairs (nat_lt pair.0 (suc m)) (nat_lt pair.0 m) refl refl (under_again m pairs)

over_by : (m : ℕ) (pair : ℕ × ℕ) (pairs : List (ℕ × ℕ)) (more less same : Bool) → nat_lt pair.0 (suc m) ≡ more → nat_lt pair.0 m ≡ less → (pair.0 == m) ≡ same → filter (is_over m) (filter (is_under (suc m)) pairs) ≡ filter (has_entry m) pairs
    → filter (is_over m) (cond more (pair ∷ filter (is_under (suc m)) pairs) (filter (is_under (suc m)) pairs)) ≡ cond same (pair ∷ filter (has_entry m) pairs) (filter (has_entry m) pairs)
over_by m pair pairs true true true more less same rest = absurd (grind (arith, nat_tests))
over_by m pair pairs true true false more less same rest = rw (less, rest) refl
over_by m pair pairs true false true more less same rest = rw (less, rest) refl
over_by m pair pairs true false false more less same rest = absurd (grind (arith, nat_tests))
over_by m pair pairs false less true more less_is same rest = absurd (grind (arith, nat_tests))
over_by m pair pairs false less false more less_is same rest = rest

over_again : (m : ℕ) (pairs : List (ℕ × ℕ)) → filter (is_over m) (filter (is_under (suc m)) pairs) ≡ filter (has_entry m) pairs
over_again m [] = refl
over_again m (pair ∷ pairs) = over_by m pair pairs (nat_lt pair.0 (suc m)) (nat_lt pair.0 m) (pair.0 == m) refl refl refl (over_again m pairs)

moved_below : (m : ℕ) (rows : List (ℕ × ℕ)) → IsPermutation (filter (is_under m) (map swapped rows)) (pairs_below m rows)
moved_below zero rows = rw (none_under (map swapped rows)) (IsPermutation-refl [])
moved_below (suc m) rows =
    let pairs : List (ℕ × ℕ) = map swapped rows in
    let more : List (ℕ × ℕ) = filter (is_under (suc m)) pairs in
    let parts : IsPermutation more (filter (is_under m) pairs ++ filter (has_entry m) pairs) =
    subst (λ (l : List (ℕ × ℕ)). IsPermutation more l) (ap (λ l. l ++ filter (is_over m) more) (under_again m pairs) ∙ ap (λ l. filter (is_under m) pairs ++ l) (over_again m pairs))
    (IsPermutation-filter_both (is_under m) (is_over m) (λ pair. refl) more) in
    IsPermutation-trans more (filter (is_under m) pairs ++ filter (has_entry m) pairs) (pairs_below (suc m) rows) parts
    (IsPermutation-append_left (filter (has_entry m) pairs) (filter (is_under m) pairs) (pairs_below m rows) (moved_below m rows))

abbrev InOrder : ℕ × ℕ → ℕ × ℕ → Type 0
InOrder one other = ¬ (IsBelow other one)

in_order_within : (one other : ℕ × ℕ) → one.0 ≡ other.0 → one.1 < other.1 → InOrder one other
in_order_within one other same less below = absurd (grind (arith, nat_tests))

in_order_across : (one other : ℕ × ℕ) → one.0 < other.0 → InOrder one other
in_order_across one other less below = absurd (grind (arith, nat_tests))

rising_pointers : (rows : List (ℕ × ℕ)) → PointersRise rows → AllPairs (λ (one other : ℕ × ℕ). one.1 < other.1) (map swapped rows)
rising_pointers rows rise i j d before within =
    let inside : j < length rows = omega (arith, within, length-map rows swapped) in
    let one : get_or (map swapped rows) i d ≡ swapped (row_at rows i) = get_or_default (map swapped rows) i d (0, 0) (omega (arith, before, within)) ∙ row_of_map rows i (omega (arith, before, inside)) in
    let other : get_or (map swapped rows) j d ≡ swapped (row_at rows j) = get_or_default (map swapped rows) j d (0, 0) within ∙ row_of_map rows j inside in
    rw (one, other) (pointers_far rows rise i j before inside)

entry_in_order : (entry : ℕ) (rows : List (ℕ × ℕ)) → PointersRise rows → AllPairs InOrder (rows_of_entry entry rows)
entry_in_order entry rows rise i j d before within =
    let has = filter_passes (has_entry entry) (map swapped rows) in
    in_order_within (get_or (rows_of_entry entry rows) i d) (get_or (rows_of_entry entry rows) j d)
    (eqb-true _ entry (has i d (omega (arith, before, within))) ∙ sym (eqb-true _ entry (has j d within)))
    (AllPairs-filter (λ (one other : ℕ × ℕ). one.1 < other.1) (has_entry entry) (map swapped rows) (rising_pointers rows rise) i j d before within)

append_in_order : (m : ℕ) (xs ys : List (ℕ × ℕ)) → AllPairs InOrder xs → AllPairs InOrder ys → All (λ (pair : ℕ × ℕ). pair.0 < m) xs → All (λ (pair : ℕ × ℕ). has_entry m pair ≡ true) ys → AllPairs InOrder (xs ++ ys)
append_in_order m xs ys first second under has i j d before within =
    let size : length (xs ++ ys) ≡ length xs + length ys = length-append xs ys in
    elim (cases_lt j (length xs)) [
      | inl inside ↦ rw (get_or_append_left xs ys d i (omega (arith, before, inside)), get_or_append_left xs ys d j inside) (first i j d before inside)
      | inr behind ↦ elim (cases_lt i (length xs)) [
        | inl inside ↦
            rw (get_or_append_left xs ys d i inside, get_or-append_right xs ys (length xs) j d refl behind)
            (in_order_across (get_or xs i d) (get_or ys (j - length xs) d)
            (omega (arith, under i d inside, eqb-true (get_or ys (j - length xs) d).0 m (has (j - length xs) d (omega (arith, size, within, behind))))))
        | inr later_too ↦
            rw (get_or-append_right xs ys (length xs) i d refl later_too, get_or-append_right xs ys (length xs) j d refl behind)
            (second (i - length xs) (j - length xs) d (omega (arith, before, later_too)) (omega (arith, size, within, behind)))
      ]
    ]

record AreOrdered (m : ℕ) (pairs : List (ℕ × ℕ)) : Type 0 where
  pub order : AllPairs InOrder pairs
  pub under : All (λ (pair : ℕ × ℕ). pair.0 < m) pairs

below_in_order : (m : ℕ) (rows : List (ℕ × ℕ)) → PointersRise rows → AreOrdered m (pairs_below m rows)
below_in_order zero rows rise = record { order = λ i j d before within. absurd (omega (arith, within)); under = λ k d within. absurd (omega (arith, within)) }
below_in_order (suc m) rows rise =
    let before = below_in_order m rows rise in
    let has = filter_passes (has_entry m) (map swapped rows) in
    record {
      order = append_in_order m (pairs_below m rows) (rows_of_entry m rows) before.order (entry_in_order m rows rise) before.under has;
      under = All-append (λ (pair : ℕ × ℕ). pair.0 < suc m) (pairs_below m rows) (rows_of_entry m rows)
          (λ k d within. omega (arith, before.under k d within)) (λ k d within. omega (arith, eqb-true (get_or (rows_of_entry m rows) k d).0 m (has k d within)));
    }

all_under_by : (m : ℕ) (pair : ℕ × ℕ) (pairs : List (ℕ × ℕ)) (under : Bool) → nat_lt pair.0 m ≡ under → pair.0 < m → cond under (pair ∷ pairs) pairs ≡ pair ∷ pairs
all_under_by m pair pairs true is h = refl
all_under_by m pair pairs false is h = absurd (grind (arith, nat_tests))

all_under : (m : ℕ) (rows : List (ℕ × ℕ)) → HaveEntriesBelow m rows → filter (is_under m) (map swapped rows) ≡ map swapped rows
all_under m [] below = refl
all_under m (row ∷ rows) below =
    rw (all_under m rows (λ k within. below (suc k) (omega (arith, within)))) (all_under_by m (swapped row) (map swapped rows) (nat_lt row.1 m) refl (below 0 (omega arith)))

pub below_is_reversed : (m : ℕ) (rows : List (ℕ × ℕ)) → PointersRise rows → HaveEntriesBelow m rows → IsReversed rows (pairs_below m rows)
below_is_reversed m rows rise below =
    sorted_is_reversed rows (map swapped rows) (pairs_below m rows) rise refl
    (subst (λ (l : List (ℕ × ℕ)). IsPermutation l (pairs_below m rows)) (all_under m rows below) (moved_below m rows))
    (λ k within. (below_in_order m rows rise).order k (k + 1) (0, 0) (omega arith) within)

-- What the directory says: how many pairs stand before each entry's.
split_below : (entry more m : ℕ) (rows : List (ℕ × ℕ)) → m ≡ entry + more → (rest : List (ℕ × ℕ)) × (pairs_below m rows ≡ pairs_below entry rows ++ rest) × All (λ (pair : ℕ × ℕ). entry ≤ pair.0) rest
split_below entry zero m rows is =
    let same : m ≡ entry = omega (arith, is) in
    ([], ap (λ (n : ℕ). pairs_below n rows) same ∙ sym (append-nil (pairs_below entry rows)), λ k d within. absurd (omega (arith, within)))
split_below entry (suc more) m rows is =
    let last : ℕ = entry + more in
    let next : m ≡ suc last = omega (arith, is) in
    let before = split_below entry more last rows refl in
    let has = filter_passes (has_entry last) (map swapped rows) in (
      before.0 ++ rows_of_entry last rows,
      ap (λ (n : ℕ). pairs_below n rows) next ∙ ap (λ l. l ++ rows_of_entry last rows) before.1 ∙ append_assoc (pairs_below entry rows) before.0 (rows_of_entry last rows),
      All-append (λ (pair : ℕ × ℕ). entry ≤ pair.0) before.0 (rows_of_entry last rows) before.2 (λ k d within. omega (arith, eqb-true (get_or (rows_of_entry last rows) k d).0 last (has k d within))),
    )

below_entry : (pair : ℕ × ℕ) (entry : ℕ) → pair.0 < entry → IsBelow pair (entry, 0)
below_entry pair entry less = grind (arith, nat_tests)

not_below_entry : (pair : ℕ × ℕ) (entry : ℕ) → entry ≤ pair.0 → ¬ (IsBelow pair (entry, 0))
not_below_entry pair entry more below = absurd (grind (arith, nat_tests))

rank_of_entry : (entry m : ℕ) (rows : List (ℕ × ℕ)) → PointersRise rows → entry ≤ m → IsRank (pairs_below m rows) (entry, 0) (length (pairs_below entry rows))
rank_of_entry entry m rows rise within =
    let split = split_below entry (m - entry) m rows (omega (arith, within)) in
    let first : List (ℕ × ℕ) = pairs_below entry rows in
    let size : length (pairs_below m rows) ≡ length first + length split.0 = ap length split.1 ∙ length-append first split.0 in
    record {
      within = omega (arith, size);
      below = λ k inside. below_entry (row_at (pairs_below m rows) k) entry (rw (split.1, get_or_append_left first split.0 (0, 0) k inside) ((below_in_order entry rows rise).under k (0, 0) inside));
      others = λ k behind inside.
          not_below_entry (row_at (pairs_below m rows) k) entry (rw (split.1, get_or-append_right first split.0 (length first) k (0, 0) refl behind) (split.2 (k - length first) (0, 0) (omega (arith, size, inside, behind))));
    }

pub fits_below : (m : ℕ) (rows : List (ℕ × ℕ)) → length (pairs_below m rows) ≤ length rows
fits_below m rows =
    let pairs : List (ℕ × ℕ) = map swapped rows in
    let under : List (ℕ × ℕ) = filter (is_under m) pairs in
    let over : List (ℕ × ℕ) = filter (is_over m) pairs in
    let parts : length (under ++ over) ≡ length pairs = length_permutation pairs (under ++ over) (IsPermutation-filter_both (is_under m) (is_over m) (λ pair. refl) pairs) in
    omega (arith, length_permutation under (pairs_below m rows) (moved_below m rows), parts, length-append under over, length-map rows swapped)

-- ---- the rows of an entry, up to a row

few_of_entry_by : (row : ℕ × ℕ) (pairs rows : List (ℕ × ℕ)) (same : Bool) → length pairs ≤ length rows → length (cond same (swapped row ∷ pairs) pairs) ≤ length (row ∷ rows)
few_of_entry_by row pairs rows true few = omega (arith, few)
few_of_entry_by row pairs rows false few = omega (arith, few)

pub few_of_entry : (entry : ℕ) (rows : List (ℕ × ℕ)) → length (rows_of_entry entry rows) ≤ length rows
few_of_entry entry [] = omega arith
few_of_entry entry (row ∷ rows) = few_of_entry_by row (rows_of_entry entry rows) rows (row.1 == entry) (few_of_entry entry rows)

entry_append : (entry : ℕ) (xs ys : List (ℕ × ℕ)) → rows_of_entry entry (xs ++ ys) ≡ rows_of_entry entry xs ++ rows_of_entry entry ys
entry_append entry xs ys = ap (filter (has_entry entry)) (map-append swapped xs ys) ∙ filter-append (has_entry entry) (map swapped xs) (map swapped ys)

own_row : (entry : ℕ) (row : ℕ × ℕ) (rows : List (ℕ × ℕ)) → row.1 ≡ entry → rows_of_entry entry (row ∷ rows) ≡ swapped row ∷ rows_of_entry entry rows
own_row entry row rows is = rw (eq-eqb row.1 entry is) refl

other_row : (entry : ℕ) (row : ℕ × ℕ) → row.1 ≢ entry → rows_of_entry entry (row ∷ []) ≡ []
other_row entry row other = rw (ne_eqb row.1 entry other) refl

one_more : (entry : ℕ) (rows : List (ℕ × ℕ)) (at : ℕ) → at < length rows → rows_of_entry entry (take (at + 1) rows) ≡ rows_of_entry entry (take at rows) ++ rows_of_entry entry (row_at rows at ∷ [])
one_more entry rows at within = ap (rows_of_entry entry) (take_more rows at (0, 0) within) ∙ entry_append entry (take at rows) (row_at rows at ∷ [])

pub own_count : (entry : ℕ) (rows : List (ℕ × ℕ)) (at : ℕ) → at < length rows → (row_at rows at).1 ≡ entry → length (rows_of_entry entry (take (at + 1) rows)) ≡ length (rows_of_entry entry (take at rows)) + 1
own_count entry rows at within is =
    ap length (one_more entry rows at within ∙ ap (λ l. rows_of_entry entry (take at rows) ++ l) (own_row entry (row_at rows at) [] is))
    ∙ length-append (rows_of_entry entry (take at rows)) (swapped (row_at rows at) ∷ [])

pub other_count : (entry : ℕ) (rows : List (ℕ × ℕ)) (at : ℕ) → at < length rows → (row_at rows at).1 ≢ entry → length (rows_of_entry entry (take (at + 1) rows)) ≡ length (rows_of_entry entry (take at rows))
other_count entry rows at within other =
    ap length (one_more entry rows at within ∙ ap (λ l. rows_of_entry entry (take at rows) ++ l) (other_row entry (row_at rows at) other) ∙ append-nil (rows_of_entry entry (take at rows)))

-- ---- the counts

-- the rows before a position are counted
pub record AreCounted (rows : List (ℕ × ℕ)) (at : ℕ) (counts : List ℕ) : Type 0 where
  pub entries : HaveNumbers rows counts
  pub counted : (entry : ℕ) → entry < length counts → slice_index counts entry ≡ length (rows_of_entry entry (take at rows))

pub one_counted : (rows : List (ℕ × ℕ)) (at count : ℕ) (counts : List ℕ) → at < length rows → count ≡ slice_index counts (row_at rows at).1 → AreCounted rows at counts
    → AreCounted rows (at + 1) (slice_set counts (row_at rows at).1 (count + 1))
one_counted rows at count counts within read c =
    let own : ℕ = (row_at rows at).1 in
    let size = length-set counts own (count + 1) in
    record {
      entries = λ k inside. omega (arith, size, c.entries k inside);
      counted = λ entry inside.
          let old = c.counted entry (omega (arith, size, inside)) in
          elim (cases_eq own entry) [
            | inl same ↦
                get_or-set_at counts own entry (count + 1) 0 (sym same) (omega (arith, c.entries at within))
                ∙ omega (arith, read, ap (slice_index counts) same, old, own_count entry rows at within same)
            | inr other ↦
                get_or-set_other counts own entry (count + 1) 0 (λ same. other (sym same))
                ∙ omega (arith, old, other_count entry rows at within other)
          ];
    }

pub count_fits : (rows : List (ℕ × ℕ)) (at count : ℕ) (counts : List ℕ) → at < length rows → count ≡ slice_index counts (row_at rows at).1 → AreCounted rows at counts → count ≤ at
count_fits rows at count counts within read c =
    let own : ℕ = (row_at rows at).1 in
    omega (arith, read, c.counted own (omega (arith, c.entries at within)), few_of_entry own (take at rows), length-take at rows)

-- ---- the ends

-- of the entries before this one the ends stand, of the others the counts
pub record AreAdded (rows : List (ℕ × ℕ)) (entry sum : ℕ) (ends : List ℕ) : Type 0 where
  pub entries : HaveNumbers rows ends
  pub sum_is : sum ≡ length (pairs_below entry rows)
  pub added : (e : ℕ) → e < entry → e < length ends → slice_index ends e ≡ length (pairs_below (suc e) rows)
  pub counted : (e : ℕ) → entry ≤ e → e < length ends → slice_index ends e ≡ length (rows_of_entry e rows)

more_below : (entry : ℕ) (rows : List (ℕ × ℕ)) → length (pairs_below (suc entry) rows) ≡ length (pairs_below entry rows) + length (rows_of_entry entry rows)
more_below entry rows = length-append (pairs_below entry rows) (rows_of_entry entry rows)

pub one_added : (rows : List (ℕ × ℕ)) (entry sum count total : ℕ) (ends : List ℕ) → entry < length ends → count ≡ slice_index ends entry → total ≡ sum + count → AreAdded rows entry sum ends
    → AreAdded rows (entry + 1) total (slice_set ends entry total)
one_added rows entry sum count total ends within read is a =
    let size = length-set ends entry total in
    let next : suc entry ≡ entry + 1 = omega arith in
    let here : total ≡ length (pairs_below (suc entry) rows) = omega (arith, is, read, a.sum_is, a.counted entry (omega arith) within, more_below entry rows) in
    record {
      entries = λ k inside. omega (arith, size, a.entries k inside);
      sum_is = here ∙ ap (λ (n : ℕ). length (pairs_below n rows)) next;
      added = λ e before inside. elim (cases_eq e entry) [
        | inl same ↦ get_or-set_at ends entry e total 0 same within ∙ here ∙ ap (λ (n : ℕ). length (pairs_below (suc n) rows)) (sym same)
        | inr other ↦ get_or-set_other ends entry e total 0 other ∙ a.added e (omega (arith, before, other)) (omega (arith, size, inside))
      ];
      counted = λ e behind inside. get_or-set_other ends entry e total 0 (λ same. absurd (omega (arith, same, behind))) ∙ a.counted e (omega (arith, behind)) (omega (arith, size, inside));
    }

pub sum_fits : (rows : List (ℕ × ℕ)) (entry sum count : ℕ) (ends : List ℕ) → entry < length ends → count ≡ slice_index ends entry → AreAdded rows entry sum ends → sum + count ≤ length rows
sum_fits rows entry sum count ends within read a = omega (arith, read, a.sum_is, a.counted entry (omega arith) within, more_below entry rows, fits_below (suc entry) rows)

-- ---- the places

-- The rows from a position on have their places: of each entry, those before its number are free.
pub record AreBeingPlaced (rows : List (ℕ × ℕ)) (at : ℕ) (begins : List ℕ) (pairs : List (ℕ × ℕ)) : Type 0 where
  pub entries : HaveNumbers rows begins
  pub size : length pairs ≡ length rows
  pub within : at ≤ length rows
  pub free : (e : ℕ) → e < length begins → slice_index begins e ≡ length (pairs_below e rows) + length (rows_of_entry e (take at rows))
  pub placed : (e j : ℕ) → e < length begins → slice_index begins e ≤ j → j < length (pairs_below (suc e) rows) → row_at pairs j ≡ row_at (pairs_below (length begins) rows) j

pub none_placed : (rows : List (ℕ × ℕ)) (at : ℕ) (ends : List ℕ) (pairs : List (ℕ × ℕ)) → at ≡ length rows → length pairs ≡ length rows → AreEnds rows ends → AreBeingPlaced rows at ends pairs
none_placed rows at ends pairs all size a =
    let whole : take at rows ≡ rows = ap (λ (n : ℕ). take n rows) all ∙ take-length rows in
    record {
      entries = a.entries;
      size = size;
      within = omega (arith, all);
      free = λ e inside. omega (arith, a.added e inside, more_below e rows, ap (λ l. length (rows_of_entry e l)) whole);
      placed = λ e j inside low high. absurd (omega (arith, a.added e inside, low, high));
    }

middle : (xs : List (ℕ × ℕ)) (y : ℕ × ℕ) (zs : List (ℕ × ℕ)) (at : ℕ) → at ≡ length xs → row_at (xs ++ y ∷ zs) at ≡ y
middle xs y zs at is =
    let none : at - length xs ≡ 0 = omega (arith, is) in
    get_or-append_right xs (y ∷ zs) (length xs) at (0, 0) refl (omega (arith, is)) ∙ ap (λ (n : ℕ). row_at (y ∷ zs) n) none

-- where a row stands among all
place_of_row : (rows : List (ℕ × ℕ)) (at m : ℕ) → at < length rows → (row_at rows at).1 < m
    → row_at (pairs_below m rows) (length (pairs_below (row_at rows at).1 rows) + length (rows_of_entry (row_at rows at).1 (take at rows))) ≡ swapped (row_at rows at)
place_of_row rows at m within below =
    let row : ℕ × ℕ = row_at rows at in
    let entry : ℕ = row.1 in
    let first : List (ℕ × ℕ) = pairs_below entry rows in
    let early : List (ℕ × ℕ) = rows_of_entry entry (take at rows) in
    let late : List (ℕ × ℕ) = rows_of_entry entry (drop (at + 1) rows) in
    let split = split_below (suc entry) (m - suc entry) m rows (omega (arith, below)) in
    let parted : rows ≡ take at rows ++ row ∷ drop (at + 1) rows = sym (take-append-drop at rows) ∙ ap (λ l. take at rows ++ l) (drop_more rows at (0, 0) within) in
    let own : rows_of_entry entry rows ≡ early ++ swapped row ∷ late =
    ap (rows_of_entry entry) parted ∙ entry_append entry (take at rows) (row ∷ drop (at + 1) rows) ∙ ap (λ l. early ++ l) (own_row entry row (drop (at + 1) rows) refl) in
    let all : pairs_below m rows ≡ (first ++ early) ++ swapped row ∷ (late ++ split.0) =
    split.1 ∙ ap (λ l. (first ++ l) ++ split.0) own ∙ ap (λ l. l ++ split.0) (sym (append_assoc first early (swapped row ∷ late))) ∙ append_assoc (first ++ early) (swapped row ∷ late) split.0 in
    ap (λ l. row_at l (length first + length early)) all
    ∙ middle (first ++ early) (swapped row) (late ++ split.0) (length first + length early) (sym (length-append first early))

-- the pairs of a smaller entry end before those of a greater one begin
ends_before : (e m : ℕ) (rows : List (ℕ × ℕ)) → e < m → length (pairs_below (suc e) rows) ≤ length (pairs_below m rows)
ends_before e m rows less =
    let split = split_below (suc e) (m - suc e) m rows (omega (arith, less)) in
    omega (arith, ap length split.1, length-append (pairs_below (suc e) rows) split.0)

-- where the next row goes is free, and after the pairs of smaller entries
place_fits : (rows : List (ℕ × ℕ)) (at : ℕ) (begins : List ℕ) (pairs : List (ℕ × ℕ)) → at < length rows → AreBeingPlaced rows (at + 1) begins pairs
    → slice_index begins (row_at rows at).1 ≡ length (pairs_below (row_at rows at).1 rows) + length (rows_of_entry (row_at rows at).1 (take at rows)) + 1
place_fits rows at begins pairs within p =
    let own : ℕ = (row_at rows at).1 in
    omega (arith, p.free own (omega (arith, p.entries at within)), own_count own rows at within refl)

place_within : (rows : List (ℕ × ℕ)) (at : ℕ) → at < length rows → length (pairs_below (row_at rows at).1 rows) + length (rows_of_entry (row_at rows at).1 (take at rows)) < length (pairs_below (suc (row_at rows at).1) rows)
place_within rows at within =
    let entry : ℕ = (row_at rows at).1 in
    let whole : rows_of_entry entry rows ≡ rows_of_entry entry (take (at + 1) rows) ++ rows_of_entry entry (drop (at + 1) rows) =
    ap (rows_of_entry entry) (sym (take-append-drop (at + 1) rows)) ∙ entry_append entry (take (at + 1) rows) (drop (at + 1) rows) in
    omega (arith, more_below entry rows, ap length whole, length-append (rows_of_entry entry (take (at + 1) rows)) (rows_of_entry entry (drop (at + 1) rows)), own_count entry rows at within refl)

place_inside : (rows : List (ℕ × ℕ)) (at : ℕ) → at < length rows → length (pairs_below (row_at rows at).1 rows) + length (rows_of_entry (row_at rows at).1 (take at rows)) < length rows
place_inside rows at within = omega (arith, place_within rows at within, fits_below (suc (row_at rows at).1) rows)

one_placed : (rows : List (ℕ × ℕ)) (at place : ℕ) (begins : List ℕ) (pairs : List (ℕ × ℕ)) → at < length rows → slice_index begins (row_at rows at).1 ≡ place + 1 → AreBeingPlaced rows (at + 1) begins pairs
    → AreBeingPlaced rows at (slice_set begins (row_at rows at).1 place) (slice_set pairs place (swapped (row_at rows at)))
one_placed rows at place begins pairs within read p =
    let own : ℕ = (row_at rows at).1 in
    let pair : ℕ × ℕ = swapped (row_at rows at) in
    let size = length-set begins own place in
    let is : place ≡ length (pairs_below own rows) + length (rows_of_entry own (take at rows)) = omega (arith, read, place_fits rows at begins pairs within p) in
    let inside_own : own < length begins = omega (arith, p.entries at within) in
    let high = place_within rows at within in
    record {
      entries = λ k inside. omega (arith, size, p.entries k inside);
      size = length-set pairs place pair ∙ p.size;
      within = omega (arith, within);
      free = λ e inside. elim (cases_eq own e) [
        | inl same ↦ get_or-set_at begins own e place 0 (sym same) inside_own ∙ is ∙ ap (λ (n : ℕ). length (pairs_below n rows) + length (rows_of_entry n (take at rows))) same
        | inr other ↦ get_or-set_other begins own e place 0 (λ same. other (sym same)) ∙ omega (arith, p.free e (omega (arith, size, inside)), other_count e rows at within other)
      ];
      placed = λ e j inside low below.
          let inside_e : e < length begins = omega (arith, size, inside) in
          let target : row_at (pairs_below (length begins) rows) j ≡ row_at (pairs_below (length (slice_set begins own place)) rows) j = ap (λ (n : ℕ). row_at (pairs_below n rows) j) (sym size) in
          elim (cases_eq j place) [
            | inl here ↦
                get_or-set_at pairs place j pair (0, 0) here (omega (arith, is, place_inside rows at within, p.size))
                ∙ sym (place_of_row rows at (length begins) within inside_own)
                ∙ ap (λ (n : ℕ). row_at (pairs_below (length begins) rows) n) (sym is ∙ sym here)
                ∙ target
            | inr apart ↦
                let old : slice_index begins e ≤ j = elim (cases_eq own e) [
                  | inl same ↦
                      let now : slice_index (slice_set begins own place) e ≡ place = get_or-set_at begins own e place 0 (sym same) inside_own in
                      let was : slice_index begins e ≡ place + 1 = ap (slice_index begins) (sym same) ∙ read in
                      omega (arith, now, was, low, apart)
                  | inr other ↦
                      let now : slice_index (slice_set begins own place) e ≡ slice_index begins e = get_or-set_other begins own e place 0 (λ same. other (sym same)) in
                      omega (arith, now, low)
                ] in
                get_or-set_other pairs place j pair (0, 0) apart ∙ p.placed e j inside_e old below ∙ target
          ];
    }

-- What a turn finds, which steps back to the row before `at`: the number of its entry, `found`.
module _ (rows : List (ℕ × ℕ)) (at found : ℕ) (begins : List ℕ) (pairs : List (ℕ × ℕ)) (some : at ≢ 0) (p : AreBeingPlaced rows at begins pairs) (read : (d : ℕ) → found ≡ get_or begins (row_at rows (at - 1)).1 d) where
  last_within : at - 1 < length rows
  last_within = omega (arith, some, p.within)

  going_on : AreBeingPlaced rows (at - 1 + 1) begins pairs
  going_on =
      let before : at ≡ at - 1 + 1 = omega (arith, some) in
      subst (λ (n : ℕ). AreBeingPlaced rows n begins pairs) before p

  pub place_found : found ≡ length (pairs_below (row_at rows (at - 1)).1 rows) + length (rows_of_entry (row_at rows (at - 1)).1 (take (at - 1) rows)) + 1
  place_found = read 0 ∙ place_fits rows (at - 1) begins pairs last_within going_on

  pub place_is_there : found - 1 < length pairs
  place_is_there = omega (arith, place_found, place_inside rows (at - 1) last_within, p.size)

  pub turn_placed : AreBeingPlaced rows (at - 1) (slice_set begins (row_at rows (at - 1)).1 (found - 1)) (slice_set pairs (found - 1) (swapped (row_at rows (at - 1))))
  turn_placed = one_placed rows (at - 1) (found - 1) begins pairs last_within (sym (read 0) ∙ omega (arith, place_found)) going_on

-- each place is one of an entry's
place_has_entry : (m j : ℕ) (rows : List (ℕ × ℕ)) → j < length (pairs_below m rows) → (e : ℕ) × (e < m) × (length (pairs_below e rows) ≤ j) × (j < length (pairs_below (suc e) rows))
place_has_entry zero j rows within = absurd (omega (arith, within))
place_has_entry (suc m) j rows within = elim (cases_lt j (length (pairs_below m rows))) [
  | inl before ↦ let found = place_has_entry m j rows before in (found.0, omega (arith, found.1), found.2, found.3)
  | inr behind ↦ (m, omega arith, behind, within)
]

module _ (rows : List (ℕ × ℕ)) (at : ℕ) (begins : List ℕ) (pairs : List (ℕ × ℕ)) (rise : PointersRise rows) (done : at ≡ 0) (p : AreBeingPlaced rows at begins pairs) where
  reversed_below : IsReversed rows (pairs_below (length begins) rows)
  reversed_below = below_is_reversed (length begins) rows rise (λ k inside. omega (arith, p.entries k inside))

  begin_of : (e : ℕ) → e < length begins → slice_index begins e ≡ length (pairs_below e rows)
  begin_of e inside = p.free e inside ∙ omega (arith, ap (λ (n : ℕ). length (rows_of_entry e (take n rows))) done)

  pub all_placed : pairs ≡ pairs_below (length begins) rows
  all_placed = ext_get_or (0, 0) pairs (pairs_below (length begins) rows) (p.size ∙ sym reversed_below.same) (λ j within.
      let found = place_has_entry (length begins) j rows (omega (arith, within, p.size, reversed_below.same)) in
      p.placed found.0 j found.1 (omega (arith, begin_of found.0 found.1, found.2)) found.3)

  pub placed_are_reversed : IsReversed rows pairs
  placed_are_reversed = subst (IsReversed rows) (sym all_placed) reversed_below

  pub placed_have_directory : IsDirectory pairs begins
  placed_have_directory = subst (λ (l : List (ℕ × ℕ)). IsDirectory l begins) (sym all_placed) (record {
    ranks = λ e inside. subst (IsRank (pairs_below (length begins) rows) (e, 0)) (sym (begin_of e inside)) (rank_of_entry e (length begins) rows rise (omega (arith, inside)));
    last = λ k inside.
        let row = reversed_below.only k inside in
        let same : (row_at rows row.0).1 ≡ (row_at (pairs_below (length begins) rows) k).0 = ap (λ (r : ℕ × ℕ). r.1) row.2 in
        omega (arith, same, p.entries row.0 row.1);
  })
