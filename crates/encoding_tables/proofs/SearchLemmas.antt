-- The order of rows, and the steps of a binary search among rows in order. A directory of rows in order: it narrows
-- a search to the rows of one first number. Rows whose first numbers rise, and the last of them at or below a
-- number.
use Rattle.std.proofs.Common.{◌≡◌, ℕ, ◌+◌, ◌-◌, ◌*◌, ◌/◌, ◌<◌, ◌≤◌, ◌^◌, ◌⊎◌, inl, inr, zero, suc, List, length, arith, refl, pow-suc, nat_lt, ◌==◌, ◌≢◌, [], ◌∷◌, ◌++◌, ◌∙◌, ap, drop, length-drop, length-take, length-append, None, Some}
use Rattle.std.specs.Prelude.{◌&&◌, slice_range, slice_index, min}
use Rattle.encoding_tables.specs.calls.PackedLists.{IsSecond}
use Rattle.encoding_tables.specs.PackedRows.{PointersAreBelow}
use Rattle.std.proofs.lemmas.Bool.{cases_eq, or_cases, and_parts, ltb-true, eqb-true, lt-ltb, le-ltb, eq-eqb, cases_lt}
use Rattle.encoding_tables.specs.calls.SortedRows.{row_at, IsBelow, AreRising, IsRank, IsDirectory, IsSpan}
use Rattle.std.proofs.lemmas.List.Edits.{get_or-between}
use Rattle.std.proofs.lemmas.List.{get_or_append_left}
use Rattle.std.proofs.Math.Seq.{get_or-append_right}
use Rattle.std.proofs.Math.Nat.{sub_self}
use Rattle.encoding_tables.specs.Ranges.{last_row}

-- ---- the order

pub below_cases : (r s : ℕ × ℕ) → IsBelow r s → (r.0 < s.0) ⊎ ((r.0 ≡ s.0) × (r.1 < s.1))
below_cases r s e = elim (or_cases (nat_lt r.0 s.0) (r.0 == s.0 && nat_lt r.1 s.1) e) [
  | inl less ↦ inl (ltb-true r.0 s.0 less)
  | inr same ↦ let parts = and_parts (r.0 == s.0) (nat_lt r.1 s.1) same in inr (eqb-true r.0 s.0 parts.0, ltb-true r.1 s.1 parts.1)
]

pub below_first : (r s : ℕ × ℕ) → r.0 < s.0 → IsBelow r s
below_first r s less = rw (lt-ltb r.0 s.0 less) refl

pub below_second : (r s : ℕ × ℕ) → r.0 ≡ s.0 → r.1 < s.1 → IsBelow r s
below_second r s same less = rw (le-ltb r.0 s.0 (omega arith), eq-eqb r.0 s.0 same, lt-ltb r.1 s.1 less) refl

pub below_at_most : (r s : ℕ × ℕ) → IsBelow r s → r.0 ≤ s.0
below_at_most r s e = elim (below_cases r s e) [ inl less ↦ omega arith | inr same ↦ omega (arith, same.0) ]

pub below_below : (r s key : ℕ × ℕ) → IsBelow r s → IsBelow s key → IsBelow r key
below_below r s key a b = elim (below_cases r s a) [
  | inl x ↦ elim (below_cases s key b) [ inl y ↦ below_first r key (omega arith) | inr y ↦ below_first r key (omega (arith, y.0)) ]
  | inr x ↦ elim (below_cases s key b) [ inl y ↦ below_first r key (omega (arith, x.0)) | inr y ↦ below_second r key (omega (arith, x.0, y.0)) (omega (arith, x.1, y.1)) ]
]

-- each row is below all that stand after it
far : (rows : List (ℕ × ℕ)) → AreRising rows → (i n : ℕ) → i + suc n < length rows → IsBelow (row_at rows i) (row_at rows (i + suc n))
far rows rise i zero within =
    let next : i + 1 ≡ i + suc zero = omega arith in
    rw (← next) (rise i (omega arith))
far rows rise i (suc n) within =
    let next : i + suc n + 1 ≡ i + suc (suc n) = omega arith in
    rw (← next) (below_below (row_at rows i) (row_at rows (i + suc n)) (row_at rows (i + suc n + 1)) (far rows rise i n (omega arith)) (rise (i + suc n) (omega arith)))

pub rises : (rows : List (ℕ × ℕ)) → AreRising rows → (i j : ℕ) → i < j → j < length rows → IsBelow (row_at rows i) (row_at rows j)
rises rows rise i j less within =
    let same : i + suc (j - i - 1) ≡ j = omega arith in
    rw (← same) (far rows rise i (j - i - 1) (omega arith))

-- ---- a search

pub record IsNarrowed (rows : List (ℕ × ℕ)) (key : ℕ × ℕ) (low high compared : ℕ) : Type 0 where
  pub small : length rows < 2 ^ 64
  pub ordered : low ≤ high
  pub within : high ≤ length rows
  pub below : (k : ℕ) → k < low → IsBelow (row_at rows k) key
  pub others : (k : ℕ) → high ≤ k → k < length rows → ¬ (IsBelow (row_at rows k) key)
  pub digits : (d : ℕ) → length rows < 2 ^ d → (compared ≤ d) × (high - low < 2 ^ (d - compared))

halved : (n m e : ℕ) → 0 < n → n < 2 ^ e → m ≤ n / 2 → (0 < e) × (m < 2 ^ (e - 1))
halved n m zero some under half = absurd (omega arith)
halved n m (suc e) some under half =
    let twice : 2 ^ suc e ≡ 2 ^ e * 2 = pow-suc 2 e in
    let same : suc e - 1 ≡ e = omega arith in
    (omega arith, rw same (omega (arith, twice)))

fewer : (d compared n m : ℕ) → compared ≤ d → 0 < n → n < 2 ^ (d - compared) → m ≤ n / 2 → (compared + 1 ≤ d) × (m < 2 ^ (d - (compared + 1)))
fewer d compared n m fits some under half =
    let h = halved n m (d - compared) some under half in
    let same : d - (compared + 1) ≡ d - compared - 1 = omega arith in
    (omega (arith, h.0), rw same h.1)

pub step_up : (rows : List (ℕ × ℕ)) (key : ℕ × ℕ) (low high compared middle : ℕ) → AreRising rows → IsNarrowed rows key low high compared → low < high
    → middle ≡ low + (high - low) / 2 → IsBelow (row_at rows middle) key → IsNarrowed rows key (middle + 1) high (compared + 1)
step_up rows key low high compared middle rise n some is below = record {
  small = n.small;
  ordered = omega (arith, n.within);
  within = n.within;
  below = λ k less. elim (cases_eq k middle) [
    | inl same ↦ rw same below
    | inr apart ↦ below_below (row_at rows k) (row_at rows middle) key (rises rows rise k middle (omega arith) (omega (arith, n.within))) below
  ];
  others = n.others;
  digits = λ d small. let old = n.digits d small in fewer d compared (high - low) (high - (middle + 1)) old.0 (omega arith) old.1 (omega arith);
}

pub step_down : (rows : List (ℕ × ℕ)) (key : ℕ × ℕ) (low high compared middle : ℕ) → AreRising rows → IsNarrowed rows key low high compared → low < high
    → middle ≡ low + (high - low) / 2 → ¬ (IsBelow (row_at rows middle) key) → IsNarrowed rows key low middle (compared + 1)
step_down rows key low high compared middle rise n some is other = record {
  small = n.small;
  ordered = omega arith;
  within = omega (arith, n.within);
  below = n.below;
  others = λ k from within below. elim (cases_eq k middle) [
    | inl same ↦ other (rw same at below)
    | inr apart ↦ other (below_below (row_at rows middle) (row_at rows k) key (rises rows rise middle k (omega arith) within) below)
  ];
  digits = λ d small. let old = n.digits d small in fewer d compared (high - low) (middle - low) old.0 (omega arith) old.1 (omega arith);
}

-- A directory of rows in order: it narrows a search to the rows of one first number.

-- ---- rows before a first number

-- a row is below the pair of a first number and 0 if its own is less
below_start : (row : ℕ × ℕ) (first : ℕ) → IsBelow row (first, 0) → row.0 < first
below_start row first e = elim (below_cases row (first, 0) e) [ inl less ↦ less | inr same ↦ absurd (omega (arith, same.1)) ]

from_start : (row : ℕ × ℕ) (first : ℕ) → ¬ (IsBelow row (first, 0)) → first ≤ row.0
from_start row first e = elim (cases_lt row.0 first) [ inl less ↦ absurd (e (below_first row (first, 0) less)) | inr from ↦ from ]

-- ---- a part of the rows

pub row_of_part : (rows : List (ℕ × ℕ)) (from to k : ℕ) → from + k < to → row_at (slice_range rows from to) k ≡ row_at rows (from + k)
row_of_part rows from to k within = get_or-between rows from to k (0, 0) within

pub part_length : (rows : List (ℕ × ℕ)) (from to : ℕ) → length (slice_range rows from to) ≡ min (to - from) (length rows - from)
part_length rows from to = length-take (to - from) (drop from rows) ∙ ap (λ n. min (to - from) n) (length-drop from rows)

pub part_rises : (rows : List (ℕ × ℕ)) (from to : ℕ) → AreRising rows → AreRising (slice_range rows from to)
part_rises rows from to rise k within =
    let len = part_length rows from to in
    let next : from + k + 1 ≡ from + (k + 1) = omega arith in
    rw (row_of_part rows from to k (omega (arith, len)), row_of_part rows from to (k + 1) (omega (arith, len)), ← next) (rise (from + k) (omega (arith, len)))

-- the rank among a part is the rank among all, if what stands before the part is below the key and what stands after it
-- is not
rank_of_part : (rows : List (ℕ × ℕ)) (key : ℕ × ℕ) (from to n : ℕ) → from ≤ to → to ≤ length rows → ((k : ℕ) → k < from → IsBelow (row_at rows k) key)
    → ((k : ℕ) → to ≤ k → k < length rows → ¬ (IsBelow (row_at rows k) key)) → IsRank (slice_range rows from to) key n → IsRank rows key (from + n)
rank_of_part rows key from to n ordered inside before behind rank =
    let len : length (slice_range rows from to) ≡ to - from = part_length rows from to ∙ omega arith in
    record {
      within = omega (arith, rank.within, len);
      below = λ k less. elim (cases_lt k from) [
        | inl early ↦ before k early
        | inr later ↦
            let back : from + (k - from) ≡ k = omega arith in
            let same = row_of_part rows from to (k - from) (omega (arith, rank.within, len)) in
            rw (← back, ← same) (rank.below (k - from) (omega arith))
      ];
      others = λ k past within. elim (cases_lt k to) [
        | inl early ↦
            let back : from + (k - from) ≡ k = omega arith in
            let same = row_of_part rows from to (k - from) (omega arith) in
            rw (← back, ← same) (rank.others (k - from) (omega arith) (omega (arith, len)))
        | inr later ↦ behind k later within
      ];
    }

-- ---- a look at the directory

span_ordered : (rows : List (ℕ × ℕ)) (first from to : ℕ) → IsRank rows (first, 0) from → IsRank rows (first + 1, 0) to → from ≤ to
span_ordered rows first from to begins ends = elim (cases_lt to from) [
  | inr ordered ↦ ordered
  | inl wrong ↦
      let low = below_start (row_at rows to) first (begins.below to wrong) in
      let high = from_start (row_at rows to) (first + 1) (ends.others to (omega arith) (omega (arith, begins.within))) in
      absurd (omega (arith, low, high))
]

pub span_here : (rows : List (ℕ × ℕ)) (begins : List ℕ) (first : ℕ) → IsDirectory rows begins → first + 1 < length begins → IsSpan rows first (slice_index begins first) (slice_index begins (first + 1))
span_here rows begins first dir within =
    let this = dir.ranks first (omega arith) in
    let next = dir.ranks (first + 1) within in
    record { begins = this; ends = next; ordered = span_ordered rows first (slice_index begins first) (slice_index begins (first + 1)) this next; inside = next.within }

all_below : (rows : List (ℕ × ℕ)) (begins : List ℕ) (first : ℕ) → IsDirectory rows begins → length begins ≤ first + 1 → IsRank rows (first, 0) (length rows)
all_below rows begins first dir past = record {
  within = omega arith;
  below = λ k within. let small = dir.last k within in below_first (row_at rows k) (first, 0) (omega (arith, small));
  others = λ k past within. absurd (omega arith);
}

pub span_past : (rows : List (ℕ × ℕ)) (begins : List ℕ) (first : ℕ) → IsDirectory rows begins → length begins ≤ first + 1 → IsSpan rows first (length rows) (length rows)
span_past rows begins first dir past =
    record { begins = all_below rows begins first dir past; ends = all_below rows begins (first + 1) dir (omega arith); ordered = omega arith; inside = omega arith }

pub rank_in_span : (rows : List (ℕ × ℕ)) (key : ℕ × ℕ) (from to n : ℕ) → IsSpan rows key.0 from to → IsRank (slice_range rows from to) key n → IsRank rows key (from + n)
rank_in_span rows key from to n span rank =
    rank_of_part rows key from to n span.ordered span.inside
    (λ k less. let low = below_start (row_at rows k) key.0 (span.begins.below k less) in below_first (row_at rows k) key low)
    (λ k past within is.
    let high = from_start (row_at rows k) (key.0 + 1) (span.ends.others k past within) in
    let low = below_at_most (row_at rows k) key is in
    absurd (omega (arith, high, low)))
    rank

-- the rows of a span have its first number
pub row_in_span : (rows : List (ℕ × ℕ)) (first from to k : ℕ) → IsSpan rows first from to → from ≤ k → k < to → (row_at rows k).0 ≡ first
row_in_span rows first from to k span past early =
    let low = from_start (row_at rows k) first (span.begins.others k past (omega (arith, span.inside))) in
    let high = below_start (row_at rows k) (first + 1) (span.ends.below k early) in
    omega (arith, low, high)

-- and the row after it has not
pub row_past_span : (rows : List (ℕ × ℕ)) (first from to : ℕ) → IsSpan rows first from to → to < length rows → (row_at rows to).0 ≢ first
row_past_span rows first from to span inside is =
    let high = from_start (row_at rows to) (first + 1) (span.ends.others to (omega arith) inside) in
    omega (arith, high, is)

-- nor has the row before it
pub row_before_span : (rows : List (ℕ × ℕ)) (first from to k : ℕ) → IsSpan rows first from to → k < from → (row_at rows k).0 ≢ first
row_before_span rows first from to k span early is =
    let low = below_start (row_at rows k) first (span.begins.below k early) in
    omega (arith, low, is)

-- ---- the row with a first number

-- the row at a place, in the part that has it alone
row_alone : (rows : List (ℕ × ℕ)) (place : ℕ) → row_at (slice_range rows place (place + 1)) 0 ≡ row_at rows place
row_alone rows place =
    let here : place + 0 ≡ place = omega arith in
    row_of_part rows place (place + 1) 0 (omega arith) ∙ ap (λ q. row_at rows q) here

-- if the row at the place of a number is below the next number, it has the number
pub second_at_place : (rows : List (ℕ × ℕ)) (first place n : ℕ) → IsRank rows (first, 0) place → place < length rows → IsRank (slice_range rows place (place + 1)) (first + 1, 0) n → n ≡ 1
    → IsSecond rows first (Some (row_at rows place).1)
second_at_place rows first place n rank within next one =
    let low = below_start (row_at (slice_range rows place (place + 1)) 0) (first + 1) (next.below 0 (omega (arith, one))) in
    let from = from_start (row_at rows place) first (rank.others place (omega arith) within) in
    let is : (row_at rows place).0 ≡ first = omega (arith, low, from, ap (λ (r : ℕ × ℕ). r.0) (row_alone rows place)) in
    (place, within, ap (λ q. (q, (row_at rows place).1)) is)

-- and if it is not, no row has it
pub none_at_place : (rows : List (ℕ × ℕ)) (first place n : ℕ) → AreRising rows → IsRank rows (first, 0) place → place < length rows → IsRank (slice_range rows place (place + 1)) (first + 1, 0) n → n ≢ 1
    → IsSecond rows first None
none_at_place rows first place n rise rank within next other k inside is =
    let size : length (slice_range rows place (place + 1)) ≡ 1 = part_length rows place (place + 1) ∙ omega (arith, within) in
    let from = from_start (row_at (slice_range rows place (place + 1)) 0) (first + 1) (next.others 0 (omega (arith, next.within, size, other)) (omega (arith, size))) in
    let above : first + 1 ≤ (row_at rows place).0 = omega (arith, from, ap (λ (r : ℕ × ℕ). r.0) (row_alone rows place)) in
    elim (cases_lt k place) [
      | inl early ↦ let low = below_start (row_at rows k) first (rank.below k early) in omega (arith, low, is)
      | inr late ↦ elim (cases_eq k place) [
        | inl here ↦ omega (arith, above, is, ap (λ (q : ℕ). (row_at rows q).0) here)
        | inr later ↦
            let up_to = below_at_most (row_at rows place) (row_at rows k) (rises rows rise place k (omega (arith, late, later)) inside) in
            omega (arith, up_to, above, is)
      ]
    ]

-- ---- how a directory is made

-- the numbers up to the one of the row at `offset`, as far as they are there
pub record IsBuilding (rows : List (ℕ × ℕ)) (begins : List ℕ) (offset : ℕ) : Type 0 where
  pub ranks : (first : ℕ) → first < length begins → IsRank rows (first, 0) (slice_index begins first)
  pub passed : (k : ℕ) → k < offset → (row_at rows k).0 < length begins
  pub inside : (first : ℕ) → first < length begins → slice_index begins first < length rows
  pub short : length begins ≤ 2 ^ 16

one_more : (rows : List (ℕ × ℕ)) (begins : List ℕ) (rank : ℕ) → ((b : ℕ) → b < length begins → IsRank rows (b, 0) (slice_index begins b)) → IsRank rows (length begins, 0) rank
    → (b : ℕ) → b < length (begins ++ rank ∷ []) → IsRank rows (b, 0) (slice_index (begins ++ rank ∷ []) b)
one_more rows begins rank ranks last b less = elim (cases_lt b (length begins)) [
  | inl early ↦ rw (get_or_append_left begins (rank ∷ []) 0 b early) (ranks b early)
  | inr late ↦
      let here : b ≡ length begins = omega (arith, length-append begins (rank ∷ [])) in
      rw (here, get_or-append_right begins (rank ∷ []) (length begins) 0 (omega arith), sub_self (length begins)) last
]

no_row_before : (rows : List (ℕ × ℕ)) (offset first : ℕ) → AreRising rows → offset ≤ length rows → ((k : ℕ) → k < offset → (row_at rows k).0 < first)
    → (offset < length rows → first ≤ (row_at rows offset).0) → IsRank rows (first, 0) offset
no_row_before rows offset first rise within before from = record {
  within = within;
  below = λ k less. below_first (row_at rows k) (first, 0) (before k less);
  others = λ k past inside is.
      let low = below_start (row_at rows k) first is in
      let high = from (omega arith) in
      elim (cases_eq k offset) [
        | inl same ↦ absurd (omega (arith, low, rw (← same) at high))
        | inr apart ↦ absurd (omega (arith, low, high, below_at_most (row_at rows offset) (row_at rows k) (rises rows rise offset k (omega arith) inside)))
      ];
}

pub number_built : (rows : List (ℕ × ℕ)) (begins : List ℕ) (offset : ℕ) → AreRising rows → PointersAreBelow (2 ^ 16) rows → offset < length rows → IsBuilding rows begins offset
    → length begins ≤ (row_at rows offset).0 → IsBuilding rows (begins ++ offset ∷ []) offset
number_built rows begins offset rise below within so_far left = record {
  ranks = one_more rows begins offset so_far.ranks (no_row_before rows offset (length begins) rise (omega arith) so_far.passed (λ _. left));
  passed = λ k less. omega (arith, so_far.passed k less, length-append begins (offset ∷ []));
  inside = λ b less. elim (cases_lt b (length begins)) [
    | inl early ↦ rw (get_or_append_left begins (offset ∷ []) 0 b early) (so_far.inside b early)
    | inr late ↦
        let here : b ≡ length begins = omega (arith, length-append begins (offset ∷ [])) in
        rw (here, get_or-append_right begins (offset ∷ []) (length begins) 0 (omega arith), sub_self (length begins)) within
  ];
  short = omega (arith, left, below offset within, length-append begins (offset ∷ []));
}

pub row_passed : (rows : List (ℕ × ℕ)) (begins : List ℕ) (offset : ℕ) → IsBuilding rows begins offset → (row_at rows offset).0 < length begins → IsBuilding rows begins (offset + 1)
row_passed rows begins offset so_far above = record {
  ranks = so_far.ranks;
  inside = so_far.inside;
  short = so_far.short;
  passed = λ k less. elim (cases_lt k offset) [
    | inl early ↦ so_far.passed k early
    | inr late ↦ let here : k ≡ offset = omega arith in rw here above
  ];
}

-- Rows whose first numbers rise, and the last of them at or below a number.

-- ---- rising

-- the first numbers rise, from `least` on
abbrev pub AreFrom : ℕ → List (ℕ × ℕ) → Type 0
AreFrom least [] = Unit {0}
AreFrom least (r ∷ rows) = (least ≤ r.0) × AreFrom (r.0 + 1) rows

pub from_less : (least more : ℕ) (rows : List (ℕ × ℕ)) → least ≤ more → AreFrom more rows → AreFrom least rows
from_less least more [] less from = tt
from_less least more (r ∷ rows) less from = (omega (arith, from.0), from.1)

first_from : (least : ℕ) (rows : List (ℕ × ℕ)) → AreFrom least rows → 0 < length rows → least ≤ (row_at rows zero).0
first_from least [] from some = absurd (omega arith)
first_from least (r ∷ rows) from some = from.0

in_prefix : (r : ℕ × ℕ) (rows : List (ℕ × ℕ)) → (0 < length rows → r.0 < (row_at rows zero).0) → AreRising rows → AreRising (r ∷ rows)
in_prefix r rows first rise zero within = let next : zero + 1 ≡ suc zero = omega arith in rw next (below_first r (row_at rows zero) (first (omega arith)))
in_prefix r rows first rise (suc k) within = let next : suc k + 1 ≡ suc (k + 1) = omega arith in rw next (rise k (omega arith))

pub rising : (least : ℕ) (rows : List (ℕ × ℕ)) → AreFrom least rows → AreRising rows
rising least [] from = λ k within. absurd (omega arith)
rising least (r ∷ rows) from = in_prefix r rows (λ some. let first = first_from (r.0 + 1) rows from.1 some in omega arith) (rising (r.0 + 1) rows from.1)

-- ---- the last row at or below a number

pub none_from : (n least : ℕ) (rows : List (ℕ × ℕ)) → AreFrom least rows → n < least → last_row n rows ≡ None
none_from n least [] from less = refl
none_from n least (r ∷ rows) from less = rw (none_from n (r.0 + 1) rows from.1 (omega (arith, from.0)), lt-ltb n r.0 (omega (arith, from.0))) refl

none_at : (n : ℕ) (rows : List (ℕ × ℕ)) → ((j : ℕ) → j < length rows → n < (row_at rows j).0) → last_row n rows ≡ None
none_at n [] above = refl
none_at n (r ∷ rows) above =
    let here : n < r.0 = above zero (omega arith) in
    rw (none_at n rows (λ j within. above (suc j) (omega arith)), lt-ltb n r.0 here) refl

last_at : (n : ℕ) (rows : List (ℕ × ℕ)) (k : ℕ) → k < length rows → (row_at rows k).0 ≤ n
    → ((j : ℕ) → k < j → j < length rows → n < (row_at rows j).0) → last_row n rows ≡ Some (row_at rows k)
last_at n [] k within from above = absurd (omega arith)
last_at n (r ∷ rows) zero within from above = rw (none_at n rows (λ j less. above (suc j) (omega arith) (omega arith)), le-ltb n r.0 from) refl
last_at n (r ∷ rows) (suc k) within from above = rw (last_at n rows k (omega arith) from (λ j more less. above (suc j) (omega arith) (omega arith))) refl

-- a row is below the pair of the next number and 0 if its first number is not above
below_next : (n : ℕ) (r : ℕ × ℕ) → IsBelow r (n + 1, 0) → r.0 ≤ n
below_next n r below = elim (below_cases r (n + 1, 0) below) [ inl less ↦ omega arith | inr same ↦ absurd (omega (arith, same.1)) ]

not_below_next : (n : ℕ) (r : ℕ × ℕ) → ¬ (IsBelow r (n + 1, 0)) → n < r.0
not_below_next n r other = elim (cases_lt n r.0) [ inl less ↦ less | inr from ↦ absurd (other (below_first r (n + 1, 0) (omega arith))) ]

pub none_below : (n rank : ℕ) (rows : List (ℕ × ℕ)) → rank ≡ 0 → IsRank rows (n + 1, 0) rank → last_row n rows ≡ None
none_below n rank rows none is = none_at n rows (λ j within. not_below_next n (row_at rows j) (is.others j (omega arith) within))

pub some_below : (n rank : ℕ) (rows : List (ℕ × ℕ)) → rank ≢ 0 → IsRank rows (n + 1, 0) rank → last_row n rows ≡ Some (row_at rows (rank - 1))
some_below n rank rows some is =
    last_at n rows (rank - 1) (omega (arith, is.within)) (below_next n (row_at rows (rank - 1)) (is.below (rank - 1) (omega arith)))
    (λ j more less. not_below_next n (row_at rows j) (is.others j (omega arith) less))
