-- The rows of a text without a fault: their pointers, one after another. A list of the rows of a text, as they
-- come. A list that rows are written into, one after another. The entries of a list of rows.
use Rattle.std.proofs.Common.{◌≡◌, ℕ, zero, suc, ◌+◌, List, [], ◌∷◌, None, refl, sym, subst, ◌∙◌, arith, ◌++◌, Some, Result, Ok, Err, ap, ◌≢◌, length, length-append, ◌<◌, ◌≤◌, eqb, cond, get_or, set, replicate, inl, inr, false}
use Rattle.encoding_tables.specs.PackedRows.{PointersRise, PointersAreBelow, packed_entry, flat_list}
use Rattle.encoding_index.specs.IndexText.{lines_in, text_rows, first_fault, rows_before_fault, rows_in}
use Rattle.encoding_index.proofs.FaultLemmas.{AreRising, first_fault_is, rows_rise, rows_read_is, fault_in, rows_read, rows_before_fault_is}
use Rattle.std.proofs.lemmas.List.{append_assoc, append-nil, length-set, get_or-set_other, get_or-replicate, length-replicate}
use Rattle.encoding_index.specs.laws.Outcomes.{outcomes}
use Rattle.encoding_index.specs.declared.fault.IndexFault.{IndexFault}
use Rattle.std.proofs.lemmas.Bool.{cases_order, cases_lt}
use Rattle.std.proofs.lemmas.Bool.Decides.{nat_tests}
use Rattle.std.proofs.lemmas.Grind.{get_or-set_at}
use Rattle.std.proofs.lemmas.List.FromFn.{fill_by_all, get_or-map-range_with_len, length-map-range_with_len}
use Rattle.std.specs.Prelude.{All}
use Rattle.std.proofs.Math.ListN.{get_or-eq_default}
use Rattle.encoding_index.specs.ListLaws.{IsListOf, ListsAreOfRows}

pub text_rows_rise : (size : ℕ) (text : List ℕ) → first_fault size text ≡ None → AreRising size 0 (text_rows text)
text_rows_rise size text none =
    let lines = lines_in text in
    let read = rows_read_is size 0 0 lines (sym (first_fault_is size 0 0 [] lines refl refl) ∙ none) in
    subst (AreRising size 0) read (rows_rise size 0 0 lines)

pointers_rise : (size least : ℕ) (rows : List (ℕ × ℕ)) → AreRising size least rows → PointersRise rows
pointers_rise size least [] rising k within = absurd (omega arith)
pointers_rise size least (row ∷ []) rising k within = absurd (omega arith)
pointers_rise size least (row ∷ (next ∷ rows)) rising zero within = omega (arith, rising.2.0)
pointers_rise size least (row ∷ (next ∷ rows)) rising (suc k) within =
    let same : suc k + 1 ≡ suc (k + 1) = omega arith in
    rw same (pointers_rise size (row.0 + 1) (next ∷ rows) rising.2 k (omega arith))

pointers_are_below : (size least : ℕ) (rows : List (ℕ × ℕ)) → AreRising size least rows → PointersAreBelow size rows
pointers_are_below size least [] rising k within = absurd (omega arith)
pointers_are_below size least (row ∷ rows) rising zero within = rising.1
pointers_are_below size least (row ∷ rows) rising (suc k) within = pointers_are_below size (row.0 + 1) rows rising.2 k (omega arith)

-- rows that were read of a text
pub read_rows_rise : (size : ℕ) (text : List ℕ) (rows : List (ℕ × ℕ)) → first_fault size text ≡ None → rows ≡ text_rows text → PointersRise rows
read_rows_rise size text rows none read = subst PointersRise (sym read) (pointers_rise size 0 (text_rows text) (text_rows_rise size text none))

pub read_rows_are_below : (size : ℕ) (text : List ℕ) (rows : List (ℕ × ℕ)) → first_fault size text ≡ None → rows ≡ text_rows text → PointersAreBelow size rows
read_rows_are_below size text rows none read =
    subst (PointersAreBelow size) (sym read) (pointers_are_below size 0 (text_rows text) (text_rows_rise size text none))

-- A list of the rows of a text, as they come.

-- `list` has the rows so far, and `left` is still to come of `all` the outcomes
pub record IsGathering (all : List (Result (ℕ × ℕ) IndexFault)) (list : List (ℕ × ℕ)) (left : List (Result (ℕ × ℕ) IndexFault)) : Type 0 where
  pub same : list ++ rows_read left ≡ rows_read all
  pub fault : fault_in left ≡ fault_in all

-- nothing is read
pub gathering_starts : (all : List (Result (ℕ × ℕ) IndexFault)) → IsGathering all [] all
gathering_starts all = record { same = refl; fault = refl }

-- a row is taken
pub gathering_turn : (all : List (Result (ℕ × ℕ) IndexFault)) (list : List (ℕ × ℕ)) (row : ℕ × ℕ) (left : List (Result (ℕ × ℕ) IndexFault))
    → IsGathering all list (Ok row ∷ left) → IsGathering all (list ++ row ∷ []) left
gathering_turn all list row left h = record { same = append_assoc list (row ∷ []) (rows_read left) ∙ h.same; fault = h.fault }

-- a row that is read stands before the first fault
pub gathering_has_rows : (size : ℕ) (text : List ℕ) (list : List (ℕ × ℕ)) (row : ℕ × ℕ) (left : List (Result (ℕ × ℕ) IndexFault))
    → IsGathering (outcomes size 0 0 (lines_in text)) list (Ok row ∷ left) → rows_before_fault size text ≢ []
gathering_has_rows size text list row left h none =
    let read : list ++ row ∷ rows_read left ≡ [] = h.same ∙ sym (rows_before_fault_is size text) ∙ none in
    absurd (omega (arith, ap length read, length-append list (row ∷ rows_read left)))

-- the fault is met
pub gathering_stops : (size : ℕ) (text : List ℕ) (list : List (ℕ × ℕ)) (fault : IndexFault) (left : List (Result (ℕ × ℕ) IndexFault))
    → IsGathering (outcomes size 0 0 (lines_in text)) list (Err fault ∷ left) → first_fault size text ≡ Some fault
gathering_stops size text list fault left h = first_fault_is size 0 0 [] (lines_in text) refl refl ∙ sym h.fault

-- all is read
pub gathering_ends : (size : ℕ) (text : List ℕ) (list : List (ℕ × ℕ))
    → IsGathering (outcomes size 0 0 (lines_in text)) list [] → (first_fault size text ≡ None) × (list ≡ text_rows text)
gathering_ends size text list h =
    let none = sym h.fault in
    (first_fault_is size 0 0 [] (lines_in text) refl refl ∙ none, sym (append-nil list) ∙ h.same ∙ rows_read_is size 0 0 (lines_in text) none)

-- A list that rows are written into, one after another.

-- the list with the code point of each row at its pointer
abbrev pub filled : List ℕ → List (ℕ × ℕ) → List ℕ
filled list [] = list
filled list (row ∷ rows) = filled (set list row.0 row.1) rows

length-filled : (list : List ℕ) (rows : List (ℕ × ℕ)) → length (filled list rows) ≡ length list
length-filled list [] = refl
length-filled list (row ∷ rows) = length-filled (set list row.0 row.1) rows ∙ length-set list row.0 row.1

-- `packed_entry`, with a value for pointers of no row
entry_or : List (ℕ × ℕ) → ℕ → ℕ → ℕ
entry_or [] pointer d = d
entry_or (row ∷ rows) pointer d = cond (eqb row.0 pointer) row.1 (entry_or rows pointer d)

entry_or_zero : (rows : List (ℕ × ℕ)) (pointer : ℕ) → entry_or rows pointer 0 ≡ packed_entry rows pointer
unfolding entry_or
entry_or_zero [] pointer = refl
entry_or_zero (row ∷ rows) pointer = ap (λ d. cond (eqb row.0 pointer) row.1 d) (entry_or_zero rows pointer)

entry_or_below : (size least : ℕ) (rows : List (ℕ × ℕ)) (pointer d : ℕ) → AreRising size least rows → pointer < least → entry_or rows pointer d ≡ d
unfolding entry_or
entry_or_below size least [] pointer d rising below = refl
entry_or_below size least (row ∷ rows) pointer d rising below =
    let low : least ≤ row.0 = rising.0 in
    let rest = entry_or_below size (row.0 + 1) rows pointer d rising.2 (omega arith) in
    grind (arith, nat_tests)

get_or-filled : (size least : ℕ) (list : List ℕ) (rows : List (ℕ × ℕ)) (pointer : ℕ) → AreRising size least rows → length list ≡ size
    → get_or (filled list rows) pointer 0 ≡ entry_or rows pointer (get_or list pointer 0)
unfolding entry_or
get_or-filled size least list [] pointer rising sized = refl
get_or-filled size least list (row ∷ rows) pointer rising sized =
    let high : row.0 < size = rising.1 in
    let wrote = set list row.0 row.1 in
    let rest = get_or-filled size (row.0 + 1) wrote rows pointer rising.2 (length-set list row.0 row.1 ∙ sized) in
    elim (cases_order row.0 pointer) [
      | inl same ↦
          let none = entry_or_below size (row.0 + 1) rows pointer (get_or wrote pointer 0) rising.2 (omega arith) in
          let put = get_or-set_at list row.0 pointer row.1 0 (sym same) (omega arith) in
          grind (arith, nat_tests)
      | inr other ↦
          let kept = get_or-set_other list row.0 pointer row.1 0 (λ e. omega arith) in
          let moved = ap (entry_or rows pointer) kept in
          grind (arith, nat_tests)
    ]

pub filled_is_flat : (size least : ℕ) (rows : List (ℕ × ℕ)) → AreRising size least rows → filled (replicate size 0) rows ≡ flat_list size rows
filled_is_flat size least rows rising = fill_by_all (packed_entry rows) (filled (replicate size 0) rows) size 0 (length-filled (replicate size 0) rows ∙ length-replicate size 0) (λ k below.
    get_or-filled size least (replicate size 0) rows k rising (length-replicate size 0)
    ∙ ap (entry_or rows k) (get_or-replicate size k 0 0 below)
    ∙ entry_or_zero rows k)

-- rows were written into a list of zeros, and `left` is still to come of `all` the outcomes
pub record IsFilling (size : ℕ) (all : List (Result (ℕ × ℕ) IndexFault)) (list : List ℕ) (left : List (Result (ℕ × ℕ) IndexFault)) : Type 0 where
  pub least : ℕ
  pub rising : AreRising size least (rows_read left)
  pub sized : length list ≡ size
  pub same : filled list (rows_read left) ≡ filled (replicate size 0) (rows_read all)
  pub fault : fault_in left ≡ fault_in all

-- nothing is read
pub filling_starts : (size : ℕ) (lines : List (List ℕ)) → IsFilling size (outcomes size 0 0 lines) (replicate size 0) (outcomes size 0 0 lines)
filling_starts size lines = record {
  least = 0;
  rising = rows_rise size 0 0 lines;
  sized = length-replicate size 0;
  same = refl;
  fault = refl;
}

-- a row is written
pub filling_turn : (size : ℕ) (all : List (Result (ℕ × ℕ) IndexFault)) (list : List ℕ) (row : ℕ × ℕ) (left : List (Result (ℕ × ℕ) IndexFault))
    → IsFilling size all list (Ok row ∷ left) → (row.0 < size) × IsFilling size all (set list row.0 row.1) left
filling_turn size all list row left h = (
  h.rising.1,
  record {
    least = row.0 + 1;
    rising = h.rising.2;
    sized = length-set list row.0 row.1 ∙ h.sized;
    same = h.same;
    fault = h.fault;
  },
)

-- the fault is met
pub filling_stops : (size : ℕ) (text : List ℕ) (list : List ℕ) (fault : IndexFault) (left : List (Result (ℕ × ℕ) IndexFault))
    → IsFilling size (outcomes size 0 0 (lines_in text)) list (Err fault ∷ left) → first_fault size text ≡ Some fault
filling_stops size text list fault left h = first_fault_is size 0 0 [] (lines_in text) refl refl ∙ sym h.fault

-- all is read
pub filling_ends : (size : ℕ) (text : List ℕ) (list : List ℕ)
    → IsFilling size (outcomes size 0 0 (lines_in text)) list [] → (first_fault size text ≡ None) × (list ≡ flat_list size (rows_in (lines_in text)))
filling_ends size text list h =
    let lines = lines_in text in
    let none = sym h.fault in
    let flat = filled_is_flat size 0 (rows_read (outcomes size 0 0 lines)) (rows_rise size 0 0 lines) in
    (first_fault_is size 0 0 [] lines refl refl ∙ none, h.same ∙ flat ∙ ap (flat_list size) (rows_read_is size 0 0 lines none))

-- The entries of a list of rows.

length-flat_list : (size : ℕ) (rows : List (ℕ × ℕ)) → length (flat_list size rows) ≡ size
length-flat_list size rows = length-map-range_with_len (packed_entry rows) 0 size

entry_within : (size : ℕ) (rows : List (ℕ × ℕ)) (pointer : ℕ) → pointer < size → get_or (flat_list size rows) pointer 0 ≡ packed_entry rows pointer
entry_within size rows pointer below = get_or-map-range_with_len (packed_entry rows) 0 size pointer pointer 0 below (omega arith)

entry_of_none : (rows : List (ℕ × ℕ)) (pointer : ℕ) → All (λ row. row.0 ≢ pointer) rows → packed_entry rows pointer ≡ 0
entry_of_none [] pointer none = refl
entry_of_none (row ∷ rows) pointer none =
    let other : row.0 ≢ pointer = none 0 row (omega arith) in
    let rest = entry_of_none rows pointer (λ k d below. none (suc k) d (omega arith)) in
    grind (arith, nat_tests)

record IsEntry (size least : ℕ) (rows : List (ℕ × ℕ)) (row : ℕ × ℕ) : Type 0 where
  pub above : least ≤ row.0
  pub below : row.0 < size
  pub entry : packed_entry rows row.0 ≡ row.1

entry_of_row : (size least : ℕ) (rows : List (ℕ × ℕ)) (k : ℕ) (d : ℕ × ℕ) → AreRising size least rows → k < length rows → IsEntry size least rows (get_or rows k d)
entry_of_row size least [] k d rising within = absurd (omega arith)
entry_of_row size least (row ∷ rows) zero d rising within = record { above = rising.0; below = rising.1; entry = grind (arith, nat_tests) }
entry_of_row size least (row ∷ rows) (suc k) d rising within =
    let rest = entry_of_row size (row.0 + 1) rows k d rising.2 (omega arith) in
    let low : least ≤ row.0 = rising.0 in
    let other : eqb row.0 (get_or rows k d).0 ≡ false = grind (arith, nat_tests, rest.above) in
    record { above = omega (arith, rest.above); below = rest.below; entry = rw other rest.entry }

list_of_rows : (size least : ℕ) (rows : List (ℕ × ℕ)) → AreRising size least rows → IsListOf size rows (flat_list size rows)
list_of_rows size least rows rising = record {
  sized = length-flat_list size rows;
  mapped = λ k d within.
      let row = entry_of_row size least rows k d rising within in
      (row.below, entry_within size rows (get_or rows k d).0 row.below ∙ row.entry);
  unmapped = λ pointer none. elim (cases_lt pointer size) [
    | inl below ↦ entry_within size rows pointer below ∙ entry_of_none rows pointer none
    | inr above ↦ get_or-eq_default (flat_list size rows) 0 (omega (arith, length-flat_list size rows))
  ];
}

pub lists_are_of_rows : ListsAreOfRows
lists_are_of_rows size text none = list_of_rows size 0 (text_rows text) (text_rows_rise size text none)
