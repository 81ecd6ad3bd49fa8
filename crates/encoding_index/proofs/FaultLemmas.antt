-- The first fault, by positions. What is read of a text's lines, against its rows and its first fault.
use Rattle.std.proofs.Common.{◌≡◌, ◌≢◌, ℕ, suc, ◌+◌, ◌-◌, take, List, [], ◌∷◌, ◌++◌, length, get_or, Option, None, Some, inl, inr, refl, sym, ap, subst, ◌∙◌, length-append, append_assoc, arith, ◌<◌, ◌≤◌, Bool, true, false, Result, Ok, Err}
use Rattle.std.specs.Option.{MatchOption}
use Rattle.std.proofs.lemmas.Bool.{cases_lt}
use Rattle.std.proofs.Math.Seq.{take-append_seam, get_or-append_seam}
use Rattle.encoding_index.specs.IndexText.{lines_in, rows_in, rows_before_fault, least_above, line_fault, first_fault_behind, first_fault, memory_fault, row_fault}
use Rattle.encoding_index.specs.FaultLaws.{fault_at, NoneFaultyBefore, IsFirstFault, FaultsAreFirst}
use Rattle.encoding_index.specs.declared.fault.IndexFault.{IndexFault}
use Rattle.encoding_index.specs.declared.fault.IndexFaultKind.{IndexFaultKind}
use Rattle.std.specs.List.{last_or}
use Rattle.std.proofs.lemmas.List.{append-nil}
use Rattle.std.proofs.lemmas.List.Elements.{filter_map-append}
use Rattle.std.proofs.lemmas.Bool.Decides.{nat_tests}
use Rattle.encoding_index.specs.IndexLine.{is_skipped, row_in}
use Rattle.encoding_index.specs.laws.Outcomes.{outcome_of, outcomes}
use Rattle.encoding_index.specs.declared.fault.IndexFaultKind.TheVariants.{Row}
use Rattle.encoding_index.proofs.LineLemmas.{row_in-skipped}

fault_at-seam : (size : ℕ) (before : List (List ℕ)) (line : List ℕ) (after : List (List ℕ)) → fault_at size (before ++ line ∷ after) (length before) ≡ line_fault size (least_above (rows_in before)) line
fault_at-seam size before line after =
    ap (λ lines. line_fault size (least_above (rows_in lines)) (get_or (before ++ line ∷ after) (length before) [])) (take-append_seam before (line ∷ after))
    ∙ ap (line_fault size (least_above (rows_in before))) (get_or-append_seam before line after [])

Told : ℕ → List (List ℕ) → Option IndexFault → Type 0
Told size lines fault = MatchOption fault (NoneFaultyBefore size lines (length lines)) (IsFirstFault size lines)

none_to_the_end : (size : ℕ) (before : List (List ℕ)) → NoneFaultyBefore size (before ++ []) (length before) → Told size (before ++ []) None
unfolding Told
none_to_the_end size before none = λ k below. none k (omega (arith, length-append before []))

one_more : (size : ℕ) (lines : List (List ℕ)) (offset : ℕ) → NoneFaultyBefore size lines offset → fault_at size lines offset ≡ None → NoneFaultyBefore size lines (offset + 1)
one_more size lines offset none here k below = elim (cases_lt k offset) [
  | inl before ↦ none k before
  | inr not_before ↦
      let same : offset ≡ k = omega arith in
      subst (λ n. fault_at size lines n ≡ None) same here
]

told_by : (size : ℕ) (before : List (List ℕ)) (line : List ℕ) (after : List (List ℕ)) (found : Option IndexFaultKind) → line_fault size (least_above (rows_in before)) line ≡ found
    → NoneFaultyBefore size (before ++ line ∷ after) (length before)
    → (NoneFaultyBefore size (before ++ line ∷ after) (length before + 1) → Told size (before ++ line ∷ after) (first_fault_behind size (before ++ line ∷ []) after))
    → Told size (before ++ line ∷ after) (first_fault_behind size before (line ∷ after))
unfolding Told
told_by size before line after None right none rest =
    let lines = before ++ line ∷ after in
    subst (Told size lines) (sym (ap (λ found. elim found as (λ x. Option IndexFault) [ None ↦ first_fault_behind size (before ++ line ∷ []) after | Some kind ↦ Some (record { line = length before + 1; kind = kind }) ]) right))
    (rest (one_more size lines (length before) none (fault_at-seam size before line after ∙ right)))
told_by size before line after (Some kind) wrong none rest =
    let lines = before ++ line ∷ after in
    subst (Told size lines) (sym (ap (λ found. elim found as (λ x. Option IndexFault) [ None ↦ first_fault_behind size (before ++ line ∷ []) after | Some kind ↦ Some (record { line = length before + 1; kind = kind }) ]) wrong))
    (record {
      offset = length before;
      within = omega (arith, length-append before (line ∷ after));
      numbered = refl;
      faulty = fault_at-seam size before line after ∙ wrong;
      none_before = none;
    })

told : (size : ℕ) (before after : List (List ℕ)) → NoneFaultyBefore size (before ++ after) (length before) → Told size (before ++ after) (first_fault_behind size before after)
told size before [] none = none_to_the_end size before none
told size before (line ∷ after) none =
    let joined : (before ++ line ∷ []) ++ after ≡ before ++ line ∷ after = append_assoc before (line ∷ []) after in
    let longer : length (before ++ line ∷ []) ≡ length before + 1 = length-append before (line ∷ []) in
    told_by size before line after (line_fault size (least_above (rows_in before)) line) refl none (λ more.
    subst (λ lines. Told size lines (first_fault_behind size (before ++ line ∷ []) after)) joined
    (told size (before ++ line ∷ []) after (subst (λ lines. NoneFaultyBefore size lines (length (before ++ line ∷ []))) (sym joined) (λ k below. more k (omega arith)))))

pub faults_are_first : FaultsAreFirst
unfolding Told
faults_are_first size text = told size [] (lines_in text) (λ k below. absurd (omega arith))

-- a fault of a line is no lack of memory
pub fault_has_a_line : (size : ℕ) (text : List ℕ) (fault : IndexFault) → first_fault size text ≡ Some fault → fault ≢ memory_fault
fault_has_a_line size text fault found same =
    let first : IsFirstFault size (lines_in text) fault = subst (λ f. MatchOption f (NoneFaultyBefore size (lines_in text) (length (lines_in text))) (IsFirstFault size (lines_in text))) found (faults_are_first size text) in
    absurd (omega (arith, first.numbered, ap (λ (f : IndexFault). f.line) same))

-- What is read of a text's lines, against its rows and its first fault.

-- the fault among outcomes
abbrev pub fault_in : List (Result (ℕ × ℕ) IndexFault) → Option IndexFault
fault_in [] = None
fault_in (Ok row ∷ outcomes) = fault_in outcomes
fault_in (Err fault ∷ outcomes) = Some fault

-- the rows before it
abbrev pub rows_read : List (Result (ℕ × ℕ) IndexFault) → List (ℕ × ℕ)
rows_read [] = []
rows_read (Ok row ∷ outcomes) = row ∷ rows_read outcomes
rows_read (Err fault ∷ outcomes) = []

-- pointers rise from `least`, and are below `size`
abbrev pub AreRising : ℕ → ℕ → List (ℕ × ℕ) → Type 0
AreRising size least [] = Unit {0}
AreRising size least (row ∷ rows) = (least ≤ row.0) × (row.0 < size) × AreRising size (row.0 + 1) rows

last_or-push : {A : Type 0} (o : Option A) (xs : List A) (x : A) → last_or o (xs ++ x ∷ []) ≡ Some x
last_or-push o [] x = refl
last_or-push o (y ∷ xs) x = last_or-push (Some y) xs x

rows_in_none : (before : List (List ℕ)) (line : List ℕ) → row_in line ≡ None → rows_in (before ++ line ∷ []) ≡ rows_in before
rows_in_none before line none = filter_map-append row_in before (line ∷ []) ∙ rw none (append-nil _)

rows_in_some : (before : List (List ℕ)) (line : List ℕ) (row : ℕ × ℕ) → row_in line ≡ Some row → rows_in (before ++ line ∷ []) ≡ rows_in before ++ row ∷ []
rows_in_some before line row some = filter_map-append row_in before (line ∷ []) ∙ rw some refl

least_above_some : (before : List (List ℕ)) (line : List ℕ) (row : ℕ × ℕ) → row_in line ≡ Some row → least_above (rows_in (before ++ line ∷ [])) ≡ row.0 + 1
least_above_some before line row some = rw (rows_in_some before line row some, last_or-push None (rows_in before) row) refl

longer : (before : List (List ℕ)) (line : List ℕ) (number : ℕ) → length before ≡ number → length (before ++ line ∷ []) ≡ number + 1
longer before line number same = omega (arith, length-append before (line ∷ []))

-- ---- one line

row_fits : (size least : ℕ) (row : ℕ × ℕ) → row_fault size least row ≡ None → (least ≤ row.0) × (row.0 < size)
unfolding row_fault
row_fits size least row right = (grind (arith, nat_tests), grind (arith, nat_tests))

some_is_none : {A : Type 0} {x : A} → Some x ≡ None → ⊥
some_is_none e = cc

-- what a line is
data LineCase (size least : ℕ) (line : List ℕ) : Type 0 where
  skips : is_skipped line ≡ true → line_fault size least line ≡ None → LineCase size least line
  fails : (kind : IndexFaultKind) → is_skipped line ≡ false → outcome_of size least line ≡ Err kind → line_fault size least line ≡ Some kind → LineCase size least line
  gives : (row : ℕ × ℕ) → is_skipped line ≡ false → outcome_of size least line ≡ Ok row → line_fault size least line ≡ None → row_in line ≡ Some row → least ≤ row.0 → row.0 < size → LineCase size least line

row_case : (size least : ℕ) (line : List ℕ) (row : ℕ × ℕ) (found : Option IndexFaultKind) → is_skipped line ≡ false → row_in line ≡ Some row → row_fault size least row ≡ found → LineCase size least line
row_case size least line row None full some right = gives row full (rw (some, right, outcome_of) refl) (rw (full, some, right, line_fault) refl) some (row_fits size least row right).0 (row_fits size least row right).1
row_case size least line row (Some kind) full some wrong = fails kind full (rw (some, wrong, outcome_of) refl) (rw (full, some, wrong, line_fault) refl)

line_case_by : (size least : ℕ) (line : List ℕ) (skipped : Bool) (found : Option (ℕ × ℕ)) → is_skipped line ≡ skipped → row_in line ≡ found → LineCase size least line
line_case_by size least line true found skipped row = skips skipped (rw (skipped, line_fault) refl)
line_case_by size least line false None full none = fails Row full (rw (none, outcome_of) refl) (rw (full, none, line_fault) refl)
line_case_by size least line false (Some row) full some = row_case size least line row (row_fault size least row) full some refl

line_case : (size least : ℕ) (line : List ℕ) → LineCase size least line
line_case size least line = line_case_by size least line (is_skipped line) (row_in line) refl refl

-- ---- the first fault

fault_behind : ℕ → List (List ℕ) → List ℕ → List (List ℕ) → Option IndexFaultKind → Option IndexFault
fault_behind size before line after None = first_fault_behind size (before ++ line ∷ []) after
fault_behind size before line after (Some kind) = Some (record { line = length before + 1; kind = kind })

first_fault_step : (size : ℕ) (before : List (List ℕ)) (line : List ℕ) (after : List (List ℕ)) (found : Option IndexFaultKind)
    → line_fault size (least_above (rows_in before)) line ≡ found → first_fault_behind size before (line ∷ after) ≡ fault_behind size before line after found
unfolding fault_behind
first_fault_step size before line after found same = rw (← same) refl

at_least : (size : ℕ) (line : List ℕ) {least least' : ℕ} {found : Option IndexFaultKind} → least' ≡ least → line_fault size least line ≡ found → line_fault size least' line ≡ found
at_least size line same found = ap (λ least. line_fault size least line) same ∙ found

pub first_fault_is : (size least number : ℕ) (before after : List (List ℕ)) → least_above (rows_in before) ≡ least → length before ≡ number
    → first_fault_behind size before after ≡ fault_in (outcomes size least number after)
unfolding fault_behind
first_fault_is size least number before [] low same = refl
first_fault_is size least number before (line ∷ after) low same = elim (line_case size least line) [
  | skips skipped none ↦
      first_fault_step size before line after None (at_least size line low none)
      ∙ first_fault_is size least (number + 1) (before ++ line ∷ []) after (rw (rows_in_none before line (row_in-skipped line skipped)) low) (longer before line number same)
      ∙ rw skipped refl
  | fails kind full wrong found ↦ first_fault_step size before line after (Some kind) (at_least size line low found) ∙ rw (full, wrong, same) refl
  | gives row full right none some _ _ ↦
      first_fault_step size before line after None (at_least size line low none)
      ∙ first_fault_is size (row.0 + 1) (number + 1) (before ++ line ∷ []) after (least_above_some before line row some) (longer before line number same)
      ∙ rw (full, right) refl
]

-- ---- the rows

pub rows_rise : (size least number : ℕ) (lines : List (List ℕ)) → AreRising size least (rows_read (outcomes size least number lines))
rows_rise size least number [] = tt
rows_rise size least number (line ∷ after) = elim (line_case size least line) [
  | skips skipped _ ↦ rw skipped (rows_rise size least (number + 1) after)
  | fails kind full wrong _ ↦ rw (full, wrong) tt
  | gives row full right _ some low high ↦ rw (full, right) (low, high, rows_rise size (row.0 + 1) (number + 1) after)
]

pub rows_read_is : (size least number : ℕ) (lines : List (List ℕ)) → fault_in (outcomes size least number lines) ≡ None → rows_read (outcomes size least number lines) ≡ rows_in lines
rows_read_is size least number [] none = refl
rows_read_is size least number (line ∷ after) none = elim (line_case size least line) [
  | skips skipped _ ↦ rw (skipped, row_in-skipped line skipped) (rows_read_is size least (number + 1) after (rw skipped at none))
  | fails kind full wrong _ ↦ absurd (some_is_none (rw (full, wrong) at none))
  | gives row full right _ some low high ↦ rw (full, right, some) (ap (λ rows. row ∷ rows) (rows_read_is size (row.0 + 1) (number + 1) after (rw (full, right) at none)))
]

-- the lines before the fault, after `number` others
abbrev lines_before : ℕ → Option IndexFault → List (List ℕ) → List (List ℕ)
lines_before number None lines = lines
lines_before number (Some fault) lines = take (fault.line - (number + 1)) lines

fault_is_behind : (size least number : ℕ) (lines : List (List ℕ)) (fault : IndexFault) → fault_in (outcomes size least number lines) ≡ Some fault → number < fault.line
fault_is_behind size least number [] fault found = absurd cc
fault_is_behind size least number (line ∷ after) fault found = elim (line_case size least line) [
  | skips skipped _ ↦
      let rest = fault_is_behind size least (number + 1) after fault (rw skipped at found) in
      omega arith
  | fails kind full wrong _ ↦
      let same : Some (record { line = number + 1; kind = kind }) ≡ Some fault = rw (full, wrong) at found in
      let first : number + 1 ≡ fault.line = cc in
      omega arith
  | gives row full right _ some low high ↦
      let rest = fault_is_behind size (row.0 + 1) (number + 1) after fault (rw (full, right) at found) in
      omega arith
]

-- the first line is no faulty one
one_line_more : (number : ℕ) (line : List ℕ) (after : List (List ℕ)) (found : Option IndexFault) → ((fault : IndexFault) → found ≡ Some fault → number + 1 < fault.line)
    → lines_before number found (line ∷ after) ≡ line ∷ lines_before (number + 1) found after
one_line_more number line after None later = refl
one_line_more number line after (Some fault) later =
    let low = later fault refl in
    let same : fault.line - (number + 1) ≡ suc (fault.line - (number + 1 + 1)) = omega arith in
    ap (λ n. take n (line ∷ after)) same

no_line_more : (number : ℕ) (kind : IndexFaultKind) (lines : List (List ℕ)) → lines_before number (Some (record { line = number + 1; kind = kind })) lines ≡ []
no_line_more number kind lines =
    let none : number + 1 - (number + 1) ≡ 0 = omega arith in
    ap (λ n. take n lines) none

-- the rows that are read stand before the first fault
rows_read_before : (size least number : ℕ) (lines : List (List ℕ)) → rows_read (outcomes size least number lines) ≡ rows_in (lines_before number (fault_in (outcomes size least number lines)) lines)
rows_read_before size least number [] = refl
rows_read_before size least number (line ∷ after) = elim (line_case size least line) [
  | skips skipped _ ↦
      let all = outcomes size least (number + 1) after in
      let more = one_line_more number line after (fault_in all) (fault_is_behind size least (number + 1) after) in
      rw (skipped, more, row_in-skipped line skipped) (rows_read_before size least (number + 1) after)
  | fails kind full wrong _ ↦ rw (full, wrong, no_line_more number kind (line ∷ after)) refl
  | gives row full right _ some low high ↦
      let all = outcomes size (row.0 + 1) (number + 1) after in
      let more = one_line_more number line after (fault_in all) (fault_is_behind size (row.0 + 1) (number + 1) after) in
      rw (full, right, more, some) (ap (λ rows. row ∷ rows) (rows_read_before size (row.0 + 1) (number + 1) after))
]

before_is : (text : List ℕ) (found : Option IndexFault) → lines_before 0 found (lines_in text) ≡ elim found [ None ↦ lines_in text | Some fault ↦ take (fault.line - 1) (lines_in text) ]
before_is text None = refl
before_is text (Some fault) = refl

pub rows_before_fault_is : (size : ℕ) (text : List ℕ) → rows_before_fault size text ≡ rows_read (outcomes size 0 0 (lines_in text))
unfolding rows_before_fault
rows_before_fault_is size text =
    let lines = lines_in text in
    let found = first_fault_is size 0 0 [] lines refl refl in
    ap rows_in (sym (before_is text (first_fault size text)) ∙ ap (λ f. lines_before 0 f lines) found) ∙ sym (rows_read_before size 0 0 lines)
