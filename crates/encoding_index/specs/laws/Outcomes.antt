-- What goes through the rows of a text gives, one after another: each row, or at last the first fault.
use Rattle.std.specs.Prelude.{ℕ, ◌+◌, if◌then◌else◌, List, [], ◌∷◌, Some, None, Result, Ok, Err}
use Rattle.encoding_index.specs.IndexLine.{is_skipped, row_in}
use Rattle.encoding_index.specs.IndexText.{row_fault}
use Rattle.encoding_index.specs.declared.fault.IndexFault.{IndexFault}
use Rattle.encoding_index.specs.declared.fault.IndexFaultKind.{IndexFaultKind}
use Rattle.encoding_index.specs.declared.fault.IndexFaultKind.TheVariants.{Row}

-- a line that is not skipped: its row, or what is wrong
abbrev pub outcome_of : ℕ → ℕ → List ℕ → Result (ℕ × ℕ) IndexFaultKind
outcome_of size least line =
    elim (row_in line) [ None ↦ Err Row | Some row ↦ elim (row_fault size least row) [ None ↦ Ok row | Some kind ↦ Err kind ] ]

-- the outcomes of lines, of which the first has the number `number + 1`, if pointers from `least` are in order
abbrev pub outcomes : ℕ → ℕ → ℕ → List (List ℕ) → List (Result (ℕ × ℕ) IndexFault)
outcomes size least number [] = []
outcomes size least number (line ∷ after) =
    if is_skipped line then outcomes size least (number + 1) after
    else elim (outcome_of size least line) [
      | Ok row ↦ Ok row ∷ outcomes size (row.0 + 1) (number + 1) after
      | Err kind ↦ Err (record { line = number + 1; kind = kind }) ∷ []
    ]
