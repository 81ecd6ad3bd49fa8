-- Which fault is the first, said of the lines by their positions.
use Rattle.std.specs.Prelude.{◌≡◌, ℕ, ◌+◌, ◌<◌, List, [], length, take, Option, None, Some, MatchOption, slice_index_or}
use Rattle.encoding_index.specs.IndexText.{lines_in, rows_in, least_above, line_fault, first_fault}
use Rattle.encoding_index.specs.declared.fault.IndexFault.{IndexFault}
use Rattle.encoding_index.specs.declared.fault.IndexFaultKind.{IndexFaultKind}

-- what is wrong with the line that stands after `offset` lines: its pointer is to rise above those of the rows before
-- it
abbrev pub fault_at : ℕ → List (List ℕ) → ℕ → Option IndexFaultKind
fault_at size lines offset = line_fault size (least_above (rows_in (take offset lines))) (slice_index_or lines offset [])

-- no line before that position is faulty
abbrev pub NoneFaultyBefore : ℕ → List (List ℕ) → ℕ → Type 0
NoneFaultyBefore size lines offset = (k : ℕ) → k < offset → fault_at size lines k ≡ None

-- the line is faulty, and no line before it is
pub record IsFirstFault (size : ℕ) (lines : List (List ℕ)) (fault : IndexFault) : Type 0 where
  pub offset : ℕ
  pub within : offset < length lines
  pub numbered : fault.line ≡ offset + 1
  pub faulty : fault_at size lines offset ≡ Some fault.kind
  pub none_before : NoneFaultyBefore size lines offset

-- a text has a first fault, or no line is faulty
abbrev pub FaultsAreFirst : Type 0
FaultsAreFirst = (size : ℕ) (text : List ℕ) →
    MatchOption (first_fault size text) (NoneFaultyBefore size (lines_in text) (length (lines_in text))) (IsFirstFault size (lines_in text))
