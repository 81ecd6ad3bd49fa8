-- What an iterator over the rows of a text has left.
use Rattle.std.specs.Prelude.{ℕ, List, Result}
use Rattle.std.specs.Str.Lines.{lines}
use Rattle.encoding_index.specs.laws.Outcomes.{outcomes}
use Rattle.encoding_index.specs.declared.fault.IndexFault.{IndexFault}
use Rattle.encoding_index.specs.declared.rows.IndexRows.{IndexRows}

-- the outcomes of the lines that were not read yet
abbrev pub outcomes_left : IndexRows → List (Result (ℕ × ℕ) IndexFault)
outcomes_left rows = outcomes rows.size rows.least rows.number (lines rows.rest.now)
