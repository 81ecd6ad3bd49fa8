-- How many calls of codecs a conversion takes.
use Rattle.std.specs.Prelude.{ℕ, ◌+◌, ◌*◌, ◌^◌, ◌-◌, ◌<◌, ◌≤◌, Bool, true, false, List, length, min}
use Rattle.encoding_mem.specs.Items.{Item}
use Rattle.recode.specs.declared.counts.Counts.{Counts}
use Rattle.recode.specs.declared.job.Report.{Report}

-- As many calls were counted, at least and at most. The count stops at the greatest number.
pub record IsCounted (least most calls calls' : ℕ) : Type 0 where
  pub at_least : calls' < 2 ^ 64 - 1 → calls + least ≤ calls'
  pub at_most : calls' ≤ calls + most

-- The calls since were at most 4 for each character that was passed, 2 for each item that was written (a byte of the
-- output, or a line of the log), and n more.
abbrev pub TakesCalls : ℕ → (c c' : Counts) → (to_write to_write' : List Item) → Type 0
TakesCalls n c c' to_write to_write' =
    c'.calls + 4 * c.index + 2 * length to_write' ≤ c.calls + 4 * c'.index + 2 * length to_write + n

-- the calls since were at least one for each lost character that was logged, and n more, unless
-- the count has stopped at its greatest number
abbrev pub TakesAtLeast : ℕ → (c c' : Counts) → Type 0
TakesAtLeast n c c' = c'.calls < 2 ^ 64 - 1 → c.calls + c'.lost + n ≤ c'.calls + c.lost

-- how many texts or chunks end with a call
abbrev pub ended_count : Bool → ℕ
ended_count true = 1
ended_count false = 0

-- the least number of calls that is reported: 3 for each malformed sequence, 1 for each lost
-- character, and 4, or 2 if nothing was read
abbrev pub fewest_calls : (read bad lost : ℕ) → ℕ
fewest_calls read bad lost = 3 * bad + lost + 2 * min 1 read + 2

-- the greatest number of calls that is reported: 37 for each byte that was read, and 9
abbrev pub most_calls : (read : ℕ) → ℕ
most_calls read = 37 * read + 9

-- the number of calls that a report has is between the two
pub record ReportsFewCalls (p : Report) : Type 0 where
  pub least : fewest_calls p.read p.bad p.lost ≤ p.calls
  pub most : p.calls ≤ most_calls p.read
