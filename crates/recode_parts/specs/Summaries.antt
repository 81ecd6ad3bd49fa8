-- What is reported of a part of an input, and of two parts in a row.
use Rattle.std.specs.Prelude.{◌≡◌, ℕ, ◌+◌, ◌&&◌, List, length}
use Rattle.recode.specs.Job.{input_text}
use Rattle.recode.specs.Session.{IsReport}
use Rattle.recode.specs.declared.job.Job.{Job}
use Rattle.recode_parts.specs.declared.summary.Summary.{Summary}

-- a summary says of an input what a job makes of it: the report on it, and how many characters its text has
pub record IsSummary (j : Job) (x : List ℕ) (s : Summary) : Type 0 where
  pub report : IsReport j x s.report
  pub characters : s.characters ≡ length (input_text j x)

-- The summary s of a whole adds what p and q say of its two parts: counts are added, the encoding is that of the first,
-- and nothing was lost if nothing was in either.
pub record AddsParts (p q s : Summary) : Type 0 where
  pub read : s.report.read ≡ p.report.read + q.report.read
  pub bad : s.report.bad ≡ p.report.bad + q.report.bad
  pub lost : s.report.lost ≡ p.report.lost + q.report.lost
  pub calls : s.report.calls ≡ p.report.calls + q.report.calls
  pub encoding : s.report.encoding ≡ p.report.encoding
  pub faithful : s.report.faithful ≡ (p.report.faithful && q.report.faithful)
  pub characters : s.characters ≡ p.characters + q.characters
