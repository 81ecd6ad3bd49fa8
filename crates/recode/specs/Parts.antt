-- An input that is converted part by part.
use Rattle.std.specs.Prelude.{◌≡◌, ℕ, ◌+◌, ◌↔◌, true, IsTrue, List, [], ◌∷◌, ◌++◌, None, length, map}
use Rattle.std.specs.List.{flat_map}
use Rattle.encoding_mem.specs.Items.{Item, Byte, MalformedAt, LostAt}
use Rattle.encoding_mem.specs.Parts.{EndsInCut}
use Rattle.encoding_front.specs.Encodings.{is_ascii_compatible_of, output_encoding_of}
use Rattle.encoding_front.specs.declared.mark.Mark.TheVariants.{Keep}
use Rattle.recode_log.specs.Line.{line_bytes}
use Rattle.recode_log.specs.declared.line.LogLine.{LogLine}
use Rattle.recode_log.specs.declared.line.LogLine.TheVariants.{Bad, Lost}
use Rattle.recode.specs.Devices.{Written}
use Rattle.recode.specs.Job.{Faithful, input_text, log_of, output_of, source_in, trace}
use Rattle.recode.specs.declared.job.Job.{Job}
use Rattle.recode.specs.declared.job.Report.{Report}

-- An input can be cut behind x, its first part: the last byte of x is below 30, as a line feed is, and the encoding that
-- x is in and the output encoding are compatible with ASCII.
pub record CanBeCut (j : Job) (x : List ℕ) : Type 0 where
  pub ends : EndsInCut x
  pub source : is_ascii_compatible_of (source_in j x) ≡ true
  pub target : is_ascii_compatible_of (output_encoding_of j.to) ≡ true

-- the job of the parts behind x: they are in the encoding that x is in, and marks are kept
abbrev pub later : Job → List ℕ → Job
later j x = record j { from = source_in j x; mark = Keep }

-- an item of a part as one of the whole: moved by the n bytes and the m characters before the part
abbrev pub moved : (n m : ℕ) → Item → Item
moved n m (Byte b) = Byte b
moved n m (MalformedAt offset size) = MalformedAt (n + offset) size
moved n m (LostAt index scalar) = LostAt (m + index) scalar

-- a line of a part's log as one of the whole's: moved by the n bytes and the m characters before
-- the part
abbrev pub moved_line : (n m : ℕ) → LogLine → LogLine
moved_line n m (Bad offset length) = Bad (n + offset) length
moved_line n m (Lost index scalar) = Lost (m + index) scalar

-- the lines of the log among some items
abbrev pub noted : List Item → List LogLine
noted [] = []
noted (Byte b ∷ s) = noted s
noted (MalformedAt offset size ∷ s) = Bad offset size ∷ noted s
noted (LostAt index scalar ∷ s) = Lost index scalar ∷ noted s

-- the lines of the log for an input: all, or those up to where the job's policy stops
abbrev pub lines_of : Job → List ℕ → List LogLine
lines_of j x = noted (trace j x)

-- The report r on a whole says what p and q say of its two parts: counts are added, and nothing was lost exactly if
-- nothing was in either.
pub record AddsUp (p q r : Report) : Type 0 where
  pub read : r.read ≡ p.read + q.read
  pub bad : r.bad ≡ p.bad + q.bad
  pub lost : r.lost ≡ p.lost + q.lost
  pub encoding : r.encoding ≡ p.encoding
  pub faithful : IsTrue r.faithful ↔ (IsTrue p.faithful × IsTrue q.faithful)

-- each of some parts but the last ends in a byte behind which an input can be cut
abbrev pub AreParts : List (List ℕ) → Type 0
AreParts [] = Unit {0}
AreParts (x ∷ []) = Unit {0}
AreParts (x ∷ y ∷ parts) = EndsInCut x × AreParts (y ∷ parts)

-- the lines of the logs of parts in a row as those of the whole: n bytes and m characters stand
-- before the first part
abbrev pub later_lines : Job → (n m : ℕ) → List (List ℕ) → List LogLine
later_lines j n m [] = []
later_lines j n m (x ∷ parts) = map (moved_line n m) (lines_of j x) ++ later_lines j (n + length x) (m + length (input_text j x)) parts

-- nothing is lost of each of some parts
abbrev pub AreFaithful : Job → List (List ℕ) → Type 0
AreFaithful j [] = Unit {0}
AreFaithful j (x ∷ parts) = Faithful j x × AreFaithful j parts

-- nothing is written so far
abbrev pub unwritten : Written
unwritten = record { output = []; log = []; order = None }

-- What two runs wrote for the parts x and y of an input, v and w, is what is written for the whole, with the lines of
-- the second log moved: by the bytes that the first run read, and by the characters that it counted. Both say that
-- nothing was lost exactly if nothing of the whole is.
pub record AreOfWhole (j : Job) (x y : List ℕ) (v w : Written) (p q : Report) (characters : ℕ) : Type 0 where
  pub output : output_of j (x ++ y) ≡ v.output ++ w.output
  pub second : w.log ≡ flat_map line_bytes (lines_of (later j x) y)
  pub log : log_of j (x ++ y) ≡ v.log ++ flat_map line_bytes (map (moved_line p.read characters) (lines_of (later j x) y))
  pub faithful : Faithful j (x ++ y) ↔ (IsTrue p.faithful × IsTrue q.faithful)
