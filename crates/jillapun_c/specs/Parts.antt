-- An input that is converted part by part, by numbers.
use Rattle.std.specs.Prelude.{◌≡◌, ◌⊎◌, ◌≤◌, ◌+◌, ◌^◌, ◌==◌, ℕ, ◌&&◌, List, [], ◌∷◌, Option, Some, None, codes, if◌then◌else◌, option_and_then, refl}
use Rattle.encoding_front.specs.Encodings.{is_ascii_compatible_of, output_encoding_of}
use Rattle.encoding_front.specs.Marks.{source_of}
use Rattle.encoding_front.specs.declared.encoding.Encoding.{Encoding}
use Rattle.encoding_front.specs.declared.mark.Mark.{Mark}
use Rattle.recode_log.specs.declared.line.LogLine.TheVariants.{Bad, Lost}
use Rattle.jillapun_c.specs.EncodingNumbers.{encoding_at, mark_at}
use Rattle.jillapun_c.specs.Losses.{line_of}
use Rattle.jillapun_c.specs.declared.losses.Loss.{Loss}
use Rattle.jillapun_c.specs.declared.report.Report.{Report}
use Rattle.jillapun_c.specs.declared.status.TheConstants.{BAD, LOST}

-- the encoding of the parts of an input that begins with these bytes: that which the input is in, if it and the output
-- encoding are compatible with ASCII
abbrev pub encoding_of_parts : (from to : Encoding) → Mark → List ℕ → Option Encoding
encoding_of_parts from to mark first =
    if is_ascii_compatible_of (source_of mark from first).0 && is_ascii_compatible_of (output_encoding_of to) then Some (source_of mark from first).0 else None

-- and that by the numbers of the encodings and of the handling of marks, if each stands for something
abbrev pub encoding_of_parts_at : (from to mark : ℕ) → List ℕ → Option Encoding
encoding_of_parts_at from to mark first =
    option_and_then (λ f. option_and_then (λ t. option_and_then (λ m. encoding_of_parts f t m first) (mark_at mark)) (encoding_at to)) (encoding_at from)

-- from Shift_JIS to UTF-8: Shift_JIS
parts-shift_jis : encoding_of_parts_at 24 25 0 (codes "A\n") ≡ Some Encoding.ShiftJis
parts-shift_jis = refl

-- a mark of UTF-8 that is taken, and one of UTF-16 that is taken, or kept
parts-marked : encoding_of_parts_at 24 25 0 (0xEF ∷ 0xBB ∷ 0xBF ∷ []) ≡ Some Encoding.Utf8
parts-marked = refl

parts-utf_16 : encoding_of_parts_at 24 25 0 (0xFF ∷ 0xFE ∷ []) ≡ None
parts-utf_16 = refl

parts-kept : encoding_of_parts_at 24 25 2 (0xFF ∷ 0xFE ∷ []) ≡ Some Encoding.ShiftJis
parts-kept = refl

-- to ISO-2022-JP, and a number that stands for nothing
parts-iso_2022_jp : encoding_of_parts_at 24 6 0 [] ≡ None
parts-iso_2022_jp = refl

parts-unknown : encoding_of_parts_at 40 25 0 [] ≡ None
parts-unknown = refl

-- a record of a part's loss as one of the whole: moved by the bytes or the characters that stand before the part
abbrev pub loss_in_whole : (before : Report) → Loss → Loss
loss_in_whole before loss = record loss { place = loss.place + (if loss.kind == BAD then before.read else before.characters) }

-- The report on a whole adds what two say of its parts; of a stop it says what the first does.
pub record AddsReports (p q whole : Report) : Type 0 where
  pub read : whole.read ≡ p.read + q.read
  pub bad : whole.bad ≡ p.bad + q.bad
  pub lost : whole.lost ≡ p.lost + q.lost
  pub characters : whole.characters ≡ p.characters + q.characters
  pub written : whole.written ≡ p.written + q.written
  pub losses : whole.losses ≡ p.losses + q.losses
  pub index : whole.index ≡ p.index
  pub scalar : whole.scalar ≡ p.scalar

-- a sum of what two reports say is 2^64 or more
abbrev pub PassesCount : Report → Report → Type 0
PassesCount p q =
    (2 ^ 64 ≤ p.read + q.read) ⊎ ((2 ^ 64 ≤ p.bad + q.bad) ⊎ ((2 ^ 64 ≤ p.lost + q.lost)
    ⊎ ((2 ^ 64 ≤ p.characters + q.characters) ⊎ ((2 ^ 64 ≤ p.written + q.written) ⊎ (2 ^ 64 ≤ p.losses + q.losses)))))

-- behind 1000 bytes and 900 characters: a malformed sequence at 6, and a lost character at 7
abbrev report_before : Report
report_before = record { read = 1000; bad = 1; lost = 0; characters = 900; written = 1100; losses = 1; index = 0; scalar = 0 }

moved-bad : line_of (loss_in_whole report_before (record { place = 6; number = 1; kind = BAD })) ≡ Some (Bad 1006 1)
moved-bad = refl

moved-lost : line_of (loss_in_whole report_before (record { place = 7; number = 128169; kind = LOST })) ≡ Some (Lost 907 128169)
moved-lost = refl
