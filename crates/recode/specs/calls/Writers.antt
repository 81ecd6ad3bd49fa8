-- What the two writers of a conversion have, and how the counts of their failed calls rise.
use Rattle.std.specs.Prelude.{◌≡◌, ℕ, ◌+◌, ◌-◌, ◌^◌, ◌<◌, ◌≤◌, [], ◌++◌, nat_eq, length, take, Bool, List, Option, None, IfSome, Result, OnOk, IfErr}
use Rattle.recode_log.specs.Counted.{CountsWrites, failures_of, history_of, inner_of, passed_of}
use Rattle.recode_log.specs.Journal.{Entry, reader_calls}
use Rattle.recode_log.specs.Line.{IsValid}
use Rattle.recode_log.specs.Ports.{SameDevices, journal_of}
use Rattle.recode_log.specs.declared.ports.Ports.{Ports}
use Rattle.recode.specs.Devices.{Written, written_of}
use Rattle.recode.specs.Fault.{EndsAtFault, log_failures, of_other, reader_failures, writer_failures}
use Rattle.encoding_mem.specs.Items.{Item}
use Rattle.recode.specs.calls.Held.{LeavesPrefix, Passes, WritersView, log_line_of}
use Rattle.recode_log.specs.Told.{TellsTaken}
use Rattle.recode.specs.declared.job.Fault.{Fault}
use Rattle.recode.specs.declared.job.Policy.{Policy}
use Rattle.recode.specs.declared.writers.MalformedLine.{MalformedLine}
use Rattle.recode.specs.declared.writers.Held.{Held}

-- a writer and a log beside a reader, what is held for them, and the buffer that has its bytes at its start
pub record Writers (R W L : Type 0) : Type 0 where
  pub buffer : List ℕ
  pub line : Option MalformedLine
  pub held : ℕ
  pub ports : Ports R W L

-- what is held, this buffer, and these devices
abbrev pub writers : {R W L : Type 0} → Held → List ℕ → Ports R W L → Writers R W L
writers held buffer ports = record { buffer = buffer; line = held.line; held = held.len; ports = ports }

-- the bytes that calls of the output's writer and of the log have taken so far
abbrev pub written_by : {R W L : Type 0} → Writers R W L → Written
written_by w = written_of w.ports

-- the two writers by what they have taken and what is held: the line, and the bytes at the start of the buffer
abbrev pub writers_view : {R W L : Type 0} → Writers R W L → WritersView
writers_view w = record { written = written_by w; line = w.line; bytes = take w.held w.buffer }

-- the line that is held, if there is one, is valid
abbrev pub HasValidLine : Option MalformedLine → Type 0
HasValidLine line = IfSome line (λ l. IsValid (log_line_of l))

-- Nothing is held.
pub record HoldNothing {R W L : Type 0} (w : Writers R W L) : Type 0 where
  pub line : w.line ≡ None
  pub bytes : w.held ≡ 0

-- One more failed call of each can be counted, the buffer has 4 bytes or more, those that are held among them, and the
-- line that is held is valid.
pub record AreReady {R W L : Type 0} (w : Writers R W L) : Type 0 where
  pub output : failures_of w.ports.writer.now < 2 ^ 64 - 1
  pub log : failures_of w.ports.log.now < 2 ^ 64 - 1
  pub room : 4 ≤ length w.buffer
  pub within : w.held ≤ length w.buffer
  pub line : HasValidLine w.line

-- The devices and the buffer are those that they were, the bytes that are held are within the buffer, and the
-- line is valid.
pub record AreTheSame {R W L : Type 0} (before after : Writers R W L) : Type 0 where
  pub room : length after.buffer ≡ length before.buffer
  pub within : after.held ≤ length after.buffer
  pub line : HasValidLine after.line

-- Calls of the writer and of the log were made, none of the reader.
pub record OnlyWrites {R W L : Type 0} (before after : Ports R W L) : Type 0 where
  pub entries : List Entry
  pub made : journal_of after ≡ journal_of before ++ entries
  pub unread : reader_calls entries ≡ []
  pub reader : after.reader.now ≡ before.reader.now
  pub same : SameDevices before after

-- The count of the writer that a fault is of rose by one, and its last call is the one that failed. The other count
-- stayed. No fault is of another device. Each count is that of the failed calls.
pub record CountsWriterFault {R W L T : Type 0} (before after : Writers R W L) (result : Result T Fault) : Type 0 where
  pub writer : failures_of after.ports.writer.now ≡ failures_of before.ports.writer.now + writer_failures result
  pub log : failures_of after.ports.log.now ≡ failures_of before.ports.log.now + log_failures result
  pub not_reader : reader_failures result ≡ 0
  pub not_other : of_other result ≡ 0
  pub output_calls : CountsWrites before.ports.writer.now after.ports.writer.now
  pub log_calls : CountsWrites before.ports.log.now after.ports.log.now
  pub last : IfErr result (EndsAtFault (history_of after.ports.writer.now) (history_of after.ports.log.now))
  pub journal : OnlyWrites before.ports after.ports
  pub same : AreTheSame before after

-- The same of a writer and a log beside a reader, which is not called.
pub record CountsPortsFault {R W L T : Type 0} (before after : Ports R W L) (result : Result T Fault) : Type 0 where
  pub writer : failures_of after.writer.now ≡ failures_of before.writer.now + writer_failures result
  pub log : failures_of after.log.now ≡ failures_of before.log.now + log_failures result
  pub not_reader : reader_failures result ≡ 0
  pub not_other : of_other result ≡ 0
  pub output_calls : CountsWrites before.writer.now after.writer.now
  pub log_calls : CountsWrites before.log.now after.log.now
  pub last : IfErr result (EndsAtFault (history_of after.writer.now) (history_of after.log.now))
  pub journal : OnlyWrites before after

-- whether what was read is the end of the input: no bytes
abbrev pub is_end : List ℕ → Bool
is_end chunk = nat_eq (length chunk) 0

-- what the output's writer and the log say that they hold, if they do, grew by the bytes that their calls took
pub record TellWhatTaken {R W L : Type 0} (contents : W → Option (List ℕ)) (logged : L → Option (List ℕ)) (before after : Writers R W L) : Type 0 where
  pub output : TellsTaken (passed_of before.ports.writer.now) (passed_of after.ports.writer.now) (contents (inner_of before.ports.writer.now)) (contents (inner_of after.ports.writer.now))
  pub log : TellsTaken (passed_of before.ports.log.now) (passed_of after.ports.log.now) (logged (inner_of before.ports.log.now)) (logged (inner_of after.ports.log.now))

-- the same of a writer and a log beside a reader
pub record TellWhatPortsTook {R W L : Type 0} (contents : W → Option (List ℕ)) (logged : L → Option (List ℕ)) (before after : Ports R W L) : Type 0 where
  pub output : TellsTaken (passed_of before.writer.now) (passed_of after.writer.now) (contents (inner_of before.writer.now)) (contents (inner_of after.writer.now))
  pub log : TellsTaken (passed_of before.log.now) (passed_of after.log.now) (logged (inner_of before.log.now)) (logged (inner_of after.log.now))

-- Items were passed. Or there was a fault: under each of these policies, what was taken is a prefix of what is written of
-- what was held, of these items and of what follows them. If it is one of a writer, its count rose.
pub record HandsOnIf {R W L T : Type 0} (contents : W → Option (List ℕ)) (logged : L → Option (List ℕ)) (applies : Policy → Type 0) (before after : Writers R W L) (items : List Item) (result : Result T Fault) : Type 0 where
  pub ok : OnOk result (Passes (writers_view before) (writers_view after) items)
  pub err : (p : Policy) → applies p → IfErr result (λ f. (more : List Item) → LeavesPrefix (writers_view before) (writers_view after) p f (items ++ more))
  pub failures : CountsWriterFault before after result
  pub told : TellWhatTaken contents logged before after

-- whatever the policy
abbrev pub HandsOn : {R W L T : Type 0} → (W → Option (List ℕ)) → (L → Option (List ℕ)) → (before after : Writers R W L) → List Item → Result T Fault → Type 0
HandsOn contents logged before after items result = HandsOnIf contents logged (λ p. Unit {0}) before after items result

-- under this policy
abbrev pub HandsOnUnder : {R W L T : Type 0} → Policy → (W → Option (List ℕ)) → (L → Option (List ℕ)) → (before after : Writers R W L) → List Item → Result T Fault → Type 0
HandsOnUnder policy contents logged before after items result = HandsOnIf contents logged (λ p. p ≡ policy) before after items result
