-- What one step does, for every continuation of the bytes read.
use Rattle.std.specs.Prelude.{◌≡◌, ◌≢◌, ◌↔◌, IsTrue, ℕ, ◌+◌, ◌-◌, ◌*◌, ◌<◌, ◌≤◌, ◌⊎◌, List, [], ◌∷◌, ◌++◌, length, Bool, true, false, Result, IfErr, min}
use Rattle.std.specs.List.{All, flat_map}
use Rattle.encoding_mem.specs.Coding.{Coding, last_set, open_from}
use Rattle.encoding_mem.specs.calls.Decoding.{DecoderState, Waits}
use Rattle.encoding_mem.specs.Items.{Item}
use Rattle.encoding_mem.specs.Piece.{Piece, text}
use Rattle.encoding_mem.specs.declared.codec.form.EscapeState.{EscapeState}
use Rattle.recode_log.specs.Call.{Call, Passed, Failed, Flush, failed_read}
use Rattle.recode_log.specs.Counted.{CountsWrites, history_of}
use Rattle.recode_log.specs.Line.{line_bytes}
use Rattle.recode.specs.Fault.{EndsAtFault, reader_failures}
use Rattle.recode.specs.Job.{log_lines}
use Rattle.recode.specs.Policy.{reference_form}
use Rattle.recode.specs.State.{State, WillBeFaithful, characters_with, to_write}
use Rattle.recode.specs.Devices.{Devices, Gave, GaveThen, GaveToEnd, Grew, KeepsWritten, PortsView, Written, Wrote}
use Rattle.recode.specs.TaggedByte.{TaggedByte, IsPrefix, tagged}
use Rattle.recode.specs.calls.TraceToWrite.{AreSound}
use Rattle.recode.specs.Work.{TakesAtLeast, TakesCalls}
use Rattle.recode.specs.WrittenItems.{IsStop, WritesItems, WritesItemsFor, WritesPrefixFor}
use Rattle.recode.specs.declared.counts.Counts.{Counts}
use Rattle.recode.specs.declared.job.Fault.{Fault}
use Rattle.recode.specs.declared.job.Policy.{Policy}
use Rattle.recode.specs.declared.job.Fault.TheVariants.{Read, TooLong}

-- Nothing is pending, or bytes whose first piece changes with at most three more, and ends at most two bytes before
-- their end.
abbrev pub IsNearlyDecided : DecoderState → Type 0
IsNearlyDecided d = ((d.pending ≡ 0) × (d.pieces [] ≡ [])) ⊎ Waits d.pieces d.pending

-- These pieces were taken from the start of those to come, however the input goes on, and their text was encoded.
pub record Advances (before after : List ℕ → List Piece) (e : Coding) (s s' : EscapeState) (c c' : Counts) : Type 0 where
  pub taken : List Piece
  pub rest : (r : List ℕ) → before r ≡ taken ++ after r
  pub set : s' ≡ last_set e s (text taken)
  pub index : c'.index ≡ c.index + length (text taken)

-- Some bytes were read. What was still to be written for them and any bytes to come is what was written, then what is
-- still to be written now; the encoding that the input turns out to be in stays the same. What is decided was
-- converted, however the input goes on: what was written is its text and what was logged its lines, no more and no
-- less, and what is pending is nearly decided. Of codecs it took few calls, and two at least, with three more for each
-- malformed sequence and one for each lost character.
pub record StepsOn (before after : Devices) (limit : ℕ) (s s' : State) : Type 0 where
  pub chunk : List ℕ
  pub given : Gave before.reads after.reads chunk
  pub counted : s'.counts.read ≡ s.counts.read + length chunk
  pub grows : s.counts.read < s'.counts.read
  pub within : s'.counts.read ≤ limit
  pub target : s'.coding ≡ s.coding
  pub policy : s'.policy ≡ s.policy
  pub source : (r : List ℕ) → s.source (chunk ++ r) ≡ s'.source r
  pub pays : WritesItemsFor before.written after.written s.counts s'.counts s.policy false (λ r. to_write s (chunk ++ r)) (to_write s')
  pub advances : Advances (λ r. s.decoder.pieces (chunk ++ r)) s'.decoder.pieces s.coding s.set s'.set s.counts s'.counts
  pub output : Grew before.written.output after.written.output (open_from (reference_form s.policy) s.coding s.set (text advances.taken))
  pub logged : Grew before.written.log after.written.log (flat_map line_bytes (log_lines s.coding (s.counts.read - s.decoder.pending) s.counts.index advances.taken))
  pub settled : IsNearlyDecided s'.decoder
  pub verdict : (r : List ℕ) → WillBeFaithful s (chunk ++ r) ↔ WillBeFaithful s' r
  pub calls : (r : List ℕ) → TakesCalls 3 s.counts s'.counts (to_write s (chunk ++ r)) (to_write s' r)
  pub least : TakesAtLeast (3 * (s'.counts.bad - s.counts.bad) + 2) s.counts s'.counts

-- Some steps that went on, from a state to a later one. They may be none.
pub record HasRun (before after : Devices) (limit : ℕ) (s s' : State) : Type 0 where
  pub chunk : List ℕ
  pub given : Gave before.reads after.reads chunk
  pub counted : s'.counts.read ≡ s.counts.read + length chunk
  pub within : s'.counts.read ≤ limit
  pub target : s'.coding ≡ s.coding
  pub policy : s'.policy ≡ s.policy
  pub advances : Advances (λ r. s.decoder.pieces (chunk ++ r)) s'.decoder.pieces s.coding s.set s'.set s.counts s'.counts
  pub settled : IsNearlyDecided s'.decoder
  pub pays : WritesItemsFor before.written after.written s.counts s'.counts s.policy false (λ r. to_write s (chunk ++ r)) (to_write s')
  pub source : (r : List ℕ) → s.source (chunk ++ r) ≡ s'.source r
  pub verdict : (r : List ℕ) → WillBeFaithful s (chunk ++ r) ↔ WillBeFaithful s' r
  pub calls : (r : List ℕ) → TakesCalls (3 * length chunk) s.counts s'.counts (to_write s (chunk ++ r)) (to_write s' r)
  pub least : TakesAtLeast (3 * (s'.counts.bad - s.counts.bad) + 2 * min 1 (length chunk)) s.counts s'.counts

-- The end was read, and all the rest of the trace was written: under a policy that stops, none of it a lost character.
-- All characters of the text are counted. It may stand for some steps and the one that ended.
pub record Finishes (before after : Devices) (limit : ℕ) (s s' : State) : Type 0 where
  pub chunk : List ℕ
  pub given : GaveToEnd before.reads after.reads chunk
  pub counted : s'.counts.read ≡ s.counts.read + length chunk
  pub within : s'.counts.read ≤ limit
  pub pays : WritesItems before.written after.written s.counts s'.counts s.policy (to_write s chunk) []
  pub source : s.source chunk ≡ s'.source []
  pub characters : s'.counts.index ≡ characters_with s chunk
  pub verdict : WillBeFaithful s chunk ↔ IsTrue s'.verdict.faithful
  pub calls : TakesCalls (3 * length chunk + 3) s.counts s'.counts (to_write s chunk) []
  pub least : TakesAtLeast (3 * (s'.counts.bad - s.counts.bad) + 2 * min 1 (length chunk) + 2) s.counts s'.counts
  pub sound : AreSound s'.decoder.pending s'.counts

-- What was read when a fault came: bytes that were counted, then bytes that were refused, which `TooLong` does alone, to all
-- that the last call gave; and whether their end was read.
pub record WasRead (before after : List (List ℕ)) (fault : Fault) : Type 0 where
  pub input : List ℕ
  pub refused : List ℕ
  pub ended : Bool
  pub given : Gave before after (input ++ refused)
  pub end : ended ≡ true → GaveToEnd before after input
  pub spared : fault ≢ TooLong → refused ≡ []
  pub last : fault ≡ TooLong → GaveThen before after input refused

-- What was written is a prefix of what was still to be written for the bytes that were read and counted, and any bytes
-- to come (none if the end was read). If the policy stopped it, what was written is all of that, up to the line of the
-- first lost character. If the fault is `Read` or `TooLong`, none were counted, and nothing was written. Bytes that
-- are refused pass the limit.
pub record Stops (before after : Devices) (limit : ℕ) (s : State) (fault : Fault) : Type 0 where
  pub read : WasRead before.reads after.reads fault
  pub within : s.counts.read + length read.input ≤ limit
  pub limited : fault ≡ TooLong → limit < s.counts.read + length (read.input ++ read.refused)
  pub pays : WritesPrefixFor before.written after.written s.policy fault read.ended (λ r. to_write s (read.input ++ r))
  pub untouched : (fault ≡ Read) ⊎ (fault ≡ TooLong) → (read.input ≡ []) × KeepsWritten before.written after.written

-- A prefix of what this input gives was written, and all of it if the policy stopped the run.
pub record WrotePrefix (before after : Written) (p : Policy) (f : Fault) (given : List Item) : Type 0 where
  pub taken : List TaggedByte
  pub wrote : Wrote before after taken
  pub prefix : IsPrefix taken (tagged given)
  pub stopped : IsStop f taken given

-- a call is a read with room for so many bytes
abbrev pub IsReadInto : ℕ → Call → Type 0
IsReadInto room (Passed n bytes) = n ≡ room
IsReadInto room (Failed n) = n ≡ room
IsReadInto room (Flush failed) = ⊥

-- a call is a read with room for so many bytes that gave some
abbrev pub GaveSome : ℕ → Call → Type 0
GaveSome room (Passed n bytes) = (n ≡ room) × (0 < length bytes)
GaveSome room (Failed n) = ⊥
GaveSome room (Flush failed) = ⊥

-- The reader was called at least once, each time by a read with room for so many bytes. Each call but the last gave
-- some, and the last failed exactly if the fault is of the reader. The writer and the log were called by writes of some
-- bytes, and their counts rose by as many as failed. If one of them failed, its last call is the one that did.
pub record RunCalls {R W L T : Type 0} (before after : PortsView R W L) (room : ℕ) (result : Result T Fault) : Type 0 where
  pub earlier : List Call
  pub call : Call
  pub calls : history_of after.reader ≡ history_of before.reader ++ (earlier ++ (call ∷ []))
  pub some : All (GaveSome room) earlier
  pub is : IsReadInto room call
  pub failed : failed_read call ≡ reader_failures result
  pub writes : CountsWrites before.writer after.writer
  pub lines : CountsWrites before.log after.log
  pub last : IfErr result (EndsAtFault (history_of after.writer) (history_of after.log))

-- A step called the reader once, with room for so many bytes; the rest as of a run.
pub record StepCalls {R W L T : Type 0} (before after : PortsView R W L) (room : ℕ) (result : Result T Fault) : Type 0 where
  pub call : Call
  pub once : history_of after.reader ≡ history_of before.reader ++ (call ∷ [])
  pub is : IsReadInto room call
  pub failed : failed_read call ≡ reader_failures result
  pub writes : CountsWrites before.writer after.writer
  pub lines : CountsWrites before.log after.log
  pub last : IfErr result (EndsAtFault (history_of after.writer) (history_of after.log))
