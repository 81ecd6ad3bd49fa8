-- What passed through the three devices of a conversion, and how many of their calls have failed.
use Rattle.std.specs.Prelude.{◌≡◌, ℕ, ◌+◌, ◌≤◌, List, [], ◌∷◌, ◌++◌, Option, Some, None, Result}
use Rattle.std.specs.List.{concat}
use Rattle.recode_log.specs.Call.{passed_by}
use Rattle.recode_log.specs.Counted.{failures_of, history_of, passed_of}
use Rattle.recode_log.specs.Journal.{Entry}
use Rattle.recode_log.specs.Ports.{journal_of}
use Rattle.recode_log.specs.declared.counted.Counted.{Counted}
use Rattle.recode_log.specs.declared.ports.Ports.{Ports}
use Rattle.recode.specs.Fault.{log_failures, reader_failures, writer_failures}
use Rattle.recode.specs.TaggedByte.{TaggedByte, log_bytes, order_of, output_bytes}
use Rattle.recode.specs.declared.job.Fault.{Fault}

-- the bytes that calls of the writer and of the log have taken so far: of each, and, if one journal has the calls of both,
-- of both in their one order
pub record Written : Type 0 where
  pub output : List ℕ
  pub log : List ℕ
  pub order : Option (List TaggedByte)

-- a list, if it is known, with these at its end
abbrev pub then_these : {X : Type 0} → Option (List X) → List X → Option (List X)
then_these None xs = None
then_these (Some before) xs = Some (before ++ xs)

-- what was taken grew by these bytes
abbrev pub Grew : (before after bytes : List ℕ) → Type 0
Grew before after bytes = after ≡ before ++ bytes

-- nothing was written
pub record KeepsWritten (before after : Written) : Type 0 where
  pub output : after.output ≡ before.output
  pub log : after.log ≡ before.log
  pub order : after.order ≡ before.order

-- the output grew by the output bytes of t, the log by its log bytes, and both in this order, if their order is known
pub record Wrote (before after : Written) (t : List TaggedByte) : Type 0 where
  pub output : Grew before.output after.output (output_bytes t)
  pub lined : Grew before.log after.log (log_bytes t)
  pub ordered : after.order ≡ then_these before.order t

-- calls of the reader gave these bytes, in their order
abbrev pub Gave : (before after : List (List ℕ)) (bytes : List ℕ) → Type 0
Gave before after bytes = (reads : List (List ℕ)) × (after ≡ before ++ reads) × (concat reads ≡ bytes)

-- calls of the reader gave these bytes, and then one gave those
abbrev pub GaveThen : (before after : List (List ℕ)) (bytes last : List ℕ) → Type 0
GaveThen before after bytes last = (reads : List (List ℕ)) × (after ≡ before ++ (reads ++ (last ∷ []))) × (concat reads ≡ bytes)

-- calls of the reader gave these bytes, and then one gave none: the end
abbrev pub GaveToEnd : (before after : List (List ℕ)) (bytes : List ℕ) → Type 0
GaveToEnd before after bytes = GaveThen before after bytes []

-- What calls of the reader gave is of these bytes: they begin with it, and it is all of them if the last call gave none.
pub record IsOf (before after : List (List ℕ)) (x : List ℕ) : Type 0 where
  pub front : (bytes : List ℕ) → Gave before after bytes → (rest : List ℕ) × (x ≡ bytes ++ rest)
  pub whole : (bytes : List ℕ) → GaveToEnd before after bytes → bytes ≡ x

-- how many calls of a reader, a writer and a log have failed
pub record Failures : Type 0 where
  pub reader : ℕ
  pub writer : ℕ
  pub log : ℕ

-- at most so many calls of each have failed
pub record HaveFailedAtMost (most : ℕ) (f : Failures) : Type 0 where
  pub reader : f.reader ≤ most
  pub writer : f.writer ≤ most
  pub log : f.log ≤ most

-- what each call of the reader gave that did not fail, what was written, and the failed calls
pub record Devices : Type 0 where
  pub reads : List (List ℕ)
  pub written : Written
  pub failures : Failures

-- the bytes of each call of a reader that did not fail, in their order
abbrev pub reads_of : {R : Type 0} → Counted R → List (List ℕ)
reads_of reader = passed_by (history_of reader)

-- a reader, a writer and a log, as they are at one moment, and their calls in one order, if one journal has them
pub record PortsView (R W L : Type 0) : Type 0 where
  pub reader : Counted R
  pub writer : Counted W
  pub log : Counted L
  pub journal : Option (List Entry)

-- the order in which the writer and the log took their bytes, if one journal has their calls
abbrev pub order_in : Option (List Entry) → Option (List TaggedByte)
order_in None = None
order_in (Some entries) = Some (order_of entries)

-- what passed through them, and how many calls of each have failed
abbrev pub devices_of : {R W L : Type 0} → PortsView R W L → Devices
devices_of p = record {
  reads = reads_of p.reader;
  written = record { output = passed_of p.writer; log = passed_of p.log; order = order_in p.journal };
  failures = record { reader = failures_of p.reader; writer = failures_of p.writer; log = failures_of p.log };
}

-- a reader, a writer and a log, each with its own calls alone
abbrev pub ports : {R W L : Type 0} → Counted R → Counted W → Counted L → PortsView R W L
ports reader writer log = record { reader = reader; writer = writer; log = log; journal = None }

-- what passed through them, and how many calls of each have failed
abbrev pub devices_in : {R W L : Type 0} → Counted R → Counted W → Counted L → Devices
devices_in reader writer log = devices_of (ports reader writer log)

-- those that `Ports` calls, with their journal
abbrev pub ports_at : {R W L : Type 0} → Ports R W L → PortsView R W L
ports_at p = record { reader = p.reader.now; writer = p.writer.now; log = p.log.now; journal = Some (journal_of p) }

-- what passed through them, and how many calls of each have failed
abbrev pub devices_at : {R W L : Type 0} → Ports R W L → Devices
devices_at p = devices_of (ports_at p)

-- the bytes that calls of their writer and of their log have taken
abbrev pub written_of : {R W L : Type 0} → Ports R W L → Written
written_of p = (devices_at p).written

-- The count of the device that a fault is of rose by one; the others stayed.
pub record CountsFault {T : Type 0} (before after : Devices) (result : Result T Fault) : Type 0 where
  pub reader : after.failures.reader ≡ before.failures.reader + reader_failures result
  pub writer : after.failures.writer ≡ before.failures.writer + writer_failures result
  pub log : after.failures.log ≡ before.failures.log + log_failures result
