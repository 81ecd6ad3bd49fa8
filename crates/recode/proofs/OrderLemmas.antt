-- What is taken in one order while devices are called, and how their calls follow one another.
use Rattle.std.proofs.Common.{Bool, ◌<◌, length, ◌≡◌, ◌∙◌, ◌+◌, ℕ, List, [], ◌∷◌, ◌++◌, map, Option, Some, Result, Ok, Err, OnOk, OnErr, IfErr, IsErrAnd, refl, sym, ap, subst, append_assoc, append-nil, arith}
use Rattle.std.specs.List.{concat}
use Rattle.std.proofs.lemmas.List.{append_cancel_left, map-append}
use Rattle.recode_log.specs.Call.{Call, CallsOnce, EndsInFailedWrite, Failed, Flush, Passed, failed_read, passed_by}
use Rattle.recode_log.specs.Counted.{CountsWrites, failures_of, history_of, inner_of, passed_of}
use Rattle.recode_log.specs.Journal.{AtLog, AtReader, AtWriter, Entry, reader_calls}
use Rattle.recode_log.specs.Ports.{CallsLog, CallsReader, CallsWriter, SameDevices, journal_of}
use Rattle.std.specs.Io.{ReadsAtMost}
use Rattle.std.specs.Io.KnownBytes.{ReadConsumes}
use Rattle.recode_log.specs.Told.{TellsReads, TellsTaken}
use Rattle.recode_log.specs.declared.counted.Counted.{Counted}
use Rattle.recode_log.specs.declared.ports.Ports.{Ports}
use Rattle.recode_log.specs.laws.Calls.{passed_calls}
use Rattle.recode_log.specs.laws.Counts.{counts_none}
use Rattle.recode_log.specs.laws.Journal.{history_of_log, history_of_reader, history_of_writer, reader_at_log, reader_at_writer, reader_calls-append}
use Rattle.recode_log.specs.laws.Told.{reads_one, taken_none, taken_then}
use Rattle.recode.specs.Devices.{CountsFault, Devices, Grew, Written, Wrote, devices_at, ports_at, reads_of, written_of}
use Rattle.recode.specs.Fault.{EndsAtFault, log_failures, reader_failures, writer_failures}
use Rattle.recode.specs.Order.{StepsInOrder}
use Rattle.recode.specs.Step.{IsReadInto, StepCalls}
use Rattle.recode.specs.Told.{TellWhatPassed, Told, told_at}
use Rattle.recode.specs.TaggedByte.{Line, Out, TaggedByte, call_bytes, log_bytes, order_of, output_bytes}
use Rattle.recode.specs.calls.Writers.{AreTheSame, CountsPortsFault, CountsWriterFault, OnlyWrites, TellWhatPortsTook, TellWhatTaken, Writers}
use Rattle.recode.specs.declared.job.Fault.{Fault}
use Rattle.recode.specs.declared.job.Fault.TheVariants.{Log, Write}
use Rattle.encoding_mem.specs.Items.{Item}
use Rattle.recode.specs.State.{State}
use Rattle.recode.specs.WrittenItems.{WritesPrefixFor}
use Rattle.recode.specs.calls.Chunk.{ConvertsChunk}
use Rattle.recode.specs.declared.job.Policy.{Policy}
use Rattle.recode.specs.laws.Items.{log_bytes-lines, output_bytes-lines}

-- ---- what was taken in one order

pub order_of-append : (a b : List Entry) → order_of (a ++ b) ≡ order_of a ++ order_of b
order_of-append [] b = refl
order_of-append (AtReader call ∷ a) b = order_of-append a b
order_of-append (AtWriter call ∷ a) b = ap (λ l. map Out (call_bytes call) ++ l) (order_of-append a b) ∙ sym (append_assoc (map Out (call_bytes call)) (order_of a) (order_of b))
order_of-append (AtLog call ∷ a) b = ap (λ l. map Line (call_bytes call) ++ l) (order_of-append a b) ∙ sym (append_assoc (map Line (call_bytes call)) (order_of a) (order_of b))

order_at_reader : (calls : List Call) → order_of (map AtReader calls) ≡ []
order_at_reader [] = refl
order_at_reader (call ∷ calls) = order_at_reader calls

order_at_writer : (calls : List Call) → order_of (map AtWriter calls) ≡ map Out (concat (passed_by calls))
order_at_writer [] = refl
order_at_writer (Passed room bytes ∷ calls) = ap (λ l. map Out bytes ++ l) (order_at_writer calls) ∙ sym (map-append Out bytes (concat (passed_by calls)))
order_at_writer (Failed room ∷ calls) = order_at_writer calls
order_at_writer (Flush failed ∷ calls) = order_at_writer calls

pub order_at_log : (calls : List Call) → order_of (map AtLog calls) ≡ map Line (concat (passed_by calls))
order_at_log [] = refl
order_at_log (Passed room bytes ∷ calls) = ap (λ l. map Line bytes ++ l) (order_at_log calls) ∙ sym (map-append Line bytes (concat (passed_by calls)))
order_at_log (Failed room ∷ calls) = order_at_log calls
order_at_log (Flush failed ∷ calls) = order_at_log calls

pub output_bytes-outs : (bytes : List ℕ) → output_bytes (map Out bytes) ≡ bytes
output_bytes-outs [] = refl
output_bytes-outs (b ∷ bytes) = ap (λ l. b ∷ l) (output_bytes-outs bytes)

pub log_bytes-outs : (bytes : List ℕ) → log_bytes (map Out bytes) ≡ []
log_bytes-outs [] = refl
log_bytes-outs (b ∷ bytes) = log_bytes-outs bytes

-- calls of one device, beside which the others stay
module _ {R W L : Type 0} (a b : Ports R W L) where
  pub order_kept : CallsReader a b → order_of (journal_of b) ≡ order_of (journal_of a)
  order_kept h = ap order_of h.made ∙ order_of-append (journal_of a) (map AtReader h.calls) ∙ ap (λ l. order_of (journal_of a) ++ l) (order_at_reader h.calls) ∙ append-nil (order_of (journal_of a))

  pub written_kept : CallsReader a b → written_of b ≡ written_of a
  written_kept h =
      ap (λ (w : Counted W). record { output = passed_of w; log = passed_of b.log.now; order = Some (order_of (journal_of b)) }) h.writer
      ∙ ap (λ (l : Counted L). record { output = passed_of a.writer.now; log = passed_of l; order = Some (order_of (journal_of b)) }) h.log
      ∙ ap (λ (t : List TaggedByte). record { output = passed_of a.writer.now; log = passed_of a.log.now; order = Some t }) (order_kept h)

  pub wrote_by_writer : CallsWriter a b → (bytes : List ℕ) → Grew (passed_of a.writer.now) (passed_of b.writer.now) bytes → Wrote (written_of a) (written_of b) (map Out bytes)
  wrote_by_writer h bytes grew = record {
    output = rw (output_bytes-outs bytes) grew;
    lined = rw (log_bytes-outs bytes) (ap passed_of h.log ∙ sym (append-nil (passed_of a.log.now)));
    ordered = ap (λ l. Some l) (ap order_of h.made ∙ order_of-append (journal_of a) (map AtWriter h.calls) ∙ ap (λ l. order_of (journal_of a) ++ l) (order_at_writer h.calls)
        ∙ ap (λ l. order_of (journal_of a) ++ map Out l) (passed_calls (history_of a.writer.now) (history_of b.writer.now) h.calls bytes (history_of_writer a b h) grew));
  }

  pub wrote_by_log : CallsLog a b → (bytes : List ℕ) → Grew (passed_of a.log.now) (passed_of b.log.now) bytes → Wrote (written_of a) (written_of b) (map Line bytes)
  wrote_by_log h bytes grew = record {
    output = rw (output_bytes-lines bytes) (ap passed_of h.writer ∙ sym (append-nil (passed_of a.writer.now)));
    lined = rw (log_bytes-lines bytes) grew;
    ordered = ap (λ l. Some l) (ap order_of h.made ∙ order_of-append (journal_of a) (map AtLog h.calls) ∙ ap (λ l. order_of (journal_of a) ++ l) (order_at_log h.calls)
        ∙ ap (λ l. order_of (journal_of a) ++ map Line l) (passed_calls (history_of a.log.now) (history_of b.log.now) h.calls bytes (history_of_log a b h) grew));
  }

  pub only_writer : CallsWriter a b → OnlyWrites a b
  only_writer h = record { entries = map AtWriter h.calls; made = h.made; unread = reader_at_writer h.calls; reader = h.reader; same = h.same }

  pub only_log : CallsLog a b → OnlyWrites a b
  only_log h = record { entries = map AtLog h.calls; made = h.made; unread = reader_at_log h.calls; reader = h.reader; same = h.same }

-- the devices are those that they were
pub same_none : {R W L : Type 0} (a : Ports R W L) → SameDevices a a
same_none a = record { reader = refl; writer = refl; log = refl }

pub same_then : {R W L : Type 0} (a b c : Ports R W L) → SameDevices a b → SameDevices b c → SameDevices a c
same_then a b c h k = record { reader = k.reader ∙ h.reader; writer = k.writer ∙ h.writer; log = k.log ∙ h.log }

pub writes_none : {R W L : Type 0} (a : Ports R W L) → OnlyWrites a a
writes_none a = record { entries = []; made = sym (append-nil (journal_of a)); unread = refl; reader = refl; same = same_none a }

pub writes_then : {R W L : Type 0} (a b c : Ports R W L) → OnlyWrites a b → OnlyWrites b c → OnlyWrites a c
writes_then a b c h k = record {
  entries = h.entries ++ k.entries;
  made = k.made ∙ ap (λ l. l ++ k.entries) h.made ∙ append_assoc (journal_of a) h.entries k.entries;
  unread = reader_calls-append h.entries k.entries ∙ ap (λ l. l ++ reader_calls k.entries) h.unread ∙ k.unread;
  reader = k.reader ∙ h.reader;
  same = same_then a b c h.same k.same;
}

-- ---- a device that stays

pub counts_same : {T : Type 0} (a b : Counted T) → b ≡ a → CountsWrites a b
counts_same a b is = subst (CountsWrites a) (sym is) (counts_none a)

pub told_same : {T : Type 0} (contents : T → Option (List ℕ)) (a b : Counted T) → b ≡ a → TellsTaken (passed_of a) (passed_of b) (contents (inner_of a)) (contents (inner_of b))
told_same contents a b is = subst (λ (c : Counted _). TellsTaken (passed_of a) (passed_of c) (contents (inner_of a)) (contents (inner_of c))) (sym is) (taken_none (passed_of a) (contents (inner_of a)))

-- ---- what a fault of a writer counts

pub on_err_map : {T E A B : Type 0} (r : Result T E) → OnErr r A → (A → B) → OnErr r B
on_err_map (Ok x) k f = tt
on_err_map (Err e) k f = f k

module _ {R W L T : Type 0} (a b : Writers R W L) (same : AreTheSame a b) where
  pub writer_counts : (r : Result T Fault) → CallsWriter a.ports b.ports → IfErr r (λ (f : Fault). f ≡ Write) → OnOk r (failures_of b.ports.writer.now ≡ failures_of a.ports.writer.now) → OnErr r (failures_of b.ports.writer.now ≡ failures_of a.ports.writer.now + 1)
      → CountsWrites a.ports.writer.now b.ports.writer.now → OnErr r (EndsInFailedWrite (history_of b.ports.writer.now)) → CountsWriterFault a b r
  writer_counts (Ok x) h is ok err writes failed = record {
    writer = omega (arith, ok);
    log = omega (arith, ap failures_of h.log);
    not_reader = refl;
    not_other = refl;
    output_calls = writes;
    log_calls = counts_same a.ports.log.now b.ports.log.now h.log;
    last = tt;
    journal = only_writer a.ports b.ports h;
    same = same;
  }
  writer_counts (Err f) h is ok err writes failed = rw is (record {
    writer = err;
    log = omega (arith, ap failures_of h.log);
    not_reader = refl;
    not_other = refl;
    output_calls = writes;
    log_calls = counts_same a.ports.log.now b.ports.log.now h.log;
    last = failed;
    journal = only_writer a.ports b.ports h;
    same = same;
  })

  -- if the fault is handed on
  pub writer_fault : (r : Result T Fault) (e : Fault) → IsErrAnd r (λ (x : Fault). x ≡ e) → CallsWriter a.ports b.ports → e ≡ Write → failures_of b.ports.writer.now ≡ failures_of a.ports.writer.now + 1
      → CountsWrites a.ports.writer.now b.ports.writer.now → EndsInFailedWrite (history_of b.ports.writer.now) → CountsWriterFault a b r
  writer_fault (Ok x) e handed h is counted writes failed = absurd handed
  writer_fault (Err x) e handed h is counted writes failed = writer_counts (Err x) h (handed ∙ is) tt counted writes failed

  pub log_counts : (r : Result T Fault) → CallsLog a.ports b.ports → IfErr r (λ (f : Fault). f ≡ Log) → OnOk r (failures_of b.ports.log.now ≡ failures_of a.ports.log.now) → OnErr r (failures_of b.ports.log.now ≡ failures_of a.ports.log.now + 1)
      → CountsWrites a.ports.log.now b.ports.log.now → OnErr r (EndsInFailedWrite (history_of b.ports.log.now)) → CountsWriterFault a b r
  log_counts (Ok x) h is ok err writes failed = record {
    writer = omega (arith, ap failures_of h.writer);
    log = omega (arith, ok);
    not_reader = refl;
    not_other = refl;
    output_calls = counts_same a.ports.writer.now b.ports.writer.now h.writer;
    log_calls = writes;
    last = tt;
    journal = only_log a.ports b.ports h;
    same = same;
  }
  log_counts (Err f) h is ok err writes failed = rw is (record {
    writer = omega (arith, ap failures_of h.writer);
    log = err;
    not_reader = refl;
    not_other = refl;
    output_calls = counts_same a.ports.writer.now b.ports.writer.now h.writer;
    log_calls = writes;
    last = failed;
    journal = only_log a.ports b.ports h;
    same = same;
  })

-- ---- a step: a read, and then writes

-- of what is held the callers know nothing
pub ports_fault : {R W L T : Type 0} {a b : Writers R W L} {r : Result T Fault} → CountsWriterFault a b r → CountsPortsFault a.ports b.ports r
ports_fault h = record { writer = h.writer; log = h.log; not_reader = h.not_reader; not_other = h.not_other; output_calls = h.output_calls; log_calls = h.log_calls; last = h.last; journal = h.journal }

pub ports_told : {R W L : Type 0} {contents : W → Option (List ℕ)} {logged : L → Option (List ℕ)} {a b : Writers R W L} → TellWhatTaken contents logged a b → TellWhatPortsTook contents logged a.ports b.ports
ports_told h = record { output = h.output; log = h.log }

pub chunk_from : {s s' : State} {chunk : List ℕ} {last : Bool} (w w0 w' : Written) → w ≡ w0 → ConvertsChunk w w' s s' chunk last → ConvertsChunk w0 w' s s' chunk last
chunk_from {s} {s'} {chunk} {last} w w0 w' is k = subst (λ v. ConvertsChunk v w' s s' chunk last) is k

pub prefix_from : {p : Policy} {f : Fault} {last : Bool} {to_write : List ℕ → List Item} (w w0 w' : Written) → w ≡ w0 → WritesPrefixFor w w' p f last to_write → WritesPrefixFor w0 w' p f last to_write
prefix_from {p} {f} {last} {to_write} w w0 w' is k = subst (λ v. WritesPrefixFor v w' p f last to_write) is k

-- the calls of a reader that was called once
one_call : {R W L : Type 0} (a b : Ports R W L) (call : Call) (h : CallsReader a b) → history_of b.reader.now ≡ history_of a.reader.now ++ (call ∷ []) → journal_of b ≡ journal_of a ++ (AtReader call ∷ [])
one_call a b call h once = h.made ∙ ap (λ l. journal_of a ++ map AtReader l) (append_cancel_left (history_of a.reader.now) h.calls (call ∷ []) (sym (history_of_reader a b h) ∙ once))

module _ {R W L : Type 0} (a b : Ports R W L) (call : Call) (h : CallsReader a b) (once : history_of b.reader.now ≡ history_of a.reader.now ++ (call ∷ [])) where
  pub order_read : StepsInOrder (journal_of a) (journal_of b)
  order_read = record { call = call; writes = []; made = one_call a b call h once; unread = refl }

  pub order_chunk : (c : Ports R W L) → OnlyWrites b c → StepsInOrder (journal_of a) (journal_of c)
  order_chunk c k = record {
    call = call;
    writes = k.entries;
    made = k.made ∙ ap (λ l. l ++ k.entries) (one_call a b call h once) ∙ append_assoc (journal_of a) (AtReader call ∷ []) k.entries;
    unread = k.unread;
  }

  -- what calls were made
  pub calls_read : {T : Type 0} {room : ℕ} {answer : Result T Fault} → IsReadInto room call → failed_read call ≡ reader_failures answer → IfErr answer (EndsAtFault (history_of b.writer.now) (history_of b.log.now))
      → StepCalls (ports_at a) (ports_at b) room answer
  calls_read is failed last = record { call = call; once = once; is = is; failed = failed; writes = counts_same a.writer.now b.writer.now h.writer; lines = counts_same a.log.now b.log.now h.log; last = last }

  pub calls_chunk : {T : Type 0} {room : ℕ} {answer : Result T Fault} (c : Ports R W L) → IsReadInto room call → failed_read call ≡ reader_failures answer → OnlyWrites b c → CountsWrites b.writer.now c.writer.now → CountsWrites b.log.now c.log.now
      → IfErr answer (EndsAtFault (history_of c.writer.now) (history_of c.log.now)) → StepCalls (ports_at a) (ports_at c) room answer
  calls_chunk c is failed k writes lines last = record {
    call = call;
    once = ap history_of k.reader ∙ once;
    is = is;
    failed = failed;
    writes = subst (λ (w : Counted W). CountsWrites w c.writer.now) h.writer writes;
    lines = subst (λ (l : Counted L). CountsWrites l c.log.now) h.log lines;
    last = last;
  }

module _ {R W L : Type 0} (a b : Ports R W L) (h : CallsReader a b) where
  -- and which of them failed
  pub counts_read : {T : Type 0} {answer : Result T Fault} → failures_of b.reader.now ≡ failures_of a.reader.now + reader_failures answer → writer_failures answer ≡ 0 → log_failures answer ≡ 0 → CountsFault (devices_at a) (devices_at b) answer
  counts_read reader writer log = record { reader = reader; writer = omega (arith, ap failures_of h.writer, writer); log = omega (arith, ap failures_of h.log, log) }

  pub counts_chunk : {T : Type 0} {answer : Result T Fault} (c : Ports R W L) → failures_of b.reader.now ≡ failures_of a.reader.now → OnlyWrites b c → reader_failures answer ≡ 0 → failures_of c.writer.now ≡ failures_of b.writer.now + writer_failures answer → failures_of c.log.now ≡ failures_of b.log.now + log_failures answer
      → CountsFault (devices_at a) (devices_at c) answer
  counts_chunk c same k none writer log = record {
    reader = omega (arith, ap failures_of k.reader, same, none);
    writer = omega (arith, ap failures_of h.writer, writer);
    log = omega (arith, ap failures_of h.log, log);
  }

-- a fault that is handed on
pub fault_handed : {R W L S T : Type 0} {a b : Ports R W L} (r : Result T Fault) (e : Fault) → IsErrAnd r (λ (x : Fault). x ≡ e) → CountsPortsFault {T = S} a b (Err e) → CountsPortsFault a b r
fault_handed (Ok x) e same h = absurd same
fault_handed (Err x) e same h = rw same (record { writer = h.writer; log = h.log; not_reader = h.not_reader; not_other = h.not_other; output_calls = h.output_calls; log_calls = h.log_calls; last = h.last; journal = h.journal })

-- ---- what devices say of their bytes
module _ {R W L : Type 0} (remaining : R → Option (List ℕ)) (contents : W → Option (List ℕ)) (logged : L → Option (List ℕ)) (a b : Ports R W L) where
  pub tells_read : {E : Type 0} (r : Result ℕ E) (buf : List ℕ) → CallsReader a b → CallsOnce (history_of a.reader.now) (history_of b.reader.now) r buf → ReadConsumes (remaining (inner_of a.reader.now)) (remaining (inner_of b.reader.now)) r buf → ReadsAtMost r buf → 0 < length buf
      → TellWhatPassed (devices_at a) (devices_at b) (told_at remaining contents logged a) (told_at remaining contents logged b)
  tells_read r buf h once bytes bound some = record {
    input = reads_one (history_of a.reader.now) (history_of b.reader.now) (remaining (inner_of a.reader.now)) (remaining (inner_of b.reader.now)) r buf once bytes bound some;
    output = told_same contents a.writer.now b.writer.now h.writer;
    log = told_same logged a.log.now b.log.now h.log;
  }

  pub tells_ports : (d : Devices) (t : Told) → TellWhatPassed d (devices_at a) t (told_at remaining contents logged a) → OnlyWrites a b → TellWhatPortsTook contents logged a b → TellWhatPassed d (devices_at b) t (told_at remaining contents logged b)
  tells_ports d t told k took = record {
    input = subst (λ (r : Counted R). TellsReads d.reads (reads_of r) t.input (remaining (inner_of r))) (sym k.reader) told.input;
    output = taken_then _ _ _ _ _ _ told.output took.output;
    log = taken_then _ _ _ _ _ _ told.log took.log;
  }
