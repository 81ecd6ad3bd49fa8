-- At each call of the reader, all that is certain was written: the calls of steps in a row.
use Rattle.std.proofs.Common.{◌≡◌, ◌∙◌, ◌⊎◌, List, [], ◌∷◌, ◌++◌, inl, inr, map, length, length-append, refl, sym, ap, subst, append_assoc, append-nil, arith}
use Rattle.std.specs.List.{concat}
use Rattle.std.proofs.lemmas.List.{append_cancel_left}
use Rattle.recode_log.specs.Call.{Call, Failed, Flush, Passed, passed_by}
use Rattle.recode_log.specs.Counted.{passed_of}
use Rattle.recode_log.specs.Journal.{AtLog, AtReader, AtWriter, Entry, log_calls, reader_calls, writer_calls}
use Rattle.recode_log.specs.Ports.{CallsLog, CallsWriter, journal_of}
use Rattle.recode_log.specs.declared.ports.Ports.{Ports}
use Rattle.recode_log.specs.laws.Calls.{passed_by-append}
use Rattle.recode_log.specs.laws.Journal.{reader_at_log, reader_at_writer, reader_calls-append}
use Rattle.recode.specs.Devices.{Wrote, devices_at, reads_of, written_of}
use Rattle.recode.specs.Latency.{KeepsPace, TookCertain}
use Rattle.recode.specs.Order.{RunsInOrder, StepsInOrder, given_by}
use Rattle.recode.specs.TaggedByte.{IsPrefix, Line, Out, TaggedByte, call_bytes, log_bytes, order_of, output_bytes}
use Rattle.recode.specs.laws.Items.{log_bytes-append, log_bytes-lines, output_bytes-append, output_bytes-lines}
use Rattle.recode.specs.declared.job.Job.{Job}
use Rattle.recode.proofs.TraceLemmas.{known_same}
use Rattle.recode.proofs.OrderLemmas.{log_bytes-outs, order_of-append, output_bytes-outs}

-- a call of the reader among calls, of which the last ones are a call of the reader and others of writers: it is that call,
-- or one before it
split_at : (a b before after : List Entry) (one call : Call) → a ++ (AtReader one ∷ b) ≡ before ++ (AtReader call ∷ after) → reader_calls b ≡ [] → ((more : List Entry) × (a ≡ before ++ (AtReader call ∷ more))) ⊎ (before ≡ a)
split_at [] b [] after one call is none = inr refl
split_at [] b (e ∷ before) after one call is none =
    let rest : b ≡ before ++ (AtReader call ∷ after) = cc in
    let some : reader_calls before ++ (call ∷ reader_calls after) ≡ [] = sym (reader_calls-append before (AtReader call ∷ after)) ∙ sym (ap reader_calls rest) ∙ none in
    absurd (omega (arith, ap length some, length-append (reader_calls before) (call ∷ reader_calls after)))
split_at (e ∷ a) b [] after one call is none = let first : e ≡ AtReader call = cc in inl (a, ap (λ x. x ∷ a) first)
split_at (e ∷ a) b (f ∷ before) after one call is none =
    let first : e ≡ f = cc in
    let rest : a ++ (AtReader one ∷ b) ≡ before ++ (AtReader call ∷ after) = cc in
    elim (split_at a b before after one call rest none) [
      | inl k ↦ inl (k.0, ap (λ x. x ∷ a) first ∙ ap (λ l. f ∷ l) k.1)
      | inr same ↦ inr (ap (λ x. x ∷ before) (sym first) ∙ ap (λ l. e ∷ l) same)
    ]

-- no call so far
pub runs_start : (es : List Entry) (j : Job) → RunsInOrder es es j
runs_start es j = record {
  entries = [];
  made = sym (append-nil es);
  paced = λ before after call is. absurd (omega (arith, ap length is, length-append before (AtReader call ∷ after)));
}

module _ {R W L : Type 0} (a b : Ports R W L) (j : Job) (h : RunsInOrder (journal_of a) (journal_of b) j) (pace : KeepsPace (devices_at a) (devices_at b) j) where
  -- what was written so far is all that is certain
  now_certain : TookCertain j (given_by h.entries) (order_of h.entries)
  now_certain =
      let reads : pace.given.0 ≡ passed_by (reader_calls h.entries) =
      append_cancel_left (reads_of a.reader.now) pace.given.0 (passed_by (reader_calls h.entries))
      (sym pace.given.1 ∙ ap passed_by (sym b.of_reader) ∙ ap (λ l. passed_by (reader_calls l)) h.made ∙ ap passed_by (reader_calls-append (journal_of a) h.entries)
      ∙ passed_by-append (reader_calls (journal_of a)) (reader_calls h.entries) ∙ ap (λ l. passed_by l ++ passed_by (reader_calls h.entries)) a.of_reader) in
      let taken : pace.taken ≡ order_of h.entries =
      append_cancel_left (order_of (journal_of a)) pace.taken (order_of h.entries) (sym (known_same _ _ pace.wrote.ordered) ∙ ap order_of h.made ∙ order_of-append (journal_of a) h.entries) in
      subst (λ x. TookCertain j x (order_of h.entries)) (sym pace.given.2 ∙ ap concat reads) (subst (TookCertain j pace.input) taken pace.certain)

  -- so it is at the call of the reader of the next step
  pub runs_on : (after : List Entry) → StepsInOrder (journal_of b) after → RunsInOrder (journal_of a) after j
  runs_on after k = record {
    entries = h.entries ++ (AtReader k.call ∷ k.writes);
    made = k.made ∙ ap (λ l. l ++ (AtReader k.call ∷ k.writes)) h.made ∙ append_assoc (journal_of a) h.entries (AtReader k.call ∷ k.writes);
    paced = λ before more call is. elim (split_at h.entries k.writes before more k.call call is k.unread) [
      | inl one ↦ h.paced before one.0 call one.1
      | inr same ↦ subst (λ es. TookCertain j (given_by es) (order_of es)) (sym same) now_certain
    ];
  }

-- a call of the reader before calls of the others
among : (a b before after : List Entry) (call : Call) → a ++ b ≡ before ++ (AtReader call ∷ after) → reader_calls b ≡ [] → (more : List Entry) × (a ≡ before ++ (AtReader call ∷ more))
among [] b before after call is none =
    let some : reader_calls before ++ (call ∷ reader_calls after) ≡ [] = sym (reader_calls-append before (AtReader call ∷ after)) ∙ sym (ap reader_calls is) ∙ none in
    absurd (omega (arith, ap length some, length-append (reader_calls before) (call ∷ reader_calls after)))
among (e ∷ a) b [] after call is none = let first : e ≡ AtReader call = cc in (a, ap (λ x. x ∷ a) first)
among (e ∷ a) b (f ∷ before) after call is none =
    let first : e ≡ f = cc in
    let rest : a ++ b ≡ before ++ (AtReader call ∷ after) = cc in
    let k = among a b before after call rest none in
    (k.0, ap (λ x. x ∷ a) first ∙ ap (λ l. f ∷ l) k.1)

-- calls of the others behind a run change nothing of that
pub runs_then : (before ran after : List Entry) (j : Job) (more : List Entry) → RunsInOrder before ran j → after ≡ ran ++ more → reader_calls more ≡ [] → RunsInOrder before after j
runs_then before ran after j more h made none = record {
  entries = h.entries ++ more;
  made = made ∙ ap (λ l. l ++ more) h.made ∙ append_assoc before h.entries more;
  paced = λ front back call is. let k = among h.entries more front back call is none in h.paced front k.0 call k.1;
}

-- the log was called
pub runs_told : {R W L : Type 0} (a b c : Ports R W L) (j : Job) → RunsInOrder (journal_of a) (journal_of b) j → CallsLog b c → RunsInOrder (journal_of a) (journal_of c) j
runs_told a b c j h k = runs_then (journal_of a) (journal_of b) (journal_of c) j (map AtLog k.calls) h k.made (reader_at_log k.calls)

-- the writer, and then the log
pub runs_flushed : {R W L : Type 0} (a b c d : Ports R W L) (j : Job) → RunsInOrder (journal_of a) (journal_of b) j → CallsWriter b c → CallsLog c d → RunsInOrder (journal_of a) (journal_of d) j
runs_flushed a b c d j h k l = runs_told a c d j (runs_then (journal_of a) (journal_of b) (journal_of c) j (map AtWriter k.calls) h k.made (reader_at_writer k.calls)) l

-- what was taken up to some call is a prefix of what was taken in all
pub order_front : {R W L : Type 0} (a b : Ports R W L) (taken : List TaggedByte) (front back : List Entry) → Wrote (written_of a) (written_of b) taken → journal_of b ≡ journal_of a ++ (front ++ back) → IsPrefix (order_of front) taken
order_front a b taken front back wrote made = (
  order_of back,
  append_cancel_left (order_of (journal_of a)) taken (order_of front ++ order_of back)
      (sym (known_same _ _ wrote.ordered) ∙ ap order_of made ∙ order_of-append (journal_of a) (front ++ back) ∙ ap (λ l. order_of (journal_of a) ++ l) (order_of-append front back)),
)

-- it has the bytes of each
output_of_order : (es : List Entry) → output_bytes (order_of es) ≡ concat (passed_by (writer_calls es))
output_of_order [] = refl
output_of_order (AtReader call ∷ es) = output_of_order es
output_of_order (AtWriter (Passed room bytes) ∷ es) = output_bytes-append (map Out bytes) (order_of es) ∙ ap (λ l. l ++ output_bytes (order_of es)) (output_bytes-outs bytes) ∙ ap (λ l. bytes ++ l) (output_of_order es)
output_of_order (AtWriter (Failed room) ∷ es) = output_of_order es
output_of_order (AtWriter (Flush failed) ∷ es) = output_of_order es
output_of_order (AtLog call ∷ es) = output_bytes-append (map Line (call_bytes call)) (order_of es) ∙ ap (λ l. l ++ output_bytes (order_of es)) (output_bytes-lines (call_bytes call)) ∙ output_of_order es

log_of_order : (es : List Entry) → log_bytes (order_of es) ≡ concat (passed_by (log_calls es))
log_of_order [] = refl
log_of_order (AtReader call ∷ es) = log_of_order es
log_of_order (AtWriter call ∷ es) = log_bytes-append (map Out (call_bytes call)) (order_of es) ∙ ap (λ l. l ++ log_bytes (order_of es)) (log_bytes-outs (call_bytes call)) ∙ log_of_order es
log_of_order (AtLog (Passed room bytes) ∷ es) = log_bytes-append (map Line bytes) (order_of es) ∙ ap (λ l. l ++ log_bytes (order_of es)) (log_bytes-lines bytes) ∙ ap (λ l. bytes ++ l) (log_of_order es)
log_of_order (AtLog (Failed room) ∷ es) = log_of_order es
log_of_order (AtLog (Flush failed) ∷ es) = log_of_order es

pub output_in_order : {R W L : Type 0} (p : Ports R W L) → output_bytes (order_of (journal_of p)) ≡ passed_of p.writer.now
output_in_order p = output_of_order (journal_of p) ∙ ap (λ calls. concat (passed_by calls)) p.of_writer

pub log_in_order : {R W L : Type 0} (p : Ports R W L) → log_bytes (order_of (journal_of p)) ≡ passed_of p.log.now
log_in_order p = log_of_order (journal_of p) ∙ ap (λ calls. concat (passed_by calls)) p.of_log
