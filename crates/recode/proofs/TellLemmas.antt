-- What the devices of a conversion say of their bytes after calls in a row, which call was the last, and what the clauses of
-- a run say of devices that do.
use Rattle.std.proofs.Common.{◌≡◌, ◌<◌, ◌+◌, ℕ, is_err, List, [], ◌∷◌, ◌++◌, Option, Some, None, Result, Ok, Err, OnOk, OnErr, IfErr, IsErrAnd, refl, sym, ap, subst, ◌∙◌, append_assoc, append-nil, length, arith, rules}
use Rattle.std.specs.Io.KnownBytes.{Appends, Consumes, IsAtEnd}
use Rattle.std.specs.List.{All, concat}
use Rattle.std.proofs.lemmas.List.{append_cancel_left, same_from_push}
use Rattle.std.proofs.lemmas.List.Elements.{All-append, All-cons, All-nil}
use Rattle.recode_log.specs.Call.{Call, Failed, Flush, FlushesOnce, Passed, passed_by}
use Rattle.recode_log.specs.Counted.{CountsWrites, failures_of, history_of, inner_of, passed_of}
use Rattle.recode_log.specs.Ports.{CallsLog, CallsWriter}
use Rattle.recode_log.specs.declared.ports.Ports.{Ports}
use Rattle.recode_log.specs.declared.counted.Counted.{Counted}
use Rattle.recode_log.specs.laws.Calls.{passed_failed, passed_one}
use Rattle.recode_log.specs.laws.Counts.{counts_then}
use Rattle.recode.specs.Conversion.{IsFlushed}
use Rattle.recode.specs.Devices.{Devices, Gave, GaveToEnd, Grew, IsOf, PortsView, devices_at, reads_of}
use Rattle.recode.specs.Fault.{EndsAtFault, reader_failures}
use Rattle.recode.specs.Step.{GaveSome, IsReadInto, RunCalls, StepCalls}
use Rattle.recode_log.specs.Told.{TellsReads, TellsTaken}
use Rattle.recode_log.specs.laws.Told.{NoneYet, flushed_none, taken_kept, reads_none, reads_after, reads_one, reads_then, taken_none, taken_then}
use Rattle.recode.specs.Told.{Told, TellWhatPassed, told_at}
use Rattle.recode.specs.declared.job.Fault.{Fault}
use Rattle.recode.proofs.TraceLemmas.{GaveToEnd-is}
use Rattle.recode.proofs.ReadLemmas.{gave_to_end}
use Rattle.recode.specs.Job.{log_of, output_of}
use Rattle.recode.specs.RunsTold.{CompletesTold, FailsTold}
use Rattle.recode.specs.Session.{Completes, Fails}
use Rattle.recode.specs.TaggedByte.{log_bytes, output_bytes}
use Rattle.recode.specs.declared.job.Job.{Job}
use Rattle.recode.specs.declared.job.Report.{Report}

-- so a writer that says what it holds, holds what was taken
pub taken_is : (a b : List ℕ) (t u : Option (List ℕ)) (bytes : List ℕ) → TellsTaken a b t u → Grew a b bytes → Appends t u bytes
taken_is a b t u bytes h is = subst (Appends t u) (append_cancel_left a h.bytes bytes (sym h.took ∙ is)) h.held

-- a read that gave these is one that gave some
one_gave : (before after : List Call) (room : ℕ) (call : Call) (chunk : List ℕ) → IsReadInto room call → after ≡ before ++ (call ∷ []) → Gave (passed_by before) (passed_by after) chunk → 0 < length chunk
    → GaveSome room call × ((bytes : List ℕ) × (passed_by after ≡ passed_by before ++ (bytes ∷ [])) × (0 < length bytes))
one_gave before after room (Passed n bytes) chunk is once gave some =
    let one = passed_one before after n bytes once in
    let all : gave.0 ≡ bytes ∷ [] = append_cancel_left (passed_by before) gave.0 (bytes ∷ []) (sym gave.1 ∙ one) in
    let more : 0 < length bytes = omega (arith, some, ap length (sym gave.2 ∙ ap concat all ∙ append-nil bytes)) in
    ((is, more), (bytes, one, more))
one_gave before after room (Failed n) chunk is once gave some =
    let all : gave.0 ≡ [] = append_cancel_left (passed_by before) gave.0 [] (sym gave.1 ∙ passed_failed before after n once ∙ sym (append-nil (passed_by before))) in
    absurd (omega (arith, some, ap length (sym gave.2 ∙ ap concat all)))
one_gave before after room (Flush failed) chunk is once gave some = absurd is

-- nor after one that gave some
pub none_yet_on : (a : List (List ℕ)) (before after : List Call) (room : ℕ) (call : Call) (chunk : List ℕ) → NoneYet a (passed_by before) → IsReadInto room call → after ≡ before ++ (call ∷ [])
    → Gave (passed_by before) (passed_by after) chunk → 0 < length chunk → NoneYet a (passed_by after)
none_yet_on a before after room call chunk yet is once gave some front e =
    let one = (one_gave before after room call chunk is once gave some).1 in
    let none = same_from_push (passed_by before) (a ++ front) one.0 [] (sym one.1 ∙ e ∙ sym (append_assoc a front ([] ∷ []))) in
    omega (arith, one.2, ap length none.1)

-- reads with room for so many bytes, each of which gave some
pub record ReadsSome (before after : List Call) (room : ℕ) : Type 0 where
  pub earlier : List Call
  pub calls : after ≡ before ++ earlier
  pub some : All (GaveSome room) earlier

pub reads_start : (calls : List Call) (room : ℕ) → ReadsSome calls calls room
reads_start calls room = record { earlier = []; calls = sym (append-nil calls); some = All-nil (GaveSome room) }

pub reads_on : (a before after : List Call) (room room' : ℕ) (call : Call) (chunk : List ℕ) → ReadsSome a before room → room' ≡ room → IsReadInto room' call → after ≡ before ++ (call ∷ [])
    → Gave (passed_by before) (passed_by after) chunk → 0 < length chunk → ReadsSome a after room
reads_on a before after room room' call chunk h same is once gave some = record {
  earlier = h.earlier ++ (call ∷ []);
  calls = once ∙ ap (λ l. l ++ (call ∷ [])) h.calls ∙ append_assoc a h.earlier (call ∷ []);
  some = All-append (GaveSome room) h.earlier (call ∷ []) h.some (All-cons (GaveSome room) call [] (one_gave before after room call chunk (rw same at is) once gave some).0 (All-nil (GaveSome room)));
}

-- a fault that is handed on, which is not of the reader
pub not_of_reader : {T : Type 0} (S : Type 0) (r : Result T Fault) (e : Fault) → IsErrAnd r (λ (x : Fault). x ≡ e) → reader_failures {T = S} (Err e) ≡ 0 → reader_failures r ≡ 0
not_of_reader S (Ok x) e same h = absurd same
not_of_reader S (Err x) e same h = rw same h

-- so what its calls gave is what it has lost
pub reads_are : (a b : List (List ℕ)) (t u : Option (List ℕ)) (bytes : List ℕ) → TellsReads a b t u → Gave a b bytes → Consumes t u bytes
reads_are a b t u bytes h given = subst (Consumes t u) (ap concat (append_cancel_left a h.reads given.0 (sym h.gave ∙ given.1)) ∙ given.2) h.consumed

-- and it is at its end if the last call gave none
pub reads_end : (a b : List (List ℕ)) (t u : Option (List ℕ)) (bytes : List ℕ) → TellsReads a b t u → GaveToEnd a b bytes → IsAtEnd u
reads_end a b t u bytes h given = h.end given.0 (append_cancel_left a h.reads (given.0 ++ ([] ∷ [])) (sym h.gave ∙ given.1))

-- a reader that says it has these bytes gives what begins them, and all of them by its end
pub reads_is_of : (x : List ℕ) (a b : List (List ℕ)) (t u : Option (List ℕ)) → t ≡ Some x → TellsReads a b t u → IsOf a b x
reads_is_of x a b t u is h = record {
  front = λ bytes given. front_of u bytes (subst (λ (w : Option (List ℕ)). Consumes w u bytes) is (reads_are a b t u bytes h given));
  whole = λ bytes given. whole_of u bytes (subst (λ (w : Option (List ℕ)). Consumes w u bytes) is (reads_are a b t u bytes h (GaveToEnd-is a b bytes given))) (reads_end a b t u bytes h given);
}
  where
    front_of : (u : Option (List ℕ)) (bytes : List ℕ) → Consumes (Some x) u bytes → (rest : List ℕ) × (x ≡ bytes ++ rest)
    front_of None bytes consumed = absurd consumed
    front_of (Some y) bytes consumed = (y, consumed)

    whole_of : (u : Option (List ℕ)) (bytes : List ℕ) → Consumes (Some x) u bytes → IsAtEnd u → bytes ≡ x
    whole_of None bytes consumed end = absurd consumed
    whole_of (Some y) bytes consumed end = sym (consumed ∙ ap (λ l. bytes ++ l) end ∙ append-nil bytes)

-- ---- all three

pub tells_none : (d : Devices) (t : Told) → TellWhatPassed d d t t
tells_none d t = record { input = reads_none d.reads t.input; output = taken_none d.written.output t.output; log = taken_none d.written.log t.log }

pub tells_then : (d e f : Devices) (t u v : Told) → NoneYet d.reads e.reads → TellWhatPassed d e t u → TellWhatPassed e f u v → TellWhatPassed d f t v
tells_then d e f t u v yet h k = search (rules, reads_then, taken_then)

pub tells_on : (d e f : Devices) (t u v : Told) (x : List ℕ) → t.input ≡ Some x → TellWhatPassed d e t u → TellWhatPassed e f u v → TellWhatPassed d f t v
tells_on d e f t u v x is h k = search (rules, reads_after, taken_then)

-- and then the writer or the log was called
module _ {R W L : Type 0} (remaining : R → Option (List ℕ)) (contents : W → Option (List ℕ)) (logged : L → Option (List ℕ)) (d : Devices) (t : Told) (a b : Ports R W L)
    (told : TellWhatPassed d (devices_at a) t (told_at remaining contents logged a)) where
  pub tells_by_writer : CallsWriter a b → TellsTaken (passed_of a.writer.now) (passed_of b.writer.now) (contents (inner_of a.writer.now)) (contents (inner_of b.writer.now)) → TellWhatPassed d (devices_at b) t (told_at remaining contents logged b)
  tells_by_writer h k = record {
    input = subst (λ (r : Counted R). TellsReads d.reads (reads_of r) t.input (remaining (inner_of r))) (sym h.reader) told.input;
    output = taken_then _ _ _ _ _ _ told.output k;
    log = subst (λ (l : Counted L). TellsTaken d.written.log (passed_of l) t.log (logged (inner_of l))) (sym h.log) told.log;
  }

  pub tells_by_log : CallsLog a b → TellsTaken (passed_of a.log.now) (passed_of b.log.now) (logged (inner_of a.log.now)) (logged (inner_of b.log.now)) → TellWhatPassed d (devices_at b) t (told_at remaining contents logged b)
  tells_by_log h k = record {
    input = subst (λ (r : Counted R). TellsReads d.reads (reads_of r) t.input (remaining (inner_of r))) (sym h.reader) told.input;
    output = subst (λ (w : Counted W). TellsTaken d.written.output (passed_of w) t.output (contents (inner_of w))) (sym h.writer) told.output;
    log = taken_then _ _ _ _ _ _ told.log k;
  }

-- a flush, which fails or not
pub flushed_as : {W T E : Type 0} (before after : Counted W) (r : Result T E) → FlushesOnce (history_of before) (history_of after) r → OnOk r (failures_of after ≡ failures_of before)
    → OnErr r (failures_of after ≡ failures_of before + 1) → IsFlushed before after (is_err r)
flushed_as before after (Ok x) once same more = record { once = once; counted = omega (arith, same) }
flushed_as before after (Err e) once same more = record { once = once; counted = more }

pub ruleset flush_rules = (flushed_as, flushed_none, taken_kept)

-- ---- the last call

-- a call of a writer or of the log failed
pub last_failed : {T : Type 0} (g : Fault) (r : Result T Fault) (writer log : List Call)
    → IfErr r (λ (f : Fault). f ≡ g) → OnErr r (EndsAtFault writer log g) → IfErr r (EndsAtFault writer log)
last_failed g (Ok x) writer log is h = tt
last_failed g (Err f) writer log is h = rw is h

-- the calls of a run whose last step made these
pub run_calls : {R W L S T : Type 0} (p q t : PortsView R W L) (room : ℕ) {room' : ℕ} {s : Result S Fault} {result : Result T Fault} → ReadsSome (history_of p.reader) (history_of q.reader) room
    → CountsWrites p.writer q.writer → CountsWrites p.log q.log → room' ≡ room → StepCalls q t room' s → reader_failures s ≡ reader_failures result → IfErr result (EndsAtFault (history_of t.writer) (history_of t.log)) → RunCalls p t room result
run_calls p q t room h writes lines same k failed last = record {
  earlier = h.earlier;
  call = k.call;
  calls = k.once ∙ ap (λ x. x ++ (k.call ∷ [])) h.calls ∙ append_assoc (history_of p.reader) h.earlier (k.call ∷ []);
  some = h.some;
  is = rw same at k.is;
  failed = k.failed ∙ failed;
  writes = counts_then p.writer q.writer t.writer writes k.writes;
  lines = counts_then p.log q.log t.log lines k.lines;
  last = last;
}

module _ (d e : Devices) (t u : Told) (tells : TellWhatPassed d e t u) (j : Job) where
  pub completes_told : (p : Report) → Completes d e j p → CompletesTold d e t u j p
  completes_told p k = record {
    completes = k;
    consumed = reads_are d.reads e.reads t.input u.input k.input tells.input (GaveToEnd-is d.reads e.reads k.input k.given);
    end = reads_end d.reads e.reads t.input u.input k.input tells.input k.given;
    output = taken_is d.written.output e.written.output t.output u.output (output_of j k.input) tells.output k.converted.whole.output;
    logged = taken_is d.written.log e.written.log t.log u.log (log_of j k.input) tells.log k.converted.whole.logged;
  }

  pub fails_told : (f : Fault) → Fails d e j f → FailsTold d e t u j f
  fails_told f k = record {
    fails = k;
    consumed = reads_are d.reads e.reads t.input u.input (concat k.reads) tells.input (k.reads, k.given, refl);
    end = λ h. reads_end d.reads e.reads t.input u.input (concat k.reads) tells.input (gave_to_end d.reads e.reads k.reads k.given h);
    output = taken_is d.written.output e.written.output t.output u.output (output_bytes k.taken) tells.output k.wrote.output;
    logged = taken_is d.written.log e.written.log t.log u.log (log_bytes k.taken) tells.log k.wrote.lined;
  }
