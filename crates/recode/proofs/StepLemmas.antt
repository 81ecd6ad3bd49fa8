-- How a step's parts make its clauses, how steps make a run, how a run and flushes make a conversion, and what its
-- status says.
use Rattle.std.proofs.Common.{Result, OnOk, IfErr, Err, Ok, ◌⊎◌, ◌≡◌, ℕ, ◌+◌, ◌≤◌, ◌<◌, add-zero, arith, length-append, append_assoc, List, [], ◌∷◌, ◌++◌, map, take, length, Bool, true, false, refl, sym, ap, ◌∙◌, subst, append-nil, inl, inr, ◌*◌, ◌≢◌, IfOk, Some}
use Rattle.std.specs.Prelude.{if◌then◌else◌}
use Rattle.recode.proofs.TraceLemmas.{Gave-nil, Gave-one, Gave-trans, GaveThen-after, WritesItemsFor-start, Wrote-nil, Wrote-trans, left_behind, items_split}
use Rattle.encoding_mem.specs.Items.{Item}
use Rattle.encoding_mem.specs.Piece.{text, AreWellFormed}
use Rattle.encoding_mem.specs.laws.Piece.{text-append}
use Rattle.recode.specs.State.{State, to_write}
use Rattle.recode.specs.Devices.{Devices, Failures, Gave, GaveToEnd, KeepsWritten, Written, Wrote, devices_at, reads_of, ports_at}
use Rattle.recode.specs.TaggedByte.{IsPrefix, Line, Out, log_bytes, order_of, output_bytes, tagged, TaggedByte}
use Rattle.recode.specs.Policy.{written_under, reference_form}
use Rattle.recode.specs.WrittenItems.{IsLeft, IsStop, WritesPrefixFor, IsSpared, bad_line_count, lost_line_count}
use Rattle.recode.specs.Step.{Finishes, HasRun, IsNearlyDecided, RunCalls, StepsOn, Stops, WasRead}
use Rattle.recode.specs.Runs.{RunReturns}
use Rattle.recode.specs.Fault.{of_other}
use Rattle.recode.specs.declared.job.Fault.{Fault}
use Rattle.recode.specs.declared.job.Fault.TheVariants.{Read, Write, Log, TooLong, Unmappable}
use Rattle.recode.proofs.LatencyLemmas.{advances_more, ran_items, stands_run, wrote_decided}
use Rattle.recode.proofs.VerdictLemmas.{both_ways}
use Rattle.recode.specs.laws.Items.{tagged-append, AreCounted-trans, spared_append}
use Rattle.recode_log.specs.Counted.{TellsMessage, history_of, passed_of}
use Rattle.recode_log.specs.declared.counted.Counted.{Counted}
use Rattle.recode.specs.Conversion.{Converts, EndsInFault, IsConversion, IsFlushed, message_of, after_flushes, status_of}
use Rattle.recode.specs.Job.{trace, IsValidJob, Faithful, input_pieces, output_pieces, input_text, target_of, log_of, output_of, whole_trace}
use Rattle.recode.specs.Session.{Completes, Fails, View, IsNewSession, Tells, at_end, input_of}
use Rattle.recode.specs.declared.job.Job.{Job}
use Rattle.recode.specs.declared.job.Policy.{Policy}
use Rattle.recode.specs.declared.job.Report.{Report}
use Rattle.std.proofs.lemmas.List.{append_cancel_left, append_cancel_right}
use Rattle.std.specs.List.{concat}
use Rattle.encoding_mem.specs.Coding.{AllMapped}
use Rattle.encoding_front.specs.Encodings.{KeepsCharacters}
use Rattle.encoding_front.specs.laws.Encodings.{reads_back_exactly}
use Rattle.encoding_front.specs.laws.Input.{marked_scalars}
use Rattle.encoding_mem.specs.ReadBack.{ReadsAs}
use Rattle.recode.specs.Work.{ReportsFewCalls}
use Rattle.recode.specs.Latency.{KeepsPace, TookCertain, WroteDecided}
use Rattle.recode.specs.RunsTold.{FailsDecided}
use Rattle.recode.proofs.CertainLemmas.{certain}
use Rattle.std.proofs.lemmas.List.Folds.{concat-append}
use Rattle.recode.proofs.ReadLemmas.{at_end_after, end_is, input_all, input_is}
use Rattle.recode.proofs.StopLemmas.{bads_of, losts_of, mapped_where_faithful, output_where_mapped, quiet_where_kept, trace_where_spared, whole_within}
use Rattle.recode_log.specs.Call.{Call, Flush, passed_by}
use Rattle.recode_log.specs.Journal.{AtLog, AtWriter, log_calls}
use Rattle.recode_log.specs.Ports.{CallsLog, CallsWriter, journal_of}
use Rattle.recode_log.specs.declared.ports.Ports.{Ports}
use Rattle.recode_log.specs.laws.Calls.{passed_calls, passed_flush}
use Rattle.recode_log.specs.laws.Journal.{history_of_log, history_of_writer, log_at_log, log_calls-append}
use Rattle.recode.proofs.OrderLemmas.{order_at_log, order_of-append}

nothing_under : (w : Written) (p : Policy) (f : Fault) (last : Bool) (to_write : List ℕ → List Item) → ((index scalar : ℕ) → f ≡ Unmappable index scalar → ⊥) → WritesPrefixFor w w p f last to_write
nothing_under w p f last to_write other = record {
  taken = [];
  wrote = Wrote-nil w;
  left = λ r h. record { prefix = (tagged (written_under p (to_write r)), refl); policy = λ i c is. absurd (other i c is); stopped = λ i c is. absurd (other i c is) };
}

keeps_all : (w : Written) → KeepsWritten w w
keeps_all w = record { output = refl; log = refl; order = refl }

pub stops_unread : (a b : List (List ℕ)) (w w' : Written) (n m : Failures) (limit : ℕ) (s : State) → b ≡ a → w' ≡ w → s.counts.read ≤ limit
    → Stops (record { reads = a; written = w; failures = n }) (record { reads = b; written = w'; failures = m }) limit s Read
stops_unread a b w w' n m limit s p same within = subst (λ v. Stops (record { reads = a; written = w; failures = n }) (record { reads = b; written = v; failures = m }) limit s Read) (sym same) (record {
  read = record { input = []; refused = []; ended = false; given = ([], p ∙ sym (append-nil a), refl); end = λ h. cc; spared = λ h. refl; last = λ is. absurd (cc) };
  within = omega (arith, within);
  limited = λ is. absurd (cc);
  pays = nothing_under w s.policy Read false (to_write s) (λ i c is. cc);
  untouched = λ h. (refl, keeps_all w);
})

pub stops_refused : (a b : List (List ℕ)) (w w' : Written) (n m : Failures) (limit : ℕ) (s : State) (chunk : List ℕ) → b ≡ a ++ (chunk ∷ []) → w' ≡ w → s.counts.read ≤ limit → limit < s.counts.read + length chunk
    → Stops (record { reads = a; written = w; failures = n }) (record { reads = b; written = w'; failures = m }) limit s TooLong
stops_refused a b w w' n m limit s chunk p same within past = subst (λ v. Stops (record { reads = a; written = w; failures = n }) (record { reads = b; written = v; failures = m }) limit s TooLong) (sym same) (record {
  read = record { input = []; refused = chunk; ended = false; given = Gave-one a b chunk p; end = λ h. cc; spared = λ h. absurd (h refl); last = λ is. ([], p, refl) };
  within = omega (arith, within);
  limited = λ is. past;
  pays = nothing_under w s.policy TooLong false (to_write s) (λ i c is. cc);
  untouched = λ h. (refl, keeps_all w);
})

-- a fault of a writer, or of the policy
pub stops_under : (before after : Devices) (limit : ℕ) (last : Bool) (s : State) (chunk : List ℕ) (f : Fault) → Gave before.reads after.reads chunk → (last ≡ true → GaveToEnd before.reads after.reads chunk)
    → of_other {T = Unit {0}} (Err f) ≡ 0 → s.counts.read + length chunk ≤ limit → WritesPrefixFor before.written after.written s.policy f last (λ r. to_write s (chunk ++ r)) → Stops before after limit s f
stops_under before after limit last s chunk f p e writing within q = record {
  read = record { input = chunk; refused = []; ended = last; given = rw (append-nil chunk) p; end = e; spared = λ h. refl; last = λ is. absurd (omega (arith, rw is at writing)) };
  within = within;
  limited = λ is. absurd (omega (arith, rw is at writing));
  pays = q;
  untouched = λ h. absurd (elim h [ inl is ↦ omega (arith, rw is at writing) | inr is ↦ omega (arith, rw is at writing) ]);
}

-- What a run has done that a fault ended.
pub record HasStopped (before after : Devices) (limit : ℕ) (s : State) (fault : Fault) : Type 0 where
  pub read : WasRead before.reads after.reads fault
  pub within : s.counts.read + length read.input ≤ limit
  pub limited : fault ≡ TooLong → limit < s.counts.read + length (read.input ++ read.refused)
  pub pays : WritesPrefixFor before.written after.written s.policy fault read.ended (λ r. to_write s (read.input ++ r))
  -- if no writer failed, what was written is what the steps before wrote
  pub latest : (fault ≡ Read) ⊎ (fault ≡ TooLong) → (t : Devices) × (s' : State) × (ran : HasRun before t limit s s') × (ran.chunk ≡ read.input) × (pays.taken ≡ tagged ran.pays.written_items) × KeepsWritten t.written after.written

-- nothing was taken if nothing was written
none_grew : (a b bytes : List ℕ) → b ≡ a ++ bytes → b ≡ a → bytes ≡ []
none_grew a b bytes grew same = append_cancel_left a bytes [] (sym grew ∙ same ∙ sym (append-nil a))

pub none_tagged : (t : List TaggedByte) → output_bytes t ≡ [] → log_bytes t ≡ [] → t ≡ []
none_tagged [] h k = refl
none_tagged (Out b ∷ t) h k = absurd (cc)
none_tagged (Line b ∷ t) h k = absurd (cc)

none_taken : (w w' : Written) (t : List TaggedByte) → Wrote w w' t → KeepsWritten w w' → t ≡ []
none_taken w w' t h k = none_tagged t (none_grew w.output w'.output (output_bytes t) h.output k.output) (none_grew w.log w'.log (log_bytes t) h.lined k.log)

pub goes_on_start : (a : Devices) (limit : ℕ) (s : State) → s.counts.read ≤ limit → IsNearlyDecided s.decoder → HasRun a a limit s s
goes_on_start a limit s within settled = record {
  chunk = [];
  given = Gave-nil a.reads;
  counted = sym (add-zero s.counts.read);
  within = within;
  target = refl;
  policy = refl;
  advances = record { taken = []; rest = λ r. refl; set = refl; index = omega arith };
  settled = settled;
  pays = WritesItemsFor-start a.written s.counts s.policy false (to_write s);
  source = λ r. refl;
  verdict = λ r. (λ h. h, λ h. h);
  calls = λ r. omega arith;
  least = λ under. omega arith;
}

pub goes_on_more : (a b c : Devices) (limit : ℕ) (s s1 s2 : State) → HasRun a b limit s s1 → StepsOn b c limit s1 s2 → HasRun a c limit s s2
goes_on_more a b c limit s s1 s2 p q = record {
  chunk = p.chunk ++ q.chunk;
  given = Gave-trans a.reads b.reads c.reads p.chunk q.chunk p.given q.given;
  counted = omega (arith, p.counted, q.counted, length-append p.chunk q.chunk);
  within = q.within;
  target = q.target ∙ p.target;
  policy = q.policy ∙ p.policy;
  advances =
      let f = p.advances in
      let rest = λ (r : List ℕ). ap s.decoder.pieces (append_assoc p.chunk q.chunk r) ∙ f.rest (q.chunk ++ r) in
      advances_more _ (λ r. s1.decoder.pieces (q.chunk ++ r)) _ _ _ _ _ _ _ _ (record { taken = f.taken; rest = rest; set = f.set; index = f.index }) (rw p.target at q.advances);
  settled = q.settled;
  pays = record {
    written_items = p.pays.written_items ++ q.pays.written_items;
    wrote = subst (Wrote a.written c.written) (sym (tagged-append p.pays.written_items q.pays.written_items)) (Wrote-trans a.written b.written c.written _ _ p.pays.wrote q.pays.wrote);
    counted = AreCounted-trans s.counts s1.counts s2.counts p.pays.written_items q.pays.written_items p.pays.counted q.pays.counted;
    spared = spared_append s.policy p.pays.written_items q.pays.written_items p.pays.spared (rw p.policy at q.pays.spared);
    equals = λ r h. ap (to_write s) (append_assoc p.chunk q.chunk r) ∙ p.pays.equals (q.chunk ++ r) (λ k. cc) ∙ ap (λ t. p.pays.written_items ++ t) (q.pays.equals r h)
        ∙ sym (append_assoc p.pays.written_items q.pays.written_items (to_write s2 r));
  };
  source = λ r. ap s.source (append_assoc p.chunk q.chunk r) ∙ p.source (q.chunk ++ r) ∙ q.source r;
  verdict = λ r. rw (append_assoc p.chunk q.chunk r) (both_ways (p.verdict (q.chunk ++ r)) (q.verdict r));
  calls = λ r. rw (append_assoc p.chunk q.chunk r) (omega (arith, p.calls (q.chunk ++ r), q.calls r, q.grows, q.counted, length-append p.chunk q.chunk));
  least = λ under.
      let later = q.least under in
      omega (arith, length-append p.chunk q.chunk, later, p.pays.counted.bad, q.pays.counted.bad, p.least (omega (arith, later, under, q.pays.counted.lost)));
}

pub goes_on_finish : (a b c : Devices) (limit : ℕ) (s s1 s2 : State) → HasRun a b limit s s1 → Finishes b c limit s1 s2 → Finishes a c limit s s2
goes_on_finish a b c limit s s1 s2 p q = record {
  chunk = p.chunk ++ q.chunk;
  given = GaveThen-after a.reads b.reads c.reads p.chunk q.chunk [] p.given q.given;
  counted = omega (arith, p.counted, q.counted, length-append p.chunk q.chunk);
  within = q.within;
  pays = record {
    written_items = p.pays.written_items ++ q.pays.written_items;
    wrote = subst (Wrote a.written c.written) (sym (tagged-append p.pays.written_items q.pays.written_items)) (Wrote-trans a.written b.written c.written _ _ p.pays.wrote q.pays.wrote);
    counted = AreCounted-trans s.counts s1.counts s2.counts p.pays.written_items q.pays.written_items p.pays.counted q.pays.counted;
    spared = spared_append s.policy p.pays.written_items q.pays.written_items p.pays.spared (rw p.policy at q.pays.spared);
    equals = p.pays.equals q.chunk (λ k. cc) ∙ ap (λ t. p.pays.written_items ++ t) q.pays.equals ∙ sym (append_assoc p.pays.written_items q.pays.written_items []);
  };
  source = p.source q.chunk ∙ q.source;
  characters =
      let f = p.advances in
      let behind = s1.decoder.pieces q.chunk in
      omega (arith, q.characters, f.index, ap (λ ps. length (text ps)) (f.rest q.chunk), ap length (text-append f.taken behind), length-append (text f.taken) (text behind));
  verdict = both_ways (p.verdict q.chunk) q.verdict;
  calls = omega (arith, p.calls q.chunk, q.calls, length-append p.chunk q.chunk);
  least = λ under.
      let later = q.least under in
      omega (arith, length-append p.chunk q.chunk, later, p.pays.counted.bad, q.pays.counted.bad, p.least (omega (arith, later, under, q.pays.counted.lost)));
  sound = q.sound;
}

pub goes_on_stop : (a b c : Devices) (limit : ℕ) (s s1 : State) (f : Fault) → HasRun a b limit s s1 → Stops b c limit s1 f → HasStopped a c limit s f
goes_on_stop a b c limit s s1 f p q = record {
  read = record {
    input = p.chunk ++ q.read.input;
    refused = q.read.refused;
    ended = q.read.ended;
    given = subst (Gave a.reads c.reads) (sym (append_assoc p.chunk q.read.input q.read.refused)) (Gave-trans a.reads b.reads c.reads p.chunk (q.read.input ++ q.read.refused) p.given q.read.given);
    end = λ h. GaveThen-after a.reads b.reads c.reads p.chunk q.read.input [] p.given (q.read.end h);
    spared = q.read.spared;
    last = λ is. GaveThen-after a.reads b.reads c.reads p.chunk q.read.input q.read.refused p.given (q.read.last is);
  };
  within = omega (arith, p.counted, length-append p.chunk q.read.input, q.within);
  limited = λ is. omega (arith, p.counted, length-append p.chunk (q.read.input ++ q.read.refused), ap length (append_assoc p.chunk q.read.input q.read.refused), q.limited is);
  pays = record {
    taken = tagged p.pays.written_items ++ q.pays.taken;
    wrote = Wrote-trans a.written b.written c.written _ _ p.pays.wrote q.pays.wrote;
    left = λ r h. left_behind s.policy f p.pays.written_items q.pays.taken _ (to_write s1 (q.read.input ++ r)) p.pays.spared
        (ap (to_write s) (append_assoc p.chunk q.read.input r) ∙ p.pays.equals (q.read.input ++ r) (λ k. cc)) (subst (λ (k : Policy). IsLeft k f q.pays.taken (to_write s1 (q.read.input ++ r))) p.policy (q.pays.left r h));
  };
  latest = λ h.
      let kept = q.untouched h in (
        b,
        s1,
        p,
        sym (append-nil p.chunk) ∙ ap (λ x. p.chunk ++ x) (sym kept.0),
        ap (λ t. tagged p.pays.written_items ++ t) (none_taken b.written c.written q.pays.taken q.pays.wrote kept.1) ∙ append-nil (tagged p.pays.written_items),
        kept.1,
      );
}

-- From steps to runs.

-- nothing was lost if each piece is well-formed and each character has bytes, and only then
pub faithful_where_kept : (j : Job) (x : List ℕ) → IsValidJob j → KeepsCharacters j.to → AreWellFormed (input_pieces j x) → AllMapped (target_of j) (input_text j x) → Faithful j x
faithful_where_kept j x v keeps h k =
    let back = (reads_back_exactly j.tables.now j.to keeps v.tables (reference_form j.policy) (input_text j x) (marked_scalars j.tables.now j.mark j.from x v.tables)).1 k in
    let read : ReadsAs (output_pieces j) (output_of j x) (input_text j x) =
    subst (λ y. ReadsAs (output_pieces j) y (input_text j x)) (sym (output_where_mapped j x v k)) (record { well_formed = back.well_formed; same = back.same }) in
    record { source = h; target = read.well_formed; same = read.same }

pub quiet_where_faithful : (j : Job) (x : List ℕ) → IsValidJob j → Faithful j x → log_of j x ≡ []
quiet_where_faithful j x v f = quiet_where_kept j x f.source (mapped_where_faithful j x v f)

whole_items : {before after : Devices} {j : Job} {v : View} (u : View) → IsNewSession v j → (f : Finishes before after j.limit v.state u.state) → f.pays.written_items ≡ whole_trace j f.chunk
whole_items u b f = sym (append-nil f.pays.written_items) ∙ sym f.pays.equals ∙ b.owes_trace f.chunk

pub completes : (before after : Devices) (j : Job) (v u : View) (p : Report) → IsValidJob j → IsNewSession v j → Finishes before after j.limit v.state u.state → Tells u p
    → Completes before after j p × ReportsFewCalls p
completes before after j v u p valid b f t =
    let x : List ℕ = f.chunk in
    let items = whole_items u b f in
    let spared : IsSpared j.policy (whole_trace j x) = subst (IsSpared j.policy) items (subst (λ (q : Policy). IsSpared q f.pays.written_items) b.policy f.pays.spared) in
    let wrote : Wrote before.written after.written (tagged (trace j x)) = subst (λ t. Wrote before.written after.written (tagged t)) (items ∙ sym (trace_where_spared j x spared)) f.pays.wrote in
    -- the bounds on the calls that are reported
    let most : p.calls ≤ 37 * p.read + 9 =
    omega (arith, t.calls, t.read, f.calls, b.calls, b.index, b.read, b.bad, b.lost, f.counted, f.pays.counted.bad, f.pays.counted.lost, ap bad_line_count items, ap lost_line_count items, f.sound.index, f.sound.bad, f.sound.lost, ap length (b.owes_trace x), items_split (whole_trace j x), whole_within j x valid) in
    let calls : ReportsFewCalls p =
    record { least = omega (arith, t.read, f.counted, b.read, t.calls, t.bad, t.lost, b.calls, b.bad, b.lost, f.least (omega (arith, most, t.calls, t.read, f.counted, f.within, b.read, valid.limit))); most = most } in (
      record {
        input = x;
        given = f.given;
        converted = record {
          whole = record {
            within = omega (arith, f.within, f.counted, b.read);
            unstopped = λ stops. sym (losts_of j x) ∙ spared stops;
            output = wrote.output;
            logged = wrote.lined;
            ordered = wrote.ordered;
          };
          report = record {
            read = omega (arith, t.read, f.counted, b.read);
            bad = omega (arith, t.bad, f.pays.counted.bad, ap bad_line_count items, b.bad, bads_of j x);
            lost = omega (arith, t.lost, f.pays.counted.lost, ap lost_line_count items, b.lost, losts_of j x);
            encoding = t.encoding ∙ sym f.source ∙ b.source x;
            faithful = (λ h. (b.verdict x).0 (f.verdict.1 (sym t.verdict ∙ h)), λ h. t.verdict ∙ f.verdict.0 ((b.verdict x).1 h));
          };
        };
      },
      calls,
    )

-- calls gave one input to its end
given_once : (a b : List (List ℕ)) (x y : List ℕ) → GaveToEnd a b x → GaveToEnd a b y → x ≡ y
given_once a b x y p q =
    let end : List (List ℕ) = [] ∷ [] in
    let same = append_cancel_right p.0 q.0 end (append_cancel_left a (p.0 ++ end) (q.0 ++ end) (sym p.1 ∙ q.1)) in
    sym p.2 ∙ ap concat same ∙ q.2

-- all characters of its text are counted
pub counts_text : (before after : Devices) (j : Job) (v : View) (w : State) → IsNewSession v j → Finishes before after j.limit v.state w
    → (x : List ℕ) → GaveToEnd before.reads after.reads x → w.counts.index ≡ length (input_text j x)
counts_text before after j v w b f x given =
    omega (arith, f.characters, b.index, ap (λ ps. length (text ps)) (b.pieces f.chunk), ap (λ y. length (input_text j y)) (given_once before.reads after.reads f.chunk x f.given given))

-- what steps that went on have written is all that is certain
ran_certain : (a b : Devices) (j : Job) (v : View) (s : State) → IsValidJob j → IsNewSession v j → (p : HasRun a b j.limit v.state s) → TookCertain j p.chunk (tagged p.pays.written_items)
ran_certain a b j v s valid n p =
    let items = ran_items a b j v s n p in
    let spared : IsSpared j.policy p.pays.written_items = subst (λ (q : Policy). IsSpared q p.pays.written_items) n.policy p.pays.spared in
    certain a b j s p.chunk p.advances.taken valid (stands_run a b j v s n p) p.settled (tagged p.pays.written_items) (subst (IsSpared j.policy) items spared) (ap tagged items)

pub keeps_pace : (a b : Devices) (j : Job) (v : View) (s : State) → IsValidJob j → IsNewSession v j → HasRun a b j.limit v.state s → KeepsPace a b j
keeps_pace a b j v s valid n p = record { input = p.chunk; given = p.given; taken = tagged p.pays.written_items; wrote = p.pays.wrote; certain = ran_certain a b j v s valid n p }

pub fails : (before after : Devices) (j : Job) (v : View) (f : Fault) → IsValidJob j → IsNewSession v j → HasStopped before after j.limit v.state f → Fails before after j f
fails before after j v f valid b s =
    let left : (r : List ℕ) → (s.read.ended ≡ true → r ≡ []) → IsLeft j.policy f s.pays.taken (whole_trace j (s.read.input ++ r)) =
    λ r h. subst (λ (p : Policy). IsLeft p f s.pays.taken (whole_trace j (s.read.input ++ r))) b.policy
    (subst (IsLeft v.state.policy f s.pays.taken) (b.owes_trace (s.read.input ++ r)) (s.pays.left r h)) in
    let reads : List (List ℕ) = s.read.given.0 in
    let same : input_of f reads ≡ s.read.input = input_is before.reads after.reads f s.read in
    let none : (r : List ℕ) → (at_end reads ≡ true → r ≡ []) → s.read.ended ≡ true → r ≡ [] = λ r h e. h (end_is before.reads after.reads f s.read e) in
    record {
      reads = reads;
      given = s.read.given.1;
      within = omega (arith, s.within, b.read, ap length same);
      limited = λ is. omega (arith, s.limited is, b.read, ap length s.read.given.2);
      taken = s.pays.taken;
      wrote = s.pays.wrote;
      prefix = λ r h. subst (λ x. IsPrefix s.pays.taken (tagged (trace j (x ++ r)))) (sym same) (left r (none r h)).prefix;
      stopped = λ r h. subst (λ x. IsStop f s.pays.taken (trace j (x ++ r))) (sym same) (left r (none r h)).stopped;
      latest = λ h.
          let k = s.latest h in
          subst (λ x. TookCertain j x s.pays.taken) (k.3 ∙ sym same) (subst (TookCertain j k.2.chunk) (sym k.4) (ran_certain before k.0 j v k.1 valid b k.2));
    }

-- and the pieces that it is of
pub fails_decided : (before after : Devices) (j : Job) (v : View) (f : Fault) → IsValidJob j → IsNewSession v j → HasStopped before after j.limit v.state f → FailsDecided before after j f
unfolding fails
fails_decided before after j v f valid b s =
    record {
      fails = fails before after j v f valid b s;
      decided = λ h.
          let k = s.latest h in
          let ran = k.2 in (
            ran.advances.taken,
            subst (λ x. WroteDecided before.written after.written j x ran.advances.taken) (k.3 ∙ sym (input_is before.reads after.reads f s.read))
                (wrote_decided before k.0 after.written j k.1 ran.chunk ran.advances.taken (stands_run before k.0 j v k.1 b ran) ran.settled k.5),
          );
    }

-- What a conversion did.

module _ (before ran : Devices) (j : Job) where
  -- a whole run, after which a writer failed, left what that fault may leave
  whole_fails : (p : Report) (f : Fault) → of_other {T = Report} (Err f) ≡ 0 → ((index scalar : ℕ) → f ≡ Unmappable index scalar → ⊥) → Completes before ran j p → Fails before ran j f
  whole_fails p f writing unstopped k =
      let w = k.converted.whole in
      let all : List TaggedByte = tagged (trace j k.input) in
      let reads : List (List ℕ) = k.given.0 ++ ([] ∷ []) in
      let same : input_of f reads ≡ k.input = input_all f reads (λ is. omega (arith, rw is at writing)) ∙ concat-append k.given.0 ([] ∷ []) ∙ append-nil (concat k.given.0) ∙ k.given.2 in
      record {
        reads = reads;
        given = k.given.1;
        within = omega (arith, w.within, ap length same);
        limited = λ is. absurd (omega (arith, rw is at writing));
        taken = all;
        wrote = record { output = w.output; lined = w.logged; ordered = w.ordered };
        prefix = λ r h. ([], ap (λ t. tagged (trace j t)) (ap (λ t. t ++ r) same ∙ ap (λ t. k.input ++ t) (h (at_end_after k.given.0)) ∙ append-nil k.input) ∙ sym (append-nil all));
        stopped = λ r h i c is. absurd (unstopped i c is);
        latest = λ h. absurd (elim h [ inl is ↦ omega (arith, rw is at writing) | inr is ↦ omega (arith, rw is at writing) ]);
      }

  -- so what the first fault is of was left
  broke : (answer : Result Report Fault) (writer_failed log_failed : Bool) → RunReturns before ran j answer → IfErr (after_flushes answer writer_failed log_failed) (Fails before ran j)
  broke (Err f) w l h = h.fails
  broke (Ok p) true l h = whole_fails p Write refl (λ i c is. cc) h.completes
  broke (Ok p) false true h = whole_fails p Log refl (λ i c is. cc) h.completes
  broke (Ok p) false false h = tt

  -- the status says whether anything was lost
  pub converts_whole : (after : Devices) (p : Report) (status : ℕ) → Completes before ran j p → after.reads ≡ ran.reads → KeepsWritten ran.written after.written → status ≡ status_of (Ok p)
      → Converts before after j status
  converts_whole after p status k same kept is =
      let w = k.converted.whole in
      let f = k.converted.report.faithful in
      let says = says_whether p.faithful is in
      record {
        input = k.input;
        given = rw same k.given;
        whole = record { within = w.within; unstopped = w.unstopped; output = kept.output ∙ w.output; logged = kept.log ∙ w.logged; ordered = kept.order ∙ w.ordered };
        known = says.0;
        faithful = λ zero. f.0 (says.1 zero);
        lossy = λ one h. says.2 one (f.1 h);
      }
    where
      says_whether : (b : Bool) → status ≡ (if b then 0 else 1) → ((status ≡ 0) ⊎ (status ≡ 1)) × (status ≡ 0 → b ≡ true) × (status ≡ 1 → b ≡ true → ⊥)
      says_whether true is = (inl is, λ zero. refl, λ one h. omega (arith, is, one))
      says_whether false is = (inr is, λ zero. absurd (omega (arith, is, zero)), λ one h. cc)

-- What a conversion did with these devices: `IsConversion`, of `Ports`.
pub record ConversionAt {R W L : Type 0} (before after : Ports R W L) (j : Job) (room status : ℕ) : Type 0 where
  pub ran : Ports R W L
  pub answer : Result Report Fault
  pub returns : RunReturns (devices_at before) (devices_at ran) j answer
  pub calls : RunCalls (ports_at before) (ports_at ran) room answer
  pub unread : after.reader.now ≡ ran.reader.now
  pub writer_failed : Bool
  pub writer : IsFlushed ran.writer.now after.writer.now writer_failed
  pub log_failed : Bool
  pub flushed : Counted L
  pub log : IsFlushed ran.log.now flushed log_failed
  pub came_to : Result Report Fault
  pub first : came_to ≡ after_flushes answer writer_failed log_failed
  pub fails : IfErr came_to (Fails (devices_at before) (devices_at ran) j)
  pub quiet : OnOk came_to (after.log.now ≡ flushed)
  pub tells : IfErr came_to (λ f. TellsMessage flushed after.log.now (message_of f))
  pub told : List Call
  pub made : journal_of after ≡ journal_of ran ++ (AtWriter (Flush writer_failed) ∷ AtLog (Flush log_failed) ∷ map AtLog told)
  pub answered : status ≡ status_of came_to

pub conversion_of : {R W L : Type 0} {before after : Ports R W L} {j : Job} {room status : ℕ} → ConversionAt before after j room status → IsConversion (ports_at before) (ports_at after) j room status
conversion_of c = record {
  ran = ports_at c.ran;
  answer = c.answer;
  returns = c.returns;
  calls = c.calls;
  unread = c.unread;
  writer_failed = c.writer_failed;
  writer = c.writer;
  log_failed = c.log_failed;
  flushed = c.flushed;
  log = c.log;
  came_to = c.came_to;
  first = c.first;
  fails = c.fails;
  quiet = c.quiet;
  tells = c.tells;
  told = c.told;
  made = ap (λ l. Some l) c.made;
  answered = c.answered;
}

-- a run, the flushes and the message that was written
module _ {R W L : Type 0} (before ran after : Ports R W L) (flushed : Counted L) (j : Job) (room : ℕ) (answer : Result Report Fault) (writer_failed log_failed : Bool)
    (returns : RunReturns (devices_at before) (devices_at ran) j answer) (calls : RunCalls (ports_at before) (ports_at ran) room answer)
    (unread : after.reader.now ≡ ran.reader.now) (writer : IsFlushed ran.writer.now after.writer.now writer_failed) (log : IsFlushed ran.log.now flushed log_failed)
    (told : List Call) (made : journal_of after ≡ journal_of ran ++ (AtWriter (Flush writer_failed) ∷ AtLog (Flush log_failed) ∷ map AtLog told)) where
  pub conversion : (came_to : Result Report Fault) (status : ℕ) → came_to ≡ after_flushes answer writer_failed log_failed → OnOk came_to (after.log.now ≡ flushed) → IfErr came_to (λ f. TellsMessage flushed after.log.now (message_of f)) → status ≡ status_of came_to
      → ConversionAt before after j room status
  conversion came_to status first quiet tells answered = record {
    ran = ran;
    answer = answer;
    returns = returns;
    calls = calls;
    unread = unread;
    writer_failed = writer_failed;
    writer = writer;
    log_failed = log_failed;
    flushed = flushed;
    log = log;
    came_to = came_to;
    first = first;
    fails = subst (λ (r : Result Report Fault). IfErr r (Fails (devices_at before) (devices_at ran) j)) (sym first) (broke (devices_at before) (devices_at ran) j answer writer_failed log_failed returns);
    quiet = quiet;
    tells = tells;
    told = told;
    made = made;
    answered = answered;
  }

-- a device was called by one flush alone
one_flush : (before after calls : List Call) (failed : Bool) → after ≡ before ++ calls → after ≡ before ++ (Flush failed ∷ []) → calls ≡ Flush failed ∷ []
one_flush before after calls failed made once = append_cancel_left before calls (Flush failed ∷ []) (sym made ∙ once)

-- a run, a flush of the writer, and one of the log
module _ {R W L : Type 0} (before ran p q : Ports R W L) (j : Job) (room : ℕ) (answer : Result Report Fault) (writer_failed log_failed : Bool)
    (returns : RunReturns (devices_at before) (devices_at ran) j answer) (calls : RunCalls (ports_at before) (ports_at ran) room answer)
    (a : CallsWriter ran p) (writer : IsFlushed ran.writer.now p.writer.now writer_failed) (b : CallsLog p q) (log : IsFlushed p.log.now q.log.now log_failed) where
  log_flushed : IsFlushed ran.log.now q.log.now log_failed
  log_flushed = subst (λ (l : Counted L). IsFlushed l q.log.now log_failed) a.log log

  flushes_made : journal_of q ≡ journal_of ran ++ (AtWriter (Flush writer_failed) ∷ AtLog (Flush log_failed) ∷ [])
  flushes_made =
      b.made ∙ ap (λ l. journal_of p ++ map AtLog l) (one_flush (history_of p.log.now) (history_of q.log.now) b.calls log_failed (history_of_log p q b) log.once)
      ∙ ap (λ l. l ++ (AtLog (Flush log_failed) ∷ [])) (a.made ∙ ap (λ l. journal_of ran ++ map AtWriter l) (one_flush (history_of ran.writer.now) (history_of p.writer.now) a.calls writer_failed (history_of_writer ran p a) writer.once))
      ∙ append_assoc (journal_of ran) (AtWriter (Flush writer_failed) ∷ []) (AtLog (Flush log_failed) ∷ [])

  pub conversion_ok : (p : Report) (status : ℕ) → Ok p ≡ after_flushes answer writer_failed log_failed → status ≡ status_of (Ok p) → ConversionAt before q j room status
  conversion_ok p status first answered =
      conversion before ran q q.log.now j room answer writer_failed log_failed returns calls (b.reader ∙ a.reader) (subst (λ (w : Counted W). IsFlushed ran.writer.now w writer_failed) (sym b.writer) writer) log_flushed [] flushes_made
      (Ok p) status first refl tt answered

  -- and the message
  pub conversion_err : (after : Ports R W L) (f : Fault) (status : ℕ) → CallsLog q after → Err f ≡ after_flushes answer writer_failed log_failed → TellsMessage q.log.now after.log.now (message_of f) → status ≡ 4 → ConversionAt before after j room status
  conversion_err after f status t first tells answered =
      conversion before ran after q.log.now j room answer writer_failed log_failed returns calls (t.reader ∙ b.reader ∙ a.reader)
      (subst (λ (w : Counted W). IsFlushed ran.writer.now w writer_failed) (sym (t.writer ∙ b.writer)) writer) log_flushed t.calls
      (t.made ∙ ap (λ l. l ++ map AtLog t.calls) flushes_made ∙ append_assoc (journal_of ran) (AtWriter (Flush writer_failed) ∷ AtLog (Flush log_failed) ∷ []) (map AtLog t.calls))
      (Err f) status first tt tells answered

-- what came to no fault
pub record IsQuiet (answer came_to : Result Report Fault) (writer_failed log_failed : Bool) : Type 0 where
  pub report : Report
  pub returned : answer ≡ Ok report
  pub comes : came_to ≡ Ok report
  pub written : writer_failed ≡ false
  pub logged : log_failed ≡ false

quiet_of : (answer came_to : Result Report Fault) (writer_failed log_failed : Bool) (status : ℕ) → came_to ≡ after_flushes answer writer_failed log_failed → status ≡ status_of came_to → status ≢ 4 → IsQuiet answer came_to writer_failed log_failed
quiet_of (Err f) came_to w l status first is whole = absurd (whole (is ∙ ap status_of first))
quiet_of (Ok p) came_to true l status first is whole = absurd (whole (is ∙ ap status_of first))
quiet_of (Ok p) came_to false true status first is whole = absurd (whole (is ∙ ap status_of first))
quiet_of (Ok p) came_to false false status first is whole = record { report = p; returned = refl; comes = first; written = refl; logged = refl }

-- a flush passes nothing
flushed_nothing : {W : Type 0} (before after : Counted W) (failed : Bool) → IsFlushed before after failed → passed_of after ≡ passed_of before
flushed_nothing before after failed h = ap concat (passed_flush (history_of before) (history_of after) failed h.once)

-- what was taken in one order behind the run
module _ {R W L : Type 0} (before after : Ports R W L) (j : Job) (room status : ℕ) (c : ConversionAt before after j room status) where
  order_behind : order_of (journal_of after) ≡ order_of (journal_of c.ran) ++ map Line (concat (passed_by c.told))
  order_behind =
      ap order_of c.made ∙ order_of-append (journal_of c.ran) (AtWriter (Flush c.writer_failed) ∷ AtLog (Flush c.log_failed) ∷ map AtLog c.told)
      ∙ ap (λ l. order_of (journal_of c.ran) ++ l) (order_at_log c.told)

  -- and what calls of the log were made behind its flush
  log_behind : history_of after.log.now ≡ history_of c.flushed ++ c.told
  log_behind =
      sym after.of_log ∙ ap log_calls c.made ∙ log_calls-append (journal_of c.ran) (AtWriter (Flush c.writer_failed) ∷ AtLog (Flush c.log_failed) ∷ map AtLog c.told)
      ∙ ap (λ l. log_calls (journal_of c.ran) ++ (Flush c.log_failed ∷ l)) (log_at_log c.told) ∙ ap (λ l. l ++ (Flush c.log_failed ∷ c.told)) c.ran.of_log
      ∙ sym (append_assoc (history_of c.ran.log.now) (Flush c.log_failed ∷ []) c.told) ∙ ap (λ l. l ++ c.told) (sym c.log.once)

-- what came to a fault
module _ {R W L : Type 0} (before after : Ports R W L) (j : Job) (room status : ℕ) (c : ConversionAt before after j room status) (four : status ≡ 4) where
  pub faults_of : EndsInFault (devices_at before) (devices_at after) j
  faults_of = by c.came_to refl
    where
      never : (b : Bool) (n : ℕ) → n ≡ 4 → n ≡ (if b then 0 else 1) → ⊥
      never true n is one = omega (arith, is, one)
      never false n is one = omega (arith, is, one)

      by : (r : Result Report Fault) → c.came_to ≡ r → EndsInFault (devices_at before) (devices_at after) j
      by (Ok p) is = absurd (never p.faithful status four (c.answered ∙ ap status_of is))
      by (Err f) is =
          let t : TellsMessage c.flushed after.log.now (message_of f) = subst (λ (r : Result Report Fault). IfErr r (λ g. TellsMessage c.flushed after.log.now (message_of g))) is c.tells in
          let kept : passed_of c.flushed ≡ passed_of c.ran.log.now = flushed_nothing c.ran.log.now c.flushed c.log_failed c.log in
          record {
            fault = f;
            ran = devices_at c.ran;
            fails = subst (λ (r : Result Report Fault). IfErr r (Fails (devices_at before) (devices_at c.ran) j)) is c.fails;
            unread = ap reads_of c.unread;
            unwritten = flushed_nothing c.ran.writer.now after.writer.now c.writer_failed c.writer;
            told = t.told;
            message = t.passed ∙ ap (λ l. l ++ take t.told (message_of f)) kept;
            ordered = ap (λ l. Some l) (order_behind before after j room status c ∙ ap (λ l. order_of (journal_of c.ran) ++ map Line l)
                (passed_calls (history_of c.flushed) (history_of after.log.now) c.told (take t.told (message_of f)) (log_behind before after j room status c) t.passed));
            whole = elim t.whole [
              | inl all ↦ inl all.1
              | inr cut ↦ inr (omega (arith, cut.0, c.log.counted))
            ];
          }

module _ {R W L : Type 0} (before after : Ports R W L) (j : Job) (room status : ℕ) (c : ConversionAt before after j room status) (whole : status ≢ 4) where
  q : IsQuiet c.answer c.came_to c.writer_failed c.log_failed
  q = quiet_of c.answer c.came_to c.writer_failed c.log_failed status c.first c.answered whole

  unlogged : after.log.now ≡ c.flushed
  unlogged = subst (λ (r : Result Report Fault). OnOk r (after.log.now ≡ c.flushed)) q.comes c.quiet

  untold : c.told ≡ []
  untold = append_cancel_left (history_of c.flushed) c.told [] (sym (log_behind before after j room status c) ∙ ap history_of unlogged ∙ sym (append-nil (history_of c.flushed)))

  unordered : order_of (journal_of after) ≡ order_of (journal_of c.ran)
  unordered = order_behind before after j room status c ∙ ap (λ t. order_of (journal_of c.ran) ++ map Line (concat (passed_by t))) untold ∙ append-nil (order_of (journal_of c.ran))

  pub converts_of : Converts (devices_at before) (devices_at after) j status
  converts_of =
      let all : Completes (devices_at before) (devices_at c.ran) j q.report =
      subst (λ (r : Result Report Fault). IfOk r (Completes (devices_at before) (devices_at c.ran) j)) q.returned c.returns.completes in
      let kept : KeepsWritten (devices_at c.ran).written (devices_at after).written = record { output = flushed_nothing c.ran.writer.now after.writer.now c.writer_failed c.writer; log = ap passed_of unlogged ∙ flushed_nothing c.ran.log.now c.flushed c.log_failed c.log; order = ap (λ l. Some l) unordered } in
      converts_whole (devices_at before) (devices_at c.ran) j (devices_at after) q.report status all (ap reads_of c.unread) kept (c.answered ∙ ap status_of q.comes)
