-- Wrong outcomes of a run and of a conversion, which `specs/Session.antt`, `Step.antt`, `Order.antt` and `Conversion.antt`
-- refuse.
use Rattle.std.proofs.Common.{◌≡◌, ◌∙◌, ℕ, ◌+◌, ◌<◌, ◌≤◌, List, [], ◌∷◌, ◌++◌, length, take, Err, Ok, ap, arith, false, inl, inr, length-append, refl, subst, sym}
use Rattle.std.specs.List.{concat, All}
use Rattle.std.proofs.lemmas.List.{append_cancel_left, same_from_push}
use Rattle.std.proofs.lemmas.List.Elements.{All-head}
use Rattle.encoding_mem.specs.Items.{Byte, Item}
use Rattle.recode_log.specs.Call.{Call, Flush, IsWriteOfSome, Passed}
use Rattle.recode_log.specs.Counted.{CountsWrites, history_of}
use Rattle.recode_log.specs.Journal.{AtReader}
use Rattle.recode_log.specs.declared.counted.Counted.{Counted}
use Rattle.recode.specs.Conversion.{Converts, EndsInFault, IsConversion, message_of}
use Rattle.recode.specs.Devices.{CountsFault, Devices, PortsView}
use Rattle.recode.specs.Job.{Faithful, output_of}
use Rattle.recode.specs.Latency.{ComeFirst, TookCertain, open_trace}
use Rattle.recode.specs.Order.{KeepUp}
use Rattle.recode.specs.Session.{Completes, Fails, input_of}
use Rattle.recode.specs.Step.{GaveSome, RunCalls}
use Rattle.recode.specs.TaggedByte.{Out, TaggedByte, tagged}
use Rattle.recode.specs.declared.job.Fault.{Fault}
use Rattle.recode.specs.declared.job.Fault.TheVariants.{Read, Write, Log, TooLong, Unmappable}
use Rattle.recode.specs.declared.job.Job.{Job}
use Rattle.recode.specs.declared.job.Report.{Report}

-- ---- a run that ends well

-- one read was made, and it gave a byte: the end of the input was not read
end_is_not_read : (s s' : Devices) (j : Job) (p : Report) → Completes s s' j p → s'.reads ≡ s.reads ++ ((0x41 ∷ []) ∷ []) → ⊥
end_is_not_read s s' j p h is =
    let last = (same_from_push h.given.0 [] [] (0x41 ∷ []) (append_cancel_left s.reads (h.given.0 ++ ([] ∷ [])) ((0x41 ∷ []) ∷ []) (sym h.given.1 ∙ is))).1 in
    absurd (omega (arith, ap length last))

-- the output of the input has a byte, and none was written
nothing_is_written : (s s' : Devices) (j : Job) (p : Report) (h : Completes s s' j p) → 0 < length (output_of j h.input) → s'.written.output ≡ s.written.output → ⊥
nothing_is_written s s' j p h some same =
    absurd (omega (arith, some, ap length same, ap length h.converted.whole.output, length-append s.written.output (output_of j h.input)))

-- ---- a run that a fault ends

-- the input is called too long, and is within the limit
too_long_within_the_limit : (s s' : Devices) (j : Job) (reads : List (List ℕ)) → Fails s s' j TooLong → s'.reads ≡ s.reads ++ reads → length (concat reads) ≤ j.limit → ⊥
too_long_within_the_limit s s' j reads h is short =
    let same : h.reads ≡ reads = append_cancel_left s.reads h.reads reads (sym h.given ∙ is) in
    absurd (omega (arith, h.limited refl, short, ap (λ (l : List (List ℕ)). length (concat l)) same))

-- `A` comes first in what is written, whatever follows, and nothing was taken
kept_back : (j : Job) (x : List ℕ) (taken : List TaggedByte) → TookCertain j x taken → ComeFirst j x (Byte 0x41 ∷ []) → taken ≡ [] → ⊥
kept_back j x taken h first none =
    let certain = h.longest (Byte 0x41 ∷ []) first in
    let some : tagged (Byte 0x41 ∷ certain.0) ≡ [] = ap tagged (sym certain.1) ∙ (sym h.whole ∙ none) in
    absurd (omega (arith, ap length some))

-- no items take no byte
no_items : (items : List Item) → length items ≡ 0 → tagged items ≡ Out 0x41 ∷ [] → ⊥
no_items [] is taken = cc
no_items (i ∷ items) is taken = absurd (omega (arith, is))

-- nothing is written for these bytes alone, and a byte was taken
taken_too_early : (j : Job) (x : List ℕ) (taken : List TaggedByte) → TookCertain j x taken → open_trace j (x ++ []) ≡ [] → taken ≡ Out 0x41 ∷ [] → ⊥
taken_too_early j x taken h none some =
    let front = h.first [] tt in
    let items : length h.items ≡ 0 = omega (arith, ap length (sym none ∙ front.1), length-append h.items front.0) in
    absurd (no_items h.items items (sym h.whole ∙ some))

-- a read failed, and `A`, which comes first whatever follows, was not written
kept_back_at_a_read_fault : (s s' : Devices) (j : Job) (h : Fails s s' j Read) → ComeFirst j (input_of Read h.reads) (Byte 0x41 ∷ []) → h.taken ≡ [] → ⊥
kept_back_at_a_read_fault s s' j h first none = kept_back j (input_of Read h.reads) h.taken (h.latest (inl refl)) first none

-- a read failed, and so did a call of the writer
two_calls_failed : (s s' : Devices) → CountsFault {T = ℕ} s s' (Err Read) → s'.failures.writer ≡ s.failures.writer + 1 → ⊥
two_calls_failed s s' h more = absurd (omega (arith, h.writer, more))

-- ---- calls

-- the reader was called after a read that gave nothing
read_after_the_end : (p q : PortsView ℕ ℕ ℕ) → RunCalls {T = ℕ} p q 4 (Ok 0) → history_of q.reader ≡ history_of p.reader ++ (Passed 4 [] ∷ Passed 4 [] ∷ []) → ⊥
read_after_the_end p q h is =
    let both : h.earlier ++ (h.call ∷ []) ≡ (Passed 4 [] ∷ []) ++ (Passed 4 [] ∷ []) = append_cancel_left (history_of p.reader) (h.earlier ++ (h.call ∷ [])) (Passed 4 [] ∷ Passed 4 [] ∷ []) (sym h.calls ∙ is) in
    let earlier : h.earlier ≡ Passed 4 [] ∷ [] = (same_from_push h.earlier (Passed 4 [] ∷ []) h.call (Passed 4 []) both).0 in
    let gave = All-head (GaveSome 4) (Passed 4 []) [] (subst (λ (c : List Call). All (GaveSome 4) c) earlier h.some) in
    absurd (omega (arith, gave.1))

-- calls that are writes of some bytes, and one of them is a flush
flush_is_no_write : (w w' : Counted ℕ) → CountsWrites w w' → history_of w' ≡ history_of w ++ (Flush false ∷ []) → ⊥
flush_is_no_write w w' h is =
    let calls : h.calls ≡ Flush false ∷ [] = append_cancel_left (history_of w) h.calls (Flush false ∷ []) (sym h.made ∙ is) in
    All-head IsWriteOfSome (Flush false) [] (subst (λ (c : List Call). All IsWriteOfSome c) calls h.some)

-- a run flushed the writer
flushed_in_a_run : (p q : PortsView ℕ ℕ ℕ) → RunCalls {T = ℕ} p q 4 (Ok 0) → history_of q.writer ≡ history_of p.writer ++ (Flush false ∷ []) → ⊥
flushed_in_a_run p q h is = flush_is_no_write p.writer q.writer h.writes is

-- after a read that gave a byte the reader was called again, and `A`, which comes first whatever follows, was not written
read_before_it_wrote : (j : Job) (call : Call) → KeepUp j (AtReader (Passed 4 (0x41 ∷ [])) ∷ AtReader call ∷ []) → ComeFirst j (0x41 ∷ []) (Byte 0x41 ∷ []) → ⊥
read_before_it_wrote j call h first = kept_back j (0x41 ∷ []) [] (h (AtReader (Passed 4 (0x41 ∷ [])) ∷ []) [] call refl) first refl

-- ---- a conversion

-- status 0 of an input that is not faithful
zero_of_an_unfaithful_input : (s s' : Devices) (j : Job) (h : Converts s s' j 0) → ¬ (Faithful j h.input) → ⊥
zero_of_an_unfaithful_input s s' j h not = not (h.faithful refl)

-- each message has a byte
message_is_some : (f : Fault) → 0 < length (message_of f)
message_is_some Read = omega arith
message_is_some Write = omega arith
message_is_some Log = omega arith
message_is_some TooLong = omega arith
message_is_some (Unmappable index scalar) = omega arith

-- no call of the log failed after the run, and no message was written
no_message : (s s' : Devices) (j : Job) (h : EndsInFault s s' j) → s'.failures.log ≡ h.ran.failures.log → s'.written.log ≡ h.ran.written.log → ⊥
no_message s s' j h well same =
    let text = message_of h.fault in
    let none : length (take h.told text) ≡ 0 = omega (arith, ap length same, ap length h.message, length-append h.ran.written.log (take h.told text)) in
    elim h.whole [
      | inl all ↦ absurd (omega (arith, none, ap length all, message_is_some h.fault))
      | inr failed ↦ absurd (omega (arith, failed, well))
    ]

-- the writer was not flushed
writer_is_not_flushed : (p q : PortsView ℕ ℕ ℕ) (j : Job) (h : IsConversion p q j 4 0) → history_of q.writer ≡ history_of h.ran.writer → ⊥
writer_is_not_flushed p q j h same =
    absurd (omega (arith, ap length same, ap length h.writer.once, length-append (history_of h.ran.writer) (Flush h.writer_failed ∷ [])))
