-- Worked rows of `specs/Step.antt`, and wrong outcomes that it refuses.
use Rattle.std.specs.List.{concat}
use Rattle.std.proofs.Common.{◌≡◌, ℕ, ◌+◌, ◌<◌, List, [], ◌∷◌, ◌++◌, length, Ok, Err, ap, append-nil, arith, false, inl, inr, length-append, refl, subst, sym, true, ◌∙◌}
use Rattle.std.proofs.lemmas.List.{append_cancel_left}
use Rattle.std.proofs.lemmas.List.Elements.{All-cons, All-nil}
use Rattle.encoding_mem.specs.Coding.{Coding, open_from, spelled}
use Rattle.encoding_mem.specs.Items.{Byte, Item, LostAt, MalformedAt}
use Rattle.encoding_mem.specs.Piece.{Piece, head_piece, piece_text, text, well_formed}
use Rattle.encoding_mem.specs.calls.Decoding.{DecoderState}
use Rattle.encoding_mem.specs.declared.codec.form.EscapeState.{EscapeState}
use Rattle.encoding_mem.specs.declared.codec.form.Form.{Form}
use Rattle.encoding_mem.specs.declared.codec.form.Form.TheVariants.{Mapped}
use Rattle.encoding_mem.specs.declared.codec.reference.Reference.{Reference}
use Rattle.recode_log.specs.Call.{Call, Failed, Flush, IsWriteOfSome, Passed, failed_read}
use Rattle.recode_log.specs.Counted.{history_of}
use Rattle.recode_log.specs.declared.counted.Counted.{Counted}
use Rattle.recode.specs.Devices.{Devices, Gave, PortsView, Written, Wrote, ports}
use Rattle.recode.specs.Policy.{reference_form}
use Rattle.recode.specs.State.{State, WillBeFaithful, to_write}
use Rattle.recode.specs.Step.{Finishes, GaveSome, IsNearlyDecided, IsReadInto, RunCalls, StepCalls, Stops, StepsOn}
use Rattle.recode.specs.TaggedByte.{log_bytes, output_bytes, tagged}
use Rattle.recode.specs.WrittenItems.{bad_line_count}
use Rattle.recode.specs.declared.job.Fault.TheVariants.{Read, TooLong, Unmappable}
use Rattle.recode.specs.declared.job.Policy.{Policy}
use Rattle.recode.specs.declared.job.Progress.TheVariants.{Done, More}

-- a device with these calls and so many failures, of no matter what kind
abbrev counted : List Call → ℕ → Counted ℕ
counted calls failures = record { recorded = record { inner = 0; history = record { calls = calls } }; failures = failures }

-- a read with room for four bytes, which failed
is_read_into-failed : IsReadInto 4 (Failed 4)
is_read_into-failed = refl

-- a flush is no read
is_read_into-flush : IsReadInto 4 (Flush false) → ⊥
is_read_into-flush h = h

-- a read gave a byte, which was written, and the next read failed
run_calls-read_fault : RunCalls {T = ℕ} (ports (counted [] 0) (counted [] 0) (counted [] 0)) (ports (counted (Passed 4 (1 ∷ []) ∷ Failed 4 ∷ []) 1) (counted (Passed 1 (1 ∷ []) ∷ []) 0) (counted [] 0)) 4 (Err Read)
run_calls-read_fault = record {
  earlier = Passed 4 (1 ∷ []) ∷ [];
  call = Failed 4;
  calls = refl;
  some = All-cons (GaveSome 4) (Passed 4 (1 ∷ [])) [] (refl, omega arith) (All-nil (GaveSome 4));
  is = refl;
  failed = refl;
  writes = record { calls = Passed 1 (1 ∷ []) ∷ []; made = refl; some = All-cons IsWriteOfSome (Passed 1 (1 ∷ [])) [] (omega arith) (All-nil IsWriteOfSome); counted = refl };
  lines = record { calls = []; made = refl; some = All-nil IsWriteOfSome; counted = refl };
  last = tt;
}

-- ---- wrong outcomes

-- the bytes that reads gave are those of these reads, if these were all
gave_all : (before after reads : List (List ℕ)) (bytes : List ℕ) → after ≡ before ++ reads → Gave before after bytes → bytes ≡ concat reads
gave_all before after reads bytes is given = sym given.2 ∙ ap concat (append_cancel_left before given.0 reads (sym given.1 ∙ is))

-- a byte is among the items that were written, and the output is as it was
no_byte_more : (before after : Written) (items : List Item) → items ≡ Byte 0x41 ∷ [] → after.output ≡ before.output → Wrote before after (tagged items) → ⊥
no_byte_more before after items is same wrote =
    let grew : after.output ≡ before.output ++ (0x41 ∷ []) = subst (λ (l : List Item). after.output ≡ before.output ++ output_bytes (tagged l)) is wrote.output in
    absurd (omega (arith, ap length same, ap length grew, length-append before.output (0x41 ∷ [])))

-- a step says that there is more, and read nothing
more_without_a_byte : (before after : Devices) (limit : ℕ) (s s' : State) → StepsOn before after limit s s'
    → after.reads ≡ before.reads ++ ([] ∷ []) → ⊥
more_without_a_byte before after limit s s' h reads =
    absurd (omega (arith, h.counted, h.grows, ap length (gave_all before.reads after.reads ([] ∷ []) h.chunk reads h.given)))

-- a step goes on with an input that is longer than the limit
more_than_the_limit : (before after : Devices) (limit : ℕ) (s s' : State) → StepsOn before after limit s s' → limit < s'.counts.read → ⊥
more_than_the_limit before after limit s s' h longer = absurd (omega (arith, longer, h.within))

-- `A` was read and passed over: it is not written, and will not be
passed_over : (before after : Devices) (limit : ℕ) (s s' : State) → StepsOn before after limit s s' → after.reads ≡ before.reads ++ ((0x41 ∷ []) ∷ [])
    → to_write s (0x41 ∷ []) ≡ Byte 0x41 ∷ [] → to_write s' [] ≡ [] → after.written.output ≡ before.written.output → ⊥
passed_over before after limit s s' h reads owed none same =
    let chunk : h.chunk ≡ 0x41 ∷ [] = gave_all before.reads after.reads ((0x41 ∷ []) ∷ []) h.chunk reads h.given in
    let split : to_write s (h.chunk ++ []) ≡ h.pays.written_items ++ to_write s' [] = h.pays.equals [] (λ last. refl) in
    let all : to_write s (0x41 ∷ []) ≡ h.pays.written_items ++ [] =
    subst (λ (l : List Item). to_write s (0x41 ∷ []) ≡ h.pays.written_items ++ l) none (subst (λ (c : List ℕ). to_write s (c ++ []) ≡ h.pays.written_items ++ to_write s' []) chunk split) in
    no_byte_more before.written after.written h.pays.written_items (sym (append-nil h.pays.written_items) ∙ (sym all ∙ owed)) same h.pays.wrote

-- the first piece is that of `A`, whatever comes after it, and neither waits in the decoder nor is written
kept_piece : (ref : Reference) (e : Coding) (set : EscapeState) (d : DecoderState) (taken : List Piece) (rest : List ℕ → List Piece) → e.form 0x41 ≡ Mapped (0x41 ∷ [])
    → ((r : List ℕ) → well_formed 1 (0x41 ∷ []) ∷ rest r ≡ taken ++ d.pieces r) → IsNearlyDecided d → open_from ref e set (text taken) ≡ [] → ⊥
kept_piece ref e set d [] rest form is (inl none) empty = let some : well_formed 1 (0x41 ∷ []) ∷ rest [] ≡ [] = is [] ∙ none.1 in cc
kept_piece ref e set d [] rest form is (inr waits) empty =
    waits.undecided.differs (ap head_piece (sym (is [])) ∙ ap head_piece (is waits.undecided.more))
kept_piece ref e set d (p ∷ taken) rest form is settled empty =
    let same : p ≡ well_formed 1 (0x41 ∷ []) = let all : well_formed 1 (0x41 ∷ []) ∷ rest [] ≡ p ∷ (taken ++ d.pieces []) = is [] in cc in
    let written : e.escape set (e.set set 0x41) ++ (spelled ref (e.form 0x41) ++ open_from ref e (e.set set 0x41) (text taken)) ≡ [] =
    subst (λ (q : Piece). open_from ref e set (piece_text q ++ text taken) ≡ []) same empty in
    let known : e.escape set (e.set set 0x41) ++ ((0x41 ∷ []) ++ open_from ref e (e.set set 0x41) (text taken)) ≡ [] =
    subst (λ (f : Form). e.escape set (e.set set 0x41) ++ (spelled ref f ++ open_from ref e (e.set set 0x41) (text taken)) ≡ []) form written in
    absurd (omega (arith, ap length known, length-append (e.escape set (e.set set 0x41)) (0x41 ∷ open_from ref e (e.set set 0x41) (text taken))))

-- `A` was read, which is a piece however the input goes on, and is kept to be written later
kept_for_later : (before after : Devices) (limit : ℕ) (s s' : State) (rest : List ℕ → List Piece) → StepsOn before after limit s s'
    → after.reads ≡ before.reads ++ ((0x41 ∷ []) ∷ []) → ((r : List ℕ) → s.decoder.pieces (0x41 ∷ r) ≡ well_formed 1 (0x41 ∷ []) ∷ rest r)
    → s.coding.form 0x41 ≡ Mapped (0x41 ∷ []) → after.written.output ≡ before.written.output → ⊥
kept_for_later before after limit s s' rest h reads pieces form same =
    let chunk : h.chunk ≡ 0x41 ∷ [] = gave_all before.reads after.reads ((0x41 ∷ []) ∷ []) h.chunk reads h.given in
    let split : (r : List ℕ) → s.decoder.pieces (0x41 ∷ r) ≡ h.advances.taken ++ s'.decoder.pieces r =
    λ r. subst (λ (c : List ℕ). s.decoder.pieces (c ++ r) ≡ h.advances.taken ++ s'.decoder.pieces r) chunk (h.advances.rest r) in
    let written : List ℕ = open_from (reference_form s.policy) s.coding s.set (text h.advances.taken) in
    let nothing : written ≡ [] = append_cancel_left before.written.output written [] (sym h.output ∙ (same ∙ sym (append-nil before.written.output))) in
    kept_piece (reference_form s.policy) s.coding s.set s'.decoder h.advances.taken rest form (λ r. sym (pieces r) ∙ split r) h.settled nothing

-- if the log has no byte of some items, none of them is a malformed sequence
lines_are_written : (items : List Item) → log_bytes (tagged items) ≡ [] → bad_line_count items ≡ 0
lines_are_written [] none = refl
lines_are_written (Byte b ∷ t) none = lines_are_written t none
lines_are_written (MalformedAt offset size ∷ t) none = cc
lines_are_written (LostAt index scalar ∷ t) none = cc

-- a malformed sequence is counted, and has no line
counted_without_a_line : (before after : Devices) (limit : ℕ) (s s' : State) → StepsOn before after limit s s'
    → s'.counts.bad ≡ s.counts.bad + 1 → after.written.log ≡ before.written.log → ⊥
counted_without_a_line before after limit s s' h more same =
    let items : List Item = h.pays.written_items in
    let nothing : log_bytes (tagged items) ≡ [] = append_cancel_left before.written.log (log_bytes (tagged items)) [] (sym h.pays.wrote.lined ∙ (same ∙ sym (append-nil before.written.log))) in
    absurd (omega (arith, more, h.pays.counted.bad, lines_are_written items nothing))

-- something was lost, and the verdict is true again
faithful_again : (before after : Devices) (limit : ℕ) (s s' : State) → StepsOn before after limit s s' → s.verdict.faithful ≡ false → WillBeFaithful s' [] → ⊥
faithful_again before after limit s s' h lost kept = let was : s.verdict.faithful ≡ true = ((h.verdict []).1 kept).0 in cc

-- reads of which the last gave nothing are not one read that gave a byte
not_the_end : (reads : List (List ℕ)) → reads ++ ([] ∷ []) ≡ (0x41 ∷ []) ∷ [] → ⊥
not_the_end [] same = cc
not_the_end (x ∷ []) same = cc
not_the_end (x ∷ (y ∷ reads)) same = cc

-- the end is told after a read that gave a byte
done_after_a_byte : (before after : Devices) (limit : ℕ) (s s' : State) → Finishes before after limit s s' → after.reads ≡ before.reads ++ ((0x41 ∷ []) ∷ []) → ⊥
done_after_a_byte before after limit s s' h reads =
    not_the_end h.given.0 (append_cancel_left before.reads (h.given.0 ++ ([] ∷ [])) ((0x41 ∷ []) ∷ []) (sym h.given.1 ∙ reads))

-- the end is told, and a byte is not written
done_with_a_byte_unwritten : (before after : Devices) (limit : ℕ) (s s' : State) (h : Finishes before after limit s s') → to_write s h.chunk ≡ Byte 0x41 ∷ []
    → after.written.output ≡ before.written.output → ⊥
done_with_a_byte_unwritten before after limit s s' h owed same =
    no_byte_more before.written after.written h.pays.written_items (sym (append-nil h.pays.written_items) ∙ (sym h.pays.equals ∙ owed)) same h.pays.wrote

-- something was lost, and the verdict at the end is that nothing was
faithful_at_the_end : (before after : Devices) (limit : ℕ) (s s' : State) → Finishes before after limit s s' → s.verdict.faithful ≡ false → s'.verdict.faithful ≡ true → ⊥
faithful_at_the_end before after limit s s' h lost kept = let was : s.verdict.faithful ≡ true = (h.verdict.1 kept).0 in cc

-- two bytes are too long for a limit of two
too_long_at_the_limit : (before after : Devices) (s : State) → Stops before after 2 s TooLong → s.counts.read ≡ 0 → after.reads ≡ before.reads ++ ((1 ∷ 2 ∷ []) ∷ []) → ⊥
too_long_at_the_limit before after s h none reads =
    absurd (omega (arith, none, h.limited refl, ap length (gave_all before.reads after.reads ((1 ∷ 2 ∷ []) ∷ []) (h.read.input ++ h.read.refused) reads h.read.given)))

-- a read failed, and a byte was written
written_at_a_read_fault : (before after : Devices) (limit : ℕ) (s : State) → Stops before after limit s Read → after.written.output ≡ before.written.output ++ (0x41 ∷ []) → ⊥
written_at_a_read_fault before after limit s h grew =
    absurd (omega (arith, ap length grew, ap length (h.untouched (inl refl)).1.output, length-append before.written.output (0x41 ∷ [])))

-- an input is too long, and a byte was written
written_when_too_long : (before after : Devices) (limit : ℕ) (s : State) → Stops before after limit s TooLong → after.written.output ≡ before.written.output ++ (0x41 ∷ []) → ⊥
written_when_too_long before after limit s h grew =
    absurd (omega (arith, ap length grew, ap length (h.untouched (inr refl)).1.output, length-append before.written.output (0x41 ∷ [])))

-- a policy that writes references stops at a character without bytes
stop_under_decimal : (before after : Devices) (limit : ℕ) (s : State) → Stops before after limit s (Unmappable 0 232) → s.policy ≡ Policy.Decimal → ⊥
stop_under_decimal before after limit s h decimal =
    let stop : s.policy ≡ Policy.Stop = (h.pays.left [] (λ last. refl)).policy 0 232 refl in cc

-- a failed read is taken for the end
failed_read_is_the_end : (p q : PortsView ℕ ℕ ℕ) → StepCalls p q 4 (Ok Done) → history_of q.reader ≡ history_of p.reader ++ (Failed 4 ∷ []) → ⊥
failed_read_is_the_end p q h calls =
    let same : h.call ∷ [] ≡ Failed 4 ∷ [] = append_cancel_left (history_of p.reader) (h.call ∷ []) (Failed 4 ∷ []) (sym h.once ∙ calls) in
    let failed : failed_read h.call ≡ 1 = ap failed_read (let one : h.call ≡ Failed 4 = cc in one) in
    absurd (omega (arith, failed, h.failed))

-- a step does not call the reader
no_read : (p q : PortsView ℕ ℕ ℕ) → StepCalls p q 4 (Ok More) → history_of q.reader ≡ history_of p.reader → ⊥
no_read p q h same =
    absurd (omega (arith, ap length same, ap length h.once, length-append (history_of p.reader) (h.call ∷ [])))

-- a step calls the reader twice
two_reads : (p q : PortsView ℕ ℕ ℕ) → StepCalls p q 4 (Ok More) → history_of q.reader ≡ history_of p.reader ++ (Passed 4 (1 ∷ []) ∷ Passed 4 (2 ∷ []) ∷ []) → ⊥
two_reads p q h calls =
    let same : h.call ∷ [] ≡ Passed 4 (1 ∷ []) ∷ Passed 4 (2 ∷ []) ∷ [] = append_cancel_left (history_of p.reader) (h.call ∷ []) (Passed 4 (1 ∷ []) ∷ Passed 4 (2 ∷ []) ∷ []) (sym h.once ∙ calls) in cc
