-- What was taken while the input goes on, and what that says of the output and the log.
use Rattle.std.proofs.Common.{◌≡◌, ◌⊎◌, ℕ, suc, ◌+◌, ◌-◌, ◌≤◌, ◌<◌, Bool, true, false, List, [], ◌∷◌, ◌++◌, length, take, Some, refl, sym, ◌∙◌, ap, subst, arith, append_assoc, append-nil, length-append, add-zero, inl, inr, rules}
use Rattle.std.specs.List.{flat_map}
use Rattle.recode.proofs.TraceLemmas.{Gave-nil, Gave-trans, Grew-nil, Grew-trans, output_bytes-trace, whole_from-append}
use Rattle.std.proofs.lemmas.Bool.{false≢true}
use Rattle.std.proofs.lemmas.Grind.{flat_map-append}
use Rattle.std.proofs.lemmas.List.{append_cancel_right}
use Rattle.encoding_mem.specs.declared.codec.reference.Reference.{Reference}
use Rattle.encoding_mem.specs.Piece.{ArePieces, Piece, well_formed, malformed, sizes, text, head_piece}
use Rattle.encoding_mem.specs.calls.Decoding.{DecoderState}
use Rattle.encoding_mem.specs.Coding.{Coding, last_set, open_from, whole_from}
use Rattle.encoding_mem.specs.Items.{Item, MalformedAt, closing, open_items, trace_from}
use Rattle.encoding_mem.specs.declared.codec.form.EscapeState.{EscapeState}
use Rattle.encoding_mem.specs.declared.codec.form.EscapeState.TheVariants.{Ascii}
use Rattle.encoding_mem.specs.Decided.{AreBytes, IsDecided, IsFixed}
use Rattle.encoding_mem.specs.laws.Piece.{sizes-append, text-append}
use Rattle.encoding_mem.specs.laws.EncoderCalls.{last_set-append, open_from-append}
use Rattle.recode_log.specs.Line.{line_bytes}
use Rattle.recode_log.specs.declared.line.LogLine.{LogLine}
use Rattle.recode_log.specs.declared.line.LogLine.TheVariants.{Bad}
use Rattle.recode.specs.Job.{input_pieces, input_text, log_lines, lost_log_lines, target_of, whole_trace}
use Rattle.recode.specs.calls.Chunk.{ConvertsChunk}
use Rattle.recode.specs.Latency.{HasReached, WroteDecided, open_trace}
use Rattle.recode.specs.Policy.{reference_form, written_under}
use Rattle.std.proofs.Math.Seq.{take-append_seam}
use Rattle.recode.specs.State.{State, characters_with, to_write}
use Rattle.recode.specs.Step.{Advances, Finishes, HasRun, IsNearlyDecided, StepsOn}
use Rattle.recode.specs.Devices.{Devices, Gave, GaveToEnd, Grew, KeepsWritten, Written}
use Rattle.recode.specs.TaggedByte.{IsPrefix, log_bytes, tagged, output_bytes}
use Rattle.recode.specs.calls.TraceToWrite.{AreSound, trace_to_write}
use Rattle.recode.specs.Session.{IsNewSession, View}
use Rattle.recode.specs.declared.counts.Counts.{Counts}
use Rattle.recode.specs.declared.job.Job.{Job}
use Rattle.recode.specs.declared.job.Policy.{Policy}
use Rattle.recode.specs.laws.Items.{log_bytes-append, tagged-append, output_bytes-append}
use Rattle.recode.specs.laws.Parts.{log_bytes-trace}
use Rattle.recode.proofs.VerdictLemmas.{both_ways}

pub advances_more : (d d1 d2 : List ℕ → List Piece) (e : Coding) (s s1 s2 : EscapeState) (c c1 c2 : Counts) → Advances d d1 e s s1 c c1 → Advances d1 d2 e s1 s2 c1 c2 → Advances d d2 e s s2 c c2
advances_more d d1 d2 e s s1 s2 c c1 c2 p q =
    let is : text (p.taken ++ q.taken) ≡ text p.taken ++ text q.taken = text-append p.taken q.taken in
    record {
      taken = p.taken ++ q.taken;
      rest = λ r. p.rest r ∙ ap (λ x. p.taken ++ x) (q.rest r) ∙ sym (append_assoc p.taken q.taken (d2 r));
      set = q.set ∙ ap (λ (s : EscapeState). last_set e s (text q.taken)) p.set ∙ sym (last_set-append e s (text p.taken) (text q.taken)) ∙ ap (last_set e s) (sym is);
      index = omega (arith, p.index, q.index, ap length is, length-append (text p.taken) (text q.taken));
    }

-- The lines of pieces in a row.
log_lines-append : (e : Coding) (offset i : ℕ) (a b : List Piece) → log_lines e offset i (a ++ b) ≡ log_lines e offset i a ++ log_lines e (offset + sizes a) (i + length (text a)) b
log_lines-append e offset i [] b = ap (λ (n : ℕ). log_lines e n i b) (sym (add-zero offset)) ∙ ap (λ (n : ℕ). log_lines e (offset + 0) n b) (sym (add-zero i))
log_lines-append e offset i (well_formed n cs ∷ a) b =
    let at : offset + (n + sizes a) ≡ offset + n + sizes a = omega arith in
    let index : i + length (cs ++ text a) ≡ i + length cs + length (text a) = omega (arith, length-append cs (text a)) in
    rw (at, index, log_lines-append e (offset + n) (i + length cs) a b) (sym (append_assoc (lost_log_lines e i cs) (log_lines e (offset + n) (i + length cs) a) (log_lines e (offset + n + sizes a) (i + length cs + length (text a)) b)))
log_lines-append e offset i (malformed n ∷ a) b =
    let at : offset + (n + sizes a) ≡ offset + n + sizes a = omega arith in
    let index : i + suc (length (text a)) ≡ i + 1 + length (text a) = omega arith in
    let lost : List LogLine = lost_log_lines e i (0xFFFD ∷ []) in
    rw (at, index, log_lines-append e (offset + n) (i + 1) a b) (ap (λ x. Bad offset n ∷ x) (sym (append_assoc lost (log_lines e (offset + n) (i + 1) a) (log_lines e (offset + n + sizes a) (i + 1 + length (text a)) b))))

line_bytes-append : (e : Coding) (offset i offset1 i1 : ℕ) (a b : List Piece) → offset1 ≡ offset + sizes a → i1 ≡ i + length (text a)
    → flat_map line_bytes (log_lines e offset i (a ++ b)) ≡ flat_map line_bytes (log_lines e offset i a) ++ flat_map line_bytes (log_lines e offset1 i1 b)
line_bytes-append e offset i offset1 i1 a b at index =
    rw (at, index, log_lines-append e offset i a b) (flat_map-append line_bytes (log_lines e offset i a) (log_lines e (offset + sizes a) (i + length (text a)) b))

-- What was written for pieces, while what the others stand for is still to be written.
module _ (ref : Reference) (e : Coding) (s s1 : EscapeState) (offset i offset1 i1 : ℕ) (taken qs : List Piece) (written_items : List Item)
    (set_is : s1 ≡ last_set e s (text taken)) (offset_is : offset1 ≡ offset + sizes taken) (index_is : i1 ≡ i + length (text taken))
    (is : trace_from ref e s offset i (taken ++ qs) ≡ written_items ++ trace_from ref e s1 offset1 i1 qs) where
  paid_output : output_bytes (tagged written_items) ≡ open_from ref e s (text taken)
  paid_output =
      let rest : List Item = trace_from ref e s1 offset1 i1 qs in
      let all : open_from ref e s (text taken) ++ whole_from ref e s1 (text qs) ≡ output_bytes (tagged written_items) ++ whole_from ref e s1 (text qs) =
      rw (set_is) (sym (whole_from-append ref e s (text taken) (text qs))) ∙ ap (whole_from ref e s) (sym (text-append taken qs)) ∙ sym (output_bytes-trace ref e s offset i (taken ++ qs))
      ∙ rw (is, tagged-append written_items rest, output_bytes-append (tagged written_items) (tagged rest), output_bytes-trace ref e s1 offset1 i1 qs) refl in
      sym (append_cancel_right (open_from ref e s (text taken)) (output_bytes (tagged written_items)) (whole_from ref e s1 (text qs)) all)

  paid_lines : log_bytes (tagged written_items) ≡ flat_map line_bytes (log_lines e offset i taken)
  paid_lines =
      let items : List Item = trace_from ref e s1 offset1 i1 qs in
      let own : List ℕ = flat_map line_bytes (log_lines e offset i taken) in
      let rest : List ℕ = flat_map line_bytes (log_lines e offset1 i1 qs) in
      let all : own ++ rest ≡ log_bytes (tagged written_items) ++ rest =
      sym (line_bytes-append e offset i offset1 i1 taken qs offset_is index_is) ∙ sym (log_bytes-trace ref e s offset i (taken ++ qs))
      ∙ rw (is, tagged-append written_items items, log_bytes-append (tagged written_items) (tagged items), log_bytes-trace ref e s1 offset1 i1 qs) refl in
      sym (append_cancel_right own (log_bytes (tagged written_items)) rest all)

-- how many bytes were taken
taken_sizes : (d d1 : DecoderState) (chunk : List ℕ) (taken : List Piece) → d.pieces (chunk ++ []) ≡ taken ++ d1.pieces [] → sizes taken + d1.pending ≡ d.pending + length chunk
taken_sizes d d1 chunk taken is = omega (arith, d.whole (chunk ++ []), d1.whole [], ap sizes is, sizes-append taken (d1.pieces []), length-append {A = ℕ} chunk [])

-- the clause of a step that goes on
pub steps_on : (before after : Devices) (limit : ℕ) (s s1 : State) (chunk : List ℕ) (last : Bool) → Gave before.reads after.reads chunk → 0 < length chunk → s1.counts.read ≤ limit → AreSound s.decoder.pending s.counts
    → last ≡ false → ConvertsChunk before.written after.written s s1 chunk last → StepsOn before after limit s s1
steps_on before after limit s s1 chunk last read_in some within sound goes_on k =
    let pays = k.pays in
    let p = k.advances goes_on in
    let e = s.coding in
    let offset = s.counts.read - s.decoder.pending in
    let offset1 = s1.counts.read - s1.decoder.pending in
    let i = s.counts.index in
    let i1 = s1.counts.index in
    let qs = s1.decoder.pieces [] in
    let offset_is : offset1 ≡ offset + sizes p.taken = omega (arith, taken_sizes s.decoder s1.decoder chunk p.taken (p.rest []), k.counted, sound.index) in
    let is : trace_from (reference_form s.policy) e s.set offset i (p.taken ++ qs) ≡ pays.written_items ++ trace_from (reference_form s.policy) e s1.set offset1 i1 qs =
    ap (trace_from (reference_form s.policy) e s.set offset i) (sym (p.rest [])) ∙ rw (k.target, k.policy) at (pays.equals [] (λ _. refl)) in
    let none : (r : List ℕ) → last ≡ true → r ≡ [] = λ r h. absurd (false≢true (sym goes_on ∙ h)) in
    record {
      chunk = chunk;
      given = read_in;
      counted = k.counted;
      grows = omega (arith, k.counted, some);
      within = within;
      target = k.target;
      policy = k.policy;
      source = λ r. k.source r (none r);
      pays = record { written_items = pays.written_items; wrote = pays.wrote; counted = pays.counted; spared = pays.spared; equals = λ r h. pays.equals r (none r) };
      advances = p;
      output = subst (Grew before.written.output after.written.output) (paid_output (reference_form s.policy) e s.set s1.set offset i offset1 i1 p.taken qs pays.written_items p.set offset_is p.index is) pays.wrote.output;
      logged = subst (Grew before.written.log after.written.log) (paid_lines (reference_form s.policy) e s.set s1.set offset i offset1 i1 p.taken qs pays.written_items p.set offset_is p.index is) pays.wrote.lined;
      settled = k.done.settled;
      verdict = λ r. k.verdict r (none r);
      calls = λ r. k.calls r (none r);
      least = k.least;
    }

-- the clause of a step that finishes: it read none
pub finishes : (before after : Devices) (limit : ℕ) (s s1 : State) (chunk : List ℕ) (last : Bool) → GaveToEnd before.reads after.reads chunk → chunk ≡ [] → s1.counts.read ≤ limit
    → last ≡ true → ConvertsChunk before.written after.written s s1 chunk last → Finishes before after limit s s1
finishes before after limit s s1 chunk last given none within ends k =
    let pays = k.pays in
    let whole : chunk ++ [] ≡ chunk = append-nil chunk in
    record {
      chunk = chunk;
      given = given;
      counted = omega (arith, k.counted);
      within = within;
      pays = record { written_items = pays.written_items; wrote = pays.wrote; counted = pays.counted; spared = pays.spared; equals = ap (to_write s) (sym whole) ∙ pays.equals [] (λ h. refl) ∙ ap (λ l. pays.written_items ++ l) (k.done.end ends) };
      source = ap s.source (sym whole) ∙ k.source [] (λ h. refl);
      characters = sym (ap (characters_with s) (sym whole) ∙ k.characters [] (λ h. refl) ∙ k.done.counted ends);
      verdict = both_ways (rw whole at (k.verdict [] (λ h. refl))) (k.done.told ends);
      calls = omega (arith, rw (whole, k.done.end ends) at (k.calls [] (λ h. refl)));
      least = λ under. omega (arith, k.least under, ap length none);
      sound = k.sound;
    }

-- A session that has read nothing, and one that steps on.
pub stands_first : (t : Devices) (j : Job) (v : View) → IsNewSession v j → HasReached t t j v.state [] []
stands_first t j v b = search (rules, arith, b.pieces, Gave-nil, Grew-nil)

pub stands_on : (t t1 t2 : Devices) (j : Job) (limit : ℕ) (s s1 : State) (x : List ℕ) (ps : List Piece)
    → HasReached t t1 j s x ps → (p : StepsOn t1 t2 limit s s1) → HasReached t t2 j s1 (x ++ p.chunk) (ps ++ p.advances.taken)
stands_on t t1 t2 j limit s s1 x ps k p =
    let e = target_of j in
    let chunk : List ℕ = p.chunk in
    let taken : List Piece = p.advances.taken in
    let joined : text (ps ++ taken) ≡ text ps ++ text taken = text-append ps taken in
    let coded : s.coding ≡ e = k.coding in
    let offset : s.counts.read - s.decoder.pending ≡ 0 + sizes ps = omega (arith, k.read, k.passed) in
    let index : s.counts.index ≡ 0 + length (text ps) = omega (arith, k.index) in
    let more : Grew t1.written.output t2.written.output (open_from (reference_form j.policy) e (last_set e Ascii (text ps)) (text taken)) =
    rw (k.policy, coded, k.set) at p.output in
    let lined : Grew t1.written.log t2.written.log (flat_map line_bytes (log_lines e (s.counts.read - s.decoder.pending) s.counts.index taken)) =
    rw coded at p.logged in
    record {
      coding = p.target ∙ coded;
      policy = p.policy ∙ k.policy;
      read = omega (arith, k.read, p.counted, length-append x chunk);
      given = Gave-trans t.reads t1.reads t2.reads x chunk k.given p.given;
      pieces = λ y. ap (input_pieces j) (append_assoc x chunk y) ∙ k.pieces (chunk ++ y) ∙ ap (λ q. ps ++ q) (p.advances.rest y) ∙ sym (append_assoc ps taken (s1.decoder.pieces y));
      passed = omega (arith, k.passed, taken_sizes s.decoder s1.decoder chunk taken (p.advances.rest []), sizes-append ps taken, length-append x chunk);
      set = rw (coded, k.set) at p.advances.set ∙ rw (joined, last_set-append e Ascii (text ps) (text taken)) refl;
      index = omega (arith, k.index, p.advances.index, ap length joined, length-append (text ps) (text taken));
      output = rw (joined, open_from-append (reference_form j.policy) e Ascii (text ps) (text taken)) (Grew-trans t.written.output t1.written.output t2.written.output _ _ k.output more);
      logged = rw (line_bytes-append e 0 0 (s.counts.read - s.decoder.pending) s.counts.index ps taken offset index) (Grew-trans t.written.log t1.written.log t2.written.log _ _ k.logged lined);
    }

-- Of two prefixes of one list one is a prefix of the other.
prefixes : (a b c d : List Piece) → a ++ b ≡ c ++ d → IsPrefix c a ⊎ ((p : Piece) × (more : List Piece) × (c ≡ a ++ (p ∷ more)) × (b ≡ p ∷ (more ++ d)))
prefixes [] b [] d e = inl ([], refl)
prefixes [] b (p ∷ c) d e = inr (p, c, refl, e)
prefixes (q ∷ a) b [] d e = inl (q ∷ a, refl)
prefixes (q ∷ a) b (p ∷ c) d e =
    let same : q ≡ p = cc in
    let tails : a ++ b ≡ c ++ d = cc in
    elim (prefixes a b c d tails) [
      | inl f ↦ inl (f.0, ap (λ x. x ∷ a) same ∙ ap (λ l. p ∷ l) f.1)
      | inr m ↦ inr (m.0, m.1, ap (λ l. p ∷ l) m.2 ∙ ap (λ x. x ∷ (a ++ (m.0 ∷ m.1))) (sym same), m.3)
    ]

pub fixed : (t t1 : Devices) (j : Job) (s : State) (x : List ℕ) (ps : List Piece) → HasReached t t1 j s x ps → IsFixed (input_pieces j) x ps
fixed t t1 j s x ps k y = (s.decoder.pieces y, k.pieces y)

pub decided : (t t1 : Devices) (j : Job) (s : State) (x : List ℕ) (ps : List Piece) → HasReached t t1 j s x ps → IsDecided (input_pieces j) x ps
decided t t1 j s x ps k y bytes = fixed t t1 j s x ps k y

same_start : (a : List Piece) (p q : Piece) (c d : List Piece) → a ++ (p ∷ c) ≡ a ++ (q ∷ d) → p ≡ q
same_start [] p q c d e = cc
same_start (o ∷ a) p q c d e =
    let tails : a ++ (p ∷ c) ≡ a ++ (q ∷ d) = cc in
    same_start a p q c d tails

none_more : (d : DecoderState) (a qs : List Piece) → IsNearlyDecided d → ((y : List ℕ) → AreBytes y → (rest : List Piece) × (a ++ d.pieces y ≡ qs ++ rest)) → IsPrefix qs a
none_more d a qs settled h =
    let h0 = h [] tt in
    elim (prefixes a (d.pieces []) qs h0.0 h0.1) [
      | inl f ↦ f
      | inr m ↦ elim settled [
        | inl none ↦ absurd (let z : [] ≡ m.0 ∷ (m.1 ++ h0.0) = sym none.1 ∙ m.3 in cc)
        | inr waits ↦
            let y : List ℕ = waits.undecided.more in
            let h1 = h y waits.undecided.bytes in
            elim (prefixes a (d.pieces y) qs h1.0 h1.1) [
              | inl f ↦ f
              | inr n ↦
                  let one : m.0 ≡ n.0 = same_start a m.0 n.0 m.1 n.1 (sym m.2 ∙ n.2) in
                  absurd (waits.undecided.differs (ap head_piece m.3 ∙ ap Some one ∙ sym (ap head_piece n.3)))
            ]
      ]
    ]

pub longest : (t t1 : Devices) (j : Job) (s : State) (x : List ℕ) (ps qs : List Piece)
    → HasReached t t1 j s x ps → IsNearlyDecided s.decoder → IsDecided (input_pieces j) x qs → IsPrefix qs ps
longest t t1 j s x ps qs k settled h = none_more s.decoder ps qs settled (λ y bytes. let f = h y bytes in (f.0, sym (k.pieces y) ∙ f.1))

pub soon : (t t1 : Devices) (j : Job) (s : State) (x y : List ℕ) (ps qs more : List Piece)
    → HasReached t t1 j s x ps → IsNearlyDecided s.decoder → input_pieces j (x ++ y) ≡ qs ++ more → sizes qs + 3 ≤ length x → IsPrefix qs ps
soon t t1 j s x y ps qs more k settled is early =
    elim (prefixes ps (s.decoder.pieces y) qs more (sym (k.pieces y) ∙ is)) [
      | inl f ↦ f
      | inr m ↦
          let over : sizes qs ≡ sizes ps + sizes (m.0 ∷ m.1) = ap sizes m.2 ∙ sizes-append ps (m.0 ∷ m.1) in
          elim settled [
            | inl none ↦ absurd (omega (arith, none.0, k.passed, over, early))
            | inr waits ↦ absurd (omega (arith, waits.soon y m.0 (ap head_piece m.3), k.passed, over, early))
          ]
    ]

-- A session that has read nothing has nothing pending.
pub no_pieces : (ps : List Piece) → ArePieces ps → sizes ps ≡ 0 → ps ≡ []
no_pieces [] h is = refl
no_pieces (p ∷ ps) h is = absurd (omega (arith, h.0.some, is))

pub new_settled : (v : View) (j : Job) → IsNewSession v j → IsNearlyDecided v.state.decoder
new_settled v j b = inl (b.pending, no_pieces (v.state.decoder.pieces []) (v.state.decoder.are_pieces []) (omega (arith, v.state.decoder.whole [], b.pending)))

-- Where a new session stands that has run.
pub stands_run : (a b : Devices) (j : Job) (v : View) (s : State) → IsNewSession v j → (p : HasRun a b j.limit v.state s) → HasReached a b j s p.chunk p.advances.taken
stands_run a b j v s n p =
    let e = target_of j in
    let taken : List Piece = p.advances.taken in
    let qs : List Piece = s.decoder.pieces [] in
    let offset : ℕ = s.counts.read - s.decoder.pending in
    let passed : sizes taken + s.decoder.pending ≡ length p.chunk = omega (arith, n.pending, taken_sizes v.state.decoder s.decoder p.chunk taken (p.advances.rest [])) in
    let read : s.counts.read ≡ length p.chunk = omega (arith, n.read, p.counted) in
    let set_is : s.set ≡ last_set e Ascii (text taken) = p.advances.set ∙ ap (λ (q : Coding). last_set q v.state.set (text taken)) n.coding ∙ ap (λ (q : EscapeState). last_set e q (text taken)) n.set in
    let index_is : s.counts.index ≡ 0 + length (text taken) = omega (arith, n.index, p.advances.index) in
    let offset_is : offset ≡ 0 + sizes taken = omega (arith, read, passed) in
    let is : trace_from (reference_form j.policy) e Ascii 0 0 (taken ++ qs) ≡ p.pays.written_items ++ trace_from (reference_form j.policy) e s.set offset s.counts.index qs =
    ap (trace_from (reference_form j.policy) e Ascii 0 0) (sym (p.advances.rest []) ∙ n.pieces (p.chunk ++ []))
    ∙ sym (n.owes_trace (p.chunk ++ [])) ∙ p.pays.equals [] (λ _. refl)
    ∙ ap (λ (q : Coding). p.pays.written_items ++ trace_to_write (reference_form s.policy) s.decoder q s.set s.counts []) (p.target ∙ n.coding)
    ∙ ap (λ (f : Policy). p.pays.written_items ++ trace_to_write (reference_form f) s.decoder e s.set s.counts []) (p.policy ∙ n.policy) in
    record {
      coding = p.target ∙ n.coding;
      policy = p.policy ∙ n.policy;
      read = read;
      given = p.given;
      pieces = λ r. sym (n.pieces (p.chunk ++ r)) ∙ p.advances.rest r;
      passed = passed;
      set = set_is;
      index = omega (arith, index_is);
      output = subst (Grew a.written.output b.written.output) (paid_output (reference_form j.policy) e Ascii s.set 0 0 offset s.counts.index taken qs p.pays.written_items set_is offset_is index_is is) p.pays.wrote.output;
      logged = subst (Grew a.written.log b.written.log) (paid_lines (reference_form j.policy) e Ascii s.set 0 0 offset s.counts.index taken qs p.pays.written_items set_is offset_is index_is is) p.pays.wrote.lined;
    }

-- the items of the first pieces of an input, from an offset, an index and a set in force on: those of a trace without the
-- escape with which it ends
abbrev pub items_from : Reference → Coding → EscapeState → (offset i : ℕ) → List Piece → List Item
items_from ref e s offset i [] = []
items_from ref e s offset i (well_formed n cs ∷ ps) =
    open_items ref e s i cs ++ items_from ref e (last_set e s cs) (offset + n) (i + length cs) ps
items_from ref e s offset i (malformed n ∷ ps) =
    MalformedAt offset n ∷ (open_items ref e s i (0xFFFD ∷ []) ++ items_from ref e (e.set s 0xFFFD) (offset + n) (i + 1) ps)

-- what a job writes for the first pieces of an input, as items
abbrev pub items_of : Job → List Piece → List Item
items_of j ps = items_from (reference_form j.policy) (target_of j) Ascii 0 0 ps

-- The items of pieces in a row, without the escape at the end, and what is to be written behind them.
pub items_then : (ref : Reference) (e : Coding) (s : EscapeState) (offset i : ℕ) (s1 : EscapeState) (offset1 i1 : ℕ) (ps qs : List Piece) → s1 ≡ last_set e s (text ps) → offset1 ≡ offset + sizes ps → i1 ≡ i + length (text ps)
    → trace_from ref e s offset i (ps ++ qs) ≡ items_from ref e s offset i ps ++ trace_from ref e s1 offset1 i1 qs
items_then ref e s offset i s1 offset1 i1 [] qs set_is offset_is index_is =
    let at : offset1 ≡ offset = omega (arith, offset_is) in
    let index : i1 ≡ i = omega (arith, index_is) in
    rw (set_is, at, index) refl
items_then ref e s offset i s1 offset1 i1 (well_formed n cs ∷ ps) qs set_is offset_is index_is =
    let s2 = last_set e s cs in
    let rest = items_then ref e s2 (offset + n) (i + length cs) s1 offset1 i1 ps qs (set_is ∙ last_set-append e s cs (text ps)) (omega (arith, offset_is)) (omega (arith, index_is, length-append cs (text ps))) in
    ap (λ l. open_items ref e s i cs ++ l) rest ∙ sym (append_assoc (open_items ref e s i cs) (items_from ref e s2 (offset + n) (i + length cs) ps) (trace_from ref e s1 offset1 i1 qs))
items_then ref e s offset i s1 offset1 i1 (malformed n ∷ ps) qs set_is offset_is index_is =
    let s2 = e.set s 0xFFFD in
    let own = open_items ref e s i (0xFFFD ∷ []) in
    let rest = items_then ref e s2 (offset + n) (i + 1) s1 offset1 i1 ps qs set_is (omega (arith, offset_is)) (omega (arith, index_is)) in
    ap (λ l. MalformedAt offset n ∷ (own ++ l)) rest ∙ ap (λ l. MalformedAt offset n ∷ l) (sym (append_assoc own (items_from ref e s2 (offset + n) (i + 1) ps) (trace_from ref e s1 offset1 i1 qs)))

-- a trace is the items of its pieces, and then the escape to ASCII
pub trace_closes : (ref : Reference) (e : Coding) (s : EscapeState) (offset i : ℕ) (ps : List Piece) → trace_from ref e s offset i ps ≡ items_from ref e s offset i ps ++ closing e (last_set e s (text ps))
trace_closes ref e s offset i ps = ap (trace_from ref e s offset i) (sym (append-nil ps)) ∙ items_then ref e s offset i (last_set e s (text ps)) (offset + sizes ps) (i + length (text ps)) ps [] refl refl refl

-- without which it is what is written for the pieces
pub open_trace_is : (j : Job) (x : List ℕ) → open_trace j x ≡ written_under j.policy (items_of j (input_pieces j x))
open_trace_is j x =
    let items : List Item = items_of j (input_pieces j x) in
    let ends : List Item = closing (target_of j) (last_set (target_of j) Ascii (input_text j x)) in
    let all : whole_trace j x ≡ items ++ ends = trace_closes (reference_form j.policy) (target_of j) Ascii 0 0 (input_pieces j x) in
    let size : length (items ++ ends) - length ends ≡ length items = omega (arith, length-append items ends) in
    ap (written_under j.policy) (ap (λ l. take (length l - length ends) l) all ∙ ap (λ n. take n (items ++ ends)) size ∙ take-append_seam items ends)

-- The items that a new session wrote that has run are those of the pieces that it took.
pub ran_items : (a b : Devices) (j : Job) (v : View) (s : State) → IsNewSession v j → (p : HasRun a b j.limit v.state s) → p.pays.written_items ≡ items_of j p.advances.taken
ran_items a b j v s n p =
    let e = target_of j in
    let ref = reference_form j.policy in
    let k = stands_run a b j v s n p in
    let taken : List Piece = p.advances.taken in
    let qs : List Piece = s.decoder.pieces [] in
    let offset : ℕ = s.counts.read - s.decoder.pending in
    let rest : List Item = trace_from ref e s.set offset s.counts.index qs in
    let is : trace_from ref e Ascii 0 0 (taken ++ qs) ≡ p.pays.written_items ++ rest =
    ap (trace_from ref e Ascii 0 0) (sym (p.advances.rest []) ∙ n.pieces (p.chunk ++ []))
    ∙ sym (n.owes_trace (p.chunk ++ [])) ∙ p.pays.equals [] (λ _. refl)
    ∙ ap (λ (q : Coding). p.pays.written_items ++ trace_to_write (reference_form s.policy) s.decoder q s.set s.counts []) k.coding
    ∙ ap (λ (f : Policy). p.pays.written_items ++ trace_to_write (reference_form f) s.decoder e s.set s.counts []) k.policy in
    append_cancel_right p.pays.written_items (items_of j taken) rest
    (sym is ∙ items_then ref e Ascii 0 0 s.set offset s.counts.index taken qs k.set (omega (arith, k.read, k.passed)) (omega (arith, k.index)))

-- All that the bytes read decide was written, and stays so if nothing is written after.
pub wrote_decided : (a b : Devices) (after : Written) (j : Job) (s : State) (x : List ℕ) (ps : List Piece)
    → HasReached a b j s x ps → IsNearlyDecided s.decoder → KeepsWritten b.written after → WroteDecided a.written after j x ps
wrote_decided a b after j s x ps k settled kept = search (rules, decided, longest, soon)
