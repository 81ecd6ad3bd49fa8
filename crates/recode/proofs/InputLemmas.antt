-- Laws over whole inputs, over what is written for them, over runs on them, and over inputs converted part by part.
use Rattle.std.proofs.Common.{◌≡◌, ℕ, ◌≤◌, List, [], ◌∷◌, ◌++◌, map, length, take, drop, refl, ◌∙◌, ap, arith, length-drop, length-take, take-append-drop, ◌<◌, ◌↔◌, sym, subst, append_assoc, append-nil, encode_utf8_all, true, length-append, inl, inr, Bool, false, IsTrue, IsFalse, true≢false, ◌⊎◌, IsOk, Result, Ok, Err, ◌+◌, Option}
use Rattle.std.specs.List.{concat, flat_map}
use Rattle.encoding_mem.specs.Piece.{Piece, piece_len, sizes, text, AreWellFormed, malformed_count, well_formed}
use Rattle.encoding_front.specs.laws.Input.{marked_whole, marked_scalars, recoded_at_once}
use Rattle.recode.specs.Job.{IsValidJob, input_pieces, input_text, Faithful, target_of, output_of, log_of, trace, output_pieces, RunsThrough, source_in, whole_trace}
use Rattle.recode.specs.calls.Slices.{piece_bytes}
use Rattle.recode.specs.declared.job.Job.{Job}
use Rattle.std.specs.Str.{chars, IsUtf8}
use Rattle.std.proofs.lemmas.List.{append_cancel_left, map-append}
use Rattle.std.proofs.lemmas.Str.{encodes-chars, chars-encodes}
use Rattle.encoding_mem.specs.Coding.{AllMapped, output, lost_count, Coding, last_set, open_from, spelled, whole_from}
use Rattle.encoding_mem.specs.laws.EncoderCalls.{utf8_output, utf8_lost_count, all_mapped-append}
use Rattle.encoding_mem.specs.laws.ReadBack.{all_in_utf8, text_pieces-well_formed, text_pieces-text, none_lost, all_mapped}
use Rattle.encoding_front.specs.Encodings.{IsUtf8Encoding, KeepsCharacters, coding_of, output_encoding_of, is_ascii_compatible_of, mark_at_start}
use Rattle.encoding_front.specs.Marks.{marked_pieces, marked_text, takes_mark_of}
use Rattle.encoding_front.specs.declared.mark.Mark.TheVariants.{Keep}
use Rattle.encoding_front.specs.laws.Encodings.{pieces_of_utf8, coding_of_utf8, agrees_or_breaks}
use Rattle.encoding_mem.specs.calls.TextRun.{text_pieces}
use Rattle.encoding_mem.specs.Utf8.{first_piece_utf8}
use Rattle.encoding_mem.specs.laws.Utf8.{pieces_utf8-text}
use Rattle.encoding_mem.specs.laws.Pieces.{pieces_by-nil}
use Rattle.recode.specs.Policy.{reference_form, written_under}
use Rattle.recode.specs.TaggedByte.{tagged, output_bytes}
use Rattle.recode.specs.Session.{Completes, Fails, IsConverted, IsReport, at_end, input_of}
use Rattle.recode.proofs.LossLemmas.{stops_policy}
use Rattle.recode.proofs.ReadLemmas.{gave_to_end, input_ended, input_front}
use Rattle.recode.specs.Step.{WrotePrefix}
use Rattle.recode.specs.Devices.{Devices, IsOf, Grew, Written, Failures}
use Rattle.recode.specs.declared.job.Fault.{Fault}
use Rattle.recode.specs.declared.job.Report.{Report}
use Rattle.recode.specs.WrittenItems.{IsStop, lost_line_count}
use Rattle.recode.proofs.StepLemmas.{faithful_where_kept, quiet_where_faithful}
use Rattle.recode.proofs.StopLemmas.{kept_where_quiet, losts_of, none_malformed, mapped_through, output_where_spared, quiet_where_kept, mapped_where_faithful, runs_through, trace_where_spared, output_where_mapped}
use Rattle.std.proofs.lemmas.Bool.{cases_lt, false≢true}
use Rattle.encoding_mem.specs.declared.codec.reference.Reference.TheVariants.{Decimal}
use Rattle.encoding_mem.specs.Utf8Coding.{utf8_coding}
use Rattle.encoding_mem.specs.laws.Piece.{well_formed_count, AreWellFormed-append, malformed_count-append, text-append}
use Rattle.encoding_front.specs.Codecs.{codec_of}
use Rattle.recode.specs.declared.job.Policy.{Policy}
use Rattle.recode.specs.ReadBackJobs.{back, in_utf8}
use Rattle.recode.specs.Runs.{IsWholeOutput, AgreeButForCalls, IsStopped, RunReturns, WroteTheSame}
use Rattle.recode.specs.laws.Items.{lost_line_count-append, output_bytes-append, tagged-append, written_spared}
use Rattle.encoding_front.specs.declared.encoding.Encoding.{Encoding}
use Rattle.recode.specs.declared.job.Fault.TheVariants.{TooLong, Unmappable}
use Rattle.encoding_mem.specs.Items.{LostAt, Item, trace_from}
use Rattle.std.proofs.lemmas.Grind.{flat_map-append}
use Rattle.encoding_mem.specs.Parts.{EndsInCut, StandsAlone}
use Rattle.encoding_mem.specs.ReadBack.{ReadsAs}
use Rattle.encoding_mem.specs.Stateless.{HasOneSet}
use Rattle.encoding_mem.specs.declared.codec.form.EscapeState.TheVariants.{Ascii}
use Rattle.encoding_mem.specs.declared.codec.form.Form.TheVariants.{Mapped}
use Rattle.encoding_mem.specs.declared.codec.reference.Reference.{Reference}
use Rattle.encoding_mem.specs.laws.Agreement.{broken_never_reads, broken_stays, well_formed_parts}
use Rattle.encoding_mem.specs.laws.Losses.{lost_count-append}
use Rattle.encoding_front.specs.laws.Parts.{ends_alone, one_set_for, parts_of, source_by_mark, source_if, source_is_ready, stands_alone_of, writes_of}
use Rattle.recode_log.specs.Line.{line_bytes}
use Rattle.recode.specs.Parts.{AddsUp, AreFaithful, AreOfWhole, AreParts, CanBeCut, later, noted, lines_of, later_lines, moved, moved_line, unwritten}
use Rattle.recode.specs.laws.Parts.{cut_is_last, last_is_ascii, log_bytes-noted, moved_lines, moved_none, moved_output, moved_trace, moved_twice, moved_under, noted-append, trace_parts}
use Rattle.recode.proofs.TraceLemmas.{output_bytes-tagged, whole_from-append}

pub input_whole : (j : Job) (x : List ℕ) → IsValidJob j → sizes (input_pieces j x) ≡ length x
input_whole j x v = marked_whole j.tables.now j.mark j.from x v.tables

-- their bytes, joined, are the input
joined : (ps : List Piece) (x : List ℕ) → sizes ps ≡ length x → concat (piece_bytes ps x) ≡ x
joined [] [] h = refl
joined [] (b ∷ x) h = absurd (omega (arith, h))
joined (p ∷ ps) x h =
    ap (λ l. take (piece_len p) x ++ l) (joined ps (drop (piece_len p) x) (omega (arith, h, length-drop (piece_len p) x)))
    ∙ take-append-drop (piece_len p) x

pub input_joined : (j : Job) (x : List ℕ) → IsValidJob j → concat (piece_bytes (input_pieces j x) x) ≡ x
input_joined j x v = joined (input_pieces j x) x (input_whole j x v)

-- and each has the bytes of its size
covers : (ps : List Piece) (x : List ℕ) → sizes ps ≤ length x → map length (piece_bytes ps x) ≡ map piece_len ps
covers [] x h = refl
covers (p ∷ ps) x h =
    let size : length (take (piece_len p) x) ≡ piece_len p = omega (arith, h, length-take (piece_len p) x) in
    rw (size, covers ps (drop (piece_len p) x) (omega (arith, h, length-drop (piece_len p) x))) refl

pub input_covers : (j : Job) (x : List ℕ) → IsValidJob j → map length (piece_bytes (input_pieces j x) x) ≡ map piece_len (input_pieces j x)
input_covers j x v = covers (input_pieces j x) x (omega (arith, input_whole j x v))

pub faithful_quiet : (j : Job) (x : List ℕ) → IsValidJob j → KeepsCharacters j.to → Faithful j x ↔ (log_of j x ≡ [])
faithful_quiet j x v k = (
  quiet_where_faithful j x v,
  λ h. let kept = kept_where_quiet j x h in faithful_where_kept j x v k kept.0 kept.1,
)

-- From UTF-8 to UTF-8.
text_is : (j : Job) (x : List ℕ) → j.mark ≡ Keep → IsUtf8Encoding j.from → IsUtf8 x → input_pieces j x ≡ text_pieces (chars x)
text_is j x kept from u =
    ap (λ m. marked_pieces j.tables.now m j.from x) kept ∙ ap (λ f. f x) (pieces_of_utf8 j.tables.now j.from from)
    ∙ (rw (append-nil x, pieces_by-nil first_piece_utf8, append-nil (text_pieces (chars x))) at (pieces_utf8-text x [] u))

mapped_in_utf8 : (j : Job) (x : List ℕ) → IsUtf8Encoding j.to → AllMapped (target_of j) (input_text j x)
mapped_in_utf8 j x to = subst (λ e. AllMapped e (input_text j x)) (sym (coding_of_utf8 j.tables.now j.to to)) (all_in_utf8 (input_text j x))

pub kept_output : (j : Job) (x : List ℕ) → j.mark ≡ Keep → IsUtf8Encoding j.from → IsUtf8Encoding j.to → IsUtf8 x → output_of j x ≡ x
kept_output j x kept from to u =
    output_where_spared j x (mapped_through j x (mapped_in_utf8 j x to)) ∙ ap (λ e. output (reference_form j.policy) e (input_text j x)) (coding_of_utf8 j.tables.now j.to to) ∙ utf8_output (reference_form j.policy) (input_text j x)
    ∙ ap encode_utf8_all (ap text (text_is j x kept from u) ∙ text_pieces-text (chars x)) ∙ encodes-chars x u

pub kept_log : (j : Job) (x : List ℕ) → j.mark ≡ Keep → IsUtf8Encoding j.from → IsUtf8Encoding j.to → IsUtf8 x → log_of j x ≡ []
kept_log j x kept from to u =
    let well_formed_text : AreWellFormed (input_pieces j x) = subst AreWellFormed (sym (text_is j x kept from u)) (text_pieces-well_formed (chars x)) in
    quiet_where_kept j x well_formed_text (mapped_in_utf8 j x to)

-- A reader whose bytes are known.
pub known_completes : (x : List ℕ) (s t : Devices) (j : Job) (p : Report) → IsOf s.reads t.reads x → Completes s t j p → IsConverted s.written t.written j x p
known_completes x s t j p is k = subst (λ y. IsConverted s.written t.written j y p) (is.whole k.input k.given) k.converted

pub known_fails : (x : List ℕ) (s t : Devices) (j : Job) (f : Fault) → IsOf s.reads t.reads x → Fails s t j f → WrotePrefix s.written t.written j.policy f (trace j x)
known_fails x s t j f is k =
    let input : List ℕ = input_of f k.reads in
    let refused = input_front f k.reads in
    let front = is.front (concat k.reads) (k.reads, k.given, refl) in
    let more : List ℕ = refused.0 ++ front.0 in
    let all : x ≡ input ++ more = front.1 ∙ ap (λ l. l ++ front.0) refused.1 ∙ append_assoc input refused.0 front.0 in
    let none : at_end k.reads ≡ true → more ≡ [] =
    λ h. append_cancel_left input more [] (sym all ∙ sym (is.whole (concat k.reads) (gave_to_end s.reads t.reads k.reads k.given h)) ∙ sym (input_ended f k.reads h) ∙ sym (append-nil input)) in
    let prefix = k.prefix more none in
    record { taken = k.taken; wrote = k.wrote; prefix = (prefix.0, ap (λ t. tagged (trace j t)) all ∙ prefix.1); stopped = subst (λ t. IsStop f k.taken (trace j t)) (sym all) (k.stopped more none) }

pub known_too_long : (x : List ℕ) (s t : Devices) (j : Job) → IsOf s.reads t.reads x → Fails s t j Fault.TooLong → j.limit < length x
known_too_long x s t j is k =
    let front = is.front (concat k.reads) (k.reads, k.given, refl) in
    omega (arith, ap length front.1, length-append (concat k.reads) front.0, k.limited refl)

-- The output, read back.
pub valid_back : (j : Job) → IsValidJob j → IsValidJob (back j) × IsValidJob (in_utf8 j)
valid_back j v = (record { tables = v.tables; from = v.to; to = tt; limit = v.limit }, record { tables = v.tables; from = v.from; to = tt; limit = v.limit })

pub reads_back : (j : Job) (x : List ℕ) → Faithful j x → output_of (back j) (output_of j x) ≡ output_of (in_utf8 j) x
reads_back j x f =
    output_where_spared (back j) (output_of j x) (mapped_through (back j) (output_of j x) (all_in_utf8 (text (output_pieces j (output_of j x)))))
    ∙ ap (output (reference_form j.policy) utf8_coding) f.same
    ∙ sym (output_where_spared (in_utf8 j) x (mapped_through (in_utf8 j) x (all_in_utf8 (input_text j x))))

-- nothing is lost of either
pub quiet_back : (j : Job) (x : List ℕ) → Faithful j x → (log_of (back j) (output_of j x) ≡ []) × (log_of (in_utf8 j) x ≡ [])
quiet_back j x f = (
  quiet_where_kept (back j) (output_of j x) f.target (all_in_utf8 (text (output_pieces j (output_of j x)))),
  quiet_where_kept (in_utf8 j) x f.source (all_in_utf8 (input_text j x)),
)

-- in runs whose writers begin with nothing
pub runs_read_back : (j : Job) (x bytes again direct : List ℕ) (w w' v v' u u' : Written) (p q r : Report) → IsTrue p.faithful → IsWholeOutput w w' bytes → IsConverted w w' j x p
    → IsWholeOutput v v' again → IsConverted v v' (back j) bytes q → IsWholeOutput u u' direct → IsConverted u u' (in_utf8 j) x r → again ≡ direct
runs_read_back j x bytes again direct w w' v v' u u' p q r told k a l b m c =
    bytes_are v.output v'.output again (output_of (back j) bytes) l.begun l.all b.whole.output
    ∙ ap (output_of (back j)) (bytes_are w.output w'.output bytes (output_of j x) k.begun k.all a.whole.output)
    ∙ reads_back j x (a.report.faithful.0 told)
    ∙ sym (bytes_are u.output u'.output direct (output_of (in_utf8 j) x) m.begun m.all c.whole.output)
  where
    bytes_are : (before after bytes added : List ℕ) → before ≡ [] → after ≡ bytes → Grew before after added → bytes ≡ added
    bytes_are before after bytes added none all grew = sym all ∙ grew ∙ ap (λ l. l ++ added) none

-- UTF-8 loses no character.
pub none_lost_in_utf8 : (j : Job) (x : List ℕ) → IsUtf8Encoding (output_encoding_of j.to) → lost_count (target_of j) (input_text j x) ≡ 0
none_lost_in_utf8 j x h = ap (λ e. lost_count e (input_text j x)) (ap (λ k. (codec_of j.tables.now k).coding) h) ∙ utf8_lost_count (input_text j x)

pub no_lost_lines : (j : Job) (x : List ℕ) → IsUtf8Encoding (output_encoding_of j.to) → lost_line_count (trace j x) ≡ 0
no_lost_lines j x h =
    ap lost_line_count (trace_where_spared j x (runs_through j x (λ stops. none_lost_in_utf8 j x h))) ∙ losts_of j x ∙ none_lost_in_utf8 j x h

-- If a character is lost, something is.
pub lost_is_unfaithful : (j : Job) (x : List ℕ) → IsValidJob j → 0 < lost_count (target_of j) (input_text j x) → Faithful j x → ⊥
lost_is_unfaithful j x v some f = omega (arith, some, none_lost (target_of j) (input_text j x) (mapped_where_faithful j x v f))

pub lost_is_told : (j : Job) (x : List ℕ) (p : Report) → IsValidJob j → IsReport j x p → 0 < p.lost → IsTrue p.faithful → ⊥
lost_is_told j x p v r some faithful = lost_is_unfaithful j x v (omega (arith, some, r.lost)) (r.faithful.0 faithful)

-- Decoded at once, and then encoded at once.
pub same_whole : (j : Job) (x decoded bytes : List ℕ) → IsValidJob j → j.policy ≡ Policy.Decimal → decoded ≡ encode_utf8_all (marked_text j.tables.now j.mark j.from x) → bytes ≡ output Decimal (coding_of j.tables.now j.to) (chars decoded) → bytes ≡ output_of j x
same_whole j x decoded bytes v decimal is written =
    written ∙ recoded_at_once j.tables.now j.mark j.from j.to x decoded v.tables is ∙ ap (λ (p : Policy). output (reference_form p) (target_of j) (input_text j x)) (sym decimal)
    ∙ sym (output_where_spared j x (λ stops. absurd (cc (sym decimal ∙ stops))))

pub same_run : (j : Job) (x decoded bytes : List ℕ) (w w' : Written) (p : Report) → IsValidJob j → j.policy ≡ Policy.Decimal → decoded ≡ encode_utf8_all (marked_text j.tables.now j.mark j.from x) → bytes ≡ output Decimal (coding_of j.tables.now j.to) (chars decoded)
    → IsConverted w w' j x p → Grew w.output w'.output bytes
same_run j x decoded bytes w w' p v decimal is written k = subst (Grew w.output w'.output) (sym (same_whole j x decoded bytes v decimal is written)) k.whole.output

-- a count, and a flag that says whether it is none
none_if_false : (b : Bool) (n : ℕ) → IsTrue b ↔ (0 < n) → IsFalse b ↔ (n ≡ 0)
none_if_false true n h = (λ f. absurd (true≢false f), λ e. absurd (omega (arith, h.0 refl, e)))
none_if_false false n h = (λ f. elim (cases_lt 0 n) [ inl some ↦ absurd (false≢true (h.1 some)) | inr none ↦ omega (arith, none) ], λ e. refl)

pub quiet_whole : (j : Job) (x decoded : List ℕ) (malformed lost : Bool) → IsValidJob j → decoded ≡ encode_utf8_all (marked_text j.tables.now j.mark j.from x)
    → IsTrue malformed ↔ (0 < malformed_count (marked_pieces j.tables.now j.mark j.from x)) → IsTrue lost ↔ (0 < lost_count (coding_of j.tables.now j.to) (chars decoded)) → (log_of j x ≡ []) ↔ (IsFalse malformed × IsFalse lost)
quiet_whole j x decoded malformed lost v is had left =
    let text_is : chars decoded ≡ input_text j x = ap chars is ∙ chars-encodes (input_text j x) (marked_scalars j.tables.now j.mark j.from x v.tables) in
    let left_is : IsTrue lost ↔ (0 < lost_count (target_of j) (input_text j x)) = subst (λ (t : List ℕ). IsTrue lost ↔ (0 < lost_count (target_of j) t)) text_is left in (
      λ h.
          let kept = kept_where_quiet j x h in
          ((none_if_false malformed _ had).1 (well_formed_count (input_pieces j x) kept.0), (none_if_false lost _ left_is).1 (none_lost (target_of j) (input_text j x) kept.1)),
      λ h. quiet_where_kept j x (none_malformed (input_pieces j x) ((none_if_false malformed _ had).0 h.0)) (all_mapped (target_of j) (input_text j x) ((none_if_false lost _ left_is).0 h.1)),
    )

-- Two runs that came to their end.
pub same_written : (j : Job) (x : List ℕ) (w w' v v' : Written) (p q : Report) → IsConverted w w' j x p → IsConverted v v' j x q → WroteTheSame w w' v v'
same_written j x w w' v v' p q a b = record {
  taken = tagged (trace j x);
  one = record { output = a.whole.output; lined = a.whole.logged; ordered = a.whole.ordered };
  another = record { output = b.whole.output; lined = b.whole.logged; ordered = b.whole.ordered };
}

same_truth : (a b : Bool) (P : Type 0) → IsTrue a ↔ P → IsTrue b ↔ P → a ≡ b
same_truth true false P h k = sym (k.1 (h.0 refl))
same_truth false true P h k = h.1 (k.0 refl)
same_truth _ _ P h k = refl

same_fields : (a a' b b' c c' n : ℕ) (e e' : Encoding) (f f' : Bool) → a' ≡ a → b' ≡ b → c' ≡ c → e' ≡ e → f' ≡ f
    → (let q : Report = record { read = a'; bad = b'; lost = c'; calls = n; encoding = e'; faithful = f' } in q) ≡ record { read = a; bad = b; lost = c; calls = n; encoding = e; faithful = f }
same_fields a a' b b' c c' n e e' f f' h i k l m = rw (h, i, k, l, m) refl

pub same_reports : (j : Job) (x : List ℕ) (w w' v v' : Written) (p q : Report) → IsConverted w w' j x p → IsConverted v v' j x q → AgreeButForCalls p q
same_reports j x w w' v v' p q one another =
    let a = one.report in
    let b = another.report in
    same_fields p.read q.read p.bad q.bad p.lost q.lost q.calls p.encoding q.encoding p.faithful q.faithful
    (b.read ∙ sym a.read) (b.bad ∙ sym a.bad) (b.lost ∙ sym a.lost) (b.encoding ∙ sym a.encoding) (same_truth q.faithful p.faithful _ b.faithful a.faithful)

-- with readers whose contracts say their bytes
pub same_runs : (j : Job) (x : List ℕ) (s s' t t' : Devices) (p q : Report) → IsOf s.reads s'.reads x → IsOf t.reads t'.reads x → Completes s s' j p → Completes t t' j q
    → WroteTheSame s.written s'.written t.written t'.written × AgreeButForCalls p q
same_runs j x s s' t t' p q is are a b =
    let one = known_completes x s s' j p is a in
    let another = known_completes x t t' j q are b in
    (same_written j x s.written s'.written t.written t'.written p q one another, same_reports j x s.written s'.written t.written t'.written p q one another)

-- with writers whose contracts say theirs
pub same_bytes : (j : Job) (x : List ℕ) (w w' v' : Written) (p q : Report) → IsConverted w w' j x p → IsConverted w v' j x q → (w'.output ≡ v'.output) × (w'.log ≡ v'.log)
same_bytes j x w w' v' p q a b = (a.whole.output ∙ sym b.whole.output, a.whole.logged ∙ sym b.whole.logged)

-- A run in which no call failed.
module _ (j : Job) (s s' : Devices) (quiet : s'.failures ≡ s.failures) where
  pub well_or_ended : (answer : Result Report Fault) → RunReturns s s' j answer → IsOk answer ⊎ ((answer ≡ Err TooLong) ⊎ IsStopped j.policy answer)
  well_or_ended (Ok p) a = inl refl
  well_or_ended (Err TooLong) a = inr (inl refl)
  well_or_ended (Err (Unmappable i c)) a = let stop = a.fails.stopped [] (λ last. refl) i c refl in inr (inr (stops_policy j (input_of (Unmappable i c) a.fails.reads ++ []) stop.items i c stop.last))
  well_or_ended _ a = absurd (omega (arith, a.counts, ap (λ (n : Failures). n.reader) quiet, ap (λ (n : Failures). n.writer) quiet, ap (λ (n : Failures). n.log) quiet))

-- and whose reader's contract says its bytes
module _ (j : Job) (x : List ℕ) (s s' : Devices) (quiet : s'.failures ≡ s.failures) where
  through_where_well : (answer : Result Report Fault) → IsOf s.reads s'.reads x → RunReturns s s' j answer → IsOk answer → (length x ≤ j.limit) × RunsThrough j x
  through_where_well (Ok p) is a h =
      let k = known_completes x s s' j p is a.completes in
      (k.whole.within, k.whole.unstopped)
  through_where_well (Err f) is a h = absurd (false≢true h)

  too_long_where_told : (answer : Result Report Fault) → IsOf s.reads s'.reads x → RunReturns s s' j answer → answer ≡ Err TooLong → j.limit < length x
  too_long_where_told (Err TooLong) is a h = known_too_long x s s' j is a.fails
  too_long_where_told _ is a h = absurd (cc)

  -- if the policy stopped it a character was lost
  lost_where_stopped : (answer : Result Report Fault) → IsOf s.reads s'.reads x → RunReturns s s' j answer → IsStopped j.policy answer → ¬ (RunsThrough j x)
  lost_where_stopped (Err (Unmappable i c)) is a h through =
      let k = (known_fails x s s' j (Unmappable i c) is a.fails).stopped i c refl in
      let spared = runs_through j x through in
      omega (arith, spared (stops_policy j x k.items i c k.last), ap lost_line_count (sym (trace_where_spared j x spared)), ap lost_line_count k.last, lost_line_count-append k.items (LostAt i c ∷ []))
  lost_where_stopped _ is a h through = absurd h

  pub well_where_through : (answer : Result Report Fault) → IsOf s.reads s'.reads x → RunReturns s s' j answer → IsOk answer ↔ ((length x ≤ j.limit) × RunsThrough j x)
  well_where_through answer is a = (
    through_where_well answer is a,
    λ h. elim (well_or_ended j s s' quiet answer a) [
      | inl well ↦ well
      | inr (inl long) ↦ absurd (omega (arith, too_long_where_told answer is a long, h.0))
      | inr (inr stopped) ↦ absurd (lost_where_stopped answer is a stopped h.1)
    ],
  )

  pub told_where_too_long : (answer : Result Report Fault) → IsOf s.reads s'.reads x → RunReturns s s' j answer → RunsThrough j x → (answer ≡ Err TooLong) ↔ (j.limit < length x)
  told_where_too_long answer is a through = (
    too_long_where_told answer is a,
    λ h. elim (well_or_ended j s s' quiet answer a) [
      | inl well ↦ absurd (omega (arith, (through_where_well answer is a well).0, h))
      | inr (inl long) ↦ long
      | inr (inr stopped) ↦ absurd (lost_where_stopped answer is a stopped through)
    ],
  )

-- the output
output_parts : (ref : Reference) (e : Coding) → HasOneSet e → (t u : List ℕ) → output ref e (t ++ u) ≡ open_from ref e Ascii t ++ output ref e u
output_parts ref e one t u = whole_from-append ref e Ascii t u ∙ ap (λ s. open_from ref e Ascii t ++ whole_from ref e s u) (last_is_ascii e one Ascii t refl)

output_is_open : (ref : Reference) (e : Coding) → HasOneSet e → (t : List ℕ) → output ref e t ≡ open_from ref e Ascii t
output_is_open ref e one t = ap (λ l. open_from ref e Ascii t ++ l) (one.escape (last_set e Ascii t) Ascii) ∙ append-nil (open_from ref e Ascii t)

output_of_byte : (ref : Reference) (e : Coding) → HasOneSet e → (a : ℕ) → e.form a ≡ Mapped (a ∷ []) → output ref e (a ∷ []) ≡ a ∷ []
output_of_byte ref e one a is =
    output_is_open ref e one (a ∷ [])
    ∙ ap (λ l. l ++ (spelled ref (e.form a) ++ [])) (one.escape Ascii (e.set Ascii a))
    ∙ ap (λ f. spelled ref f ++ []) is

mapped_parts : (e : Coding) (t u : List ℕ) → AllMapped e (t ++ u) → AllMapped e t × AllMapped e u
mapped_parts e [] u h = (tt, h)
mapped_parts e (c ∷ t) u h = let parts = mapped_parts e t u h.1 in ((h.0, parts.0), parts.1)

-- ---- a job

pub later_is_valid : (j : Job) (x : List ℕ) → IsValidJob j → IsValidJob (later j x)
later_is_valid j x v = record { tables = v.tables; from = source_is_ready j.tables.now j.mark j.from x v.from; to = v.to; limit = v.limit }

module _ (j : Job) (x y : List ℕ) (v : IsValidJob j) (c : CanBeCut j x) where
  abbrev ref : Reference
  ref = reference_form j.policy

  one : HasOneSet (target_of j)
  one = one_set_for j.tables.now j.to c.target

  later_valid : IsValidJob (later j x)
  later_valid = later_is_valid j x v

  pub source_parts : source_in j (x ++ y) ≡ source_in j x
  source_parts = ap (λ s. s.0) (parts_of j.tables.now j.mark j.from x y v.tables c.ends c.source).0

  pub pieces_parts : input_pieces j (x ++ y) ≡ input_pieces j x ++ input_pieces (later j x) y
  pieces_parts = (parts_of j.tables.now j.mark j.from x y v.tables c.ends c.source).1

  pub text_parts : input_text j (x ++ y) ≡ input_text j x ++ input_text (later j x) y
  text_parts = ap text pieces_parts ∙ text-append (input_pieces j x) (input_pieces (later j x) y)

  whole_parts : whole_trace j (x ++ y) ≡ whole_trace j x ++ map (moved (length x) (length (input_text j x))) (whole_trace (later j x) y)
  whole_parts =
      ap (trace_from ref (target_of j) Ascii 0 0) pieces_parts
      ∙ trace_parts ref (target_of j) one Ascii 0 0 (length x) (length (input_text j x)) (input_pieces j x) (input_pieces (later j x) y) refl (omega (arith, marked_whole j.tables.now j.mark j.from x v.tables)) (omega arith)
      ∙ ap (λ l. whole_trace j x ++ l) (moved_trace (length x) (length (input_text j x)) ref (target_of j) Ascii 0 0 (length x) (length (input_text j x)) (input_pieces (later j x) y) (omega arith) (omega arith))

  pub trace_of_parts : RunsThrough j x → trace j (x ++ y) ≡ trace j x ++ map (moved (length x) (length (input_text j x))) (trace (later j x) y)
  trace_of_parts through =
      let more : List Item = map (moved (length x) (length (input_text j x))) (whole_trace (later j x) y) in
      ap (written_under j.policy) whole_parts
      ∙ written_spared j.policy (whole_trace j x) more (runs_through j x through)
      ∙ cc (trace_where_spared j x (runs_through j x through), moved_under (length x) (length (input_text j x)) j.policy (whole_trace (later j x) y))

  pub stops_in_first : j.policy ≡ Policy.Stop → 0 < lost_count (target_of j) (input_text j x) → trace j (x ++ y) ≡ trace j x
  stops_in_first stops some =
      let more : List Item = map (moved (length x) (length (input_text j x))) (whole_trace (later j x) y) in
      ap (written_under j.policy) whole_parts
      ∙ ap (λ (p : Policy). written_under p (whole_trace j x ++ more)) stops
      ∙ cut_is_last (whole_trace j x) more (omega (arith, some, losts_of j x))
      ∙ ap (λ (p : Policy). written_under p (whole_trace j x)) (sym stops)

  pub output_of_parts : RunsThrough j x → output_of j (x ++ y) ≡ output_of j x ++ output_of (later j x) y
  output_of_parts through =
      let more : List Item = map (moved (length x) (length (input_text j x))) (trace (later j x) y) in
      ap (λ l. output_bytes (tagged l)) (trace_of_parts through)
      ∙ ap output_bytes (tagged-append (trace j x) more)
      ∙ output_bytes-append (tagged (trace j x)) (tagged more)
      ∙ ap (λ l. output_of j x ++ l) (output_bytes-tagged more ∙ moved_output (length x) (length (input_text j x)) (trace (later j x) y) ∙ sym (output_bytes-tagged (trace (later j x) y)))

  pub two_lines : RunsThrough j x → lines_of j (x ++ y) ≡ lines_of j x ++ map (moved_line (length x) (length (input_text j x))) (lines_of (later j x) y)
  two_lines through =
      let more : List Item = map (moved (length x) (length (input_text j x))) (trace (later j x) y) in
      ap noted (trace_of_parts through)
      ∙ noted-append (trace j x) more
      ∙ ap (λ l. lines_of j x ++ l) (moved_lines (length x) (length (input_text j x)) (trace (later j x) y))

  lost_in_parts : lost_count (target_of j) (input_text j (x ++ y)) ≡ lost_count (target_of j) (input_text j x) + lost_count (target_of j) (input_text (later j x) y)
  lost_in_parts = ap (lost_count (target_of j)) text_parts ∙ lost_count-append (target_of j) (input_text j x) (input_text (later j x) y)

  pub runs_through_parts : RunsThrough j (x ++ y) ↔ (RunsThrough j x × RunsThrough (later j x) y)
  runs_through_parts = (
    λ all. (λ stops. omega (arith, all stops, lost_in_parts), λ stops. omega (arith, all stops, lost_in_parts)),
    λ each stops. omega (arith, each.0 stops, each.1 stops, lost_in_parts),
  )

  -- the text of the first part ends in its last byte's character, and its output in that byte
  text_ends : (before : List ℕ) × (input_text j x ≡ before ++ c.ends.byte ∷ [])
  text_ends =
      let alone = ends_alone j.tables.now j.mark j.from x v.tables c.ends c.source in
      (text alone.0, ap text alone.1 ∙ text-append alone.0 (well_formed 1 (c.ends.byte ∷ []) ∷ []))

  output_ends : output ref (target_of j) (input_text j x) ≡ open_from ref (target_of j) Ascii text_ends.0 ++ c.ends.byte ∷ []
  output_ends =
      ap (output ref (target_of j)) text_ends.1
      ∙ output_parts ref (target_of j) one text_ends.0 (c.ends.byte ∷ [])
      ∙ ap (λ l. open_from ref (target_of j) Ascii text_ends.0 ++ l) (output_of_byte ref (target_of j) one c.ends.byte (writes_of j.tables.now j.to c.ends.byte c.target c.ends.is_cut))

  -- so it is read back by itself
  read_parts : (w : List ℕ) → output_pieces j (output ref (target_of j) (input_text j x) ++ w) ≡ output_pieces j (output ref (target_of j) (input_text j x)) ++ output_pieces j w
  read_parts w =
      let law : StandsAlone (output_pieces j) c.ends.byte = stands_alone_of j.tables.now (output_encoding_of j.to) c.ends.byte c.target v.tables c.ends.is_cut in
      subst (λ l. output_pieces j (l ++ w) ≡ output_pieces j l ++ output_pieces j w) (sym output_ends) (law.parts (open_from ref (target_of j) Ascii text_ends.0) w)

  read_whole : output_pieces j (output ref (target_of j) (input_text j (x ++ y))) ≡ output_pieces j (output ref (target_of j) (input_text j x)) ++ output_pieces j (output ref (target_of j) (input_text (later j x) y))
  read_whole =
      let more : List ℕ = output ref (target_of j) (input_text (later j x) y) in
      let joined = output_parts ref (target_of j) one (input_text j x) (input_text (later j x) y) in
      ap (λ t. output_pieces j (output ref (target_of j) t)) text_parts ∙ ap (output_pieces j) (joined ∙ ap (λ l. l ++ more) (sym (output_is_open ref (target_of j) one (input_text j x)))) ∙ read_parts more

  -- what is read back of the whole is what is read back of each part
  read_back : AllMapped (target_of j) (input_text j x) → AllMapped (target_of j) (input_text (later j x) y)
      → output_pieces j (output_of j (x ++ y)) ≡ output_pieces j (output_of j x) ++ output_pieces j (output_of (later j x) y)
  read_back first second =
      let whole = subst (AllMapped (target_of j)) (sym text_parts) (all_mapped-append (target_of j) (input_text j x) (input_text (later j x) y) first second) in
      ap (output_pieces j) (output_where_mapped j (x ++ y) v whole) ∙ read_whole
      ∙ ap (λ l. output_pieces j l ++ output_pieces j (output ref (target_of j) (input_text (later j x) y))) (sym (output_where_mapped j x v first))
      ∙ ap (λ l. output_pieces j (output_of j x) ++ output_pieces j l) (sym (output_where_mapped (later j x) y later_valid second))

  together : Faithful j x → Faithful (later j x) y → Faithful j (x ++ y)
  together f g =
      let is = read_back (mapped_where_faithful j x v f) (mapped_where_faithful (later j x) y later_valid g) in
      record {
        source = subst AreWellFormed (sym pieces_parts) (AreWellFormed-append (input_pieces j x) (input_pieces (later j x) y) f.source g.source);
        target = subst AreWellFormed (sym is) (AreWellFormed-append (output_pieces j (output_of j x)) (output_pieces j (output_of (later j x) y)) f.target g.target);
        same = ap text is ∙ text-append (output_pieces j (output_of j x)) (output_pieces j (output_of (later j x) y)) ∙ cc (f.same, g.same, text_parts);
      }

  apart : Faithful j (x ++ y) → Faithful j x × Faithful (later j x) y
  apart f =
      let e = target_of j in
      let whole = mapped_where_faithful j (x ++ y) v f in
      let mapped = mapped_parts e (input_text j x) (input_text (later j x) y) (subst (AllMapped e) text_parts whole) in
      let source = well_formed_parts (input_pieces j x) (input_pieces (later j x) y) (subst AreWellFormed pieces_parts f.source) in
      let is = read_back mapped.0 mapped.1 in
      let first : List Piece = output_pieces j (output_of j x) in
      let second : List Piece = output_pieces j (output_of (later j x) y) in
      let target = well_formed_parts first second (subst AreWellFormed is f.target) in
      let joined : text first ++ text second ≡ input_text j x ++ input_text (later j x) y = sym (text-append first second) ∙ ap text (sym is) ∙ f.same ∙ text_parts in
      elim ((agrees_or_breaks j.tables.now j.to v.tables).at_end ref (input_text j x) (marked_scalars j.tables.now j.mark j.from x v.tables)) [
        | inl reads ↦
            let same : text first ≡ input_text j x = ap (λ l. text (output_pieces j l)) (output_where_mapped j x v mapped.0) ∙ reads.same in
            let rest = append_cancel_left (input_text j x) (text second) (input_text (later j x) y) (ap (λ l. l ++ text second) (sym same) ∙ joined) in
            (record { source = source.0; target = target.0; same = same }, record { source = source.1; target = target.1; same = rest })
        | inr broken ↦
            let more : List ℕ = output ref e (input_text (later j x) y) in
            let begun : output_of j (x ++ y) ≡ open_from ref e Ascii (input_text j x) ++ more = output_where_mapped j (x ++ y) v whole ∙ ap (output ref e) text_parts ∙ output_parts ref e one (input_text j x) (input_text (later j x) y) in
            let reads : ReadsAs (output_pieces j) (open_from ref e Ascii (input_text j x) ++ more) (input_text j x ++ input_text (later j x) y) =
            record { well_formed = subst (λ l. AreWellFormed (output_pieces j l)) begun f.target; same = ap (λ l. text (output_pieces j l)) (sym begun) ∙ f.same ∙ text_parts } in
            absurd (broken_never_reads (output_pieces j) _ _ (broken_stays (output_pieces j) (open_from ref e Ascii (input_text j x)) (input_text j x) more (input_text (later j x) y) broken) reads)
      ]

  pub faithful_parts : Faithful j (x ++ y) ↔ (Faithful j x × Faithful (later j x) y)
  faithful_parts = (apart, λ each. together each.0 each.1)

  -- what two reports say of it
  pub verdicts_say : (p q : Report) → (IsTrue p.faithful ↔ Faithful j x) → (IsTrue q.faithful ↔ Faithful (later j x) y) → Faithful j (x ++ y) ↔ (IsTrue p.faithful × IsTrue q.faithful)
  verdicts_say p q one_says other = (λ f. let each = apart f in (one_says.1 each.0, other.1 each.1), λ each. together (one_says.0 each.0) (other.0 each.1))

  pub reports_of_parts : (p q r : Report) → IsReport j x p → IsReport (later j x) y q → IsReport j (x ++ y) r → AddsUp p q r
  reports_of_parts p q r one_report other all =
      let verdict = verdicts_say p q one_report.faithful other.faithful in
      record {
        read = omega (arith, all.read, length-append x y, one_report.read, other.read);
        bad = omega (arith, all.bad, ap malformed_count pieces_parts, malformed_count-append (input_pieces j x) (input_pieces (later j x) y), one_report.bad, other.bad);
        lost = omega (arith, all.lost, lost_in_parts, one_report.lost, other.lost);
        encoding = all.encoding ∙ source_parts ∙ sym one_report.encoding;
        faithful = (λ told. verdict.0 (all.faithful.0 told), λ each. all.faithful.1 (verdict.1 each));
      }

-- ---- more parts than two

are_parts : (x : List ℕ) (parts : List (List ℕ)) → EndsInCut x → AreParts parts → AreParts (x ∷ parts)
are_parts x [] ends are = tt
are_parts x (y ∷ parts) ends are = (ends, are)

-- what is said of a job's first part and those after it
pub record AreWhole (j : Job) (x : List ℕ) (parts : List (List ℕ)) : Type 0 where
  pub output : RunsThrough j (x ++ concat parts) → output_of j (x ++ concat parts) ≡ output_of j x ++ flat_map (output_of (later j x)) parts
  pub lines : RunsThrough j (x ++ concat parts) → (n m : ℕ) → map (moved_line n m) (lines_of j (x ++ concat parts))
      ≡ map (moved_line n m) (lines_of j x) ++ later_lines (later j x) (n + length x) (m + length (input_text j x)) parts
  pub verdict : Faithful j (x ++ concat parts) ↔ (Faithful j x × AreFaithful (later j x) parts)

are_whole : (j : Job) (x : List ℕ) (parts : List (List ℕ)) → IsValidJob j → is_ascii_compatible_of (source_in j x) ≡ true → is_ascii_compatible_of (output_encoding_of j.to) ≡ true → AreParts (x ∷ parts) → AreWhole j x parts
are_whole j x [] v source target are = record {
  output = λ through. ap (output_of j) (append-nil x) ∙ sym (append-nil (output_of j x));
  lines = λ through n m. ap (λ l. map (moved_line n m) (lines_of j l)) (append-nil x) ∙ sym (append-nil (map (moved_line n m) (lines_of j x)));
  verdict = (λ f. (subst (Faithful j) (append-nil x) f, tt), λ f. subst (Faithful j) (sym (append-nil x)) f.0);
}
are_whole j x (y ∷ parts) v source target are =
    let c : CanBeCut j x = record { ends = are.0; source = source; target = target } in
    let behind : List ℕ = y ++ concat parts in
    let more = are_whole (later j x) y parts (later_is_valid j x v) source target are.1 in
    let through = (runs_through_parts j x behind v c).0 in
    let two = faithful_parts j x behind v c in
    record {
      output = λ all. output_of_parts j x behind v c (through all).0 ∙ ap (λ l. output_of j x ++ l) (more.output (through all).1);
      lines = λ all n m.
          ap (map (moved_line n m)) (two_lines j x behind v c (through all).0)
          ∙ map-append (moved_line n m) (lines_of j x) (map (moved_line (length x) (length (input_text j x))) (lines_of (later j x) behind))
          ∙ ap (λ l. map (moved_line n m) (lines_of j x) ++ l) (moved_twice n m (length x) (length (input_text j x)) (lines_of (later j x) behind) ∙ more.lines (through all).1 (n + length x) (m + length (input_text j x)));
      verdict = (λ f. let each = two.0 f in (each.0, more.verdict.0 each.1), λ f. two.1 (f.0, more.verdict.1 f.1));
    }

pub all_parts : (j : Job) (x : List ℕ) (parts : List (List ℕ)) → IsValidJob j → CanBeCut j x → AreParts parts → AreWhole j x parts
all_parts j x parts v c are = are_whole j x parts v c.source c.target (are_parts x parts c.ends are)

pub lines_of_all : (j : Job) (x : List ℕ) (parts : List (List ℕ)) → AreWhole j x parts → RunsThrough j (x ++ concat parts) → lines_of j (x ++ concat parts) ≡ lines_of j x ++ later_lines (later j x) (length x) (length (input_text j x)) parts
lines_of_all j x parts all through =
    let n : 0 + length x ≡ length x = omega arith in
    let m : 0 + length (input_text j x) ≡ length (input_text j x) = omega arith in
    cc (moved_none (lines_of j (x ++ concat parts)), moved_none (lines_of j x), all.lines through 0 0)

-- the source of a job, by the mark that is found
pub source_where_found : (j : Job) (x : List ℕ) (found : Option (Encoding × ℕ)) → found ≡ mark_at_start x → source_if (takes_mark_of j.mark j.from) j.from found ≡ source_in j x
source_where_found j x found is = ap (source_if (takes_mark_of j.mark j.from) j.from) is ∙ sym (source_by_mark j.mark j.from x)

-- ---- runs on parts

pub runs_on_parts : (j : Job) (x y : List ℕ) (v w : Written) (p q : Report) (characters : ℕ) → IsValidJob j → CanBeCut j x → IsConverted unwritten v j x p → characters ≡ length (input_text j x) → IsConverted unwritten w (later j x) y q
    → AreOfWhole j x y v w p q characters
runs_on_parts j x y v w p q characters valid c one counted other =
    let k = length (input_text j x) in
    let ls = lines_of (later j x) y in
    let through = one.whole.unstopped in
    record {
      output = output_of_parts j x y valid c through ∙ cc (one.whole.output, other.whole.output);
      second = other.whole.logged ∙ log_bytes-noted (trace (later j x) y);
      log =
          log_bytes-noted (trace j (x ++ y))
          ∙ ap (flat_map line_bytes) (two_lines j x y valid c through)
          ∙ flat_map-append line_bytes (lines_of j x) (map (moved_line (length x) k) ls)
          ∙ ap (λ l. l ++ flat_map line_bytes (map (moved_line (length x) k) ls)) (sym (log_bytes-noted (trace j x)) ∙ sym one.whole.logged)
          ∙ ap (λ n. v.log ++ flat_map line_bytes (map (moved_line n k) ls)) (sym one.report.read)
          ∙ ap (λ m. v.log ++ flat_map line_bytes (map (moved_line p.read m) ls)) (sym counted);
      faithful = verdicts_say j x y valid c p q one.report.faithful other.report.faithful;
    }
