-- What a job writes, beside what it writes if nothing stops it: the same if each character has bytes, and less if it
-- stops at one that has none. What is written up to there never reads back as the text.
use Rattle.encoding_mem.specs.laws.Piece.{well_formed_count}
use Rattle.std.proofs.Common.{arith, ◌+◌, ◌*◌, ◌≡◌, ◌≤◌, ◌⊎◌, inl, inr, false, true, ℕ, List, [], ◌∷◌, ◌++◌, map, length, refl, sym, ◌∙◌, ap, subst, append_assoc, append-nil, length-append}
use Rattle.std.specs.List.{flat_map}
use Rattle.std.specs.Str.{all_scalars}
use Rattle.encoding_mem.specs.declared.codec.reference.Reference.{Reference}
use Rattle.encoding_mem.specs.declared.codec.reference.Reference.TheVariants.{Decimal}
use Rattle.encoding_mem.specs.Coding.{AllMapped, Coding, IsMapped, mapped_bytes, bytes_from, last_set, lost_count, open_from, output}
use Rattle.encoding_mem.specs.Items.{Item, Byte, LostAt, item_bytes, form_items, open_items, trace_from}
use Rattle.encoding_mem.specs.Piece.{Piece, well_formed, malformed, text, AreWellFormed, malformed_count}
use Rattle.encoding_mem.specs.ReadBack.{ReadsAs}
use Rattle.encoding_mem.specs.declared.codec.form.Form.{Form}
use Rattle.encoding_mem.specs.declared.codec.form.Form.TheVariants.{Mapped, Unmapped}
use Rattle.encoding_mem.specs.declared.codec.form.EscapeState.{EscapeState}
use Rattle.encoding_mem.specs.declared.codec.form.EscapeState.TheVariants.{Ascii}
use Rattle.encoding_mem.specs.laws.Agreement.{open_reads}
use Rattle.encoding_mem.specs.laws.EncoderCalls.{item_bytes-append, item_bytes-bytes, mapped_open, last_set-append}
use Rattle.encoding_mem.specs.laws.ReadBack.{none_lost, all_mapped}
use Rattle.encoding_mem.specs.laws.ReadCalls.{begins_along, broken_never_reads_on, lost_never_reads, reads_on, scalars_parts}
use Rattle.encoding_front.specs.Encodings.{set_pieces_of}
use Rattle.encoding_front.specs.calls.CodecBounds.{need_of}
use Rattle.encoding_front.specs.laws.Encoder.{coding_laws}
use Rattle.encoding_front.specs.laws.Encodings.{reads_by_step, set_pieces_at_start}
use Rattle.encoding_front.specs.laws.Input.{marked_scalars, short_recoded}
use Rattle.recode_log.specs.Line.{line_bytes}
use Rattle.recode.specs.Job.{Faithful, IsValidJob, input_pieces, input_text, log_lines, log_of, output_of, output_pieces, target_of, trace, whole_trace}
use Rattle.recode.specs.Policy.{reference_form, up_to_loss, written_under}
use Rattle.recode.specs.TaggedByte.{log_bytes, output_bytes, tagged}
use Rattle.recode.specs.WrittenItems.{IsSpared, bad_line_count, lost_line_count}
use Rattle.recode.specs.declared.job.Job.{Job}
use Rattle.recode.specs.declared.job.Policy.{Policy}
use Rattle.recode.specs.laws.Items.{cut_spared, lost_line_count-bytes, output_bytes-append, tagged-append, written_whole, lost_line_count-trace, bad_line_count-trace}
use Rattle.recode.specs.laws.Parts.{log_bytes-trace}
use Rattle.recode.proofs.TraceLemmas.{none_counted, none_logged, output_bytes-tagged, output_bytes-trace}

-- The lines of the whole trace.
pub bads_of : (j : Job) (x : List ℕ) → bad_line_count (whole_trace j x) ≡ malformed_count (input_pieces j x)
bads_of j x = bad_line_count-trace (reference_form j.policy) (target_of j) Ascii 0 0 (input_pieces j x)

pub losts_of : (j : Job) (x : List ℕ) → lost_line_count (whole_trace j x) ≡ lost_count (target_of j) (input_text j x)
losts_of j x = lost_line_count-trace (reference_form j.policy) (target_of j) Ascii 0 0 (input_pieces j x)

-- No malformed sequence.
pub none_malformed : (ps : List Piece) → malformed_count ps ≡ 0 → AreWellFormed ps
none_malformed [] h = tt
none_malformed (well_formed n cs ∷ ps) h = (tt, none_malformed ps h)
none_malformed (malformed n ∷ ps) h = absurd (omega arith)

-- If nothing stops it.
pub runs_through : (j : Job) (x : List ℕ) → (j.policy ≡ Policy.Stop → lost_count (target_of j) (input_text j x) ≡ 0) → IsSpared j.policy (whole_trace j x)
runs_through j x h stops = losts_of j x ∙ h stops

pub mapped_through : (j : Job) (x : List ℕ) → AllMapped (target_of j) (input_text j x) → IsSpared j.policy (whole_trace j x)
mapped_through j x h = runs_through j x (λ stops. none_lost (target_of j) (input_text j x) h)

pub trace_where_spared : (j : Job) (x : List ℕ) → IsSpared j.policy (whole_trace j x) → trace j x ≡ whole_trace j x
trace_where_spared j x h = written_whole j.policy (whole_trace j x) h

pub output_where_spared : (j : Job) (x : List ℕ) → IsSpared j.policy (whole_trace j x) → output_of j x ≡ output (reference_form j.policy) (target_of j) (input_text j x)
output_where_spared j x h = ap (λ l. output_bytes (tagged l)) (trace_where_spared j x h) ∙ output_bytes-trace (reference_form j.policy) (target_of j) Ascii 0 0 (input_pieces j x)

pub log_where_spared : (j : Job) (x : List ℕ) → IsSpared j.policy (whole_trace j x) → log_of j x ≡ flat_map line_bytes (log_lines (target_of j) 0 0 (input_pieces j x))
log_where_spared j x h = ap (λ l. log_bytes (tagged l)) (trace_where_spared j x h) ∙ log_bytes-trace (reference_form j.policy) (target_of j) Ascii 0 0 (input_pieces j x)

-- If the log is empty nothing stopped it.
unlogged_cut : (s : List Item) → log_bytes (tagged (up_to_loss s)) ≡ [] → up_to_loss s ≡ s
unlogged_cut [] h = refl
unlogged_cut (Byte b ∷ s) h = ap (λ l. Byte b ∷ l) (unlogged_cut s h)
unlogged_cut (x ∷ s) h = absurd (cc)

unlogged : (p : Policy) (s : List Item) → log_bytes (tagged (written_under p s)) ≡ [] → written_under p s ≡ s
unlogged Policy.Stop s h = unlogged_cut s h
unlogged _ s h = refl

pub quiet_where_kept : (j : Job) (x : List ℕ) → AreWellFormed (input_pieces j x) → AllMapped (target_of j) (input_text j x) → log_of j x ≡ []
quiet_where_kept j x h k =
    ap (λ l. log_bytes (tagged l)) (trace_where_spared j x (mapped_through j x k))
    ∙ none_logged (whole_trace j x) (bads_of j x ∙ well_formed_count (input_pieces j x) h) (losts_of j x ∙ none_lost (target_of j) (input_text j x) k)

pub kept_where_quiet : (j : Job) (x : List ℕ) → log_of j x ≡ [] → AreWellFormed (input_pieces j x) × AllMapped (target_of j) (input_text j x)
kept_where_quiet j x h =
    let none = none_counted (whole_trace j x) (ap (λ l. log_bytes (tagged l)) (sym (unlogged j.policy (whole_trace j x) h)) ∙ h) in
    (none_malformed (input_pieces j x) (sym (bads_of j x) ∙ none.0), all_mapped (target_of j) (input_text j x) (sym (losts_of j x) ∙ none.1))

-- A stop writes a prefix.
cut_prefix : (s : List Item) → (rest : List Item) × (s ≡ up_to_loss s ++ rest)
cut_prefix [] = ([], refl)
cut_prefix (LostAt i c ∷ s) = (s, refl)
cut_prefix (x ∷ s) = let k = cut_prefix s in (k.0, ap (λ l. x ∷ l) k.1)

written_prefix : (p : Policy) (s : List Item) → (rest : List Item) × (s ≡ written_under p s ++ rest)
written_prefix Policy.Stop s = cut_prefix s
written_prefix _ s = ([], sym (append-nil s))

pub whole_within : (j : Job) (x : List ℕ) → IsValidJob j → length (output_bytes (tagged (whole_trace j x))) ≤ 13 * length x + 3
whole_within j x v =
    omega (arith, ap length (output_bytes-trace (reference_form j.policy) (target_of j) Ascii 0 0 (input_pieces j x)), short_recoded (reference_form j.policy) j.tables.now j.mark j.from j.to x v.tables)

pub output_within : (j : Job) (x : List ℕ) → IsValidJob j → length (output_of j x) ≤ 13 * length x + 3
output_within j x v =
    let more = written_prefix j.policy (whole_trace j x) in
    let is : output_bytes (tagged (whole_trace j x)) ≡ output_of j x ++ output_bytes (tagged more.0) =
    ap (λ l. output_bytes (tagged l)) more.1 ∙ ap output_bytes (tagged-append (trace j x) more.0) ∙ output_bytes-append (tagged (trace j x)) (tagged more.0) in
    omega (arith, whole_within j x v, ap length is, length-append (output_of j x) (output_bytes (tagged more.0)))

-- The output up to the first character without bytes, and then this, if there is none.
abbrev pub form_to_loss : Form → List ℕ → List ℕ
form_to_loss (Mapped bs) behind = bs ++ behind
form_to_loss (Unmapped m) behind = []

abbrev pub to_loss : Coding → EscapeState → List ℕ → List ℕ → List ℕ
to_loss e s [] behind = behind
to_loss e s (c ∷ t) behind = e.escape s (e.set s c) ++ form_to_loss (e.form c) (to_loss e (e.set s c) t behind)

to_loss-append : (e : Coding) (s : EscapeState) (a b behind : List ℕ) → to_loss e s (a ++ b) behind ≡ to_loss e s a (to_loss e (last_set e s a) b behind)
to_loss-append e s [] b behind = refl
to_loss-append e s (c ∷ a) b behind = ap (λ l. e.escape s (e.set s c) ++ form_to_loss (e.form c) l) (to_loss-append e (e.set s c) a b behind)

cut_bytes : (bs : List ℕ) (rest : List Item) → item_bytes (up_to_loss (map Byte bs ++ rest)) ≡ bs ++ item_bytes (up_to_loss rest)
cut_bytes bs rest = rw (cut_spared (map Byte bs) rest (lost_line_count-bytes bs), item_bytes-append (map Byte bs) (up_to_loss rest), item_bytes-bytes bs) refl

cut_form : (ref : Reference) (i : ℕ) (f : Form) (rest : List Item) → item_bytes (up_to_loss (form_items ref i f ++ rest)) ≡ form_to_loss f (item_bytes (up_to_loss rest))
cut_form ref i (Mapped bs) rest = cut_bytes bs rest
cut_form ref i (Unmapped m) rest = refl

cut_open : (ref : Reference) (e : Coding) (s : EscapeState) (i : ℕ) (t : List ℕ) (rest : List Item) → item_bytes (up_to_loss (open_items ref e s i t ++ rest)) ≡ to_loss e s t (item_bytes (up_to_loss rest))
cut_open ref e s i [] rest = refl
cut_open ref e s i (c ∷ t) rest =
    let escape : List ℕ = e.escape s (e.set s c) in
    let form : List Item = form_items ref i (e.form c) in
    let more : List Item = open_items ref e (e.set s c) (i + 1) t in
    rw (append_assoc (map Byte escape) (form ++ more) rest, append_assoc form more rest, cut_bytes escape (form ++ (more ++ rest)), cut_form ref i (e.form c) (more ++ rest), cut_open ref e (e.set s c) (i + 1) t rest) refl

-- up to the first loss, after the text of a piece, of which the rest is known
cut_more : (ref : Reference) (e : Coding) (s : EscapeState) (i : ℕ) (cs t : List ℕ) (rest : List Item)
    → item_bytes (up_to_loss rest) ≡ to_loss e (last_set e s cs) t (e.escape (last_set e (last_set e s cs) t) Ascii)
    → item_bytes (up_to_loss (open_items ref e s i cs ++ rest)) ≡ to_loss e s (cs ++ t) (e.escape (last_set e s (cs ++ t)) Ascii)
cut_more ref e s i cs t rest known =
    rw (last_set-append e s cs t) (cut_open ref e s i cs rest ∙ ap (to_loss e s cs) known ∙ sym (to_loss-append e s cs t (e.escape (last_set e (last_set e s cs) t) Ascii)))

cut_trace : (ref : Reference) (e : Coding) (s : EscapeState) (offset i : ℕ) (ps : List Piece) → item_bytes (up_to_loss (trace_from ref e s offset i ps)) ≡ to_loss e s (text ps) (e.escape (last_set e s (text ps)) Ascii)
cut_trace ref e s offset i [] =
    ap (λ l. item_bytes (up_to_loss l)) (sym (append-nil (map Byte (e.escape s Ascii)))) ∙ cut_bytes (e.escape s Ascii) [] ∙ append-nil (e.escape s Ascii)
cut_trace ref e s offset i (well_formed n cs ∷ ps) =
    cut_more ref e s i cs (text ps) (trace_from ref e (last_set e s cs) (offset + n) (i + length cs) ps) (cut_trace ref e (last_set e s cs) (offset + n) (i + length cs) ps)
cut_trace ref e s offset i (malformed n ∷ ps) =
    cut_more ref e s i (0xFFFD ∷ []) (text ps) (trace_from ref e (e.set s 0xFFFD) (offset + n) (i + 1) ps) (cut_trace ref e (e.set s 0xFFFD) (offset + n) (i + 1) ps)

mapped_to_loss : (f : Form) (behind : List ℕ) → IsMapped f → form_to_loss f behind ≡ mapped_bytes f ++ behind
mapped_to_loss (Mapped bs) behind h = refl
mapped_to_loss (Unmapped m) behind h = absurd h

pub at_loss : (e : Coding) (s : EscapeState) (before : List ℕ) (c m : ℕ) (rest behind : List ℕ) → AllMapped e before → e.form c ≡ Unmapped m
    → to_loss e s (before ++ c ∷ rest) behind ≡ bytes_from e s before ++ e.escape (last_set e s before) (e.set (last_set e s before) c)
at_loss e s [] c m rest behind h is = ap (λ f. e.escape s (e.set s c) ++ form_to_loss f (to_loss e (e.set s c) rest behind)) is ∙ append-nil (e.escape s (e.set s c))
at_loss e s (d ∷ before) c m rest behind h is =
    let escape : List ℕ = e.escape s (e.set s d) in
    let own : List ℕ = bytes_from e (e.set s d) before in
    let last : List ℕ = e.escape (last_set e (e.set s d) before) (e.set (last_set e (e.set s d) before) c) in
    rw (mapped_to_loss (e.form d) (to_loss e (e.set s d) (before ++ c ∷ rest) behind) h.0, at_loss e (e.set s d) before c m rest behind h.1 is, append_assoc escape (mapped_bytes (e.form d) ++ own) last, append_assoc (mapped_bytes (e.form d)) own last) refl

-- the first character without bytes
pub first_unmapped : (e : Coding) (t : List ℕ) → AllMapped e t ⊎ ((before : List ℕ) × (c : ℕ) × (m : ℕ) × (rest : List ℕ) × (t ≡ before ++ c ∷ rest) × AllMapped e before × (e.form c ≡ Unmapped m))
first_unmapped e [] = inl tt
first_unmapped e (c ∷ t) = first_form e c t (e.form c) refl (first_unmapped e t)
  where
    first_form : (e : Coding) (c : ℕ) (t : List ℕ) (f : Form) → e.form c ≡ f → AllMapped e t ⊎ ((before : List ℕ) × (d : ℕ) × (m : ℕ) × (rest : List ℕ) × (t ≡ before ++ d ∷ rest) × AllMapped e before × (e.form d ≡ Unmapped m))
        → AllMapped e (c ∷ t) ⊎ ((before : List ℕ) × (d : ℕ) × (m : ℕ) × (rest : List ℕ) × (c ∷ t ≡ before ++ d ∷ rest) × AllMapped e before × (e.form d ≡ Unmapped m))
    first_form e c t (Unmapped m) is more = inr ([], c, m, t, refl, tt, is)
    first_form e c t (Mapped bs) is (inl all) = inl (subst IsMapped (sym is) tt, all)
    first_form e c t (Mapped bs) is (inr k) = inr (c ∷ k.0, k.1, k.2, k.3, ap (λ l. c ∷ l) k.4, (subst IsMapped (sym is) tt, k.5), k.6)

-- What a stop writes.
pub output_at_loss : (j : Job) (x before : List ℕ) (c m : ℕ) (rest : List ℕ) → j.policy ≡ Policy.Stop → input_text j x ≡ before ++ c ∷ rest → AllMapped (target_of j) before → (target_of j).form c ≡ Unmapped m
    → output_of j x ≡ bytes_from (target_of j) Ascii before ++ (target_of j).escape (last_set (target_of j) Ascii before) ((target_of j).set (last_set (target_of j) Ascii before) c)
output_at_loss j x before c m rest stops is mapped none =
    let e = target_of j in
    ap (λ (p : Policy). output_bytes (tagged (written_under p (whole_trace j x)))) stops
    ∙ output_bytes-tagged (up_to_loss (whole_trace j x))
    ∙ cut_trace (reference_form j.policy) e Ascii 0 0 (input_pieces j x)
    ∙ ap (λ t. to_loss e Ascii t (e.escape (last_set e Ascii (input_text j x)) Ascii)) is
    ∙ at_loss e Ascii before c m rest (e.escape (last_set e Ascii (input_text j x)) Ascii) mapped none

-- If something is lost, neither the whole output reads back as the text, in any target, nor what a stop leaves of it.
module _ (j : Job) (x : List ℕ) (v : IsValidJob j) where
  text_scalars : all_scalars (input_text j x) ≡ true
  text_scalars = marked_scalars j.tables.now j.mark j.from x v.tables

  pub mapped_where_read : ReadsAs (output_pieces j) (output (reference_form j.policy) (target_of j) (input_text j x)) (input_text j x) → AllMapped (target_of j) (input_text j x)
  mapped_where_read reads = elim (first_unmapped (target_of j) (input_text j x)) [
    | inl all ↦ all
    | inr k ↦
        let e = target_of j in
        let s = e.set (last_set e Ascii k.0) k.1 in
        let w = bytes_from e Ascii k.0 ++ e.escape (last_set e Ascii k.0) s in
        let coding = coding_laws j.tables.now j.to in
        let start : (y : List ℕ) → output_pieces j y ≡ set_pieces_of j.tables.now j.to Ascii y = λ y. ap (λ P. P y) (sym (set_pieces_at_start j.tables.now j.to)) in
        absurd (lost_never_reads e (set_pieces_of j.tables.now j.to) (output_pieces j) false k.2 Ascii (input_text j x) w s k.3 (record {
          need = need_of j.to;
          coding = coding;
          steps = reads_by_step j.tables.now j.to v.tables;
          scalars = text_scalars;
          encodes = record { before = k.0; next = k.1 ∷ k.3; split = k.4; mapped = k.5; bytes = refl; leaves = (k.1, refl, k.6, refl) };
          along = begins_along e (set_pieces_of j.tables.now j.to) coding (output_pieces j) Ascii (input_text j x) start;
        }) (reference_form j.policy) [] (λ no. refl) (rw (append-nil (input_text j x)) reads))
  ]

  -- an escape after the text before the character is no text
  cut_never_reads : (before : List ℕ) (c m : ℕ) (rest : List ℕ) → input_text j x ≡ before ++ c ∷ rest → AllMapped (target_of j) before
      → ¬ (ReadsAs (output_pieces j) (bytes_from (target_of j) Ascii before ++ (target_of j).escape (last_set (target_of j) Ascii before) ((target_of j).set (last_set (target_of j) Ascii before) c)) (input_text j x))
  cut_never_reads before c m rest is mapped reads =
      let e = target_of j in
      let P = set_pieces_of j.tables.now j.to in
      let l = last_set e Ascii before in
      let escape : List ℕ = e.escape l (e.set l c) in
      let steps = reads_by_step j.tables.now j.to v.tables in
      let scalars = (scalars_parts before (c ∷ rest) (subst (λ t. all_scalars t ≡ true) is text_scalars)).0 in
      let read : ReadsAs (P Ascii) (bytes_from e Ascii before ++ escape) (before ++ c ∷ rest) =
      subst (λ (Q : List ℕ → List Piece). ReadsAs Q (bytes_from e Ascii before ++ escape) (before ++ c ∷ rest)) (sym (set_pieces_at_start j.tables.now j.to)) (subst (ReadsAs (output_pieces j) (bytes_from e Ascii before ++ escape)) is reads) in
      elim (open_reads Decimal e P steps.steps Ascii before scalars) [
        | inl follows ↦
            let behind = (reads_on (P Ascii) (P l) (open_from Decimal e Ascii before) before follows.taken follows.rest follows.well_formed follows.same escape (c ∷ rest)).0
            (subst (λ w. ReadsAs (P Ascii) (w ++ escape) (before ++ c ∷ rest)) (sym (mapped_open Decimal e Ascii before mapped)) read) in
            let never : [] ≡ c ∷ rest = sym (steps.ignored l (e.set l c)).same ∙ behind.same in
            absurd (cc)
        | inr broken ↦
            broken_never_reads_on (P Ascii) (open_from Decimal e Ascii before) before broken escape (c ∷ rest) (subst (λ w. ReadsAs (P Ascii) (w ++ escape) (before ++ c ∷ rest)) (sym (mapped_open Decimal e Ascii before mapped)) read)
      ]

  mapped_under : (p : Policy) → j.policy ≡ p → Faithful j x → AllMapped (target_of j) (input_text j x)
  mapped_under Policy.Stop stops f = elim (first_unmapped (target_of j) (input_text j x)) [
    | inl all ↦ all
    | inr k ↦ absurd (cut_never_reads k.0 k.1 k.2 k.3 k.4 k.5 (subst (λ y. ReadsAs (output_pieces j) y (input_text j x)) (output_at_loss j x k.0 k.1 k.2 k.3 stops k.4 k.5 k.6) (record { well_formed = f.target; same = f.same })))
  ]
  mapped_under _ is f = mapped_where_read (subst (λ y. ReadsAs (output_pieces j) y (input_text j x)) (output_where_spared j x (λ stops. absurd (cc (sym is ∙ stops)))) (record { well_formed = f.target; same = f.same }))

  pub mapped_where_faithful : Faithful j x → AllMapped (target_of j) (input_text j x)
  mapped_where_faithful f = mapped_under j.policy refl f

  pub output_where_mapped : AllMapped (target_of j) (input_text j x) → output_of j x ≡ output (reference_form j.policy) (target_of j) (input_text j x)
  output_where_mapped h = output_where_spared j x (mapped_through j x h)
