-- What the calls of a converter make together.
use Rattle.std.proofs.Common.{◌≡◌, ◌≢◌, ℕ, ◌+◌, ◌<◌, ◌⊎◌, inl, inr, Bool, true, false, List, [], ◌∷◌, ◌++◌, length, map, take, refl, sym, ◌∙◌, ap, subst, arith, append_assoc, append-nil, length-append, length-drop, length-take, drop, IsFalse, ◌-◌, ◌≤◌, ◌↔◌, Option, Some, None}
use Rattle.std.proofs.lemmas.Grind.{flat_map-append}
use Rattle.std.proofs.lemmas.List.{drop-drop, length-take-le}
use Rattle.encoding_mem.specs.Coding.{reference_bytes}
use Rattle.encoding_mem.specs.Items.{Byte, Item, LostAt, MalformedAt}
use Rattle.encoding_mem.specs.declared.codec.form.EscapeState.TheVariants.{Ascii}
use Rattle.encoding_mem.specs.declared.codec.reference.Reference.{Reference}
use Rattle.recode_log.specs.Line.{line_bytes}
use Rattle.recode_log.specs.declared.line.LogLine.{LogLine}
use Rattle.recode_log.specs.declared.line.LogLine.TheVariants.{Bad, Lost}
use Rattle.recode.specs.Converter.{AllIsConverted, ConverterView, ConvertsPart, ConvertedSoFar, IsReportButCalls, found_items, owes, saved_job}
use Rattle.recode.specs.Job.{RunsThrough, input_pieces, input_text, lost_log_lines, target_of, trace, whole_trace}
use Rattle.recode.specs.Policy.{reference_form, up_to_loss, written_under}
use Rattle.recode.specs.TaggedByte.{TaggedByte, log_bytes, output_bytes, tagged, tagged_item}
use Rattle.recode.specs.WrittenItems.{IsSpared, StopsAtLoss, lost_line_count}
use Rattle.recode.specs.declared.converter.ConverterResult.{ConverterResult}
use Rattle.recode.specs.declared.converter.ConverterResult.TheVariants.{Found, InputEmpty, OutputFull}
use Rattle.recode.specs.declared.converter.saved_converter.SavedJob.{SavedJob}
use Rattle.recode.specs.declared.job.Job.{Job}
use Rattle.recode.specs.declared.job.Policy.{Policy}
use Rattle.recode.specs.declared.job.Report.{Report as RunReport}
use Rattle.recode.specs.laws.Calls.{owed_on, part_none, taken_characters, taken_first, taken_on, taken_report, taken_whole}
use Rattle.recode.specs.laws.Items.{log_bytes-append, log_bytes-bytes, log_bytes-lines, lost_line_count-append, lost_line_count-bytes, lost_line_count-trace, output_bytes-append, output_bytes-bytes, output_bytes-lines, spared_append, spared_bytes, tagged-append, written_spared, written_whole}
use Rattle.jillapun_c.proofs.ConverterTurnLemmas.{length_none, owes_split}
use Rattle.jillapun_c.specs.ConverterRuns.{Carries, HasConverted, IsFirstPartOf, IsOverWith, JoinsToCalls, IsAtStage, EndsAtLoss, WritesUnder}
use Rattle.jillapun_c.specs.ConverterTurns.{CanTurn, TurnEnds, MakesTurn, found_log, found_reference, stage_at}
use Rattle.jillapun_c.specs.Conversions.{ConvertsInMemory, IsMadeOf, IsToldReport, IsToldStop, IsVerdict}
use Rattle.jillapun_c.specs.Converters.{StepView, ConvertsAll, HandsOut, HoldsNothing, IsNewConverter, TellsStage, TellsStatus, held_losses, listed}
use Rattle.jillapun_c.specs.Losses.{log_of_losses, loss_bytes}
use Rattle.jillapun_c.specs.Room.{FillsRoom, IsFilled}
use Rattle.jillapun_c.specs.declared.converter.Stage.{Stage}
use Rattle.jillapun_c.specs.declared.converter.Stage.TheVariants.{Open, Stopped, TooLong}
use Rattle.jillapun_c.specs.declared.converter.progress.ConverterProgress.{ConverterProgress}
use Rattle.jillapun_c.specs.declared.converter.progress.TheConstants.ConverterProgress.{NONE}
use Rattle.jillapun_c.specs.declared.losses.Loss.{Loss}
use Rattle.jillapun_c.specs.declared.report.Report.{Report}

-- ---- what a policy writes of items

-- of items that do not stop the policy, all is written, and then what is written of the items after them
under_then : (p : Policy) (s t : List Item) (a b l m : List ℕ) → IsSpared p s → WritesUnder p s a l → WritesUnder p t b m → WritesUnder p (s ++ t) (a ++ b) (l ++ m)
under_then p s t a b l m spared x y = record {
  is_output = ap (λ z. z ++ b) (x.is_output ∙ ap (λ z. output_bytes (tagged z)) own) ∙ ap (λ z. output_bytes (tagged s) ++ z) y.is_output
      ∙ sym (ap output_bytes all ∙ output_bytes-append (tagged s) (tagged (written_under p t)));
  is_log = ap (λ z. z ++ m) (x.is_log ∙ ap (λ z. log_bytes (tagged z)) own) ∙ ap (λ z. log_bytes (tagged s) ++ z) y.is_log
      ∙ sym (ap log_bytes all ∙ log_bytes-append (tagged s) (tagged (written_under p t)));
}
  where
    own : written_under p s ≡ s
    own = written_whole p s spared

    all : tagged (written_under p (s ++ t)) ≡ tagged s ++ tagged (written_under p t)
    all = ap tagged (written_spared p s t spared) ∙ tagged-append s (written_under p t)

under_bytes : (p : Policy) (bs : List ℕ) → WritesUnder p (map Byte bs) bs []
under_bytes p bs = let own = written_whole p (map Byte bs) (spared_bytes p bs) in record {
  is_output = sym (ap (λ z. output_bytes (tagged z)) own ∙ output_bytes-bytes bs);
  is_log = sym (ap (λ z. log_bytes (tagged z)) own ∙ log_bytes-bytes bs);
}

-- a line, and after it a reference or nothing
under_line : (p : Policy) (item : Item) (bs line : List ℕ) → written_under p (item ∷ map Byte bs) ≡ item ∷ map Byte bs → tagged_item item ≡ map TaggedByte.Line line
    → WritesUnder p (item ∷ map Byte bs) bs line
under_line p item bs line own is =
    let all : tagged (written_under p (item ∷ map Byte bs)) ≡ map TaggedByte.Line line ++ tagged (map Byte bs) = ap tagged own ∙ ap (λ z. z ++ tagged (map Byte bs)) is in record {
      is_output = sym (ap output_bytes all ∙ output_bytes-append (map TaggedByte.Line line) (tagged (map Byte bs)) ∙ ap (λ z. z ++ output_bytes (tagged (map Byte bs))) (output_bytes-lines line)
          ∙ output_bytes-bytes bs);
      is_log = sym (ap log_bytes all ∙ log_bytes-append (map TaggedByte.Line line) (tagged (map Byte bs)) ∙ ap (λ z. log_bytes (map TaggedByte.Line line) ++ z) (log_bytes-bytes bs)
          ∙ append-nil (log_bytes (map TaggedByte.Line line)) ∙ log_bytes-lines line);
    }

-- what is written of what a call found
under_found : (p : Policy) (r : ConverterResult) → WritesUnder p (found_items (reference_form p) r) (found_reference p r) (found_log r)
under_found p InputEmpty = under_bytes p []
under_found p OutputFull = under_bytes p []
under_found p (Found (Bad offset size)) = under_line p (MalformedAt offset size) [] (line_bytes (Bad offset size)) (written_whole p (MalformedAt offset size ∷ []) (λ stop. refl)) refl
under_found Policy.Decimal (Found (Lost index scalar)) = under_line Policy.Decimal (LostAt index scalar) (reference_bytes Reference.Decimal scalar) (line_bytes (Lost index scalar)) refl refl
under_found Policy.Hexadecimal (Found (Lost index scalar)) = under_line Policy.Hexadecimal (LostAt index scalar) (reference_bytes Reference.Hexadecimal scalar) (line_bytes (Lost index scalar)) refl refl
under_found Policy.Stop (Found (Lost index scalar)) =
    let line : WritesUnder Policy.Stop (LostAt index scalar ∷ []) [] (line_bytes (Lost index scalar)) = under_line Policy.Stop (LostAt index scalar) [] (line_bytes (Lost index scalar)) refl refl in
    record { is_output = line.is_output; is_log = line.is_log }

-- ---- before the first turn

pub begun : (j : Job) (c : StepView) → IsNewConverter c j → HasConverted j false [] [] [] [] c
begun j c new = record {
  items = [];
  taken = taken_first j c.stream new.fresh;
  written = let none = under_bytes j.policy [] in record { is_output = new.empty.0 ∙ none.is_output; is_log = ap log_of_losses new.empty.1 ∙ none.is_log };
  stage = subst (λ s. IsAtStage s j c.stream [] []) (sym new.stage) (λ is. refl);
  over = λ is. absurd (cc (sym is ∙ new.fresh.over));
}

-- more is handed in
pub handed_in : (j : Job) (before last : Bool) (input rest more out : List ℕ) (records : List Loss) (c : StepView) → (before ≡ true → (last ≡ true) × (more ≡ []))
    → HasConverted j before input rest out records c → HasConverted j last (input ++ more) (rest ++ more) out records c
handed_in j before last input rest more out records c end h = record {
  items = h.items;
  taken = subst (λ (x : List Item). ConvertedSoFar j last (input ++ more) (rest ++ more) x c.stream) (append-nil h.items)
      (taken_on j before last input rest more (rest ++ more) h.items [] c.stream c.stream end h.taken
      (part_none c.stream last (rest ++ more) (λ is. let e = h.taken.law.ended is in ((end e.0).0, ap (λ x. x ++ more) e.1 ∙ (end e.0).1))));
  written = h.written;
  stage = stays c.stage h.stage;
  over = λ is. let o = h.over is in record { last_ = (end o.last_).0; none = ap (λ x. x ++ more) o.none ∙ (end o.last_).1; whole = o.whole };
}
  where
    stays : (s : Stage) → IsAtStage s j c.stream input h.items → IsAtStage s j c.stream (input ++ more) h.items
    stays Open k = k
    stays (Stopped index scalar) k = k
    stays TooLong k = (k.0, record { long = omega (arith, k.1.long, length-append input more); read = k.1.read; all = k.1.all })

-- ---- what is handed out

log_of_more : (records more : List Loss) → log_of_losses (records ++ more) ≡ log_of_losses records ++ log_of_losses more
log_of_more records more = flat_map-append loss_bytes records more

-- a converter hands out what it holds
pub handed_out : (j : Job) (last : Bool) (input rest out : List ℕ) (records : List Loss) (c c' : StepView) (dst dst' : List ℕ) (losses losses' : List Loss) (p p' : ConverterProgress)
    → HandsOut c c' dst dst' losses losses' p p' → HasConverted j last input rest (out ++ take p.written dst) (records ++ take p.losses losses) c
    → HasConverted j last input rest (out ++ take p'.written dst') (records ++ take p'.losses losses') c'
handed_out j last input rest out records c c' dst dst' losses losses' p p' hands h = record {
  items = h.items;
  taken = subst (λ v. ConvertedSoFar j last input rest h.items v) view h.taken;
  written = record {
    is_output = given out (take p.written dst) (take p'.written dst') c.held c'.held hands.output.is ∙ h.written.is_output;
    is_log = ap log_of_losses (given records (take p.losses losses) (take p'.losses losses') (held_losses c) (held_losses c') hands.lost.is) ∙ h.written.is_log;
  };
  stage = subst (λ v. IsAtStage c'.stage j v input h.items) view (subst (λ s. IsAtStage s j c.stream input h.items) (sym (ap (λ (z : StepView). z.stage) hands.rest)) h.stage);
  over = λ is. subst (λ v. IsOverWith v last rest) view (h.over (ap (λ v. v.over) view ∙ is));
}
  where
    view : c.stream ≡ c'.stream
    view = ap (λ (z : StepView). z.stream) (sym hands.rest)

    given : {X : Type 0} (before old new held held' : List X) → old ++ held ≡ new ++ held' → (before ++ new) ++ held' ≡ (before ++ old) ++ held
    given before old new held held' is = append_assoc before new held' ∙ ap (λ x. before ++ x) (sym is) ∙ sym (append_assoc before old held)

-- ---- a turn

-- the items of a turn
abbrev turn_items : Policy → List ℕ → ConverterResult → List Item
turn_items p bytes r = map Byte bytes ++ found_items (reference_form p) r

-- items that end with bytes
spared_turn : (p : Policy) (items : List Item) (bytes : List ℕ) → IsSpared p items → IsSpared p (items ++ (map Byte bytes ++ []))
spared_turn p items bytes spared = spared_append p items (map Byte bytes ++ []) spared (spared_append p (map Byte bytes) [] (spared_bytes p bytes) (λ is. refl))

-- the stage after what was found
found_stands : (p : Policy) (line : LogLine) (j : Job) (v : ConverterView) (input : List ℕ) (items : List Item) (bytes : List ℕ) → j.policy ≡ p → IsSpared p items
    → IsAtStage (stage_at p line) j v input (items ++ turn_items p bytes (Found line))
found_stands p (Bad offset size) j v input items bytes is spared = λ stop.
    omega (arith, spared (sym is ∙ stop), lost_line_count-append items (map Byte bytes ++ (MalformedAt offset size ∷ [])), lost_line_count-append (map Byte bytes) (MalformedAt offset size ∷ []), lost_line_count-bytes bytes)
found_stands Policy.Decimal (Lost index scalar) j v input items bytes is spared = λ stop. absurd (cc (sym is ∙ stop))
found_stands Policy.Hexadecimal (Lost index scalar) j v input items bytes is spared = λ stop. absurd (cc (sym is ∙ stop))
found_stands Policy.Stop (Lost index scalar) j v input items bytes is spared = record {
  policy = is;
  before = items ++ map Byte bytes;
  first = omega (arith, spared refl, lost_line_count-append items (map Byte bytes), lost_line_count-bytes bytes);
  is = sym (append_assoc items (map Byte bytes) (found_items (reference_form Policy.Stop) (Found (Lost index scalar))))
      ∙ ap (λ q. (items ++ map Byte bytes) ++ found_items (reference_form q) (Found (Lost index scalar))) (sym is);
}

-- the stage after a turn
stands_after : (j : Job) (c c' : StepView) (last : Bool) (input src rest : List ℕ) (items : List Item) (bytes : List ℕ) (r : ConverterResult) → TurnEnds c c' last src rest r
    → c.stream.job.policy ≡ j.policy → c.stream.job ≡ saved_job j → IsSpared j.policy items → c.stream.state.counts.read + length src ≡ length input
    → IsAtStage c'.stage j c'.stream input (items ++ turn_items j.policy bytes r)
stands_after j c c' last input src rest items bytes InputEmpty ends policy job spared counted = elim ends [
  | inl e ↦ subst (λ s. IsAtStage s j c'.stream input (items ++ turn_items j.policy bytes InputEmpty)) (sym e.0) (spared_turn j.policy items bytes spared)
  | inr e ↦ let limit : c.stream.job.limit ≡ j.limit = ap (λ (k : SavedJob). k.limit) job in
      subst (λ s. IsAtStage s j c'.stream input (items ++ turn_items j.policy bytes InputEmpty)) (sym e.stage)
      (spared_turn j.policy items bytes spared, record { long = omega (arith, e.long, limit, counted); read = e.read ∙ limit; all = e.all })
]
stands_after j c c' last input src rest items bytes OutputFull ends policy job spared counted =
    subst (λ s. IsAtStage s j c'.stream input (items ++ turn_items j.policy bytes OutputFull)) (sym ends.0) (spared_turn j.policy items bytes spared)
stands_after j c c' last input src rest items bytes (Found line) ends policy job spared counted =
    subst (λ s. IsAtStage s j c'.stream input (items ++ turn_items j.policy bytes (Found line))) (sym (ends.0 ∙ ap (λ p. stage_at p line) policy))
    (found_stands j.policy line j c'.stream input items bytes refl spared)

over_after : (c c' : StepView) (last : Bool) (src rest : List ℕ) (r : ConverterResult) → TurnEnds c c' last src rest r → c'.stream.over ≡ true → IsOverWith c'.stream last rest
over_after c c' last src rest InputEmpty ends over = elim ends [
  | inl e ↦ record { last_ = sym e.1.over ∙ over; none = e.1.all; whole = e.1.whole (sym e.1.over ∙ over) }
  | inr e ↦ absurd (cc (sym over ∙ e.all.over))
]
over_after c c' last src rest OutputFull ends over = absurd (cc (sym over ∙ ends.1))
over_after c c' last src rest (Found line) ends over = absurd (cc (sym over ∙ ends.1))

-- what was written was handed out if nothing is held
given_all : (p : Policy) (items : List Item) (out : List ℕ) (records : List Loss) (c : StepView) → HoldsNothing c → WritesUnder p items (out ++ c.held) (log_of_losses (records ++ held_losses c))
    → WritesUnder p items out (log_of_losses records)
given_all p items out records c empty w = record {
  is_output = sym (append-nil out) ∙ ap (λ x. out ++ x) (sym empty.0) ∙ w.is_output;
  is_log = ap log_of_losses (sym (append-nil records) ∙ ap (λ x. records ++ x) (sym empty.1)) ∙ w.is_log;
}

-- a turn goes on with what was converted before it
pub turned_on : (j : Job) (last : Bool) (input src rest out : List ℕ) (records : List Loss) (c c' : StepView) (dst dst' : List ℕ) (at to : ℕ) (r : ConverterResult) → CanTurn c
    → MakesTurn c c' last src rest dst dst' at to r → HasConverted j last input src (out ++ take at dst) records c → HasConverted j last input rest (out ++ take to dst') records c'
turned_on j last input src rest out records c c' dst dst' at to r ready t h =
    let job : c.stream.job ≡ saved_job j = h.taken.law.job ∙ h.taken.fresh.job in
    let policy : c.stream.job.policy ≡ j.policy = ap (λ (s : SavedJob). s.policy) job in
    let spared : IsSpared j.policy h.items = subst (λ s. IsAtStage s j c.stream input h.items) ready.stage h.stage in
    let law : ConvertsPart c.stream c'.stream last src rest (turn_items j.policy t.bytes r) =
    subst (λ (k : SavedJob). ConvertsPart c.stream c'.stream last src rest (turn_items k.policy t.bytes r)) job t.law in
    let before : WritesUnder j.policy h.items (out ++ take at dst) (log_of_losses records) = given_all j.policy h.items (out ++ take at dst) records c ready.empty h.written in
    let turn = under_then j.policy h.items (turn_items j.policy t.bytes r) (out ++ take at dst) (t.bytes ++ found_reference j.policy r) (log_of_losses records) (found_log r) spared before
    (under_then j.policy (map Byte t.bytes) (found_items (reference_form j.policy) r) t.bytes (found_reference j.policy r) [] (found_log r) (spared_bytes j.policy t.bytes) (under_bytes j.policy t.bytes) (under_found j.policy r)) in
    let all : ConvertedSoFar j last (input ++ []) rest (h.items ++ turn_items j.policy t.bytes r) c'.stream =
    taken_on j last last input src [] rest h.items (turn_items j.policy t.bytes r) c.stream c'.stream (λ is. (is, refl)) h.taken
    (subst (λ (x : List ℕ). ConvertsPart c.stream c'.stream last x rest (turn_items j.policy t.bytes r)) (sym (append-nil src)) law) in
    record {
      items = h.items ++ turn_items j.policy t.bytes r;
      taken = subst (λ (x : List ℕ). ConvertedSoFar j last x rest (h.items ++ turn_items j.policy t.bytes r) c'.stream) (append-nil input) all;
      written = record {
        is_output = append_assoc out (take to dst') c'.held ∙ ap (λ x. out ++ x) (t.written ∙ ap (λ x. take at dst ++ (t.bytes ++ found_reference x r)) policy)
            ∙ sym (append_assoc out (take at dst) (t.bytes ++ found_reference j.policy r)) ∙ turn.is_output;
        is_log = log_of_more records (held_losses c') ∙ ap (λ x. log_of_losses records ++ x) t.logged ∙ turn.is_log;
      };
      stage = stands_after j c c' last input src rest h.items t.bytes r t.ends policy job spared (omega (arith, h.taken.law.counted, h.taken.fresh.read));
      over = over_after c c' last src rest r t.ends;
    }

-- ---- what was handed out, of the whole

-- what is written of a front is the first part of what is written of all
cut_front : (s t : List Item) → (more : List Item) × (up_to_loss (s ++ t) ≡ up_to_loss s ++ more)
cut_front [] t = (up_to_loss t, refl)
cut_front (Byte b ∷ s) t = let k = cut_front s t in (k.0, ap (λ l. Byte b ∷ l) k.1)
cut_front (MalformedAt o n ∷ s) t = let k = cut_front s t in (k.0, ap (λ l. MalformedAt o n ∷ l) k.1)
cut_front (LostAt i u ∷ s) t = ([], refl)

under_front : (p : Policy) (s t : List Item) → (more : List Item) × (written_under p (s ++ t) ≡ written_under p s ++ more)
under_front Policy.Decimal s t = (t, refl)
under_front Policy.Hexadecimal s t = (t, refl)
under_front Policy.Stop s t = cut_front s t

pub first_part : (j : Job) (last : Bool) (input rest out : List ℕ) (records : List Loss) (c : StepView) → HasConverted j last input rest out records c → IsFirstPartOf j last input out records
first_part j last input rest out records c h = record {
  first_bytes = λ r none. let m = more r none in (
    c.held ++ output_bytes (tagged m.0),
    ap output_bytes m.1 ∙ output_bytes-append (tagged (written_under j.policy h.items)) (tagged m.0) ∙ ap (λ x. x ++ output_bytes (tagged m.0)) (sym h.written.is_output)
        ∙ append_assoc out c.held (output_bytes (tagged m.0)),
  );
  first_records = λ r none. let m = more r none in (
    log_of_losses (held_losses c) ++ log_bytes (tagged m.0),
    ap log_bytes m.1 ∙ log_bytes-append (tagged (written_under j.policy h.items)) (tagged m.0) ∙ ap (λ x. x ++ log_bytes (tagged m.0)) (sym h.written.is_log ∙ log_of_more records (held_losses c))
        ∙ append_assoc (log_of_losses records) (log_of_losses (held_losses c)) (log_bytes (tagged m.0)),
  );
}
  where
    more : (r : List ℕ) → (last ≡ true → r ≡ []) → (items : List Item) × (tagged (trace j (input ++ r)) ≡ tagged (written_under j.policy h.items) ++ tagged items)
    more r none = let front = under_front j.policy h.items (owes c.stream (rest ++ r)) in (
      front.0,
      ap (λ x. tagged (written_under j.policy x)) (owed_on j last input rest h.items c.stream h.taken r none) ∙ ap tagged front.1 ∙ tagged-append (written_under j.policy h.items) front.0,
    )

-- ---- the end

-- of a status by which nothing was converted nothing is said
nothing_said : (j : Job) (x y : List ℕ) (records : List Loss) (report : Report) (status : ℕ) → 1 < status → status ≢ 12 → ConvertsInMemory j x y records report status
nothing_said j x y records report status big other = record {
  made = λ d. absurd (elim d [ inl v ↦ small v | inr e ↦ other e ]);
  through = λ v. absurd (small v);
  counts = λ v. absurd (small v);
  faithful = λ e. absurd (omega (arith, e, big));
  lossy = λ e. absurd (omega (arith, e, big));
  stopped = λ e. absurd (other e);
}
  where
    small : IsVerdict status → ⊥
    small v = elim v [ inl e ↦ omega (arith, e, big) | inr e ↦ omega (arith, e, big) ]

told_ok : (b : Bool) (status : ℕ) → (b ≡ false → status ≡ 1) → status ≡ 0 → b ≡ true
told_ok true status lossy ok = refl
told_ok false status lossy ok = absurd (omega (arith, lossy refl, ok))

told_lossy : (b : Bool) (status : ℕ) → (b ≡ true → status ≡ 0) → status ≡ 1 → b ≡ true → ⊥
told_lossy b status ok lossy is = omega (arith, ok is, lossy)

never_stopped : (b : Bool) (status : ℕ) → (b ≡ true → status ≡ 0) → (b ≡ false → status ≡ 1) → status ≡ 12 → ⊥
never_stopped true status ok lossy is = omega (arith, ok refl, is)
never_stopped false status ok lossy is = omega (arith, lossy refl, is)

-- all was converted
all_told : (j : Job) (x y : List ℕ) (records : List Loss) (p : RunReport) (characters : ℕ) (report : Report) (status : ℕ) → IsMadeOf j x y records → RunsThrough j x → IsReportButCalls j x p
    → characters ≡ length (input_text j x) → IsToldReport p characters report status → ConvertsInMemory j x y records report status
all_told j x y records p characters report status made through r counted t = record {
  made = λ d. made;
  through = λ v. through;
  counts = λ v. record { read = t.read ∙ r.read; bad = t.bad ∙ r.bad; lost = t.lost ∙ r.lost; characters = t.characters_ ∙ counted; no_character = t.no_character };
  faithful = λ ok. r.faithful.0 (told_ok p.faithful status t.lossy ok);
  lossy = λ lossy f. told_lossy p.faithful status t.faithful lossy (r.faithful.1 f);
  stopped = λ e. absurd (never_stopped p.faithful status t.faithful t.lossy e);
}

-- what is known of a policy that stops: the character is the first that is lost
abbrev pub FirstLaw : Type 0
FirstLaw = (j : Job) (x : List ℕ) (index scalar : ℕ) (taken : List TaggedByte) → StopsAtLoss index scalar taken (trace j x)
    → take 1 (lost_log_lines (target_of j) 0 (input_text j x)) ≡ Lost index scalar ∷ []

-- what a policy writes that stops at a character
stop_written : (p : Policy) (before ref more : List Item) (index scalar : ℕ) → p ≡ Policy.Stop → lost_line_count before ≡ 0
    → written_under p ((before ++ (LostAt index scalar ∷ ref)) ++ more) ≡ before ++ (LostAt index scalar ∷ [])
stop_written p before ref more index scalar is first = ap (λ q. written_under q ((before ++ (LostAt index scalar ∷ ref)) ++ more)) is
    ∙ ap up_to_loss (append_assoc before (LostAt index scalar ∷ ref) more) ∙ written_spared Policy.Stop before (LostAt index scalar ∷ (ref ++ more)) (λ _. first)

no_verdict : (status : ℕ) → status ≡ 12 → IsVerdict status → ⊥
no_verdict status is v = elim v [ inl e ↦ omega (arith, e, is) | inr e ↦ omega (arith, e, is) ]

-- the policy stopped it
stop_told : FirstLaw → (j : Job) (last : Bool) (x rest y : List ℕ) (records : List Loss) (v : ConverterView) (items : List Item) (index scalar : ℕ) (report : Report) (status : ℕ)
    → ConvertedSoFar j last x rest items v → EndsAtLoss j.policy index scalar items → WritesUnder j.policy items y (log_of_losses records)
    → IsToldStop index scalar report status → ConvertsInMemory j x y records report status
stop_told law j last x rest y records v items index scalar report status taken stops w told =
    let ref : List Item = map Byte (reference_bytes (reference_form j.policy) scalar) in
    let own : written_under j.policy items ≡ stops.before ++ (LostAt index scalar ∷ []) =
    ap (written_under j.policy) (stops.is ∙ sym (append-nil (stops.before ++ (LostAt index scalar ∷ ref)))) ∙ stop_written j.policy stops.before ref [] index scalar stops.policy stops.first in
    let all : trace j x ≡ stops.before ++ (LostAt index scalar ∷ []) =
    ap (λ z. written_under j.policy (whole_trace j z)) (sym (append-nil x)) ∙ ap (written_under j.policy) (owed_on j last x rest items v taken [] (λ _. refl))
    ∙ ap (λ z. written_under j.policy (z ++ owes v (rest ++ []))) stops.is ∙ stop_written j.policy stops.before ref (owes v (rest ++ [])) index scalar stops.policy stops.first in
    record {
      made = λ d. record { is_output = w.is_output ∙ ap (λ z. output_bytes (tagged z)) (own ∙ sym all); is_log = w.is_log ∙ ap (λ z. log_bytes (tagged z)) (own ∙ sym all) };
      through = λ v. absurd (no_verdict status told.stopped v);
      counts = λ v. absurd (no_verdict status told.stopped v);
      faithful = λ e. absurd (omega (arith, e, told.stopped));
      lossy = λ e. absurd (omega (arith, e, told.stopped));
      stopped = λ e. record {
        policy = stops.policy;
        first = law j x report.index report.scalar (tagged (trace j x)) (record {
          items = stops.before;
          last = all ∙ ap (λ i. stops.before ++ (LostAt i scalar ∷ [])) (sym told.index_) ∙ ap (λ u. stops.before ++ (LostAt report.index u ∷ [])) (sym told.scalar_);
          whole = refl;
        });
        no_counts = told.no_counts;
      };
    }

over_or_not : (b : Bool) → (b ≡ true) ⊎ (b ≡ false)
over_or_not true = inl refl
over_or_not false = inr refl

-- what is reported of a conversion that was handed out, by its stage
stage_told : FirstLaw → (s : Stage) (j : Job) (last : Bool) (x rest y : List ℕ) (records : List Loss) (v : ConverterView) (items : List Item) (report : Report) (status : ℕ)
    → ConvertedSoFar j last x rest items v → WritesUnder j.policy items y (log_of_losses records) → IsAtStage s j v x items
    → (v.over ≡ true → IsOverWith v last rest) → TellsStage s v report status → ConvertsInMemory j x y records report status
stage_told law Open j last x rest y records v items report status taken w stands over tells = elim (over_or_not v.over) [
  | inl is ↦
      let o : IsOverWith v last rest = over is in
      let end : ConvertedSoFar j true x [] items v = subst (λ b. ConvertedSoFar j b x [] items v) o.last_ (subst (λ (z : List ℕ). ConvertedSoFar j last x z items v) o.none taken) in
      let all : items ≡ whole_trace j x = taken_whole j x items v end o.whole in
      let done = tells.done is in
      all_told j x y records done.0 v.state.counts.index report status
      (record { is_output = w.is_output ∙ ap (λ z. output_bytes (tagged (written_under j.policy z))) all; is_log = w.is_log ∙ ap (λ z. log_bytes (tagged (written_under j.policy z))) all })
      (λ stop. omega (arith, stands stop, ap lost_line_count all, lost_line_count-trace (reference_form j.policy) (target_of j) Ascii 0 0 (input_pieces j x)))
      (taken_report j x items v done.0 end o.whole done.1) (taken_characters j x items v end o.whole) done.2
  | inr is ↦ nothing_said j x y records report status (omega (arith, (tells.open_ is).1)) (λ e. omega (arith, e, (tells.open_ is).1))
]
stage_told law (Stopped index scalar) j last x rest y records v items report status taken w stands over tells =
    stop_told law j last x rest y records v items index scalar report status taken stands w tells
stage_told law TooLong j last x rest y records v items report status taken w stands over tells =
    nothing_said j x y records report status (omega (arith, tells.1)) (λ e. omega (arith, e, tells.1))

nil_or_not : {X : Type 0} (xs : List X) → (xs ≡ []) ⊎ (xs ≢ [])
nil_or_not [] = inl refl
nil_or_not (x ∷ xs) = inr (λ e. cc)

nothing_held : (c : StepView) → (HoldsNothing c) ⊎ (¬ (HoldsNothing c))
nothing_held c = elim (nil_or_not c.held) [
  | inr some ↦ inr (λ h. some h.0)
  | inl none ↦ elim (nil_or_not (held_losses c)) [ inr some ↦ inr (λ h. some h.1) | inl quiet ↦ inl (none, quiet) ]
]

-- what a converter tells, whether it holds something or not
pub told_so_far : FirstLaw → (j : Job) (last : Bool) (x rest y : List ℕ) (records : List Loss) (c : StepView) (report : Report) (status : ℕ) → HasConverted j last x rest y records c
    → TellsStatus c report status → ConvertsInMemory j x y records report status
told_so_far law j last x rest y records c report status h tells = elim (nothing_held c) [
  | inl empty ↦ stage_told law c.stage j last x rest y records c.stream h.items report status h.taken
      (given_all j.policy h.items y records c empty h.written) h.stage h.over (tells.empty empty)
  | inr held ↦ nothing_said j x y records report status (omega (arith, (tells.held held).1)) (λ e. omega (arith, e, (tells.held held).1))
]

-- ---- a call of a converter

-- a call has made some turns: what it has handed out goes on from where the converter was, and what is owed has become
-- less if it wants room that was not short at the start
pub record RunsTo (c0 c : StepView) (last : Bool) (src dst0 dst : List ℕ) (losses0 losses : List Loss) (p : ConverterProgress) : Type 0 where
  pub carried : Carries c0 c last src (drop p.read src) (take p.written dst) (take p.losses losses)
  pub lists : c.stream.lists ≡ c0.stream.lists
  pub read : p.read ≤ length src
  pub output : IsFilled dst0 dst p.written
  pub lost : IsFilled losses0 losses p.losses
  pub wants_room : IsFalse p.wants_room ↔ HoldsNothing c
  pub output_full : (c.held ≡ []) ⊎ (p.written ≡ length dst)
  pub lost_full : (held_losses c ≡ []) ⊎ (p.losses ≡ length losses)
  pub ended : c.stream.ended ≡ true → (drop p.read src ≡ []) × (last ≡ true)
  pub at_most : length (owes c.stream (drop p.read src)) ≤ length (owes c0.stream src)
  pub fewer : p.wants_room ≡ true → 32 ≤ length dst → 0 < length losses → length (owes c.stream (drop p.read src)) < length (owes c0.stream src)

view_out : (c c' : StepView) (dst dst' : List ℕ) (losses losses' : List Loss) (p p' : ConverterProgress) → HandsOut c c' dst dst' losses losses' p p' → c'.stream ≡ c.stream
view_out c c' dst dst' losses losses' p p' hands = ap (λ (z : StepView). z.stream) hands.rest

-- all that is held finds room if there is enough
all_given : {X : Type 0} (held held' old new : List X) (to : ℕ) → FillsRoom held held' old new 0 to → length held ≤ length new → held' ≡ []
all_given held held' old new to f enough = elim f.full [
  | inl none ↦ none
  | inr full ↦ length_none held' (omega (arith, ap length f.is, length-append (take 0 old) held, length-append (take to new) held', length-take 0 old, length-take-le to new f.fits, enough, full))
]

listed_one : (o : Option Loss) → length (listed o) ≤ 1
listed_one None = omega arith
listed_one (Some loss) = omega arith

-- before the first turn
pub started : (c0 c : StepView) (last : Bool) (src dst0 dst : List ℕ) (losses0 losses : List Loss) (p : ConverterProgress) → (c0.stream.ended ≡ true → (src ≡ []) × (last ≡ true))
    → HandsOut c0 c dst0 dst losses0 losses NONE p → RunsTo c0 c last src dst0 dst losses0 losses p
started c0 c last src dst0 dst losses0 losses p end hands = record {
  carried = λ j input out records h. subst (λ n. HasConverted j last input (drop n src) (out ++ take p.written dst) (records ++ take p.losses losses) c) (sym hands.read)
      (handed_out j last input src out records c0 c dst0 dst losses0 losses NONE p hands
      (subst (λ (x : List ℕ). HasConverted j last input src x (records ++ take 0 losses0) c0) (sym (append-nil out))
      (subst (λ (x : List Loss). HasConverted j last input src out x c0) (sym (append-nil records)) h)));
  lists = ap (λ v. v.lists) view;
  read = omega (arith, hands.read);
  output = record { fits = hands.output.fits; after = hands.output.after };
  lost = record { fits = hands.lost.fits; after = hands.lost.after };
  wants_room = hands.wants_room;
  output_full = hands.output.full;
  lost_full = hands.lost.full;
  ended = λ is. let e = end (ap (λ v. v.ended) (sym view) ∙ is) in (ap (λ n. drop n src) hands.read ∙ e.0, e.1);
  at_most = subst (λ n. n ≤ length (owes c0.stream src)) (sym same) (omega arith);
  fewer = λ wants bytes records. absurd (cc (sym wants ∙ hands.wants_room.1 (
    all_given c0.held c.held dst0 dst p.written hands.output (omega (arith, hands.small, bytes)),
    all_given (held_losses c0) (held_losses c) losses0 losses p.losses hands.lost (omega (arith, listed_one c0.loss, records)),
  )));
}
  where
    view : c.stream ≡ c0.stream
    view = view_out c0 c dst0 dst losses0 losses NONE p hands

    same : length (owes c.stream (drop p.read src)) ≡ length (owes c0.stream src)
    same = ap (λ v. length (owes v (drop p.read src))) view ∙ ap (λ n. length (owes c0.stream (drop n src))) hands.read

drop_further : {X : Type 0} (a b : List X) (at to : ℕ) → at ≤ to → drop at a ≡ drop at b → drop to a ≡ drop to b
drop_further a b at to on is = ap (λ n. drop n a) (omega (arith, on)) ∙ sym (drop-drop (to - at) at a) ∙ ap (drop (to - at)) is ∙ drop-drop (to - at) at b ∙ ap (λ n. drop n b) (omega (arith, on))

filled_on : {X : Type 0} (old a b new held held' : List X) (at mid to : ℕ) → IsFilled old a at → at ≤ mid → drop mid b ≡ drop mid a → FillsRoom held held' b new mid to → IsFilled old new to
filled_on old a b new held held' at mid to f on behind g = record {
  fits = g.fits;
  after = g.after ∙ drop_further b a mid to g.from behind ∙ drop_further a old at to (omega (arith, on, g.from)) f.after;
}

-- what holds nothing holds nothing after it was handed out
nothing_more : {X : Type 0} (held held' old new : List X) (at to : ℕ) → FillsRoom held held' old new at to → held ≡ [] → held' ≡ []
nothing_more held held' old new at to f none = length_none held' (omega (arith, ap length f.is, ap length none, length-append (take at old) held, length-append (take to new) held', length-take at old, length-take-le to new f.fits, f.from))

-- a turn, and what it leaves is handed out
pub record Iterates (c m c' : StepView) (last : Bool) (src dst dst1 dst' : List ℕ) (losses losses' : List Loss) (read to : ℕ) (r : ConverterResult) (p p' : ConverterProgress) : Type 0 where
  pub ready : CanTurn c
  pub turns : MakesTurn c m last (drop p.read src) (drop read (drop p.read src)) dst dst1 p.written to r
  pub within : read ≤ length (drop p.read src)
  pub hands : HandsOut m c' dst1 dst' losses losses' (record p { read = p.read + read; written = to }) p'

pub smaller : (c m c' : StepView) (last : Bool) (src dst dst1 dst' : List ℕ) (losses losses' : List Loss) (read to : ℕ) (r : ConverterResult) (p p' : ConverterProgress)
    → Iterates c m c' last src dst dst1 dst' losses losses' read to r p p' → ((r ≡ InputEmpty) × HoldsNothing c') ⊎ (length (owes c'.stream (drop p'.read src)) < length (owes c.stream (drop p.read src)))
smaller c m c' last src dst dst1 dst' losses losses' read to r p p' i = elim i.turns.less [
  | inl none ↦ inl (none.0, (nothing_more m.held c'.held dst1 dst' to p'.written i.hands.output none.1.0, nothing_more (held_losses m) (held_losses c') losses losses' p.losses p'.losses i.hands.lost none.1.1))
  | inr less ↦ inr (subst (λ v. length (owes v (drop p'.read src)) < length (owes c.stream (drop p.read src))) (sym (view_out m c' dst1 dst' losses losses' _ p' i.hands))
      (subst (λ (x : List ℕ). length (owes m.stream x) < length (owes c.stream (drop p.read src))) (drop-drop read p.read src ∙ ap (λ n. drop n src) (omega (arith, i.hands.read))) less))
]

pub iterated : (c0 c m c' : StepView) (last : Bool) (src dst0 dst dst1 dst' : List ℕ) (losses0 losses losses' : List Loss) (read to : ℕ) (r : ConverterResult) (p p' : ConverterProgress)
    → RunsTo c0 c last src dst0 dst losses0 losses p → Iterates c m c' last src dst dst1 dst' losses losses' read to r p p' → RunsTo c0 c' last src dst0 dst' losses0 losses' p'
iterated c0 c m c' last src dst0 dst dst1 dst' losses0 losses losses' read to r p p' k i = record {
  carried = λ j input out records h. subst (λ (x : List ℕ). HasConverted j last input x (out ++ take p'.written dst') (records ++ take p'.losses losses') c') rest
      (handed_out j last input (drop read (drop p.read src)) out records m c' dst1 dst' losses losses' (record p { read = p.read + read; written = to }) p' i.hands
      (turned_on j last input (drop p.read src) (drop read (drop p.read src)) out (records ++ take p.losses losses) c m dst dst1 p.written to r i.ready i.turns (k.carried j input out records h)));
  lists = ap (λ v. v.lists) view ∙ i.turns.law.lists ∙ k.lists;
  read = omega (arith, i.hands.read, i.within, length-drop p.read src, k.read);
  output = filled_on dst0 dst dst1 dst' m.held c'.held p.written to p'.written k.output i.turns.from i.turns.behind i.hands.output;
  lost = filled_on losses0 losses losses losses' (held_losses m) (held_losses c') p.losses p.losses p'.losses k.lost (omega arith) refl i.hands.lost;
  wants_room = i.hands.wants_room;
  output_full = i.hands.output.full;
  lost_full = i.hands.lost.full;
  ended = λ is. let e = i.turns.law.ended (ap (λ v. v.ended) (sym view) ∙ is) in (sym rest ∙ e.1, e.0);
  at_most = elim less [ inl none ↦ no_more | inr fewer ↦ omega (arith, fewer, k.at_most) ];
  fewer = λ wants bytes records. elim less [
    | inl none ↦ absurd (cc (sym wants ∙ i.hands.wants_room.1 none.1))
    | inr fewer ↦ omega (arith, fewer, k.at_most)
  ];
}
  where
    rest : drop read (drop p.read src) ≡ drop p'.read src
    rest = drop-drop read p.read src ∙ ap (λ n. drop n src) (omega (arith, i.hands.read))

    view : c'.stream ≡ m.stream
    view = view_out m c' dst1 dst' losses losses' _ p' i.hands

    less : ((r ≡ InputEmpty) × HoldsNothing c') ⊎ (length (owes c'.stream (drop p'.read src)) < length (owes c.stream (drop p.read src)))
    less = smaller c m c' last src dst dst1 dst' losses losses' read to r p p' i

    -- a turn owes no more than it owed
    no_more : length (owes c'.stream (drop p'.read src)) ≤ length (owes c0.stream src)
    no_more =
        let split = owes_split c.stream m.stream last (drop p.read src) (drop read (drop p.read src)) _ i.turns.law in
        let same : length (owes c'.stream (drop p'.read src)) ≡ length (owes m.stream (drop read (drop p.read src))) =
        ap (λ v. length (owes v (drop p'.read src))) view ∙ ap (λ x. length (owes m.stream x)) (sym rest) in
        omega (arith, split, same, k.at_most)

-- a turn that ended since its bytes were converted leaves nothing to be converted, or there is more than the limit allows
pub all_converted : (c0 c m c' : StepView) (last : Bool) (src dst0 dst dst1 dst' : List ℕ) (losses0 losses losses' : List Loss) (read to : ℕ) (r : ConverterResult) (p p' : ConverterProgress) → r ≡ InputEmpty
    → RunsTo c0 c last src dst0 dst losses0 losses p → Iterates c m c' last src dst dst1 dst' losses losses' read to r p p' → ConvertsAll c' last (drop p'.read src) dst' losses' p'
all_converted c0 c m c' last src dst0 dst dst1 dst' losses0 losses losses' read to r p p' is k i = record {
  wants_room = i.hands.wants_room;
  output = i.hands.output.full;
  lost = i.hands.lost.full;
  all = λ empty open_ over. elim (subst (λ z. TurnEnds c m last (drop p.read src) (drop read (drop p.read src)) z) is i.turns.ends) [
    | inl e ↦
        let none : last ≡ false = sym e.1.over ∙ ap (λ v. v.over) (sym view) ∙ over in (
          none,
          subst (λ v. AllIsConverted v (drop p'.read src) false) (sym view) (subst (λ b. AllIsConverted m.stream (drop p'.read src) b) none (subst (λ (x : List ℕ). AllIsConverted m.stream x last) rest e.1)),
        )
    | inr e ↦ absurd (other (sym e.stage ∙ ap (λ (z : StepView). z.stage) (sym i.hands.rest) ∙ open_))
  ];
}
  where
    rest : drop read (drop p.read src) ≡ drop p'.read src
    rest = drop-drop read p.read src ∙ ap (λ n. drop n src) (omega (arith, i.hands.read))

    view : c'.stream ≡ m.stream
    view = view_out m c' dst1 dst' losses losses' _ p' i.hands

    other : TooLong ≡ Open → ⊥
    other same = cc

-- a turn over a slice of the rest, and what it leaves is handed out
pub iterates : (c m c' : StepView) (last : Bool) (src rest dst dst1 dst' : List ℕ) (losses losses' : List Loss) (read to : ℕ) (r : ConverterResult) (p p' : ConverterProgress) → rest ≡ drop p.read src → CanTurn c
    → MakesTurn c m last rest (drop read rest) dst dst1 p.written to r → read ≤ length rest → HandsOut m c' dst1 dst' losses losses' (record p { read = p.read + read; written = to }) p'
    → Iterates c m c' last src dst dst1 dst' losses losses' read to r p p'
iterates c m c' last src rest dst dst1 dst' losses losses' read to r p p' is ready turns within hands = record {
  ready = ready;
  turns = subst (λ (x : List ℕ). MakesTurn c m last x (drop read x) dst dst1 p.written to r) is turns;
  within = subst (λ (x : List ℕ). read ≤ length x) is within;
  hands = hands;
}

-- ---- calls together

-- that the end was told changes nothing of what was converted
told_as : (j : Job) (last : Bool) (input rest out : List ℕ) (records : List Loss) (c : StepView) (finished : Bool) → HasConverted j last input rest out records c
    → HasConverted j last input rest out records (record c { is_finished = finished })
told_as j last input rest out records c finished h = record {
  items = h.items;
  taken = h.taken;
  written = h.written;
  stage = h.stage;
  over = h.over;
}

-- what a call is to read: what it was handed, and after the end nothing but the end
pub record IsToRead (c : StepView) (src : List ℕ) (last : Bool) (src' : List ℕ) (last' : Bool) : Type 0 where
  pub ended : c.stream.ended ≡ true → (src' ≡ []) × (last' ≡ true)
  pub open_ : c.stream.ended ≡ false → (src' ≡ src) × (last' ≡ last)

-- after lawful calls that is what it was handed
reads_handed : (j : Job) (last : Bool) (input src out : List ℕ) (records : List Loss) (c : StepView) (src' : List ℕ) (last' : Bool) → HasConverted j last input src out records c
    → IsToRead c src last src' last' → (src' ≡ src) × (last' ≡ last)
reads_handed j last input src out records c src' last' h r = elim (over_or_not c.stream.ended) [
  | inl is ↦ let e = h.taken.law.ended is in let k = r.ended is in (k.0 ∙ sym e.1, k.1 ∙ sym e.0)
  | inr is ↦ r.open_ is
]

-- a call goes on with those before it
pub joins : FirstLaw → (c c' : StepView) (finished : Bool) (src src' dst : List ℕ) (last last' : Bool) (losses : List Loss) (p : ConverterProgress) (report : Report) (status : ℕ)
    → IsToRead c src last src' last'
    → Carries c c' last' src' (drop p.read src') (take p.written dst) (take p.losses losses) → TellsStatus c' report status → JoinsToCalls c (record c' { is_finished = finished }) src last dst losses p report status
joins law c c' finished src src' dst last last' losses p report status reads carries tells = λ j before input rest more out records h is end.
    let handed : HasConverted j last (input ++ more) src out records c =
    subst (λ (x : List ℕ). HasConverted j last (input ++ more) x out records c) (sym is) (handed_in j before last input rest more out records c end h) in
    let same = reads_handed j last (input ++ more) src out records c src' last' handed reads in
    let carried : Carries c c' last src (drop p.read src) (take p.written dst) (take p.losses losses) =
    subst (λ b. Carries c c' b src (drop p.read src) (take p.written dst) (take p.losses losses)) same.1
    (subst (λ (x : List ℕ). Carries c c' last' x (drop p.read x) (take p.written dst) (take p.losses losses)) same.0 carries) in
    let so_far : HasConverted j last (input ++ more) (drop p.read src) (out ++ take p.written dst) (records ++ take p.losses losses) c' = carried j (input ++ more) out records handed in
    record {
      so_far = told_as j last (input ++ more) (drop p.read src) (out ++ take p.written dst) (records ++ take p.losses losses) c' finished so_far;
      part = first_part j last (input ++ more) (drop p.read src) (out ++ take p.written dst) (records ++ take p.losses losses) c' so_far;
      told = told_so_far law j last (input ++ more) (drop p.read src) (out ++ take p.written dst) (records ++ take p.losses losses) c' report status so_far tells;
    }

-- what a call converts of what it is to read it converts of what it was handed
pub converts_handed : (c c' : StepView) (finished : Bool) (src src' dst : List ℕ) (last last' : Bool) (losses : List Loss) (p : ConverterProgress) → IsToRead c src last src' last'
    → ConvertsAll c' last' (drop p.read src') dst losses p → ConvertsAll (record c' { is_finished = finished }) last (drop p.read src) dst losses p
converts_handed c c' finished src src' dst last last' losses p reads k = record {
  wants_room = k.wants_room;
  output = k.output;
  lost = k.lost;
  all = λ empty open_ over. let a = k.all empty open_ over in elim (over_or_not c.stream.ended) [
    | inl is ↦ absurd (cc (sym a.0 ∙ (reads.ended is).1))
    | inr is ↦ let r = reads.open_ is in (sym r.1 ∙ a.0, subst (λ (x : List ℕ). AllIsConverted c'.stream (drop p.read x) false) r.0 a.1)
  ];
}

-- and reads no more than that
pub reads_within : (c : StepView) (src src' : List ℕ) (last last' : Bool) (read : ℕ) → IsToRead c src last src' last' → read ≤ length src' → read ≤ length src
reads_within c src src' last last' read reads within = elim (over_or_not c.stream.ended) [
  | inl is ↦ omega (arith, within, ap length (reads.ended is).0)
  | inr is ↦ omega (arith, within, ap length (reads.open_ is).0)
]
