-- What calls of devices passed in a row, and how what was written and what is still to be written compose. What the
-- trace of a whole input is made of. If the log is empty, and if a stop cut it short.
use Rattle.std.proofs.Common.{◌≡◌, List, [], ◌∷◌, ◌++◌, ℕ, refl, sym, ap, ◌∙◌, append_assoc, append-nil, arith, ◌<◌, ◌+◌, Option, Some, None, Result, Ok, Err, IfErr, IsErrAnd, Bool, true, map, take, drop, subst, take-append-drop, length}
use Rattle.std.specs.List.{concat, flat_map}
use Rattle.std.proofs.lemmas.List.Folds.{concat-append}
use Rattle.recode.specs.Devices.{Gave, GaveThen, GaveToEnd, Grew, Written, Wrote, then_these}
use Rattle.std.proofs.lemmas.List.{map-append}
use Rattle.encoding_mem.specs.declared.codec.reference.Reference.{Reference}
use Rattle.encoding_mem.specs.Items.{Item, Byte, MalformedAt, LostAt, item_bytes, open_items, trace_from}
use Rattle.recode_log.specs.Line.{line_bytes}
use Rattle.recode.specs.laws.Items.{output_bytes-append, log_bytes-append, output_bytes-lines, tagged-append, lost_line_count-append, written_spared, spared_nil, spared_bytes}
use Rattle.recode.specs.laws.Parts.{log_bytes-noted, noted-cut, noted-trace}
use Rattle.recode.specs.TaggedByte.{TaggedByte, Line, Out, output_bytes, log_bytes, tagged}
use Rattle.recode.specs.Parts.{noted}
use Rattle.recode.specs.Policy.{up_to_loss, written_under, reference_form}
use Rattle.recode.specs.WrittenItems.{WritesPrefix, WritesItemsFor, WritesPrefixFor, IsLeft, IsSpared, bad_line_count, lost_line_count, StopsAtLoss}
use Rattle.recode.proofs.LossLemmas.{stops_first, stops_policy}
use Rattle.recode.specs.declared.job.Fault.{Fault}
use Rattle.recode.specs.declared.job.Fault.TheVariants.{Write, Log}
use Rattle.recode.specs.declared.job.Policy.{Policy}
use Rattle.encoding_mem.specs.Coding.{Coding, open_from, whole_from, last_set}
use Rattle.encoding_mem.specs.declared.codec.form.EscapeState.{EscapeState}
use Rattle.encoding_mem.specs.declared.codec.form.EscapeState.TheVariants.{Ascii}
use Rattle.recode.specs.declared.counts.Counts.{Counts}
use Rattle.encoding_mem.specs.Piece.{Piece, well_formed, malformed, text}
use Rattle.encoding_mem.specs.laws.EncoderCalls.{item_bytes-append, item_bytes-bytes, item_bytes-open_items, last_set-append, open_from-append}
use Rattle.encoding_mem.specs.declared.codec.form.Form.{Form}
use Rattle.encoding_mem.specs.declared.codec.form.Form.TheVariants.{Mapped, Unmapped}
use Rattle.recode_log.specs.declared.line.LogLine.{LogLine}
use Rattle.recode.specs.Job.{form_lines, lost_log_lines, log_lines, input_pieces, input_text, log_of, target_of, trace, lines_up_to_loss, whole_trace}
use Rattle.recode_log.specs.declared.line.LogLine.TheVariants.{Bad, Lost}
use Rattle.recode.specs.declared.job.Job.{Job}

pub Grew-nil : (a : List ℕ) → Grew a a []
Grew-nil a = sym (append-nil a)

pub Grew-trans : (a b c s t : List ℕ) → Grew a b s → Grew b c t → Grew a c (s ++ t)
Grew-trans a b c s t p q = q ∙ ap (λ l. l ++ t) p ∙ append_assoc a s t

pub Gave-nil : (a : List (List ℕ)) → Gave a a []
Gave-nil a = ([], sym (append-nil a), refl)

pub Gave-trans : (a b c : List (List ℕ)) (s t : List ℕ) → Gave a b s → Gave b c t → Gave a c (s ++ t)
Gave-trans a b c s t p q = (p.0 ++ q.0, q.1 ∙ ap (λ l. l ++ q.0) p.1 ∙ append_assoc a p.0 q.0, concat-append p.0 q.0 ∙ ap (λ l. l ++ concat q.0) p.2 ∙ ap (λ l. s ++ l) q.2)

-- one call more
pub Gave-one : (a b : List (List ℕ)) (s : List ℕ) → b ≡ a ++ (s ∷ []) → Gave a b s
Gave-one a b s e = (s ∷ [], e, append-nil s)

-- that gave none
pub GaveToEnd-one : (a b : List (List ℕ)) (s : List ℕ) → b ≡ a ++ (s ∷ []) → s ≡ [] → GaveToEnd a b s
GaveToEnd-one a b s e none = ([], e ∙ ap (λ x. a ++ (x ∷ [])) none, sym none)

pub GaveThen-after : (a b c : List (List ℕ)) (s t last : List ℕ) → Gave a b s → GaveThen b c t last → GaveThen a c (s ++ t) last
GaveThen-after a b c s t last p q = (
  p.0 ++ q.0,
  q.1 ∙ ap (λ l. l ++ (q.0 ++ (last ∷ []))) p.1 ∙ append_assoc a p.0 (q.0 ++ (last ∷ [])) ∙ ap (λ l. a ++ l) (sym (append_assoc p.0 q.0 (last ∷ []))),
  concat-append p.0 q.0 ∙ ap (λ l. l ++ concat q.0) p.2 ∙ ap (λ l. s ++ l) q.2,
)

-- all of it is what was given
pub GaveToEnd-is : (a b : List (List ℕ)) (s : List ℕ) → GaveToEnd a b s → Gave a b s
GaveToEnd-is a b s p = (p.0 ++ ([] ∷ []), p.1, concat-append p.0 ([] ∷ []) ∙ append-nil (concat p.0) ∙ p.2)

-- a list that may not be known, with more at its end
then-nil : {X : Type 0} (o : Option (List X)) → then_these o [] ≡ o
then-nil None = refl
then-nil (Some xs) = ap (λ l. Some l) (append-nil xs)

then-then : {X : Type 0} (o : Option (List X)) (s t : List X) → then_these (then_these o s) t ≡ then_these o (s ++ t)
then-then None s t = refl
then-then (Some xs) s t = ap (λ l. Some l) (append_assoc xs s t)

-- a list that is known
pub known_same : {X : Type 0} (x y : List X) → Some x ≡ Some y → x ≡ y
known_same x y is = cc

pub Wrote-nil : (w : Written) → Wrote w w []
Wrote-nil w = record { output = Grew-nil w.output; lined = Grew-nil w.log; ordered = sym (then-nil w.order) }

pub Wrote-trans : (w w' w'' : Written) (s t : List TaggedByte) → Wrote w w' s → Wrote w' w'' t → Wrote w w'' (s ++ t)
Wrote-trans w w' w'' s t p q = record {
  output = subst (Grew w.output w''.output) (sym (output_bytes-append s t)) (Grew-trans w.output w'.output w''.output _ _ p.output q.output);
  lined = subst (Grew w.log w''.log) (sym (log_bytes-append s t)) (Grew-trans w.log w'.log w''.log _ _ p.lined q.lined);
  ordered = q.ordered ∙ ap (λ o. then_these o t) p.ordered ∙ then-then w.order s t;
}

-- bytes of the output, as tagged bytes
pub tagged_bytes : (bs : List ℕ) → tagged (map Byte bs) ≡ map Out bs
tagged_bytes [] = refl
tagged_bytes (b ∷ bs) = ap (λ t. Out b ∷ t) (tagged_bytes bs)

pub wrote_bytes : (w w' : Written) (bs : List ℕ) → Wrote w w' (map Out bs) → Wrote w w' (tagged (map Byte bs))
wrote_bytes w w' bs p = subst (Wrote w w') (sym (tagged_bytes bs)) p

-- what is written of a front is a prefix of what is written of the whole, and is that if it stops
cut_front : (s t : List Item) → (rest : List Item) × (up_to_loss (s ++ t) ≡ up_to_loss s ++ rest)
cut_front [] t = (up_to_loss t, refl)
cut_front (LostAt i c ∷ s) t = ([], refl)
cut_front (x ∷ s) t = let k = cut_front s t in (k.0, ap (λ l. x ∷ l) k.1)

pub written_front : (p : Policy) (s t : List Item) → (rest : List Item) × (written_under p (s ++ t) ≡ written_under p s ++ rest)
written_front Policy.Stop s t = cut_front s t
written_front _ s t = (t, refl)

cut_once : (s t : List Item) → 0 < lost_line_count (up_to_loss s) → up_to_loss (s ++ t) ≡ up_to_loss s
cut_once [] t h = absurd (omega (arith, h))
cut_once (LostAt i c ∷ s) t h = refl
cut_once (x ∷ s) t h = ap (λ l. x ∷ l) (cut_once s t h)

written_once : (p : Policy) (s t : List Item) → p ≡ Policy.Stop → 0 < lost_line_count (written_under p s) → written_under p (s ++ t) ≡ written_under p s
written_once Policy.Stop s t is h = cut_once s t h
written_once _ s t is h = absurd (cc)

-- What a fault leaves, after what was written, and of more.
pub left_behind : (p : Policy) (f : Fault) (s : List Item) (taken : List TaggedByte) (a b : List Item) → IsSpared p s → a ≡ s ++ b → IsLeft p f taken b → IsLeft p f (tagged s ++ taken) a
left_behind p f s taken a b h e k =
    let is : written_under p a ≡ s ++ written_under p b = ap (written_under p) e ∙ written_spared p s b h in
    record {
      prefix = (k.prefix.0, ap tagged is ∙ tagged-append s (written_under p b) ∙ ap (λ l. tagged s ++ l) k.prefix.1 ∙ sym (append_assoc (tagged s) taken k.prefix.0));
      policy = k.policy;
      stopped = λ i c lost.
          let stop = k.stopped i c lost in
          rw is (record {
            items = s ++ stop.items;
            last = ap (λ l. s ++ l) stop.last ∙ sym (append_assoc s stop.items (LostAt i c ∷ []));
            whole = ap (λ l. tagged s ++ l) stop.whole ∙ sym (tagged-append s (written_under p b));
          });
    }

left_front : (p : Policy) (f : Fault) (taken : List TaggedByte) (total rest a : List Item) → a ≡ total ++ rest → IsLeft p f taken total → IsLeft p f taken a
left_front p f taken total rest a e k =
    let more = written_front p total rest in
    let is : written_under p a ≡ written_under p (total ++ rest) = ap (written_under p) e in
    record {
      prefix = (k.prefix.0 ++ tagged more.0, ap tagged (is ∙ more.1) ∙ tagged-append (written_under p total) more.0 ∙ ap (λ l. l ++ tagged more.0) k.prefix.1 ∙ append_assoc taken k.prefix.0 (tagged more.0));
      policy = k.policy;
      stopped = λ i c lost.
          let stop = k.stopped i c lost in
          rw (is, written_once p total rest (k.policy i c lost) (omega (arith, ap lost_line_count stop.last, lost_line_count-append stop.items (LostAt i c ∷ [])))) stop;
    }

-- n of the bytes
pub under_bytes : (w w' : Written) (p : Policy) (f : Fault) (bs : List ℕ) (n : ℕ) (a b : List Item) → f ≡ Write → Wrote w w' (map Out (take n bs)) → a ≡ map Byte bs ++ b → WritesPrefix w w' p f a
under_bytes w w' p f bs n a b writer h e =
    let more : List Item = map Byte (drop n bs) ++ b in
    let is : a ≡ map Byte (take n bs) ++ more =
    e ∙ ap (λ x. map Byte x ++ b) (sym (take-append-drop n bs)) ∙ ap (λ x. x ++ b) (map-append Byte (take n bs) (drop n bs)) ∙ append_assoc (map Byte (take n bs)) (map Byte (drop n bs)) b in
    record {
      taken = tagged (map Byte (take n bs));
      wrote = wrote_bytes w w' (take n bs) h;
      left = record {
        prefix = (tagged (written_under p more), ap tagged (ap (written_under p) is ∙ written_spared p (map Byte (take n bs)) more (spared_bytes p (take n bs))) ∙ tagged-append (map Byte (take n bs)) (written_under p more));
        policy = λ i c is. absurd (cc);
        stopped = λ i c is. absurd (cc);
      };
    }

-- the first is written under each policy
pub written_first : (p : Policy) (item : Item) (b : List Item) → (rest : List Item) × (written_under p (item ∷ b) ≡ item ∷ rest)
written_first Policy.Stop (LostAt i c) b = ([], refl)
written_first Policy.Stop item b = (up_to_loss b, refl)
written_first _ item b = (b, refl)

-- lines of which n bytes were taken
pub under_lines : (w w' : Written) (p : Policy) (f : Fault) (lines : List ℕ) (n : ℕ) (items a more : List Item) → f ≡ Log → tagged items ≡ map Line lines → written_under p a ≡ items ++ more → Wrote w w' (map Line (take n lines))
    → WritesPrefix w w' p f a
under_lines w w' p f lines n items a more log e begins h = record {
  taken = map Line (take n lines);
  wrote = h;
  left = record {
    prefix = (
      map Line (drop n lines) ++ tagged more,
      ap tagged begins ∙ tagged-append items more ∙ ap (λ x. x ++ tagged more) (e ∙ ap (map Line) (sym (take-append-drop n lines)) ∙ map-append Line (take n lines) (drop n lines))
          ∙ append_assoc (map Line (take n lines)) (map Line (drop n lines)) (tagged more),
    );
    policy = λ i c is. absurd (cc);
    stopped = λ i c is. absurd (cc);
  };
}

-- What a fault leaves is left if a result hands it on.

-- what holds of a fault holds of the one that is handed on
pub handed_on : {T : Type 0} (P : Fault → Type 0) (r : Result T Fault) (e : Fault) → IsErrAnd r (λ (x : Fault). x ≡ e) → P e → IfErr r P
handed_on P (Ok x) e same h = tt
handed_on P (Err x) e same h = subst P (sym same) h

-- For every continuation.
pub WritesPrefixFor-of : (w w' : Written) (p : Policy) (f : Fault) (last : Bool) (total : List Item) (a : List ℕ → List Item) → WritesPrefix w w' p f total
    → ((r : List ℕ) → (last ≡ true → r ≡ []) → (rest : List Item) × (a r ≡ total ++ rest)) → WritesPrefixFor w w' p f last a
WritesPrefixFor-of w w' p f last total a h e = record {
  taken = h.taken;
  wrote = h.wrote;
  left = λ r none. let more = e r none in left_front p f h.taken total more.0 (a r) more.1 h.left;
}

pub WritesItemsFor-start : (w : Written) (x : Counts) (p : Policy) (last : Bool) (a : List ℕ → List Item) → WritesItemsFor w w x x p last a a
WritesItemsFor-start w x p last a = record { written_items = []; wrote = Wrote-nil w; counted = record { bad = omega arith; lost = omega arith }; spared = spared_nil p; equals = λ r h. refl }

-- What the trace of a whole input is made of.

-- The output.
pub output_bytes-tagged : (t : List Item) → output_bytes (tagged t) ≡ item_bytes t
output_bytes-tagged [] = refl
output_bytes-tagged (Byte b ∷ t) = ap (λ x. b ∷ x) (output_bytes-tagged t)
output_bytes-tagged (MalformedAt offset size ∷ t) = rw (output_bytes-append (map Line (line_bytes (LogLine.Bad offset size))) (tagged t), output_bytes-lines (line_bytes (LogLine.Bad offset size))) (output_bytes-tagged t)
output_bytes-tagged (LostAt index scalar ∷ t) = rw (output_bytes-append (map Line (line_bytes (LogLine.Lost index scalar))) (tagged t), output_bytes-lines (line_bytes (LogLine.Lost index scalar))) (output_bytes-tagged t)

-- items are bytes and lines
split : (t : List Item) → length t ≡ length (item_bytes t) + bad_line_count t + lost_line_count t
split [] = refl
split (Byte b ∷ t) = omega (arith, split t)
split (x ∷ t) = omega (arith, split t)

pub items_split : (t : List Item) → length t ≡ length (output_bytes (tagged t)) + bad_line_count t + lost_line_count t
items_split t = omega (arith, split t, ap length (output_bytes-tagged t))

pub whole_from-append : (ref : Reference) (e : Coding) (s : EscapeState) (a b : List ℕ) → whole_from ref e s (a ++ b) ≡ open_from ref e s a ++ whole_from ref e (last_set e s a) b
whole_from-append ref e s a b = rw (open_from-append ref e s a b, last_set-append e s a b) (append_assoc (open_from ref e s a) (open_from ref e (last_set e s a) b) (e.escape (last_set e (last_set e s a) b) Ascii))

item_bytes-trace : (ref : Reference) (e : Coding) (s : EscapeState) (offset i : ℕ) (ps : List Piece) → item_bytes (trace_from ref e s offset i ps) ≡ whole_from ref e s (text ps)
item_bytes-trace ref e s offset i [] = item_bytes-bytes (e.escape s Ascii)
item_bytes-trace ref e s offset i (well_formed n cs ∷ ps) =
    let rest = trace_from ref e (last_set e s cs) (offset + n) (i + length cs) ps in
    rw (item_bytes-append (open_items ref e s i cs) rest, item_bytes-open_items ref e s i cs, item_bytes-trace ref e (last_set e s cs) (offset + n) (i + length cs) ps) (sym (whole_from-append ref e s cs (text ps)))
item_bytes-trace ref e s offset i (malformed n ∷ ps) =
    let rest = trace_from ref e (e.set s 0xFFFD) (offset + n) (i + 1) ps in
    item_bytes-append (open_items ref e s i (0xFFFD ∷ [])) rest
    ∙ rw (item_bytes-open_items ref e s i (0xFFFD ∷ []), item_bytes-trace ref e (e.set s 0xFFFD) (offset + n) (i + 1) ps) (sym (whole_from-append ref e s (0xFFFD ∷ []) (text ps)))

pub output_bytes-trace : (ref : Reference) (e : Coding) (s : EscapeState) (offset i : ℕ) (ps : List Piece) → output_bytes (tagged (trace_from ref e s offset i ps)) ≡ whole_from ref e s (text ps)
output_bytes-trace ref e s offset i ps = output_bytes-tagged (trace_from ref e s offset i ps) ∙ item_bytes-trace ref e s offset i ps

-- There is no line of the log exactly when no malformed sequence and no lost character was counted.
pub none_logged : (s : List Item) → bad_line_count s ≡ 0 → lost_line_count s ≡ 0 → log_bytes (tagged s) ≡ []
none_logged [] bad lost = refl
none_logged (Byte b ∷ s) bad lost = none_logged s bad lost
none_logged (x ∷ s) bad lost = absurd (omega (arith, bad, lost))

pub none_counted : (s : List Item) → log_bytes (tagged s) ≡ [] → (bad_line_count s ≡ 0) × (lost_line_count s ≡ 0)
none_counted [] h = (refl, refl)
none_counted (Byte b ∷ s) h = none_counted s h
none_counted (x ∷ s) h = absurd (cc)

-- If a stop cut it short.
pub log_at_loss : (j : Job) (x : List ℕ) → j.policy ≡ Policy.Stop → log_of j x ≡ flat_map line_bytes (lines_up_to_loss (log_lines (target_of j) 0 0 (input_pieces j x)))
log_at_loss j x stops =
    ap (λ (p : Policy). log_bytes (tagged (written_under p (whole_trace j x)))) stops
    ∙ log_bytes-noted (up_to_loss (whole_trace j x))
    ∙ ap (flat_map line_bytes) (noted-cut (whole_trace j x) ∙ ap lines_up_to_loss (noted-trace (reference_form j.policy) (target_of j) Ascii 0 0 (input_pieces j x)))

-- the lines of lost characters
abbrev losses : List LogLine → List LogLine
losses [] = []
losses (Bad offset size ∷ t) = losses t
losses (Lost i c ∷ t) = Lost i c ∷ losses t

losses-append : (s t : List LogLine) → losses (s ++ t) ≡ losses s ++ losses t
losses-append [] t = refl
losses-append (Bad offset size ∷ s) t = losses-append s t
losses-append (Lost i c ∷ s) t = ap (λ l. Lost i c ∷ l) (losses-append s t)

losses-form : (i : ℕ) (f : Form) → losses (form_lines i f) ≡ form_lines i f
losses-form i (Mapped bs) = refl
losses-form i (Unmapped c) = refl

losses-text : (e : Coding) (i : ℕ) (t : List ℕ) → losses (lost_log_lines e i t) ≡ lost_log_lines e i t
losses-text e i [] = refl
losses-text e i (c ∷ t) = rw (losses-append (form_lines i (e.form c)) (lost_log_lines e (i + 1) t), losses-form i (e.form c), losses-text e (i + 1) t) refl

lost_in-append : (e : Coding) (i : ℕ) (a b : List ℕ) → lost_log_lines e i (a ++ b) ≡ lost_log_lines e i a ++ lost_log_lines e (i + length a) b
lost_in-append e i [] b = ap (λ (n : ℕ). lost_log_lines e n b) (omega arith)
lost_in-append e i (c ∷ a) b =
    let at : i + length (c ∷ a) ≡ i + 1 + length a = omega arith in
    rw (at, lost_in-append e (i + 1) a b) (sym (append_assoc (form_lines i (e.form c)) (lost_log_lines e (i + 1) a) (lost_log_lines e (i + 1 + length a) b)))

losses-lines : (e : Coding) (offset i : ℕ) (ps : List Piece) → losses (log_lines e offset i ps) ≡ lost_log_lines e i (text ps)
losses-lines e offset i [] = refl
losses-lines e offset i (well_formed n cs ∷ ps) =
    rw (losses-append (lost_log_lines e i cs) (log_lines e (offset + n) (i + length cs) ps), losses-text e i cs, losses-lines e (offset + n) (i + length cs) ps) (sym (lost_in-append e i cs (text ps)))
losses-lines e offset i (malformed n ∷ ps) =
    losses-append (lost_log_lines e i (0xFFFD ∷ [])) (log_lines e (offset + n) (i + 1) ps)
    ∙ rw (losses-text e i (0xFFFD ∷ []), losses-lines e (offset + n) (i + 1) ps) (sym (lost_in-append e i (0xFFFD ∷ []) (text ps)))

first_is_left : (s : List Item) → take 1 (losses (noted s)) ≡ losses (noted (up_to_loss s))
first_is_left [] = refl
first_is_left (LostAt i c ∷ s) = refl
first_is_left (x ∷ s) = first_is_left s

one_loss : (s : List Item) (i c : ℕ) → lost_line_count s ≡ 0 → losses (noted (s ++ (LostAt i c ∷ []))) ≡ Lost i c ∷ []
one_loss [] i c h = refl
one_loss (LostAt index scalar ∷ s) i c h = absurd (omega (arith, h))
one_loss (x ∷ s) i c h = one_loss s i c h

pub first_lost : (j : Job) (x : List ℕ) (i c : ℕ) (taken : List TaggedByte) → StopsAtLoss i c taken (trace j x) → take 1 (lost_log_lines (target_of j) 0 (input_text j x)) ≡ Lost i c ∷ []
first_lost j x i c taken k =
    let all : List Item = whole_trace j x in
    let cut : up_to_loss all ≡ k.items ++ (LostAt i c ∷ []) = ap (λ (p : Policy). written_under p all) (sym (stops_policy j x k.items i c k.last)) ∙ k.last in
    ap (take 1) (sym (ap losses (noted-trace (reference_form j.policy) (target_of j) Ascii 0 0 (input_pieces j x)) ∙ losses-lines (target_of j) 0 0 (input_pieces j x)))
    ∙ first_is_left all
    ∙ ap (λ s. losses (noted s)) cut
    ∙ one_loss k.items i c (stops_first j x k.items i c k.last)
