-- What items are written as, and how many lines they have: of joined items, and of a whole trace.
use Rattle.std.proofs.Common.{arith, ◌≡◌, ℕ, ◌+◌, List, [], ◌∷◌, ◌++◌, length, map, refl, sym, ◌∙◌, ap, append-nil}
use Rattle.std.proofs.lemmas.Grind.{flat_map-append}
use Rattle.encoding_mem.specs.Coding.{Coding, last_set, lost_count, reference_bytes, unmapped_count}
use Rattle.encoding_mem.specs.Items.{Item, Byte, MalformedAt, LostAt, form_items, open_items, trace_from}
use Rattle.encoding_mem.specs.Piece.{Piece, malformed, malformed_count, text, well_formed}
use Rattle.encoding_mem.specs.declared.codec.form.EscapeState.{EscapeState}
use Rattle.encoding_mem.specs.declared.codec.form.EscapeState.TheVariants.{Ascii}
use Rattle.encoding_mem.specs.declared.codec.form.Form.{Form}
use Rattle.encoding_mem.specs.declared.codec.form.Form.TheVariants.{Mapped, Unmapped}
use Rattle.encoding_mem.specs.declared.codec.reference.Reference.{Reference}
use Rattle.recode.specs.Policy.{up_to_loss, written_under}
use Rattle.recode.specs.TaggedByte.{IsPrefix, Line, Out, TaggedByte, log_bytes, output_bytes, tagged, tagged_item}
use Rattle.recode.specs.WrittenItems.{AreCounted, IsSpared, bad_line_count, lost_line_count}
use Rattle.recode.specs.declared.counts.Counts.{Counts}
use Rattle.recode.specs.declared.job.Policy.{Policy}

pub output_bytes-append : (s t : List TaggedByte) → output_bytes (s ++ t) ≡ output_bytes s ++ output_bytes t
output_bytes-append [] t = refl
output_bytes-append (Out b ∷ s) t = ap (λ l. b ∷ l) (output_bytes-append s t)
output_bytes-append (Line b ∷ s) t = output_bytes-append s t

pub log_bytes-append : (s t : List TaggedByte) → log_bytes (s ++ t) ≡ log_bytes s ++ log_bytes t
log_bytes-append [] t = refl
log_bytes-append (Out b ∷ s) t = log_bytes-append s t
log_bytes-append (Line b ∷ s) t = ap (λ l. b ∷ l) (log_bytes-append s t)

-- a prefix of what is written has a prefix of the output's bytes, and one of the log's
pub output_bytes-prefix : (t u : List TaggedByte) → IsPrefix t u → IsPrefix (output_bytes t) (output_bytes u)
output_bytes-prefix t u f = (output_bytes f.0, ap output_bytes f.1 ∙ output_bytes-append t f.0)

pub log_bytes-prefix : (t u : List TaggedByte) → IsPrefix t u → IsPrefix (log_bytes t) (log_bytes u)
log_bytes-prefix t u f = (log_bytes f.0, ap log_bytes f.1 ∙ log_bytes-append t f.0)

pub output_bytes-bytes : (bs : List ℕ) → output_bytes (tagged (map Byte bs)) ≡ bs
output_bytes-bytes [] = refl
output_bytes-bytes (b ∷ bs) = ap (λ l. b ∷ l) (output_bytes-bytes bs)

pub log_bytes-bytes : (bs : List ℕ) → log_bytes (tagged (map Byte bs)) ≡ []
log_bytes-bytes [] = refl
log_bytes-bytes (b ∷ bs) = log_bytes-bytes bs

pub output_bytes-lines : (bs : List ℕ) → output_bytes (map Line bs) ≡ []
output_bytes-lines [] = refl
output_bytes-lines (b ∷ bs) = output_bytes-lines bs

pub log_bytes-lines : (bs : List ℕ) → log_bytes (map Line bs) ≡ bs
log_bytes-lines [] = refl
log_bytes-lines (b ∷ bs) = ap (λ l. b ∷ l) (log_bytes-lines bs)

pub tagged-append : (s t : List Item) → tagged (s ++ t) ≡ tagged s ++ tagged t
tagged-append s t = flat_map-append tagged_item s t

pub bad_line_count-append : (s t : List Item) → bad_line_count (s ++ t) ≡ bad_line_count s + bad_line_count t
bad_line_count-append [] t = omega arith
bad_line_count-append (Byte b ∷ s) t = bad_line_count-append s t
bad_line_count-append (MalformedAt p n ∷ s) t = omega (arith, bad_line_count-append s t)
bad_line_count-append (LostAt i c ∷ s) t = bad_line_count-append s t

pub lost_line_count-append : (s t : List Item) → lost_line_count (s ++ t) ≡ lost_line_count s + lost_line_count t
lost_line_count-append [] t = omega arith
lost_line_count-append (Byte b ∷ s) t = lost_line_count-append s t
lost_line_count-append (MalformedAt p n ∷ s) t = lost_line_count-append s t
lost_line_count-append (LostAt i c ∷ s) t = omega (arith, lost_line_count-append s t)

pub bad_line_count-bytes : (bs : List ℕ) → bad_line_count (map Byte bs) ≡ 0
bad_line_count-bytes [] = refl
bad_line_count-bytes (b ∷ bs) = bad_line_count-bytes bs

pub lost_line_count-bytes : (bs : List ℕ) → lost_line_count (map Byte bs) ≡ 0
lost_line_count-bytes [] = refl
lost_line_count-bytes (b ∷ bs) = lost_line_count-bytes bs

pub cut_spared : (s t : List Item) → lost_line_count s ≡ 0 → up_to_loss (s ++ t) ≡ s ++ up_to_loss t
cut_spared [] t h = refl
cut_spared (Byte b ∷ s) t h = ap (λ l. Byte b ∷ l) (cut_spared s t h)
cut_spared (MalformedAt o n ∷ s) t h = ap (λ l. MalformedAt o n ∷ l) (cut_spared s t h)
cut_spared (LostAt i c ∷ s) t h = absurd (omega (arith, h))

pub written_spared : (p : Policy) (s t : List Item) → IsSpared p s → written_under p (s ++ t) ≡ s ++ written_under p t
written_spared Policy.Decimal s t h = refl
written_spared Policy.Hexadecimal s t h = refl
written_spared Policy.Stop s t h = cut_spared s t (h refl)

-- all of it, if nothing stops it
pub written_whole : (p : Policy) (s : List Item) → IsSpared p s → written_under p s ≡ s
written_whole p s h = ap (written_under p) (sym (append-nil s)) ∙ written_spared p s [] h ∙ ap (λ l. s ++ l) (none_written p) ∙ append-nil s
  where
    none_written : (p : Policy) → written_under p [] ≡ []
    none_written Policy.Decimal = refl
    none_written Policy.Hexadecimal = refl
    none_written Policy.Stop = refl

-- What a policy lets be written.
pub spared_nil : (p : Policy) → IsSpared p []
spared_nil p h = refl

pub spared_append : (p : Policy) (s t : List Item) → IsSpared p s → IsSpared p t → IsSpared p (s ++ t)
spared_append p s t h k is = omega (arith, lost_line_count-append s t, h is, k is)

pub spared_bytes : (p : Policy) (bs : List ℕ) → IsSpared p (map Byte bs)
spared_bytes p bs h = lost_line_count-bytes bs

pub AreCounted-trans : (a b c : Counts) (s t : List Item) → AreCounted a b s → AreCounted b c t → AreCounted a c (s ++ t)
AreCounted-trans a b c s t p q = record {
  bad = omega (arith, p.bad, q.bad, bad_line_count-append s t);
  lost = omega (arith, p.lost, q.lost, lost_line_count-append s t);
}

-- ---- the lines of a whole trace

bad_line_count-form : (ref : Reference) (i : ℕ) (f : Form) → bad_line_count (form_items ref i f) ≡ 0
bad_line_count-form ref i (Mapped bs) = bad_line_count-bytes bs
bad_line_count-form ref i (Unmapped c) = bad_line_count-bytes (reference_bytes ref c)

pub bad_line_count-open : (ref : Reference) (e : Coding) (s : EscapeState) (i : ℕ) (t : List ℕ) → bad_line_count (open_items ref e s i t) ≡ 0
bad_line_count-open ref e s i [] = refl
bad_line_count-open ref e s i (c ∷ t) =
    let rest : List Item = open_items ref e (e.set s c) (i + 1) t in
    omega (arith, bad_line_count-append (map Byte (e.escape s (e.set s c))) (form_items ref i (e.form c) ++ rest), bad_line_count-bytes (e.escape s (e.set s c)), bad_line_count-append (form_items ref i (e.form c)) rest, bad_line_count-form ref i (e.form c), bad_line_count-open ref e (e.set s c) (i + 1) t)

pub bad_line_count-trace : (ref : Reference) (e : Coding) (s : EscapeState) (offset i : ℕ) (ps : List Piece) → bad_line_count (trace_from ref e s offset i ps) ≡ malformed_count ps
bad_line_count-trace ref e s offset i [] = bad_line_count-bytes (e.escape s Ascii)
bad_line_count-trace ref e s offset i (well_formed n cs ∷ ps) =
    omega (arith, bad_line_count-append (open_items ref e s i cs) (trace_from ref e (last_set e s cs) (offset + n) (i + length cs) ps), bad_line_count-open ref e s i cs, bad_line_count-trace ref e (last_set e s cs) (offset + n) (i + length cs) ps)
bad_line_count-trace ref e s offset i (malformed n ∷ ps) =
    omega (arith, bad_line_count-append (open_items ref e s i (0xFFFD ∷ [])) (trace_from ref e (e.set s 0xFFFD) (offset + n) (i + 1) ps), bad_line_count-open ref e s i (0xFFFD ∷ []), bad_line_count-trace ref e (e.set s 0xFFFD) (offset + n) (i + 1) ps)

lost_line_count-form : (ref : Reference) (i : ℕ) (f : Form) → lost_line_count (form_items ref i f) ≡ unmapped_count f
lost_line_count-form ref i (Mapped bs) = lost_line_count-bytes bs
lost_line_count-form ref i (Unmapped c) = omega (arith, lost_line_count-bytes (reference_bytes ref c))

lost_line_count-open : (ref : Reference) (e : Coding) (s : EscapeState) (i : ℕ) (t : List ℕ) → lost_line_count (open_items ref e s i t) ≡ lost_count e t
lost_line_count-open ref e s i [] = refl
lost_line_count-open ref e s i (c ∷ t) =
    let rest : List Item = open_items ref e (e.set s c) (i + 1) t in
    omega (arith, lost_line_count-append (map Byte (e.escape s (e.set s c))) (form_items ref i (e.form c) ++ rest), lost_line_count-bytes (e.escape s (e.set s c)), lost_line_count-append (form_items ref i (e.form c)) rest, lost_line_count-form ref i (e.form c), lost_line_count-open ref e (e.set s c) (i + 1) t)

lost_count-append : (e : Coding) (a b : List ℕ) → lost_count e (a ++ b) ≡ lost_count e a + lost_count e b
lost_count-append e [] b = omega arith
lost_count-append e (c ∷ a) b = omega (arith, lost_count-append e a b)

pub lost_line_count-trace : (ref : Reference) (e : Coding) (s : EscapeState) (offset i : ℕ) (ps : List Piece) → lost_line_count (trace_from ref e s offset i ps) ≡ lost_count e (text ps)
lost_line_count-trace ref e s offset i [] = lost_line_count-bytes (e.escape s Ascii)
lost_line_count-trace ref e s offset i (well_formed n cs ∷ ps) =
    omega (arith, lost_line_count-append (open_items ref e s i cs) (trace_from ref e (last_set e s cs) (offset + n) (i + length cs) ps), lost_line_count-open ref e s i cs, lost_line_count-trace ref e (last_set e s cs) (offset + n) (i + length cs) ps, lost_count-append e cs (text ps))
lost_line_count-trace ref e s offset i (malformed n ∷ ps) =
    omega (arith, lost_line_count-append (open_items ref e s i (0xFFFD ∷ [])) (trace_from ref e (e.set s 0xFFFD) (offset + n) (i + 1) ps), lost_line_count-open ref e s i (0xFFFD ∷ []), lost_line_count-trace ref e (e.set s 0xFFFD) (offset + n) (i + 1) ps, lost_count-append e (0xFFFD ∷ []) (text ps))
