-- Laws of parts: items and lines that are moved, the lines among items, and the items of a text in two parts.
use Rattle.std.proofs.Common.{◌≡◌, ℕ, ◌+◌, ◌<◌, List, [], ◌∷◌, ◌++◌, map, length, refl, sym, ◌∙◌, ap, arith, append_assoc, length-append}
use Rattle.std.proofs.Math.Nat.{add_assoc}
use Rattle.std.proofs.lemmas.List.{map-append}
use Rattle.std.specs.List.{flat_map}
use Rattle.encoding_mem.specs.Coding.{Coding, last_set, reference_bytes}
use Rattle.encoding_mem.specs.Items.{Byte, Item, LostAt, MalformedAt, form_items, item_bytes, open_items, trace_from}
use Rattle.encoding_mem.specs.Piece.{Piece, malformed, sizes, text, well_formed}
use Rattle.encoding_mem.specs.Stateless.{HasOneSet}
use Rattle.encoding_mem.specs.declared.codec.form.EscapeState.{EscapeState}
use Rattle.encoding_mem.specs.declared.codec.form.EscapeState.TheVariants.{Ascii}
use Rattle.encoding_mem.specs.declared.codec.form.Form.{Form}
use Rattle.encoding_mem.specs.declared.codec.form.Form.TheVariants.{Mapped, Unmapped}
use Rattle.encoding_mem.specs.declared.codec.reference.Reference.{Reference}
use Rattle.recode_log.specs.Line.{line_bytes}
use Rattle.recode_log.specs.declared.line.LogLine.{LogLine}
use Rattle.recode_log.specs.declared.line.LogLine.TheVariants.{Bad, Lost}
use Rattle.recode.specs.Job.{form_lines, lines_up_to_loss, log_lines, lost_log_lines}
use Rattle.recode.specs.Parts.{moved, moved_line, noted}
use Rattle.recode.specs.Policy.{up_to_loss, written_under}
use Rattle.recode.specs.TaggedByte.{Line, log_bytes, tagged}
use Rattle.recode.specs.WrittenItems.{lost_line_count}
use Rattle.recode.specs.declared.job.Policy.{Policy}
use Rattle.recode.specs.laws.Items.{log_bytes-append, log_bytes-lines}

-- ---- moved by n bytes and m characters

module _ (n m : ℕ) where
  -- bytes stay
  pub moved_bytes : (bs : List ℕ) → map (moved n m) (map Byte bs) ≡ map Byte bs
  moved_bytes [] = refl
  moved_bytes (b ∷ bs) = ap (λ l. Byte b ∷ l) (moved_bytes bs)

  -- the items of one character, from its moved index
  pub moved_form : (ref : Reference) (i : ℕ) (f : Form)
      → form_items ref (m + i) f ≡ map (moved n m) (form_items ref i f)
  moved_form ref i (Mapped bs) = sym (moved_bytes bs)
  moved_form ref i (Unmapped c) = ap (λ l. LostAt (m + i) c ∷ l) (sym (moved_bytes (reference_bytes ref c)))

  -- the items of a text, from a moved index
  pub moved_open : (ref : Reference) (e : Coding) (s : EscapeState) (i k : ℕ) (t : List ℕ) → k ≡ m + i
      → open_items ref e s k t ≡ map (moved n m) (open_items ref e s i t)
  moved_open ref e s i k [] is = refl
  moved_open ref e s i k (c ∷ t) is =
      let escape : List Item = map Byte (e.escape s (e.set s c)) in
      let form : List Item = form_items ref i (e.form c) in
      let more : List Item = open_items ref e (e.set s c) (i + 1) t in
      let front = moved_bytes (e.escape s (e.set s c)) in
      let middle = moved_form ref i (e.form c) in
      let behind = moved_open ref e (e.set s c) (i + 1) (k + 1) t (omega arith) in
      cc (map-append (moved n m) escape (form ++ more), map-append (moved n m) form more)

  -- the trace of pieces, from a moved offset and a moved index
  pub moved_trace : (ref : Reference) (e : Coding) (s : EscapeState) (o i p k : ℕ) (ps : List Piece) → p ≡ n + o
      → k ≡ m + i → trace_from ref e s p k ps ≡ map (moved n m) (trace_from ref e s o i ps)
  moved_trace ref e s o i p k [] is also = sym (moved_bytes (e.escape s Ascii))
  moved_trace ref e s o i p k (well_formed size cs ∷ ps) is also =
      let s' = last_set e s cs in
      let j = i + length cs in
      let front = moved_open ref e s i k cs also in
      let behind = moved_trace ref e s' (o + size) j (p + size) (k + length cs) ps (omega arith) (omega arith) in
      cc (map-append (moved n m) (open_items ref e s i cs) (trace_from ref e s' (o + size) j ps))
  moved_trace ref e s o i p k (malformed size ∷ ps) is also =
      let s' = e.set s 0xFFFD in
      let front = moved_open ref e s i k (0xFFFD ∷ []) also in
      let behind = moved_trace ref e s' (o + size) (i + 1) (p + size) (k + 1) ps (omega arith) (omega arith) in
      cc (map-append (moved n m) (open_items ref e s i (0xFFFD ∷ [])) (trace_from ref e s' (o + size) (i + 1) ps))

  -- the output stays
  pub moved_output : (s : List Item) → item_bytes (map (moved n m) s) ≡ item_bytes s
  moved_output [] = refl
  moved_output (Byte b ∷ s) = ap (λ l. b ∷ l) (moved_output s)
  moved_output (MalformedAt o size ∷ s) = moved_output s
  moved_output (LostAt i c ∷ s) = moved_output s

  -- the lines move as the items do
  pub moved_lines : (s : List Item) → noted (map (moved n m) s) ≡ map (moved_line n m) (noted s)
  moved_lines [] = refl
  moved_lines (Byte b ∷ s) = moved_lines s
  moved_lines (MalformedAt o size ∷ s) = ap (λ l. Bad (n + o) size ∷ l) (moved_lines s)
  moved_lines (LostAt i c ∷ s) = ap (λ l. Lost (m + i) c ∷ l) (moved_lines s)

  -- the first loss is the same one
  pub moved_cut : (s : List Item) → up_to_loss (map (moved n m) s) ≡ map (moved n m) (up_to_loss s)
  moved_cut [] = refl
  moved_cut (Byte b ∷ s) = ap (λ l. Byte b ∷ l) (moved_cut s)
  moved_cut (MalformedAt o size ∷ s) = ap (λ l. MalformedAt (n + o) size ∷ l) (moved_cut s)
  moved_cut (LostAt i c ∷ s) = refl

  -- a policy writes of moved items what it writes of the items, moved
  pub moved_under : (p : Policy) (s : List Item)
      → written_under p (map (moved n m) s) ≡ map (moved n m) (written_under p s)
  moved_under Policy.Stop s = moved_cut s
  moved_under _ s = refl

  -- lines that are moved twice are moved by the sums
  pub moved_twice : (a b : ℕ) (ls : List LogLine)
      → map (moved_line n m) (map (moved_line a b) ls) ≡ map (moved_line (n + a) (m + b)) ls
  moved_twice a b [] = refl
  moved_twice a b (Bad o size ∷ ls) = cc (add_assoc n a o, moved_twice a b ls)
  moved_twice a b (Lost i c ∷ ls) = cc (add_assoc m b i, moved_twice a b ls)

-- nothing before a part moves nothing
pub moved_none : (ls : List LogLine) → map (moved_line 0 0) ls ≡ ls
moved_none [] = refl
moved_none (Bad o size ∷ ls) = let same : 0 + o ≡ o = omega arith in cc (moved_none ls)
moved_none (Lost i c ∷ ls) = let same : 0 + i ≡ i = omega arith in cc (moved_none ls)

-- ---- the lines among items

-- the lines of joined items
pub noted-append : (s t : List Item) → noted (s ++ t) ≡ noted s ++ noted t
noted-append [] t = refl
noted-append (Byte b ∷ s) t = noted-append s t
noted-append (MalformedAt offset size ∷ s) t = ap (λ x. Bad offset size ∷ x) (noted-append s t)
noted-append (LostAt i c ∷ s) t = ap (λ x. Lost i c ∷ x) (noted-append s t)

-- the log's bytes of a line and of the items behind it
pub log_bytes-line : (line : List ℕ) (s : List Item)
    → log_bytes (map Line line ++ tagged s) ≡ line ++ log_bytes (tagged s)
log_bytes-line line s = cc (log_bytes-append (map Line line) (tagged s), log_bytes-lines line)

-- the log's bytes of items are those of the lines among them
pub log_bytes-noted : (s : List Item) → log_bytes (tagged s) ≡ flat_map line_bytes (noted s)
log_bytes-noted [] = refl
log_bytes-noted (Byte b ∷ s) = log_bytes-noted s
log_bytes-noted (MalformedAt offset size ∷ s) = cc (log_bytes-line (line_bytes (Bad offset size)) s, log_bytes-noted s)
log_bytes-noted (LostAt i c ∷ s) = cc (log_bytes-line (line_bytes (Lost i c)) s, log_bytes-noted s)

-- bytes have no lines
pub noted-bytes : (bs : List ℕ) → noted (map Byte bs) ≡ []
noted-bytes [] = refl
noted-bytes (b ∷ bs) = noted-bytes bs

-- the lines of one character
pub noted-form : (ref : Reference) (i : ℕ) (f : Form) → noted (form_items ref i f) ≡ form_lines i f
noted-form ref i (Mapped bs) = noted-bytes bs
noted-form ref i (Unmapped c) = ap (λ x. Lost i c ∷ x) (noted-bytes (reference_bytes ref c))

-- the lines of a text are those of its lost characters
pub noted-open : (ref : Reference) (e : Coding) (s : EscapeState) (i : ℕ) (t : List ℕ)
    → noted (open_items ref e s i t) ≡ lost_log_lines e i t
noted-open ref e s i [] = refl
noted-open ref e s i (c ∷ t) =
    let escape = e.escape s (e.set s c) in
    let form = form_items ref i (e.form c) in
    let rest = open_items ref e (e.set s c) (i + 1) t in
    let behind = noted-open ref e (e.set s c) (i + 1) t in
    cc (noted-append (map Byte escape) (form ++ rest), noted-append form rest, noted-bytes escape, noted-form ref i (e.form c))

-- the lines of a trace are those of its pieces
pub noted-trace : (ref : Reference) (e : Coding) (s : EscapeState) (offset i : ℕ) (ps : List Piece)
    → noted (trace_from ref e s offset i ps) ≡ log_lines e offset i ps
noted-trace ref e s offset i [] = noted-bytes (e.escape s Ascii)
noted-trace ref e s offset i (well_formed n cs ∷ ps) =
    let s' = last_set e s cs in
    let rest = noted-trace ref e s' (offset + n) (i + length cs) ps in
    let split = noted-append (open_items ref e s i cs) (trace_from ref e s' (offset + n) (i + length cs) ps) in
    cc (noted-open ref e s i cs)
noted-trace ref e s offset i (malformed n ∷ ps) =
    let s' = e.set s 0xFFFD in
    let rest = noted-trace ref e s' (offset + n) (i + 1) ps in
    let split = noted-append (open_items ref e s i (0xFFFD ∷ [])) (trace_from ref e s' (offset + n) (i + 1) ps) in
    cc (noted-open ref e s i (0xFFFD ∷ []))

-- the log's bytes of a trace
pub log_bytes-trace : (ref : Reference) (e : Coding) (s : EscapeState) (offset i : ℕ) (ps : List Piece)
    → log_bytes (tagged (trace_from ref e s offset i ps)) ≡ flat_map line_bytes (log_lines e offset i ps)
log_bytes-trace ref e s offset i ps =
    log_bytes-noted (trace_from ref e s offset i ps) ∙ ap (flat_map line_bytes) (noted-trace ref e s offset i ps)

-- the lines of items up to the first loss
pub noted-cut : (s : List Item) → noted (up_to_loss s) ≡ lines_up_to_loss (noted s)
noted-cut [] = refl
noted-cut (Byte b ∷ s) = noted-cut s
noted-cut (MalformedAt offset size ∷ s) = ap (λ l. Bad offset size ∷ l) (noted-cut s)
noted-cut (LostAt i c ∷ s) = refl

-- ---- two parts

-- what stops stands whatever follows
pub cut_is_last : (s t : List Item) → 0 < lost_line_count s → up_to_loss (s ++ t) ≡ up_to_loss s
cut_is_last [] t h = absurd (omega (arith, h))
cut_is_last (LostAt i c ∷ s) t h = refl
cut_is_last (x ∷ s) t h = ap (λ l. x ∷ l) (cut_is_last s t h)

-- an encoding with one set ends in it
pub last_is_ascii : (e : Coding) → HasOneSet e → (s : EscapeState) (t : List ℕ) → s ≡ Ascii → last_set e s t ≡ Ascii
last_is_ascii e one s [] is = is
last_is_ascii e one s (c ∷ t) is = last_is_ascii e one (e.set s c) t (one.set s c)

-- the trace of pieces in two parts, for an encoding with one set: nothing is written between them
pub trace_parts : (ref : Reference) (e : Coding) → HasOneSet e → (s : EscapeState) (o i p k : ℕ) (ps qs : List Piece)
    → s ≡ Ascii → p ≡ o + sizes ps → k ≡ i + length (text ps)
    → trace_from ref e s o i (ps ++ qs) ≡ trace_from ref e s o i ps ++ trace_from ref e Ascii p k qs
trace_parts ref e one s o i p k [] qs is at also =
    let same : o ≡ p = omega arith in
    let likewise : i ≡ k = omega arith in
    cc (ap (map Byte) (one.escape s Ascii))
trace_parts ref e one s o i p k (well_formed n cs ∷ ps) qs is at also =
    let s' = last_set e s cs in
    let j = i + length cs in
    let behind : k ≡ j + length (text ps) = omega (arith, length-append cs (text ps)) in
    let rest = trace_parts ref e one s' (o + n) j p k ps qs (last_is_ascii e one s cs is) (omega arith) behind in
    cc (append_assoc (open_items ref e s i cs) (trace_from ref e s' (o + n) j ps) (trace_from ref e Ascii p k qs))
trace_parts ref e one s o i p k (malformed n ∷ ps) qs is at also =
    let s' = e.set s 0xFFFD in
    let front = open_items ref e s i (0xFFFD ∷ []) in
    let rest = trace_parts ref e one s' (o + n) (i + 1) p k ps qs (one.set s 0xFFFD) (omega arith) (omega arith) in
    cc (append_assoc front (trace_from ref e s' (o + n) (i + 1) ps) (trace_from ref e Ascii p k qs))
