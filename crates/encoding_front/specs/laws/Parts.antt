-- Where an input can be cut: behind a byte below 30, in each encoding that is compatible with ASCII, whatever mark it
-- begins with.
use Rattle.std.proofs.Common.{◌≡◌, ◌≢◌, ℕ, ◌≤◌, ◌&&◌, Bool, true, false, cond, List, [], ◌∷◌, ◌++◌, length, drop, refl, sym, ◌∙◌, ap, subst, arith, append_assoc, Option, None, Some, filter, lit≤}
use Rattle.std.specs.Prelude.{eqb}
use Rattle.std.specs.List.{starts_with}
use Rattle.std.specs.Option.{unwrap_or}
use Rattle.std.proofs.lemmas.Bool.{and_parts, eqb-true, ne_eqb, false≢true}
use Rattle.std.proofs.lemmas.List.{drop-append-le}
use Rattle.std.proofs.lemmas.Str.{encode_ascii}
use Rattle.encoding_mem.specs.Parts.{EndsInCut, IsCutByte, StandsAlone}
use Rattle.encoding_mem.specs.Piece.{Piece, well_formed}
use Rattle.encoding_mem.specs.Stateless.{HasOneSet}
use Rattle.encoding_mem.specs.declared.codec.form.Form.TheVariants.{Mapped}
use Rattle.encoding_mem.specs.laws.Parts.{utf8_stands_alone}
use Rattle.encoding_tables.specs.IndexLists.{AreAcceptedTables, IndexLists, index_entries, range_rows}
use Rattle.encoding_tables.specs.declared.index_kind.IndexKind.{IndexKind}
use Rattle.encoding_tables.specs.laws.Parts.{single_byte_stands_alone, single_byte_writes, user_defined_stands_alone, user_defined_writes}
use Rattle.encoding_tables.specs.laws.SingleByteTables.{entries_scalars}
use Rattle.encoding_codecs.specs.laws.Gb18030Tables.{gb18030_tables}
use Rattle.encoding_codecs.specs.laws.Parts.{big5_stands_alone, big5_writes, euc_jp_stands_alone, euc_jp_writes, euc_kr_stands_alone, euc_kr_writes, gb18030_stands_alone, gb18030_writes, shift_jis_stands_alone, shift_jis_writes}
use Rattle.encoding_front.specs.Codecs.{codec_of}
use Rattle.encoding_front.specs.EncodingTable.{codec_kind_of}
use Rattle.encoding_front.specs.Encodings.{IsReady, byte_order_marks, coding_of, first_mark, is_ascii_compatible_codec_kind, is_ascii_compatible_of, mark_at_start, output_encoding_of, pieces_of}
use Rattle.encoding_front.specs.Marks.{mark_piece, marked_pieces, marks_taken, source_of, takes_mark_of}
use Rattle.encoding_front.specs.declared.codec_kind.CodecKind.{CodecKind}
use Rattle.encoding_front.specs.declared.encoding.Encoding.{Encoding}
use Rattle.encoding_front.specs.declared.mark.Mark.{Mark}
use Rattle.encoding_front.specs.laws.Input.{source_fits}

-- ---- the bytes

stands_alone_in : (t : IndexLists) (s : CodecKind) (a : ℕ) → is_ascii_compatible_codec_kind s ≡ true → AreAcceptedTables t → IsCutByte a → StandsAlone (codec_of t s).pieces a
stands_alone_in t CodecKind.Utf8 a ascii taken h = utf8_stands_alone a h
stands_alone_in t (CodecKind.SingleByte kind) a ascii taken h = single_byte_stands_alone (index_entries t kind) a (entries_scalars t kind taken) h
stands_alone_in t CodecKind.UserDefined a ascii taken h = user_defined_stands_alone a h
stands_alone_in t CodecKind.Big5 a ascii taken h = big5_stands_alone a h (index_entries t IndexKind.Big5) (entries_scalars t IndexKind.Big5 taken)
stands_alone_in t CodecKind.EucKr a ascii taken h = euc_kr_stands_alone a h (index_entries t IndexKind.EucKr) (entries_scalars t IndexKind.EucKr taken)
stands_alone_in t CodecKind.EucJp a ascii taken h =
    euc_jp_stands_alone a h (index_entries t IndexKind.Jis0208) (index_entries t IndexKind.Jis0212) (entries_scalars t IndexKind.Jis0208 taken) (entries_scalars t IndexKind.Jis0212 taken)
stands_alone_in t CodecKind.ShiftJis a ascii taken h = shift_jis_stands_alone a h (index_entries t IndexKind.Jis0208) (entries_scalars t IndexKind.Jis0208 taken)
stands_alone_in t (CodecKind.Gb18030 extended) a ascii taken h = gb18030_stands_alone a h (index_entries t IndexKind.Gb18030) (range_rows t) (gb18030_tables t taken)
stands_alone_in t CodecKind.Iso2022Jp a ascii taken h = absurd (false≢true ascii)
stands_alone_in t (CodecKind.Utf16 big_endian) a ascii taken h = absurd (false≢true ascii)
stands_alone_in t CodecKind.Replacement a ascii taken h = absurd (false≢true ascii)

pub stands_alone_of : (t : IndexLists) (e : Encoding) (a : ℕ) → is_ascii_compatible_of e ≡ true → AreAcceptedTables t → IsCutByte a → StandsAlone (pieces_of t e) a
stands_alone_of t e a ascii taken h = stands_alone_in t (codec_kind_of e) a ascii taken h

-- ---- what is written

one_set_in : (t : IndexLists) (s : CodecKind) → is_ascii_compatible_codec_kind s ≡ true → HasOneSet (codec_of t s).coding
one_set_in t CodecKind.Utf8 ascii = record { set = λ s c. refl; escape = λ s s'. refl }
one_set_in t (CodecKind.SingleByte kind) ascii = record { set = λ s c. refl; escape = λ s s'. refl }
one_set_in t CodecKind.UserDefined ascii = record { set = λ s c. refl; escape = λ s s'. refl }
one_set_in t CodecKind.Big5 ascii = record { set = λ s c. refl; escape = λ s s'. refl }
one_set_in t CodecKind.EucKr ascii = record { set = λ s c. refl; escape = λ s s'. refl }
one_set_in t CodecKind.EucJp ascii = record { set = λ s c. refl; escape = λ s s'. refl }
one_set_in t CodecKind.ShiftJis ascii = record { set = λ s c. refl; escape = λ s s'. refl }
one_set_in t (CodecKind.Gb18030 extended) ascii = record { set = λ s c. refl; escape = λ s s'. refl }
one_set_in t CodecKind.Iso2022Jp ascii = absurd (false≢true ascii)
one_set_in t (CodecKind.Utf16 big_endian) ascii = absurd (false≢true ascii)
one_set_in t CodecKind.Replacement ascii = absurd (false≢true ascii)

pub one_set_for : (t : IndexLists) (e : Encoding) → is_ascii_compatible_of (output_encoding_of e) ≡ true → HasOneSet (coding_of t e)
one_set_for t e ascii = one_set_in t (codec_kind_of (output_encoding_of e)) ascii

writes_in : (t : IndexLists) (s : CodecKind) (a : ℕ) → is_ascii_compatible_codec_kind s ≡ true → IsCutByte a → (codec_of t s).coding.form a ≡ Mapped (a ∷ [])
writes_in t CodecKind.Utf8 a ascii h = ap Mapped (encode_ascii a (omega arith))
writes_in t (CodecKind.SingleByte kind) a ascii h = single_byte_writes (index_entries t kind) a h
writes_in t CodecKind.UserDefined a ascii h = user_defined_writes a h
writes_in t CodecKind.Big5 a ascii h = big5_writes a h (index_entries t IndexKind.Big5)
writes_in t CodecKind.EucKr a ascii h = euc_kr_writes a h (index_entries t IndexKind.EucKr)
writes_in t CodecKind.EucJp a ascii h = euc_jp_writes a h (index_entries t IndexKind.Jis0208)
writes_in t CodecKind.ShiftJis a ascii h = shift_jis_writes a h (index_entries t IndexKind.Jis0208)
writes_in t (CodecKind.Gb18030 extended) a ascii h = gb18030_writes a h (index_entries t IndexKind.Gb18030) (range_rows t) extended
writes_in t CodecKind.Iso2022Jp a ascii h = absurd (false≢true ascii)
writes_in t (CodecKind.Utf16 big_endian) a ascii h = absurd (false≢true ascii)
writes_in t CodecKind.Replacement a ascii h = absurd (false≢true ascii)

pub writes_of : (t : IndexLists) (e : Encoding) (a : ℕ) → is_ascii_compatible_of (output_encoding_of e) ≡ true → IsCutByte a → (coding_of t e).form a ≡ Mapped (a ∷ [])
writes_of t e a ascii h = writes_in t (codec_kind_of (output_encoding_of e)) a ascii h

-- ---- marks

-- a byte is none of some bytes
abbrev HasNot : ℕ → List ℕ → Type 0
HasNot a [] = Unit {0}
HasNot a (c ∷ m) = (c ≢ a) × HasNot a m

-- bytes before it begin with these exactly if the bytes with it do
begins_before : (a : ℕ) (m x y : List ℕ) → HasNot a m → starts_with eqb (x ++ a ∷ y) m ≡ starts_with eqb x m
begins_before a [] x y h = refl
begins_before a (c ∷ m) [] y h = rw (ne_eqb c a h.0) refl
begins_before a (c ∷ m) (b ∷ x) y h = ap (λ t. eqb c b && t) (begins_before a m x y h.1)

-- it is in none of some marks
abbrev AreWithout : ℕ → List (Encoding × List ℕ) → Type 0
AreWithout a [] = Unit {0}
AreWithout a (m ∷ marks) = HasNot a m.1 × AreWithout a marks

without_taken : (a : ℕ) (test : Encoding × List ℕ → Bool) (marks : List (Encoding × List ℕ)) → AreWithout a marks → AreWithout a (filter test marks)
without_taken a test [] h = tt
without_taken a test (m ∷ marks) h = either (test m) (without_taken a test marks h.1)
  where
    either : (b : Bool) → AreWithout a (filter test marks) → AreWithout a (cond b (m ∷ filter test marks) (filter test marks))
    either true more = (h.0, more)
    either false more = more

first_before : (a : ℕ) (marks : List (Encoding × List ℕ)) (x y : List ℕ) → AreWithout a marks → first_mark marks (x ++ a ∷ y) ≡ first_mark marks x
first_before a [] x y h = refl
first_before a (m ∷ marks) x y h =
    ap (λ t. cond t (Some (m.0, length m.1)) (first_mark marks (x ++ a ∷ y))) (begins_before a m.1 x y h.0)
    ∙ ap (λ o. cond (starts_with eqb x m.1) (Some (m.0, length m.1)) o) (first_before a marks x y h.1)

marks_without : (a : ℕ) → IsCutByte a → AreWithout a byte_order_marks
marks_without a h = ((apart 0xEF (lit≤ tt), (apart 0xBB (lit≤ tt), (apart 0xBF (lit≤ tt), tt))), ((apart 0xFE (lit≤ tt), (apart 0xFF (lit≤ tt), tt)), ((apart 0xFF (lit≤ tt), (apart 0xFE (lit≤ tt), tt)), tt)))
  where
    apart : (c : ℕ) → 0x80 ≤ c → c ≢ a
    apart c high is = omega (arith, is, high, h)

-- what stands before it decides the source
pub source_before : (mark : Mark) (e : Encoding) (a : ℕ) (x y : List ℕ) → IsCutByte a → source_of mark e (x ++ a ∷ y) ≡ source_of mark e x
source_before mark e a x y h =
    ap (λ o. unwrap_or o (e, 0)) (first_before a (marks_taken mark e) x y (without_taken a (λ m. takes_mark_of mark e m.0) byte_order_marks (marks_without a h)))

-- ---- parts

pub parts_of : (t : IndexLists) (mark : Mark) (e : Encoding) (x y : List ℕ) → AreAcceptedTables t → EndsInCut x → is_ascii_compatible_of (source_of mark e x).0 ≡ true
    → (source_of mark e (x ++ y) ≡ source_of mark e x) × (marked_pieces t mark e (x ++ y) ≡ marked_pieces t mark e x ++ pieces_of t (source_of mark e x).0 y)
parts_of t mark e x y taken ends ascii =
    subst (λ z. is_ascii_compatible_of (source_of mark e z).0 ≡ true
    → (source_of mark e (z ++ y) ≡ source_of mark e z) × (marked_pieces t mark e (z ++ y) ≡ marked_pieces t mark e z ++ pieces_of t (source_of mark e z).0 y))
    (sym ends.split) (split ends.before ends.byte ends.is_cut) ascii
  where
    split : (z : List ℕ) (a : ℕ) → IsCutByte a → is_ascii_compatible_of (source_of mark e (z ++ a ∷ [])).0 ≡ true
        → (source_of mark e ((z ++ a ∷ []) ++ y) ≡ source_of mark e (z ++ a ∷ [])) × (marked_pieces t mark e ((z ++ a ∷ []) ++ y) ≡ marked_pieces t mark e (z ++ a ∷ []) ++ pieces_of t (source_of mark e (z ++ a ∷ [])).0 y)
    split z a h compatible =
        let s : Encoding × ℕ = source_of mark e z in
        let one : source_of mark e (z ++ a ∷ []) ≡ s = source_before mark e a z [] h in
        let both : source_of mark e ((z ++ a ∷ []) ++ y) ≡ s = ap (source_of mark e) (append_assoc z (a ∷ []) y) ∙ source_before mark e a z y h in
        let fits : s.1 ≤ length z = source_fits mark e z in
        let law : StandsAlone (pieces_of t s.0) a = stands_alone_of t s.0 a (subst (λ (q : Encoding × ℕ). is_ascii_compatible_of q.0 ≡ true) one compatible) taken h in
        let left : drop s.1 (z ++ a ∷ []) ≡ drop s.1 z ++ a ∷ [] = drop-append-le s.1 z (a ∷ []) fits in
        let all : drop s.1 ((z ++ a ∷ []) ++ y) ≡ (drop s.1 z ++ a ∷ []) ++ y =
        ap (drop s.1) (append_assoc z (a ∷ []) y) ∙ drop-append-le s.1 z (a ∷ y) fits ∙ sym (append_assoc (drop s.1 z) (a ∷ []) y) in (
          both ∙ sym one,
          ap (λ (q : Encoding × ℕ). mark_piece q.1 ++ pieces_of t q.0 (drop q.1 ((z ++ a ∷ []) ++ y))) both
              ∙ ap (λ l. mark_piece s.1 ++ pieces_of t s.0 l) all
              ∙ ap (λ l. mark_piece s.1 ++ l) (law.parts (drop s.1 z) y)
              ∙ sym (append_assoc (mark_piece s.1) (pieces_of t s.0 (drop s.1 z ++ a ∷ [])) (pieces_of t s.0 y))
              ∙ ap (λ l. (mark_piece s.1 ++ pieces_of t s.0 l) ++ pieces_of t s.0 y) (sym left)
              ∙ ap (λ (q : Encoding × ℕ). (mark_piece q.1 ++ pieces_of t q.0 (drop q.1 (z ++ a ∷ []))) ++ pieces_of t q.0 y) (sym one),
        )

-- a source that a mark says needs no index
ready_if : (t : IndexLists) (b : Bool) (f : Encoding) (n : ℕ) (e : Encoding) (o : Option (Encoding × ℕ)) → IsReady t f → IsReady t (unwrap_or o (e, 0)).0 → IsReady t (unwrap_or (cond b (Some (f, n)) o) (e, 0)).0
ready_if t true f n e o h k = h
ready_if t false f n e o h k = k

-- what each of some marks says needs no index that is not there
abbrev AreReady : IndexLists → List (Encoding × List ℕ) → Type 0
AreReady t [] = Unit {0}
AreReady t (m ∷ marks) = IsReady t m.0 × AreReady t marks

ready_taken : (t : IndexLists) (test : Encoding × List ℕ → Bool) (marks : List (Encoding × List ℕ)) → AreReady t marks → AreReady t (filter test marks)
ready_taken t test [] h = tt
ready_taken t test (m ∷ marks) h = either (test m) (ready_taken t test marks h.1)
  where
    either : (b : Bool) → AreReady t (filter test marks) → AreReady t (cond b (m ∷ filter test marks) (filter test marks))
    either true more = (h.0, more)
    either false more = more

first_ready : (t : IndexLists) (marks : List (Encoding × List ℕ)) (e : Encoding) (x : List ℕ) → AreReady t marks → IsReady t e → IsReady t (unwrap_or (first_mark marks x) (e, 0)).0
first_ready t [] e x h k = k
first_ready t (m ∷ marks) e x h k = ready_if t (starts_with eqb x m.1) m.0 (length m.1) e (first_mark marks x) h.0 (first_ready t marks e x h.1 k)

pub source_is_ready : (t : IndexLists) (mark : Mark) (e : Encoding) (x : List ℕ) → IsReady t e → IsReady t (source_of mark e x).0
source_is_ready t mark e x k = first_ready t (marks_taken mark e) e x (ready_taken t (λ m. takes_mark_of mark e m.0) byte_order_marks (tt, (tt, (tt, tt)))) k

-- the last piece of a part is the byte that it ends in
pub ends_alone : (t : IndexLists) (mark : Mark) (e : Encoding) (x : List ℕ) → AreAcceptedTables t → (ends : EndsInCut x) → is_ascii_compatible_of (source_of mark e x).0 ≡ true
    → (before : List Piece) × (marked_pieces t mark e x ≡ before ++ well_formed 1 (ends.byte ∷ []) ∷ [])
ends_alone t mark e x taken ends ascii =
    subst (λ z. is_ascii_compatible_of (source_of mark e z).0 ≡ true → (before : List Piece) × (marked_pieces t mark e z ≡ before ++ well_formed 1 (ends.byte ∷ []) ∷ []))
    (sym ends.split) (at_end ends.before ends.byte ends.is_cut) ascii
  where
    at_end : (z : List ℕ) (a : ℕ) → IsCutByte a → is_ascii_compatible_of (source_of mark e (z ++ a ∷ [])).0 ≡ true
        → (before : List Piece) × (marked_pieces t mark e (z ++ a ∷ []) ≡ before ++ well_formed 1 (a ∷ []) ∷ [])
    at_end z a h compatible =
        let s : Encoding × ℕ = source_of mark e z in
        let one : source_of mark e (z ++ a ∷ []) ≡ s = source_before mark e a z [] h in
        let law : StandsAlone (pieces_of t s.0) a = stands_alone_of t s.0 a (subst (λ (q : Encoding × ℕ). is_ascii_compatible_of q.0 ≡ true) one compatible) taken h in
        let alone = law.alone (drop s.1 z) in (
          mark_piece s.1 ++ alone.0,
          ap (λ (q : Encoding × ℕ). mark_piece q.1 ++ pieces_of t q.0 (drop q.1 (z ++ a ∷ []))) one
              ∙ ap (λ l. mark_piece s.1 ++ pieces_of t s.0 l) (drop-append-le s.1 z (a ∷ []) (source_fits mark e z))
              ∙ ap (λ l. mark_piece s.1 ++ l) alone.1
              ∙ sym (append_assoc (mark_piece s.1) alone.0 (well_formed 1 (a ∷ []) ∷ [])),
        )

-- ---- the source, by the mark that bytes begin with, if it is taken
abbrev pub source_if : (Encoding → Bool) → Encoding → Option (Encoding × ℕ) → Encoding
source_if takes e None = e
source_if takes e (Some mark) = cond (takes mark.0) mark.0 e

-- bytes begin with none of some marks
abbrev NoneBegins : List (Encoding × List ℕ) → List ℕ → Type 0
NoneBegins [] x = Unit {0}
NoneBegins (m ∷ marks) x = (starts_with eqb x m.1 ≡ false) × NoneBegins marks x

-- bytes begin with one of some marks at most
abbrev AtMostOne : List (Encoding × List ℕ) → List ℕ → Type 0
AtMostOne [] x = Unit {0}
AtMostOne (m ∷ marks) x = (starts_with eqb x m.1 ≡ true → NoneBegins marks x) × AtMostOne marks x

none_taken : (takes : Encoding → Bool) (marks : List (Encoding × List ℕ)) (x : List ℕ) → NoneBegins marks x → first_mark (filter (λ m. takes m.0) marks) x ≡ None
none_taken takes [] x h = refl
none_taken takes (m ∷ marks) x h = either (takes m.0) (none_taken takes marks x h.1)
  where
    either : (t : Bool) → first_mark (filter (λ m. takes m.0) marks) x ≡ None → first_mark (cond t (m ∷ filter (λ m. takes m.0) marks) (filter (λ m. takes m.0) marks)) x ≡ None
    either true more = rw h.0 more
    either false more = more

first_taken : (takes : Encoding → Bool) (marks : List (Encoding × List ℕ)) (e : Encoding) (x : List ℕ) → AtMostOne marks x
    → (unwrap_or (first_mark (filter (λ m. takes m.0) marks) x) (e, 0)).0 ≡ source_if takes e (first_mark marks x)
first_taken takes [] e x h = refl
first_taken takes (m ∷ marks) e x h = by (takes m.0) (starts_with eqb x m.1) refl refl (first_taken takes marks e x h.1)
  where
    by : (t b : Bool) → takes m.0 ≡ t → starts_with eqb x m.1 ≡ b → (unwrap_or (first_mark (filter (λ m. takes m.0) marks) x) (e, 0)).0 ≡ source_if takes e (first_mark marks x)
        → (unwrap_or (first_mark (cond (takes m.0) (m ∷ filter (λ m. takes m.0) marks) (filter (λ m. takes m.0) marks)) x) (e, 0)).0 ≡ source_if takes e (cond (starts_with eqb x m.1) (Some (m.0, length m.1)) (first_mark marks x))
    by true true taken begins more = rw (taken, begins) (rw taken refl)
    by true false taken begins more = rw (taken, begins) more
    by false true taken begins more = rw (taken, begins) (rw taken (ap (λ (o : Option (Encoding × ℕ)). (unwrap_or {T = Encoding × ℕ} o (e, 0)).0) (none_taken takes marks x (h.0 begins))))
    by false false taken begins more = rw (taken, begins) more

marks_exclude : (x : List ℕ) → AtMostOne byte_order_marks x
marks_exclude [] = (λ is. absurd (false≢true is), (λ is. absurd (false≢true is), (λ is. tt, tt)))
marks_exclude (c ∷ x) = (
  λ is. (other 0xEF 0xFE (0xFF ∷ []) (omega arith) (begun 0xEF (0xBB ∷ 0xBF ∷ []) is), (other 0xEF 0xFF (0xFE ∷ []) (omega arith) (begun 0xEF (0xBB ∷ 0xBF ∷ []) is), tt)),
  (λ is. (other 0xFE 0xFF (0xFE ∷ []) (omega arith) (begun 0xFE (0xFF ∷ []) is), tt), (λ is. tt, tt)),
)
  where
    begun : (b : ℕ) (m : List ℕ) → starts_with eqb (c ∷ x) (b ∷ m) ≡ true → b ≡ c
    begun b m is = eqb-true b c (and_parts (eqb b c) (starts_with eqb x m) is).0

    other : (b d : ℕ) (m : List ℕ) → d ≢ b → b ≡ c → starts_with eqb (c ∷ x) (d ∷ m) ≡ false
    other b d m apart is = rw (ne_eqb d c (λ same. apart (same ∙ sym is))) refl

pub source_by_mark : (mark : Mark) (e : Encoding) (x : List ℕ) → (source_of mark e x).0 ≡ source_if (takes_mark_of mark e) e (mark_at_start x)
source_by_mark mark e x = first_taken (takes_mark_of mark e) byte_order_marks e x (marks_exclude x)
