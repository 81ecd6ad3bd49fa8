-- The law of a call in bytes, and what UTF-8 makes of a text.
use Rattle.std.proofs.Common.{◌≡◌, ℕ, ◌+◌, ◌-◌, Bool, true, false, cond, List, [], ◌∷◌, ◌++◌, length, map, sym, ◌∙◌, ap, refl, arith, inl, inr, ◌⊎◌, add-zero, append_assoc, length-append}
use Rattle.std.proofs.lemmas.Str.{length-encode}
use Rattle.std.proofs.lemmas.List.{append-nil, append_cancel_right, map-append}
use Rattle.std.specs.Str.{encode_utf8_all}
use Rattle.std.specs.Char.{encode_utf8}
use Rattle.encoding_mem.specs.Coding.{Coding, IsCoding, AllMapped, IsMapped, mapped_bytes, bytes_from, open_from, whole_from, last_set, output, lost_count, reference_bytes, spelled}
use Rattle.encoding_mem.specs.Items.{Item, Byte, MalformedAt, LostAt, item_bytes, form_items, open_items, whole_items, closing}
use Rattle.encoding_mem.specs.calls.EncoderCalls.{Encodes, EncodesItems, Leaves, Reads, TextGoesOn, AccountsForText, WritesPart, reported_item}
use Rattle.encoding_mem.specs.calls.EncoderRule.{Moves, Tight}
use Rattle.encoding_mem.specs.Utf8Coding.{utf8_coding, NextIsTooLong, ReadsLongest}
use Rattle.encoding_mem.specs.declared.codec.reference.Reference.{Reference}
use Rattle.encoding_mem.specs.declared.codec.form.Form.{Form}
use Rattle.encoding_mem.specs.declared.codec.form.Form.TheVariants.{Mapped, Unmapped}
use Rattle.encoding_mem.specs.declared.codec.form.EscapeState.{EscapeState}
use Rattle.encoding_mem.specs.declared.codec.form.EscapeState.TheVariants.{Ascii}
use Rattle.encoding_mem.specs.declared.codec.encoder_result.EncoderResult.{EncoderResult}
use Rattle.encoding_mem.specs.declared.codec.encoder_result.EncoderResult.TheVariants.{InputEmpty, OutputFull, Unmappable}

-- The bytes of items.
pub item_bytes-append : (xs ys : List Item) → item_bytes (xs ++ ys) ≡ item_bytes xs ++ item_bytes ys
item_bytes-append [] ys = refl
item_bytes-append (Byte b ∷ xs) ys = ap (λ l. b ∷ l) (item_bytes-append xs ys)
item_bytes-append (MalformedAt offset size ∷ xs) ys = item_bytes-append xs ys
item_bytes-append (LostAt index scalar ∷ xs) ys = item_bytes-append xs ys

pub item_bytes-bytes : (bs : List ℕ) → item_bytes (map Byte bs) ≡ bs
item_bytes-bytes [] = refl
item_bytes-bytes (b ∷ bs) = ap (λ l. b ∷ l) (item_bytes-bytes bs)

item_bytes-form : (ref : Reference) (i : ℕ) (f : Form) → item_bytes (form_items ref i f) ≡ spelled ref f
item_bytes-form ref i (Mapped bs) = item_bytes-bytes bs
item_bytes-form ref i (Unmapped c) = item_bytes-bytes (reference_bytes ref c)

pub item_bytes-open_items : (ref : Reference) (e : Coding) (s : EscapeState) (i : ℕ) (t : List ℕ) → item_bytes (open_items ref e s i t) ≡ open_from ref e s t
item_bytes-open_items ref e s i [] = refl
item_bytes-open_items ref e s i (c ∷ t) =
    rw (
      item_bytes-append (map Byte (e.escape s (e.set s c))) _,
      item_bytes-append (form_items ref i (e.form c)) _,
      item_bytes-bytes (e.escape s (e.set s c)),
      item_bytes-form ref i (e.form c),
      item_bytes-open_items ref e (e.set s c) (i + 1) t,
    )

item_bytes-closing : (e : Coding) (last : Bool) (s : EscapeState) → item_bytes (cond last (closing e s) []) ≡ cond last (e.escape s Ascii) []
item_bytes-closing e true s = item_bytes-bytes (e.escape s Ascii)
item_bytes-closing e false s = refl

item_bytes-whole : (ref : Reference) (e : Coding) (last : Bool) (s : EscapeState) (i : ℕ) (t : List ℕ)
    → item_bytes (whole_items ref e last s i t) ≡ open_from ref e s t ++ cond last (e.escape (last_set e s t) Ascii) []
item_bytes-whole ref e last s i t =
    item_bytes-append (open_items ref e s i t) _ ∙ rw (item_bytes-open_items ref e s i t, item_bytes-closing e last (last_set e s t)) refl

pub item_bytes-whole_items : (ref : Reference) (e : Coding) (s : EscapeState) (i : ℕ) (t : List ℕ) → item_bytes (whole_items ref e true s i t) ≡ whole_from ref e s t
item_bytes-whole_items ref e s i t = item_bytes-whole ref e true s i t

-- A text that goes on.
pub last_set-append : (e : Coding) (s : EscapeState) (t r : List ℕ) → last_set e s (t ++ r) ≡ last_set e (last_set e s t) r
last_set-append e s [] r = refl
last_set-append e s (c ∷ t) r = last_set-append e (e.set s c) t r

pub bytes_from-append : (e : Coding) (s : EscapeState) (t r : List ℕ) → bytes_from e s (t ++ r) ≡ bytes_from e s t ++ bytes_from e (last_set e s t) r
bytes_from-append e s [] r = refl
bytes_from-append e s (c ∷ t) r =
    rw (bytes_from-append e (e.set s c) t r, append_assoc (e.escape s (e.set s c)) _ _, append_assoc (mapped_bytes (e.form c)) _ _) refl

pub all_mapped-append : (e : Coding) (t r : List ℕ) → AllMapped e t → AllMapped e r → AllMapped e (t ++ r)
all_mapped-append e [] r m n = n
all_mapped-append e (c ∷ t) r m n = (m.0, all_mapped-append e t r m.1 n)

pub open_from-append : (ref : Reference) (e : Coding) (s : EscapeState) (t r : List ℕ) → open_from ref e s (t ++ r) ≡ open_from ref e s t ++ open_from ref e (last_set e s t) r
open_from-append ref e s [] r = refl
open_from-append ref e s (c ∷ t) r =
    rw (open_from-append ref e (e.set s c) t r, append_assoc (e.escape s (e.set s c)) _ _, append_assoc (spelled ref (e.form c)) _ _) refl

-- If each character has bytes, the text stands for them, and there is nothing to note.
items_of_bytes : (ref : Reference) (f : Form) (i : ℕ) → IsMapped f → form_items ref i f ≡ map Byte (mapped_bytes f)
items_of_bytes ref (Mapped bs) i m = refl
items_of_bytes ref (Unmapped c) i m = absurd m

pub mapped_items : (ref : Reference) (e : Coding) (s : EscapeState) (i : ℕ) (t r : List ℕ) → AllMapped e t
    → open_items ref e s i (t ++ r) ≡ map Byte (bytes_from e s t) ++ open_items ref e (last_set e s t) (i + length t) r
mapped_items ref e s i [] r m = rw add-zero refl
mapped_items ref e s i (c ∷ t) r m =
    let behind : i + 1 + length t ≡ i + length (c ∷ t) = omega arith in
    rw (items_of_bytes ref (e.form c) i m.0, mapped_items ref e (e.set s c) (i + 1) t r m.1, behind, map-append, map-append)
    (ap (λ l. map Byte (e.escape s (e.set s c)) ++ l) (sym (append_assoc (map Byte (mapped_bytes (e.form c))) _ _)) ∙ sym (append_assoc (map Byte (e.escape s (e.set s c))) _ _))

spelled_bytes : (ref : Reference) (f : Form) → IsMapped f → spelled ref f ≡ mapped_bytes f
spelled_bytes ref (Mapped bs) m = refl
spelled_bytes ref (Unmapped c) m = absurd m

pub mapped_open : (ref : Reference) (e : Coding) (s : EscapeState) (t : List ℕ) → AllMapped e t → open_from ref e s t ≡ bytes_from e s t
mapped_open ref e s [] m = refl
mapped_open ref e s (c ∷ t) m = rw (spelled_bytes ref (e.form c) m.0, mapped_open ref e (e.set s c) t m.1) refl

-- The law of a call, for items: what the text stands for is what was written, what the result reports, and what the rest
-- stands for.
whole-append : (ref : Reference) (e : Coding) (last : Bool) (s : EscapeState) (i : ℕ) (t r : List ℕ) → AllMapped e t
    → whole_items ref e last s i (t ++ r) ≡ map Byte (bytes_from e s t) ++ whole_items ref e last (last_set e s t) (i + length t) r
whole-append ref e last s i t r m = rw (mapped_items ref e s i t r m, last_set-append e s t r) (append_assoc (map Byte (bytes_from e s t)) _ _)

-- of the next character: its escape, and then what is left from its set
whole-escape : (ref : Reference) {need : ℕ} (e : Coding) (last : Bool) (q : EscapeState) (i c : ℕ) (r : List ℕ) → IsCoding need e
    → whole_items ref e last q i (c ∷ r) ≡ map Byte (e.escape q (e.set q c)) ++ whole_items ref e last (e.set q c) i (c ∷ r)
whole-escape ref e last q i c r k =
    rw (k.stays q c, k.same (e.set q c)) (append_assoc (map Byte (e.escape q (e.set q c))) _ _)

whole-form : (ref : Reference) {need : ℕ} (e : Coding) (last : Bool) (q : EscapeState) (i c : ℕ) (r : List ℕ) → IsCoding need e
    → whole_items ref e last (e.set q c) i (c ∷ r) ≡ form_items ref i (e.form c) ++ whole_items ref e last (e.set q c) (i + 1) r
whole-form ref e last q i c r k = rw (k.stays q c, k.same (e.set q c)) (append_assoc (form_items ref i (e.form c)) _ _)

-- after what was written before the next character, what is left of it
behind_written : (w escape : List ℕ) (items more : List Item) → items ≡ map Byte escape ++ more → map Byte w ++ items ≡ map Byte (w ++ escape) ++ more
behind_written w escape items more is = rw (is, map-append) (sym (append_assoc (map Byte w) (map Byte escape) more))

left_items : (ref : Reference) {need : ℕ} (e : Coding) (last : Bool) (outcome : EncoderResult) (q : EscapeState) (next rest : List ℕ) (s' : EscapeState) (i i' : ℕ) → IsCoding need e
    → Leaves e last outcome q next rest s' → i' + length rest ≡ i + length next
    → whole_items ref e last q i next ≡ map Byte (e.escape q s') ++ (reported_item ref i' outcome ++ whole_items ref e last s' i' rest)
left_items ref e true InputEmpty q next rest s' i i' k l passed = rw (l.0, l.1, l.2, k.same Ascii) (sym (append-nil _))
left_items ref e false InputEmpty q next rest s' i i' k l passed = rw (l.0, l.1, l.2, k.same q) refl
left_items ref e last OutputFull q next rest s' i i' k (is, inl stays) passed =
    let same : i' ≡ i = omega (arith, passed, ap length is) in rw (is, same, stays, k.same q) refl
left_items ref e last OutputFull q [] rest s' i i' k (is, inr h) passed = absurd h
left_items ref e last OutputFull q (c ∷ next) rest s' i i' k (is, inr h) passed =
    let same : i' ≡ i = omega (arith, passed, ap length is) in
    rw (← is, same, h) (whole-escape ref e last q i c next k)
left_items ref e last (Unmappable m) q next rest s' i i' k (c, is, form, set) passed =
    let index : i' ≡ i + 1 = omega (arith, passed, ap length is) in
    let before : i + 1 - 1 ≡ i = omega arith in
    rw (is, index, before, set)
    (whole-escape ref e last q i c rest k ∙ ap (λ l. map Byte (e.escape q (e.set q c)) ++ l) (whole-form ref e last q i c rest k ∙ rw form refl))

-- the characters that were read
abbrev prefix_of : EncoderResult → (before next : List ℕ) → List ℕ
prefix_of InputEmpty before next = before
prefix_of OutputFull before next = before
prefix_of (Unmappable m) before [] = before
prefix_of (Unmappable m) before (c ∷ next) = before ++ c ∷ []

split_of : (e : Coding) (last : Bool) (outcome : EncoderResult) (q : EscapeState) (before next rest : List ℕ) (s' : EscapeState)
    → Leaves e last outcome q next rest s' → before ++ next ≡ prefix_of outcome before next ++ rest
split_of e last InputEmpty q before next rest s' l = rw (l.0, l.1) refl
split_of e last OutputFull q before next rest s' l = ap (λ r. before ++ r) l.0
split_of e last (Unmappable m) q before [] rest s' l = let is = l.1 in absurd (cc)
split_of e last (Unmappable m) q before (c ∷ next) rest s' l =
    let same : next ≡ rest = (let is = l.1 in cc) in rw same (sym (append_assoc before (c ∷ []) rest))

reads_of : (e : Coding) (last : Bool) (outcome : EncoderResult) (q : EscapeState) (before next rest : List ℕ) (s' : EscapeState)
    → AllMapped e before → Leaves e last outcome q next rest s' → Reads e outcome (prefix_of outcome before next)
reads_of e last InputEmpty q before next rest s' m l = m
reads_of e last OutputFull q before next rest s' m l = m
reads_of e last (Unmappable u) q before [] rest s' m l = let is = l.1 in absurd (cc)
reads_of e last (Unmappable u) q before (c ∷ next) rest s' m l =
    let same : l.0 ≡ c = (let is = l.1 in cc) in (before, c, refl, m, ap e.form (sym same) ∙ l.2)

sets_of : {need : ℕ} (e : Coding) (last : Bool) (outcome : EncoderResult) (q : EscapeState) (next rest : List ℕ) (s' : EscapeState) → IsCoding need e
    → Leaves e last outcome q next rest s' → TextGoesOn last outcome → last_set e q next ≡ last_set e s' rest
sets_of e true InputEmpty q next rest s' k l on = cc
sets_of e false InputEmpty q next rest s' k l on = rw (l.0, l.1, l.2) refl
sets_of e last OutputFull q next rest s' k (is, inl stays) on = rw (is, stays) refl
sets_of e last OutputFull q [] rest s' k (is, inr h) on = absurd h
sets_of e last OutputFull q (c ∷ next) rest s' k (is, inr h) on = rw (← is, h, k.stays q c) refl
sets_of e last (Unmappable m) q next rest s' k (c, is, form, set) on = rw (is, set) refl

pub encoded_items : (ref : Reference) {need : ℕ} (e : Coding) (last : Bool) (outcome : EncoderResult) (s : EscapeState) (t w : List ℕ) (s' : EscapeState) (rest : List ℕ) → IsCoding need e
    → Encodes e last outcome s t w s' rest → EncodesItems ref e last outcome s t w s' rest
encoded_items ref e last outcome s t w s' rest k p =
    let q : EscapeState = last_set e s p.before in
    let prefix : List ℕ = prefix_of outcome p.before p.next in
    let split : t ≡ prefix ++ rest = p.split ∙ split_of e last outcome q p.before p.next rest s' p.leaves in
    record {
      prefix = prefix;
      split = split;
      reads = reads_of e last outcome q p.before p.next rest s' p.mapped p.leaves;
      items = λ i.
          let at : (i + length prefix) + length rest ≡ (i + length p.before) + length p.next =
          omega (arith, ap length split, ap length p.split, length-append prefix rest, length-append p.before p.next) in
          ap (whole_items ref e last s i) p.split ∙ whole-append ref e last s i p.before p.next p.mapped
          ∙ behind_written (bytes_from e s p.before) (e.escape q s') _ _ (left_items ref e last outcome q p.next rest s' (i + length p.before) (i + length prefix) k p.leaves at)
          ∙ ap (λ l. map Byte l ++ (reported_item ref (i + length prefix) outcome ++ whole_items ref e last s' (i + length prefix) rest)) (sym p.bytes);
      sets = λ on. ap (last_set e s) p.split ∙ last_set-append e s p.before p.next ∙ sets_of e last outcome q p.next rest s' k p.leaves on;
    }

continues : (ref : Reference) (e : Coding) (s : EscapeState) (t w : List ℕ) (s' : EscapeState) (rest : List ℕ)
    → open_from ref e s t ≡ w ++ open_from ref e s' rest → last_set e s t ≡ last_set e s' rest → WritesPart ref e s t w s' rest
continues ref e s t w s' rest is sets r =
    open_from-append ref e s t r ∙ rw (is, sets, open_from-append ref e s' rest r) (append_assoc w _ _)

-- what is written and reported is what the text stands for, the closings aside
opened : (ref : Reference) (e : Coding) (last : Bool) (s : EscapeState) (t w : List ℕ) (s' : EscapeState) (rest : List ℕ) → last_set e s t ≡ last_set e s' rest
    → open_from ref e s t ++ cond last (e.escape (last_set e s t) Ascii) [] ≡ w ++ (open_from ref e s' rest ++ cond last (e.escape (last_set e s' rest) Ascii) [])
    → open_from ref e s t ≡ w ++ open_from ref e s' rest
opened ref e last s t w s' rest sets is =
    append_cancel_right (open_from ref e s t) (w ++ open_from ref e s' rest) (cond last (e.escape (last_set e s' rest) Ascii) [])
    (rw sets at is ∙ sym (append_assoc w _ _))

in_bytes : (ref : Reference) (e : Coding) (last : Bool) (outcome : EncoderResult) (s : EscapeState) (t w : List ℕ) (s' : EscapeState) (rest : List ℕ) (p : EncodesItems ref e last outcome s t w s' rest)
    → open_from ref e s t ++ cond last (e.escape (last_set e s t) Ascii) []
    ≡ w ++ (item_bytes (reported_item ref (0 + length p.prefix) outcome) ++ (open_from ref e s' rest ++ cond last (e.escape (last_set e s' rest) Ascii) []))
in_bytes ref e last outcome s t w s' rest p =
    sym (item_bytes-whole ref e last s 0 t) ∙ ap item_bytes (p.items 0) ∙ item_bytes-append (map Byte w) _
    ∙ rw (item_bytes-bytes w, item_bytes-append (reported_item ref (0 + length p.prefix) outcome) _, item_bytes-whole ref e last s' (0 + length p.prefix) rest) refl

-- The law in items gives the law in bytes.
pub items_in_bytes : (ref : Reference) (e : Coding) (last : Bool) (outcome : EncoderResult) (s : EscapeState) (t w : List ℕ) (s' : EscapeState) (rest : List ℕ)
    → EncodesItems ref e last outcome s t w s' rest → AccountsForText ref e last outcome s t w s' rest
items_in_bytes ref e last (Unmappable c) s t w s' rest p =
    let rest_is = open_from ref e s' rest ++ cond last (e.escape (last_set e s' rest) Ascii) [] in
    let referred = in_bytes ref e last (Unmappable c) s t w s' rest p
    ∙ ap (λ l. w ++ (l ++ rest_is)) (item_bytes-bytes (reference_bytes ref c)) ∙ sym (append_assoc w (reference_bytes ref c) rest_is) in
    continues ref e s t (w ++ reference_bytes ref c) s' rest (opened ref e last s t (w ++ reference_bytes ref c) s' rest (p.sets tt) referred) (p.sets tt)
items_in_bytes ref e true InputEmpty s t w s' rest p = in_bytes ref e true InputEmpty s t w s' rest p
items_in_bytes ref e false InputEmpty s t w s' rest p =
    continues ref e s t w s' rest (opened ref e false s t w s' rest (p.sets refl) (in_bytes ref e false InputEmpty s t w s' rest p)) (p.sets refl)
items_in_bytes ref e true OutputFull s t w s' rest p = in_bytes ref e true OutputFull s t w s' rest p
items_in_bytes ref e false OutputFull s t w s' rest p =
    continues ref e s t w s' rest (opened ref e false s t w s' rest (p.sets refl) (in_bytes ref e false OutputFull s t w s' rest p)) (p.sets refl)

pub encoded_bytes : (ref : Reference) {need : ℕ} (e : Coding) (last : Bool) (outcome : EncoderResult) (s : EscapeState) (t w : List ℕ) (s' : EscapeState) (rest : List ℕ) → IsCoding need e
    → Encodes e last outcome s t w s' rest → AccountsForText ref e last outcome s t w s' rest
encoded_bytes ref e last outcome s t w s' rest k p = items_in_bytes ref e last outcome s t w s' rest (encoded_items ref e last outcome s t w s' rest k p)

-- A call leaves the set as it was, as some scalar chose it, or ASCII.
chosen : (e : Coding) (s : EscapeState) (t : List ℕ) → (last_set e s t ≡ s) ⊎ ((q : EscapeState) × (c : ℕ) × (last_set e s t ≡ e.set q c))
chosen e s [] = inl refl
chosen e s (c ∷ t) = elim (chosen e (e.set s c) t) [ inl h ↦ inr (s, c, h) | inr h ↦ inr h ]

last_moves : (e : Coding) (s : EscapeState) (t : List ℕ) (s' : EscapeState) → s' ≡ last_set e s t → Moves e s s'
last_moves e s t s' is = elim (chosen e s t) [ inl h ↦ inl (is ∙ h) | inr h ↦ inr (inl (h.0, h.1, is ∙ h.2)) ]

moves_of : (e : Coding) (last : Bool) (outcome : EncoderResult) (s : EscapeState) (before next rest : List ℕ) (s' : EscapeState)
    → Leaves e last outcome (last_set e s before) next rest s' → Moves e s s'
moves_of e true InputEmpty s before next rest s' l = inr (inr l.2)
moves_of e false InputEmpty s before next rest s' l = last_moves e s before s' l.2
moves_of e last OutputFull s before next rest s' (is, inl stays) = last_moves e s before s' stays
moves_of e last OutputFull s before [] rest s' (is, inr h) = absurd h
moves_of e last OutputFull s before (c ∷ next) rest s' (is, inr h) = inr (inl (last_set e s before, c, h))
moves_of e last (Unmappable m) s before next rest s' (c, is, form, set) = inr (inl (last_set e s before, c, set))

pub encoded_moves : (e : Coding) (last : Bool) (outcome : EncoderResult) (s : EscapeState) (t w : List ℕ) (s' : EscapeState) (rest : List ℕ)
    → Encodes e last outcome s t w s' rest → Moves e s s'
encoded_moves e last outcome s t w s' rest p = moves_of e last outcome s p.before p.next rest s' p.leaves

-- UTF-8 spells a text, and loses nothing.
open_utf8 : (ref : Reference) (s : EscapeState) (t : List ℕ) → open_from ref utf8_coding s t ≡ encode_utf8_all t
open_utf8 ref s [] = refl
open_utf8 ref s (c ∷ t) = ap (λ l. encode_utf8 c ++ l) (open_utf8 ref Ascii t)

pub utf8_output : (ref : Reference) (t : List ℕ) → output ref utf8_coding t ≡ encode_utf8_all t
utf8_output ref t = append-nil (open_from ref utf8_coding Ascii t) ∙ open_utf8 ref Ascii t

pub utf8_lost_count : (t : List ℕ) → lost_count utf8_coding t ≡ 0
utf8_lost_count [] = refl
utf8_lost_count (c ∷ t) = rw (utf8_lost_count t) refl

-- Its calls read the longest prefix that fits, and copy it.
bytes_utf8 : (s : EscapeState) (t : List ℕ) → bytes_from utf8_coding s t ≡ encode_utf8_all t
bytes_utf8 s [] = refl
bytes_utf8 s (c ∷ t) = ap (λ l. encode_utf8 c ++ l) (bytes_utf8 Ascii t)

next_over : (last : Bool) (outcome : EncoderResult) (q : EscapeState) (next rest : List ℕ) (s' : EscapeState) (free : ℕ)
    → Leaves utf8_coding last outcome q next rest s' → Tight utf8_coding outcome s' rest free → NextIsTooLong rest free
next_over last InputEmpty q next rest s' free l tight = rw l.1 tt
next_over last OutputFull q next [] s' free l tight = tt
next_over last OutputFull q next (c ∷ rest) s' free l tight =
    let size = length-encode c in elim tight [ inl h ↦ omega (arith, h) | inr h ↦ omega (arith, h.1) ]
next_over last (Unmappable m) q next rest s' free l tight = let is = l.2 in cc

nothing_reported : (last : Bool) (outcome : EncoderResult) (q : EscapeState) (next rest : List ℕ) (s' : EscapeState)
    → Leaves utf8_coding last outcome q next rest s' → next ≡ rest
nothing_reported last InputEmpty q next rest s' l = l.0 ∙ sym l.1
nothing_reported last OutputFull q next rest s' l = l.0
nothing_reported last (Unmappable m) q next rest s' l = let is = l.2 in cc

pub utf8_calls_are_longest : (last : Bool) (outcome : EncoderResult) (s : EscapeState) (t w : List ℕ) (s' : EscapeState) (rest : List ℕ) (free : ℕ)
    → Encodes utf8_coding last outcome s t w s' rest → Tight utf8_coding outcome s' rest free → ReadsLongest t w rest free
utf8_calls_are_longest last outcome s t w s' rest free p tight = record {
  prefix = p.before;
  split = p.split ∙ ap (λ l. p.before ++ l) (nothing_reported last outcome (last_set utf8_coding s p.before) p.next rest s' p.leaves);
  bytes = p.bytes ∙ append-nil (bytes_from utf8_coding s p.before) ∙ bytes_utf8 s p.before;
  longest = next_over last outcome (last_set utf8_coding s p.before) p.next rest s' free p.leaves tight;
}
