-- The text that a pivot holds, and how many characters it has. What the pieces that a call took stand for. What a call of
-- a decoder took, in words of the text that it wrote: W says which. What a call of an encoder says of items, by the index
-- that its caller has counted.
use Rattle.std.proofs.Common.{◌≡◌, ℕ, suc, ◌+◌, ◌≤◌, Bool, true, ◌&&◌, List, [], ◌∷◌, ◌++◌, map, length, Some, refl, sym, ◌∙◌, ap, arith, append_assoc, append-nil, length-append, add-zero, ◌-◌, ◌<◌, drop, subst, take, length-drop, inl, inr, false, ◌==◌, ◌↔◌, IsTrue, true≢false}
use lib.Utf8.{scalar}
use Rattle.std.proofs.lemmas.Bool.{and_parts, cases_lt, lt-ltb, le-ltb, eqb-true, eq-eqb}
use Rattle.std.specs.Str.{all_scalars, chars, IsUtf8, encode_utf8_all}
use Rattle.encoding_mem.specs.declared.codec.reference.Reference.{Reference}
use Rattle.encoding_mem.specs.Piece.{IsPiece, Piece, well_formed, malformed, piece_scalars, sizes, scalars, AreWellFormed, ArePieces}
use Rattle.encoding_mem.specs.Coding.{Coding, last_set, IsCoding}
use Rattle.encoding_mem.specs.Items.{Byte, closing, form_items, open_items, trace_from, Item, whole_items}
use Rattle.encoding_mem.specs.declared.codec.form.EscapeState.{EscapeState}
use Rattle.encoding_mem.specs.calls.Decoding.{DecoderState, Takes, StateLaw, EndsWith}
use Rattle.encoding_mem.specs.declared.codec.form.EscapeState.TheVariants.{Ascii}
use Rattle.encoding_mem.specs.declared.codec.decoder_result.DecoderResult.{DecoderResult}
use Rattle.encoding_mem.specs.declared.codec.decoder_result.DecoderResult.TheVariants.{InputEmpty, OutputFull, Malformed}
use Rattle.encoding_mem.specs.laws.Piece.{scalars-append, sizes-append}
use Rattle.encoding_mem.specs.laws.EncoderCalls.{last_set-append, encoded_items}
use Rattle.recode.specs.calls.Turns.{reported}
use Rattle.recode.specs.calls.TraceToWrite.{trace_to_write}
use Rattle.recode.specs.declared.counts.Counts.{Counts}
use Rattle.std.proofs.lemmas.List.{length-map, length-take-le, append_cancel_left, nil_from_length, take_at, take_rest, take-append-drop}
use Rattle.encoding_mem.specs.calls.EncoderCalls.{Encodes, reported_item}
use Rattle.encoding_mem.specs.declared.codec.encoder_result.EncoderResult.{EncoderResult}
use lib.Dec.{eqb}
use Rattle.std.specs.Char.Escape.{encode_utf16}
use Rattle.std.specs.Char.Utf16.{surrogate_pair_char, utf16_lossy_chars}
use Rattle.std.specs.Option.{unwrap_or}
use Rattle.std.proofs.Math.Utf8.{scalar_cases}
use Rattle.std.proofs.str.Utf16.{lone_unit_char_low, lone_unit_char_high}
use Rattle.std.specs.Cmp.Lexicographic.{pointwise}
use Rattle.std.proofs.lemmas.Slice.Eq.{bytes_eq-Decides}
use Rattle.std.proofs.lemmas.Str.{chars-append, chars-encodes, chars-nil, encodes-append, encodes-chars}
use Rattle.encoding_mem.specs.calls.Writing.{Adds, encode_utf16_all}
use Rattle.encoding_mem.proofs.UnitPrefixLemmas.{char_of, one, pair_or_not, reads_text, two}
use Rattle.encoding_mem.specs.laws.ReadCalls.{scalars_parts}
use Rattle.encoding_mem.specs.laws.Writing.{encode_utf16_all-append}
use Rattle.encoding_mem.proofs.Utf16Lemmas.{no_units}
use Rattle.recode.specs.calls.CodecCalls.{DecodeCallEndsWith}
use Rattle.recode.specs.calls.PivotText.{Holds}
use Rattle.recode.specs.declared.job.Pivot.{Pivot}
use Rattle.recode.specs.declared.job.Pivot.TheVariants.{Utf8, Utf16}

-- what a call wrote to the start
pub written_prefix : (old new added : List ℕ) (n : ℕ) → Adds old 0 added new n → take n new ≡ added
written_prefix old new added n a = ap (take n) a.list ∙ take_at added (drop n old) n (omega (arith, a.counted))

pub written_within : (old new added : List ℕ) (n : ℕ) → length new ≡ length old → Adds old 0 added new n → n ≤ length new
written_within old new added n same a = omega (arith, a.within)

-- a call that wrote so says what the pivot holds
pub written_to : (before after : DecoderState) (src : List ℕ) (last : Bool) (read : ℕ) (W V : List ℕ → Type 0) (outcome : DecoderResult)
    → StateLaw before after src last read W outcome → ((t : List ℕ) → W t → V t) → StateLaw before after src last read V outcome
written_to before after src last read W V outcome k f =
    record { taken = k.taken; well_formed = k.well_formed; within = k.within; counted = k.counted; writes = f (scalars k.taken) k.writes; rest = k.rest }

-- and how it ended, if the pivot has room
pub ends_of : (after : DecoderState) (unread : List ℕ) (last : Bool) (new : List ℕ) (written room replacement : ℕ) (outcome : DecoderResult)
    → EndsWith after unread last (length (drop written new)) room replacement outcome → room ≤ length new → DecodeCallEndsWith after unread last written outcome
ends_of after unread last new written room replacement InputEmpty e h = e
ends_of after unread last new written room replacement OutputFull e h = omega (arith, e.0, length-drop written new)
ends_of after unread last new written room replacement (Malformed a b) e h = tt

-- some elements are of some text
pub holds_some : (p : Pivot) (n : ℕ) (t : List ℕ) → Holds p n t → 0 < n → 0 < length t
holds_some (Utf8 bytes) n [] h some = absurd (omega (arith, length-take-le n bytes.now h.0, ap length h.1))
holds_some (Utf16 units) n [] h some = absurd (omega (arith, length-take-le n units.now h.0, ap length h.1))
holds_some p n (c ∷ t) h some = omega arith

-- ---- the two forms of text

plain : (c : ℕ) → scalar c ≡ true → c < 0x1_0000 → (char_of c ≡ c) × (0xD800 ≤ c → c < 0xDC00 → ⊥)
plain c is small = elim (scalar_cases c is) [
  | inl low ↦ (ap (λ o. unwrap_or o 0xFFFD) (lone_unit_char_low c low), λ h k. absurd (omega arith))
  | inr high ↦ (ap (λ o. unwrap_or o 0xFFFD) (lone_unit_char_high c high.0), λ h k. absurd (omega arith))
]

scalar_back : (c : ℕ) (units : List ℕ) → scalar c ≡ true → utf16_lossy_chars (encode_utf16 c ++ units) ≡ c ∷ utf16_lossy_chars units
scalar_back c units is = elim (cases_lt c 0x1_0000) [
  | inl small ↦ (let p = plain c is small in
      rw (lt-ltb c 0x1_0000 small) (one c units (λ q. p.1 q.0.0 (omega (arith, q.0))) ∙ ap (λ x. x ∷ utf16_lossy_chars units) p.0))
  | inr great ↦ (let below : c < 0x11_0000 = elim (scalar_cases c is) [ inl low ↦ omega arith | inr high ↦ omega (arith, high.1) ] in
      rw (le-ltb c 0x1_0000 great) (two _ _ units ((omega arith, omega arith), (omega arith, omega arith)) ∙ ap (λ x. x ∷ utf16_lossy_chars units) (omega arith)))
]

before_units : (cs units : List ℕ) → all_scalars cs ≡ true → utf16_lossy_chars (encode_utf16_all cs ++ units) ≡ cs ++ utf16_lossy_chars units
before_units [] units h = refl
before_units (c ∷ cs) units h =
    let parts = and_parts (scalar c) (all_scalars cs) h in
    ap utf16_lossy_chars (append_assoc (encode_utf16 c) (encode_utf16_all cs) units) ∙ scalar_back c (encode_utf16_all cs ++ units) parts.0 ∙ ap (λ l. c ∷ l) (before_units cs units parts.1)

-- how characters are spelled, and how what spells them is read
pub record IsForm (spell read : List ℕ → List ℕ) : Type 0 where
  pub both : (a b : List ℕ) → spell (a ++ b) ≡ spell a ++ spell b
  pub before : (cs xs : List ℕ) → all_scalars cs ≡ true → read (spell cs ++ xs) ≡ cs ++ read xs
  pub none : read [] ≡ []

pub utf8 : IsForm encode_utf8_all chars
utf8 = record { both = encodes-append; before = λ cs xs h. chars-append (encode_utf8_all cs) xs (cs, (h, refl)) ∙ ap (λ l. l ++ chars xs) (chars-encodes cs h); none = chars-nil }

pub utf16 : IsForm encode_utf16_all utf16_lossy_chars
utf16 = record { both = encode_utf16_all-append; before = before_units; none = no_units [] refl }

module _ {spell read : List ℕ → List ℕ} (form : IsForm spell read) where
  pub text_of : (t part : List ℕ) → all_scalars t ≡ true → part ≡ spell t → read part ≡ t
  text_of t part h e = ap read (e ∙ sym (append-nil (spell t))) ∙ form.before t [] h ∙ ap (λ l. t ++ l) form.none ∙ append-nil t

  -- what spells scalars is a text
  pub spelled : (t part : List ℕ) → all_scalars t ≡ true → part ≡ spell t → (all_scalars (read part) ≡ true) × (part ≡ spell (read part))
  spelled t part h e = rw (text_of t part h e) (h, e)

  -- it has no characters if it has no elements
  pub empty : (x : List ℕ) (b : Bool) → b ≡ (length x == 0) → x ≡ spell (read x) → IsTrue b ↔ (read x ≡ [])
  empty x b is whole =
      let nothing : length (spell []) ≡ 0 = omega (arith, ap length (form.both [] []), length-append (spell []) (spell [])) in
      (λ h. ap read (nil_from_length x (eqb-true (length x) 0 (sym is ∙ h))) ∙ form.none, λ h. is ∙ eq-eqb (length x) 0 (ap length (whole ∙ ap spell h) ∙ nothing))

  -- how what follows a text is spelled
  rest_spelled : (x p r cp d : List ℕ) → x ≡ spell (read x) → p ≡ spell cp → x ≡ p ++ r → read x ≡ cp ++ d → r ≡ spell d
  rest_spelled x p r cp d whole start cut parts = append_cancel_left (spell cp) r (spell d) (ap (λ l. l ++ r) (sym start) ∙ sym cut ∙ whole ∙ ap spell parts ∙ form.both cp d)

  -- What is left after a text with which another begins: how both are spelled says how it is.
  pub left_behind : (x p r : List ℕ) → all_scalars (read x) ≡ true → x ≡ spell (read x) → all_scalars (read p) ≡ true → p ≡ spell (read p) → x ≡ p ++ r → (read x ≡ read p ++ read r) × (all_scalars (read r) ≡ true) × (r ≡ spell (read r))
  left_behind x p r are whole starts start cut =
      let parts : read x ≡ read p ++ read r = ap read (cut ∙ ap (λ l. l ++ r) start) ∙ form.before (read p) r starts in
      (parts, (scalars_parts (read p) (read r) (rw parts at are)).1, rest_spelled x p r (read p) (read r) whole start cut parts)

  -- If its characters begin with another's, so does what it is spelled with.
  pub begins_spelled : (x p more : List ℕ) → x ≡ spell (read x) → p ≡ spell (read p) → read x ≡ read p ++ more → x ≡ p ++ spell more
  begins_spelled x p more whole start is = whole ∙ ap spell is ∙ form.both (read p) more ∙ ap (λ l. l ++ spell more) (sym start)

-- the characters of a prefix that was read, and of the rest
pub bytes_passed : (text prefix back : List ℕ) (n m : ℕ) → IsUtf8 prefix → m ≡ length (chars prefix) → prefix ≡ take n text → back ≡ drop n text → m + length (chars back) ≡ length (chars text)
bytes_passed text prefix back n m u e f g =
    let whole : text ≡ prefix ++ back = sym (take-append-drop n text) ∙ ap (λ x. x ++ drop n text) (sym f) ∙ ap (λ x. prefix ++ x) (sym g) in
    omega (arith, e, ap (λ x. length (chars x)) whole, ap length (chars-append prefix back u), length-append (chars prefix) (chars back))

-- the characters of units that were read, and of the rest, which is a slice
pub units_passed : (units prefix : List ℕ) (n m : ℕ) → utf16_lossy_chars units ≡ prefix ++ utf16_lossy_chars (drop n units) → m ≡ length (utf16_lossy_chars (take n units))
    → m + length (utf16_lossy_chars (take (length units - n) (drop n units))) ≡ length (utf16_lossy_chars units)
units_passed units prefix n m is e =
    omega (arith, e, ap length is, length-append prefix (utf16_lossy_chars (drop n units)), ap length (reads_text units prefix n is), ap (λ x. length (utf16_lossy_chars x)) (take_rest units n))

-- ---- a text that is cut

-- units are no more than what their characters are spelled with, so a text that is cut between characters is cut into two
encode_long : (c : ℕ) → (1 ≤ length (encode_utf16 c)) × (0x1_0000 ≤ c → 2 ≤ length (encode_utf16 c))
encode_long c = elim (cases_lt c 0x1_0000) [ inl small ↦ rw (lt-ltb c 0x1_0000 small) (omega arith) | inr great ↦ rw (le-ltb c 0x1_0000 great) (omega arith) ]

units_long : (us : List ℕ) → length us ≤ length (encode_utf16_all (utf16_lossy_chars us))
units_long [] = omega arith
units_long (u ∷ []) = elim (pair_or_not u 0) [
  | inl pair ↦ absurd (omega (arith, pair.1))
  | inr apart ↦ rw (one u [] apart) (omega (arith, (encode_long (char_of u)).0, length-append (encode_utf16 (char_of u)) (encode_utf16_all (utf16_lossy_chars []))))
]
units_long (u ∷ v ∷ us) = elim (pair_or_not u v) [
  | inl pair ↦
      let c : ℕ = surrogate_pair_char u v in
      rw (two u v us pair) (omega (arith, units_long us, (encode_long c).1 (omega (arith, pair.0, pair.1)), length-append (encode_utf16 c) (encode_utf16_all (utf16_lossy_chars us))))
  | inr apart ↦ rw (one u (v ∷ us) apart) (omega (arith, units_long (v ∷ us), (encode_long (char_of u)).0, length-append (encode_utf16 (char_of u)) (encode_utf16_all (utf16_lossy_chars (v ∷ us)))))
]

cut_at : (a b c d : List ℕ) → a ++ b ≡ c ++ d → length a ≡ length c → a ≡ c
cut_at a b c d same long = sym (take_at a b (length c) (omega (arith, long))) ∙ ap (take (length c)) same ∙ take_at c d (length c) (omega arith)

pub units_cut : (x a b : List ℕ) → all_scalars (utf16_lossy_chars x) ≡ true → x ≡ encode_utf16_all (utf16_lossy_chars x) → x ≡ a ++ b → utf16_lossy_chars x ≡ utf16_lossy_chars a ++ utf16_lossy_chars b
    → (a ≡ encode_utf16_all (utf16_lossy_chars a)) × (b ≡ encode_utf16_all (utf16_lossy_chars b))
units_cut x a b are whole cut parts =
    let ea = encode_utf16_all (utf16_lossy_chars a) in
    let eb = encode_utf16_all (utf16_lossy_chars b) in
    let both : a ++ b ≡ ea ++ eb = sym cut ∙ whole ∙ ap encode_utf16_all parts ∙ encode_utf16_all-append (utf16_lossy_chars a) (utf16_lossy_chars b) in
    let long : length a ≡ length ea = omega (arith, units_long a, units_long b, ap length both, length-append a b, length-append ea eb) in
    let first : a ≡ ea = cut_at a b ea eb both long in
    (first, append_cancel_left a b eb (both ∙ ap (λ l. l ++ eb) (sym first)))

-- what `strip_prefix` of a slice returns
pub no_start : (x p : List ℕ) → pointwise eqb (take (length p) x) p ≡ false → (rest : List ℕ) → x ≡ p ++ rest → ⊥
no_start x p differs rest is =
    let same : take (length p) x ≡ p = ap (take (length p)) is ∙ take_at p rest (length p) (omega arith) in
    absurd (true≢false (sym ((bytes_eq-Decides (take (length p) x) p).1 same) ∙ differs))

pub starts : (x p r : List ℕ) → pointwise eqb (take (length p) x) p ≡ true → r ≡ drop (length p) x → x ≡ p ++ r
starts x p r equal behind =
    let same : take (length p) x ≡ p = (bytes_eq-Decides (take (length p) x) p).0 equal in
    sym (take-append-drop (length p) x) ∙ ap (λ l. l ++ drop (length p) x) same ∙ ap (λ l. p ++ l) (sym behind)

-- how a text is spelled that is cut into two
pub bytes_parts : (text prefix back : List ℕ) (n : ℕ) → IsUtf8 prefix → all_scalars (chars text) ≡ true → text ≡ encode_utf8_all (chars text) → prefix ≡ take n text → back ≡ drop n text
    → (chars text ≡ chars prefix ++ chars back) × ((all_scalars (chars prefix) ≡ true) × (prefix ≡ encode_utf8_all (chars prefix))) × ((all_scalars (chars back) ≡ true) × (back ≡ encode_utf8_all (chars back)))
bytes_parts text prefix back n u are whole f g =
    let cut : text ≡ prefix ++ back = sym (take-append-drop n text) ∙ ap (λ x. x ++ drop n text) (sym f) ∙ ap (λ x. prefix ++ x) (sym g) in
    let start : prefix ≡ encode_utf8_all (chars prefix) = sym (encodes-chars prefix u) in
    let parts : chars text ≡ chars prefix ++ chars back = ap chars cut ∙ chars-append prefix back u in
    let both = scalars_parts (chars prefix) (chars back) (rw parts at are) in
    (parts, (both.0, start), (both.1, rest_spelled utf8 text prefix back (chars prefix) (chars back) whole start cut parts))

pub units_parts : (units prefix back : List ℕ) (n : ℕ) → all_scalars (utf16_lossy_chars units) ≡ true → units ≡ encode_utf16_all (utf16_lossy_chars units) → utf16_lossy_chars units ≡ prefix ++ utf16_lossy_chars (drop n units) → back ≡ drop n units
    → (utf16_lossy_chars units ≡ utf16_lossy_chars (take n units) ++ utf16_lossy_chars back) × ((all_scalars (utf16_lossy_chars (take n units)) ≡ true) × (take n units ≡ encode_utf16_all (utf16_lossy_chars (take n units))))
    × ((all_scalars (utf16_lossy_chars back) ≡ true) × (back ≡ encode_utf16_all (utf16_lossy_chars back)))
units_parts units prefix back n are whole is g =
    let parts : utf16_lossy_chars units ≡ utf16_lossy_chars (take n units) ++ utf16_lossy_chars back =
    is ∙ ap (λ l. l ++ utf16_lossy_chars (drop n units)) (reads_text units prefix n is) ∙ ap (λ l. utf16_lossy_chars (take n units) ++ utf16_lossy_chars l) (sym g) in
    let cut : units ≡ take n units ++ back = sym (take-append-drop n units) ∙ ap (λ l. take n units ++ l) (sym g) in
    let k = units_cut units (take n units) back are whole cut parts in
    let both = scalars_parts (utf16_lossy_chars (take n units)) (utf16_lossy_chars back) (subst (λ l. all_scalars l ≡ true) parts are) in
    (parts, (both.0, k.0), (both.1, k.1))

-- of texts in a row
pub open_items-append : (ref : Reference) (e : Coding) (s : EscapeState) (i : ℕ) (a b : List ℕ) → open_items ref e s i (a ++ b) ≡ open_items ref e s i a ++ open_items ref e (last_set e s a) (i + length a) b
open_items-append ref e s i [] b = ap (λ (n : ℕ). open_items ref e s n b) (sym (add-zero i))
open_items-append ref e s i (c ∷ a) b =
    let same : i + suc (length a) ≡ i + 1 + length a = omega arith in
    let bytes = map Byte (e.escape s (e.set s c)) in
    let rest = open_items ref e (last_set e (e.set s c) a) (i + 1 + length a) b in
    rw (same, open_items-append ref e (e.set s c) (i + 1) a b, append_assoc bytes (form_items ref i (e.form c) ++ open_items ref e (e.set s c) (i + 1) a) rest, append_assoc (form_items ref i (e.form c)) (open_items ref e (e.set s c) (i + 1) a) rest) refl

-- of well-formed pieces, and then others
pub trace_well_formed : (ref : Reference) (e : Coding) (s : EscapeState) (offset i : ℕ) (ps qs : List Piece) → AreWellFormed ps
    → trace_from ref e s offset i (ps ++ qs) ≡ open_items ref e s i (scalars ps) ++ trace_from ref e (last_set e s (scalars ps)) (offset + sizes ps) (i + length (scalars ps)) qs
trace_well_formed ref e s offset i [] qs h = ap (λ (n : ℕ). trace_from ref e s n i qs) (sym (add-zero offset)) ∙ ap (λ (n : ℕ). trace_from ref e s (offset + 0) n qs) (sym (add-zero i))
trace_well_formed ref e s offset i (well_formed n cs ∷ ps) qs h =
    let t = scalars ps in
    let at : offset + (n + sizes ps) ≡ offset + n + sizes ps = omega arith in
    let index : i + length (cs ++ t) ≡ i + length cs + length t = omega (arith, length-append cs t) in
    let rest = trace_from ref e (last_set e (last_set e s cs) t) (offset + n + sizes ps) (i + length cs + length t) qs in
    rw (at, index, trace_well_formed ref e (last_set e s cs) (offset + n) (i + length cs) ps qs h.1, open_items-append ref e s i cs t, last_set-append e s cs t, append_assoc (open_items ref e s i cs) (open_items ref e (last_set e s cs) (i + length cs) t) rest) refl
trace_well_formed ref e s offset i (malformed n ∷ ps) qs h = absurd h.0

-- What pieces keep.
pub prefix_pieces : (ps qs : List Piece) → ArePieces (ps ++ qs) → ArePieces ps
prefix_pieces [] qs h = tt
prefix_pieces (p ∷ ps) qs h = (h.0, prefix_pieces ps qs h.1)

pub few_scalars : (ps : List Piece) → ArePieces ps → AreWellFormed ps → length (scalars ps) ≤ sizes ps
few_scalars [] h k = omega arith
few_scalars (well_formed n cs ∷ ps) h k = omega (arith, h.0.few, few_scalars ps h.1 k.1, length-append cs (scalars ps))
few_scalars (malformed n ∷ ps) h k = absurd k.0

all_scalars-append : (a b : List ℕ) → all_scalars a ≡ true → all_scalars b ≡ true → all_scalars (a ++ b) ≡ true
all_scalars-append [] b h k = k
all_scalars-append (c ∷ a) b h k =
    let parts = and_parts (scalar c) (all_scalars a) h in
    ap (λ y. y && all_scalars (a ++ b)) parts.0 ∙ all_scalars-append a b parts.1 k

pub scalars_are : (ps : List Piece) → ArePieces ps → all_scalars (scalars ps) ≡ true
scalars_are [] h = refl
scalars_are (p ∷ ps) h = all_scalars-append (piece_scalars p) (scalars ps) h.0.are_scalars (scalars_are ps h.1)

-- whatever text was written is this one
abbrev pub IsText : (List ℕ → Type 0) → List ℕ → Type 0
IsText W text = (t : List ℕ) → all_scalars t ≡ true → W t → text ≡ t

-- What a call of a decoder took, in words of the text that it wrote: pieces with that text, then what it reported.
pub record IsDecoded (before after : DecoderState) (src : List ℕ) (last : Bool) (read : ℕ) (answer : DecoderResult) (t : List ℕ) : Type 0 where
  pub front : List Piece
  pub fine : AreWellFormed front
  pub text_is : t ≡ scalars front
  pub within : read ≤ length src
  pub fits : length t ≤ sizes front
  pub counted : before.pending + read ≡ sizes front + sizes (reported (Some answer)) + after.pending
  pub rest : (r : List ℕ) → (last ≡ true → r ≡ []) → before.pieces (src ++ r) ≡ front ++ (reported (Some answer) ++ after.pieces (drop read src ++ r))
  pub malformed : (a b : ℕ) → answer ≡ Malformed a b → (1 ≤ a) × (a ≤ 4) × (after.pending ≡ b)

-- the last of some pieces
last_piece : (ps : List Piece) (p : Piece) → ArePieces (ps ++ p ∷ []) → IsPiece p
last_piece [] p h = h.0
last_piece (q ∷ ps) p h = last_piece ps p h.1

module _ (before after : DecoderState) (src : List ℕ) (last : Bool) (read : ℕ) (W : List ℕ → Type 0) where
  are_taken : {P : List Piece → Type 0} (k : Takes P before.pieces after.pieces src last before.pending after.pending read W) → ArePieces k.taken
  are_taken k = prefix_pieces k.taken (after.pieces (drop read src ++ [])) (subst ArePieces (k.rest [] (λ _. refl)) (before.are_pieces (src ++ [])))

  -- some text was written
  pub some_written : (answer : DecoderResult) → StateLaw before after src last read W answer → (t : List ℕ) × (all_scalars t ≡ true) × W t
  some_written answer k = (scalars k.taken, scalars_are k.taken (are_taken k), k.writes)

  pub written_some : (t : List ℕ) (answer : DecoderResult) → StateLaw before after src last read W answer → IsText W t → ((t : List ℕ) → W t → 0 < length t) → 0 < length t
  written_some t answer k is some = let w = some_written answer k in omega (arith, ap length (is w.0 w.1 w.2), some w.0 w.2)

  -- a call that met no malformed sequence
  well_formed_call : {P : List Piece → Type 0} (t : List ℕ) (answer : DecoderResult) (k : Takes P before.pieces after.pieces src last before.pending after.pending read W) → AreWellFormed k.taken → IsText W t
      → reported (Some answer) ≡ [] → ((a b : ℕ) → answer ≡ Malformed a b → ⊥) → IsDecoded before after src last read answer t
  well_formed_call t answer k fine is none not =
      let same : t ≡ scalars k.taken = is (scalars k.taken) (scalars_are k.taken (are_taken k)) k.writes in
      record {
        front = k.taken;
        fine = fine;
        text_is = same;
        within = k.within;
        fits = omega (arith, ap length same, few_scalars k.taken (are_taken k) fine);
        counted = omega (arith, k.counted, ap sizes none);
        rest = λ r h. k.rest r h ∙ ap (λ ps. k.taken ++ (ps ++ after.pieces (drop read src ++ r))) (sym none);
        malformed = λ a b e. absurd (not a b e);
      }

  pub decoded_by : (t : List ℕ) (answer : DecoderResult) → StateLaw before after src last read W answer → IsText W t → IsDecoded before after src last read answer t
  decoded_by t InputEmpty k is = well_formed_call t InputEmpty k k.well_formed is refl (λ a b e. cc)
  decoded_by t OutputFull k is = well_formed_call t OutputFull k k.well_formed is refl (λ a b e. cc)
  decoded_by t (Malformed a b) k is =
      let front : List Piece = k.well_formed.4.0 in
      let fine : AreWellFormed front = k.well_formed.4.1 in
      let cut : k.taken ≡ front ++ (malformed a ∷ []) = k.well_formed.4.2 in
      let are : ArePieces (front ++ (malformed a ∷ [])) = subst ArePieces cut (are_taken k) in
      let same : t ≡ scalars front = is (scalars k.taken) (scalars_are k.taken (are_taken k)) k.writes ∙ ap scalars cut ∙ scalars-append front (malformed a ∷ []) ∙ append-nil (scalars front) in
      record {
        front = front;
        fine = fine;
        text_is = same;
        within = k.within;
        fits = omega (arith, ap length same, few_scalars front (prefix_pieces front (malformed a ∷ []) are) fine);
        counted = omega (arith, k.counted, ap sizes cut, sizes-append front (malformed a ∷ []), k.well_formed.0);
        rest = λ r h. k.rest r h ∙ ap (λ ps. ps ++ after.pieces (drop read src ++ r)) cut ∙ append_assoc front (malformed a ∷ []) (after.pieces (drop read src ++ r));
        malformed = λ m n e.
            let one : m ≡ a = cc in
            let two : n ≡ b = cc in
            rw (one, two) ((last_piece front (malformed a) are).some, k.well_formed.1, k.well_formed.0);
      }

-- fewer pieces are left, if some text was written
pub fewer_left : (before after : DecoderState) (src : List ℕ) (last : Bool) (read : ℕ) (answer : DecoderResult) (t : List ℕ) → IsDecoded before after src last read answer t → 0 < length t → length (after.pieces (drop read src)) < length (before.pieces src)
fewer_left before after src last read answer t k some =
    let tail = reported (Some answer) ++ after.pieces (drop read src) in
    let e : before.pieces src ≡ k.front ++ tail = ap before.pieces (sym (append-nil src)) ∙ k.rest [] (λ _. refl) ∙ ap (λ x. k.front ++ (reported (Some answer) ++ after.pieces x)) (append-nil (drop read src)) in
    omega (arith, ap length e, length-append k.front tail, length-append (reported (Some answer)) (after.pieces (drop read src)), some_taken k.front (omega (arith, some, ap length k.text_is)))
  where
    some_taken : (ps : List Piece) → 0 < length (scalars ps) → 0 < length ps
    some_taken [] h = h
    some_taken (p ∷ ps) h = omega arith

-- at the end nothing is left to write
pub none_owed : (ref : Reference) {need : ℕ} (after : DecoderState) (e : Coding) (s : EscapeState) (c : Counts) → IsCoding need e → s ≡ Ascii → after.pieces [] ≡ [] → trace_to_write ref after e s c [] ≡ []
none_owed ref after e s c law set_is none =
    ap (trace_from ref e s (c.read - after.pending) c.index) none ∙ ap (closing e) set_is ∙ ap (map Byte) (law.same Ascii)

pub turn_items : (ref : Reference) {need : ℕ} (e : Coding) (last : Bool) (outcome : EncoderResult) (s : EscapeState) (text written : List ℕ) (s' : EscapeState) (rest : List ℕ) (i i' : ℕ) → IsCoding need e
    → Encodes e last outcome s text written s' rest → i' + length rest ≡ i + length text
    → whole_items ref e last s i text ≡ map Byte written ++ (reported_item ref i' outcome ++ whole_items ref e last s' i' rest)
turn_items ref e last outcome s text written s' rest i i' laws call passed =
    let k = encoded_items ref e last outcome s text written s' rest laws call in
    let at : i + length k.prefix ≡ i' = omega (arith, ap length k.split, length-append k.prefix rest) in
    let P : ℕ → Type 0 = λ n. whole_items ref e last s i text ≡ map Byte written ++ (reported_item ref n outcome ++ whole_items ref e last s' n rest) in
    subst P at (k.items i)

-- for each byte an item less is still to be written
pub items_less : (a b more : List Item) (bytes : List ℕ) (n : ℕ) → a ≡ map Byte (take n bytes) ++ (more ++ b) → n ≤ length bytes → n + length b ≤ length a
items_less a b more bytes n e fits = omega (arith, ap length e, length-append (map Byte (take n bytes)) (more ++ b), length-append more b, length-map (take n bytes) Byte, length-take-le n bytes fits)
