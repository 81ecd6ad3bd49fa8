-- What is written for a character, and what it reads back as.
use Rattle.std.proofs.Common.{◌≡◌, ℕ, zero, suc, ◌+◌, ◌<◌, ◌≤◌, ◌==◌, ◌&&◌, inl, inr, Bool, true, false, cond, List, [], ◌∷◌, ◌++◌, Option, Some, None, length, take, drop, refl, sym, ◌∙◌, ap, subst, arith, append-nil, encode_utf8_all, length-append}
use Rattle.std.specs.Char.{encode_utf8}
use Rattle.std.specs.Str.{all_scalars, chars, IsAscii, IsUtf8}
use Rattle.std.proofs.Math.Utf8.{scalar}
use Rattle.std.proofs.lemmas.Bool.{and_parts, cases_lt, eq-eqb, ne_eqb, false≢true}
use Rattle.std.proofs.lemmas.List.{length-drop}
use Rattle.std.proofs.lemmas.Option.{none-some, same_Some}
use Rattle.std.proofs.lemmas.Str.{IsUtf8-past_char, chars-nil, chars_from_encodes, chars_past_char, encodes-chars}
use Rattle.encoding_mem.specs.Coding.{Coding, IsMapped, bytes_from, last_set, output}
use Rattle.encoding_mem.specs.Piece.{Piece, malformed, head_piece, malformed_count, piece_text, scalars, text, AreWellFormed}
use Rattle.encoding_mem.specs.Pieces.{pieces_in}
use Rattle.encoding_mem.specs.Utf8Coding.{utf8_coding}
use Rattle.encoding_mem.specs.Utf8.{pieces_utf8}
use Rattle.encoding_mem.specs.laws.ReadBack.{utf8_exact}
use Rattle.encoding_mem.specs.calls.Decoding.{DecoderState, EndsWith, StateLaw}
use Rattle.encoding_mem.specs.calls.EncoderCalls.{Encodes}
use Rattle.encoding_mem.specs.calls.Writing.{Adds}
use Rattle.encoding_mem.specs.declared.codec.decoder_result.DecoderResult.{DecoderResult}
use Rattle.encoding_mem.specs.declared.codec.decoder_result.DecoderResult.TheVariants.{InputEmpty, OutputFull, Malformed}
use Rattle.encoding_mem.specs.declared.codec.encoder_result.EncoderResult.{EncoderResult}
use Rattle.encoding_mem.specs.declared.codec.encoder_result.EncoderResult.TheVariants.{Unmappable}
use Rattle.encoding_mem.specs.declared.codec.encoder_result.EncoderResult.TheVariants as encoder
use Rattle.encoding_mem.specs.declared.codec.form.Form.{Form}
use Rattle.encoding_mem.specs.declared.codec.form.Form.TheVariants.{Mapped, Unmapped}
use Rattle.encoding_mem.specs.declared.codec.form.EscapeState.{EscapeState}
use Rattle.encoding_mem.specs.declared.codec.form.EscapeState.TheVariants.{Ascii}
use Rattle.encoding_mem.specs.declared.codec.reference.Reference.TheVariants.{Decimal}
use Rattle.encoding_mem.specs.laws.EncoderCalls.{mapped_open}
use Rattle.encoding_mem.specs.laws.Piece.{text-append, malformed_count-append, well_formed_count, well_formed_text}
use Rattle.encoding_tables.specs.IndexLists.{IndexLists}
use Rattle.encoding_codecs.specs.Iso2022Jp.{pieces_in_mode}
use Rattle.encoding_front.specs.Codecs.{codec_of}
use Rattle.encoding_front.specs.Encodings.{coding_of, is_ascii_compatible_of, output_encoding_of, pieces_of}
use Rattle.encoding_front.specs.EncodingTable.{codec_kind_of}
use Rattle.encoding_front.specs.calls.DecoderCall.{DecoderCall, free_bytes}
use Rattle.encoding_front.specs.calls.Stream.{DecoderView, is_input_empty}
use Rattle.encoding_front.specs.calls.Encoder.{Encoded, EncoderState, coding_in, new_state, room_without_reference}
use Rattle.encoding_front.specs.laws.Encoder.{output_twice}
use Rattle.encoding_front.specs.declared.encoding.Encoding.{Encoding}
use Rattle.recode_places.specs.Fates.{AreAllKept, Target, fate_by, fate_by_form, fate_of, fate_read_back, only_one, read_alone}
use Rattle.recode_places.specs.calls.FatesViews.{IsWrittenAs}
use Rattle.recode_places.specs.calls.LogViews.{NamesFound}
use Rattle.recode_places.specs.declared.entry.Finding.{Finding}
use Rattle.recode_places.specs.declared.entry.Finding.TheVariants as found
use Rattle.recode_places.specs.declared.fates.Fate.{Fate}
use Rattle.recode_places.specs.declared.fates.Fate.TheVariants.{Folded, Kept, Lost}
use Rattle.recode_places.proofs.LineLemmas.{heads}

-- ---- what was written

same_one : (c d : ℕ) (before rest : List ℕ) → c ∷ [] ≡ before ++ (d ∷ rest) → (before ≡ []) × (c ≡ d)
same_one c d [] rest e = (refl, heads c d [] rest e)
same_one c d (x ∷ before) rest e = absurd (omega (arith, ap length e, length-append before (d ∷ rest)))

module _ (e : Coding) (c : ℕ) (written rest : List ℕ) (s : EscapeState) where
  pub written_whole : Encodes e true encoder.InputEmpty Ascii (c ∷ []) written s rest → IsMapped (e.form c) × (written ≡ output Decimal e (c ∷ []))
  written_whole k =
      let all : k.before ≡ c ∷ [] = sym (append-nil k.before) ∙ ap (λ l. k.before ++ l) (sym k.leaves.0) ∙ sym k.split in
      let mapped = rw all at k.mapped in (
        mapped.0,
        k.bytes ∙ ap (λ t. bytes_from e Ascii t ++ e.escape (last_set e Ascii t) s) all
            ∙ ap (λ u. bytes_from e Ascii (c ∷ []) ++ e.escape (last_set e Ascii (c ∷ [])) u) k.leaves.2
            ∙ ap (λ w. w ++ e.escape (last_set e Ascii (c ∷ [])) Ascii) (sym (mapped_open Decimal e Ascii (c ∷ []) mapped)),
      )

  pub written_none : (m : ℕ) → Encodes e true (Unmappable m) Ascii (c ∷ []) written s rest → ¬ (IsMapped (e.form c))
  written_none m k = λ mapped.
      let same = same_one c k.leaves.0 k.before rest (k.split ∙ ap (λ l. k.before ++ l) k.leaves.1) in
      subst IsMapped (ap e.form same.1 ∙ k.leaves.2) mapped

-- ---- what was read

read_well_formed : (ps : List Piece) → AreWellFormed ps → read_alone ps ≡ only_one (text ps)
read_well_formed ps h = rw (eq-eqb (malformed_count ps) 0 (well_formed_count ps h)) refl

read_malformed : (ps : List Piece) → 0 < malformed_count ps → read_alone ps ≡ None
read_malformed ps h = rw (ne_eqb (malformed_count ps) 0 (λ e. omega (arith, h, e))) refl

many : (t : List ℕ) → 1 < length t → only_one t ≡ None
many [] h = absurd (omega (arith, h))
many (c ∷ []) h = absurd (omega (arith, h))
many (c ∷ d ∷ t) h = refl

read_many : (ps : List Piece) → 1 < length (text ps) → read_alone ps ≡ None
read_many ps h = by (malformed_count ps == 0)
  where
    by : (t : Bool) → cond t (only_one (text ps)) None ≡ None
    by true = many (text ps) h
    by false = refl

some_head : (ps : List Piece) (p : Piece) → head_piece ps ≡ Some p → length (piece_text p) ≤ length (text ps)
some_head [] p e = absurd (none-some p e)
some_head (q ∷ ps) p e = omega (arith, ap (λ r. length (piece_text r)) (same_Some q p e), length-append (piece_text q) (text ps))

module _ (d d' : DecoderState) (src : List ℕ) (read : ℕ) (old new : List ℕ) (written : ℕ) where
  abbrev pub Call : DecoderResult → Type 0
  Call o = StateLaw d d' src true read (λ t. Adds old 0 (encode_utf8_all t) new written) o

  all_pieces : (o : DecoderResult) (k : Call o) → d.pieces src ≡ k.taken ++ d'.pieces (drop read src ++ [])
  all_pieces o k = ap d.pieces (sym (append-nil src)) ∙ k.rest [] (λ _. refl)

  pub read_whole : (free : ℕ) (k : Call InputEmpty) → EndsWith d' (drop read src) true free 4 3 InputEmpty → read_alone (d.pieces src) ≡ only_one (scalars k.taken)
  read_whole free k (unread, inl rested) =
      ap read_alone (all_pieces InputEmpty k ∙ ap (λ x. k.taken ++ d'.pieces (x ++ [])) unread ∙ ap (λ ps. k.taken ++ ps) rested.1 ∙ append-nil k.taken)
      ∙ read_well_formed k.taken k.well_formed ∙ ap only_one (well_formed_text k.taken k.well_formed)
  read_whole free k (unread, inr waits) = absurd (false≢true (sym waits.0))

  pub read_to_malformed : (a b : ℕ) (k : Call (Malformed a b)) → read_alone (d.pieces src) ≡ None
  read_to_malformed a b k =
      let last = k.well_formed.4 in
      let all = all_pieces (Malformed a b) k in
      read_malformed (d.pieces src) (omega (
        arith,
        ap malformed_count all,
        malformed_count-append k.taken (d'.pieces (drop read src ++ [])),
        ap malformed_count last.2,
        malformed_count-append last.0 (malformed a ∷ []),
      ))

  -- a call that wants more room has written some text, and has more to write
  pub read_to_full : (k : Call OutputFull) → 4 ≤ length old → EndsWith d' (drop read src) true (length (drop written new)) 4 3 OutputFull → read_alone (d.pieces src) ≡ None
  read_to_full k room ends =
      let all = all_pieces OutputFull k in
      let head = some_head (d'.pieces (drop read src ++ [])) ends.1.0 (ends.1.1 [] (λ _. refl)) in
      read_many (d.pieces src) (omega (
        arith,
        ap (λ ps. length (text ps)) all,
        ap length (text-append k.taken (d'.pieces (drop read src ++ []))),
        length-append (text k.taken) (text (d'.pieces (drop read src ++ []))),
        head,
        ends.1.2,
        some_taken,
        ap length (well_formed_text k.taken k.well_formed),
      ))
    where
      size : length (drop written new) + length (encode_utf8_all (scalars k.taken)) ≡ length old
      size = omega (
        arith,
        k.writes.counted,
        k.writes.within,
        ap length k.writes.list,
        length-drop written new,
        length-append (encode_utf8_all (scalars k.taken)) (drop written old),
        length-drop written old,
      )

      no_bytes : (t : List ℕ) → 0 < length (encode_utf8_all t) → 0 < length t
      no_bytes [] h = h
      no_bytes (c ∷ t) h = omega arith

      some_taken : 0 < length (scalars k.taken)
      some_taken = no_bytes (scalars k.taken) (omega (arith, size, room, ends.0))

-- ---- what is kept

-- `a` is kept in each encoding
pub starts_kept : (t : IndexLists) (e : Encoding) → fate_of (record { tables = t; encoding = e }) 0x61 ≡ Kept
unfolding fate_of pieces_in pieces_in_mode encode_utf8
starts_kept t Encoding.Big5 = refl
starts_kept t _ = refl

-- a test holds of all numbers below one
holds_below : (ℕ → Bool) → ℕ → Bool
holds_below f zero = true
holds_below f (suc n) = f n && holds_below f n

at_below : (f : ℕ → Bool) (n : ℕ) → holds_below f n ≡ true → (c : ℕ) → c < n → f c ≡ true
unfolding holds_below
at_below f zero h c less = absurd (omega (arith, less))
at_below f (suc n) h c less =
    let parts = and_parts (f n) (holds_below f n) h in
    elim (cases_lt c n) [
      | inl before ↦ at_below f n parts.1 c before
      | inr last ↦ subst (λ k. f k ≡ true) (let same : n ≡ c = omega (arith, less, last) in same) parts.0
    ]

is_kept : Fate → Bool
is_kept Kept = true
is_kept Lost = false
is_kept (Folded d) = false

kept_fate : (f : Fate) → is_kept f ≡ true → f ≡ Kept
unfolding is_kept
kept_fate Kept h = refl
kept_fate Lost h = absurd (false≢true h)
kept_fate (Folded d) h = absurd (false≢true h)

ascii_below : (t : IndexLists) (e : Encoding) → is_ascii_compatible_of e ≡ true → holds_below (λ c. is_kept (fate_of (record { tables = t; encoding = e }) c)) 128 ≡ true
unfolding holds_below is_kept fate_of pieces_in pieces_in_mode encode_utf8
ascii_below t Encoding.Big5 h = refl
ascii_below t Encoding.Iso2022Jp h = absurd (false≢true h)
ascii_below t Encoding.Replacement h = absurd (false≢true h)
ascii_below t Encoding.Utf16Be h = absurd (false≢true h)
ascii_below t Encoding.Utf16Le h = absurd (false≢true h)
ascii_below t _ h = refl

pub kept_ascii : (t : IndexLists) (e : Encoding) → is_ascii_compatible_of e ≡ true → (bs : List ℕ) → IsAscii bs → AreAllKept (record { tables = t; encoding = e }) bs
unfolding holds_below
kept_ascii t e compatible [] h = tt
kept_ascii t e compatible (b ∷ bs) h = (
  kept_fate (fate_of (record { tables = t; encoding = e }) b) (at_below (λ c. is_kept (fate_of (record { tables = t; encoding = e }) c)) 128 (ascii_below t e compatible) b (h 0)),
  kept_ascii t e compatible bs (λ i. h (suc i)),
)

read_one : (ps : List Piece) (c : ℕ) → AreWellFormed ps → text ps ≡ c ∷ [] → read_alone ps ≡ Some c
read_one ps c h same = read_well_formed ps h ∙ ap only_one same

kept_in_utf8 : (c : ℕ) → scalar c ≡ true → fate_by utf8_coding pieces_utf8 c ≡ Kept
kept_in_utf8 c h =
    let back = (utf8_exact Decimal (c ∷ []) (ap (λ b. b && true) h)).1 (tt, tt) in
    ap (fate_read_back c) (read_one (pieces_utf8 (output Decimal utf8_coding (c ∷ []))) c back.well_formed back.same) ∙ rw (eq-eqb c c refl) refl

pub kept_utf8 : (t : IndexLists) (e : Encoding) → output_encoding_of e ≡ Encoding.Utf8 → (cs : List ℕ) → all_scalars cs ≡ true → AreAllKept (record { tables = t; encoding = e }) cs
unfolding fate_of
kept_utf8 t e is [] h = tt
kept_utf8 t e is (c ∷ cs) h =
    let parts = and_parts (scalar c) (all_scalars cs) h in (
      subst (λ o. fate_by (codec_of t (codec_kind_of o)).coding (codec_of t (codec_kind_of o)).pieces c ≡ Kept) (sym is) (kept_in_utf8 c parts.0),
      kept_utf8 t e is cs parts.1,
    )

-- ---- room

-- what one character is written as takes at most 32 bytes
pub room_is_enough : (e : Encoding) (n : ℕ) → n ≤ 4 → room_without_reference e false n ≤ 32
room_is_enough Encoding.Big5 n h = omega (arith, h)
room_is_enough _ n h = omega (arith, h)

-- ---- a call of the encoder for one character

chars_of_one : (c : ℕ) (bs : List ℕ) → IsUtf8 bs → bs ≡ encode_utf8 c → chars bs ≡ c ∷ []
chars_of_one c bs utf8 e = sym (chars_from_encodes (c ∷ []) bs utf8 (append-nil (encode_utf8 c) ∙ sym e))

module _ (t : IndexLists) (e : Encoding) (c : ℕ) (x x' : EncoderState) (bs written rest : List ℕ) (room : ℕ) (is : x ≡ new_state t e) (utf8 : IsUtf8 bs) (alone : bs ≡ encode_utf8 c) where
  law_of_one : (o : EncoderResult) → Encoded x true o (chars bs) written x' rest room → Encodes (coding_of t e) true o Ascii (c ∷ []) written x'.set rest
  law_of_one o k =
      subst (λ l. Encodes (coding_of t e) true o Ascii l written x'.set rest) (chars_of_one c bs utf8 alone)
      (subst (λ f. Encodes f true o Ascii (chars bs) written x'.set rest) (ap (λ y. (codec_of t (codec_kind_of y)).coding) (output_twice e))
      (subst (λ y. Encodes (coding_in y) true o y.set (chars bs) written x'.set rest) is k.codec.law))

  pub one_whole : Encoded x true encoder.InputEmpty (chars bs) written x' rest room → IsMapped ((coding_of t e).form c) × (written ≡ output Decimal (coding_of t e) (c ∷ []))
  one_whole k = written_whole (coding_of t e) c written rest x'.set (law_of_one encoder.InputEmpty k)

  pub one_none : (m : ℕ) → Encoded x true (Unmappable m) (chars bs) written x' rest room → ¬ (IsMapped ((coding_of t e).form c))
  one_none m k = written_none (coding_of t e) c written rest x'.set m (law_of_one (Unmappable m) k)

  pub one_written : (o : EncoderResult) → ((m : ℕ) → o ≡ Unmappable m → ⊥) → ¬ (o ≡ encoder.OutputFull) → Encoded x true o (chars bs) written x' rest room → IsMapped ((coding_of t e).form c) × (written ≡ output Decimal (coding_of t e) (c ∷ []))
  one_written encoder.InputEmpty h k call = one_whole call
  one_written encoder.OutputFull h k call = absurd (k refl)
  one_written (Unmappable m) h k call = absurd (h m refl)

-- ---- the only character of a text

pub first_alone : (c : ℕ) (bs rest : List ℕ) → IsUtf8 bs → bs ≡ encode_utf8 c ++ rest → length rest ≡ 0 → Some c ≡ only_one (chars bs)
first_alone c bs [] utf8 e none = ap only_one (ap (λ t. c ∷ t) (sym chars-nil) ∙ sym (chars_past_char bs [] c utf8 e))
first_alone c bs (b ∷ rest) utf8 e none = absurd (omega (arith, none))

pub first_of_more : (c : ℕ) (bs rest : List ℕ) → IsUtf8 bs → bs ≡ encode_utf8 c ++ rest → ¬ (length rest ≡ 0) → None ≡ only_one (chars bs)
first_of_more c bs rest utf8 e some =
    by (chars rest) (encodes-chars rest (IsUtf8-past_char bs rest c utf8 e)) ∙ ap only_one (sym (chars_past_char bs rest c utf8 e))
  where
    by : (t : List ℕ) → encode_utf8_all t ≡ rest → None ≡ only_one (c ∷ t)
    by [] same = absurd (some (ap length (sym same)))
    by (d ∷ t) same = refl

-- ---- a call of the decoder for all bytes

module _ (v v' : DecoderView) (src : List ℕ) (read : ℕ) (old new : List ℕ) (written : ℕ) where
  abbrev pub WholeCall : DecoderResult → Type 0
  WholeCall o = DecoderCall v v' src true read (λ t. Adds old 0 (encode_utf8_all t) new written) (free_bytes (length (drop written new))) o

  pub read_if_whole : (o : DecoderResult) (k : WholeCall o) → o ≡ InputEmpty → read_alone (v.state.pieces src) ≡ only_one (scalars k.law.taken)
  read_if_whole InputEmpty k e = read_whole v.state v'.state src read old new written (length (drop written new)) k.law k.ends
  read_if_whole OutputFull k e = absurd (false≢true (ap is_input_empty e))
  read_if_whole (Malformed a b) k e = absurd (false≢true (ap is_input_empty e))

  pub read_if_not : (o : DecoderResult) → WholeCall o → 4 ≤ length old → ¬ (o ≡ InputEmpty) → read_alone (v.state.pieces src) ≡ None
  read_if_not InputEmpty k room n = absurd (n refl)
  read_if_not OutputFull k room n = read_to_full v.state v'.state src read old new written k.law room k.ends
  read_if_not (Malformed a b) k room n = read_to_malformed v.state v'.state src read old new written a b k.law

-- ---- what is found where nothing is reported

pub named_fold : (index c : ℕ) (folds : Bool) (becomes : Option ℕ) (f : Option Finding) → f ≡ cond folds (Some (found.Folded c becomes)) None → NamesFound index f []
named_fold index c true becomes f e = subst (λ g. NamesFound index g []) (sym e) refl
named_fold index c false becomes f e = subst (λ g. NamesFound index g []) (sym e) refl

-- ---- a fate by what was written and read

fate_lost : (c : ℕ) (o : Option ℕ) (f : Form) → ¬ (IsMapped f) → Lost ≡ fate_by_form c o f
fate_lost c o (Mapped bs) h = absurd (h tt)
fate_lost c o (Unmapped d) h = refl

fate_mapped : (c : ℕ) (o : Option ℕ) (f : Form) → IsMapped f → fate_read_back c o ≡ fate_by_form c o f
fate_mapped c o (Mapped bs) h = refl
fate_mapped c o (Unmapped d) h = absurd h

pub found_lost : (t : Target) (c : ℕ) (bytes : List ℕ) (o : Option ℕ) → o ≡ None → IsWrittenAs t c bytes o → Lost ≡ fate_of t c
unfolding fate_of
found_lost t c bytes None e h = fate_lost c _ ((coding_of t.tables t.encoding).form c) h
found_lost t c bytes (Some n) e h = absurd (none-some n (sym e))

pub found_read : (t : Target) (c : ℕ) (bytes : List ℕ) (n : ℕ) (o : Option ℕ) → IsWrittenAs t c bytes (Some n) → o ≡ read_alone (pieces_of t.tables (output_encoding_of t.encoding) (take n bytes)) → fate_read_back c o ≡ fate_of t c
unfolding fate_of
found_read t c bytes n o h e =
    ap (fate_read_back c) (e ∙ ap (λ x. read_alone (pieces_of t.tables (output_encoding_of t.encoding) x)) h.1)
    ∙ fate_mapped c (read_alone (pieces_of t.tables (output_encoding_of t.encoding) (output Decimal (coding_of t.tables t.encoding) (c ∷ [])))) ((coding_of t.tables t.encoding).form c) h.0

pub read_kept : (c d : ℕ) (o : Option ℕ) → o ≡ Some d → d ≡ c → Kept ≡ fate_read_back c o
read_kept c d o e same = sym (ap (fate_read_back c) e ∙ rw (eq-eqb d c same) refl)

pub read_folded : (c d : ℕ) (o : Option ℕ) → o ≡ Some d → ¬ (d ≡ c) → Folded (Some d) ≡ fate_read_back c o
read_folded c d o e other = sym (ap (fate_read_back c) e ∙ rw (ne_eqb d c other) refl)

pub read_none : (c : ℕ) (o : Option ℕ) → o ≡ None → Folded None ≡ fate_read_back c o
read_none c o e = sym (ap (fate_read_back c) e)
