-- What a call did of a part of a text, if it did not come to the end of it, it did of the text: of encoders.
use Rattle.std.proofs.Common.{◌∷◌, ◌≡◌, ◌≢◌, ℕ, ◌≤◌, inl, inr, Bool, true, false, List, [], ◌++◌, length, refl, sym, ◌∙◌, ap, arith, append_assoc, encode_utf8_all, length-append}
use Rattle.std.proofs.lemmas.List.{append-nil}
use Rattle.std.specs.Bool.{MatchBool}
use Rattle.encoding_mem.specs.calls.EncoderRule.{Tight}
use Rattle.encoding_mem.specs.Coding.{AllMapped, Coding, bytes_from, last_set, open_from, whole_from}
use Rattle.encoding_mem.specs.calls.EncoderCalls.{WritesPart}
use Rattle.encoding_mem.specs.laws.EncoderCalls.{encoded_bytes, last_set-append}
use Rattle.encoding_mem.specs.declared.codec.encoder_result.EncoderResult.{EncoderResult}
use Rattle.encoding_mem.specs.declared.codec.encoder_result.EncoderResult.TheVariants as raw_
use Rattle.encoding_mem.specs.declared.codec.form.EscapeState.{EscapeState}
use Rattle.encoding_mem.specs.declared.codec.form.EscapeState.TheVariants.{Ascii}
use Rattle.encoding_mem.specs.declared.codec.reference.Reference.TheVariants.{Decimal}
use Rattle.encoding_tables.specs.IndexLists.{IndexLists, index_entries, range_rows}
use Rattle.encoding_tables.specs.Lookups.{first_pointer}
use Rattle.encoding_tables.specs.declared.index_kind.IndexKind.{IndexKind}
use Rattle.encoding_codecs.specs.Big5.{big5_pair_bytes, index_big5_pointer}
use Rattle.encoding_codecs.specs.EucKr.{euc_kr_pair_bytes}
use Rattle.encoding_front.specs.Encodings.{coding_of, output_encoding_of}
use Rattle.encoding_front.specs.calls.Encoder.{Encoded, EncoderState, Replaces, ReplacingEndsWith, coding_in}
use Rattle.encoding_front.specs.laws.Encoder.{coding_laws}
use Rattle.encoding_front.specs.declared.coder_result.CoderResult.{CoderResult}
use Rattle.encoding_front.specs.declared.encoding.Encoding.{Encoding}
use Rattle.jillapun_c.specs.TextParts.{most_read, most_read_into}
use Rattle.jillapun_c.proofs.SomeBytesLemmas.{HasSome, four_each, four_open, own_each, own_open, some_byte, some_by_pointer, some_euc_jp, some_gb18030, some_iso_2022_jp, some_shift_jis, some_utf8}
use Rattle.jillapun_c.proofs.EncoderPartLemmas.{encodes_more, ends_more, tight_more}

-- ---- each character has a byte at least, or none

some_of : (t : IndexLists) (e : Encoding) (c : ℕ) → HasSome ((coding_of t e).form c)
some_of t Encoding.Utf8 c = some_utf8 c
some_of t Encoding.Utf16Be c = some_utf8 c
some_of t Encoding.Utf16Le c = some_utf8 c
some_of t Encoding.Replacement c = some_utf8 c
some_of t Encoding.Big5 c = some_by_pointer big5_pair_bytes (index_big5_pointer (index_entries t IndexKind.Big5)) c (λ p. omega arith)
some_of t Encoding.EucKr c = some_by_pointer euc_kr_pair_bytes (λ d. first_pointer (index_entries t IndexKind.EucKr) d 0 23940) c (λ p. omega arith)
some_of t Encoding.EucJp c = some_euc_jp (index_entries t IndexKind.Jis0208) c
some_of t Encoding.ShiftJis c = some_shift_jis (index_entries t IndexKind.Jis0208) c
some_of t Encoding.Gb18030 c = some_gb18030 (index_entries t IndexKind.Gb18030) (range_rows t) true c
some_of t Encoding.Gbk c = some_gb18030 (index_entries t IndexKind.Gb18030) (range_rows t) false c
some_of t Encoding.Iso2022Jp c = some_iso_2022_jp (index_entries t IndexKind.Jis0208) (index_entries t IndexKind.Iso2022JpKatakana) c
some_of t _ c = some_byte c _

-- ---- a call that read all read no more bytes of text than what it wrote has room for

pub more_read : (output : Encoding) (m n : ℕ) → m ≤ n → most_read_into output m ≤ most_read_into output n
more_read Encoding.Utf8 m n h = h
more_read _ m n h = omega (arith, h)

most_mapped : (t : IndexLists) (e : Encoding) (s : EscapeState) (text : List ℕ) → AllMapped (coding_of t e) text
    → length (encode_utf8_all text) ≤ most_read e (length (bytes_from (coding_of t e) s text))
most_mapped t Encoding.Utf8 s text are = own_each (coding_of t Encoding.Utf8) s text (λ c. refl)
most_mapped t Encoding.Utf16Be s text are = own_each (coding_of t Encoding.Utf16Be) s text (λ c. refl)
most_mapped t Encoding.Utf16Le s text are = own_each (coding_of t Encoding.Utf16Le) s text (λ c. refl)
most_mapped t Encoding.Replacement s text are = own_each (coding_of t Encoding.Replacement) s text (λ c. refl)
most_mapped t e s text are = four_each (coding_of t e) s text (some_of t e) are

most_open : (t : IndexLists) (e : Encoding) (s : EscapeState) (text : List ℕ)
    → length (encode_utf8_all text) ≤ most_read e (length (open_from Decimal (coding_of t e) s text))
most_open t Encoding.Utf8 s text = own_open (coding_of t Encoding.Utf8) s text (λ c. refl)
most_open t Encoding.Utf16Be s text = own_open (coding_of t Encoding.Utf16Be) s text (λ c. refl)
most_open t Encoding.Utf16Le s text = own_open (coding_of t Encoding.Utf16Le) s text (λ c. refl)
most_open t Encoding.Replacement s text = own_open (coding_of t Encoding.Replacement) s text (λ c. refl)
most_open t e s text = four_open (coding_of t e) s text (some_of t e)

-- what is all of a text
all_is : (text before rest : List ℕ) → text ≡ before ++ rest → rest ≡ [] → text ≡ before
all_is text before rest split none = split ∙ ap (λ l. before ++ l) none ∙ append-nil before

pub most_encoded : (x : EncoderState) (last : Bool) (text written : List ℕ) (x' : EncoderState) (rest : List ℕ) (room : ℕ)
    → Encoded x last raw_.InputEmpty text written x' rest room → length (encode_utf8_all text) ≤ most_read x.encoding (length written)
most_encoded x last text written x' rest room h =
    let law = h.codec.law in
    let bytes : List ℕ = bytes_from (coding_in x) x.set law.before in
    let size : length bytes ≤ length written =
    omega (arith, ap length law.bytes, length-append bytes ((coding_in x).escape (last_set (coding_in x) x.set law.before) x'.set)) in
    let all = ap (λ l. length (encode_utf8_all l)) (all_is text law.before law.next law.split law.leaves.0) in
    omega (arith, all, most_mapped x.tables x.encoding x.set law.before law.mapped, more_read (output_encoding_of x.encoding) (length bytes) (length written) size)

pub most_replaced : (x : EncoderState) (last : Bool) (text written : List ℕ) (x' : EncoderState) (rest : List ℕ) (lost : Bool) (size : ℕ)
    → Replaces x last CoderResult.InputEmpty text written x' rest lost size → length (encode_utf8_all text) ≤ most_read x.encoding (length written)
most_replaced x last text written x' rest lost size h =
    let bytes : List ℕ = open_from Decimal (coding_in x) x.set h.prefix in
    let fits : length bytes ≤ length written =
    omega (arith, ap length h.put, length-append bytes ((coding_in x).escape (last_set (coding_in x) x.set h.prefix) x'.set)) in
    let all = ap (λ l. length (encode_utf8_all l)) (all_is text h.prefix rest h.split h.ends.0) in
    omega (arith, all, most_open x.tables x.encoding x.set h.prefix, more_read (output_encoding_of x.encoding) (length bytes) (length written) fits)

-- ---- a call that did not come to the end of a part

pub encoded_more : (x : EncoderState) (last : Bool) (answer : EncoderResult) (part written : List ℕ) (x' : EncoderState) (rest more : List ℕ) (room : ℕ) → answer ≢ raw_.InputEmpty
    → Encoded x false answer part written x' rest room → Encoded x last answer (part ++ more) written x' (rest ++ more) room
encoded_more x last answer part written x' rest more room ends h =
    let law = encodes_more (coding_in x) last answer x.set part written x'.set rest more ends h.codec.law in
    record {
      same = h.same;
      codec = record {
        same = h.codec.same;
        law = law;
        ends = ends_more _ last answer x'.set rest more room ends h.codec.ends;
        tight = tight_more (coding_in x) _ answer x'.set rest more room ends h.codec.ends h.codec.tight;
      };
      bytes = encoded_bytes Decimal (coding_in x) last answer x.set (part ++ more) written x'.set (rest ++ more) (coding_laws x.tables x.encoding) law;
      moves = h.moves;
    }

part_more : (e : Coding) (s : EscapeState) (part written : List ℕ) (s' : EscapeState) (rest more : List ℕ)
    → WritesPart Decimal e s part written s' rest → WritesPart Decimal e s (part ++ more) written s' (rest ++ more)
part_more e s part written s' rest more h r = rw (append_assoc part more r, append_assoc rest more r) (h (more ++ r))

sets_more : (e : Coding) (s : EscapeState) (part : List ℕ) (s' : EscapeState) (rest more : List ℕ)
    → last_set e s part ≡ last_set e s' rest → last_set e s (part ++ more) ≡ last_set e s' (rest ++ more)
sets_more e s part s' rest more h = last_set-append e s part more ∙ ap (λ q. last_set e q more) h ∙ sym (last_set-append e s' rest more)

whole_more : (e : Coding) (last : Bool) (s : EscapeState) (part written : List ℕ) (s' : EscapeState) (rest more : List ℕ)
    → WritesPart Decimal e s part written s' rest → last_set e s part ≡ last_set e s' rest
    → MatchBool last (whole_from Decimal e s (part ++ more) ≡ written ++ whole_from Decimal e s' (rest ++ more)) (WritesPart Decimal e s (part ++ more) written s' (rest ++ more))
whole_more e false s part written s' rest more h sets = part_more e s part written s' rest more h
whole_more e true s part written s' rest more h sets =
    ap (λ l. l ++ e.escape (last_set e s (part ++ more)) Ascii) (h more)
    ∙ append_assoc written (open_from Decimal e s' (rest ++ more)) (e.escape (last_set e s (part ++ more)) Ascii)
    ∙ ap (λ q. written ++ (open_from Decimal e s' (rest ++ more) ++ e.escape q Ascii)) (sets_more e s part s' rest more sets)

replacing_more : (last : Bool) (outcome : CoderResult) (s' : EscapeState) (rest more : List ℕ) → outcome ≢ CoderResult.InputEmpty
    → ReplacingEndsWith false outcome s' rest → ReplacingEndsWith last outcome s' (rest ++ more)
replacing_more last CoderResult.InputEmpty s' rest more ends h = absurd (ends refl)
replacing_more last CoderResult.OutputFull s' rest more ends (inl some) = inl (omega (arith, some, length-append rest more))
replacing_more last CoderResult.OutputFull s' rest more ends (inr p) = let no = p.0 in absurd (cc)

tight_replaced : (e : Coding) (outcome : CoderResult) (s' : EscapeState) (rest more : List ℕ) (room : ℕ) → outcome ≡ CoderResult.OutputFull
    → ReplacingEndsWith false outcome s' rest → Tight e raw_.OutputFull s' rest room → Tight e raw_.OutputFull s' (rest ++ more) room
tight_replaced e outcome s' [] more room is ends h = absurd (none outcome is ends)
  where
    none : (o : CoderResult) → o ≡ CoderResult.OutputFull → ReplacingEndsWith false o s' [] → ⊥
    none CoderResult.InputEmpty is ends = cc
    none CoderResult.OutputFull is (inl some) = omega (arith, some)
    none CoderResult.OutputFull is (inr p) = let no = p.0 in cc
tight_replaced e outcome s' (c ∷ rest) more room is ends h = h

pub replaced_more : (x : EncoderState) (last : Bool) (outcome : CoderResult) (part written : List ℕ) (x' : EncoderState) (rest more : List ℕ) (lost : Bool) (size : ℕ) → outcome ≢ CoderResult.InputEmpty
    → Replaces x false outcome part written x' rest lost size → Replaces x last outcome (part ++ more) written x' (rest ++ more) lost size
replaced_more x last outcome part written x' rest more lost size ends h = record {
  same = h.same;
  prefix = h.prefix;
  split = ap (λ l. l ++ more) h.split ∙ append_assoc h.prefix rest more;
  put = h.put;
  bytes = whole_more (coding_in x) last x.set part written x'.set rest more h.bytes (h.sets refl);
  sets = λ _. sets_more (coding_in x) x.set part x'.set rest more (h.sets refl);
  moves = h.moves;
  told = h.told;
  ends = replacing_more last outcome x'.set rest more ends h.ends;
  full = h.full;
  tight = λ is short. tight_replaced (coding_in x) outcome x'.set rest more _ is h.ends (h.tight is short);
  kept = h.kept;
  few = h.few;
  stops = h.stops;
}
