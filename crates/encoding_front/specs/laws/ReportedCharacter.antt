-- How long what is written for a text can be.
use Rattle.std.proofs.Common.{◌≡◌, ℕ, zero, suc, ◌+◌, ◌*◌, ◌/◌, ◌%◌, ◌^◌, ◌<◌, ◌≤◌, ◌==◌, inl, inr, nat_lt, pow-suc, Bool, true, false, cond, Option, None, Some, List, [], ◌∷◌, ◌++◌, length, refl, arith, length-append, codes}
use Rattle.std.specs.Prelude.{◌||◌}
use lib.Utf8.{scalar, scalar_cases}
use Rattle.std.specs.Fmt.{decimal, digit_glyph, digits, digits_onto}
use Rattle.std.specs.Str.{all_scalars}
use Rattle.std.proofs.lemmas.Fmt.{length-decimal-le}
use Rattle.encoding_mem.specs.declared.codec.reference.Reference.{Reference}
use Rattle.encoding_mem.specs.declared.codec.reference.Reference.TheVariants.{Decimal, Hexadecimal}
use Rattle.encoding_mem.specs.Coding.{Coding, mapped_bytes, last_set, open_from, output, reference_bytes, spelled, form_of_bytes}
use Rattle.std.proofs.lemmas.Bool.{and_parts, cases_lt, eq-eqb, ne_eqb}
use Rattle.encoding_mem.specs.declared.codec.form.Form.{Form}
use Rattle.encoding_mem.specs.declared.codec.form.Form.TheVariants.{Mapped, Unmapped}
use Rattle.encoding_mem.specs.declared.codec.form.EscapeState.{EscapeState}
use Rattle.encoding_mem.specs.declared.codec.form.EscapeState.TheVariants.{Ascii}
use Rattle.encoding_tables.specs.IndexLists.{IndexLists, index_entries, range_rows}
use Rattle.encoding_tables.specs.Lookups.{first_pointer}
use Rattle.encoding_tables.specs.SingleByte.{single_byte_of_char}
use Rattle.encoding_tables.specs.UserDefined.{byte_of_user_char}
use Rattle.encoding_tables.specs.declared.index_kind.IndexKind.{IndexKind}
use Rattle.encoding_tables.specs.laws.EachByte.{form_of_byte}
use Rattle.encoding_codecs.specs.Big5.{big5_pair_bytes, index_big5_pointer}
use Rattle.encoding_codecs.specs.EucJp.{euc_jp_char_bytes as euc_jp_bytes}
use Rattle.encoding_codecs.specs.EucKr.{euc_kr_pair_bytes}
use Rattle.encoding_codecs.specs.Gb18030Coding.{gb18030_bytes}
use Rattle.encoding_codecs.specs.Iso2022JpForms.{iso_2022_jp_pair_bytes, iso_2022_jp_pointer}
use Rattle.encoding_codecs.specs.laws.Iso2022JpForms.{iso_2022_jp_laws}
use Rattle.encoding_codecs.specs.ShiftJis.{shift_jis_char_bytes as shift_jis_bytes}
use Rattle.encoding_codecs.specs.laws.Pointers.{form_of_pointer}
use Rattle.encoding_front.specs.calls.ReportedCharacter.{ReportsItself}
use Rattle.encoding_front.specs.laws.Encoder.{coding_laws}
use Rattle.encoding_front.specs.Encodings.{coding_of, output_encoding_of}
use Rattle.encoding_front.specs.EncodingTable.{codec_kind_of}
use Rattle.encoding_front.specs.declared.encoding.Encoding.{Encoding}
use Rattle.encoding_front.specs.declared.codec_kind.CodecKind.{CodecKind}
use Rattle.encoding_front.specs.Codecs.{codec_of}

-- what is reported
reports_if : (t : Bool) (c : ℕ) (f g : Form) → ReportsItself c f → ReportsItself c g → ReportsItself c (cond t f g)
reports_if true c f g h k = h
reports_if false c f g h k = k

reports_byte : (c : ℕ) (o : Option ℕ) → ReportsItself c (form_of_byte c o)
reports_byte c None = inl refl
reports_byte c (Some b) = tt

reports_pointer : (of_pointer : ℕ → List ℕ) (c : ℕ) (o : Option ℕ) → ReportsItself c (form_of_pointer of_pointer c o)
reports_pointer of_pointer c None = inl refl
reports_pointer of_pointer c (Some p) = tt

reports_bytes : (c : ℕ) (o : Option (List ℕ)) → ReportsItself c (form_of_bytes c o)
reports_bytes c None = inl refl
reports_bytes c (Some bs) = tt

reports_in : (t : IndexLists) (s : CodecKind) (c : ℕ) → ReportsItself c ((codec_of t s).coding.form c)
reports_in t CodecKind.Utf8 c = tt
reports_in t (CodecKind.SingleByte kind) c = reports_byte c (single_byte_of_char (index_entries t kind) c)
reports_in t CodecKind.Big5 c = reports_if (nat_lt c 0x80) c (Mapped (c ∷ [])) _ tt (reports_pointer big5_pair_bytes c (index_big5_pointer (index_entries t IndexKind.Big5) c))
reports_in t CodecKind.EucKr c = reports_if (nat_lt c 0x80) c (Mapped (c ∷ [])) _ tt (reports_pointer euc_kr_pair_bytes c (first_pointer (index_entries t IndexKind.EucKr) c 0 23940))
reports_in t CodecKind.EucJp c = reports_bytes c (euc_jp_bytes (index_entries t IndexKind.Jis0208) c)
reports_in t CodecKind.ShiftJis c = reports_bytes c (shift_jis_bytes (index_entries t IndexKind.Jis0208) c)
reports_in t (CodecKind.Gb18030 extended) c = reports_bytes c (gb18030_bytes (index_entries t IndexKind.Gb18030) (range_rows t) extended c)
reports_in t CodecKind.Iso2022Jp c =
    let other = reports_pointer iso_2022_jp_pair_bytes c (iso_2022_jp_pointer (index_entries t IndexKind.Jis0208) (index_entries t IndexKind.Iso2022JpKatakana) c) in
    reports_if (nat_lt c 0x80) c _ _ (reports_if (c == 0x0E || c == 0x0F || c == 0x1B) c (Unmapped 0xFFFD) (Mapped (c ∷ [])) (inr refl) tt)
    (reports_if (c == 0xA5) c (Mapped (0x5C ∷ [])) _ tt (reports_if (c == 0x203E) c (Mapped (0x7E ∷ [])) _ tt other))
reports_in t CodecKind.UserDefined c = reports_byte c (byte_of_user_char c)
reports_in t (CodecKind.Utf16 big_endian) c = tt
reports_in t CodecKind.Replacement c = tt

pub reports_itself : (t : IndexLists) (e : Encoding) (c : ℕ) → ReportsItself c ((coding_of t e).form c)
reports_itself t e c = reports_in t (codec_kind_of (output_encoding_of e)) c

-- the bytes of a character are at most four, an escape has at most three
pub short_form : (t : IndexLists) (e : Encoding) (c : ℕ) → length (mapped_bytes ((coding_of t e).form c)) ≤ 4
short_form t e c = omega (arith, ((coding_laws t e).short c).short, (coding_laws t e).few)

escape_in : (t : IndexLists) (k : CodecKind) (s s' : EscapeState) → length ((codec_of t k).coding.escape s s') ≤ 3
escape_in t CodecKind.Iso2022Jp s s' = (iso_2022_jp_laws (index_entries t IndexKind.Jis0208) (index_entries t IndexKind.Iso2022JpKatakana)).escape_short s s'
escape_in t _ s s' = omega arith

pub short_escape : (t : IndexLists) (e : Encoding) (s s' : EscapeState) → length ((coding_of t e).escape s s') ≤ 3
short_escape t e s s' = escape_in t (codec_kind_of (output_encoding_of e)) s s'

-- a number below 16 ^ (k + 1) has at most k + 1 hexadecimal digits
few_digits : (k more n : ℕ) (written : List ℕ) → n < 16 ^ suc k → length (digits_onto (suc (k + more)) 16 true n written) ≤ suc k + length written
few_digits zero more n written small = rw (eq-eqb (n / 16) 0 (omega (arith, small))) (omega arith)
few_digits (suc k) more n written small =
    let power : 16 ^ suc (suc k) ≡ 16 ^ suc k * 16 = pow-suc 16 (suc k) in
    let fuel : suc k + more ≡ suc (k + more) = omega arith in
    let further : length (digits_onto (suc (k + more)) 16 true (n / 16) (digit_glyph true (n % 16) ∷ written)) ≤ suc k + suc (length written) =
    few_digits k more (n / 16) (digit_glyph true (n % 16) ∷ written) (omega (arith, power, small)) in
    elim (cases_lt 0 (n / 16)) [
      | inl some ↦ rw (ne_eqb (n / 16) 0 (λ is. absurd (omega (arith, is, some))), fuel) (omega (arith, further))
      | inr none ↦ rw (eq-eqb (n / 16) 0 (omega (arith, none))) (omega arith)
    ]

few_hexadecimal : (c : ℕ) → c < 0x110000 → length (digits 16 true c) ≤ 6
unfolding digits
few_hexadecimal c small = omega (arith, few_digits 5 58 c [] (omega (arith, small)))

-- the longest references are `&#1114111;` and `&#x10FFFF;`
pub short_reference : (ref : Reference) (c : ℕ) → c < 0x110000 → length (reference_bytes ref c) ≤ 10
short_reference Decimal c small = omega (arith, length-append (decimal c) (codes ";"), length-decimal-le 7 c (omega arith) (omega arith) (omega arith))
short_reference Hexadecimal c small = omega (arith, length-append (digits 16 true c) (codes ";"), few_hexadecimal c small)

short_spelled : (ref : Reference) (c : ℕ) (f : Form) → c < 0x110000 → length (mapped_bytes f) ≤ 4 → ReportsItself c f → length (spelled ref f) ≤ 10
short_spelled ref c (Mapped bs) small few itself = omega (arith, few)
short_spelled ref c (Unmapped d) small few (inl same) = short_reference ref d (omega (arith, same))
short_spelled ref c (Unmapped d) small few (inr same) = short_reference ref d (omega (arith, same))

below_all : (c : ℕ) → scalar c ≡ true → c < 0x110000
below_all c h = elim (scalar_cases c h) [ inl low ↦ omega (arith, low) | inr high ↦ omega (arith, high.1) ]

-- a text of n characters is written in at most 13 * n + 3 bytes
short_text : (ref : Reference) (e : Coding) (s : EscapeState) (t : List ℕ) → ((a b : EscapeState) → length (e.escape a b) ≤ 3) → ((c : ℕ) → c < 0x110000 → length (spelled ref (e.form c)) ≤ 10) → all_scalars t ≡ true
    → length (open_from ref e s t) ≤ 13 * length t
short_text ref e s [] escapes forms are = omega arith
short_text ref e s (c ∷ t) escapes forms are =
    let parts = and_parts (scalar c) (all_scalars t) are in
    omega (
      arith,
      escapes s (e.set s c),
      forms c (below_all c parts.0),
      short_text ref e (e.set s c) t escapes forms parts.1,
      length-append (e.escape s (e.set s c)) (spelled ref (e.form c) ++ open_from ref e (e.set s c) t),
      length-append (spelled ref (e.form c)) (open_from ref e (e.set s c) t),
    )

pub short_open : (ref : Reference) (t : IndexLists) (e : Encoding) (s : EscapeState) (text : List ℕ) → all_scalars text ≡ true → length (open_from ref (coding_of t e) s text) ≤ 13 * length text
short_open ref t e s text are = short_text ref (coding_of t e) s text (short_escape t e) (λ c small. short_spelled ref c ((coding_of t e).form c) small (short_form t e c) (reports_itself t e c)) are

pub short_output : (ref : Reference) (t : IndexLists) (e : Encoding) (text : List ℕ) → all_scalars text ≡ true → length (output ref (coding_of t e) text) ≤ 13 * length text + 3
short_output ref t e text are =
    let last = last_set (coding_of t e) Ascii text in
    omega (arith, short_open ref t e Ascii text are, short_escape t e last Ascii, length-append (open_from ref (coding_of t e) Ascii text) ((coding_of t e).escape last Ascii))
