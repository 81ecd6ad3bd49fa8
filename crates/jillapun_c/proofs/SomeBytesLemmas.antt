-- Each character that has bytes has one at least: a call writes no fewer bytes than it reads characters.
use Rattle.std.proofs.Common.{◌≡◌, ℕ, ◌≤◌, ◌==◌, ◌*◌, nat_lt, Bool, true, false, cond, not, Option, None, Some, List, [], ◌∷◌, ◌++◌, length, ap, arith, encode_utf8_all, length-append}
use Rattle.std.specs.Prelude.{◌&&◌, ◌||◌}
use Rattle.std.specs.Option.{option_map, option_or}
use Rattle.std.specs.Char.{encode_utf8}
use Rattle.std.proofs.lemmas.Str.{length-encode, len_utf8_bounds}
use Rattle.encoding_mem.specs.Coding.{AllMapped, Coding, IsMapped, bytes_from, form_of_bytes, mapped_bytes, open_from, spelled}
use Rattle.encoding_mem.specs.declared.codec.form.EscapeState.{EscapeState}
use Rattle.encoding_mem.specs.declared.codec.form.Form.{Form}
use Rattle.encoding_mem.specs.declared.codec.form.Form.TheVariants.{Mapped, Unmapped}
use Rattle.encoding_mem.specs.declared.codec.reference.Reference.TheVariants.{Decimal}
use Rattle.encoding_tables.specs.Ranges.{range_pointer}
use Rattle.encoding_tables.specs.Lookups.{first_pointer}
use Rattle.encoding_codecs.specs.EucJp.{euc_jp_form, euc_jp_own_bytes, euc_jp_pair_bytes}
use Rattle.encoding_codecs.specs.Gb18030Coding.{gb18030_fixed_pair, gb18030_form, gb18030_four_bytes, gb18030_pair_bytes, two_of}
use Rattle.encoding_codecs.specs.Iso2022JpForms.{iso_2022_jp_form, iso_2022_jp_pair_bytes, iso_2022_jp_pointer}
use Rattle.encoding_codecs.specs.JisForms.{byte_of_katakana, folded, is_katakana}
use Rattle.encoding_codecs.specs.Pointers.{form_by_pointer}
use Rattle.encoding_codecs.specs.ShiftJis.{index_shift_jis_pointer, shift_jis_form, shift_jis_pair_bytes, shift_jis_single_byte}

-- a form has a byte at least, or none
abbrev pub HasSome : Form → Type 0
HasSome (Mapped bs) = 1 ≤ length bs
HasSome (Unmapped c) = Unit {0}

-- so have bytes, if there are any
abbrev AreSome : Option (List ℕ) → Type 0
AreSome None = Unit {0}
AreSome (Some bs) = 1 ≤ length bs

-- ---- of choices

form_if : (t : Bool) (f g : Form) → HasSome f → HasSome g → HasSome (cond t f g)
form_if true f g h k = h
form_if false f g h k = k

some_if : (t : Bool) (a b : Option (List ℕ)) → AreSome a → AreSome b → AreSome (cond t a b)
some_if true a b h k = h
some_if false a b h k = k

some_or : (a b : Option (List ℕ)) → AreSome a → AreSome b → AreSome (option_or a b)
some_or None b h k = k
some_or (Some bs) b h k = h

some_map : {X : Type 0} (f : X → List ℕ) (o : Option X) → ((x : X) → 1 ≤ length (f x)) → AreSome (option_map f o)
some_map f None h = tt
some_map f (Some x) h = h x

form_of : (c : ℕ) (o : Option (List ℕ)) → AreSome o → HasSome (form_of_bytes c o)
form_of c None h = tt
form_of c (Some bs) h = h

-- ---- of each codec

pub some_utf8 : (c : ℕ) → HasSome (Mapped (encode_utf8 c))
some_utf8 c = omega (arith, length-encode c, (len_utf8_bounds c).0)

pub some_byte : (c : ℕ) (o : Option ℕ) → HasSome (form_of_bytes c (option_map (λ b. b ∷ []) o))
some_byte c o = form_of c _ (some_map (λ b. b ∷ []) o (λ b. omega arith))

pub some_by_pointer : (bytes_of : ℕ → List ℕ) (pointer_of : ℕ → Option ℕ) (c : ℕ) → ((p : ℕ) → 1 ≤ length (bytes_of p)) → HasSome (form_by_pointer bytes_of pointer_of c)
some_by_pointer bytes_of pointer_of c h = form_if (nat_lt c 0x80) (Mapped (c ∷ [])) _ (omega arith) (form_of c _ (some_map bytes_of (pointer_of c) h))

pub some_euc_jp : (jis0208 : List ℕ) (c : ℕ) → HasSome (euc_jp_form jis0208 c)
some_euc_jp jis0208 c = form_of c _ (some_or (euc_jp_own_bytes c) _ own (some_map euc_jp_pair_bytes (first_pointer jis0208 (folded c) 0 8836) (λ p. omega arith)))
  where
    own : AreSome (euc_jp_own_bytes c)
    own = some_if (nat_lt c 0x80) (Some (c ∷ [])) _ (omega arith) (some_if (c == 0xA5) (Some (0x5C ∷ [])) _ (omega arith) (some_if (c == 0x203E) (Some (0x7E ∷ [])) _ (omega arith)
        (some_if (is_katakana c) (Some (0x8E ∷ byte_of_katakana c ∷ [])) None (omega arith) tt)))

pub some_shift_jis : (jis0208 : List ℕ) (c : ℕ) → HasSome (shift_jis_form jis0208 c)
some_shift_jis jis0208 c =
    form_of c _ (some_or _ _ (some_map (λ b. b ∷ []) (shift_jis_single_byte c) (λ b. omega arith)) (some_map shift_jis_pair_bytes (index_shift_jis_pointer jis0208 (folded c)) (λ p. omega arith)))

pub some_gb18030 : (flat : List ℕ) (rows : List (ℕ × ℕ)) (extended : Bool) (c : ℕ) → HasSome (gb18030_form flat rows extended c)
some_gb18030 flat rows extended c =
    form_of c _ (some_if (nat_lt c 0x80) (Some (c ∷ [])) _ (omega arith) (some_if (c == 0xE5E5) None _ tt (some_if (c == 0x20AC && not extended) (Some (0x80 ∷ [])) _ (omega arith)
    (some_or _ _ (some_map two_of (gb18030_fixed_pair c) (λ p. omega arith))
    (some_or _ _ (some_map gb18030_pair_bytes (first_pointer flat c 0 23940) (λ p. omega arith))
    (some_if extended _ None (some_map gb18030_four_bytes (range_pointer rows c) (λ p. omega arith)) tt))))))

pub some_iso_2022_jp : (jis0208 katakana : List ℕ) (c : ℕ) → HasSome (iso_2022_jp_form jis0208 katakana c)
some_iso_2022_jp jis0208 katakana c =
    form_if (nat_lt c 0x80) _ _ (form_if (c == 0x0E || c == 0x0F || c == 0x1B) (Unmapped 0xFFFD) (Mapped (c ∷ [])) tt (omega arith))
    (form_if (c == 0xA5) (Mapped (0x5C ∷ [])) _ (omega arith) (form_if (c == 0x203E) (Mapped (0x7E ∷ [])) _ (omega arith)
    (form_of c _ (some_map iso_2022_jp_pair_bytes (iso_2022_jp_pointer jis0208 katakana c) (λ p. omega arith)))))

-- ---- of a text

mapped_some : (f : Form) → HasSome f → IsMapped f → 1 ≤ length (mapped_bytes f)
mapped_some (Mapped bs) h m = h
mapped_some (Unmapped c) h m = absurd m

spelled_some : (f : Form) → HasSome f → 1 ≤ length (spelled Decimal f)
spelled_some (Mapped bs) h = h
spelled_some (Unmapped c) h = omega arith

-- no fewer bytes than characters
bytes_each : (e : Coding) (s : EscapeState) (t : List ℕ) → ((c : ℕ) → HasSome (e.form c)) → AllMapped e t → length t ≤ length (bytes_from e s t)
bytes_each e s [] some are = omega arith
bytes_each e s (c ∷ t) some are =
    omega (
      arith,
      mapped_some (e.form c) (some c) are.0,
      bytes_each e (e.set s c) t some are.1,
      length-append (e.escape s (e.set s c)) (mapped_bytes (e.form c) ++ bytes_from e (e.set s c) t),
      length-append (mapped_bytes (e.form c)) (bytes_from e (e.set s c) t),
    )

open_each : (e : Coding) (s : EscapeState) (t : List ℕ) → ((c : ℕ) → HasSome (e.form c)) → length t ≤ length (open_from Decimal e s t)
open_each e s [] some = omega arith
open_each e s (c ∷ t) some =
    omega (
      arith,
      spelled_some (e.form c) (some c),
      open_each e (e.set s c) t some,
      length-append (e.escape s (e.set s c)) (spelled Decimal (e.form c) ++ open_from Decimal e (e.set s c) t),
      length-append (spelled Decimal (e.form c)) (open_from Decimal e (e.set s c) t),
    )

-- ---- of a text and its bytes in UTF-8

-- a text has at most four bytes for each character
pub all_four : (cs : List ℕ) → length (encode_utf8_all cs) ≤ 4 * length cs
all_four [] = omega arith
all_four (c ∷ cs) = omega (arith, all_four cs, length-append (encode_utf8 c) (encode_utf8_all cs), length-encode c, (len_utf8_bounds c).1)

-- the bytes that are written are those of the text, if each character is written in UTF-8
pub own_each : (e : Coding) (s : EscapeState) (t : List ℕ) → ((c : ℕ) → e.form c ≡ Mapped (encode_utf8 c)) → length (encode_utf8_all t) ≤ length (bytes_from e s t)
own_each e s [] own = omega arith
own_each e s (c ∷ t) own =
    omega (
      arith,
      ap (λ f. length (mapped_bytes f)) (own c),
      own_each e (e.set s c) t own,
      length-append (encode_utf8 c) (encode_utf8_all t),
      length-append (e.escape s (e.set s c)) (mapped_bytes (e.form c) ++ bytes_from e (e.set s c) t),
      length-append (mapped_bytes (e.form c)) (bytes_from e (e.set s c) t),
    )

pub own_open : (e : Coding) (s : EscapeState) (t : List ℕ) → ((c : ℕ) → e.form c ≡ Mapped (encode_utf8 c)) → length (encode_utf8_all t) ≤ length (open_from Decimal e s t)
own_open e s [] own = omega arith
own_open e s (c ∷ t) own =
    omega (
      arith,
      ap (λ f. length (spelled Decimal f)) (own c),
      own_open e (e.set s c) t own,
      length-append (encode_utf8 c) (encode_utf8_all t),
      length-append (e.escape s (e.set s c)) (spelled Decimal (e.form c) ++ open_from Decimal e (e.set s c) t),
      length-append (spelled Decimal (e.form c)) (open_from Decimal e (e.set s c) t),
    )

-- else there is a byte at least for each four of them
pub four_each : (e : Coding) (s : EscapeState) (t : List ℕ) → ((c : ℕ) → HasSome (e.form c)) → AllMapped e t → length (encode_utf8_all t) ≤ 4 * length (bytes_from e s t)
four_each e s t some are = omega (arith, all_four t, bytes_each e s t some are)

pub four_open : (e : Coding) (s : EscapeState) (t : List ℕ) → ((c : ℕ) → HasSome (e.form c)) → length (encode_utf8_all t) ≤ 4 * length (open_from Decimal e s t)
four_open e s t some = omega (arith, all_four t, open_each e s t some)
