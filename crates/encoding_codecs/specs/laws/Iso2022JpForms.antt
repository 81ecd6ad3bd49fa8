-- ISO-2022-JP is a target of an encoder.
use Rattle.std.proofs.Common.{◌≡◌, ◌⊎◌, ◌∷◌, ℕ, ◌+◌, ◌*◌, ◌<◌, ◌≤◌, ◌==◌, inl, inr, Bool, true, false, cond, List, [], length, nat_lt, Option, None, Some, refl, arith, lit≤}
use Rattle.std.specs.Prelude.{◌||◌}
use Rattle.std.proofs.lemmas.Bool.{cases_lt, lt-ltb}
use Rattle.encoding_mem.specs.Coding.{IsCoding, FitsNeed, mapped_bytes}
use Rattle.encoding_mem.specs.calls.DecodedLength.{cost_in}
use Rattle.encoding_mem.specs.calls.EncodedLength.{IsRoomFor, bound_for, encoded_length_iso_2022_jp}
use Rattle.encoding_mem.specs.laws.EncodedLength.{cost_some, two_bytes}
use Rattle.encoding_mem.specs.laws.Stateless.{short_if, short_one, short_none}
use Rattle.encoding_mem.specs.declared.codec.form.Form.{Form}
use Rattle.encoding_mem.specs.declared.codec.form.Form.TheVariants.{Mapped}
use Rattle.encoding_mem.specs.declared.codec.form.EscapeState.{EscapeState}
use Rattle.encoding_mem.specs.declared.codec.form.EscapeState.TheVariants.{Ascii, Roman, Jis}
use Rattle.encoding_codecs.specs.Iso2022JpForms.{iso_2022_jp_pointer, iso_2022_jp_form, ascii_or_roman, iso_2022_jp_set, iso_2022_jp_escape, iso_2022_jp_coding, iso_2022_jp_pair_bytes}
use Rattle.encoding_codecs.specs.laws.Pointers.{form_of_pointer}

-- the set of a character of one byte or none, by whether it is 5C or 7E, and U+00A5 or U+203E
abbrev pub set_of_one : (single yen : Bool) → EscapeState → EscapeState
set_of_one single yen s = cond single Ascii (cond yen Roman (ascii_or_roman s))

-- a set that was taken stays
one_stays : (single yen : Bool) (s : EscapeState) → set_of_one single yen (set_of_one single yen s) ≡ set_of_one single yen s
one_stays true yen s = refl
one_stays false true s = refl
one_stays false false Ascii = refl
one_stays false false Roman = refl
one_stays false false Jis = refl

stays : (f : Form) (s : EscapeState) (c : ℕ) → iso_2022_jp_set (iso_2022_jp_set s c f) c f ≡ iso_2022_jp_set s c f
stays (Mapped (a ∷ b ∷ [])) s c = refl
stays _ s c = one_stays (c == 0x5C || c == 0x7E) (c == 0xA5 || c == 0x203E) s

same : (s : EscapeState) → iso_2022_jp_escape s s ≡ []
same Ascii = refl
same Roman = refl
same Jis = refl

-- the escape to a set from another
abbrev pub escape_to : EscapeState → List ℕ
escape_to Ascii = 0x1B ∷ 0x28 ∷ 0x42 ∷ []
escape_to Roman = 0x1B ∷ 0x28 ∷ 0x4A ∷ []
escape_to Jis = 0x1B ∷ 0x24 ∷ 0x42 ∷ []

-- between two sets there is nothing, or the escape to the second
pub escape_is : (s s' : EscapeState) → (iso_2022_jp_escape s s' ≡ []) ⊎ (iso_2022_jp_escape s s' ≡ escape_to s')
escape_is Ascii Ascii = inl refl
escape_is Roman Roman = inl refl
escape_is Jis Jis = inl refl
escape_is _ Ascii = inr refl
escape_is _ Roman = inr refl
escape_is _ Jis = inr refl

short_escape : (s s' : EscapeState) → length (iso_2022_jp_escape s s') ≤ 3
short_escape s s' = elim (escape_is s s') [
  | inl none ↦ rw none (lit≤ tt)
  | inr some ↦ rw some (short_escape_to s')
]
  where
    short_escape_to : (s : EscapeState) → length (escape_to s) ≤ 3
    short_escape_to Ascii = lit≤ tt
    short_escape_to Roman = lit≤ tt
    short_escape_to Jis = lit≤ tt

short_pair : (c : ℕ) (o : Option ℕ) → FitsNeed 3 (form_of_pointer iso_2022_jp_pair_bytes c o)
short_pair c None = short_none
short_pair c (Some p) = record { short = omega arith }

pub iso_2022_jp_laws : (jis0208 katakana : List ℕ) → IsCoding 3 (iso_2022_jp_coding jis0208 katakana)
iso_2022_jp_laws jis0208 katakana = record {
  stays = λ s c. stays (iso_2022_jp_form jis0208 katakana c) s c;
  same = same;
  short = λ c. short_if (nat_lt c 0x80) (short_if (c == 0x0E || c == 0x0F || c == 0x1B) short_none short_one)
      (short_if (c == 0xA5) short_one (short_if (c == 0x203E) short_one (short_pair c (iso_2022_jp_pointer jis0208 katakana c))));
  escape_short = short_escape;
  few = lit≤ tt;
}

-- A character has two bytes at most, and one in ASCII, so this room is enough.
pair_of_two : (c : ℕ) (o : Option ℕ) → FitsNeed 2 (form_of_pointer iso_2022_jp_pair_bytes c o)
pair_of_two c None = short_none
pair_of_two c (Some p) = record { short = omega arith }

two_at_most : (jis0208 katakana : List ℕ) (c : ℕ) → FitsNeed 2 (iso_2022_jp_form jis0208 katakana c)
two_at_most jis0208 katakana c = short_if (nat_lt c 0x80) (short_if (c == 0x0E || c == 0x0F || c == 0x1B) short_none short_one)
    (short_if (c == 0xA5) short_one (short_if (c == 0x203E) short_one (pair_of_two c (iso_2022_jp_pointer jis0208 katakana c))))

one_in_ascii : (jis0208 katakana : List ℕ) (c : ℕ) → c < 0x80 → FitsNeed 1 (iso_2022_jp_form jis0208 katakana c)
one_in_ascii jis0208 katakana c low = rw (lt-ltb c 0x80 low) (short_if (c == 0x0E || c == 0x0F || c == 0x1B) short_none short_one)

each_fits : (jis0208 katakana : List ℕ) (t : Bool) (s s' : EscapeState) (c : ℕ) → length (iso_2022_jp_escape s s') + length (mapped_bytes (iso_2022_jp_form jis0208 katakana c)) ≤ (bound_for encoded_length_iso_2022_jp t).factor * cost_in t c
each_fits jis0208 katakana true s s' c = omega (arith, (iso_2022_jp_laws jis0208 katakana).escape_short s s', (two_at_most jis0208 katakana c).short, cost_some true c)
each_fits jis0208 katakana false s s' c = elim (cases_lt c 0x80) [
  | inl low ↦ omega (arith, (iso_2022_jp_laws jis0208 katakana).escape_short s s', (one_in_ascii jis0208 katakana c low).short, cost_some false c)
  | inr high ↦ omega (arith, (iso_2022_jp_laws jis0208 katakana).escape_short s s', (two_at_most jis0208 katakana c).short, two_bytes c high)
]

last_fits : (jis0208 katakana : List ℕ) (t : Bool) (s : EscapeState) → length (iso_2022_jp_escape s Ascii) ≤ (bound_for encoded_length_iso_2022_jp t).extra
last_fits jis0208 katakana true s = (iso_2022_jp_laws jis0208 katakana).escape_short s Ascii
last_fits jis0208 katakana false s = (iso_2022_jp_laws jis0208 katakana).escape_short s Ascii

pub iso_2022_jp_fits : (jis0208 katakana : List ℕ) → IsRoomFor (iso_2022_jp_coding jis0208 katakana) encoded_length_iso_2022_jp
iso_2022_jp_fits jis0208 katakana t = record {
  each = λ s c. each_fits jis0208 katakana t s ((iso_2022_jp_coding jis0208 katakana).set s c) c;
  last = last_fits jis0208 katakana t;
}
