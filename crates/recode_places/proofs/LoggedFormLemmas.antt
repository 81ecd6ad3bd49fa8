-- A character without bytes is reported as a log names it, in each encoding.
use Rattle.std.proofs.Common.{◌≡◌, ℕ, ◌==◌, ◌||◌, Bool, true, false, cond, inl, inr, List, [], ◌∷◌, Option, Some, None, nat_lt, refl, arith}
use Rattle.std.specs.Option.{option_map}
use Rattle.std.proofs.lemmas.Bool.Decides.{nat_tests}
use Rattle.encoding_mem.specs.Coding.{form_of_bytes}
use Rattle.encoding_mem.specs.declared.codec.form.Form.{Form}
use Rattle.encoding_mem.specs.declared.codec.form.Form.TheVariants.{Mapped, Unmapped}
use Rattle.encoding_tables.specs.IndexLists.{IndexLists, index_entries}
use Rattle.encoding_tables.specs.Lookups.{first_pointer}
use Rattle.encoding_tables.specs.declared.index_kind.IndexKind.{IndexKind}
use Rattle.encoding_codecs.specs.Big5.{big5_pair_bytes, index_big5_pointer}
use Rattle.encoding_codecs.specs.EucKr.{euc_kr_pair_bytes}
use Rattle.encoding_codecs.specs.Pointers.{form_by_pointer}
use Rattle.encoding_codecs.specs.Iso2022JpForms.{ascii_form, iso_2022_jp_form, iso_2022_jp_pair_bytes, iso_2022_jp_pointer}
use Rattle.encoding_front.specs.Encodings.{coding_of}
use Rattle.encoding_front.specs.declared.encoding.Encoding.{Encoding}
use Rattle.recode_places.specs.Logs.{IsLoggedAs, IsRefusedControl}

-- a character is logged with the number that its form reports, if it has no bytes
abbrev pub IsLoggedForm : ℕ → Form → Type 0
IsLoggedForm c (Mapped bs) = Unit {0}
IsLoggedForm c (Unmapped d) = IsLoggedAs c d

logged_if : (t : Bool) (c : ℕ) (f g : Form) → (t ≡ true → IsLoggedForm c f) → IsLoggedForm c g → IsLoggedForm c (cond t f g)
logged_if true c f g h k = h refl
logged_if false c f g h k = k

logged_bytes : (c : ℕ) (o : Option (List ℕ)) → IsLoggedForm c (form_of_bytes c o)
logged_bytes c None = inl refl
logged_bytes c (Some bs) = tt

logged_pointer : (bytes_of : ℕ → List ℕ) (pointer_of : ℕ → Option ℕ) (c : ℕ) → IsLoggedForm c (form_by_pointer bytes_of pointer_of c)
logged_pointer bytes_of pointer_of c = logged_if (nat_lt c 0x80) c (Mapped (c ∷ [])) _ (λ _. tt) (logged_bytes c (option_map bytes_of (pointer_of c)))

refused : (c : ℕ) → (c == 0x0E || c == 0x0F || c == 0x1B) ≡ true → IsRefusedControl c
refused c h = grind (arith, nat_tests, h)

logged_ascii : (c : ℕ) → IsLoggedForm c (ascii_form c)
logged_ascii c = logged_if (c == 0x0E || c == 0x0F || c == 0x1B) c (Unmapped 0xFFFD) (Mapped (c ∷ [])) (λ t. inr (refl, refused c t)) tt

logged_iso : (jis0208 katakana : List ℕ) (c : ℕ) → IsLoggedForm c (iso_2022_jp_form jis0208 katakana c)
logged_iso jis0208 katakana c =
    logged_if (nat_lt c 0x80) c (ascii_form c) _ (λ _. logged_ascii c)
    (logged_if (c == 0xA5) c (Mapped (0x5C ∷ [])) _ (λ _. tt)
    (logged_if (c == 0x203E) c (Mapped (0x7E ∷ [])) _ (λ _. tt) (logged_bytes c (option_map iso_2022_jp_pair_bytes (iso_2022_jp_pointer jis0208 katakana c)))))

pub logged_form : (t : IndexLists) (e : Encoding) (c : ℕ) → IsLoggedForm c ((coding_of t e).form c)
logged_form t Encoding.Utf8 c = tt
logged_form t Encoding.Utf16Be c = tt
logged_form t Encoding.Utf16Le c = tt
logged_form t Encoding.Replacement c = tt
logged_form t Encoding.Big5 c = logged_pointer big5_pair_bytes (index_big5_pointer (index_entries t IndexKind.Big5)) c
logged_form t Encoding.EucKr c = logged_pointer euc_kr_pair_bytes (λ d. first_pointer (index_entries t IndexKind.EucKr) d 0 23940) c
logged_form t Encoding.Iso2022Jp c = logged_iso (index_entries t IndexKind.Jis0208) (index_entries t IndexKind.Iso2022JpKatakana) c
logged_form t _ c = logged_bytes c _
