-- EUC-JP and ISO-2022-JP write the least pointer.
use Rattle.std.proofs.Common.{◌≡◌, ℕ, List, refl, ◌∙◌, ap, false, Option, None, Some}
use Rattle.std.specs.Prelude.{MatchOption}
use Rattle.std.specs.Option.{option_map, option_or, option_and_then}
use Rattle.std.proofs.lemmas.Bool.{le-ltb, ne_eqb}
use Rattle.encoding_mem.specs.declared.codec.form.Form.TheVariants.{Unmapped}
use Rattle.encoding_mem.specs.Coding.{form_of_bytes}
use Rattle.encoding_tables.specs.Lookups.{first_pointer}
use Rattle.encoding_tables.specs.laws.Pointers.{first_is_least}
use Rattle.encoding_codecs.specs.EucJp.{euc_jp_pair_bytes, euc_jp_own_bytes}
use Rattle.encoding_codecs.specs.Iso2022JpForms.{iso_2022_jp_form, looked_up, iso_2022_jp_pair_bytes}
use Rattle.encoding_codecs.specs.JisForms.{is_katakana, folded}
use Rattle.encoding_codecs.specs.JisPointers.{WritesLeastPointer, IsNoSingleByte, EucJpPointerIsLeast, Iso2022JpPointerIsLeast}

no_own_bytes : (c : ℕ) → IsNoSingleByte c → is_katakana c ≡ false → euc_jp_own_bytes c ≡ None
no_own_bytes c h kana = rw (le-ltb c 0x80 h.high, ne_eqb c 0xA5 h.no_yen, ne_eqb c 0x203E h.no_overline, kana) refl

pub euc_jp_pointer_is_least : EucJpPointerIsLeast
euc_jp_pointer_is_least jis0208 c h kana =
    let found = first_pointer jis0208 (folded c) 0 8836 in
    record {
      pointer = found;
      least = first_is_least jis0208 (folded c) 0 8836;
      writes = ap (λ o. form_of_bytes c (option_or o (option_map euc_jp_pair_bytes found))) (no_own_bytes c h kana);
    }

looked_up_form : (jis0208 katakana : List ℕ) (c : ℕ) → IsNoSingleByte c → iso_2022_jp_form jis0208 katakana c ≡ form_of_bytes c (option_map iso_2022_jp_pair_bytes (option_and_then (λ d. first_pointer jis0208 d 0 8836) (looked_up katakana c)))
looked_up_form jis0208 katakana c h = rw (le-ltb c 0x80 h.high, ne_eqb c 0xA5 h.no_yen, ne_eqb c 0x203E h.no_overline) refl

by_entry : (jis0208 katakana : List ℕ) (c : ℕ) → IsNoSingleByte c → (o : Option ℕ) → looked_up katakana c ≡ o → MatchOption o
    (iso_2022_jp_form jis0208 katakana c ≡ Unmapped c)
    (λ d. WritesLeastPointer jis0208 8836 iso_2022_jp_pair_bytes c d (iso_2022_jp_form jis0208 katakana c))
by_entry jis0208 katakana c h None e = looked_up_form jis0208 katakana c h ∙ ap (λ o. form_of_bytes c (option_map iso_2022_jp_pair_bytes (option_and_then (λ d. first_pointer jis0208 d 0 8836) o))) e
by_entry jis0208 katakana c h (Some d) e = record {
  pointer = first_pointer jis0208 d 0 8836;
  least = first_is_least jis0208 d 0 8836;
  writes = looked_up_form jis0208 katakana c h ∙ ap (λ o. form_of_bytes c (option_map iso_2022_jp_pair_bytes (option_and_then (λ d. first_pointer jis0208 d 0 8836) o))) e;
}

pub iso_2022_jp_pointer_is_least : Iso2022JpPointerIsLeast
iso_2022_jp_pointer_is_least jis0208 katakana c h = by_entry jis0208 katakana c h (looked_up katakana c) refl
