-- The pointers that EUC-JP and ISO-2022-JP write (the Encoding Standard, sections 12.1.2, "EUC-JP encoder", and 12.2.2,
-- "ISO-2022-JP encoder": "let pointer be the index pointer for code point in index jis0208"; section 5, "index
-- pointer": the first pointer corresponding to code point). Two bytes of 94 values reach the pointers below 8836.
use Rattle.std.specs.Prelude.{◌≡◌, ◌≢◌, ℕ, ◌≤◌, List, false, Option, MatchOption}
use Rattle.std.specs.Option.{option_map}
use Rattle.encoding_mem.specs.declared.codec.form.Form.{Form}
use Rattle.encoding_mem.specs.declared.codec.form.Form.TheVariants.{Unmapped}
use Rattle.encoding_mem.specs.Coding.{form_of_bytes}
use Rattle.encoding_tables.specs.LookupLaws.{IsPointer}
use Rattle.encoding_codecs.specs.EucJp.{euc_jp_form, euc_jp_pair_bytes}
use Rattle.encoding_codecs.specs.Iso2022JpForms.{iso_2022_jp_form, iso_2022_jp_pair_bytes, looked_up}
use Rattle.encoding_codecs.specs.JisForms.{is_katakana, folded}

-- this is the least pointer below a limit with the character c, or there is none
abbrev pub IsLeastPointer : List ℕ → (c limit : ℕ) → Option ℕ → Type 0
IsLeastPointer flat c limit o = MatchOption o
    ((p : ℕ) → ¬ (IsPointer flat c 0 limit p))
    (λ p. IsPointer flat c 0 limit p × ((q : ℕ) → IsPointer flat c 0 limit q → p ≤ q))

-- What is written for c, for which d is looked up: the bytes of the least pointer below the limit with d. If there is
-- none, c is unmapped.
pub record WritesLeastPointer (flat : List ℕ) (limit : ℕ) (bytes : ℕ → List ℕ) (c d : ℕ) (form : Form) : Type 0 where
  pub pointer : Option ℕ
  pub least : IsLeastPointer flat d limit pointer
  pub writes : form ≡ form_of_bytes c (option_map bytes pointer)

-- the characters that have no single byte in either: neither ASCII nor the two that JIS X 0201 has in its place
pub record IsNoSingleByte (c : ℕ) : Type 0 where
  pub high : 0x80 ≤ c
  pub no_yen : c ≢ 0xA5
  pub no_overline : c ≢ 0x203E

-- EUC-JP, but for halfwidth katakana, which are not looked up
abbrev pub EucJpPointerIsLeast : Type 0
EucJpPointerIsLeast = (jis0208 : List ℕ) (c : ℕ) → IsNoSingleByte c → is_katakana c ≡ false
    → WritesLeastPointer jis0208 8836 euc_jp_pair_bytes c (folded c) (euc_jp_form jis0208 c)

-- ISO-2022-JP writes a character without a single byte by the least jis0208 pointer below 8836 of
-- what it looks up, halfwidth katakana in iso-2022-jp-katakana, or it is unmappable without one.
abbrev pub Iso2022JpPointerIsLeast : Type 0
Iso2022JpPointerIsLeast = (jis0208 katakana : List ℕ) (c : ℕ) → IsNoSingleByte c → MatchOption (looked_up katakana c)
    (iso_2022_jp_form jis0208 katakana c ≡ Unmapped c)
    (λ d. WritesLeastPointer jis0208 8836 iso_2022_jp_pair_bytes c d (iso_2022_jp_form jis0208 katakana c))
