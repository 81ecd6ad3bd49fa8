-- What gb18030 and GBK make of a character (the Encoding Standard, section 10.2.2, "gb18030 encoder", and section
-- 10.1.2, "GBK encoder"), by the list of the index and by the rows of the ranges. GBK has no extended range: no forms of
-- four bytes.
use Rattle.std.specs.Prelude.{ℕ, ◌+◌, ◌/◌, ◌%◌, ◌==◌, ◌&&◌, not, Bool, List, [], ◌∷◌, nat_lt, if◌then◌else◌, Option, None, Some}
use Rattle.std.specs.List.{find}
use Rattle.std.specs.Option.{option_map, option_or}
use Rattle.encoding_mem.specs.Coding.{form_of_bytes}
use Rattle.encoding_mem.specs.declared.codec.form.Form.{Form}
use Rattle.encoding_tables.specs.Lookups.{first_pointer}
use Rattle.encoding_tables.specs.Ranges.{range_pointer}

-- The table of the "gb18030 encoder" (section 10.2.2): 18 private-use characters, each with its
-- two bytes of the edition of 2005.
abbrev pub gb18030_fixed_rows : List (ℕ × (ℕ × ℕ))
gb18030_fixed_rows = (0xE78D, (0xA6, 0xD9)) ∷ (0xE78E, (0xA6, 0xDA)) ∷ (0xE78F, (0xA6, 0xDB)) ∷ (0xE790, (0xA6, 0xDC))
    ∷ (0xE791, (0xA6, 0xDD)) ∷ (0xE792, (0xA6, 0xDE)) ∷ (0xE793, (0xA6, 0xDF)) ∷ (0xE794, (0xA6, 0xEC)) ∷ (0xE795, (0xA6, 0xED))
    ∷ (0xE796, (0xA6, 0xF3)) ∷ (0xE81E, (0xFE, 0x59)) ∷ (0xE826, (0xFE, 0x61)) ∷ (0xE82B, (0xFE, 0x66)) ∷ (0xE82C, (0xFE, 0x67))
    ∷ (0xE832, (0xFE, 0x6D)) ∷ (0xE843, (0xFE, 0x7E)) ∷ (0xE854, (0xFE, 0x90)) ∷ (0xE864, (0xFE, 0xA0)) ∷ []

-- the lead and the trail of a character in the table of private-use characters of the "gb18030
-- encoder" (section 10.2.2), if it is there
abbrev pub gb18030_fixed_pair : ℕ → Option (ℕ × ℕ)
gb18030_fixed_pair c = option_map (λ r. r.1) (find (λ r. r.0 == c) gb18030_fixed_rows)

-- a lead and a trail, as a list of two bytes
abbrev pub two_of : ℕ × ℕ → List ℕ
two_of p = p.0 ∷ p.1 ∷ []

-- the trail in gb18030 for a remainder modulo 190: 40 to 7E, then 80 to FE (hexadecimal)
abbrev pub gb18030_trail : ℕ → ℕ
gb18030_trail r = if nat_lt r 0x3F then 0x40 + r else 0x41 + r

-- the two bytes of a pointer of index gb18030: the lead, from 81 on, and the trail
abbrev pub gb18030_pair_bytes : ℕ → List ℕ
gb18030_pair_bytes p = (0x81 + p / 190) ∷ gb18030_trail (p % 190) ∷ []

-- the four bytes of a pointer of index gb18030 ranges: from 81, 30, 81 and 30 on
abbrev pub gb18030_four_bytes : ℕ → List ℕ
gb18030_four_bytes p = (0x81 + p / 12600) ∷ (0x30 + p / 1260 % 10) ∷ (0x81 + p / 10 % 126) ∷ (0x30 + p % 10) ∷ []

-- the two bytes of a character by its least pointer in index gb18030, if it has one
abbrev pub gb18030_index_bytes : List ℕ → ℕ → Option (List ℕ)
gb18030_index_bytes flat c = option_map gb18030_pair_bytes (first_pointer flat c 0 23940)

-- the four bytes of a character by its pointer in index gb18030 ranges, if it has one and the
-- target is gb18030, not GBK
abbrev pub gb18030_range_bytes : List (ℕ × ℕ) → Bool → ℕ → Option (List ℕ)
gb18030_range_bytes rows extended c = if extended then option_map gb18030_four_bytes (range_pointer rows c) else None

-- The bytes of a character in gb18030 or GBK, if it has any: ASCII as it is, 80 for the euro sign
-- in GBK, else by the private-use table, the index or the ranges, in this order. U+E5E5 has none.
abbrev pub gb18030_bytes : List ℕ → List (ℕ × ℕ) → Bool → ℕ → Option (List ℕ)
gb18030_bytes flat rows extended c = if nat_lt c 0x80 then Some (c ∷ [])
    else if c == 0xE5E5 then None
    else if c == 0x20AC && not extended then Some (0x80 ∷ [])
    else option_or (option_map two_of (gb18030_fixed_pair c)) (option_or (gb18030_index_bytes flat c) (gb18030_range_bytes rows extended c))

-- the form of a character in gb18030, or in GBK: its one, two or four bytes, or that it has none
abbrev pub gb18030_form : List ℕ → List (ℕ × ℕ) → Bool → ℕ → Form
gb18030_form flat rows extended c = form_of_bytes c (gb18030_bytes flat rows extended c)
