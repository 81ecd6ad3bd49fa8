-- Worked rows of `specs/Labels.antt`.
use Rattle.std.specs.Prelude.{◌≡◌, None, Some, [], ◌∷◌, ◌++◌, map, length, codes, refl, filter}
use Rattle.std.specs.List.{range_with_len}
use Rattle.std.specs.Char.{is_ascii_whitespace, to_ascii_lowercase}
use Rattle.encoding_labels.specs.Labels.{labels, label_text, number_of_label, is_label_byte}
use Rattle.encoding_labels.specs.declared.places.TheConstants.{ISO_8859_2, UTF_8, UTF_16BE}

-- how many labels the table has
length-labels : length labels ≡ 228
unfolding labels
length-labels = refl

-- of all bytes, five are white space: tab, line feed, form feed, carriage return, space
white_space : filter is_ascii_whitespace (range_with_len 0 256) ≡ 9 ∷ 10 ∷ 12 ∷ 13 ∷ 32 ∷ []
white_space = refl

-- of all bytes, 40 may stand in a label: small letters, digits, and the four of `-.:_`
label_bytes : filter is_label_byte (range_with_len 0 256) ≡ codes "-.0123456789:_abcdefghijklmnopqrstuvwxyz"
label_bytes = refl

-- A and Z become a and z, and the bytes next to the letters (@, [, ` and {) stay
lower_case : map to_ascii_lowercase (codes "@AZ[`az{") ≡ codes "@az[`az{"
lower_case = refl

-- white space before and after a label is left out, and its capitals are read as small letters
label_text-both_ends : label_text (9 ∷ 10 ∷ codes "ISO_8859-2:1987" ++ 12 ∷ 13 ∷ 32 ∷ []) ≡ codes "iso_8859-2:1987"
label_text-both_ends = refl

-- a space inside a label stays, and those at its ends do not
label_text-inside : label_text (codes " utf-8 _ ") ≡ codes "utf-8 _"
label_text-inside = refl

-- a vertical tab is no white space here
label_text-tab : label_text (11 ∷ codes "UTF-8") ≡ 11 ∷ codes "utf-8"
label_text-tab = refl

-- of white space alone nothing is left to look up
label_text-white : label_text (9 ∷ 10 ∷ 12 ∷ 13 ∷ 32 ∷ []) ≡ []
label_text-white = refl

-- `Latin2` with a space before it is a label of ISO-8859-2
number_of_label-latin2 : number_of_label (codes " Latin2") ≡ Some ISO_8859_2
unfolding labels
number_of_label-latin2 = refl

-- `unicode11utf8` is a label of UTF-8
number_of_label-unicode11utf8 : number_of_label (codes "unicode11utf8") ≡ Some UTF_8
unfolding labels
number_of_label-unicode11utf8 = refl

-- `UTF-16BE` in capitals is a label of UTF-16BE
number_of_label-utf-16be : number_of_label (codes "UTF-16BE") ≡ Some UTF_16BE
unfolding labels
number_of_label-utf-16be = refl

-- `utf-8 _`, with a space inside, is a label of no encoding
number_of_label-none : number_of_label (codes "utf-8 _") ≡ None
unfolding labels
number_of_label-none = refl

-- an empty label is one of no encoding
number_of_label-empty : number_of_label [] ≡ None
unfolding labels
number_of_label-empty = refl
