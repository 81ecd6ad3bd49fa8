-- Worked rows of `specs/Places.antt`.
use Rattle.std.proofs.Common.{◌≡◌, [], ◌∷◌, arith, refl}
use Rattle.recode_places.specs.Places.{IsPlaceAfter, after_feed, feed, feeds}
use Rattle.recode_places.specs.declared.place.Place.{Place}

-- a line feed ends a line, a carriage return doesn't
of_feed : feed 10 ≡ 1
of_feed = refl

of_return : feed 13 ≡ 0
of_return = refl

-- `ab`, a line feed, `c`
of_lines : feeds (0x61 ∷ 0x62 ∷ 10 ∷ 0x63 ∷ []) ≡ 1
of_lines = refl

of_column : after_feed (0x61 ∷ 0x62 ∷ 10 ∷ 0x63 ∷ []) ≡ 1
of_column = refl

-- `ab` and nothing more, and a line that begins
of_first : after_feed (0x61 ∷ 0x62 ∷ []) ≡ 2
of_first = refl

of_start : after_feed (0x61 ∷ 10 ∷ []) ≡ 0
of_start = refl

-- refuted: the character after a line feed is in line 1
not_line_1 : (p : Place) → IsPlaceAfter p (0x61 ∷ 0x62 ∷ 10 ∷ 0x63 ∷ []) → p.line ≡ 1 → ⊥
not_line_1 p h e = omega (arith, h.line, e)

-- refuted: a column counts the line feed before its line
not_column_3 : (p : Place) → IsPlaceAfter p (0x61 ∷ 0x62 ∷ 10 ∷ 0x63 ∷ []) → p.column ≡ 3 → ⊥
not_column_3 p h e = omega (arith, h.column, e)

-- refuted: columns count from 0
not_column_0 : (p : Place) → IsPlaceAfter p [] → p.column ≡ 0 → ⊥
not_column_0 p h e = omega (arith, h.column, e)

-- refuted: indexes count from 1
not_index_1 : (p : Place) → IsPlaceAfter p [] → p.index ≡ 1 → ⊥
not_index_1 p h e = omega (arith, h.index, e)
