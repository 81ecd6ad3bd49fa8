-- Where a character of a text stands: its line and its column, counted from 1. Lines end in line feeds (U+000A).
use Rattle.std.specs.Prelude.{◌≡◌, ℕ, suc, ◌+◌, ◌==◌, if◌then◌else◌, List, [], ◌∷◌, length}
use Rattle.recode_places.specs.declared.place.Place.{Place}

-- 1 for a line feed, 0 for another character
abbrev pub feed : ℕ → ℕ
feed c = if c == 10 then 1 else 0

-- how many line feeds a text has
abbrev pub feeds : List ℕ → ℕ
feeds [] = 0
feeds (c ∷ t) = feed c + feeds t

-- how many characters a text has after its last line feed: all, if it has none
abbrev pub after_feed : List ℕ → ℕ
after_feed [] = 0
after_feed (c ∷ t) = if feeds t == 0 then (if c == 10 then length t else suc (length t)) else after_feed t

-- The place of the character that comes after this part of a text: its index is how many characters the part has, its
-- line one more than the part's line feeds, its column one more than the characters after the last of these.
pub record IsPlaceAfter (p : Place) (before : List ℕ) : Type 0 where
  pub index : p.index ≡ length before
  pub line : p.line ≡ 1 + feeds before
  pub column : p.column ≡ 1 + after_feed before
