-- How the lines of a log name what is reported.
use Rattle.std.specs.Prelude.{◌≡◌, ℕ, ◌<◌, ◌⊎◌, length, List, [], ◌∷◌, ◌++◌, Option, Some, IfSome, codes}
use Rattle.recode_log.specs.Line.{HasScalar, IsValid, line_bytes}
use Rattle.recode_log.specs.declared.line.LogLine.{LogLine}
use Rattle.recode_log.specs.declared.line.LogLine.TheVariants.{Bad}
use Rattle.recode_log.specs.declared.line.LogLine.TheVariants as line
use Rattle.recode_places.specs.Places.{feeds}
use Rattle.recode_places.specs.declared.entry.Entry.{Entry}
use Rattle.recode_places.specs.declared.entry.Finding.{Finding}
use Rattle.recode_places.specs.declared.entry.Finding.TheVariants.{Malformed, Lost, Folded}

-- a line can be logged: it is valid, and its character, if it has one, is a scalar
abbrev pub CanBeLogged : LogLine → Type 0
CanBeLogged l = IsValid l × HasScalar l

-- bytes begin as a message of `recode` does
abbrev pub IsMessage : List ℕ → Type 0
IsMessage x = (more : List ℕ) × (x ≡ codes "recode: " ++ more)

-- a log has nothing more to say: it is at its end, its last line is cut short, or a message of `recode` comes
abbrev pub IsLogEnd : List ℕ → Type 0
IsLogEnd x = ((feeds x ≡ 0) × (length x < 64)) ⊎ IsMessage x

-- bytes begin with a line that can be logged
abbrev pub BeginsWithLine : List ℕ → Type 0
BeginsWithLine x = (l : LogLine) × (rest : List ℕ) × CanBeLogged l × (x ≡ line_bytes l ++ rest)

-- the three controls that ISO-2022-JP refuses
abbrev pub IsRefusedControl : ℕ → Type 0
IsRefusedControl c = (c ≡ 0x0E) ⊎ (c ≡ 0x0F) ⊎ (c ≡ 0x1B)

-- a lost character is logged with this number: with its own, or, if it is a refused control, with that of U+FFFD
abbrev pub IsLoggedAs : (c scalar : ℕ) → Type 0
IsLoggedAs c scalar = (scalar ≡ c) ⊎ ((scalar ≡ 0xFFFD) × IsRefusedControl c)

-- some bytes are the log's line for a character with this index
abbrev pub IsLineOfCharacter : (index c : ℕ) → List ℕ → Type 0
IsLineOfCharacter index c bs = (scalar : ℕ) × IsLoggedAs c scalar × (bs ≡ line_bytes (line.Lost index scalar))

-- some bytes are the log's lines for a malformed sequence, whose U+FFFD has this index: its line, that of its U+FFFD, or both
abbrev pub AreLinesOfMalformed : (index offset n : ℕ) → List ℕ → Type 0
AreLinesOfMalformed index offset n bs =
    (bs ≡ line_bytes (Bad offset n)) ⊎ (bs ≡ line_bytes (line.Lost index 0xFFFD)) ⊎ (bs ≡ line_bytes (Bad offset n) ++ line_bytes (line.Lost index 0xFFFD))

-- some bytes are the log's lines for what is found at a character with this index: none for one that is folded
abbrev pub AreLinesOf : (index : ℕ) → Finding → List ℕ → Type 0
AreLinesOf index (Malformed offset n) bs = AreLinesOfMalformed index offset n bs
AreLinesOf index (Lost c) bs = IsLineOfCharacter index c bs
AreLinesOf index (Folded c d) bs = bs ≡ []

-- some bytes are the log's lines for these entries, in their order
abbrev pub NameAll : List Entry → List ℕ → Type 0
NameAll [] bs = bs ≡ []
NameAll (e ∷ es) bs = (first rest : List ℕ) × (bs ≡ first ++ rest) × AreLinesOf e.place.index e.finding first × NameAll es rest

-- what is left of a log: these bytes, nothing more, something that is no line, or what its reader does not say
pub data LogLeft : Type 0 where
  bytes : List ℕ → LogLeft
  ended : LogLeft
  broken : LogLeft
  unknown : LogLeft

-- of a log that had so much left, these bytes were read, and now so much is left
abbrev pub TakesLines : (left left' : LogLeft) → List ℕ → Type 0
TakesLines (bytes x) (bytes y) bs = x ≡ bs ++ y
TakesLines (bytes x) ended bs = (end : List ℕ) × (x ≡ bs ++ end) × IsLogEnd end
TakesLines (bytes x) broken bs = (rest : List ℕ) × (x ≡ bs ++ rest)
TakesLines (bytes x) unknown bs = ⊥
TakesLines ended ended bs = bs ≡ []
TakesLines broken broken bs = bs ≡ []
TakesLines unknown left bs = Unit {0}
TakesLines ended (bytes x) bs = ⊥
TakesLines ended broken bs = ⊥
TakesLines ended unknown bs = ⊥
TakesLines broken (bytes x) bs = ⊥
TakesLines broken ended bs = ⊥
TakesLines broken unknown bs = ⊥

-- a visitor that says which entries it was handed was handed more, and what was read of a log are their lines
abbrev pub TellsLines : (left left' : LogLeft) (told told' : Option (List Entry)) → Type 0
TellsLines left left' told told' =
    IfSome told (λ es. (more : List Entry) × (told' ≡ Some (es ++ more)) × ((bs : List ℕ) × TakesLines left left' bs × NameAll more bs))
