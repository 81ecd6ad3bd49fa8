-- Which logs fit an input: those that name what stands in it, in the order of the input, each thing by its line or not at
-- all, and then end.
use Rattle.std.specs.Prelude.{◌≡◌, ℕ, ◌+◌, ◌≤◌, ◌⊎◌, List, [], ◌∷◌, ◌++◌, Result, Ok, Err}
use Rattle.encoding_mem.specs.Piece.{Piece, well_formed, malformed}
use Rattle.recode_log.specs.Line.{line_bytes}
use Rattle.recode_log.specs.declared.line.LogLine.{LogLine}
use Rattle.recode_log.specs.declared.line.LogLine.TheVariants.{Bad, Lost}
use Rattle.recode_places.specs.declared.entry.Stop.{Stop}
use Rattle.recode_places.specs.declared.entry.Stop.TheVariants.{Unfit}
use Rattle.recode_places.specs.Logs.{CanBeLogged, IsLoggedAs, IsLogEnd, LogLeft, bytes, ended, broken, unknown}

-- some bytes are a line that can be logged, or none
abbrev pub IsLineOrNone : LogLine → List ℕ → Type 0
IsLineOrNone l bs = (bs ≡ []) ⊎ (CanBeLogged l × (bs ≡ line_bytes l))

-- some bytes are a log's line for a character with this index, or none
abbrev pub FitsCharacter : (index c : ℕ) → List ℕ → Type 0
FitsCharacter index c bs = (scalar : ℕ) × IsLoggedAs c scalar × IsLineOrNone (Lost index scalar) bs

-- bytes are some of the first kind, and then some of the second
abbrev pub Then : (First Second : List ℕ → Type 0) → List ℕ → Type 0
Then First Second bs = (first second : List ℕ) × (bs ≡ first ++ second) × First first × Second second

-- a log has lines for characters of a text, the first of which has this index, and then what fits after them
abbrev pub FitsText : (index : ℕ) → List ℕ → (After : ℕ → List ℕ → Type 0) → List ℕ → Type 0
FitsText index [] After = After index
FitsText index (c ∷ t) After = Then (FitsCharacter index c) (FitsText (index + 1) t After)

-- a log fits pieces of an input, the first of which stands at this offset and has text from this index on
abbrev pub Fits : (index offset : ℕ) → List Piece → List ℕ → Type 0
Fits index offset [] = IsLogEnd
Fits index offset (well_formed n cs ∷ ps) = FitsText index cs (λ i. Fits i (offset + n) ps)
Fits index offset (malformed n ∷ ps) =
    Then (IsLineOrNone (Bad offset n)) (Then (FitsCharacter index 0xFFFD) (Fits (index + 1) (offset + n) ps))

-- a log fits a text and the pieces after it
abbrev pub FitsFrom : (index offset : ℕ) → List ℕ → List Piece → List ℕ → Type 0
FitsFrom index offset t ps = FitsText index t (λ i. Fits i offset ps)

-- what is left of a log is known, and has a property, or it has ended
abbrev pub IsLeftOfLog : (List ℕ → Type 0) → LogLeft → Type 0
IsLeftOfLog P (bytes x) = P x
IsLeftOfLog P ended = Unit {0}
IsLeftOfLog P broken = ⊥
IsLeftOfLog P unknown = ⊥

-- the error is not that a line of the log is not of the input
abbrev pub IsNotUnfit : Stop → Type 0
IsNotUnfit (Unfit line) = ⊥
IsNotUnfit _ = Unit {0}

-- a call that read some of a log did not refuse it, and what is left has a property if the call succeeded
abbrev pub GoesOn : {T : Type 0} → Result T Stop → (List ℕ → Type 0) → LogLeft → Type 0
GoesOn (Ok x) P left = IsLeftOfLog P left
GoesOn (Err stop) P left = IsNotUnfit stop

-- a line names nothing before the end of a text of so many bytes, whose first character has this index, if it is of a
-- character
abbrev pub IsOutside : (index len : ℕ) → LogLine → Type 0
IsOutside index len (Lost i c) = index + len ≤ i
IsOutside index len (Bad offset n) = Unit {0}
