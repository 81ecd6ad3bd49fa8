-- What is left of a log, as the parts of the walk over it hold it.
use Rattle.std.specs.Prelude.{◌≡◌, ℕ, Bool, true, false, List, [], ◌∷◌, ◌++◌, Option, Some, None, option_map, drop, take}
use Rattle.recode_log.specs.Line.{line_bytes}
use Rattle.recode_log.specs.declared.line.LogLine.{LogLine}
use Rattle.recode_log.specs.declared.line.LogLine.TheVariants.{Bad}
use Rattle.recode_places.specs.Logs.{AreLinesOf, AreLinesOfMalformed, BeginsWithLine, CanBeLogged, IsLineOfCharacter, IsLogEnd, IsMessage, LogLeft, TakesLines, bytes, ended, broken, unknown}
use Rattle.recode_places.specs.declared.choice.Choice.{Choice}
use Rattle.recode_places.specs.declared.entry.Finding.{Finding}
use Rattle.recode_places.specs.declared.log_lines.LogLines.{LogLines}
use Rattle.recode_places.specs.declared.log_lines.NextLine.{NextLine}
use Rattle.recode_places.specs.declared.log_lines.NextLine.TheVariants.{Line, End, Other}
use Rattle.recode_places.specs.declared.log_match.LogMatch.{LogMatch}

-- the bytes that are still to be read, if the reader says so
abbrev pub unread : {L : Type 0} → (L → Option (List ℕ)) → LogLines L → Option (List ℕ)
unread remaining s = option_map (λ x. drop s.at (take s.len s.bytes) ++ x) (remaining s.reader)

-- what is left, with the line that was read and not matched
abbrev pub log_left_after : NextLine → Option (List ℕ) → LogLeft
log_left_after (Line l) (Some x) = bytes (line_bytes l ++ x)
log_left_after (Line l) None = unknown
log_left_after End x = ended
log_left_after Other x = broken

-- what is left of a log that is matched
abbrev pub match_left : {L : Type 0} → (L → Option (List ℕ)) → LogMatch L → LogLeft
match_left remaining m = log_left_after m.next (unread remaining m.lines)

-- what is left of a log that is matched: unknown, if there is none
abbrev pub left_of_option : {L : Type 0} → (L → Option (List ℕ)) → Option (LogMatch L) → LogLeft
left_of_option remaining None = unknown
left_of_option remaining (Some m) = match_left remaining m

-- what is left of the log that a choice goes by: unknown, if there is none
abbrev pub choice_left : {L : Type 0} → (L → Option (List ℕ)) → Choice L → LogLeft
choice_left remaining c = left_of_option remaining c.log

-- what a reader has, as a log of which nothing was read
abbrev pub whole_log : Option (List ℕ) → LogLeft
whole_log None = unknown
whole_log (Some x) = bytes x

-- a byte was read, or none was left
abbrev pub ReadsByte : (old new : Option (List ℕ)) → Option ℕ → Type 0
ReadsByte None new b = Unit {0}
ReadsByte (Some x) new None = x ≡ []
ReadsByte (Some x) new (Some b) = (y : List ℕ) × (new ≡ Some y) × (x ≡ b ∷ y)

-- the line was read that comes next, or nothing more comes, or what comes is neither
abbrev pub ReadsLine : (old new : Option (List ℕ)) → NextLine → Type 0
ReadsLine None new next = Unit {0}
ReadsLine (Some x) new (Line l) = (y : List ℕ) × (new ≡ Some y) × (x ≡ line_bytes l ++ y) × CanBeLogged l
ReadsLine (Some x) new End = IsLogEnd x
ReadsLine (Some x) new Other = ¬ (IsLogEnd x) × ¬ (BeginsWithLine x)

-- what bytes say that are a whole line, or too many for one
abbrev pub IsMeaning : List ℕ → NextLine → Type 0
IsMeaning bs (Line l) = (line_bytes l ≡ bs) × CanBeLogged l
IsMeaning bs End = IsMessage bs
IsMeaning bs Other = ¬ (IsMessage bs) × ((l : LogLine) → CanBeLogged l → ¬ (line_bytes l ≡ bs))

-- what was read of a log has this property
abbrev pub TakesSome : (left left' : LogLeft) → (List ℕ → Type 0) → Type 0
TakesSome left left' P = (bs : List ℕ) × TakesLines left left' bs × P bs

-- the lines of a character, if it is named: none, if it isn't
abbrev pub NamesCharacter : (index c : ℕ) → Bool → List ℕ → Type 0
NamesCharacter index c true bs = IsLineOfCharacter index c bs
NamesCharacter index c false bs = bs ≡ []

-- the line of a malformed sequence, if it is there
abbrev pub NamesSequence : (offset n : ℕ) → Bool → List ℕ → Type 0
NamesSequence offset n true bs = bs ≡ line_bytes (Bad offset n)
NamesSequence offset n false bs = bs ≡ []

-- the lines of a malformed sequence, if it is named: none, if it isn't
abbrev pub NamesMalformed : (index offset n : ℕ) → Bool → List ℕ → Type 0
NamesMalformed index offset n true bs = AreLinesOfMalformed index offset n bs
NamesMalformed index offset n false bs = bs ≡ []

-- the lines of what is found, if anything is
abbrev pub NamesFound : (index : ℕ) → Option Finding → List ℕ → Type 0
NamesFound index None bs = bs ≡ []
NamesFound index (Some f) bs = AreLinesOf index f bs
