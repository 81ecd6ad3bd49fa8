-- All that is reported of an input of which no log says what is lost: each of its malformed sequences, and its characters by
-- their fates.
use Rattle.std.specs.Prelude.{◌≡◌, ℕ, ◌+◌, Bool, false, if◌then◌else◌, List, [], ◌∷◌, ◌++◌, length, Option, Some, None, IfSome, map}
use Rattle.encoding_mem.specs.Piece.{Piece, well_formed, malformed}
use Rattle.recode_places.specs.Fates.{Target, fate_of}
use Rattle.recode_places.specs.declared.entry.Entry.{Entry}
use Rattle.recode_places.specs.declared.entry.Finding.{Finding}
use Rattle.recode_places.specs.declared.entry.Finding.TheVariants as found
use Rattle.recode_places.specs.declared.fates.Fate.{Fate}
use Rattle.recode_places.specs.declared.fates.Fate.TheVariants.{Folded, Kept, Lost}

-- What a choice asks: whether it goes by a log, the target, if one is asked, and whether folds are reported.
pub record Asked : Type 0 where
  pub has_log : Bool
  pub target : Option Target
  pub folds : Bool

-- an index in the text, and what was found there
abbrev pub Found : Type 0
Found = ℕ × Finding

-- what an entry found, at the index of its place
abbrev pub found_by : Entry → Found
found_by e = (e.place.index, e.finding)

-- the fate of a character in a target, if one is asked, and else that it is kept
abbrev pub fate_asked : Option Target → ℕ → Fate
fate_asked None c = Kept
fate_asked (Some t) c = fate_of t c

-- what is reported of a character by its fate: that it is lost, if no log is asked, and that it is folded, if folds are
abbrev pub told_by_fate : Asked → ℕ → Fate → Option Finding
told_by_fate a c Kept = None
told_by_fate a c Lost = if a.has_log then None else Some (found.Lost c)
told_by_fate a c (Folded d) = if a.folds then Some (found.Folded c d) else None

-- a finding at this index, if there is one, and then these
abbrev pub if_any : (index : ℕ) → Option Finding → List Found → List Found
if_any index None fs = fs
if_any index (Some f) fs = (index, f) ∷ fs

-- what is reported of the characters of a text, the first of which has this index, by their fates, in their order
abbrev pub found_in_text : Asked → (index : ℕ) → List ℕ → List Found
found_in_text a index [] = []
found_in_text a index (c ∷ t) = if_any index (told_by_fate a c (fate_asked a.target c)) (found_in_text a (index + 1) t)

-- What is reported of pieces of an input, the first of which stands at this offset and has text from this index on: each
-- malformed sequence, at the index of its U+FFFD, and what is reported of the characters of the others, in their order.
abbrev pub found_in : Asked → (index offset : ℕ) → List Piece → List Found
found_in a index offset [] = []
found_in a index offset (well_formed n cs ∷ ps) = found_in_text a index cs ++ found_in a (index + length cs) (offset + n) ps
found_in a index offset (malformed n ∷ ps) = (index, found.Malformed offset n) ∷ found_in a (index + 1) (offset + n) ps

-- If no log is asked, a visitor that says which entries it was handed was handed some more, and what they found, each at its
-- index, is a list of findings, in its order, up to this rest of it.
abbrev pub TellsFound : Asked → (all rest : List Found) (told told' : Option (List Entry)) → Type 0
TellsFound a all rest told told' =
    a.has_log ≡ false → IfSome told (λ es. (more : List Entry) × (told' ≡ Some (es ++ more)) × (all ≡ map found_by more ++ rest))
