-- Which entries are true of an input.
use Rattle.std.specs.Prelude.{◌≡◌, ◌≤◌, ℕ, suc, List, [], ◌∷◌, ◌++◌, Option, Some, IfSome, Result, Ok, Err}
use Rattle.encoding_mem.specs.Piece.{Piece, malformed, sizes, text}
use Rattle.recode_places.specs.Places.{IsPlaceAfter}
use Rattle.recode_places.specs.declared.entry.Entry.{Entry}
use Rattle.recode_places.specs.declared.entry.Finding.{Finding}
use Rattle.recode_places.specs.declared.entry.Finding.TheVariants.{Malformed, Lost, Folded}
use Rattle.recode_places.specs.declared.place.Place.{Place}

-- a character stands at a place of a text
abbrev pub IsCharacterAt : List ℕ → Place → ℕ → Type 0
IsCharacterAt t p c = (before after : List ℕ) × (t ≡ before ++ (c ∷ after)) × IsPlaceAfter p before

-- a malformed sequence of n bytes stands at an offset of an input, and the U+FFFD for it at a place of its text
abbrev pub IsMalformedAt : List Piece → Place → (offset n : ℕ) → Type 0
IsMalformedAt ps p offset n = (before after : List Piece) × (ps ≡ before ++ (malformed n ∷ after)) × (offset ≡ sizes before) × IsPlaceAfter p (text before)

-- what is found at a place stands there, in an input of these pieces and of this text
abbrev pub IsFoundAt : List Piece → List ℕ → Place → Finding → Type 0
IsFoundAt ps t p (Malformed offset n) = IsMalformedAt ps p offset n
IsFoundAt ps t p (Lost c) = IsCharacterAt t p c
IsFoundAt ps t p (Folded c d) = IsCharacterAt t p c

-- each of some entries is true of an input of these pieces and of this text
abbrev pub AreTrue : List Piece → List ℕ → List Entry → Type 0
AreTrue ps t [] = Unit {0}
AreTrue ps t (e ∷ es) = IsFoundAt ps t e.place e.finding × AreTrue ps t es

-- a visitor that says which entries it was handed was handed one more
abbrev pub HasOneMore : (told told' : Option (List Entry)) → Entry → Type 0
HasOneMore told told' e = IfSome told (λ es. told' ≡ Some (es ++ (e ∷ [])))

-- a visitor that says which entries it was handed was handed some more, which are true of these pieces and this text
abbrev pub TellsTrue : List Piece → List ℕ → (told told' : Option (List Entry)) → Type 0
TellsTrue ps t told told' = IfSome told (λ es. (more : List Entry) × (told' ≡ Some (es ++ more)) × AreTrue ps t more)

-- a visitor was handed entries that are true of an input of these pieces
abbrev pub TellsTrueIn : List Piece → (told told' : Option (List Entry)) → Type 0
TellsTrueIn ps told told' = TellsTrue ps (text ps) told told'

-- entries stand at characters of their own, in their order: from the one with this index on, and before that one
abbrev pub ComeInOrder : (from to : ℕ) → List Entry → Type 0
ComeInOrder from to [] = from ≤ to
ComeInOrder from to (e ∷ es) = (from ≤ e.place.index) × ComeInOrder (suc e.place.index) to es

-- a visitor that says which entries it was handed was handed some more, which stand so
abbrev pub TellsRising : (from to : ℕ) → (told told' : Option (List Entry)) → Type 0
TellsRising from to told told' = IfSome told (λ es. (more : List Entry) × (told' ≡ Some (es ++ more)) × ComeInOrder from to more)

-- a visitor was handed entries of characters of their own, in their order
abbrev pub TellsInOrder : (told told' : Option (List Entry)) → Type 0
TellsInOrder told told' = (end : ℕ) × TellsRising 0 end told told'

-- A call handed over entries in their order, from a character on: those before another one if it succeeded.
abbrev pub RisesTo : {T E : Type 0} → Result T E → (from to : ℕ) → (told told' : Option (List Entry)) → Type 0
RisesTo (Ok x) from to told told' = TellsRising from to told told'
RisesTo (Err e) from to told told' = (end : ℕ) × TellsRising from end told told'

-- what is found is this character, lost or folded
abbrev pub IsOfCharacter : ℕ → Finding → Type 0
IsOfCharacter c (Malformed offset n) = ⊥
IsOfCharacter c (Lost d) = c ≡ d
IsOfCharacter c (Folded d e) = c ≡ d
