-- What contracts say of `Fates`, and of what a `Choice` asks.
use Rattle.std.specs.Prelude.{◌≡◌, ◌⊎◌, ℕ, true, List, [], ◌∷◌, ◌++◌, Option, Some, None, IfSome, is_some, option_map, take}
use Rattle.encoding_mem.specs.Coding.{IsMapped, output}
use Rattle.encoding_mem.specs.declared.codec.reference.Reference.TheVariants.{Decimal}
use Rattle.encoding_front.specs.Encodings.{coding_of}
use Rattle.recode_places.specs.Fates.{AreAllKept, Target}
use Rattle.recode_places.specs.Findings.{Asked, fate_asked, told_by_fate}
use Rattle.recode_places.specs.declared.choice.Choice.{Choice}
use Rattle.recode_places.specs.declared.entry.Entry.{Entry}
use Rattle.recode_places.specs.declared.entry.Finding.{Finding}
use Rattle.recode_places.specs.declared.entry.Finding.TheVariants as found
use Rattle.recode_places.specs.declared.fates.Fate.TheVariants.{Folded, Lost}
use Rattle.recode_places.specs.declared.fates.Fates.{Fates}

-- the target that is asked
abbrev pub fates_target : Fates → Target
fates_target f = record { tables = f.tables.now; encoding = f.to }

-- a character was written as a text of its own, or has no bytes
abbrev pub IsWrittenAs : Target → ℕ → (bytes : List ℕ) → Option ℕ → Type 0
IsWrittenAs t c bytes None = ¬ (IsMapped ((coding_of t.tables t.encoding).form c))
IsWrittenAs t c bytes (Some n) =
    IsMapped ((coding_of t.tables t.encoding).form c) × (take n bytes ≡ output Decimal (coding_of t.tables t.encoding) (c ∷ []))

-- what a choice asks
abbrev pub asked_by : {L : Type 0} → Choice L → Asked
asked_by c = record { has_log = is_some c.log; target = option_map fates_target c.fates; folds = c.folds }

-- each character of a text is kept in a target, if one is asked
abbrev pub AreKeptIfAsked : Option Target → List ℕ → Type 0
AreKeptIfAsked None cs = Unit {0}
AreKeptIfAsked (Some t) cs = AreAllKept t cs

-- this is reported of a character: what its fate says, or that it is lost, if a log names it
abbrev pub IsToldOf : Asked → ℕ → Option Finding → Type 0
IsToldOf a c told = (told ≡ told_by_fate a c (fate_asked a.target c)) ⊎ ((a.has_log ≡ true) × (told ≡ Some (found.Lost c)))

-- what is found is as its fate says: a character that is folded is so in the target, and folds are asked for; one that is
-- lost is so there, or a log names it
abbrev pub IsAsFated : Asked → Finding → Type 0
IsAsFated a (found.Malformed offset n) = Unit {0}
IsAsFated a (found.Lost c) = (fate_asked a.target c ≡ Lost) ⊎ (a.has_log ≡ true)
IsAsFated a (found.Folded c d) = (fate_asked a.target c ≡ Folded d) × (a.folds ≡ true)

-- each of some entries is as its fate says
abbrev pub AreAsFated : Asked → List Entry → Type 0
AreAsFated a [] = Unit {0}
AreAsFated a (e ∷ es) = IsAsFated a e.finding × AreAsFated a es

-- a visitor that says which entries it was handed was handed more that are as their fates say, and as much is asked as before
abbrev pub TellsFates : (asked asked' : Asked) → (told told' : Option (List Entry)) → Type 0
TellsFates a a' told told' = (a' ≡ a) × IfSome told (λ es. (more : List Entry) × (told' ≡ Some (es ++ more)) × AreAsFated a more)
