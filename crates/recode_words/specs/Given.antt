-- The values that clap's parse of the words gives to the options.
use Rattle.std.specs.Prelude.{◌≡◌, ◌⊎◌, List, Option, Some, None, ◌∷◌, [], codes, is_some, true}
use Rattle.clap.specs.Words.{Text, fault_of, first_of, first_value, found_of, kind_of, matches_of}
use Rattle.clap.specs.declared.error.Error.{Error}
use Rattle.clap.specs.declared.error.kind.ErrorKind.{ErrorKind}
use Rattle.clap.specs.declared.error.kind.ErrorKind.TheVariants.{OutOfMemory}
use Rattle.clap.specs.declared.parser.matches.ArgMatches.{ArgMatches}
use Rattle.recode_words.specs.Command.{recode_app}
use Rattle.recode_words.specs.Meaning.{limit_of, mark_named, pivot_of, policy_named}
use Rattle.recode_words.specs.declared.values.Values.{Values}
use Rattle.recode_words.specs.declared.words.Words.{Words}

-- the value of an option of `recode` in clap's parse of the words, if it has one there
abbrev pub given : Text → List Text → Option Text
given name words = first_of name (matches_of recode_app words)

-- clap's parse of the words ends in an error of the kind, and can end in no other
abbrev pub EndsIn : ErrorKind → List Text → Type 0
EndsIn kind words = fault_of recode_app words ≡ kind ∷ []

-- the error is of the kind that clap's parse of the words ends in, or memory ran out
abbrev pub IsEndOf : List Text → Error → Type 0
IsEndOf words error = (kind_of error ≡ OutOfMemory) ⊎ EndsIn (kind_of error) words

-- clap refuses nothing in the words, the matches have the values that its parse gives, and each
-- option has a value
pub record IsMatch (words : List Text) (m : ArgMatches) : Type 0 where
  pub taken : fault_of recode_app words ≡ []
  pub same : (name : Text) → given name words ≡ first_value (found_of m) name
  pub from : is_some (first_value (found_of m) (codes "from")) ≡ true
  pub to : is_some (first_value (found_of m) (codes "to")) ≡ true
  pub indexes : is_some (first_value (found_of m) (codes "indexes")) ≡ true
  pub mark : is_some (first_value (found_of m) (codes "mark")) ≡ true
  pub unmappable : is_some (first_value (found_of m) (codes "unmappable")) ≡ true
  pub pivot : is_some (first_value (found_of m) (codes "pivot")) ≡ true
  pub limit : is_some (first_value (found_of m) (codes "limit")) ≡ true

-- clap refuses nothing in the words, and the values are those that its parse gives to the options
pub record HasValues (words : List Text) (v : Values) : Type 0 where
  pub taken : fault_of recode_app words ≡ []
  pub from : given (codes "from") words ≡ Some v.from.now
  pub to : given (codes "to") words ≡ Some v.to.now
  pub indexes : given (codes "indexes") words ≡ Some v.indexes.now
  pub mark : given (codes "mark") words ≡ Some v.mark.now
  pub unmappable : given (codes "unmappable") words ≡ Some v.unmappable.now
  pub pivot : given (codes "pivot") words ≡ Some v.pivot.now
  pub limit : given (codes "limit") words ≡ Some v.limit.now

-- each field of the `Words` is what the value of its option stands for: the labels and the folder
-- are the values themselves
pub record IsReading (v : Values) (w : Words) : Type 0 where
  pub from : w.from.now ≡ v.from.now
  pub to : w.to.now ≡ v.to.now
  pub indexes : w.indexes.now ≡ v.indexes.now
  pub mark : mark_named v.mark.now ≡ Some w.mark
  pub unmappable : policy_named v.unmappable.now ≡ Some w.unmappable
  pub pivot : pivot_of v.pivot.now ≡ Some w.pivot
  pub limit : limit_of v.limit.now ≡ Some w.limit

-- the value of `--mark`, `--unmappable`, `--pivot` or `--limit` stands for nothing
abbrev pub HasWrongValue : Values → Type 0
HasWrongValue v = (mark_named v.mark.now ≡ None)
    ⊎ ((policy_named v.unmappable.now ≡ None)
    ⊎ ((pivot_of v.pivot.now ≡ None) ⊎ (limit_of v.limit.now ≡ None)))
