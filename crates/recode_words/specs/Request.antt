-- What the words of the command line ask for, and when they are refused.
use Rattle.std.specs.Prelude.{◌≡◌, ◌≢◌, ◌⊎◌, ◌≤◌, ◌++◌, ⊤, ℕ, Bool, List, Option, Some, None, ◌∷◌, [], codes, drop}
use Rattle.std.specs.Prelude.{option_and_then, string_bytes, true, false}
use Rattle.std.specs.List.{list_any}
use Rattle.std.specs.Str.{bytes_eq}
use Rattle.clap.specs.Words.{Text, fault_of}
use Rattle.clap.specs.declared.error.kind.ErrorKind.{ErrorKind}
use Rattle.clap.specs.declared.error.kind.ErrorKind.TheVariants.{DisplayHelp, DisplayVersion}
use Rattle.recode_words.specs.Command.{recode_app}
use Rattle.recode_words.specs.Given.{EndsIn, given}
use Rattle.recode_words.specs.Meaning.{limit_of, mark_named, pivot_of, policy_named}
use Rattle.recode_words.specs.declared.request.Request.{Request}
use Rattle.recode_words.specs.declared.request.Request.TheVariants.{Run, Help, Version, List as Listing}
use Rattle.recode_words.specs.declared.request.WordsFault.{WordsFault}
use Rattle.recode_words.specs.declared.request.WordsFault.TheVariants.{Refused, OutOfMemory}
use Rattle.recode_words.specs.declared.words.Words.{Words}

-- the text ends with a line feed
abbrev pub IsLine : List ℕ → Type 0
IsLine text = (prefix : List ℕ) × (text ≡ prefix ++ 10 ∷ [])

-- what the value of an option stands for, if clap's parse gives one, and it stands for something
abbrev pub meant : {T : Type 0} → (Text → Option T) → Text → List Text → Option T
meant read name words = option_and_then read (given name words)

-- one of the words after the program's name is `--list`
abbrev pub asks_list : List Text → Bool
asks_list words = list_any (λ word. bytes_eq word (codes "--list")) (drop 1 words)

-- clap refuses nothing in the words of the command line, and each field of the `Words` is what the
-- value of its option stands for
pub record IsMeantBy (words : List Text) (w : Words) : Type 0 where
  pub taken : fault_of recode_app words ≡ []
  pub from : given (codes "from") words ≡ Some w.from.now
  pub to : given (codes "to") words ≡ Some w.to.now
  pub indexes : given (codes "indexes") words ≡ Some w.indexes.now
  pub mark : meant mark_named (codes "mark") words ≡ Some w.mark
  pub unmappable : meant policy_named (codes "unmappable") words ≡ Some w.unmappable
  pub pivot : meant pivot_of (codes "pivot") words ≡ Some w.pivot
  pub limit : meant limit_of (codes "limit") words ≡ Some w.limit

-- The words of the command line ask for a run, help, the version or the list of encodings: for the
-- list if clap's parse ends as at `--version` and one of the words is `--list`.
abbrev pub AsksFor : List Text → Request → Type 0
AsksFor words (Run w) = IsMeantBy words w
AsksFor words (Help text) = EndsIn DisplayHelp words × IsLine (string_bytes text)
AsksFor words (Version text) =
    EndsIn DisplayVersion words × (asks_list words ≡ false) × IsLine (string_bytes text)
AsksFor words Listing = EndsIn DisplayVersion words × (asks_list words ≡ true)

-- clap refuses the words: its parse ends in an error that shows neither help nor the version
abbrev pub IsRefusedByClap : List Text → Type 0
IsRefusedByClap words = (kind : ErrorKind) × EndsIn kind words × (kind ≢ DisplayHelp) × (kind ≢ DisplayVersion)

-- clap takes the words, but the value of `--mark`, `--unmappable`, `--pivot` or `--limit` stands
-- for nothing
abbrev pub HasMeaninglessValue : List Text → Type 0
HasMeaninglessValue words = (fault_of recode_app words ≡ [])
    × ((meant mark_named (codes "mark") words ≡ None)
    ⊎ ((meant policy_named (codes "unmappable") words ≡ None)
    ⊎ ((meant pivot_of (codes "pivot") words ≡ None)
    ⊎ (meant limit_of (codes "limit") words ≡ None))))

-- The fault fits the words: clap refuses them, or a value stands for nothing, and its text ends
-- with a line feed, or memory is refused, which may be at any words.
abbrev pub IsFaultOf : List Text → WordsFault → Type 0
IsFaultOf words (Refused text) =
    (IsRefusedByClap words ⊎ HasMeaninglessValue words) × IsLine (string_bytes text)
IsFaultOf words OutOfMemory = ⊤

-- two faults are of one kind, and two refusals have one text
abbrev pub IsSameFault : WordsFault → WordsFault → Type 0
IsSameFault (Refused text) (Refused other) = string_bytes text ≡ string_bytes other
IsSameFault OutOfMemory OutOfMemory = ⊤
IsSameFault _ _ = ⊥

-- if the request is for a run, its limit is at most 2^48 bytes of input
abbrev pub HasGoodLimit : Request → Type 0
HasGoodLimit (Run w) = w.limit ≤ 281474976710656
HasGoodLimit _ = ⊤
