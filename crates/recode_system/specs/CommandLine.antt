-- What is done and returned for the words of the command line.
use Rattle.std.specs.Prelude.{◌≡◌, ◌⊎◌, ⊤, ℕ, List, Option, ◌∷◌, [], All, Any, IfSome, codes}
use Rattle.std.specs.Str.{IsUtf8}
use Rattle.recode.specs.Devices.{PortsView}
use Rattle.recode.specs.Program.{AnswersProgram, FailsToStart, FileTexts, IsLeftAlone}
use Rattle.recode_system.specs.declared.command_line.Wordless.{Wordless}
use Rattle.recode_system.specs.declared.command_line.Wordless.TheVariants.{NotUtf8, Memory}

-- one of the words is not UTF-8
abbrev pub HasWordNotUtf8 : List (List ℕ) → Type 0
HasWordNotUtf8 words = Any (λ word. ¬ (IsUtf8 word)) words

-- There are no words for this reason: one of them is not UTF-8, as is seen if they are known, or
-- memory is refused, which may be at any words.
abbrev pub IsWhy : Option (List (List ℕ)) → Wordless → Type 0
IsWhy told NotUtf8 = IfSome told HasWordNotUtf8
IsWhy told Memory = ⊤

-- the words of the command line, or the name `recode` alone if there are none, not even a name
abbrev pub words_with_name : List (List ℕ) → List (List ℕ)
words_with_name [] = codes "recode" ∷ []
words_with_name (name ∷ words) = name ∷ words

-- One of the words is not UTF-8, as is seen if they are known. The status is 2, nothing is read,
-- and nothing is written but a message to the log.
pub record RefusesLine {R W L : Type 0} (told : Option (List (List ℕ))) (before after : PortsView R W L) (status : ℕ) : Type 0 where
  pub answered : status ≡ 2
  pub refused : IfSome told HasWordNotUtf8
  pub alone : IsLeftAlone before after

-- Each word is UTF-8, and the program answers the words, those that are known, if they are, or
-- `recode` if there are none, with its status, and with index files of which the source says this.
pub record AnswersLine {R W L : Type 0} (told : Option (List (List ℕ))) (holds : FileTexts) (remaining : R → Option (List ℕ)) (contents : W → Option (List ℕ)) (logged : L → Option (List ℕ)) (before after : PortsView R W L) (status : ℕ) : Type 0 where
  pub words : List (List ℕ)
  pub given : IfSome told (λ all. words ≡ all)
  pub texts : All IsUtf8 words
  pub answered : AnswersProgram holds remaining contents logged before after (words_with_name words) status

-- What is done for a command line: one with a word that is not UTF-8 is refused, or the start
-- fails, or the program answers its words. Each has its status.
abbrev pub AnswersSystem : {R W L : Type 0} → Option (List (List ℕ)) → FileTexts → (R → Option (List ℕ)) → (W → Option (List ℕ)) → (L → Option (List ℕ)) → PortsView R W L → PortsView R W L → ℕ → Type 0
AnswersSystem told holds remaining contents logged before after status =
    RefusesLine told before after status
    ⊎ (FailsToStart before after status
    ⊎ AnswersLine told holds remaining contents logged before after status)
