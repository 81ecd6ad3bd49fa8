-- What the program does and returns for its words.
use Rattle.std.specs.Prelude.{◌≡◌, ◌≢◌, ◌≤◌, ◌⊎◌, ℕ, List, [], ◌++◌, Option, Some, None, IfSome, false, true}
use Rattle.std.specs.Bool.{MatchBool}
use Rattle.encoding_front.specs.Encodings.{HasLabel, needs_of, output_encoding_of}
use Rattle.encoding_front.specs.declared.encoding.Encoding.{Encoding}
use Rattle.encoding_front.specs.declared.mark.Mark.{Mark}
use Rattle.encoding_index.specs.Loads.{Loads, text_fault}
use Rattle.encoding_tables.specs.FileNames.{file_name_of}
use Rattle.encoding_tables.specs.IndexLists.{IndexLists, has}
use Rattle.encoding_tables.specs.Kinds.{is_ranges}
use Rattle.encoding_tables.specs.declared.index_kind.IndexKind.{IndexKind}
use Rattle.recode_log.specs.Counted.{TellsMessage}
use Rattle.recode_log.specs.declared.counted.Counted.{Counted}
use Rattle.recode_words.specs.Request.{AsksFor, HasMeaninglessValue, IsLine, IsRefusedByClap}
use Rattle.recode_words.specs.declared.request.Request.{Request}
use Rattle.recode_words.specs.declared.request.Request.TheVariants.{Run, Help, Version, List as Listing}
use Rattle.recode_words.specs.declared.words.MarkWord.{MarkWord}
use Rattle.recode_words.specs.declared.words.PolicyWord.{PolicyWord}
use Rattle.recode_words.specs.declared.words.Words.{Words}
use Rattle.recode.specs.Conversion.{Converts, EndsInFault, IsConversion}
use Rattle.recode.specs.Devices.{Devices, GaveToEnd, PortsView, devices_of}
use Rattle.recode.specs.Job.{Faithful, IsValidJob}
use Rattle.recode.specs.Order.{IsPaced}
use Rattle.recode.specs.Session.{WroteWhole}
use Rattle.recode.specs.Told.{TellWhatPassed, told_in}
use Rattle.recode.specs.declared.job.Job.{Job}
use Rattle.recode.specs.declared.job.Policy.{Policy}

-- what the word for a mark mode says
abbrev pub mark_of_word : MarkWord → Mark
mark_of_word MarkWord.Sniff = Mark.Sniff
mark_of_word MarkWord.Remove = Mark.Remove
mark_of_word MarkWord.Keep = Mark.Keep

-- what the word for a policy says
abbrev pub policy_of_word : PolicyWord → Policy
policy_of_word PolicyWord.Decimal = Policy.Decimal
policy_of_word PolicyWord.Hexadecimal = Policy.Hexadecimal
policy_of_word PolicyWord.Stop = Policy.Stop

-- the job of the words: its encodings have their labels, and it can be run
pub record IsJobOf (w : Words) (j : Job) : Type 0 where
  pub from : HasLabel j.from w.from.now
  pub to : HasLabel j.to w.to.now
  pub mark : j.mark ≡ mark_of_word w.mark
  pub policy : j.policy ≡ policy_of_word w.unmappable
  pub limit : j.limit ≡ w.limit
  pub valid : IsValidJob j

-- no encoding has the label
abbrev pub IsUnknown : List ℕ → Type 0
IsUnknown label = (e : Encoding) → HasLabel e label → ⊥

-- the label of the source, or that of the target, is of no encoding
abbrev pub HasUnknownLabel : Words → Type 0
HasUnknownLabel w = IsUnknown w.from.now ⊎ IsUnknown w.to.now

-- clap takes the words, but a label in them is unknown
pub record NamesUnknown (words : List (List ℕ)) : Type 0 where
  pub w : Words
  pub meant : AsksFor words (Run w)
  pub unknown : HasUnknownLabel w

-- the labels are of encodings of which one, as it is read or written, needs an index
pub record NeedAnIndex (w : Words) : Type 0 where
  pub from : Encoding
  pub to : Encoding
  pub from_label : HasLabel from w.from.now
  pub to_label : HasLabel to w.to.now
  pub needed : (needs_of from ++ needs_of (output_encoding_of to)) ≢ []

-- the words ask for a run that needs an index
abbrev pub AskForFiles : List (List ℕ) → Type 0
AskForFiles words = (w : Words) × AsksFor words (Run w) × NeedAnIndex w

-- the request is for a text of the program's own: help, version or the list of encodings
abbrev pub IsText : Request → Type 0
IsText (Run w) = ⊥
IsText (Help text) = Unit {0}
IsText (Version text) = Unit {0}
IsText Listing = Unit {0}

-- the words ask for a text of the program's own: help, version or the list of encodings
pub record AskForText (words : List (List ℕ)) : Type 0 where
  pub request : Request
  pub asked : AsksFor words request
  pub text : IsText request

-- what a source says of a file: nothing (`None`), that it is absent (`Some None`), or which bytes it has
abbrev pub FileTold : Type 0
FileTold = Option (Option (List ℕ))

-- the file can have this text: it is the text that the source says, and a file that is said to be absent has none
abbrev pub CanHold : FileTold → List ℕ → Type 0
CanHold told text = IfSome told (λ content. content ≡ Some text)

-- the file can be absent: the source does not say that it has some text
abbrev pub CanBeAbsent : FileTold → Type 0
CanBeAbsent told = IfSome told (λ content. content ≡ None)

-- the index of the kind was loaded from a text without a fault, which its file can have
pub record IsOfFile (tables : IndexLists) (kind : IndexKind) (told : FileTold) : Type 0 where
  pub text : List ℕ
  pub known : CanHold told text
  pub faultless : text_fault kind text ≡ None
  pub loads : Loads tables kind text

-- what a source says of each file, by its folder and its name
abbrev pub FileTexts : Type 0
FileTexts = (dir file : List ℕ) → FileTold

-- each index that is there was loaded from a text without a fault, which its file in the folder can have
abbrev pub AreOfFiles : FileTexts → List ℕ → IndexLists → Type 0
AreOfFiles holds dir tables = (kind : IndexKind) → has tables kind ≡ true → IsOfFile tables kind (holds dir (file_name_of kind))

-- tables before and after a call have the same index of the kind, or both have none
abbrev pub IsSameIndex : IndexLists → IndexLists → IndexKind → Type 0
IsSameIndex old new kind = MatchBool (is_ranges kind) (new.rows ≡ old.rows) (new.flats kind ≡ old.flats kind)

-- each index that was there is there, as it was
abbrev pub AreKept : IndexLists → IndexLists → Type 0
AreKept old new = (kind : IndexKind) → has old kind ≡ true → IsSameIndex old new kind

-- files stay as they are, as does each index that was there, and each new one was loaded from its file in the folder
pub record AddsFromFiles (holds holds' : FileTexts) (dir : List ℕ) (old new : IndexLists) : Type 0 where
  pub same : (d f : List ℕ) → holds' d f ≡ holds d f
  pub kept : AreKept old new
  pub added : (kind : IndexKind) → has old kind ≡ false → has new kind ≡ true → IsOfFile new kind (holds dir (file_name_of kind))

-- The promise of `convert`, of a reader, a writer and a log, with room for 4096 bytes in each read: what it did, and what
-- that says by the status, and of what devices say of their bytes, if they do.
pub record IsConversionOn {R W L : Type 0} (remaining : R → Option (List ℕ)) (contents : W → Option (List ℕ)) (logged : L → Option (List ℕ)) (before after : PortsView R W L) (j : Job) (status : ℕ) : Type 0 where
  pub conversion : IsConversion before after j 4096 status
  pub converts : status ≢ 4 → Converts (devices_of before) (devices_of after) j status
  pub faults : status ≡ 4 → EndsInFault (devices_of before) (devices_of after) j
  pub quiet : status ≢ 4 → (devices_of after).failures ≡ (devices_of before).failures
  pub told : TellWhatPassed (devices_of before) (devices_of after)
      (told_in remaining contents logged before.reader before.writer before.log) (told_in remaining contents logged after.reader after.writer after.log)
  pub order : IsPaced before.journal after.journal j

-- a message, which ends with a line feed, was written to a writer
abbrev pub TellsSome : {T : Type 0} → (before after : Counted T) → Type 0
TellsSome before after = (message : List ℕ) × IsLine message × TellsMessage before after message

-- Nothing is read, and nothing is written but a message to the log.
pub record IsLeftAlone {R W L : Type 0} (before after : PortsView R W L) : Type 0 where
  pub unread : after.reader ≡ before.reader
  pub unwritten : after.writer ≡ before.writer
  pub told : TellsSome before.log after.log

-- What is returned for words that clap takes: a label is unknown, or an index or memory is missing, or their job is
-- converted, with the indexes of the folder's files.
abbrev pub AnswersWords : {R W L : Type 0} → FileTexts → (R → Option (List ℕ)) → (W → Option (List ℕ)) → (L → Option (List ℕ)) → PortsView R W L → PortsView R W L → Words → ℕ → Type 0
AnswersWords holds remaining contents logged before after w status =
    ((status ≡ 2) × HasUnknownLabel w × IsLeftAlone before after)
    ⊎ (((status ≡ 3) × IsLeftAlone before after)
    ⊎ ((j : Job) × IsJobOf w j × AreOfFiles holds w.indexes.now j.tables.now × IsConversionOn remaining contents logged before after j status))

-- The status is 2: clap refuses the words, a value stands for nothing, or a label is unknown. Nothing is read, and
-- nothing is written but a message to the log.
pub record RefusesWords {R W L : Type 0} (before after : PortsView R W L) (words : List (List ℕ)) (status : ℕ) : Type 0 where
  pub answered : status ≡ 2
  pub refused : IsRefusedByClap words ⊎ (HasMeaninglessValue words ⊎ NamesUnknown words)
  pub alone : IsLeftAlone before after

-- the start fails, with status 3: nothing is read, and nothing is written but a message to the log
pub record FailsToStart {R W L : Type 0} (before after : PortsView R W L) (status : ℕ) : Type 0 where
  pub answered : status ≡ 3
  pub alone : IsLeftAlone before after

-- the words ask for a text of the program's own: the status is 0, a text is written, and nothing is read or logged
pub record TellsText {R W L : Type 0} (before after : PortsView R W L) (words : List (List ℕ)) (status : ℕ) : Type 0 where
  pub answered : status ≡ 0
  pub asked : AskForText words
  pub unread : after.reader ≡ before.reader
  pub unlogged : after.log ≡ before.log
  pub told : TellsSome before.writer after.writer

-- the words ask for a run: their job is converted, with the indexes of the folder's files
pub record RunsJob {R W L : Type 0} (holds : FileTexts) (remaining : R → Option (List ℕ)) (contents : W → Option (List ℕ)) (logged : L → Option (List ℕ)) (before after : PortsView R W L) (words : List (List ℕ)) (status : ℕ) : Type 0 where
  pub w : Words
  pub meant : AsksFor words (Run w)
  pub j : Job
  pub job : IsJobOf w j
  pub files : AreOfFiles holds w.indexes.now j.tables.now
  pub converted : IsConversionOn remaining contents logged before after j status

-- What is done for the program's words: they are refused, the start fails, a text of the program's own is printed,
-- or the job that they mean is converted. Each has its status.
abbrev pub AnswersProgram : {R W L : Type 0} → FileTexts → (R → Option (List ℕ)) → (W → Option (List ℕ)) → (L → Option (List ℕ)) → PortsView R W L → PortsView R W L → List (List ℕ) → ℕ → Type 0
AnswersProgram holds remaining contents logged before after words status =
    RefusesWords before after words status
    ⊎ (FailsToStart before after status
    ⊎ (TellsText before after words status
    ⊎ RunsJob holds remaining contents logged before after words status))

-- An input was read to its end, and output and log are exactly those of it.
pub record IsRecodedWhole (before after : Devices) (j : Job) (x : List ℕ) : Type 0 where
  pub given : GaveToEnd before.reads after.reads x
  pub wrote : WroteWhole before.written after.written j x

-- the words ask for a run, and this was done of its job, with the indexes of the folder's files
pub record Ran (holds : FileTexts) (words : List (List ℕ)) (IsDone : Job → Type 0) : Type 0 where
  pub w : Words
  pub meant : AsksFor words (Run w)
  pub j : Job
  pub job : IsJobOf w j
  pub files : AreOfFiles holds w.indexes.now j.tables.now
  pub done : IsDone j

-- What each exit status of the program says.
-- 0: all was written, and nothing was lost; or help, version or list was asked for.
-- 1: all was written, and something was lost.
-- 2: the words were refused. 3: the start failed. Nothing was read.
-- 4: a fault ended the run.
pub record StatusSays {R W L : Type 0} (holds : FileTexts) (before after : PortsView R W L) (words : List (List ℕ)) (status : ℕ) : Type 0 where
  pub zero : status ≡ 0 → TellsText before after words status
      ⊎ Ran holds words (λ j. (x : List ℕ) × IsRecodedWhole (devices_of before) (devices_of after) j x × Faithful j x)
  pub one : status ≡ 1 → Ran holds words (λ j. (x : List ℕ) × IsRecodedWhole (devices_of before) (devices_of after) j x × ¬ (Faithful j x))
  pub two : status ≡ 2 → RefusesWords before after words status
  pub three : status ≡ 3 → FailsToStart before after status
  pub four : status ≡ 4 → Ran holds words (EndsInFault (devices_of before) (devices_of after))
  pub known : status ≤ 4
