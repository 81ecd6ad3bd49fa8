-- What it is to load index files into tables.
use Rattle.std.specs.Prelude.{◌≡◌, ◌≢◌, ◌⊎◌, ℕ, length, false, ◌==◌, if◌then◌else◌, All, List, [], ◌∷◌, take, Some, None, slice_get}
use Rattle.encoding_tables.specs.FileNames.{file_name_of}
use Rattle.encoding_tables.specs.IndexLists.{IndexLists, has}
use Rattle.encoding_tables.specs.declared.index_kind.IndexKind.{IndexKind}
use Rattle.encoding_tables.specs.declared.table_fault.TableFault.TheVariants.{Memory}
use Rattle.encoding_index.specs.Loads.{KeepsOtherKinds, Loads, load_fault}
use Rattle.encoding_index.specs.declared.fault.LoadFault.{LoadFault}
use Rattle.encoding_index.specs.declared.fault.LoadFault.TheVariants.{Text, Table}
use Rattle.encoding_front.specs.Encodings.{no_lists}
use Rattle.jillapun_c.specs.declared.status.TheConstants.{UNKNOWN, BAD_INDEX, NO_MEMORY}
use Rattle.jillapun_c.specs.declared.index_files.FileFault.{FileFault}
use Rattle.jillapun_c.specs.declared.index_files.FileFault.TheVariants as told
use Rattle.jillapun_c.specs.declared.index_files.IndexFile.{IndexFile}

-- the file has the name of that of the kind
abbrev pub IsFileOf : IndexKind → IndexFile → Type 0
IsFileOf kind file = file_name_of kind ≡ file.name.now

-- the name of the file is that of no kind
abbrev pub IsOfNoKind : IndexFile → Type 0
IsOfNoKind file = (kind : IndexKind) → file_name_of kind ≢ file.name.now

-- the file's text is without a fault, and the tables hold what it stands for, as the index of its name
pub record IsLoaded (tables : IndexLists) (file : IndexFile) : Type 0 where
  pub kind : IndexKind
  pub named : IsFileOf kind file
  pub faultless : load_fault no_lists kind file.text.now ≡ None
  pub loads : Loads tables kind file.text.now

-- no file has the name of one that comes later
abbrev pub HaveOwnNames : List IndexFile → Type 0
HaveOwnNames [] = Unit {0}
HaveOwnNames (file ∷ files) = All (λ later. later.name.now ≢ file.name.now) files × HaveOwnNames files

-- the tables hold what each of the files stands for, of which no two are of one index, and no other index
pub record HoldFiles (files : List IndexFile) (tables : IndexLists) : Type 0 where
  pub loaded : All (IsLoaded tables) files
  pub apart : HaveOwnNames files
  pub others : (kind : IndexKind) → All (λ file. file_name_of kind ≢ file.name.now) files → has tables kind ≡ false

-- tables took the file as the index of its name, which they did not have, and differ in no other
pub record AddsIndex (old new : IndexLists) (file : IndexFile) : Type 0 where
  pub kind : IndexKind
  pub named : IsFileOf kind file
  pub taken : load_fault old kind file.text.now ≡ None
  pub loads : Loads new kind file.text.now
  pub keeps : KeepsOtherKinds old new kind

-- what is reported of a fault of a load: that memory was refused, or the line, which is 0 if the fault is of no line alone
abbrev pub told_of : LoadFault → FileFault
told_of (Text fault) = if fault.line == 0 then told.Memory else told.Text fault.line
told_of (Table Memory) = told.Memory
told_of (Table _) = told.Text 0

-- loading the file as the index of its name ends in a fault of which that is reported
pub record IsFaulty (tables : IndexLists) (file : IndexFile) (line : ℕ) : Type 0 where
  pub kind : IndexKind
  pub named : IsFileOf kind file
  pub fault : LoadFault
  pub is : load_fault tables kind file.text.now ≡ Some fault
  pub told : told_of fault ≡ told.Text line

-- the fault is the file's, as tables report it that are to take it; memory may be refused for any file of an index
abbrev pub IsFileFault : IndexLists → IndexFile → FileFault → Type 0
IsFileFault tables file told.Unknown = IsOfNoKind file
IsFileFault tables file (told.Text line) = IsFaulty tables file line
IsFileFault tables file told.Memory = (kind : IndexKind) × IsFileOf kind file

-- the files before that number were loaded, and the fault is that of the file there
pub record IsRefusedAt (files : List IndexFile) (number : ℕ) (fault : FileFault) : Type 0 where
  pub tables : IndexLists
  pub before : HoldFiles (take number files) tables
  pub file : IndexFile
  pub there : slice_get files number ≡ Some file
  pub is : IsFileFault tables file fault

-- the status and the line that report a fault
abbrev pub IsFaultTold : FileFault → (status line : ℕ) → Type 0
IsFaultTold told.Unknown status line = (status ≡ UNKNOWN) × (line ≡ 0)
IsFaultTold (told.Text n) status line = (status ≡ BAD_INDEX) × (line ≡ n)
IsFaultTold told.Memory status line = (status ≡ NO_MEMORY) × (line ≡ 0)

-- memory was refused after all files were loaded, which the number of files tells
pub record IsRefusedAfter (files : List IndexFile) (number line status : ℕ) : Type 0 where
  pub tables : IndexLists
  pub holds : HoldFiles files tables
  pub number_ : number ≡ length files
  pub told : IsFaultTold told.Memory status line

-- a status, the number of a file and a line say why the file was not loaded; or memory was refused after all
abbrev pub IsToldAt : List IndexFile → (number line status : ℕ) → Type 0
IsToldAt files number line status =
    ((fault : FileFault) × IsRefusedAt files number fault × IsFaultTold fault status line) ⊎ IsRefusedAfter files number line status
