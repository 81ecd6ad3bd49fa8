-- Why an index is not there, and which are there by then.
use Rattle.std.specs.Prelude.{◌≡◌, ◌≢◌, ◌⊎◌, ⊤, ℕ, List, ◌∷◌, ◌++◌, Some, Contains, codes, false, true}
use Rattle.encoding_front.specs.Encodings.{AreThere}
use Rattle.encoding_index.specs.Loads.{load_fault}
use Rattle.encoding_index.specs.declared.fault.IndexFaultKind.{IndexFaultKind}
use Rattle.encoding_index.specs.declared.fault.LoadFault.{LoadFault}
use Rattle.encoding_index.specs.declared.fault.LoadFault.TheVariants.{Text, Table}
use Rattle.encoding_tables.specs.FileNames.{file_name_of}
use Rattle.encoding_tables.specs.IndexLists.{IndexLists, has}
use Rattle.encoding_tables.specs.declared.index_kind.IndexKind.{IndexKind}
use Rattle.encoding_tables.specs.declared.table_fault.TableFault.{TableFault}
use Rattle.recode.specs.Program.{CanBeAbsent, CanHold, FileTexts, FileTold}
use Rattle.recode.specs.declared.indexes.SourceFault.{SourceFault}
use Rattle.recode.specs.declared.indexes.StartFault.{StartFault}

-- The fault fits what the source says of the file: one whose text it says is not missing. Memory can be refused at
-- any file.
abbrev pub IsReadFault : FileTold → SourceFault → Type 0
IsReadFault told SourceFault.Missing = CanBeAbsent told
IsReadFault told SourceFault.Memory = ⊤

-- the name of the variant, as messages have it
abbrev pub table_fault_name : TableFault → List ℕ
table_fault_name TableFault.Present = codes "Present"
table_fault_name TableFault.Size = codes "Size"
table_fault_name (TableFault.Entry pointer) = codes "Entry"
table_fault_name (TableFault.Reserved pointer) = codes "Reserved"
table_fault_name (TableFault.Ranges row) = codes "Ranges"
table_fault_name TableFault.Memory = codes "Memory"

-- what is reported if a load of the file ended with a fault: the file, and the line and its kind, or the variant's
-- name; or that memory was refused
abbrev pub ReportsFault : (file : List ℕ) → LoadFault → StartFault → Type 0
ReportsFault file (Text fault) (StartFault.Line named line kind) =
    (named.now ≡ file) × (line ≡ fault.line) × (kind ≡ fault.kind) × (kind ≢ IndexFaultKind.Memory)
ReportsFault file (Table fault) (StartFault.Table named kind) =
    (named.now ≡ file) × (kind.now ≡ table_fault_name fault) × (fault ≢ TableFault.Memory)
ReportsFault file (Text fault) StartFault.Memory = fault.kind ≡ IndexFaultKind.Memory
ReportsFault file (Table fault) StartFault.Memory = fault ≡ TableFault.Memory
ReportsFault _ _ _ = ⊥

-- a load of a text that the kind's file can have ends with the fault that is reported
pub record ReportsLoad (tables : IndexLists) (kind : IndexKind) (told : FileTold) (reported : StartFault) : Type 0 where
  pub text : List ℕ
  pub known : CanHold told text
  pub fault : LoadFault
  pub loading : load_fault tables kind text ≡ Some fault
  pub reports : ReportsFault (file_name_of kind) fault reported

-- The fault fits what the source says of the file of the kind: that file can be absent, or can have a text with the
-- fault. Memory can be refused at any file.
abbrev pub IsStartFault : IndexLists → IndexKind → FileTold → StartFault → Type 0
IsStartFault tables kind told (StartFault.Missing file) = (file.now ≡ file_name_of kind) × CanBeAbsent told
IsStartFault tables kind told (StartFault.Line file line fault) = ReportsLoad tables kind told (StartFault.Line file line fault)
IsStartFault tables kind told (StartFault.Table file fault) = ReportsLoad tables kind told (StartFault.Table file fault)
IsStartFault tables kind told StartFault.Memory = ⊤

-- each index that was put into the tables is of one of these kinds
abbrev pub AddsOnly : IndexLists → IndexLists → List IndexKind → Type 0
AddsOnly old new kinds = (kind : IndexKind) → has new kind ≡ true → (has old kind ≡ true) ⊎ Contains kinds kind

-- One of the kinds is not there, for this reason: it is the first such one, those before it are there, and no index was
-- put into the tables but those before it.
pub record LacksOne (holds : FileTexts) (dir : List ℕ) (old new : IndexLists) (kinds : List IndexKind) (fault : StartFault) : Type 0 where
  pub before : List IndexKind
  pub kind : IndexKind
  pub after : List IndexKind
  pub needed : kinds ≡ before ++ kind ∷ after
  pub there : AreThere new before
  pub lacking : has new kind ≡ false
  pub added : AddsOnly old new before
  pub why : IsStartFault new kind (holds dir (file_name_of kind)) fault

-- two faults are of one variant, and name the same file, line and kind
abbrev pub IsSameStartFault : StartFault → StartFault → Type 0
IsSameStartFault (StartFault.Missing file) (StartFault.Missing other) = file.now ≡ other.now
IsSameStartFault (StartFault.Line file line kind) (StartFault.Line other line' kind') =
    (file.now ≡ other.now) × (line ≡ line') × (kind ≡ kind')
IsSameStartFault (StartFault.Table file kind) (StartFault.Table other kind') = (file.now ≡ other.now) × (kind.now ≡ kind'.now)
IsSameStartFault StartFault.Memory StartFault.Memory = ⊤
IsSameStartFault _ _ = ⊥
