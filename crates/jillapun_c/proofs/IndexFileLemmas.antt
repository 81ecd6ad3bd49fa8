-- Kinds by the names of their files.
use Rattle.std.proofs.Common.{◌≡◌, ◌≢◌, ℕ, suc, ◌+◌, ◌<◌, ◌≤◌, Bool, true, false, List, [], ◌∷◌, ◌++◌, inl, inr, refl, sym, ap, ◌∙◌, subst, length, take, get_or, Option, Some, None, arith}
use Rattle.std.proofs.lemmas.Bool.Decides.{not_from_Decides}
use Rattle.std.proofs.lemmas.Slice.Eq.{bytes_eq-Decides}
use Rattle.std.proofs.lemmas.Bool.{cases_eq}
use Rattle.std.specs.Str.{bytes_eq}
use Rattle.encoding_tables.specs.FileNames.{FileNamesDiffer, file_name_of}
use Rattle.encoding_front.specs.Encodings.{no_lists}
use Rattle.encoding_tables.specs.Kinds.{index_size, is_ranges}
use Rattle.encoding_tables.specs.calls.Slots.{slot_of}
use Rattle.encoding_tables.specs.IndexLists.{IndexLists, has}
use Rattle.encoding_index.specs.IndexText.{text_list, text_rows}
use Rattle.encoding_index.specs.Loads.{KeepsOtherKinds, Loads, load_fault, table_fault, text_fault}
use Rattle.encoding_index.specs.declared.fault.IndexFault.{IndexFault}
use Rattle.encoding_index.specs.declared.fault.LoadFault.TheVariants.{Text, Table}
use Rattle.encoding_tables.specs.TableFaults.{flat_fault, range_fault}
use Rattle.encoding_tables.specs.declared.table_fault.TableFault.{TableFault}
use Rattle.std.proofs.lemmas.List.{take_all}
use Rattle.std.proofs.lemmas.List.Elements.{All-head, All-nil, All-pop, All-push, All-tail, All-weaker}
use Rattle.std.proofs.lemmas.Option.{slice_get-get_or}
use Rattle.std.proofs.Math.Seq.{take-suc}
use Rattle.std.specs.Bool.{MatchBool}
use Rattle.std.specs.Option.{option_map, option_or}
use Rattle.std.specs.Prelude.{All, if◌then◌else◌, is_some}
use Rattle.encoding_tables.specs.declared.index_kind.IndexKind.{IndexKind}
use Rattle.encoding_tables.specs.declared.index_kind.IndexKind.TheVariants.{Ibm866, Gb18030Ranges}
use Rattle.jillapun_c.specs.IndexFiles.{AddsIndex, HaveOwnNames, HoldFiles, IsFileFault, IsFileOf, IsLoaded, IsRefusedAt}
use Rattle.jillapun_c.specs.declared.index_files.FileFault.{FileFault}
use Rattle.jillapun_c.specs.declared.index_files.IndexFile.{IndexFile}
use Rattle.encoding_tables.specs.declared.index_kind.TheConstants.IndexKind.{ALL as KINDS}

again : (kind : IndexKind) → get_or KINDS (slot_of kind) Ibm866 ≡ kind
again Ibm866 = refl
again _ = refl

slot_is_small : (kind : IndexKind) → slot_of kind < 34
slot_is_small Ibm866 = omega arith
slot_is_small _ = omega arith

-- the files of the kinds below that slot have other names
abbrev OthersBelow : ℕ → List ℕ → Type 0
OthersBelow n name = (kind : IndexKind) → slot_of kind < n → file_name_of kind ≢ name

pub passes_kind : (n : ℕ) (name file : List ℕ) → OthersBelow n name → file ≡ file_name_of (get_or KINDS n Ibm866) → bytes_eq file name ≡ false → OthersBelow (n + 1) name
passes_kind n name file before is_file differs kind below same = elim (cases_eq (slot_of kind) n) [
  | inl here ↦ not_from_Decides (bytes_eq file name) (bytes_eq-Decides file name) differs
      (is_file ∙ ap (λ m. file_name_of (get_or KINDS m Ibm866)) (sym here) ∙ ap file_name_of (again kind) ∙ same)
  | inr apart ↦ before kind (omega (arith, below, apart)) same
]

pub no_kind : (n : ℕ) (name : List ℕ) → 34 ≤ n → OthersBelow n name → (kind : IndexKind) → file_name_of kind ≢ name
no_kind n name all below kind = below kind (omega (arith, all, slot_is_small kind))

-- ---- one file more

-- what kinds of index with rows have in common: there is only one
ranges_is : (kind : IndexKind) → is_ranges kind ≡ true → kind ≡ Gb18030Ranges
ranges_is Gb18030Ranges e = refl
ranges_is _ e = cc

-- tables that hold what a text stands for have the index
loaded_has : (tables : IndexLists) (kind : IndexKind) (text : List ℕ) → Loads tables kind text → has tables kind ≡ true
loaded_has tables kind text loads = elim (is_ranges kind) as (λ b. MatchBool b (tables.rows ≡ Some (text_rows text)) (tables.flats kind ≡ Some (text_list (index_size kind) text))
    → (if b then is_some tables.rows else is_some (tables.flats kind)) ≡ true) [
      | true ↦ λ rows. ap is_some rows
      | false ↦ λ flat. ap is_some flat
    ] loads

-- what is wrong with the text comes first, then what the tables refuse
table_took : (text : Option IndexFault) (table : Option TableFault) → option_or (option_map Text text) (option_map Table table) ≡ None → table ≡ None
table_took None None e = refl
table_took None (Some fault) e = cc
table_took (Some fault) table e = cc

rows_are_new : (there : Bool) (rows : List (ℕ × ℕ)) → range_fault there rows ≡ None → there ≡ false
rows_are_new true rows e = cc
rows_are_new false rows e = refl

flat_is_new : (there : Bool) (kind : IndexKind) (flat : List ℕ) → flat_fault there kind flat ≡ None → there ≡ false
flat_is_new true kind flat e = cc
flat_is_new false kind flat e = refl

-- tables that take a text do not have the index yet
index_is_new : (tables : IndexLists) (kind : IndexKind) (text : List ℕ) → table_fault tables kind text ≡ None → has tables kind ≡ false
index_is_new tables kind text = elim (is_ranges kind) as (λ r.
    (if r then range_fault (is_some tables.rows) (text_rows text)
    else flat_fault (if r then is_some tables.rows else is_some (tables.flats kind)) kind (text_list (index_size kind) text)) ≡ None
    → (if r then is_some tables.rows else is_some (tables.flats kind)) ≡ false) [
      | true ↦ rows_are_new (is_some tables.rows) (text_rows text)
      | false ↦ flat_is_new (is_some (tables.flats kind)) kind (text_list (index_size kind) text)
    ]

-- and the text is without a fault
text_took : (text : Option IndexFault) (table : Option TableFault) → option_or (option_map Text text) (option_map Table table) ≡ None → text ≡ None
text_took None table e = refl
text_took (Some fault) table e = cc

rows_alone : (there : Bool) (rows : List (ℕ × ℕ)) → range_fault there rows ≡ None → range_fault false rows ≡ None
rows_alone true rows e = cc
rows_alone false rows e = e

flat_alone : (there : Bool) (kind : IndexKind) (flat : List ℕ) → flat_fault there kind flat ≡ None → flat_fault false kind flat ≡ None
flat_alone true kind flat e = cc
flat_alone false kind flat e = e

-- what tables take tables with no index take
index_alone : (tables : IndexLists) (kind : IndexKind) (text : List ℕ) → table_fault tables kind text ≡ None → table_fault no_lists kind text ≡ None
index_alone tables kind text = elim (is_ranges kind) as (λ r.
    (if r then range_fault (is_some tables.rows) (text_rows text)
    else flat_fault (if r then is_some tables.rows else is_some (tables.flats kind)) kind (text_list (index_size kind) text)) ≡ None
    → (if r then range_fault false (text_rows text)
    else flat_fault (if r then false else false) kind (text_list (index_size kind) text)) ≡ None) [
      | true ↦ rows_alone (is_some tables.rows) (text_rows text)
      | false ↦ flat_alone (is_some (tables.flats kind)) kind (text_list (index_size kind) text)
    ]

no_fault : (text : Option IndexFault) (table : Option TableFault) → text ≡ None → table ≡ None → option_or (option_map Text text) (option_map Table table) ≡ None
no_fault None None e f = refl
no_fault None (Some fault) e f = cc
no_fault (Some fault) table e f = cc

taken_alone : (tables : IndexLists) (kind : IndexKind) (text : List ℕ) → load_fault tables kind text ≡ None → load_fault no_lists kind text ≡ None
unfolding load_fault
taken_alone tables kind text taken = no_fault (text_fault kind text) (table_fault no_lists kind text)
    (text_took (text_fault kind text) (table_fault tables kind text) taken)
    (index_alone tables kind text (table_took (text_fault kind text) (table_fault tables kind text) taken))

taken_is_new : (tables : IndexLists) (kind : IndexKind) (text : List ℕ) → load_fault tables kind text ≡ None → has tables kind ≡ false
unfolding load_fault
taken_is_new tables kind text taken = index_is_new tables kind text (table_took (text_fault kind text) (table_fault tables kind text) taken)

-- beside an index with rows there is no other such
others_are_flat : (kind other : IndexKind) → other ≢ kind → is_ranges other ≡ true → is_ranges kind ≡ false
others_are_flat kind other apart e = elim (is_ranges kind) as (λ s. is_ranges kind ≡ s → s ≡ false) [
  | true ↦ λ h. absurd (apart (ranges_is other e ∙ sym (ranges_is kind h)))
  | false ↦ λ h. refl
] refl

-- an index of another kind stays
keeps_loaded : (old new : IndexLists) (kind other : IndexKind) (text : List ℕ) → KeepsOtherKinds old new kind → other ≢ kind → Loads old other text → Loads new other text
keeps_loaded old new kind other text keeps apart = elim (is_ranges other) as (λ r. is_ranges other ≡ r
    → MatchBool r (old.rows ≡ Some (text_rows text)) (old.flats other ≡ Some (text_list (index_size other) text))
    → MatchBool r (new.rows ≡ Some (text_rows text)) (new.flats other ≡ Some (text_list (index_size other) text))) [
      | true ↦ λ e rows. keeps.1 (others_are_flat kind other apart e) ∙ rows
      | false ↦ λ e flat. keeps.0 other apart ∙ flat
    ] refl

keeps_absent : (old new : IndexLists) (kind other : IndexKind) → KeepsOtherKinds old new kind → other ≢ kind → has old other ≡ false → has new other ≡ false
keeps_absent old new kind other keeps apart = elim (is_ranges other) as (λ r. is_ranges other ≡ r
    → (if r then is_some old.rows else is_some (old.flats other)) ≡ false
    → (if r then is_some new.rows else is_some (new.flats other)) ≡ false) [
      | true ↦ λ e absent. ap is_some (keeps.1 (others_are_flat kind other apart e)) ∙ absent
      | false ↦ λ e absent. ap is_some (keeps.0 other apart) ∙ absent
    ] refl

both : {b : Bool} → b ≡ true → b ≡ false → ⊥
both e f = cc

-- a name that no file has yet
names_push : (files : List IndexFile) (file : IndexFile) → HaveOwnNames files → All (λ earlier. file.name.now ≢ earlier.name.now) files → HaveOwnNames (files ++ file ∷ [])
names_push [] file names others = (All-nil (λ later. later.name.now ≢ file.name.now), tt)
names_push (first ∷ files) file names others = (
  All-push (λ later. later.name.now ≢ first.name.now) files file names.0 (All-head (λ earlier. file.name.now ≢ earlier.name.now) first files others),
  names_push files file names.1 (All-tail (λ earlier. file.name.now ≢ earlier.name.now) first files others),
)

-- an index that tables do not have is that of no file that they hold
other_name : FileNamesDiffer → (old : IndexLists) (kind : IndexKind) (file earlier : IndexFile) → IsFileOf kind file → has old kind ≡ false → IsLoaded old earlier → file.name.now ≢ earlier.name.now
other_name differ old kind file earlier named absent l = λ same.
    both (subst (λ k. has old k ≡ true) (differ l.kind kind (l.named ∙ sym same ∙ sym named)) (loaded_has old l.kind earlier.text.now l.loads)) absent

adds_file : FileNamesDiffer → (files : List IndexFile) (old new : IndexLists) (file : IndexFile) → HoldFiles files old → AddsIndex old new file → HoldFiles (files ++ file ∷ []) new
adds_file differ files old new file holds adds = record {
  loaded = All-push (IsLoaded new) files file
      (All-weaker (IsLoaded old) (IsLoaded new) (λ earlier l. record {
        kind = l.kind;
        named = l.named;
        faultless = l.faultless;
        loads = keeps_loaded old new adds.kind l.kind earlier.text.now adds.keeps
            (λ same. both (subst (λ k. has old k ≡ true) same (loaded_has old l.kind earlier.text.now l.loads)) (taken_is_new old adds.kind file.text.now adds.taken))
            l.loads;
      }) files holds.loaded)
      (record { kind = adds.kind; named = adds.named; faultless = taken_alone old adds.kind file.text.now adds.taken; loads = adds.loads });
  apart = names_push files file holds.apart
      (All-weaker (IsLoaded old) (λ earlier. file.name.now ≢ earlier.name.now) (λ earlier l.
      other_name differ old adds.kind file earlier adds.named (taken_is_new old adds.kind file.text.now adds.taken) l) files holds.loaded);
  others = λ kind apart. let parts = All-pop (λ f. file_name_of kind ≢ f.name.now) (files ++ file ∷ []) files (Some file) refl apart in
      keeps_absent old new adds.kind kind adds.keeps (λ same. parts.1 (ap file_name_of same ∙ adds.named)) (holds.others kind parts.0);
}

pub one_more : FileNamesDiffer → (files : List IndexFile) (n : ℕ) (d : IndexFile) (old new : IndexLists) → n < length files → HoldFiles (take n files) old → AddsIndex old new (get_or files n d)
    → HoldFiles (take (n + 1) files) new
one_more differ files n d old new within holds adds = let next : suc n ≡ n + 1 = omega arith in
    subst (λ m. HoldFiles (take m files) new) next (subst (λ fs. HoldFiles fs new) (sym (take-suc files n d within)) (adds_file differ (take n files) old new (get_or files n d) holds adds))

pub all_of_them : (files : List IndexFile) (n : ℕ) (tables : IndexLists) → length files ≤ n → HoldFiles (take n files) tables → HoldFiles files tables
all_of_them files n tables past holds = subst (λ fs. HoldFiles fs tables) (take_all n files past) holds

pub refused_at : (files : List IndexFile) (n : ℕ) (d : IndexFile) (tables : IndexLists) (fault : FileFault) → n < length files → HoldFiles (take n files) tables
    → IsFileFault tables (get_or files n d) fault → IsRefusedAt files n fault
refused_at files n d tables fault within holds is = record { tables = tables; before = holds; file = get_or files n d; there = slice_get-get_or files n d within; is = is }
