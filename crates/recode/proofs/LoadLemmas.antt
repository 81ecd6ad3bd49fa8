-- What is there after an index is loaded.
use Rattle.std.proofs.Common.{◌≡◌, ◌≢◌, ◌⊎◌, ◌∙◌, ◌<◌, ℕ, zero, suc, List, [], ◌∷◌, ap, refl, subst, sym, arith, Option, None, Some, Bool, true, false, inl, inr, is_some, ◌++◌, drop, take, length, get_or}
use Rattle.std.specs.Prelude.{if◌then◌else◌, MatchOption, Result, Ok, Err, option_map}
use Rattle.std.specs.Option.{option_or}
use Rattle.std.specs.Bool.{MatchBool}
use Rattle.std.proofs.lemmas.Bool.{false_from_ne_true, cases_Bool}
use Rattle.std.proofs.lemmas.List.{take-append-drop}
use Rattle.std.proofs.lemmas.List.Elements.{Contains-append_left, Contains-append_right}
use Rattle.encoding_tables.specs.IndexLists.{IndexLists, has}
use Rattle.encoding_tables.specs.Kinds.{is_ranges, index_size}
use Rattle.encoding_tables.specs.laws.Kinds.{same_or_apart}
use Rattle.encoding_tables.specs.FileNames.{file_name_of}
use Rattle.encoding_tables.specs.declared.table_fault.TableFault.{TableFault}
use Rattle.encoding_tables.specs.declared.index_kind.IndexKind.{IndexKind}
use Rattle.encoding_tables.specs.declared.index_kind.IndexKind.TheVariants.{Gb18030Ranges}
use Rattle.encoding_front.specs.Encodings.{AreThere, HasLabel, IsReady, needs_of, output_encoding_of}
use Rattle.encoding_front.specs.declared.encoding.Encoding.{Encoding}
use Rattle.encoding_index.specs.IndexText.{memory_fault, text_list, text_rows}
use Rattle.encoding_index.specs.declared.fault.IndexFault.{IndexFault}
use Rattle.encoding_index.specs.declared.fault.LoadFault.{LoadFault}
use Rattle.encoding_index.specs.declared.fault.LoadFault.TheVariants.{Text, Table}
use Rattle.encoding_index.specs.Loads.{KeepsOtherKinds, Loads, load_fault, table_fault, text_fault}
use Rattle.recode.specs.IndexFaults.{AddsOnly}
use Rattle.recode.specs.Program.{AddsFromFiles, AreKept, AreOfFiles, CanHold, FileTexts, FileTold, IsOfFile, IsSameIndex, NeedAnIndex}
use Rattle.recode_words.specs.declared.words.Words.{Words}
use Rattle.recode.specs.laws.KeptIndexes.{has_still}

pub loaded_there : (new : IndexLists) (kind : IndexKind) (text : List ℕ) → Loads new kind text → has new kind ≡ true
loaded_there new kind text h = elim (cases_Bool (is_ranges kind)) [
  | inl ranges ↦ rw ranges (ap is_some (rw ranges at h))
  | inr flat ↦ rw flat (ap is_some (rw flat at h))
]

-- the ranges are of one kind
ranges_are_one : (k : IndexKind) → is_ranges k ≡ true → k ≡ Gb18030Ranges
ranges_are_one Gb18030Ranges h = refl
ranges_are_one _ h = cc

-- the index of another kind stays as it is
stays : (old new : IndexLists) (kind k : IndexKind) → k ≢ kind → KeepsOtherKinds old new kind → IsSameIndex old new k
stays old new kind k apart keeps = elim (cases_Bool (is_ranges k)) [
  | inl is ↦ rw is (keeps.1 (false_from_ne_true (is_ranges kind) (λ yes. apart (ranges_are_one k is ∙ sym (ranges_are_one kind yes)))))
  | inr not ↦ rw not (keeps.0 k apart)
]

same_twice : (b : Bool) (rows rows' rows'' : Option (List (ℕ × ℕ))) (flat flat' flat'' : Option (List ℕ)) → MatchBool b (rows' ≡ rows) (flat' ≡ flat) → MatchBool b (rows'' ≡ rows') (flat'' ≡ flat') → MatchBool b (rows'' ≡ rows) (flat'' ≡ flat)
same_twice true rows rows' rows'' flat flat' flat'' first then_ = then_ ∙ first
same_twice false rows rows' rows'' flat flat' flat'' first then_ = then_ ∙ first

loaded_still : (b : Bool) (rows rows' : Option (List (ℕ × ℕ))) (flat flat' : Option (List ℕ)) (r : List (ℕ × ℕ)) (f : List ℕ) → MatchBool b (rows' ≡ rows) (flat' ≡ flat) → MatchBool b (rows ≡ Some r) (flat ≡ Some f) → MatchBool b (rows' ≡ Some r) (flat' ≡ Some f)
loaded_still true rows rows' flat flat' r f same was = same ∙ was
loaded_still false rows rows' flat flat' r f same was = same ∙ was

-- nothing is both there and not there
not_both : {X : Type 0} (b : Bool) → b ≡ true → b ≡ false → X
not_both b is not = cc

-- what two calls keep
lost_nowhere : (old mid new : IndexLists) → AreKept old mid → AreKept mid new → AreKept old new
lost_nowhere old mid new first then_ kind was =
    same_twice (is_ranges kind) _ _ _ _ _ _ (first kind was) (then_ kind (has_still old mid kind (first kind was) ∙ was))

load_keeps : (old new : IndexLists) (kind : IndexKind) → has old kind ≡ false → KeepsOtherKinds old new kind → AreKept old new
load_keeps old new kind lacking keeps k was = elim (same_or_apart k kind) [
  | inl same ↦ not_both (has old k) was (rw same lacking)
  | inr apart ↦ stays old new kind k apart keeps
]

pub there_more : (t : IndexLists) (kinds : List IndexKind) (kind : IndexKind) → AreThere t kinds → has t kind ≡ true → AreThere t (kinds ++ kind ∷ [])
there_more t [] kind there this = (this, tt)
there_more t (k ∷ ks) kind there this = (there.0, there_more t ks kind there.1 this)

-- if all are there, so is each
pub there_at : (t : IndexLists) (kinds : List IndexKind) (i : ℕ) → i < length kinds → AreThere t kinds → has t (get_or kinds i IndexKind.Ibm866) ≡ true
there_at t [] i within there = absurd (omega arith)
there_at t (k ∷ ks) zero within there = there.0
there_at t (k ∷ ks) (suc i) within there = there_at t ks i (omega arith) there.1

both_empty : (xs ys : List IndexKind) → xs ++ ys ≡ [] → (xs ≡ []) × (ys ≡ [])
both_empty [] ys h = (refl, h)
both_empty (x ∷ xs) ys h = cc

none_lack : (t : IndexLists) (kinds : List IndexKind) → kinds ≡ [] → AreThere t kinds
none_lack t kinds none = subst (AreThere t) (sym none) tt

-- a source that is left alone if all indexes are there is so if none is needed
pub is_alone : {S : Type 0} (old new : S) (w : Words) (t : IndexLists) (from to : Encoding) (kinds : List IndexKind) → kinds ≡ needs_of from ++ needs_of (output_encoding_of to)
    → HasLabel from w.from.now → HasLabel to w.to.now → (IsReady t from → IsReady t (output_encoding_of to) → new ≡ old) → (new ≡ old) ⊎ NeedAnIndex w
is_alone old new w t from to [] is from_label to_label once =
    let none = both_empty (needs_of from) (needs_of (output_encoding_of to)) (sym is) in
    inl (once (none_lack t (needs_of from) none.0) (none_lack t (needs_of (output_encoding_of to)) none.1))
is_alone old new w t from to (kind ∷ kinds) is from_label to_label once =
    inr record { from = from; to = to; from_label = from_label; to_label = to_label; needed = λ none. some_kind kind kinds (is ∙ none) }
  where
    some_kind : (kind : IndexKind) (kinds : List IndexKind) → kind ∷ kinds ≡ [] → ⊥
    some_kind kind kinds none = cc

-- a load that came to its end met no fault of the text
no_fault : (text : Option IndexFault) (table : Option TableFault) → option_or (option_map Text text) (option_map Table table) ≡ None → text ≡ None
no_fault None table h = refl
no_fault (Some fault) table h = cc

ended : {T : Type 0} (fault : Option LoadFault) (result : Result T LoadFault) (value : T) (Y : Type 0) → result ≡ Ok value
    → MatchOption fault Y (λ f. (result ≡ Err f) ⊎ (result ≡ Err (Text memory_fault))) → fault ≡ None
ended None result value Y ok h = refl
ended (Some f) result value Y ok (inl h) = cc
ended (Some f) result value Y ok (inr h) = cc

pub load_met_no_fault : {T : Type 0} (old : IndexLists) (kind : IndexKind) (text : List ℕ) (result : Result T LoadFault) (value : T) (Y : Type 0) → result ≡ Ok value
    → MatchOption (load_fault old kind text) Y (λ f. (result ≡ Err f) ⊎ (result ≡ Err (Text memory_fault))) → text_fault kind text ≡ None
unfolding load_fault
load_met_no_fault old kind text result value Y ok h =
    no_fault (text_fault kind text) (table_fault old kind text) (ended (load_fault old kind text) result value Y ok h)

-- an index that is kept is of its file still
of_file_still : (old new : IndexLists) (kind : IndexKind) (told : FileTold) → IsSameIndex old new kind → IsOfFile old kind told → IsOfFile new kind told
of_file_still old new kind told same was = record {
  text = was.text;
  known = was.known;
  faultless = was.faultless;
  loads = loaded_still (is_ranges kind) _ _ _ _ (text_rows was.text) (text_list (index_size kind) was.text) same was.loads;
}

pub load_adds : (holds holds' : FileTexts) (dir : List ℕ) (old new : IndexLists) (kind : IndexKind) (text : List ℕ)
    → ((d f : List ℕ) → holds' d f ≡ holds d f) → CanHold (holds dir (file_name_of kind)) text → text_fault kind text ≡ None → has old kind ≡ false → Loads new kind text
    → KeepsOtherKinds old new kind → AddsFromFiles holds holds' dir old new
load_adds holds holds' dir old new kind text same told faultless lacking loads keeps = record {
  same = same;
  kept = load_keeps old new kind lacking keeps;
  added = λ k not now. elim (same_or_apart k kind) [
    | inl this ↦ rw this record { text = text; known = told; faultless = faultless; loads = loads }
    | inr apart ↦ not_both (has new k) now (has_still old new k (stays old new kind k apart keeps) ∙ not)
  ];
}

pub adds_more : (a b c : FileTexts) (dir : List ℕ) (old mid new : IndexLists) → AddsFromFiles a b dir old mid → AddsFromFiles b c dir mid new → AddsFromFiles a c dir old new
adds_more a b c dir old mid new first then_ = record {
  same = λ d f. then_.same d f ∙ first.same d f;
  kept = lost_nowhere old mid new first.kept then_.kept;
  added = λ kind not now. elim (cases_Bool (has mid kind)) [
    | inl by_then ↦ of_file_still mid new kind (a dir (file_name_of kind)) (then_.kept kind by_then) (first.added kind not by_then)
    | inr not_yet ↦ rw (first.same dir (file_name_of kind)) at (then_.added kind not_yet now)
  ];
}

-- if all indexes were of their files, all are
pub of_files_still : (holds holds' : FileTexts) (dir : List ℕ) (old new : IndexLists) → AddsFromFiles holds holds' dir old new → AreOfFiles holds dir old → AreOfFiles holds dir new
of_files_still holds holds' dir old new adds were kind now = elim (cases_Bool (has old kind)) [
  | inl was ↦ of_file_still old new kind (holds dir (file_name_of kind)) (adds.kept kind was) (were kind was)
  | inr not ↦ adds.added kind not now
]

-- there is no index yet
none_there : (b : Bool) (rows : Option (List (ℕ × ℕ))) (flat : Option (List ℕ)) → rows ≡ None → flat ≡ None → (if b then is_some rows else is_some flat) ≡ true → ⊥
none_there true rows flat no_rows no_flat now = cc
none_there false rows flat no_rows no_flat now = cc

pub adds_to_none : (holds : FileTexts) (dir : List ℕ) (tables : IndexLists) → ((kind : IndexKind) → tables.flats kind ≡ None) → tables.rows ≡ None → AreOfFiles holds dir tables
adds_to_none holds dir tables flats rows kind now = absurd (none_there (is_ranges kind) tables.rows (tables.flats kind) rows (flats kind) now)

-- what is put there by a load is of its kind
pub load_adds_only : (old new : IndexLists) (kind : IndexKind) → KeepsOtherKinds old new kind → AddsOnly old new (kind ∷ [])
load_adds_only old new kind keeps k now = elim (same_or_apart k kind) [
  | inl same ↦ inr (0, omega arith, sym same)
  | inr apart ↦ inl (sym (has_still old new k (stays old new kind k apart keeps)) ∙ now)
]

-- what two calls put there
pub adds_only_more : (old mid new : IndexLists) (kinds more : List IndexKind) → AddsOnly old mid kinds → AddsOnly mid new more → AddsOnly old new (kinds ++ more)
adds_only_more old mid new kinds more first then_ k now = elim (then_ k now) [
  | inr this ↦ inr (Contains-append_right kinds more k this)
  | inl was ↦ elim (first k was) [
    | inr this ↦ inr (Contains-append_left kinds more k this)
    | inl before ↦ inl before
  ]
]

-- the first of some kinds are some of the kinds
pub adds_first : (old new : IndexLists) (n : ℕ) (kinds : List IndexKind) → AddsOnly old new (take n kinds) → AddsOnly old new kinds
adds_first old new n kinds h k now = elim (h k now) [
  | inl was ↦ inl was
  | inr this ↦ inr (rw (← take-append-drop n kinds) (Contains-append_left (take n kinds) (drop n kinds) k this))
]
