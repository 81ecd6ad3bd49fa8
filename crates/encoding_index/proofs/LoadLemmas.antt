-- What a `?` returns. What a load returns.
use Rattle.std.proofs.Common.{◌≡◌, Bool, true, Result, Ok, Err, sym, ap, subst, ◌⊎◌, inl, inr, ℕ, false, List, Option, None, Some, refl, ◌∙◌}
use Rattle.std.specs.Result.{IfErr, IsErrAnd}
use Rattle.std.specs.Option.{MatchOption, option_map, option_or}
use Rattle.encoding_tables.specs.Kinds.{index_size, is_ranges}
use Rattle.encoding_tables.specs.IndexLists.{IndexLists, has}
use Rattle.encoding_tables.specs.PackedRows.{flat_list, PointersRise, PointersAreBelow}
use Rattle.encoding_tables.specs.TableFaults.{flat_fault, range_fault}
use Rattle.std.specs.Prelude.{if◌then◌else◌, is_some}
use Rattle.encoding_tables.specs.declared.index_kind.IndexKind.{IndexKind}
use Rattle.encoding_tables.specs.declared.table_fault.TableFault.{TableFault}
use Rattle.encoding_tables.specs.declared.table_fault.TableFault.TheVariants.{Memory}
use Rattle.encoding_index.specs.IndexText.{text_rows, memory_fault}
use Rattle.encoding_index.specs.Loads.{pointers_of, text_fault, table_fault, load_fault, WantsMemory}
use Rattle.encoding_index.specs.laws.Inserts.{rows_fault}
use Rattle.encoding_index.proofs.RowLemmas.{read_rows_rise, read_rows_are_below}
use Rattle.encoding_index.specs.declared.fault.IndexFault.{IndexFault}
use Rattle.encoding_index.specs.declared.fault.LoadFault.{LoadFault}
use Rattle.encoding_index.specs.declared.fault.LoadFault.TheVariants.{Text, Table}

pub IfErr-from_residual : {T E : Type 0} (r : Result T E) (e : E) (P : E → Type 0) → IsErrAnd r (λ x. x ≡ e) → P e → IfErr r P
IfErr-from_residual (Ok x) e P same p = absurd same
IfErr-from_residual (Err x) e P same p = subst P (sym same) p

pub err_is : {T E : Type 0} (r : Result T E) (e : E) → IsErrAnd r (λ x. x ≡ e) → r ≡ Err e
err_is (Ok x) e same = absurd same
err_is (Err x) e same = ap Err same

-- What a load returns.

abbrev Done : Type 0
Done = Unit {0}

-- the clause of `load`
abbrev pub Answers : Option LoadFault → Result Done LoadFault → Type 0
Answers fault result = MatchOption fault ((result ≡ Ok tt) ⊎ WantsMemory result) (λ f. (result ≡ Err f) ⊎ (result ≡ Err (Text memory_fault)))

answers_memory : (fault : Option LoadFault) (result : Result Done LoadFault) → result ≡ Err (Text memory_fault) → Answers fault result
answers_memory None result refused = inr (inl refused)
answers_memory (Some f) result refused = inr refused

load_fault-text : (tables : IndexLists) (kind : IndexKind) (text : List ℕ) (fault : Option IndexFault) → text_fault kind text ≡ fault
    → load_fault tables kind text ≡ option_or (option_map Text fault) (option_map Table (table_fault tables kind text))
unfolding load_fault
load_fault-text tables kind text fault found = ap (λ o. option_or (option_map Text o) (option_map Table (table_fault tables kind text))) found

-- the text was not read
pub answers_text : (tables : IndexLists) (kind : IndexKind) (text : List ℕ) (fault : IndexFault) (result : Result Done LoadFault)
    → (text_fault kind text ≡ Some fault) ⊎ (fault ≡ memory_fault) → IsErrAnd result (λ x. x ≡ Text fault) → Answers (load_fault tables kind text) result
answers_text tables kind text fault result (inl found) told =
    subst (λ o. Answers o result) (sym (load_fault-text tables kind text (Some fault) found)) (inl (err_is result (Text fault) told))
answers_text tables kind text fault result (inr refused) told =
    answers_memory (load_fault tables kind text) result (err_is result (Text fault) told ∙ ap (λ f. Err (Text f)) refused)

-- what `load` returns for what the tables returned
abbrev pub Follows : Result Done TableFault → Result Done LoadFault → Type 0
Follows (Ok done) result = result ≡ Ok tt
Follows (Err fault) result = result ≡ Err (Table fault)

answers_insert : (fault : Option TableFault) (inserted : Result Done TableFault) (result : Result Done LoadFault)
    → MatchOption fault ((inserted ≡ Ok tt) ⊎ (inserted ≡ Err Memory)) (λ f. inserted ≡ Err f) → Follows inserted result → Answers (option_map Table fault) result
answers_insert None (Ok done) result told follows = inl follows
answers_insert None (Err fault) result (inl done) follows = absurd cc
answers_insert None (Err fault) result (inr refused) follows =
    let same : fault ≡ Memory = cc in
    inr (inr (follows ∙ ap (λ f. Err (Table f)) same))
answers_insert (Some f) (Ok done) result told follows = absurd cc
answers_insert (Some f) (Err fault) result told follows =
    let same : fault ≡ f = cc in
    inl (follows ∙ ap (λ f. Err (Table f)) same)

else_is : {A : Type 0} (b : Bool) (x y : A) → b ≡ false → (if◌then◌else◌ b x y) ≡ y
else_is true x y e = absurd cc
else_is false x y e = refl

-- the rows of a list are refused as the list
pub listed_fault : (tables : IndexLists) (kind : IndexKind) (rows : List (ℕ × ℕ)) → is_ranges kind ≡ false → rows_fault tables kind rows ≡ flat_fault (has tables kind) kind (flat_list (index_size kind) rows)
listed_fault tables kind rows listed = else_is (is_ranges kind) (range_fault (is_some tables.rows) rows) (flat_fault (has tables kind) kind (flat_list (index_size kind) rows)) listed

-- the text was read
pub answers_rows : (tables : IndexLists) (kind : IndexKind) (text : List ℕ) (rows : List (ℕ × ℕ)) (inserted : Result Done TableFault) (result : Result Done LoadFault)
    → text_fault kind text ≡ None → rows ≡ text_rows text
    → MatchOption (rows_fault tables kind rows) ((inserted ≡ Ok tt) ⊎ (inserted ≡ Err Memory)) (λ f. inserted ≡ Err f)
    → Follows inserted result
    → Answers (load_fault tables kind text) result
answers_rows tables kind text rows inserted result none same told follows =
    let fault : load_fault tables kind text ≡ option_map Table (rows_fault tables kind rows) = load_fault-text tables kind text None none ∙ ap (λ r. option_map Table (rows_fault tables kind r)) (sym same) in
    subst (λ o. Answers o result) (sym fault) (answers_insert (rows_fault tables kind rows) inserted result told follows)

-- the rows of a list, as the tables ask for them
listed_pointers : (kind : IndexKind) → is_ranges kind ≡ false → pointers_of kind ≡ index_size kind
listed_pointers kind listed = rw listed refl

pub read_rise : (kind : IndexKind) (text : List ℕ) (rows : List (ℕ × ℕ)) → text_fault kind text ≡ None → rows ≡ text_rows text → PointersRise rows
read_rise kind text rows none same = read_rows_rise (pointers_of kind) text rows none same

pub read_below : (kind : IndexKind) (text : List ℕ) (rows : List (ℕ × ℕ)) → text_fault kind text ≡ None → rows ≡ text_rows text → is_ranges kind ≡ false → PointersAreBelow (index_size kind) rows
read_below kind text rows none same listed = subst (λ size. PointersAreBelow size rows) (listed_pointers kind listed) (read_rows_are_below (pointers_of kind) text rows none same)
