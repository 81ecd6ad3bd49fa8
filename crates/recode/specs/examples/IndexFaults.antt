-- Worked rows: why an index is not there, and wrong reasons.
use Rattle.std.specs.Prelude.{◌≡◌, ℕ, List, [], Option, Some, None, codes, refl}
use Rattle.std.specs.Option.{option_map}
use Rattle.std.proofs.Common.{Bor, arith, subst}
use Rattle.encoding_index.specs.IndexLine.{is_skipped, row_in}
use Rattle.encoding_index.specs.IndexText.{row_fault}
use Rattle.encoding_index.specs.Loads.{load_fault, table_fault, text_fault}
use Rattle.encoding_index.specs.declared.fault.IndexFaultKind.TheVariants.{Order, Row}
use Rattle.encoding_index.specs.declared.fault.LoadFault.{LoadFault}
use Rattle.encoding_index.specs.declared.fault.LoadFault.TheVariants.{Table, Text}
use Rattle.encoding_tables.specs.IndexLists.{IndexLists}
use Rattle.encoding_tables.specs.FileNames.{file_name_of}
use Rattle.encoding_tables.specs.declared.index_kind.IndexKind.TheVariants.{Ibm866, Jis0208}
use Rattle.encoding_tables.specs.declared.table_fault.TableFault.{TableFault}
use Rattle.recode.specs.IndexFaults.{IsStartFault, ReportsFault}
use Rattle.recode.specs.Program.{CanHold, IsOfFile}
use Rattle.recode.specs.declared.indexes.StartFault.{StartFault}

-- its third line has the pointer of the first again
repeated : List ℕ
repeated = codes "0\t0x3000\n\n0\t0x3001"

third_line : (t : IndexLists) (file : Bor (List ℕ)) → file.now ≡ codes "index-jis0208.txt" → IsStartFault t Jis0208 (Some (Some repeated)) (StartFault.Line file 3 Order)
unfolding load_fault is_skipped row_in row_fault repeated
third_line t file named = record { text = repeated; known = refl; fault = Text (record { line = 3; kind = Order }); loading = refl; reports = (named, refl, refl, λ h. cc) }

-- a file whose text is known is said to be missing
not_missing : (t : IndexLists) (file : Bor (List ℕ)) → IsStartFault t Jis0208 (Some (Some repeated)) (StartFault.Missing file) → ⊥
not_missing t file h = let known : Some repeated ≡ None = h.1 in cc

-- an absent file is missing
absent_is_missing : (t : IndexLists) (file : Bor (List ℕ)) → file.now ≡ codes "index-jis0208.txt" → IsStartFault t Jis0208 (Some None) (StartFault.Missing file)
absent_is_missing t file named = (named, refl)

-- no line of an absent file has a fault
absent_has_no_line : (t : IndexLists) (file : Bor (List ℕ)) → IsStartFault t Jis0208 (Some None) (StartFault.Line file 1 Row) → ⊥
absent_has_no_line t file h = let known : None ≡ Some h.text = h.known in cc

-- an absent file is not read as an empty one
absent_is_not_empty : CanHold (Some None) [] → ⊥
absent_is_not_empty h = cc

-- an absent file gives no index, not even that of an empty text
absent_gives_none : (t : IndexLists) → IsOfFile t Jis0208 (Some None) → ⊥
absent_gives_none t h = let known : None ≡ Some h.text = h.known in cc

-- the file of another index is said to be missing
not_another_file : (t : IndexLists) (file : Bor (List ℕ)) → file.now ≡ codes "index-big5.txt" → IsStartFault t Jis0208 None (StartFault.Missing file) → ⊥
not_another_file t file named h = let same : codes "index-big5.txt" ≡ codes "index-jis0208.txt" = rw (← named) h.0 in cc

-- an index is said to be loaded from a text with a fault
no_index : (t : IndexLists) → IsOfFile t Jis0208 (Some (Some repeated)) → ⊥
unfolding is_skipped row_in row_fault repeated
no_index t h =
    let known : Some repeated ≡ Some h.text = h.known in
    let same : h.text ≡ repeated = cc in
    let fault : text_fault Jis0208 repeated ≡ Some (record { line = 3; kind = Order }) = refl in
    let none : text_fault Jis0208 repeated ≡ None = subst (λ (text : List ℕ). text_fault Jis0208 text ≡ None) same h.faultless in
    cc

-- the fault is reported a line too early
second_line : (t : IndexLists) (file : Bor (List ℕ)) → IsStartFault t Jis0208 (Some (Some repeated)) (StartFault.Line file 2 Order) → ⊥
unfolding load_fault is_skipped row_in row_fault repeated
second_line t file h =
    let known : Some repeated ≡ Some h.text = h.known in
    let same : h.text ≡ repeated = cc in
    let loading : Some (Text (record { line = 3; kind = Order })) ≡ Some h.fault = subst (λ (text : List ℕ). load_fault t Jis0208 text ≡ Some h.fault) same h.loading in
    let fault : h.fault ≡ Text (record { line = 3; kind = Order }) = cc in
    let line : 2 ≡ 3 = (subst (λ (f : LoadFault). ReportsFault (file_name_of Jis0208) f (StartFault.Line file 2 Order)) fault h.reports).1 in
    absurd (omega (arith, line))

-- a text without a fault: U+0410 is the character of 80
unfoldable one_row : List ℕ
one_row = codes "0\t0x0410"

-- a fault of the tables is not reported as that of a line
of_the_tables : (fault : Option TableFault) (f : LoadFault) (file : Bor (List ℕ)) → option_map Table fault ≡ Some f → ReportsFault (file_name_of Ibm866) f (StartFault.Line file 1 Order) → ⊥
of_the_tables None f file is h = cc
of_the_tables (Some fault) f file is h =
    let same : f ≡ Table fault = cc in
    subst (λ (g : LoadFault). ReportsFault (file_name_of Ibm866) g (StartFault.Line file 1 Order)) same h

-- a text without a fault is said to have one
fault_of_a_good_text : (t : IndexLists) (file : Bor (List ℕ)) → IsStartFault t Ibm866 (Some (Some one_row)) (StartFault.Line file 1 Order) → ⊥
unfolding load_fault is_skipped row_in row_fault one_row
fault_of_a_good_text t file h =
    let known : Some one_row ≡ Some h.text = h.known in
    let same : h.text ≡ one_row = cc in
    of_the_tables (table_fault t Ibm866 one_row) h.fault file (subst (λ (text : List ℕ). load_fault t Ibm866 text ≡ Some h.fault) same h.loading) h.reports

-- no list is not a list
apart : (x : Option (List ℕ)) (list : List ℕ) → x ≡ None → x ≡ Some list → ⊥
apart x list none some = cc

-- the tables have no index, and it is said to be loaded
absent_index : (t : IndexLists) → t.flats Jis0208 ≡ None → IsOfFile t Jis0208 None → ⊥
absent_index t none h = apart (t.flats Jis0208) _ none h.loads
