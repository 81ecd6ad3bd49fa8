-- Worked index texts, and wrong outcomes of `read_index`, `read_ranges` and `load`.
use Rattle.std.specs.Prelude.{◌≡◌, ◌≢◌, ◌⊎◌, All, ℕ, List, [], ◌∷◌, ◌++◌, Option, Some, None, Result, Ok, Err, IfErr, IfOk, MatchOption, OnErr, codes, refl, map, replicate}
use Rattle.std.proofs.Common.{zero, suc, sym, ◌∙◌, ap, arith, inl, inr}
use Rattle.encoding_index.specs.IndexLine.{is_skipped, row_in}
use Rattle.encoding_index.specs.IndexText.{row_fault, first_fault, rows_before_fault, text_rows, text_list, range_pointer_end, memory_fault}
use Rattle.encoding_index.specs.ListLaws.{IsListOf}
use Rattle.encoding_index.specs.declared.fault.IndexFault.{IndexFault}
use Rattle.encoding_index.specs.declared.fault.IndexFaultKind.{IndexFaultKind}
use Rattle.encoding_index.specs.declared.fault.IndexFaultKind.TheVariants.{Row, Order, Pointer, Memory}
use Rattle.encoding_index.specs.Loads.{KeepsOtherKinds, Loads, WantsMemory, pointers_of, load_fault}
use Rattle.encoding_tables.specs.IndexLists.{IndexLists}
use Rattle.encoding_tables.specs.examples.IndexLists.{alone, no_flats}
use Rattle.encoding_index.specs.declared.fault.LoadFault.{LoadFault}
use Rattle.encoding_tables.specs.declared.index_kind.IndexKind.TheVariants.{Ibm866, Big5, EucKr, Gb18030, Gb18030Ranges, Jis0208, Jis0212, Iso2022JpKatakana}
use Rattle.encoding_tables.specs.declared.table_fault.TableFault.TheVariants.{Entry, Reserved, Present, Ranges}

abbrev fault_at : ℕ → IndexFaultKind → Option IndexFault
fault_at number kind = Some (record { line = number; kind = kind })

equal_pointers : first_fault 128 (codes "0\t0x0080\n0\t0x0081") ≡ fault_at 2 Order
unfolding is_skipped row_in row_fault
equal_pointers = refl

two_digits : first_fault 128 (codes "0\t0x80") ≡ fault_at 1 Row
unfolding is_skipped row_in row_fault
two_digits = refl

past_the_end : first_fault 128 (codes "128\t0x0080") ≡ fault_at 1 Pointer
unfolding is_skipped row_in row_fault
past_the_end = refl

the_first_of_two_faults : first_fault 128 (codes "#\r\n\n1\t0x0080\n0\t0x0080\n200\t0x0080") ≡ fault_at 4 Order
unfolding is_skipped row_in row_fault
the_first_of_two_faults = refl

order_before_pointer : first_fault 4 (codes "3\t0x0080\n2\t0x0080\n") ≡ fault_at 2 Order
unfolding is_skipped row_in row_fault
order_before_pointer = refl

carriage_return_alone : first_fault 128 (codes "0\t0x0080\r1\t0x0081") ≡ fault_at 1 Row
unfolding is_skipped row_in row_fault
carriage_return_alone = refl

-- one byte order mark is skipped: EF BB BF
second_mark : first_fault 128 (0xEF ∷ 0xBB ∷ 0xBF ∷ 0xEF ∷ 0xBB ∷ 0xBF ∷ []) ≡ fault_at 1 Row
unfolding is_skipped row_in row_fault
second_mark = refl

marked : List ℕ
marked = 0xEF ∷ 0xBB ∷ 0xBF ∷ codes "# x\n\n  0\t0x00C0\tA\r\n3\t0x00FF"

marked_has_no_fault : first_fault 4 marked ≡ None
unfolding is_skipped row_in row_fault marked
marked_has_no_fault = refl

marked_rows : text_rows marked ≡ (0, 0xC0) ∷ (3, 0xFF) ∷ []
unfolding row_in marked
marked_rows = refl

marked_list : text_list 4 marked ≡ 0xC0 ∷ 0 ∷ 0 ∷ 0xFF ∷ []
unfolding row_in marked
marked_list = refl

nothing : text_list 3 [] ≡ 0 ∷ 0 ∷ 0 ∷ []
nothing = refl

-- another mark, or a prefix of this one, is no mark
other_marks : map (λ (m : List ℕ). first_fault 128 (m ++ codes "#")) ([] ∷ (0xEF ∷ 0xBB ∷ 0xBF ∷ []) ∷ (0xEF ∷ 0xBB ∷ []) ∷ (0xEF ∷ 0xBB ∷ 0xBE ∷ []) ∷ (0xEF ∷ 0xBA ∷ 0xBF ∷ []) ∷ (0xFE ∷ 0xFF ∷ []) ∷ [])
    ≡ None ∷ None ∷ fault_at 1 Row ∷ fault_at 1 Row ∷ fault_at 1 Row ∷ fault_at 1 Row ∷ []
unfolding is_skipped row_in row_fault
other_marks = refl

-- a text of the gb18030 ranges: pointers below 1237576 are right
ranges : List ℕ
ranges = codes "# gb18030 ranges\n0\t0x0080\n36\t0x00A5\n189000\t0x10000\n1237575\t0x10FFFF\n"

ranges_have_no_fault : first_fault range_pointer_end ranges ≡ None
unfolding is_skipped row_in row_fault ranges
ranges_have_no_fault = refl

ranges_rows : text_rows ranges ≡ (0, 0x80) ∷ (36, 0xA5) ∷ (189000, 0x10000) ∷ (1237575, 0x10FFFF) ∷ []
unfolding row_in ranges
ranges_rows = refl

past_the_ranges : first_fault range_pointer_end (codes "1237576\t0x0080") ≡ fault_at 1 Pointer
unfolding is_skipped row_in row_fault
past_the_ranges = refl

-- lines that are skipped are counted
skipped_lines : first_fault 128 (codes "#\n\n128\t0x0080") ≡ fault_at 3 Pointer
unfolding is_skipped row_in row_fault
skipped_lines = refl

last_pointer : first_fault 128 (codes "127\t0x0080") ≡ None
unfolding is_skipped row_in row_fault
last_pointer = refl

-- a line that breaks off, after a whole one
no_tab : first_fault 128 (codes "0\t0x0080\n1 0x0081") ≡ fault_at 2 Row
unfolding is_skipped row_in row_fault
no_tab = refl

-- the rows before the first faulty line: of a text with no rows, of texts whose first row is faulty or whose first line
-- is no row, of texts with a good row and then a faulty one, and of one with no fault
no_rows_come_first : map (λ (text : List ℕ). rows_before_fault 128 text) ([] ∷ codes "#\n\n" ∷ codes "128\t0x0080\n0\t0x0081" ∷ codes "#\n0 0x0080\n1\t0x0081" ∷ [])
    ≡ [] ∷ [] ∷ [] ∷ [] ∷ []
unfolding rows_before_fault is_skipped row_in row_fault
no_rows_come_first = refl

one_row_comes_first : map (λ (text : List ℕ). rows_before_fault 128 text) (codes "1\t0x0080\n0\t0x0081\n2\t0x0082" ∷ codes "#\n1\t0x0080\n\n128\t0x0081\n" ∷ [])
    ≡ ((1, 0x80) ∷ []) ∷ ((1, 0x80) ∷ []) ∷ []
unfolding rows_before_fault is_skipped row_in row_fault
one_row_comes_first = refl

all_rows_come_first : rows_before_fault 4 marked ≡ (0, 0xC0) ∷ (3, 0xFF) ∷ []
unfolding rows_before_fault is_skipped row_in row_fault marked
all_rows_come_first = refl

-- out of memory has no line
no_line : memory_fault ≡ record { line = 0; kind = Memory }
no_line = refl

-- how many pointers the texts of each kind of index can name
sizes : map pointers_of (Ibm866 ∷ Big5 ∷ EucKr ∷ Gb18030 ∷ Gb18030Ranges ∷ Jis0208 ∷ Jis0212 ∷ Iso2022JpKatakana ∷ [])
    ≡ 128 ∷ 19782 ∷ 23940 ∷ 23940 ∷ 1237576 ∷ 11280 ∷ 8836 ∷ 63 ∷ []
sizes = refl

-- what a load returns first: the fault of the text, then that of the tables
unfoldable empty_tables : IndexLists
empty_tables = record { flats = no_flats; rows = None }

unfoldable with_ibm866 : IndexLists
with_ibm866 = record { flats = alone Ibm866 (replicate 128 0); rows = Some [] }

ascii_entry : load_fault empty_tables Ibm866 (codes "0\t0x0041") ≡ Some (LoadFault.Table (Entry 0))
unfolding load_fault is_skipped row_in row_fault empty_tables
ascii_entry = refl

reserved_pointer : load_fault empty_tables Jis0208 (codes "8836\t0x4E00") ≡ Some (LoadFault.Table (Reserved 8836))
unfolding load_fault is_skipped row_in row_fault empty_tables
reserved_pointer = refl

good_load : load_fault empty_tables Ibm866 (codes "0\t0x0410") ≡ None
unfolding load_fault is_skipped row_in row_fault empty_tables
good_load = refl

second_load : load_fault with_ibm866 Ibm866 (codes "0\t0x0410") ≡ Some (LoadFault.Table Present)
unfolding load_fault is_skipped row_in row_fault with_ibm866
second_load = refl

broken_second_load : load_fault with_ibm866 Ibm866 (codes "0\t0x41") ≡ Some (LoadFault.Text (record { line = 1; kind = Row }))
unfolding load_fault is_skipped row_in row_fault with_ibm866
broken_second_load = refl

-- ranges: the second row gives a value that an earlier one has; then one that is there
same_value_twice : load_fault empty_tables Gb18030Ranges (codes "0\t0x0080\n36\t0x0080") ≡ Some (LoadFault.Table (Ranges 1))
unfolding load_fault is_skipped row_in row_fault empty_tables
same_value_twice = refl

second_ranges : load_fault with_ibm866 Gb18030Ranges (codes "0\t0x0080") ≡ Some (LoadFault.Table Present)
unfolding load_fault is_skipped row_in row_fault with_ibm866
second_ranges = refl

-- what `read_index` returns for a text of a single-byte index (clauses `list` and `fault`)
abbrev Reads : List ℕ → Result (List ℕ) IndexFault → Type 0
Reads text result = IfOk result (λ list. (first_fault 128 text ≡ None) × (list ≡ text_list 128 text))
    × IfErr result (λ fault. (first_fault 128 text ≡ Some fault) ⊎ (fault ≡ memory_fault))

-- A pointer that stands twice is a fault: any list is refuted, whichever row would win.
pointer_twice_is_no_list : (list : List ℕ) → Reads (codes "0\t0x0080\n0\t0x0081") (Ok list) → ⊥
unfolding is_skipped row_in row_fault
pointer_twice_is_no_list list reads = let none = reads.0.0 in cc

-- A line that is no row is not skipped: the list of the other rows is refuted.
broken_line_is_not_skipped : (list : List ℕ) → Reads (codes "0\t0x80\n1\t0x0081") (Ok list) → ⊥
unfolding is_skipped row_in row_fault
broken_line_is_not_skipped list reads = let none = reads.0.0 in cc

line_of : (f g : IndexFault) → Some f ≡ Some g → f.line ≡ g.line
line_of f g same = let is : f ≡ g = cc in ap (λ (h : IndexFault). h.line) is

-- A text with no fault is refused for want of memory alone: a line that is named is refuted.
right_text : first_fault 128 (codes "0\t0x0080") ≡ None
unfolding is_skipped row_in row_fault
right_text = refl

right_text_is_not_refused : Reads (codes "0\t0x0080") (Err (record { line = 1; kind = Row })) → ⊥
right_text_is_not_refused (ok, inl is) = let some : None ≡ fault_at 1 Row = sym right_text ∙ is in cc
right_text_is_not_refused (ok, inr is) = omega (arith, ap (λ (h : IndexFault). h.line) is)

-- The fault that is named is the first: the second is refuted.
two_faults : first_fault 128 (codes "0\t0x80\n128\t0x0081") ≡ fault_at 1 Row
unfolding is_skipped row_in row_fault
two_faults = refl

second_fault_is_not_named : Reads (codes "0\t0x80\n128\t0x0081") (Err (record { line = 2; kind = Pointer })) → ⊥
second_fault_is_not_named (ok, inl is) = omega (arith, line_of _ _ (sym two_faults ∙ is))
second_fault_is_not_named (ok, inr is) = omega (arith, ap (λ (h : IndexFault). h.line) is)

-- The list of some rows has each row's code point: of two rows with one pointer the last does not win. It has 0
-- elsewhere: an entry that no row names is refuted.
last_row_does_not_win : IsListOf 2 ((0, 0x80) ∷ (0, 0x81) ∷ []) (0x81 ∷ 0 ∷ []) → ⊥
last_row_does_not_win list = omega (arith, (list.mapped 0 (0, 0) (omega arith)).1)

no_row_at_1 : All (λ (row : ℕ × ℕ). row.0 ≢ 1) ((0, 0x80) ∷ [])
no_row_at_1 zero d less same = omega (arith, same)
no_row_at_1 (suc k) d less same = absurd (omega (arith, less))

no_entry_is_made_up : IsListOf 2 ((0, 0x80) ∷ []) (0x80 ∷ 0x81 ∷ []) → ⊥
no_entry_is_made_up list = omega (arith, list.unmapped 1 no_row_at_1)

-- what `load` returns, by the fault that there is (clause `fault`)
abbrev LoadReturns : Option LoadFault → Result (Unit {0}) LoadFault → Type 0
LoadReturns fault result = MatchOption fault ((result ≡ Ok tt) ⊎ WantsMemory result)
    (λ f. (result ≡ Err f) ⊎ (result ≡ Err (LoadFault.Text memory_fault)))

-- A list with an ASCII character is not loaded: `Ok` is refuted.
ascii_is_not_loaded : LoadReturns (load_fault empty_tables Ibm866 (codes "0\t0x0041")) (Ok tt) → ⊥
unfolding load_fault is_skipped row_in row_fault empty_tables
ascii_is_not_loaded (inl is) = cc
ascii_is_not_loaded (inr is) = cc

-- A right text is loaded, or memory was refused: another fault is refuted.
right_text_is_loaded : LoadReturns (load_fault empty_tables Ibm866 (codes "0\t0x0410")) (Err (LoadFault.Table Present)) → ⊥
unfolding load_fault is_skipped row_in row_fault empty_tables
right_text_is_loaded (inl is) = cc
right_text_is_loaded (inr (inl is)) = cc
right_text_is_loaded (inr (inr is)) = cc

-- A load that fails changes nothing: tables that lost their ranges are refuted (clause `unchanged`).
failed_load_changes_nothing : (f : LoadFault) → OnErr {T = Unit {0}} (Err f) (record with_ibm866 { rows = None } ≡ with_ibm866) → ⊥
unfolding with_ibm866
failed_load_changes_nothing f same = let rows = ap (λ (t : IndexLists). t.rows) same in cc

-- A load of one index leaves the others: tables that lost another list are refuted.
other_indexes_stay : KeepsOtherKinds with_ibm866 empty_tables Big5 → ⊥
unfolding with_ibm866 empty_tables
other_indexes_stay keeps = let list = keeps.0 Ibm866 (λ e. cc) in cc

-- A list is loaded with each row at its pointer: one that is moved by one is refuted.
moved_list_is_not_loaded : Loads (record { flats = alone Ibm866 (0 ∷ 0x410 ∷ replicate 126 0); rows = None }) Ibm866 (codes "0\t0x0410") → ⊥
unfolding row_in
moved_list_is_not_loaded loaded = cc
