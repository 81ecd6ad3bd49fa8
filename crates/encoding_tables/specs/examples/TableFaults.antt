-- Worked rows of `specs/TableFaults.antt` and `specs/Accepted.antt`, and wrong outcomes of the insertions of `Tables`.
use Rattle.std.specs.Prelude.{◌≡◌, ◌≢◌, ◌⊎◌, ℕ, [], ◌∷◌, ◌++◌, map, None, Some, Ok, Err, MatchOption, OnErr, Option, Result, replicate, true, false}
use Rattle.std.proofs.Common.{refl, arith, ap, inl, inr}
use Rattle.encoding_tables.specs.declared.index_kind.IndexKind.{IndexKind}
use Rattle.encoding_tables.specs.declared.index_kind.IndexKind.TheVariants.{Big5, EucKr, Ibm866, Jis0208, Jis0212, Windows1252}
use Rattle.encoding_tables.specs.declared.table_fault.TableFault.{TableFault}
use Rattle.encoding_tables.specs.declared.table_fault.TableFault.TheVariants.{Present, Size, Entry, Reserved, Ranges, Memory}
use Rattle.encoding_tables.specs.Accepted.{IsIndex}
use Rattle.encoding_tables.specs.IndexLists.{IndexLists}
use Rattle.encoding_tables.specs.examples.IndexLists.{no_flats, alone}
use Rattle.encoding_tables.specs.TableFaults.{is_entry_of, flat_fault, range_fault}

short : flat_fault false Windows1252 (replicate 127 0) ≡ Some Size
short = refl

nothing_mapped : flat_fault false Windows1252 (replicate 128 0) ≡ None
nothing_mapped = refl

repeated : flat_fault false Windows1252 (replicate 128 0xE9) ≡ None
repeated = refl

ascii : flat_fault false Windows1252 (0x41 ∷ replicate 127 0) ≡ Some (Entry 0)
ascii = refl

surrogate : flat_fault false Windows1252 (0 ∷ 0xD800 ∷ replicate 126 0) ≡ Some (Entry 1)
surrogate = refl

second_plane : is_entry_of Big5 0x2008A ≡ true
second_plane = refl

other_plane : is_entry_of Windows1252 0x2008A ≡ false
other_plane = refl

there_already : flat_fault true Windows1252 [] ≡ Some Present
there_already = refl

-- in every index: nothing, U+0080 to U+D7FF, and U+E000 to U+FFFF; no ASCII, no surrogate, and nothing above
ends_of_entries : map (is_entry_of Windows1252) (0 ∷ 1 ∷ 0x7F ∷ 0x80 ∷ 0xD7FF ∷ 0xD800 ∷ 0xDFFF ∷ 0xE000 ∷ 0xFFFF ∷ 0x10000 ∷ 0x20000 ∷ [])
    ≡ true ∷ false ∷ false ∷ true ∷ true ∷ false ∷ false ∷ true ∷ true ∷ false ∷ false ∷ []
ends_of_entries = refl

-- in that of Big5 plane 2 too, U+20000 to U+2FFFF, but neither plane 1 nor plane 3
ends_of_plane_two : map (is_entry_of Big5) (0xFFFF ∷ 0x10000 ∷ 0x1FFFF ∷ 0x20000 ∷ 0x2FFFF ∷ 0x30000 ∷ [])
    ≡ true ∷ false ∷ false ∷ true ∷ true ∷ false ∷ []
ends_of_plane_two = refl

-- the first entry that is refused is named
first_entry_is_named : flat_fault false Windows1252 (0x20AC ∷ 0 ∷ 0xD800 ∷ 0x41 ∷ replicate 124 0) ≡ Some (Entry 2)
first_entry_is_named = refl

last_entry : flat_fault false Windows1252 (replicate 127 0xE9 ++ (0x10000 ∷ [])) ≡ Some (Entry 127)
last_entry = refl

-- one entry too many
long : flat_fault false Windows1252 (replicate 129 0) ≡ Some Size
long = refl

-- a wrong size is named before a wrong entry
size_comes_first : flat_fault false Windows1252 (0x41 ∷ []) ≡ Some Size
size_comes_first = refl

-- plane 1 in the index of Big5, and a character of plane 2
big5_of_plane_one : flat_fault false Big5 (0x10000 ∷ replicate 19781 0) ≡ Some (Entry 0)
big5_of_plane_one = refl

big5_of_plane_two : flat_fault false Big5 (0x2008A ∷ replicate 19781 0) ≡ None
big5_of_plane_two = refl

-- 8836 to 10715 are the pointers at which Shift_JIS has end-user-defined characters: JIS X 0208 maps none of them
first_reserved_pointer : flat_fault false Jis0208 (replicate 8836 0 ++ (0x4E00 ∷ replicate 2443 0)) ≡ Some (Reserved 8836)
first_reserved_pointer = refl

last_reserved_pointer : flat_fault false Jis0208 (replicate 10715 0 ++ (0x4E00 ∷ replicate 564 0)) ≡ Some (Reserved 10715)
last_reserved_pointer = refl

-- the pointers beside them
before_reserved_pointers : flat_fault false Jis0208 (replicate 8835 0 ++ (0x4E00 ∷ replicate 2444 0)) ≡ None
before_reserved_pointers = refl

behind_reserved_pointers : flat_fault false Jis0208 (replicate 10716 0 ++ (0x4E00 ∷ replicate 563 0)) ≡ None
behind_reserved_pointers = refl

-- the first of two is named
first_reserved_is_named : flat_fault false Jis0208 (replicate 8838 0 ++ (0x4E00 ∷ 0x4E01 ∷ replicate 2440 0)) ≡ Some (Reserved 8838)
first_reserved_is_named = refl

-- a wrong entry is named before it, even if it stands after
entry_comes_first : flat_fault false Jis0208 (replicate 8836 0 ++ (0x4E00 ∷ (replicate 1879 0 ++ (0x41 ∷ replicate 563 0)))) ≡ Some (Entry 10716)
entry_comes_first = refl

-- in another index these pointers are as others
not_reserved_elsewhere : flat_fault false EucKr (replicate 8836 0 ++ (0x4E00 ∷ replicate 15103 0)) ≡ None
not_reserved_elsewhere = refl

last_of_jis0212 : flat_fault false Jis0212 (replicate 8835 0 ++ (0x4E00 ∷ [])) ≡ None
last_of_jis0212 = refl

-- of rows: there already, the row that is wrong, none
rows_there_already : range_fault true [] ≡ Some Present
rows_there_already = refl

wrong_row : range_fault false ((0, 0x80) ∷ (36, 0x80) ∷ []) ≡ Some (Ranges 1)
wrong_row = refl

no_rows : range_fault false [] ≡ None
no_rows = refl

-- what an insertion returns by the fault of what is handed in (clauses `fault` of `Tables`)
abbrev Returns : Option TableFault → Result (Unit {0}) TableFault → Type 0
Returns fault result = MatchOption fault ((result ≡ Ok tt) ⊎ (result ≡ Err Memory)) (λ f. result ≡ Err f)

-- A list that is too long is not inserted: `Ok` is refuted.
long_is_not_taken : Returns (flat_fault false Windows1252 (replicate 129 0)) (Ok tt) → ⊥
long_is_not_taken is = cc

-- The fault that is returned is the one that there is: `Size` of a list with a wrong entry alone is refuted.
other_fault_is_not_named : Returns (flat_fault false Windows1252 (0x41 ∷ replicate 127 0)) (Err Size) → ⊥
other_fault_is_not_named is = cc

-- Rows that give one value twice are not inserted as ranges: `Ok` is refuted.
same_value_is_not_taken : Returns (range_fault false ((0, 0x80) ∷ (36, 0x80) ∷ [])) (Ok tt) → ⊥
same_value_is_not_taken is = cc

-- A list with no fault is refused for want of memory alone: `Entry` is refuted.
right_list_is_not_refused : Returns (flat_fault false Windows1252 (replicate 128 0)) (Err (Entry 0)) → ⊥
right_list_is_not_refused (inl is) = cc
right_list_is_not_refused (inr is) = cc

-- tables with one index and the ranges, both of them short for these rows
abbrev old_tables : IndexLists
old_tables = record { flats = alone Ibm866 (0x410 ∷ []); rows = Some [] }

-- An insertion that fails changes nothing: tables that lost their ranges are refuted (clauses `unchanged`).
refusal_changes_nothing : OnErr {T = Unit {0}} (Err Size) (record old_tables { rows = None } ≡ old_tables) → ⊥
refusal_changes_nothing same = let rows = ap (λ (t : IndexLists). t.rows) same in cc

-- An insertion of one kind leaves the others: tables that lost another list are refuted (clauses `others`).
other_lists_stay : ((other : IndexKind) → other ≢ Windows1252 → no_flats other ≡ old_tables.flats other) → ⊥
other_lists_stay same = let list = same Ibm866 (λ e. cc) in cc

-- A list of another size, an ASCII character and an end-user-defined one in Shift_JIS are in no index.
long_is_no_index : IsIndex Windows1252 (replicate 129 0) → ⊥
long_is_no_index index = omega (arith, index.size)

ascii_is_in_no_index : IsIndex Windows1252 (0x41 ∷ replicate 127 0) → ⊥
ascii_is_in_no_index index = omega (arith, (index.entries 0 (λ e. cc)).high)

reserved_is_not_in_jis0208 : IsIndex Jis0208 (replicate 8836 0 ++ (0x4E00 ∷ replicate 2443 0)) → ⊥
reserved_is_not_in_jis0208 index = omega (arith, index.reserved refl 8836 (omega arith) (omega arith))
