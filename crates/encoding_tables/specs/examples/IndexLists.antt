-- Worked rows of `specs/IndexLists.antt`.
use Rattle.std.specs.Prelude.{◌≡◌, ℕ, true, false, List, [], ◌∷◌, ◌==◌, if◌then◌else◌, Option, None, Some, refl}
use Rattle.encoding_tables.specs.declared.index_kind.IndexKind.{IndexKind}
use Rattle.encoding_tables.specs.declared.index_kind.IndexKind.TheVariants.{Ibm866, Big5, Gb18030Ranges, Jis0208}
use Rattle.encoding_tables.specs.IndexLists.{AreAcceptedTables, IndexLists, has, index_entries, range_rows}
use Rattle.encoding_tables.specs.calls.Slots.{slot_of}

-- lists for examples: none, or of one kind alone
abbrev pub no_flats : IndexKind → Option (List ℕ)
no_flats kind = None

abbrev pub alone : IndexKind → List ℕ → IndexKind → Option (List ℕ)
alone kind flat other = if slot_of other == slot_of kind then Some flat else None

-- IBM866 and the ranges; the list is a short one for examples
abbrev two_indexes : IndexLists
two_indexes = record { flats = alone Ibm866 (0x410 ∷ []); rows = Some ((0, 0x80) ∷ []) }

ibm866_is_there : has two_indexes Ibm866 ≡ true
ibm866_is_there = refl

big5_is_not : has two_indexes Big5 ≡ false
big5_is_not = refl

ranges_are_there : has two_indexes Gb18030Ranges ≡ true
ranges_are_there = refl

entries_of_ibm866 : index_entries two_indexes Ibm866 ≡ 0x410 ∷ []
entries_of_ibm866 = refl

no_entries_of_jis0208 : index_entries two_indexes Jis0208 ≡ []
no_entries_of_jis0208 = refl

rows_of_ranges : range_rows two_indexes ≡ (0, 0x80) ∷ []
rows_of_ranges = refl

no_ranges : has (record { flats = no_flats; rows = None }) Gb18030Ranges ≡ false
no_ranges = refl

no_rows : range_rows (record { flats = no_flats; rows = None }) ≡ []
no_rows = refl

-- Tables with a list of another size are refuted.
short_list_is_not_accepted : AreAcceptedTables two_indexes → ⊥
short_list_is_not_accepted accepted = let none = accepted.0 Ibm866 in cc
