-- What calls and layers promise one another: a reader of the theorems need not read it.
pub mod Slots
pub mod PackedLists
pub mod SortedRows
pub mod EntryCounts
pub mod ReplacementModes
