-- Worked rows: what the definitions of `specs/` come to on inputs that a reader can work by hand.
pub mod EntryCounts
pub mod FileNames
pub mod IndexLists
pub mod Kinds
pub mod Lookups
pub mod PackedLists
pub mod PackedRows
pub mod RangeFaults
pub mod Ranges
pub mod Replacement
pub mod SingleByte
pub mod Slots
pub mod SortedRows
pub mod TableFaults
pub mod UserDefined
pub mod Utf16
