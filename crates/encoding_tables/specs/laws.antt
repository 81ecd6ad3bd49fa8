-- Lemmas about the definitions of `specs/`. Nothing here has to be read to trust a claim.
pub mod EachByte
pub mod EachByteReadBack
pub mod Kinds
pub mod OptionCases
pub mod Parts
pub mod Pointers
pub mod Ranges
pub mod RangeRuns
pub mod Replacement
pub mod SingleByte
pub mod SingleByteReadBack
pub mod SingleByteTables
pub mod TableFaults
pub mod UserDefined
pub mod Utf16Decide
pub mod Utf16
