pub mod SearchLemmas
mod RangeLemmas
mod RowNameLemmas
mod SingleByteLemmas
pub mod ReplacementLemmas
pub mod Utf16Lemmas
pub mod Utf16RunLemmas
pub mod ReplacementLengthLemmas
mod KindLemmas
pub mod RowLemmas
mod RowFaultLemmas
pub mod CountLemmas
