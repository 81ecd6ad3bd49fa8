-- Lemmas about the definitions of `specs/`. Nothing here has to be read to trust a claim.
pub mod Outcomes
pub mod RowsLeft
pub mod RowStarts
pub mod Digits
pub mod Inserts
