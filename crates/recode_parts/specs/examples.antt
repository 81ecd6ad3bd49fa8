-- Worked rows: what the definitions say of values, by `refl`.
pub mod Fault
pub mod Joins
pub mod Summaries
