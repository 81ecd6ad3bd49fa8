-- Worked rows: what the definitions say of values, by `refl`.
pub mod Entries
pub mod Fits
pub mod Fates
pub mod Findings
pub mod Stops
pub mod Places
